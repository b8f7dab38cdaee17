-- What a row's command makes of the words is what the rules make of them.
use Rattle.std.proofs.Common.{◌≡◌, Bool, true, false, not, cond, ◌&&◌, ◌||◌, List, [], ◌∷◌, fold, take, drop, is_some, ◌==◌, option_map, Option, Some, None, refl, ap, ap₂, sym, subst, ◌∙◌, true≢false}
use Rattle.std.specs.Str.{bytes_eq}
use Rattle.clap.specs.Walk.{Row, Text, Walk, idle, nothing_held, finished, settled, walk, rows_after, with_default}
use Rattle.clap.specs.Simple.{App, Shape, entered, is_simple, matches_of, names_of}
use Rattle.clap.specs.declared.parser.matches.ArgMatches.{ArgMatches}
use Rattle.clap.specs.Kinds.{Kinds, or_else}
use Rattle.clap.specs.Faults.{built_fault, entered_fault, fault_of, level_fault, is_simple_and_free, settle_fault, walk_fault}
use Rattle.ct_words.specs.Table.{WordCommand, WordOption, takes_value}
use Rattle.ct_words.specs.Role.{name_len, ◌>>=◌}
use Rattle.ct_words.specs.Parts.{WordParts, are_distinct, parts_of}
use Rattle.ct_words.specs.Said.{told_of}
use Rattle.ct_words.specs.Items.{WordItem, place, flagged, valued, WordLook, bad, ends_options, flag_word, option_word, value_word, look_with, row_by, look_at, look_dashed, look_row, plain_word, item_joined, items_of, parts_with, has_single, is_single, is_end}
use Rattle.ct_words.specs.Command.{row_app}
use Rattle.ct_words.specs.Reading.{IsParsedAs, parts_read, rows_found, distinct, told_as}
use Rattle.ct_words.proofs.Items.{items-word, parts_items}
use Rattle.ct_words.proofs.Rules.{rules_built, shape_built, row_built, no_default_fault, no_check_fault, simple_row, free_row}
use Rattle.ct_words.proofs.Walks.{walk_at, fault_from, rows_from, Reads, walk_reads}
use Rattle.ct_words.proofs.Uses.{items_fault, AreNamed, or_else_nil}
use Rattle.ct_words.proofs.Readings.{items_read, items_differ, is_clean, clean_nil}

abbrev start : Walk
start = walk_at false idle [] None

-- the command has no subcommand
leaf_fault : (top : Shape) (words : List Text) → built_fault (record { top = top; subs = [] }) nothing_held words ≡ level_fault top [] nothing_held words false []
leaf_fault top words = go (walk top.rules [] nothing_held words).stopped
  where
    go : (stop : Option (Text × List Text))
        → level_fault top [] nothing_held words (is_some (entered (record { top = top; subs = [] }) stop)) (entered_fault (record { top = top; subs = [] }) stop) ≡ level_fault top [] nothing_held words false []
    go None = refl
    go (Some p) = refl

level_is : (name : Text) (options : List WordOption) (words : List Text) → level_fault (shape_built name options) [] nothing_held words false [] ≡ fault_from name options start words
level_is name options words =
    let end = (walk (rules_built options) [] nothing_held words).held in
    ap₂ (λ (d e : Kinds). or_else (walk_fault (shape_built name options) [] start words) (or_else (settle_fault (rules_built options) false end) (or_else d e)))
    (no_default_fault (settled (rules_built options) end).rows options) (no_check_fault name options (finished (rules_built options) end))
    ∙ ap (or_else (walk_fault (shape_built name options) [] start words)) (or_else_nil (settle_fault (rules_built options) false end))

fault_is : (name : Text) (options : List WordOption) (words : List Text) → fault_of (row_app name options) words ≡ fault_from name options start words
unfolding row_app
fault_is name options words =
    ap (λ (app : App). built_fault app nothing_held words) (row_built name options) ∙ (leaf_fault (shape_built name options) words ∙ level_is name options words)

matches_are : (name : Text) (options : List WordOption) (words : List Text) → matches_of (row_app name options) words ≡ fold with_default (rows_from options start words) (rules_built options)
unfolding row_app
matches_are name options words = ap (λ (app : App). rows_after app.top.rules (names_of app) words) (row_built name options)

-- ---- the words that the command takes

by_items : (options : List WordOption) (words : List Text) (items : Option (List WordItem)) → items_of options None words ≡ items → distinct (parts_of options None words) ≡ distinct (items >>= parts_with options)
by_items options words items is = ap distinct (parts_items options None words tt ∙ ap (λ list. list >>= parts_with options) is)

is_taken : (options : List WordOption) (items : List WordItem) → AreNamed items → items_fault items [] ≡ [] → parts_with options items ≡ distinct (parts_with options items)
is_taken options items named none = go (parts_with options items) refl
  where
    go : (parts : Option WordParts) → parts_with options items ≡ parts → parts ≡ distinct parts
    go None is = refl
    go (Some parts) is = sym (ap (λ (b : Bool). cond b (Some parts) None) (sym (items_differ options items parts named is) ∙ ap is_clean none))

is_refused : (options : List WordOption) (items : List WordItem) → AreNamed items → (items_fault items [] ≡ [] → ⊥) → None ≡ distinct (parts_with options items)
is_refused options items named some = go (parts_with options items) refl
  where
    by_test : (parts : WordParts) (b : Bool) → are_distinct parts.given ≡ b → (b ≡ true → ⊥) → None ≡ cond b (Some parts) None
    by_test parts true is no_way = absurd (no_way refl)
    by_test parts false is no_way = refl

    go : (parts : Option WordParts) → parts_with options items ≡ parts → None ≡ distinct parts
    go None is = refl
    go (Some parts) is = by_test parts (are_distinct parts.given) refl (λ e. some (clean_nil (items_fault items []) (items_differ options items parts named is ∙ e)))

-- no fault: the rows give the parts of the words, in which no option stands twice
pub taken : (name : Text) (options : List WordOption) (words : List Text) (rows : List Row) → has_single words ≡ false → fault_of (row_app name options) words ≡ []
    → rows ≡ matches_of (row_app name options) words → parts_read options rows ≡ distinct (parts_of options None words)
taken name options words rows dashes none are = go (items_of options None words) refl (walk_reads name options words dashes)
  where
    go : (items : Option (List WordItem)) → items_of options None words ≡ items → Reads items (fault_from name options start words) (rows_from options start words) [] []
        → parts_read options rows ≡ distinct (parts_of options None words)
    go None is reads = absurd (reads (sym (fault_is name options words) ∙ none))
    go (Some items) is reads =
        let clear : items_fault items [] ≡ [] = sym reads.0 ∙ (sym (fault_is name options words) ∙ none) in
        ap (parts_read options) (are ∙ (matches_are name options words ∙ ap (λ (l : List Row). fold with_default l (rules_built options)) reads.1))
        ∙ (items_read options items reads.2 clear ∙ (is_taken options items reads.2 clear ∙ sym (by_items options words (Some items) is)))

-- a fault: the words have no such parts
pub refused : (name : Text) (options : List WordOption) (words : List Text) → has_single words ≡ false → (fault_of (row_app name options) words ≡ [] → ⊥) → None ≡ distinct (parts_of options None words)
refused name options words dashes some = go (items_of options None words) refl (walk_reads name options words dashes)
  where
    go : (items : Option (List WordItem)) → items_of options None words ≡ items → Reads items (fault_from name options start words) (rows_from options start words) [] []
        → None ≡ distinct (parts_of options None words)
    go None is reads = sym (by_items options words None is)
    go (Some items) is reads =
        is_refused options items reads.2 (λ e. some (fault_is name options words ∙ (reads.0 ∙ e))) ∙ sym (by_items options words (Some items) is)

-- ---- one dash in front of another byte

plain_end : plain_word ≡ ends_options → ⊥
plain_end e = cc

abbrev dashed_by : List WordOption → Bool → Text → WordLook
dashed_by options b [] = cond b ends_options bad
dashed_by options b (byte ∷ named) = cond b (look_row (row_by options (take (name_len (byte ∷ named)) (byte ∷ named))) (drop (name_len (byte ∷ named)) (byte ∷ named))) bad

single_look : (options : List WordOption) (word : Text) → is_single word ≡ true → look_at options word ≡ bad
single_look options [] e = absurd (true≢false (sym e))
single_look options (x ∷ []) e = absurd (true≢false (sym e))
single_look options (x ∷ y ∷ named) e = go (x == 45) (y == 45) refl e
  where
    dashed : (named : Text) → (y == 45) ≡ false → look_dashed options y named ≡ bad
    dashed [] is = ap (λ (b : Bool). cond b ends_options bad) is
    dashed (byte ∷ named) is = ap (λ (b : Bool). cond b (look_row (row_by options (take (name_len (byte ∷ named)) (byte ∷ named))) (drop (name_len (byte ∷ named)) (byte ∷ named))) bad) is

    go : (a b : Bool) → (y == 45) ≡ b → (a && not b) ≡ true → cond a (look_dashed options y named) plain_word ≡ bad
    go true true is e = absurd (true≢false (sym e))
    go true false is e = dashed named is
    go false b is e = absurd (true≢false (sym e))

joined_bad : (word : Text) (words : List Text) (waiting : Option Text) (others : Option Text → Option (List WordItem)) → item_joined word words waiting others bad ≡ None
joined_bad word words None others = refl
joined_bad word words (Some name) others = refl

joined_none : (word : Text) (words : List Text) (waiting : Option Text) (others : Option Text → Option (List WordItem)) (look : WordLook) → (look ≡ ends_options → ⊥)
    → ((next : Option Text) → others next ≡ None) → item_joined word words waiting others look ≡ None
joined_none word words None others bad goes none = refl
joined_none word words None others ends_options goes none = absurd (goes refl)
joined_none word words None others plain_word goes none = ap (option_map (λ items. place word ∷ items)) (none None)
joined_none word words None others (flag_word name) goes none = ap (option_map (λ items. flagged name ∷ items)) (none None)
joined_none word words None others (option_word name) goes none = none (Some name)
joined_none word words None others (value_word name text) goes none = ap (option_map (λ items. valued name text ∷ items)) (none None)
joined_none word words (Some name) others plain_word goes none = ap (option_map (λ items. valued name word ∷ items)) (none None)
joined_none word words (Some name) others bad goes none = refl
joined_none word words (Some name) others ends_options goes none = refl
joined_none word words (Some name) others (flag_word own) goes none = refl
joined_none word words (Some name) others (option_word own) goes none = refl
joined_none word words (Some name) others (value_word own text) goes none = refl

ends_word : (options : List WordOption) (word : Text) → look_at options word ≡ ends_options → is_end word ≡ true
ends_word options [] e = absurd (plain_end e)
ends_word options (x ∷ []) e = absurd (plain_end e)
ends_word options (x ∷ y ∷ named) e = go (x == 45) (y == 45) named e
  where
    row_end : (row : Option WordOption) (sign : Text) → look_row row sign ≡ ends_options → ⊥
    row_end None sign e = cc
    row_end (Some row) sign e = by_value (takes_value row.takes) sign e
      where
        by_value : (takes : Bool) (sign : Text) → look_with row.name takes sign ≡ ends_options → ⊥
        by_value false [] e = cc
        by_value false (s ∷ text) e = cc
        by_value true [] e = cc
        by_value true (s ∷ text) e = cc

    go : (a b : Bool) (named : Text) → cond a (dashed_by options b named) plain_word ≡ ends_options → (a && (b && bytes_eq named [])) ≡ true
    go true true [] e = refl
    go true true (byte ∷ named) e = absurd (row_end _ _ e)
    go true false [] e = cc
    go true false (byte ∷ named) e = cc
    go false b named e = absurd (plain_end e)

single_none : (options : List WordOption) (words : List Text) (waiting : Option Text) → has_single words ≡ true → items_of options waiting words ≡ None
single_none options [] waiting e = absurd (true≢false (sym e))
single_none options (word ∷ words) waiting e =
    items-word options waiting word words ∙ go (is_single word) refl (is_end word) refl e (single_none options words)
  where
    go : (a : Bool) → is_single word ≡ a → (b : Bool) → is_end word ≡ b → (not b && (a || has_single words)) ≡ true
        → ((next : Option Text) → has_single words ≡ true → items_of options next words ≡ None) → item_joined word words waiting (λ next. items_of options next words) (look_at options word) ≡ None
    go a single true ends e more = absurd (true≢false (sym e))
    go true single false ends e more = ap (item_joined word words waiting (λ next. items_of options next words)) (single_look options word single) ∙ joined_bad word words waiting (λ next. items_of options next words)
    go false single false ends e more =
        joined_none word words waiting (λ next. items_of options next words) (look_at options word) (λ is. true≢false (sym (ends_word options word is) ∙ ends)) (λ next. more next e)

pub single_refused : (options : List WordOption) (words : List Text) → has_single words ≡ true → None ≡ distinct (parts_of options None words)
single_refused options words e = sym (by_items options words None (single_none options words None e))

-- ---- what the command is told

pub told_distinct : (row : WordCommand) (parts : Option WordParts) → (distinct parts >>= told_as row) ≡ (parts >>= told_of row)
told_distinct row None = refl
told_distinct row (Some parts) = go (are_distinct parts.given)
  where
    go : (b : Bool) → (cond b (Some parts) None >>= told_as row) ≡ cond b (told_as row parts) None
    go true = refl
    go false = refl

-- ---- the words by a parse of the command

module _ (name : Text) (options : List WordOption) (words : List Text) (app : App) (is : app ≡ row_app name options) (dashes : has_single words ≡ false) (found : Option ArgMatches)
    (parsed : is_simple app ≡ true → is_simple_and_free app ≡ true → IsParsedAs app words found) where
  parse_is : IsParsedAs (row_app name options) words found
  parse_is = subst (λ a. IsParsedAs a words found) is (parsed (ap is_simple is ∙ simple_row name options) (ap is_simple_and_free is ∙ free_row name options))

  pub matches_some : (matches : ArgMatches) → found ≡ Some matches → parts_read options (rows_found matches) ≡ distinct (parts_of options None words)
  matches_some matches some =
      let own = subst (IsParsedAs (row_app name options) words) some parse_is in
      taken name options words (rows_found matches) dashes own.0 own.1

  pub matches_none : found ≡ None → None ≡ distinct (parts_of options None words)
  matches_none none = refused name options words dashes (subst (IsParsedAs (row_app name options) words) none parse_is)
