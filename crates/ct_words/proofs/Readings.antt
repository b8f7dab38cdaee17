-- The parts that are read from the rows, and when no option was used twice.
use Rattle.std.proofs.Common.{◌≡◌, ◌⊎◌, Bool, true, false, not, cond, ◌&&◌, ◌||◌, List, [], ◌∷◌, ◌++◌, map, fold, option_map, option_and_then, unwrap_or, Option, Some, None, refl, ap, ap₂, sym, ◌∙◌, inl, inr, true≢false, slice_get, codes}
use Rattle.std.specs.Str.{bytes_eq}
use Rattle.std.specs.List.{list_any, list_all}
use Rattle.clap.specs.Walk.{Row, Text, has_row, more_values, with_default, first_of}
use Rattle.clap.specs.declared.builder.value_parser.Reading.TheVariants.{AsWritten}
use Rattle.clap.specs.Kinds.{Kinds, or_else}
use Rattle.clap.specs.declared.error.kind.ErrorKind.TheVariants as kind
use Rattle.clap.specs.declared.parser.matches.ValueSource.{ValueSource}
use Rattle.clap.specs.declared.parser.matches.ValueSource.TheVariants.{DefaultValue, CommandLine}
use Rattle.ct_words.specs.Table.{WordOption}
use Rattle.ct_words.specs.Role.{WordGiven, WordValue, value_in, ◌>>=◌}
use Rattle.ct_words.specs.Parts.{WordParts, with_place, are_distinct}
use Rattle.ct_words.specs.Items.{WordItem, place, flagged, valued, row_by, given_with, given_by, with_one, parts_with}
use Rattle.ct_words.specs.Command.{places_id}
use Rattle.ct_words.specs.Reading.{is_said, is_command_line, with_head, given_in, places_in, parts_read}
use Rattle.ct_words.proofs.Loops.{any_seen}
use Rattle.ct_words.proofs.Items.{found_name}
use Rattle.ct_words.proofs.Rules.{rules_built}
use Rattle.ct_words.proofs.Uses.{item_fault, item_used, items_fault, items_used, AreNamed}
use Rattle.ct_words.proofs.Rows.{look, eq_sym, new_use, AsSaid, Looks, with_text, texts_of, PlacesEnd, EndsAs, item_texts, item_places, all_kept}

-- ---- the rows as parts

abbrev places_by : Option Row → List Text
places_by row = cond (is_command_line (option_and_then (λ r. r.source) row)) (unwrap_or (option_map (λ r. r.values) row) []) []

look_none : (id : Text) (rows : List Row) → has_row id rows ≡ false → look id rows ≡ None
look_none id [] none = refl
look_none id (r ∷ rows) none = go (bytes_eq r.id id) none (look_none id rows)
  where
    go : (b : Bool) → (b || has_row id rows) ≡ false → (has_row id rows ≡ false → look id rows ≡ None) → cond b (Some r) (look id rows) ≡ None
    go true none next = absurd (true≢false none)
    go false none next = next none

places_end : (rows : List Row) (places : List Text) → PlacesEnd rows places → places_in rows ≡ places
places_end rows places (inl absent) = ap places_by (look_none places_id rows absent.0) ∙ sym absent.1
places_end rows places (inr present) = ap places_by present.1 ∙ go present.2
  where
    go : ((present.0.source ≡ Some CommandLine) × (present.0.values ≡ places)) ⊎ ((present.0.source ≡ Some DefaultValue) × (places ≡ [])) → places_by (Some present.0) ≡ places
    go (inl said) = ap (λ (x : Option ValueSource). cond (is_command_line x) present.0.values []) said.0 ∙ said.1
    go (inr default) = ap (λ (x : Option ValueSource). cond (is_command_line x) present.0.values []) default.0 ∙ sym default.1

abbrev givens : List WordOption → List (Text × Text) → Option (List WordGiven)
givens options [] = Some []
givens options (one ∷ others) = with_head (given_by options one.0 (Some one.1)) (givens options others)

abbrev said_by : Text → Option Row → Bool
said_by id row = not (bytes_eq id places_id) && is_command_line (option_and_then (λ r. r.source) row)

one_given : (options : List WordOption) (rows : List Row) (id : Text) (text : Option Text) (ids : List Text) (others : List (Text × Text)) → AsSaid rows id text
    → given_in options rows ids ≡ givens options others → given_in options rows (id ∷ ids) ≡ givens options (with_text id text others)
unfolding given_in
one_given options rows id (Some text) ids others said more =
    let row = said.1 in
    let other : bytes_eq id places_id ≡ false = eq_sym id places_id ∙ said.0 in
    ap (λ (b : Bool). cond (not b && is_said id rows) (with_head (given_by options id (first_of id rows)) (given_in options rows ids)) (given_in options rows ids)) other
    ∙ (ap (λ (r : Option Row). cond (is_command_line (option_and_then (λ x. x.source) r)) (with_head (given_by options id (option_and_then (λ x. slice_get x.values 0) r)) (given_in options rows ids)) (given_in options rows ids)) row.1
    ∙ (ap₂ (λ (x : Option ValueSource) (t : Option Text). cond (is_command_line x) (with_head (given_by options id t) (given_in options rows ids)) (given_in options rows ids)) row.3 row.2
    ∙ ap (with_head (given_by options id (Some text))) more))
one_given options rows id None ids others (inl same) more =
    ap (λ (x : Text). cond (not (bytes_eq x places_id) && is_said id rows) (with_head (given_by options id (first_of id rows)) (given_in options rows ids)) (given_in options rows ids)) (sym same) ∙ more
one_given options rows id None ids others (inr row) more =
    ap (λ (r : Option Row). cond (said_by id r) (with_head (given_by options id (first_of id rows)) (given_in options rows ids)) (given_in options rows ids)) row.1
    ∙ (ap (λ (x : Option ValueSource). cond (not (bytes_eq id places_id) && is_command_line x) (with_head (given_by options id (first_of id rows)) (given_in options rows ids)) (given_in options rows ids)) row.2
    ∙ go (not (bytes_eq id places_id)))
  where
    go : (b : Bool) → cond (b && false) (with_head (given_by options id (first_of id rows)) (given_in options rows ids)) (given_in options rows ids) ≡ givens options others
    go true = more
    go false = more

all_given : (options : List WordOption) (rows : List Row) (es : List (Text × Option Text)) → Looks rows es → given_in options rows (map (λ (e : Text × Option Text). e.0) es) ≡ givens options (texts_of es)
unfolding given_in
all_given options rows [] looks = refl
all_given options rows (e ∷ es) looks = one_given options rows e.0 e.1 (map (λ (x : Text × Option Text). x.0) es) (texts_of es) looks.0 (all_given options rows es looks.1)

abbrev parts_by : List Text → Option (List WordGiven) → Option WordParts
parts_by places given = option_map (λ list. record { places = places; given = list }) given

parts_end : (options : List WordOption) (rows : List Row) (places : List Text) (texts : List (Text × Text)) → EndsAs rows places texts → parts_read options rows ≡ parts_by places (givens options texts)
parts_end options rows places texts ends =
    ap₂ parts_by (places_end rows places ends.1.places_are) (ap (given_in options rows) ends.1.ids ∙ (all_given options rows ends.0 ends.1.looks ∙ ap (givens options) ends.2))

-- ---- the items as parts

head_first : (one : Option WordGiven) (places : List Text) (given : Option (List WordGiven)) → with_one one (parts_by places given) ≡ parts_by places (with_head one given)
head_first None places given = refl
head_first (Some one) places None = refl
head_first (Some one) places (Some given) = refl

parts_split : (options : List WordOption) (items : List WordItem) → parts_with options items ≡ parts_by (item_places items) (givens options (item_texts items))
unfolding parts_with
parts_split options [] = refl
parts_split options (place word ∷ items) = ap (option_map (with_place word)) (parts_split options items) ∙ go (givens options (item_texts items))
  where
    go : (given : Option (List WordGiven)) → option_map (with_place word) (parts_by (item_places items) given) ≡ parts_by (word ∷ item_places items) given
    go None = refl
    go (Some given) = refl
parts_split options (flagged name ∷ items) =
    ap (with_one (given_by options name (Some (codes "true")))) (parts_split options items) ∙ head_first (given_by options name (Some (codes "true"))) (item_places items) (givens options (item_texts items))
parts_split options (valued name text ∷ items) =
    ap (with_one (given_by options name (Some text))) (parts_split options items) ∙ head_first (given_by options name (Some text)) (item_places items) (givens options (item_texts items))

-- where no use is a fault, the rows give the parts of the items
pub items_read : (options : List WordOption) (items : List WordItem) → AreNamed items → items_fault items [] ≡ []
    → parts_read options (fold with_default (items_used items []) (rules_built options)) ≡ parts_with options items
items_read options items named none =
    parts_end options (fold with_default (items_used items []) (rules_built options)) (item_places items) (item_texts items) (all_kept options items named none) ∙ sym (parts_split options items)

-- ---- when an option was used twice

abbrev pub is_clean : Kinds → Bool
is_clean [] = true
is_clean (k ∷ ks) = false

clean_both : (a b : Kinds) → is_clean (or_else a b) ≡ (is_clean a && is_clean b)
clean_both [] b = refl
clean_both (k ∷ ks) b = refl

pub clean_nil : (a : Kinds) → is_clean a ≡ true → a ≡ []
clean_nil [] e = refl
clean_nil (k ∷ ks) e = absurd (true≢false (sym e))

abbrev none_in : List Row → List Text → Bool
none_in rows names = list_all (λ name. not (has_row name rows)) names

abbrev all_differ : List Text → Bool
all_differ [] = true
all_differ (name ∷ names) = not (list_any (λ x. bytes_eq x name) names) && all_differ names

clean_use : (b : Bool) → is_clean (or_else (cond (b && true) (kind.ArgumentConflict ∷ []) []) []) ≡ not b
clean_use true = refl
clean_use false = refl

has_placed : (word name : Text) (rows : List Row) → bytes_eq places_id name ≡ false → has_row name (item_used (place word) rows) ≡ has_row name rows
has_placed word name [] other = ap (λ (b : Bool). b || false) other
has_placed word name (r ∷ rows) other = go (bytes_eq r.id places_id) (has_placed word name rows other)
  where
    go : (b : Bool) → has_row name (item_used (place word) rows) ≡ has_row name rows
        → has_row name (cond b (more_values CommandLine (word ∷ []) r ++ rows) (r ∷ item_used (place word) rows)) ≡ has_row name (r ∷ rows)
    go true next = refl
    go false next = ap (λ (b : Bool). bytes_eq r.id name || b) next

has_added : (name : Text) (rows : List Row) (row : Row) → has_row name (rows ++ row ∷ []) ≡ (has_row name rows || bytes_eq row.id name)
has_added name [] row = go (bytes_eq row.id name)
  where
    go : (b : Bool) → (b || false) ≡ b
    go true = refl
    go false = refl
has_added name (r ∷ rows) row = ap (λ (b : Bool). bytes_eq r.id name || b) (has_added name rows row) ∙ go (bytes_eq r.id name)
  where
    go : (b : Bool) → (b || (has_row name rows || bytes_eq row.id name)) ≡ ((b || has_row name rows) || bytes_eq row.id name)
    go true = refl
    go false = refl

abbrev names_of : List WordItem → List Text
names_of items = map (λ (e : Text × Text). e.0) (item_texts items)

none_placed : (word : Text) (rows : List Row) (items : List WordItem) → AreNamed items → none_in (item_used (place word) rows) (names_of items) ≡ none_in rows (names_of items)
none_placed word rows [] named = refl
none_placed word rows (place other ∷ items) named = none_placed word rows items named.1
none_placed word rows (flagged name ∷ items) named = ap₂ (λ (a b : Bool). not a && b) (has_placed word name rows named.0) (none_placed word rows items named.1)
none_placed word rows (valued name text ∷ items) named = ap₂ (λ (a b : Bool). not a && b) (has_placed word name rows named.0) (none_placed word rows items named.1)

none_added : (rows : List Row) (row : Row) (names : List Text) → none_in (rows ++ row ∷ []) names ≡ (none_in rows names && not (list_any (λ x. bytes_eq x row.id) names))
none_added rows row [] = refl
none_added rows row (name ∷ names) =
    ap₂ (λ (a b : Bool). not a && b) (has_added name rows row ∙ ap (λ (b : Bool). has_row name rows || b) (eq_sym row.id name)) (none_added rows row names)
    ∙ go (has_row name rows) (bytes_eq name row.id) (none_in rows names) (list_any (λ x. bytes_eq x row.id) names)
  where
    go : (a e p q : Bool) → (not (a || e) && (p && not q)) ≡ ((not a && p) && not (e || q))
    go true e p q = refl
    go false true true q = refl
    go false true false q = refl
    go false false p q = refl

option_clean : (name : Text) (rows after : List Row) (row : Row) (names : List Text) (rest : Bool) → row.id ≡ name → (has_row name rows ≡ false → after ≡ rows ++ row ∷ [])
    → rest ≡ (none_in after names && all_differ names) → (not (has_row name rows) && rest) ≡ (none_in rows (name ∷ names) && all_differ (name ∷ names))
option_clean name rows after row names rest same is more = go (has_row name rows) refl
  where
    swap : (p q d : Bool) → ((p && not q) && d) ≡ ((true && p) && (not q && d))
    swap true q d = refl
    swap false q d = refl

    go : (b : Bool) → has_row name rows ≡ b → (not b && rest) ≡ ((not b && none_in rows names) && (not (list_any (λ x. bytes_eq x name) names) && all_differ names))
    go true has = refl
    go false has =
        more ∙ (ap (λ (b : Bool). b && all_differ names) (ap (λ (l : List Row). none_in l names) (is has) ∙ (none_added rows row names ∙ ap (λ (n : Text). none_in rows names && not (list_any (λ x. bytes_eq x n) names)) same))
        ∙ swap (none_in rows names) (list_any (λ x. bytes_eq x name) names) (all_differ names))

uses_clean : (items : List WordItem) (rows : List Row) → AreNamed items → is_clean (items_fault items rows) ≡ (none_in rows (names_of items) && all_differ (names_of items))
unfolding items_fault
uses_clean [] rows named = refl
uses_clean (place word ∷ items) rows named =
    uses_clean items (item_used (place word) rows) named.1 ∙ ap (λ (b : Bool). b && all_differ (names_of items)) (none_placed word rows items named.1)
uses_clean (flagged name ∷ items) rows named =
    clean_both (item_fault (flagged name) rows) (items_fault items (item_used (flagged name) rows))
    ∙ (ap (λ (b : Bool). b && is_clean (items_fault items (item_used (flagged name) rows))) (clean_use (has_row name rows))
    ∙ option_clean name rows (item_used (flagged name) rows) (record { id = name; values = codes "true" ∷ []; count = None; source = Some CommandLine; reading = AsWritten }) (names_of items)
    (is_clean (items_fault items (item_used (flagged name) rows))) refl (new_use name AsWritten (codes "true" ∷ []) rows) (uses_clean items (item_used (flagged name) rows) named.1))
uses_clean (valued name text ∷ items) rows named =
    clean_both (item_fault (valued name text) rows) (items_fault items (item_used (valued name text) rows))
    ∙ (ap (λ (b : Bool). b && is_clean (items_fault items (item_used (valued name text) rows))) (clean_use (has_row name rows))
    ∙ option_clean name rows (item_used (valued name text) rows) (record { id = name; values = text ∷ []; count = None; source = Some CommandLine; reading = AsWritten }) (names_of items)
    (is_clean (items_fault items (item_used (valued name text) rows))) refl (new_use name AsWritten (text ∷ []) rows) (uses_clean items (item_used (valued name text) rows) named.1))

none_in_none : (names : List Text) → none_in [] names ≡ true
none_in_none [] = refl
none_in_none (name ∷ names) = none_in_none names

-- ---- the same, of the options that were given

given_name : (options : List WordOption) (name text : Text) (given : WordGiven) → given_by options name (Some text) ≡ Some given → given.name ≡ name
given_name options name text given e = go (row_by options name) refl e
  where
    by_value : (own : Text) (value : Option WordValue) → (value >>= λ v. Some (record { name = own; value = v })) ≡ Some given → given.name ≡ own
    by_value own None e = cc
    by_value own (Some v) e =
        let same : record { name = own; value = v } ≡ given = cc in
        sym (ap (λ (g : WordGiven). g.name) same)

    go : (row : Option WordOption) → row_by options name ≡ row → (row >>= λ r. given_with r.name r.takes (Some text)) ≡ Some given → given.name ≡ name
    go None is e = cc
    go (Some row) is e = by_value row.name (value_in row.takes text) e ∙ found_name options name row is

givens_names : (options : List WordOption) (texts : List (Text × Text)) (given : List WordGiven) → givens options texts ≡ Some given
    → map (λ (g : WordGiven). g.name) given ≡ map (λ (e : Text × Text). e.0) texts
givens_names options [] given e =
    let none : [] ≡ given = cc in
    sym (ap (map (λ (g : WordGiven). g.name)) none)
givens_names options (one ∷ others) given e = go (given_by options one.0 (Some one.1)) refl (givens options others) refl e (givens_names options others)
  where
    go : (first : Option WordGiven) → given_by options one.0 (Some one.1) ≡ first → (rest : Option (List WordGiven)) → givens options others ≡ rest → with_head first rest ≡ Some given
        → ((more : List WordGiven) → givens options others ≡ Some more → map (λ (g : WordGiven). g.name) more ≡ map (λ (x : Text × Text). x.0) others)
        → map (λ (g : WordGiven). g.name) given ≡ one.0 ∷ map (λ (x : Text × Text). x.0) others
    go None is rest are e more = cc
    go (Some first) is None are e more = cc
    go (Some first) is (Some rest) are e more =
        let same : first ∷ rest ≡ given = cc in
        ap (map (λ (g : WordGiven). g.name)) (sym same) ∙ ap₂ (λ (x : Text) (xs : List Text). x ∷ xs) (given_name options one.0 one.1 first is) (more rest are)

differ_names : (given : List WordGiven) → are_distinct given ≡ all_differ (map (λ (g : WordGiven). g.name) given)
differ_names [] = refl
differ_names (one ∷ others) = ap₂ (λ (a b : Bool). not a && b) (any_seen (λ (g : WordGiven). g.name) (λ x. bytes_eq x one.name) others) (differ_names others)

pub items_differ : (options : List WordOption) (items : List WordItem) (parts : WordParts) → AreNamed items → parts_with options items ≡ Some parts
    → is_clean (items_fault items []) ≡ are_distinct parts.given
items_differ options items parts named e =
    let split : parts_by (item_places items) (givens options (item_texts items)) ≡ Some parts = sym (parts_split options items) ∙ e in
    uses_clean items [] named
    ∙ (ap (λ (b : Bool). b && all_differ (names_of items)) (none_in_none (names_of items))
    ∙ sym (go (givens options (item_texts items)) refl split))
  where
    go : (given : Option (List WordGiven)) → givens options (item_texts items) ≡ given → parts_by (item_places items) given ≡ Some parts → are_distinct parts.given ≡ all_differ (names_of items)
    go None is e = cc
    go (Some given) is e =
        let same : record { places = item_places items; given = given } ≡ parts = cc in
        ap (λ (p : WordParts). are_distinct p.given) (sym same) ∙ (differ_names given ∙ ap all_differ (givens_names options (item_texts items) given is))
