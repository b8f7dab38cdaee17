-- The parts of the words, by their items.
use Rattle.std.proofs.Common.{◌≡◌, ℕ, ◌==◌, Bool, true, false, not, cond, ◌||◌, List, [], ◌∷◌, map, take, drop, length, option_map, Option, Some, None, refl, ap, sym, ◌∙◌, arith, true≢false, ne_eqb, codes}
use Rattle.std.specs.Str.{bytes_eq}
use Rattle.std.proofs.lemmas.Slice.Eq.{bytes_eq-Decides}
use Rattle.ct_words.specs.Table.{WordOption, takes_value}
use Rattle.ct_words.specs.Role.{WordAsked, WordRole, ends, positional, says, opens, WordValue, bare, value_in, value_said, name_len, said_with, option_of, plain_of, dashed_of, role_of, ◌>>=◌}
use Rattle.ct_words.specs.Parts.{WordParts, with_place, with_given, joined, parts_of}
use Rattle.ct_words.specs.Items.{WordItem, place, flagged, valued, WordLook, bad, ends_options, plain_word, flag_word, option_word, value_word, look_with, look_row, row_by, look_dashed, look_at, item_joined, items_of, given_with, given_by, with_one, parts_with}
use Rattle.ct_words.specs.declared.table.Takes.{Takes}
use Rattle.ct_words.specs.declared.table.Takes.TheVariants.{Nothing, Number, Name}
use Rattle.ct_words.proofs.Loops.{parts-word}

-- the first row of a name has it, and is found by its own name
pub found_name : (options : List WordOption) (name : List ℕ) (row : WordOption) → row_by options name ≡ Some row → row.name ≡ name
found_name [] name row e = cc
found_name (one ∷ options) name row e = by_test (bytes_eq one.name name) refl e (found_name options name row)
  where
    by_test : (b : Bool) → bytes_eq one.name name ≡ b → cond b (Some one) (row_by options name) ≡ Some row → (row_by options name ≡ Some row → row.name ≡ name) → row.name ≡ name
    by_test true is e more =
        let same : one ≡ row = cc in
        ap (λ (r : WordOption). r.name) (sym same) ∙ (bytes_eq-Decides one.name name).0 is
    by_test false is e more = more e

pub found_again : (options : List WordOption) (name : List ℕ) (row : WordOption) → row_by options name ≡ Some row → row_by options row.name ≡ Some row
found_again options name row e = ap (row_by options) (found_name options name row e) ∙ e

-- what a word is, by what it looks like
abbrev pub RoleBy : List WordOption → Option WordAsked → List ℕ → WordLook → Option WordRole → Type 0
RoleBy options None word bad role = role ≡ None
RoleBy options None word ends_options role = role ≡ Some ends
RoleBy options None word plain_word role = role ≡ Some positional
RoleBy options None word (flag_word name) role = (row_by options name ≡ Some (record { name = name; takes = Nothing })) × (role ≡ Some (says (record { name = name; value = bare })))
RoleBy options None word (option_word name) role =
    (takes : Takes) × (row_by options name ≡ Some (record { name = name; takes = takes })) × (role ≡ Some (opens (record { name = name; takes = takes })))
RoleBy options None word (value_word name text) role =
    (takes : Takes) × (row_by options name ≡ Some (record { name = name; takes = takes })) × (role ≡ value_said (record { name = name; takes = takes }) text)
RoleBy options (Some asked) word plain_word role = role ≡ value_said asked word
RoleBy options (Some asked) word look role = role ≡ None

row_role : (options : List WordOption) (word : List ℕ) (row : WordOption) (from_sign : List ℕ) → row_by options row.name ≡ Some row
    → RoleBy options None word (look_with row.name (takes_value row.takes) from_sign) (said_with row.name row.takes from_sign)
row_role options word row from_sign e = go row.takes from_sign e
  where
    go : (takes : Takes) (from_sign : List ℕ) → row_by options row.name ≡ Some (record { name = row.name; takes = takes })
        → RoleBy options None word (look_with row.name (takes_value takes) from_sign) (said_with row.name takes from_sign)
    go Nothing [] e = (e, refl)
    go Nothing (sign ∷ text) e = refl
    go (Number bounds) [] e = (Number bounds, e, refl)
    go (Number bounds) (sign ∷ text) e = (Number bounds, e, refl)
    go Name [] e = (Name, e, refl)
    go Name (sign ∷ text) e = (Name, e, refl)

option_role : (options : List WordOption) (word name from_sign : List ℕ) (found : Option WordOption) → row_by options name ≡ found
    → RoleBy options None word (look_row found from_sign) (found >>= λ row. said_with row.name row.takes from_sign)
option_role options word name from_sign None e = refl
option_role options word name from_sign (Some row) e = row_role options word row from_sign (found_again options name row e)

waits_not : (options : List WordOption) (asked : WordAsked) (word from_sign : List ℕ) (found : Option WordOption) → RoleBy options (Some asked) word (look_row found from_sign) None
waits_not options asked word from_sign None = refl
waits_not options asked word from_sign (Some row) = go (takes_value row.takes) from_sign
  where
    go : (takes : Bool) (from_sign : List ℕ) → RoleBy options (Some asked) word (look_with row.name takes from_sign) None
    go false [] = refl
    go false (sign ∷ text) = refl
    go true [] = refl
    go true (sign ∷ text) = refl

not_empty : (byte : ℕ) (named : List ℕ) → (length (byte ∷ named) == 0) ≡ false
not_empty byte named = ne_eqb _ _ (λ none. absurd (omega (arith, none)))

dashed_role : (options : List WordOption) (waiting : Option WordAsked) (word : List ℕ) (second : ℕ) (named : List ℕ)
    → RoleBy options waiting word (look_dashed options second named) (dashed_of options waiting second named)
dashed_role options None word second [] = go (second == 45)
  where
    go : (b : Bool) → RoleBy options None word (cond b ends_options bad) (cond (not b || false) None (Some ends))
    go true = refl
    go false = refl
dashed_role options None word second (byte ∷ named) = go (second == 45) (length (byte ∷ named) == 0) (not_empty byte named)
  where
    go : (b empty : Bool) → empty ≡ false
        → RoleBy options None word (cond b (look_row (row_by options (take (name_len (byte ∷ named)) (byte ∷ named))) (drop (name_len (byte ∷ named)) (byte ∷ named))) bad)
        (cond (not b || false) None (cond empty (Some ends) (option_of options (byte ∷ named))))
    go true true some = absurd (true≢false some)
    go true false some = option_role options word _ (drop (name_len (byte ∷ named)) (byte ∷ named)) _ refl
    go false empty some = refl
dashed_role options (Some asked) word second [] = go (second == 45)
  where
    go : (b : Bool) → RoleBy options (Some asked) word (cond b ends_options bad) (cond (not b || true) None (Some ends))
    go true = refl
    go false = refl
dashed_role options (Some asked) word second (byte ∷ named) = go (second == 45) (length (byte ∷ named) == 0)
  where
    go : (b empty : Bool)
        → RoleBy options (Some asked) word (cond b (look_row (row_by options (take (name_len (byte ∷ named)) (byte ∷ named))) (drop (name_len (byte ∷ named)) (byte ∷ named))) bad)
        (cond (not b || true) None (cond empty (Some ends) (option_of options (byte ∷ named))))
    go true empty = waits_not options asked word (drop (name_len (byte ∷ named)) (byte ∷ named)) _
    go false empty = refl

pub role_look : (options : List WordOption) (waiting : Option WordAsked) (word : List ℕ) → RoleBy options waiting word (look_at options word) (role_of options waiting word)
role_look options None [] = refl
role_look options (Some asked) [] = refl
role_look options None (first ∷ []) = refl
role_look options (Some asked) (first ∷ []) = refl
role_look options waiting (first ∷ second ∷ named) = go (first == 45)
  where
    plain : (waiting : Option WordAsked) → RoleBy options waiting (first ∷ second ∷ named) plain_word (plain_of waiting (first ∷ second ∷ named))
    plain None = refl
    plain (Some asked) = refl

    go : (b : Bool)
        → RoleBy options waiting (first ∷ second ∷ named) (cond b (look_dashed options second named) plain_word)
        (cond b (dashed_of options waiting second named) (plain_of waiting (first ∷ second ∷ named)))
    go true = dashed_role options waiting (first ∷ second ∷ named) second named
    go false = plain waiting

-- ---- the parts of the items

-- the option that waits is one of the command's
abbrev pub IsKnown : List WordOption → Option WordAsked → Type 0
IsKnown options None = Unit {0}
IsKnown options (Some asked) = row_by options asked.name ≡ Some (record { name = asked.name; takes = asked.takes })

abbrev pub name_asked : Option WordAsked → Option (List ℕ)
name_asked = option_map (λ asked. asked.name)

pub items-word : (options : List WordOption) (waiting : Option (List ℕ)) (word : List ℕ) (words : List (List ℕ))
    → items_of options waiting (word ∷ words) ≡ item_joined word words waiting (λ next. items_of options next words) (look_at options word)
unfolding items_of
items-word options None word words = refl
items-word options (Some name) word words = refl

all_places : (options : List WordOption) (words : List (List ℕ)) → parts_with options (map place words) ≡ Some (record { places = words; given = [] })
unfolding parts_with
all_places options [] = refl
all_places options (word ∷ words) = ap (option_map (with_place word)) (all_places options words)

one_place : (options : List WordOption) (word : List ℕ) (items : Option (List WordItem))
    → option_map (with_place word) (items >>= parts_with options) ≡ (option_map (λ list. place word ∷ list) items >>= parts_with options)
unfolding parts_with
one_place options word None = refl
one_place options word (Some items) = refl

one_flag : (options : List WordOption) (name : List ℕ) (items : Option (List WordItem)) → row_by options name ≡ Some (record { name = name; takes = Nothing })
    → option_map (with_given (record { name = name; value = bare })) (items >>= parts_with options) ≡ (option_map (λ list. flagged name ∷ list) items >>= parts_with options)
unfolding parts_with
one_flag options name None known = refl
one_flag options name (Some items) known =
    ap (λ (found : Option WordOption). with_one (found >>= λ row. given_with row.name row.takes (Some (codes "true"))) (parts_with options items)) (sym known)

one_value : (options : List WordOption) (name text word : List ℕ) (words : List (List ℕ)) (takes : Takes) (parts : Option WordAsked → Option WordParts) (items : Option (List WordItem))
    → row_by options name ≡ Some (record { name = name; takes = takes }) → parts None ≡ (items >>= parts_with options)
    → (value_said (record { name = name; takes = takes }) text >>= joined word words parts) ≡ (option_map (λ list. valued name text ∷ list) items >>= parts_with options)
unfolding parts_with
one_value options name text word words takes parts items known same = go (value_in takes text) refl items same
  where
    given_is : given_by options name (Some text) ≡ (value_in takes text >>= λ value. Some (record { name = name; value = value }))
    given_is = ap (λ (found : Option WordOption). found >>= λ row. given_with row.name row.takes (Some text)) known

    go : (n : Option WordValue) → value_in takes text ≡ n → (items : Option (List WordItem)) → parts None ≡ (items >>= parts_with options)
        → ((n >>= λ k. Some (says (record { name = name; value = k }))) >>= joined word words parts) ≡ (option_map (λ list. valued name text ∷ list) items >>= parts_with options)
    go None is None same = refl
    go None is (Some items) same = sym (ap (λ o. with_one o (parts_with options items)) (given_is ∙ ap (λ o. o >>= λ k. Some (record { name = name; value = k })) is))
    go (Some n) is None same = ap (option_map (with_given (record { name = name; value = n }))) same
    go (Some n) is (Some items) same =
        ap (option_map (with_given (record { name = name; value = n }))) same
        ∙ sym (ap (λ o. with_one o (parts_with options items)) (given_is ∙ ap (λ o. o >>= λ k. Some (record { name = name; value = k })) is))

-- what a word adds to the parts, where those of the words after it are those of their items
word_parts : (options : List WordOption) (waiting : Option WordAsked) (word : List ℕ) (words : List (List ℕ)) (look : WordLook) (role : Option WordRole)
    (parts : Option WordAsked → Option WordParts) (items : Option (List ℕ) → Option (List WordItem)) → IsKnown options waiting
    → ((next : Option WordAsked) → IsKnown options next → parts next ≡ (items (name_asked next) >>= parts_with options)) → RoleBy options waiting word look role
    → (role >>= joined word words parts) ≡ (item_joined word words (name_asked waiting) items look >>= parts_with options)
word_parts options None word words bad role parts items known same is = ap (λ r. r >>= joined word words parts) is
word_parts options None word words ends_options role parts items known same is = ap (λ r. r >>= joined word words parts) is ∙ sym (all_places options words)
word_parts options None word words plain_word role parts items known same is =
    ap (λ r. r >>= joined word words parts) is ∙ ap (option_map (with_place word)) (same None tt) ∙ one_place options word (items None)
word_parts options None word words (flag_word name) role parts items known same is =
    ap (λ r. r >>= joined word words parts) is.1 ∙ ap (option_map (with_given (record { name = name; value = bare }))) (same None tt) ∙ one_flag options name (items None) is.0
word_parts options None word words (option_word name) role parts items known same is =
    ap (λ r. r >>= joined word words parts) is.2 ∙ same (Some (record { name = name; takes = is.0 })) is.1
word_parts options None word words (value_word name text) role parts items known same is =
    ap (λ r. r >>= joined word words parts) is.2 ∙ one_value options name text word words is.0 parts (items None) is.1 (same None tt)
word_parts options (Some asked) word words plain_word role parts items known same is =
    ap (λ r. r >>= joined word words parts) is ∙ one_value options asked.name word word words asked.takes parts (items None) known (same None tt)
word_parts options (Some asked) word words bad role parts items known same is = ap (λ r. r >>= joined word words parts) is
word_parts options (Some asked) word words ends_options role parts items known same is = ap (λ r. r >>= joined word words parts) is
word_parts options (Some asked) word words (flag_word name) role parts items known same is = ap (λ r. r >>= joined word words parts) is
word_parts options (Some asked) word words (option_word name) role parts items known same is = ap (λ r. r >>= joined word words parts) is
word_parts options (Some asked) word words (value_word name text) role parts items known same is = ap (λ r. r >>= joined word words parts) is

pub parts_items : (options : List WordOption) (waiting : Option WordAsked) (words : List (List ℕ)) → IsKnown options waiting
    → parts_of options waiting words ≡ (items_of options (name_asked waiting) words >>= parts_with options)
unfolding parts_of items_of parts_with
parts_items options None [] known = refl
parts_items options (Some asked) [] known = refl
parts_items options waiting (word ∷ words) known =
    parts-word options waiting word words
    ∙ (word_parts options waiting word words (look_at options word) (role_of options waiting word) (λ next. parts_of options next words) (λ next. items_of options next words) known
    (λ next. parts_items options next words) (role_look options waiting word)
    ∙ ap (λ items. items >>= parts_with options) (sym (items-word options (name_asked waiting) word words)))
