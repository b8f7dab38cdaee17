-- The words after a command's name as clap takes them: which option or positional word each is, before any value is read.
use Rattle.std.specs.Prelude.{ℕ, Bool, true, false, ◌==◌, ◌&&◌, ◌||◌, not, if◌then◌else◌, List, [], ◌∷◌, map, take, drop, find, option_map, Option, Some, None, codes}
use Rattle.std.specs.Str.{bytes_eq}
use Rattle.ct_words.specs.Table.{WordOption, takes_value}
use Rattle.ct_words.specs.Role.{WordGiven, value_in, name_len, ◌>>=◌}
use Rattle.ct_words.specs.Parts.{WordParts, with_place, with_given}
use Rattle.ct_words.specs.declared.table.Takes.{Takes}

-- a positional word, a flag, or an option with its value
pub data WordItem : Type 0 where
  place : List ℕ → WordItem
  flagged : List ℕ → WordItem
  valued : List ℕ → List ℕ → WordItem

-- what a word looks like: one dash in front or no option of the command, the end of all options, no option, a flag, an
-- option without its value, or with it
pub data WordLook : Type 0 where
  bad : WordLook
  ends_options : WordLook
  plain_word : WordLook
  flag_word : List ℕ → WordLook
  option_word : List ℕ → WordLook
  value_word : List ℕ → List ℕ → WordLook

-- by whether the option takes a value
abbrev pub look_with : List ℕ → Bool → List ℕ → WordLook
look_with name false [] = flag_word name
look_with name false (sign ∷ text) = bad
look_with name true [] = option_word name
look_with name true (sign ∷ text) = value_word name text

abbrev pub look_row : Option WordOption → List ℕ → WordLook
look_row None from_sign = bad
look_row (Some row) from_sign = look_with row.name (takes_value row.takes) from_sign

abbrev pub row_by : List WordOption → List ℕ → Option WordOption
row_by options name = find (λ row. bytes_eq row.name name) options

abbrev pub look_dashed : List WordOption → ℕ → List ℕ → WordLook
look_dashed options second [] = if second == 45 then ends_options else bad
look_dashed options second (byte ∷ named) =
    if second == 45 then look_row (row_by options (take (name_len (byte ∷ named)) (byte ∷ named))) (drop (name_len (byte ∷ named)) (byte ∷ named)) else bad

abbrev pub look_at : List WordOption → List ℕ → WordLook
look_at options [] = plain_word
look_at options (first ∷ []) = plain_word
look_at options (first ∷ second ∷ named) = if first == 45 then look_dashed options second named else plain_word

-- what a word adds, where no option waits for its value or one does, to what the words after it are
abbrev pub item_joined : List ℕ → List (List ℕ) → Option (List ℕ) → (Option (List ℕ) → Option (List WordItem)) → WordLook → Option (List WordItem)
item_joined word words None others ends_options = Some (map place words)
item_joined word words None others plain_word = option_map (λ items. place word ∷ items) (others None)
item_joined word words None others (flag_word name) = option_map (λ items. flagged name ∷ items) (others None)
item_joined word words None others (option_word name) = others (Some name)
item_joined word words None others (value_word name text) = option_map (λ items. valued name text ∷ items) (others None)
item_joined word words (Some name) others plain_word = option_map (λ items. valued name word ∷ items) (others None)
item_joined word words waiting others look = None

-- The items of the words, where an option of this name waits for its value, or none does.
unfoldable pub items_of : List WordOption → Option (List ℕ) → List (List ℕ) → Option (List WordItem)
items_of options None [] = Some []
items_of options (Some name) [] = None
items_of options waiting (word ∷ words) = item_joined word words waiting (λ next. items_of options next words) (look_at options word)

-- ---- values

abbrev pub given_with : List ℕ → Takes → Option (List ℕ) → Option WordGiven
given_with name takes text = text >>= value_in takes >>= λ value. Some (record { name = name; value = value })

-- the option of this name, with what its text gives to it
abbrev pub given_by : List WordOption → List ℕ → Option (List ℕ) → Option WordGiven
given_by options name text = row_by options name >>= λ row. given_with row.name row.takes text

abbrev pub with_one : Option WordGiven → Option WordParts → Option WordParts
with_one None parts = None
with_one (Some given) parts = option_map (with_given given) parts

unfoldable pub parts_with : List WordOption → List WordItem → Option WordParts
parts_with options [] = Some (record { places = []; given = [] })
parts_with options (place word ∷ items) = option_map (with_place word) (parts_with options items)
parts_with options (flagged name ∷ items) = with_one (given_by options name (Some (codes "true"))) (parts_with options items)
parts_with options (valued name text ∷ items) = with_one (given_by options name (Some text)) (parts_with options items)

-- ---- what is refused before clap reads the words

-- one dash in front of another byte
abbrev pub is_single : List ℕ → Bool
is_single [] = false
is_single (first ∷ []) = false
is_single (first ∷ second ∷ named) = first == 45 && not (second == 45)

abbrev pub is_end : List ℕ → Bool
is_end word = bytes_eq word (45 ∷ 45 ∷ [])

-- a word before the first '--' has one dash in front of another byte
abbrev pub has_single : List (List ℕ) → Bool
has_single [] = false
has_single (word ∷ words) = not (is_end word) && (is_single word || has_single words)
