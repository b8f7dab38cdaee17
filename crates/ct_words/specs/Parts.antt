-- The positional words and the options among the words after a command's name.
use Rattle.std.specs.Prelude.{ℕ, ◌&&◌, Bool, true, not, List, [], ◌∷◌, map, find, option_map, Option, Some, None}
use Rattle.std.specs.Str.{bytes_eq}
use Rattle.std.specs.List.{list_any}
use Rattle.ct_words.specs.Table.{WordOption}
use Rattle.ct_words.specs.Role.{WordGiven, WordAsked, WordRole, ends, positional, says, opens, role_of, given_seen, number_given, text_given, ◌>>=◌}
use Rattle.ct_words.specs.declared.parts.Parts.{Parts}

-- positional words and options, each in their order
pub record WordParts : Type 0 where
  pub places : List (List ℕ)
  pub given : List WordGiven

abbrev pub parts_seen : Parts → WordParts
parts_seen parts = record { places = map (λ word. word.now) parts.places.items; given = map given_seen parts.given.items }

abbrev pub with_place : List ℕ → WordParts → WordParts
with_place word parts = record parts { places = word ∷ parts.places }

abbrev pub with_given : WordGiven → WordParts → WordParts
with_given given parts = record parts { given = given ∷ parts.given }

-- what a word is, and what those after it are where an option waits for its value or none does
abbrev pub joined : List ℕ → List (List ℕ) → (Option WordAsked → Option WordParts) → WordRole → Option WordParts
joined word words others ends = Some (record { places = words; given = [] })
joined word words others positional = option_map (with_place word) (others None)
joined word words others (says given) = option_map (with_given given) (others None)
joined word words others (opens asked) = others (Some asked)

-- The parts of the words after an option that waits for its value, or after none. An option can't wait at the end.
unfoldable pub parts_of : List WordOption → Option WordAsked → List (List ℕ) → Option WordParts
parts_of options None [] = Some (record { places = []; given = [] })
parts_of options (Some asked) [] = None
parts_of options waiting (word ∷ words) = role_of options waiting word >>= joined word words (λ next. parts_of options next words)

abbrev pub has_name : List ℕ → List WordGiven → Bool
has_name name given = list_any (λ one. bytes_eq one.name name) given

-- the number that the option of this name was given, if it was given and takes one
abbrev pub value_of : List ℕ → List WordGiven → Option ℕ
value_of name given = find (λ one. bytes_eq one.name name) given >>= λ one. number_given one.value

-- the text, likewise
abbrev pub text_of : List ℕ → List WordGiven → Option (List ℕ)
text_of name given = find (λ one. bytes_eq one.name name) given >>= λ one. text_given one.value

-- no option stands twice
abbrev pub are_distinct : List WordGiven → Bool
are_distinct [] = true
are_distinct (one ∷ others) = not (has_name one.name others) && are_distinct others
