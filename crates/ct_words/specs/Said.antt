-- Which command the words are, and what it is told.
use Rattle.std.specs.Prelude.{ℕ, ◌==◌, if◌then◌else◌, List, [], ◌∷◌, map, option_map, find, length, Option, Some, None}
use Rattle.std.specs.Str.{bytes_eq}
use Rattle.std.specs.List.{list_any}
use Rattle.ct_words.specs.Table.{WordCommand}
use Rattle.ct_words.specs.Role.{WordGiven, number_in, given_seen, ◌>>=◌}
use Rattle.ct_words.specs.Parts.{WordParts, parts_of, are_distinct}
use Rattle.ct_words.specs.declared.table.Bounds.{Bounds}
use Rattle.ct_words.specs.declared.table.CommandName.{CommandName}
use Rattle.ct_words.specs.declared.said.Positional.{Positional}
use Rattle.ct_words.specs.declared.said.Positional.TheVariants.{Text, Number}
use Rattle.ct_words.specs.declared.said.Said.{Said}

-- a positional word
pub data WordPlace : Type 0 where
  text : List ℕ → WordPlace
  number : ℕ → WordPlace

-- a command with its positional words and its options
pub record WordsSaid : Type 0 where
  pub command : CommandName
  pub places : List WordPlace
  pub given : List WordGiven

abbrev pub place_seen : Positional → WordPlace
place_seen (Text word) = text word.now
place_seen (Number n) = number n

abbrev pub seen : Said → WordsSaid
seen said = record { command = said.command; places = map place_seen said.places.items; given = map given_seen said.given.items }

-- a number where the place has bounds
abbrev pub place_of : Option Bounds → List ℕ → Option WordPlace
place_of None word = Some (text word)
place_of (Some bounds) word = option_map number (number_in bounds word)

-- as many words as there are places, each as its place wants it
unfoldable pub places_of : List (Option Bounds) → List (List ℕ) → Option (List WordPlace)
places_of [] [] = Some []
places_of [] (word ∷ words) = None
places_of (wanted ∷ others) [] = None
places_of (wanted ∷ others) (word ∷ words) = place_of wanted word >>= λ place. option_map (λ places. place ∷ places) (places_of others words)

-- no option twice, and the positional words that the command wants
abbrev pub told_of : WordCommand → WordParts → Option WordsSaid
told_of row parts =
    if are_distinct parts.given
    then option_map (λ places. record { command = row.command; places = places; given = parts.given }) (places_of row.places parts.places)
    else None

abbrev pub named_of : List WordCommand → List (List ℕ) → Option WordsSaid
named_of table [] = None
named_of table (name ∷ others) = find (λ row. bytes_eq row.name name) table >>= λ row. parts_of row.options None others >>= told_of row

-- The command that the words are by the table, and what it is told: no word is empty, the first is a command's name,
-- and the others are its options and its positional words.
abbrev pub said_of : List WordCommand → List (List ℕ) → Option WordsSaid
said_of table words = if list_any (λ word. length word == 0) words then None else named_of table words
