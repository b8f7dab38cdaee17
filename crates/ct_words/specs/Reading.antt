-- What the matches of a row's command say.
use Rattle.std.specs.Prelude.{◌≡◌, ℕ, Bool, true, false, ◌&&◌, not, if◌then◌else◌, List, [], ◌∷◌, map, find, option_map, option_and_then, unwrap_or, Option, Some, None}
use Rattle.std.specs.Str.{bytes_eq}
use Rattle.clap.specs.Faults.{fault_of}
use Rattle.clap.specs.Matches.{found_of}
use Rattle.clap.specs.Simple.{App, matches_of}
use Rattle.clap.specs.Walk.{Row, Text, all_of, first_of, rows_of}
use Rattle.clap.specs.declared.parser.matches.ArgMatches.{ArgMatches}
use Rattle.clap.specs.declared.parser.matches.ValueSource.{ValueSource}
use Rattle.clap.specs.declared.parser.matches.ValueSource.TheVariants.{DefaultValue, CommandLine}
use Rattle.ct_words.specs.Table.{WordCommand, WordOption}
use Rattle.ct_words.specs.Said.{WordsSaid, places_of}
use Rattle.ct_words.specs.Role.{WordGiven, ◌>>=◌}
use Rattle.ct_words.specs.Parts.{WordParts, are_distinct}
use Rattle.ct_words.specs.Items.{given_by}
use Rattle.ct_words.specs.Command.{places_id}

-- a parse of these words, of which memory let it tell
abbrev pub IsParsedAs : App → List Text → Option ArgMatches → Type 0
IsParsedAs app words None = fault_of app words ≡ [] → ⊥
IsParsedAs app words (Some found) = (fault_of app words ≡ []) × (rows_of (found_of found) ≡ matches_of app words)

abbrev pub rows_found : ArgMatches → List Row
rows_found found = rows_of (found_of found)

abbrev pub is_command_line : Option ValueSource → Bool
is_command_line None = false
is_command_line (Some DefaultValue) = false
is_command_line (Some CommandLine) = true

abbrev pub source_of : Text → List Row → Option ValueSource
source_of id rows = option_and_then (λ r. r.source) (find (λ r. bytes_eq r.id id) rows)

-- the words gave it, and not a default
abbrev pub is_said : Text → List Row → Bool
is_said id rows = is_command_line (source_of id rows)

abbrev pub with_head : Option WordGiven → Option (List WordGiven) → Option (List WordGiven)
with_head None others = None
with_head (Some given) others = option_map (λ list. given ∷ list) others

-- the options among the ids, each with its value
unfoldable pub given_in : List WordOption → List Row → List Text → Option (List WordGiven)
given_in options rows [] = Some []
given_in options rows (id ∷ ids) =
    if not (bytes_eq id places_id) && is_said id rows then with_head (given_by options id (first_of id rows)) (given_in options rows ids) else given_in options rows ids

abbrev pub places_in : List Row → List (List ℕ)
places_in rows = if is_said places_id rows then unwrap_or (all_of places_id rows) [] else []

abbrev pub parts_read : List WordOption → List Row → Option WordParts
parts_read options rows = option_map (λ given. record { places = places_in rows; given = given }) (given_in options rows (map (λ r. r.id) rows))

abbrev pub if_distinct : WordParts → Option WordParts
if_distinct parts = if are_distinct parts.given then Some parts else None

abbrev pub distinct : Option WordParts → Option WordParts
distinct parts = parts >>= if_distinct

-- what a command is told by parts in which no option stands twice
abbrev pub told_as : WordCommand → WordParts → Option WordsSaid
told_as row parts = option_map (λ places. record { command = row.command; places = places; given = parts.given }) (places_of row.places parts.places)
