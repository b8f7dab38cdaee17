-- The command that the words are.
use Rattle.std.specs.Prelude.{ℕ, ◌≤◌, ◌≡◌, Bool, List, [], ◌∷◌, Option, Some, None, option_map, unwrap_or, codes}
use Rattle.std.specs.List.{AllByRecursion}
use Rattle.ct_vectors.specs.declared.limits.TheConstants.{GRADE_LIMIT, MOVE_LIMIT, WORKER_LIMIT}
use Rattle.ct_words.specs.Table.{commands}
use Rattle.ct_words.specs.Role.{WordGiven, number_given, ◌>>=◌}
use Rattle.ct_words.specs.Parts.{has_name, text_of, value_of}
use Rattle.ct_words.specs.Said.{WordPlace, text, number, WordsSaid, said_of}
use Rattle.ct_words.specs.declared.table.CommandName.{CommandName}
use Rattle.ct_words.specs.declared.table.CommandName.TheVariants.{Answer, Best, Box, Certify, Check, Make, Serve}
use Rattle.ct_run.specs.declared.words.TheConstants.{WORKER_DEFAULT}

-- what is done with an instance; `moves` is the limit on the number of moves, and `batch` says that several threads may do it
pub data Work : Type 0 where
  answer : (sessions : List ℕ) (walks levels batch : Bool) (moves : ℕ) → Work
  best : (sessions : List ℕ) (count moves : ℕ) → Work
  box : (sessions : List ℕ) (walks : Bool) (moves : ℕ) → Work
  certify : (grade moves : ℕ) → Work
  check : (ledger : List ℕ) (batch : Bool) → Work

-- a command with the names of its files and what its options say
pub data Command : Type 0 where
  on : (instance : List ℕ) → Work → Command
  make : ℕ → Command
  serve : (instance sessions : List ℕ) (resume : Option (List ℕ)) (workers : ℕ) (walks levels : Bool) (moves : ℕ) → Command

-- the limit that --moves gives, and the greatest where it isn't given
abbrev pub limit_in : List WordGiven → ℕ
limit_in given = unwrap_or (value_of (codes "moves") given) MOVE_LIMIT

-- the number of workers, likewise
abbrev pub workers_in : List WordGiven → ℕ
workers_in given = unwrap_or (value_of (codes "workers") given) WORKER_DEFAULT

abbrev pub two_texts : List WordPlace → Option (List ℕ × List ℕ)
two_texts (text first ∷ text second ∷ []) = Some (first, second)
two_texts _ = None

abbrev pub text_and_number : List WordPlace → Option (List ℕ × ℕ)
text_and_number (text first ∷ number second ∷ []) = Some (first, second)
text_and_number _ = None

abbrev pub texts_and_number : List WordPlace → Option (List ℕ × List ℕ × ℕ)
texts_and_number (text first ∷ text second ∷ number third ∷ []) = Some (first, second, third)
texts_and_number _ = None

abbrev pub one_number : List WordPlace → Option ℕ
one_number (number only ∷ []) = Some only
one_number _ = None

-- what was said, as a command
abbrev pub as_command : CommandName → List WordPlace → List WordGiven → Option Command
as_command Answer places given = option_map (λ names. on names.0 (answer names.1 (has_name (codes "walks") given) (has_name (codes "levels") given) (has_name (codes "batch") given) (limit_in given))) (two_texts places)
as_command Best places given = option_map (λ words. on words.0 (best words.1 words.2 (limit_in given))) (texts_and_number places)
as_command Box places given = option_map (λ names. on names.0 (box names.1 (has_name (codes "walks") given) (limit_in given))) (two_texts places)
as_command Certify places given = option_map (λ words. on words.0 (certify words.1 (limit_in given))) (text_and_number places)
as_command Check places given = option_map (λ names. on names.0 (check names.1 (has_name (codes "batch") given))) (two_texts places)
as_command Make places given = option_map make (one_number places)
as_command Serve places given = option_map (λ names. serve names.0 names.1 (text_of (codes "resume") given) (workers_in given) (has_name (codes "walks") given) (has_name (codes "levels") given) (limit_in given)) (two_texts places)

-- the command that the words after the program's name are, if they are one
abbrev pub command_of : List (List ℕ) → Option Command
command_of words = said_of commands words >>= λ said. as_command said.command said.places said.given

-- ---- numbers

abbrev pub IsLimit : ℕ → Type 0
IsLimit n = (1 ≤ n) × (n ≤ MOVE_LIMIT)

-- how many least solutions may be asked for
abbrev pub IsBestCount : ℕ → Type 0
IsBestCount n = (1 ≤ n) × (n ≤ 100)

-- what a number is among the positional words of the command
abbrev pub IsNumberOf : CommandName → ℕ → Type 0
IsNumberOf Best n = IsBestCount n
IsNumberOf Certify n = n ≤ GRADE_LIMIT
IsNumberOf command n = Unit {0}

abbrev pub IsPlaceWithin : CommandName → WordPlace → Type 0
IsPlaceWithin command (text word) = Unit {0}
IsPlaceWithin command (number n) = IsNumberOf command n

-- what a number is that the option of this name was given
abbrev pub IsValueOf : List ℕ → ℕ → Type 0
IsValueOf name n = (name ≡ codes "moves" → IsLimit n) × (name ≡ codes "workers" → n ≤ WORKER_LIMIT)

-- the numbers in places are what the command wants there, and the numbers of options are what these want
pub record HasNumbersWithin (said : WordsSaid) : Type 0 where
  pub places : AllByRecursion (IsPlaceWithin said.command) said.places
  pub given : AllByRecursion (λ one. (n : ℕ) → number_given one.value ≡ Some n → IsValueOf one.name n) said.given

-- the same of a command
abbrev pub IsWorkWithin : Work → Type 0
IsWorkWithin (answer sessions walks levels batch moves) = IsLimit moves
IsWorkWithin (best sessions count moves) = IsBestCount count × IsLimit moves
IsWorkWithin (box sessions walks moves) = IsLimit moves
IsWorkWithin (certify grade moves) = (grade ≤ GRADE_LIMIT) × IsLimit moves
IsWorkWithin (check ledger batch) = Unit {0}

abbrev pub IsCommandWithin : Command → Type 0
IsCommandWithin (on instance work) = IsWorkWithin work
IsCommandWithin (make n) = Unit {0}
IsCommandWithin (serve instance sessions resume workers walks levels moves) = (workers ≤ WORKER_LIMIT) × IsLimit moves
