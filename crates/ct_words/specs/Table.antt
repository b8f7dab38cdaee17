-- The table of commands.
use Rattle.std.specs.Prelude.{ℕ, Bool, true, false, List, [], ◌∷◌, map, Option, Some, None, codes}
use Rattle.ct_vectors.specs.declared.limits.TheConstants.{GRADE_LIMIT, MOVE_LIMIT, WORKER_LIMIT}
use Rattle.ct_words.specs.declared.table.Bounds.{Bounds}
use Rattle.ct_words.specs.declared.table.CommandName.{CommandName}
use Rattle.ct_words.specs.declared.table.CommandName.TheVariants.{Answer, Best, Box, Certify, Check, Make, Serve}
use Rattle.ct_words.specs.declared.table.OptionRow.{OptionRow}
use Rattle.ct_words.specs.declared.table.CommandRow.{CommandRow}
use Rattle.ct_words.specs.declared.table.Takes.{Takes}
use Rattle.ct_words.specs.declared.table.Takes.TheVariants.{Nothing, Number, Name}

-- an option, without its dashes, and what it takes: nothing, a number within bounds, or a name
pub record WordOption : Type 0 where
  pub name : List ℕ
  pub takes : Takes

abbrev pub takes_value : Takes → Bool
takes_value Nothing = false
takes_value (Number bounds) = true
takes_value Name = true

-- a command: what each positional word is in turn, a number within bounds or a text, and its options
pub record WordCommand : Type 0 where
  pub command : CommandName
  pub name : List ℕ
  pub places : List (Option Bounds)
  pub options : List WordOption

abbrev pub option_seen : OptionRow → WordOption
option_seen row = record { name = row.name.now; takes = row.takes }

abbrev pub command_seen : CommandRow → WordCommand
command_seen row = record { command = row.command; name = row.name.now; places = row.places.now; options = map option_seen row.options.now }

abbrev pub flag : List ℕ → WordOption
flag name = record { name = name; takes = Nothing }

abbrev pub within : ℕ → ℕ → Bounds
within low high = record { low = low; high = high }

abbrev pub from_to : ℕ → ℕ → Option Bounds
from_to low high = Some (within low high)

-- --moves N
abbrev pub moves : WordOption
moves = record { name = codes "moves"; takes = Number (within 1 MOVE_LIMIT) }

-- --workers N
abbrev pub workers : WordOption
workers = record { name = codes "workers"; takes = Number (within 0 WORKER_LIMIT) }

-- --resume LEDGER
abbrev pub resume : WordOption
resume = record { name = codes "resume"; takes = Name }

abbrev pub any_text : Option Bounds
any_text = None

-- any of 64 bits
abbrev pub any_number : Option Bounds
any_number = from_to 0 18446744073709551615

-- answer INSTANCE SESSIONS, best INSTANCE SESSIONS COUNT, box INSTANCE SESSIONS, certify INSTANCE GRADE, check INSTANCE LEDGER, make NUMBER, serve INSTANCE SESSIONS
abbrev pub commands : List WordCommand
commands =
    record { command = Answer; name = codes "answer"; places = any_text ∷ any_text ∷ []; options = flag (codes "walks") ∷ flag (codes "levels") ∷ flag (codes "batch") ∷ moves ∷ [] }
    ∷ record { command = Best; name = codes "best"; places = any_text ∷ any_text ∷ from_to 1 100 ∷ []; options = moves ∷ [] }
    ∷ record { command = Box; name = codes "box"; places = any_text ∷ any_text ∷ []; options = flag (codes "walks") ∷ moves ∷ [] }
    ∷ record { command = Certify; name = codes "certify"; places = any_text ∷ from_to 0 GRADE_LIMIT ∷ []; options = moves ∷ [] }
    ∷ record { command = Check; name = codes "check"; places = any_text ∷ any_text ∷ []; options = flag (codes "batch") ∷ [] }
    ∷ record { command = Make; name = codes "make"; places = any_number ∷ []; options = [] }
    ∷ record { command = Serve; name = codes "serve"; places = any_text ∷ any_text ∷ []; options = workers ∷ flag (codes "walks") ∷ flag (codes "levels") ∷ moves ∷ resume ∷ [] }
    ∷ []
