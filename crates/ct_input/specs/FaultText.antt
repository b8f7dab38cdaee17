-- The texts of faults.
use Rattle.std.specs.Prelude.{ℕ, List, [], ◌∷◌, ◌++◌, codes, decimal}
use Rattle.std.specs.List.{flat_map}
use Rattle.ct_input.specs.declared.fault.Fault.{Fault}
use Rattle.ct_input.specs.declared.fault.Fault.TheVariants.{TooLong, Text, JsonSyntax, Json}
use Rattle.ct_input.specs.declared.path.Name.{Name}
use Rattle.ct_input.specs.declared.path.Name.TheVariants.{Instance, Matrix, Cost, Sessions, Phases, Target, Ask, Solve}
use Rattle.ct_input.specs.declared.path.PathStep.{PathStep}
use Rattle.ct_input.specs.declared.path.PathStep.TheVariants.{Member, Index}
use Rattle.ct_input.specs.declared.path.JsonReason.{JsonReason}
use Rattle.ct_input.specs.declared.path.JsonReason.TheVariants.{Missing, Kind}
use Rattle.ct_input.specs.declared.path.JsonReason.TheVariants as reasons
use Rattle.ct_input.specs.declared.fault.TextReason.{TextReason}
use Rattle.ct_input.specs.declared.fault.TextReason.TheVariants.{End, Word, Number, Limit, ZeroColumn, Extra}

abbrev pub reason_text : TextReason → List ℕ
reason_text End = codes "end"
reason_text Word = codes "word"
reason_text Number = codes "number"
reason_text Limit = codes "limit"
reason_text ZeroColumn = codes "zero column"
reason_text Extra = codes "extra"

-- the member names of a JSON file
abbrev pub name_text : Name → List ℕ
name_text Instance = codes "instance"
name_text Matrix = codes "matrix"
name_text Cost = codes "cost"
name_text Sessions = codes "sessions"
name_text Phases = codes "phases"
name_text Target = codes "target"
name_text Ask = codes "ask"
name_text Solve = codes "solve"

abbrev pub json_reason_text : JsonReason → List ℕ
json_reason_text Missing = codes "missing"
json_reason_text Kind = codes "kind"
json_reason_text reasons.Limit = codes "limit"
json_reason_text reasons.Extra = codes "extra"
json_reason_text reasons.ZeroColumn = codes "zero column"

abbrev pub step_text : PathStep → List ℕ
step_text (Member name) = codes "/" ++ name_text name
step_text (Index index) = codes "/" ++ decimal index

-- as '/matrix/0/1', and '/' for the file's value itself
abbrev pub path_text : List PathStep → List ℕ
path_text [] = codes "/"
path_text (step ∷ steps) = flat_map step_text (step ∷ steps)

-- as 'line 4 column 7: limit' or 'json at /matrix/0/1: kind'
abbrev pub fault_text : Fault → List ℕ
fault_text TooLong = codes "too long"
fault_text (Text line column reason) = codes "line " ++ decimal line ++ codes " column " ++ decimal column ++ codes ": " ++ reason_text reason
fault_text JsonSyntax = codes "json syntax"
fault_text (Json path reason) = codes "json at " ++ path_text path ++ codes ": " ++ json_reason_text reason
