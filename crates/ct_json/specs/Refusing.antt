-- What a refusal is for a reader.
use Rattle.std.specs.Prelude.{◌≡◌, ◌-◌, List, [], ◌∷◌}
use Rattle.serde_json.specs.declared.error.Error.{Error}
use Rattle.serde_json.specs.Errors.{IsMemory}
use Rattle.ct_instance.specs.declared.refusals.BadMatrix.{BadMatrix}
use Rattle.ct_instance.specs.declared.refusals.BadMatrix.TheVariants as unmade
use Rattle.ct_input.specs.declared.fault.Fault.TheVariants.{JsonSyntax, Json}
use Rattle.ct_input.specs.declared.fault.InputStop.{InputStop}
use Rattle.ct_input.specs.declared.fault.InputStop.TheVariants as stops
use Rattle.ct_input.specs.declared.path.PathStep.{PathStep}
use Rattle.ct_input.specs.declared.path.PathStep.TheVariants.{Member, Index}
use Rattle.ct_input.specs.declared.path.Name.TheVariants.{Matrix}
use Rattle.ct_input.specs.declared.path.JsonReason.{JsonReason}
use Rattle.ct_input.specs.declared.path.JsonReason.TheVariants.{ZeroColumn}

-- the fault of this reason at this place, unless memory ran out
abbrev pub Refuses : InputStop → List PathStep → JsonReason → Type 0
Refuses stops.Memory here reason = Unit {0}
Refuses (stops.Fault fault) here reason = fault ≡ Json here reason

-- the fault at the entry of a zero column, counted from 1, in the first row
abbrev pub RefusesColumn : InputStop → BadMatrix → Type 0
RefusesColumn stop unmade.Memory = stop ≡ stops.Memory
RefusesColumn stop (unmade.ZeroColumn column) = Refuses stop (Member Matrix ∷ Index 0 ∷ Index (column - 1) ∷ []) ZeroColumn

-- the text is no JSON, unless memory ran out
abbrev pub IsUnread : InputStop → Error → Type 0
IsUnread stops.Memory error = Unit {0}
IsUnread (stops.Fault fault) error = (fault ≡ JsonSyntax) × ¬ (IsMemory error)
