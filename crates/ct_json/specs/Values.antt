-- What a JSON value is, or the fault there.
use Rattle.std.specs.Prelude.{ℕ, ◌==◌, ℤ, ◌++◌, ◌&&◌, Bool, true, false, if◌then◌else◌, List, [], ◌∷◌, Option, Some, None, option_and_then, option_map, is_some, Result, Ok, Err}
use Rattle.std.specs.List.{list_any}
use Rattle.std.specs.Str.{bytes_eq}
use Rattle.serde_json.specs.Data.{Data, Items, no_items, item, Members, no_members, member}
use Rattle.serde_json.specs.Find.{get, as_number, as_u64, as_integer, as_array, as_object}
use Rattle.ct_text.specs.Tokens.{is_blank}
use Rattle.ct_input.specs.declared.fault.Fault.{Fault}
use Rattle.ct_input.specs.declared.fault.Fault.TheVariants.{Json}
use Rattle.ct_input.specs.declared.path.PathStep.{PathStep}
use Rattle.ct_input.specs.declared.path.PathStep.TheVariants.{Member}
use Rattle.ct_input.specs.declared.path.Name.{Name}
use Rattle.ct_input.specs.declared.path.JsonReason.{JsonReason}
use Rattle.ct_input.specs.declared.path.JsonReason.TheVariants.{Missing, Kind, Extra}
use Rattle.ct_input.specs.FaultText.{name_text}

-- the first byte that is no blank is '{'
abbrev pub is_json : List ℕ → Bool
is_json [] = false
is_json (byte ∷ bytes) = if is_blank byte then is_json bytes else byte == 123

-- ---- faults

-- a step further on a path
infixl 12 ◌▹◌
abbrev pub ◌▹◌ : List PathStep → PathStep → List PathStep
here ▹ step = here ++ step ∷ []

abbrev pub refuse : {A : Type 0} → List PathStep → JsonReason → Result A Fault
refuse here reason = Err (Json here reason)

-- it, where there is one
abbrev pub or_refuse : {A : Type 0} → List PathStep → JsonReason → Option A → Result A Fault
or_refuse here reason None = refuse here reason
or_refuse here reason (Some x) = Ok x

-- it, where this holds
abbrev pub only_if : {A : Type 0} → Bool → List PathStep → JsonReason → A → Result A Fault
only_if holds here reason x = if holds then Ok x else refuse here reason

-- ---- kinds

-- A number that the crate holds as a float is no whole number.
abbrev pub natural_number : Data → Option ℕ
natural_number d = option_and_then as_u64 (as_number d)

abbrev pub whole_number : Data → Option ℤ
whole_number d = option_and_then as_integer (as_number d)

abbrev pub list_in : Items → List Data
list_in no_items = []
list_in (item d ds) = d ∷ list_in ds

abbrev pub array_at : List PathStep → Data → Result (List Data) Fault
array_at here d = or_refuse here Kind (option_map list_in (as_array d))

abbrev pub object_at : List PathStep → Data → Result Data Fault
object_at here d = only_if (is_some (as_object d)) here Kind d

-- ---- members

abbrev pub has : Name → Data → Bool
has name d = is_some (get (name_text name) d)

abbrev pub member_at : Name → List PathStep → Data → Result Data Fault
member_at name here d = or_refuse (here ▹ Member name) Missing (get (name_text name) d)

-- the text is one of these names
abbrev pub is_among : List Name → List ℕ → Bool
is_among names key = list_any (λ name. bytes_eq key (name_text name)) names

abbrev pub are_among : List Name → Members → Bool
are_among names no_members = true
are_among names (member key d ms) = is_among names key && are_among names ms

abbrev pub has_only : List Name → Option Members → Bool
has_only names None = true
has_only names (Some ms) = are_among names ms

-- the object has no members but these
abbrev pub no_others : List Name → List PathStep → Data → Result Bool Fault
no_others names here d = only_if (has_only names (as_object d)) here Extra true
