-- Shapes: what a JSON value has to be at its place, and what it then says.
use Rattle.std.specs.Prelude.{ℕ, ◌+◌, ◌-◌, ℤ, pos, nat_abs, nat_le, ◌&&◌, Bool, List, [], ◌∷◌, length, sum_by, Result, Ok}
use Rattle.std.specs.Ordering.{int_eq}
use Rattle.serde_json.specs.Data.{Data}
use Rattle.ct_input.specs.declared.fault.Fault.{Fault}
use Rattle.ct_input.specs.declared.path.PathStep.{PathStep}
use Rattle.ct_input.specs.declared.path.PathStep.TheVariants.{Member, Index}
use Rattle.ct_input.specs.declared.path.Name.{Name}
use Rattle.ct_input.specs.declared.path.JsonReason.TheVariants.{Kind, Limit}
use Rattle.ct_input.specs.Sheet.{◌>>=◌}
use Rattle.ct_json.specs.Values.{◌▹◌, or_refuse, only_if, natural_number, whole_number, array_at, member_at}

-- What a value says, or the first fault: by what the file has to spare, by the place, and by the value. And how much of
-- the spare that uses.
pub record Shape (A : Type 0) : Type 0 where
  pub reads : ℕ → List PathStep → Data → Result A Fault
  pub uses : A → ℕ

-- it uses nothing of the spare
abbrev pub free : {A : Type 0} → (List PathStep → Data → Result A Fault) → Shape A
free reading = record { reads = λ spare. reading; uses = λ x. 0 }

-- ---- numbers

abbrev pub natural_at : ℕ → List PathStep → Data → Result ℕ Fault
natural_at high here d = or_refuse here Kind (natural_number d) >>= λ n. only_if (nat_le n high) here Limit n

-- a natural number up to this one
abbrev pub natural : ℕ → Shape ℕ
natural high = free (natural_at high)

abbrev pub signed_at : ℕ → List PathStep → Data → Result ℤ Fault
signed_at size here d = or_refuse here Kind (whole_number d) >>= λ z. only_if (nat_le (nat_abs z) size) here Limit z

-- a whole number of at most this size
abbrev pub signed : ℕ → Shape ℤ
signed size = free (signed_at size)

-- the number of the form, 1
abbrev pub form_at : List PathStep → Data → Result ℤ Fault
form_at here d = or_refuse here Kind (whole_number d) >>= λ z. only_if (int_eq z (pos 1)) here Limit z

-- ---- lists

-- the items in turn, each at its index, counted on from this one
unfoldable pub each : {A : Type 0} → Shape A → List PathStep → ℕ → ℕ → List Data → Result (List A) Fault
each shape here index spare [] = Ok []
each shape here index spare (d ∷ ds) =
    shape.reads spare (here ▹ Index index) d >>= λ x. each shape here (index + 1) (spare - shape.uses x) ds >>= λ xs. Ok (x ∷ xs)

-- an array of so many items
abbrev pub items_at : ℕ → ℕ → List PathStep → Data → Result (List Data) Fault
items_at low high here d = array_at here d >>= λ ds. only_if (nat_le low (length ds) && nat_le (length ds) high) here Limit ds

-- an array of so many items of a shape
abbrev pub list_of : {A : Type 0} → ℕ → ℕ → Shape A → Shape (List A)
list_of low high shape = record { reads = λ spare here d. items_at low high here d >>= λ ds. each shape here 0 spare ds; uses = λ xs. sum_by shape.uses xs }

-- so many natural numbers up to a limit
abbrev pub naturals : ℕ → ℕ → ℕ → Shape (List ℕ)
naturals low high limit = list_of low high (natural limit)

-- ---- members

-- what the member of this name says, which has to be there
abbrev pub member_as : {A : Type 0} → Name → (List PathStep → Data → Result A Fault) → List PathStep → Data → Result A Fault
member_as name reading here d = member_at name here d >>= λ x. reading (here ▹ Member name) x
