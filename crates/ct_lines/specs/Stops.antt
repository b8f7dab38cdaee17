-- What a reader of a text answers.
use Rattle.std.specs.Prelude.{◌≡◌, ℕ, Result, Ok, Err}
use Rattle.ct_lines.specs.declared.stop.TextStop.{TextStop}
use Rattle.ct_lines.specs.declared.stop.TextStop.TheVariants.{Fault, Memory}

-- what holds of the line, where the answer is a fault
abbrev pub AtFault : {X : Type 0} → (ℕ → Type 0) → Result X TextStop → Type 0
AtFault P (Err (Fault line)) = P line
AtFault P _ = Unit {0}

-- What was found at the end of a text, where closed says which reading stands for a value, or the fault line, is this,
-- unless memory ran out.
abbrev pub Found : {X S : Type 0} → (X → S) → Result X TextStop → Result S ℕ → Type 0
Found closed (Ok x) read = read ≡ Ok (closed x)
Found closed (Err (Fault line)) read = read ≡ Err line
Found closed (Err Memory) read = Unit {0}
