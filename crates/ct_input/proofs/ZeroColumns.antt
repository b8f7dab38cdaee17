-- The file's instance, or the fault of its first zero column.
use Rattle.std.proofs.Common.{◌≡◌, ℕ, ◌+◌, ◌≤◌, false, ltb, List, length, Option, Some, None, Ok, Err, refl}
use Rattle.std.specs.Option.{option_map}
use Rattle.std.proofs.lemmas.Bool.{le-ltb}
use Rattle.ct_text.specs.Tokens.{text_of}
use Rattle.ct_instance.specs.declared.refusals.BadMatrix.{BadMatrix}
use Rattle.ct_instance.specs.declared.refusals.BadMatrix.TheVariants.{ZeroColumn, Memory}
use Rattle.ct_instance.specs.Made.{problem_of, zero_column_of, NamesZeroColumn}
use Rattle.ct_input.specs.declared.limits.TheConstants.{INSTANCE_FILE_LIMIT}
use Rattle.ct_input.specs.declared.draft.Draft.{Draft}
use Rattle.ct_input.specs.declared.fault.TextReason.TheVariants as reasons
use Rattle.ct_input.specs.Sheet.{Sheet, Fails, sheet_of, fault_next}
use Rattle.ct_input.specs.Refusals.{stop_of}
use Rattle.ct_input.specs.Grammar.{read}
use Rattle.ct_input.specs.InstanceText.{instance_text}
use Rattle.ct_input.specs.Files.{entry_sheet, made_of, instance_file}

next_of : (z : Option ℕ) (col : ℕ) → option_map (λ j. j + 1) z ≡ Some col → (j : ℕ) × (z ≡ Some j) × (col ≡ j + 1)
next_of None col e = absurd cc
next_of (Some j) col e = (j, refl, cc)

at_zero_column : (bytes : List ℕ) (d : Draft) (rest : Sheet) (col j : ℕ) → length bytes ≤ INSTANCE_FILE_LIMIT → read instance_text (sheet_of (text_of bytes)) ≡ Ok (d, rest)
    → zero_column_of d.rows d.columns d.entries ≡ Some j → col ≡ j + 1 → instance_file bytes ≡ Err (fault_next reasons.ZeroColumn (entry_sheet (sheet_of (text_of bytes)) col))
unfolding instance_file made_of
at_zero_column bytes d rest col j small reads zero same =
    let short : ltb INSTANCE_FILE_LIMIT (length bytes) ≡ false = le-ltb _ _ small in
    rw (short, reads, zero, same) refl

-- what is refused is a fault of the file, or memory
pub refused_file : (bytes : List ℕ) (d : Draft) (rest : Sheet) (bad : BadMatrix) → length bytes ≤ INSTANCE_FILE_LIMIT → read instance_text (sheet_of (text_of bytes)) ≡ Ok (d, rest)
    → NamesZeroColumn bad (zero_column_of d.rows d.columns d.entries) → Fails (stop_of (sheet_of (text_of bytes)) bad) (instance_file bytes)
refused_file bytes d rest (ZeroColumn col) small reads named =
    let z = next_of (zero_column_of d.rows d.columns d.entries) col named in
    at_zero_column bytes d rest col z.0 small reads z.1 z.2
refused_file bytes d rest Memory small reads named = tt

-- what is accepted is the instance of the file
pub accepted_file : (bytes : List ℕ) (d : Draft) (rest : Sheet) → length bytes ≤ INSTANCE_FILE_LIMIT → read instance_text (sheet_of (text_of bytes)) ≡ Ok (d, rest)
    → zero_column_of d.rows d.columns d.entries ≡ None → instance_file bytes ≡ Ok (problem_of d.rows d.columns d.entries d.costs)
unfolding instance_file made_of
accepted_file bytes d rest small reads zero =
    let short : ltb INSTANCE_FILE_LIMIT (length bytes) ≡ false = le-ltb _ _ small in
    rw (short, reads, zero) refl
