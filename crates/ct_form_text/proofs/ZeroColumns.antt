-- The file's form, or the fault of its least column that is zero and has no bound.
use Rattle.std.proofs.Common.{◌≡◌, ℕ, ◌+◌, ltb, Bool, true, false, List, length, Option, Some, None, Result, Ok, Err, refl, sym, ap, ◌∙◌, cond}
use Rattle.std.specs.Option.{option_map}
use Rattle.ct_text.specs.Tokens.{text_of}
use Rattle.ct_instance.specs.declared.refusals.BadMatrix.{BadMatrix}
use Rattle.ct_instance.specs.declared.refusals.BadMatrix.TheVariants.{ZeroColumn, Memory}
use Rattle.ct_instance.specs.Made.{columns_of, NamesZeroColumn}
use Rattle.ct_input.specs.declared.limits.TheConstants.{INSTANCE_FILE_LIMIT}
use Rattle.ct_input.specs.declared.fault.Fault.{Fault}
use Rattle.ct_input.specs.declared.fault.Fault.TheVariants.{TooLong}
use Rattle.ct_input.specs.declared.fault.InputStop.{InputStop}
use Rattle.ct_input.specs.declared.fault.InputStop.TheVariants as stops
use Rattle.ct_input.specs.declared.fault.TextReason.TheVariants as reasons
use Rattle.ct_input.specs.Sheet.{◌>>=◌, Fails, sheet_of, fault_next}
use Rattle.ct_input.specs.Files.{value_in, entry_sheet}
use Rattle.ct_input.specs.Refusals.{stop_of}
use Rattle.ct_form.specs.Forms.{Form}
use Rattle.ct_form.specs.Kept.{free_zero_of}
use Rattle.ct_form.specs.Made.{form_of}
use Rattle.ct_form_text.specs.declared.draft.FormDraft.{FormDraft}
use Rattle.ct_form_text.specs.FormText.{form_text}
use Rattle.ct_form_text.specs.Files.{draft_file, made_of, form_file}

abbrev zero_of : FormDraft → Option ℕ
zero_of d = free_zero_of (columns_of d.rows d.columns d.entries) d.limits.bounds

-- the form's file by the draft's
by_draft : (over : Bool) (value : Result FormDraft Fault) (f : FormDraft → Result Form Fault) →
    cond over (Err TooLong) (value >>= f) ≡ (cond over (Err TooLong) value >>= f)
by_draft true value f = refl
by_draft false value f = refl

form_file_is : (bytes : List ℕ) → form_file bytes ≡ (draft_file bytes >>= λ d. made_of (sheet_of (text_of bytes)) d (zero_of d))
unfolding form_file draft_file
form_file_is bytes = by_draft (ltb INSTANCE_FILE_LIMIT (length bytes)) (value_in form_text bytes) (λ d. made_of (sheet_of (text_of bytes)) d (zero_of d))

with_draft : (bytes : List ℕ) (d : FormDraft) → draft_file bytes ≡ Ok d → form_file bytes ≡ made_of (sheet_of (text_of bytes)) d (zero_of d)
with_draft bytes d reads = form_file_is bytes ∙ ap (λ (r : Result FormDraft Fault). r >>= λ d. made_of (sheet_of (text_of bytes)) d (zero_of d)) reads

pub draft_fails : (e : InputStop) (bytes : List ℕ) → Fails e (draft_file bytes) → Fails e (form_file bytes)
draft_fails stops.Memory bytes h = tt
draft_fails (stops.Fault fault) bytes h = form_file_is bytes ∙ ap (λ (r : Result FormDraft Fault). r >>= λ d. made_of (sheet_of (text_of bytes)) d (zero_of d)) h

next_of : (z : Option ℕ) (col : ℕ) → option_map (λ j. j + 1) z ≡ Some col → (j : ℕ) × (z ≡ Some j) × (col ≡ j + 1)
next_of None col e = absurd cc
next_of (Some j) col e = (j, refl, cc)

-- what is refused is a fault of the file, or memory
pub refused_file : (bytes : List ℕ) (d : FormDraft) (bad : BadMatrix) → draft_file bytes ≡ Ok d → NamesZeroColumn bad (zero_of d) → Fails (stop_of (sheet_of (text_of bytes)) bad) (form_file bytes)
unfolding made_of
refused_file bytes d (ZeroColumn col) reads named =
    let z = next_of (zero_of d) col named in
    with_draft bytes d reads ∙ ap (made_of (sheet_of (text_of bytes)) d) z.1 ∙
    ap (λ c. Err (fault_next reasons.ZeroColumn (entry_sheet (sheet_of (text_of bytes)) c))) (sym z.2)
refused_file bytes d Memory reads named = tt

-- what is accepted is the form of the file
pub accepted_file : (bytes : List ℕ) (d : FormDraft) → draft_file bytes ≡ Ok d → zero_of d ≡ None → form_file bytes ≡ Ok (form_of d.rows d.columns d.entries d.limits d.costs)
unfolding made_of
accepted_file bytes d reads none = with_draft bytes d reads ∙ ap (made_of (sheet_of (text_of bytes)) d) none
