-- A form text ends with the word `end`, so none that was cut short is one.
use Rattle.std.proofs.Common.{ℕ, zero, suc, ◌-◌, ◌*◌, min, Bool, true, false, cond, List, ◌++◌, length, nat_lt, Result, Ok, Err, IsOk, IsErr, refl, inl, inr}
use Rattle.std.specs.Prelude.{sum_by}
use Rattle.ct_vectors.specs.declared.limits.TheConstants.{ROW_LIMIT, COLUMN_LIMIT, ENTRY_LIMIT}
use Rattle.ct_input.specs.declared.limits.TheConstants.{INSTANCE_FILE_LIMIT}
use Rattle.ct_input.specs.declared.fault.Fault.{Fault}
use Rattle.ct_input.specs.Sheet.{◌>>=◌}
use Rattle.ct_input.specs.Grammar.{numbers}
use Rattle.ct_input.specs.InstanceText.{cost_rows}
use Rattle.ct_input.specs.Files.{value_in}
use Rattle.ct_input.specs.Cut.{IsCutBefore, EndsWithEnd}
use Rattle.ct_input.proofs.CutGrammars.{Stops}
use Rattle.ct_input.proofs.CutTexts.{Plain, stops_part, plain_part, plain_numbers, plain_exactly, plain_cost_rows, cut_text, text_ends}
use Rattle.ct_form.specs.Made.{given_of}
use Rattle.ct_form_text.specs.FormText.{slacks_of, relation, bound, relations, bounds, form_number, given_limits, limits, form_text}
use Rattle.ct_form_text.specs.Files.{form_file}

plain_relation : (spare : ℕ) → Plain (relation spare)
unfolding Plain
plain_relation zero = tt
plain_relation (suc spare) = (tt, tt, refl)

plain_bound : (spare : ℕ) → Plain (bound spare)
unfolding Plain
plain_bound zero = tt
plain_bound (suc spare) = (tt, λ n. tt, refl)

plain_number : Plain form_number
unfolding form_number Plain
plain_number = (tt, tt, refl)

plain_held : (limited : Bool) (m n : ℕ) → Plain (limits limited m n)
unfolding given_limits Plain
plain_held false m n = tt
plain_held true m n =
    plain_part (relations m (COLUMN_LIMIT - n)) _ (plain_exactly relation slacks_of plain_relation m (COLUMN_LIMIT - n)) (λ rs.
    plain_part (bounds n (min (ROW_LIMIT - m) (COLUMN_LIMIT - n - sum_by slacks_of rs))) _
    (plain_exactly bound given_of plain_bound n (min (ROW_LIMIT - m) (COLUMN_LIMIT - n - sum_by slacks_of rs))) (λ us. tt))

stops_form_text : Stops form_text
unfolding form_text Stops
stops_form_text =
    inr (stops_part form_number _ plain_number (λ limited. inr (λ m. inr (λ n. inr (stops_part (numbers (m * n) ENTRY_LIMIT) _ (plain_numbers (m * n) ENTRY_LIMIT) (λ entries.
    stops_part (limits limited m n) _ (plain_held limited m n) (λ held.
    stops_part (cost_rows n) _ (plain_cost_rows n) (λ costs. inl (refl, (record { rows = m; columns = n; entries = entries; limits = held; costs = costs }, refl))))))))))

-- ---- files

within_ok : {X : Type 0} (over : Bool) (e : Fault) (r : Result X Fault) → IsOk (cond over (Err e) r) → IsOk r
within_ok true e r h = absurd cc
within_ok false e r h = h

bind_ok : {X Y : Type 0} (r : Result X Fault) (f : X → Result Y Fault) → IsOk (r >>= f) → IsOk r
bind_ok (Ok x) f h = refl
bind_ok (Err e) f h = h

err_of : {X : Type 0} (r : Result X Fault) → (IsOk r → ⊥) → IsErr r
err_of (Ok x) h = absurd (h refl)
err_of (Err e) h = refl

form_value : (bytes : List ℕ) → IsOk (form_file bytes) → IsOk (value_in form_text bytes)
unfolding form_file
form_value bytes h = bind_ok (value_in form_text bytes) _ (within_ok (nat_lt INSTANCE_FILE_LIMIT (length bytes)) _ _ h)

pub form_cut : (front more : List ℕ) → IsOk (form_file (front ++ more)) → IsCutBefore front more → IsErr (form_file front)
form_cut front more whole is_cut =
    err_of (form_file front) (λ part_of. cut_text form_text stops_form_text front more is_cut (form_value (front ++ more) whole) (form_value front part_of))

pub form_ends : (bytes : List ℕ) → IsOk (form_file bytes) → EndsWithEnd bytes
form_ends bytes whole = text_ends form_text stops_form_text bytes (form_value bytes whole)
