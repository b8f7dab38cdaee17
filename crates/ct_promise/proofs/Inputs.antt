-- Accepted files of either notation stand for forms and scripts.
use Rattle.std.proofs.Common.{◌≡◌, ℕ, ◌≤◌, ◌<◌, ◌^◌, Bool, true, false, if◌then◌else◌, length, List, Result, Ok, lit<, subst, arith}
use Rattle.ct_input.specs.declared.limits.TheConstants.{PHASE_LIMIT}
use Rattle.ct_input.specs.declared.fault.Fault.{Fault}
use Rattle.ct_input.specs.Accepted.{IsAcceptedScript}
use Rattle.ct_input.specs.Files as texts
use Rattle.ct_input.proofs.Accepted.{text_is_script}
use Rattle.ct_input.proofs.Yields.{ok_same, bind-ok}
use Rattle.ct_form.specs.Forms.{Form}
use Rattle.ct_form.specs.EqualityForms.{plain_form, IsForm}
use Rattle.ct_form.proofs.Plain.{plain_is_itself}
use Rattle.ct_form_text.specs.Files as form_texts
use Rattle.ct_form_text.proofs.Accepted.{text_is_form}
use Rattle.ct_form_report.specs.FormCases.{form_case}
use Rattle.ct_json.specs.Values.{is_json}
use Rattle.ct_json.specs.Files.{instance_json, sessions_json}
use Rattle.ct_json.proofs.Accepted.{json_is_instance, json_is_script}
use Rattle.ct_report.specs.Limits.{IsCount}
use Rattle.ct_run.specs.Forms.{form_json, form_file, session_file}
use Rattle.ct_run.proofs.ReportLimits.{form_can_be_told, served_is_read, answered_is_read}
use Rattle.ct_promise.specs.Inputs.{FileIsForm, FileIsScript, ServedFileIsRead, AnsweredFileIsRead}

either_has : {A : Type 0} (P : A → Type 0) (test : Bool) (r q : Result A Fault) (x : A) → (r ≡ Ok x → P x) → (q ≡ Ok x → P x) → (if test then r else q) ≡ Ok x → P x
either_has P true r q x first second same = first same
either_has P false r q x first second same = second same

json_is_form : (bytes : List ℕ) (f : Form) → form_json bytes ≡ Ok f → IsForm f
json_is_form bytes f same =
    let i = bind-ok (instance_json bytes) (λ i. Ok (plain_form i)) f same in
    subst IsForm (ok_same (plain_form i.0) f i.1.1) (plain_is_itself i.0 (json_is_instance bytes i.0 i.1.0)).form

pub file_is_form : FileIsForm
unfolding form_file
file_is_form bytes f same = either_has IsForm (is_json bytes) (form_json bytes) (form_texts.form_file bytes) f (json_is_form bytes f) (text_is_form bytes f) same

pub file_is_script : FileIsScript
unfolding session_file
file_is_script m bytes script same =
    either_has (IsAcceptedScript m) (is_json bytes) (sessions_json m bytes) (texts.session_file m bytes) script (json_is_script m bytes script) (text_is_script m bytes script) same

-- ---- reports

few_are_counted : (n : ℕ) → n ≤ PHASE_LIMIT → IsCount n
few_are_counted n few = let small : PHASE_LIMIT < 2 ^ 62 = lit< tt in omega arith

pub served_file_is_read : ServedFileIsRead
served_file_is_read f form limit most walks levels opened script is report legal =
    served_is_read f.rows (form_case f limit walks levels opened) (form_can_be_told f form limit most walks levels opened) script is.0 (few_are_counted (length script.phases) is.1) report legal

pub answered_file_is_read : AnsweredFileIsRead
answered_file_is_read f form limit most walks levels opened script is report legal =
    answered_is_read f.rows (form_case f limit walks levels opened) (form_can_be_told f form limit most walks levels opened) script is.0 (few_are_counted (length script.phases) is.1) report legal
