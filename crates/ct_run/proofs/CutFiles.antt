-- A text that was cut short is refused, and isn't read as JSON either.
use Rattle.std.proofs.Common.{◌≡◌, ◌==◌, ℕ, Bool, true, false, cond, List, [], ◌∷◌, ◌++◌, Result, IsOk, IsErr, refl, sym, ap, subst}
use Rattle.ct_text.specs.Tokens.{is_blank}
use Rattle.ct_form.specs.Forms.{Form}
use Rattle.ct_form_text.specs.Files as form_texts
use Rattle.ct_form_text.proofs.Cut.{form_cut}
use Rattle.ct_input.specs.declared.fault.Fault.{Fault}
use Rattle.ct_input.specs.declared.script.Script.{Script}
use Rattle.ct_input.specs.Files as texts
use Rattle.ct_input.specs.Cut.{IsCutBefore}
use Rattle.ct_input.proofs.CutTexts.{sessions_cut}
use Rattle.ct_json.specs.Values.{is_json}
use Rattle.ct_json.specs.Files.{sessions_json}
use Rattle.ct_run.specs.Forms.{form_json, form_file, session_file}

still_none : (blank mark whole front : Bool) → (whole ≡ false → front ≡ false) → cond blank whole mark ≡ false → cond blank front mark ≡ false
still_none true mark whole front later h = later h
still_none false mark whole front later h = h

-- the front of a text is no JSON
json_stays : (front more : List ℕ) → is_json (front ++ more) ≡ false → is_json front ≡ false
json_stays [] more h = refl
json_stays (byte ∷ front) more h = still_none (is_blank byte) (byte == 123) (is_json (front ++ more)) (is_json front) (json_stays front more) h

form_as_text : (bytes : List ℕ) → is_json bytes ≡ false → form_file bytes ≡ form_texts.form_file bytes
unfolding form_file
form_as_text bytes h = ap (λ (b : Bool). cond b (form_json bytes) (form_texts.form_file bytes)) h

sessions_as_text : (m : ℕ) (bytes : List ℕ) → is_json bytes ≡ false → session_file m bytes ≡ texts.session_file m bytes
unfolding session_file
sessions_as_text m bytes h = ap (λ (b : Bool). cond b (sessions_json m bytes) (texts.session_file m bytes)) h

pub form_text_cut : (front more : List ℕ) → is_json (front ++ more) ≡ false → IsOk (form_file (front ++ more)) → IsCutBefore front more → IsErr (form_file front)
form_text_cut front more text whole is_cut =
    let read : IsOk (form_texts.form_file (front ++ more)) = subst (λ (r : Result Form Fault). IsOk r) (form_as_text (front ++ more) text) whole in
    subst (λ (r : Result Form Fault). IsErr r) (sym (form_as_text front (json_stays front more text))) (form_cut front more read is_cut)

pub session_text_cut : (m : ℕ) (front more : List ℕ) → is_json (front ++ more) ≡ false → IsOk (session_file m (front ++ more)) → IsCutBefore front more → IsErr (session_file m front)
session_text_cut m front more text whole is_cut =
    let read : IsOk (texts.session_file m (front ++ more)) = subst (λ (r : Result Script Fault). IsOk r) (sessions_as_text m (front ++ more) text) whole in
    subst (λ (r : Result Script Fault). IsErr r) (sym (sessions_as_text m front (json_stays front more text))) (sessions_cut m front more read is_cut)
