-- A file over its limit has that fault, whatever of it was read past the limit.
use Rattle.std.proofs.Common.{◌≡◌, ℕ, ◌+◌, ◌<◌, Bool, true, false, if◌then◌else◌, List, length, take, Result, Err, ⊎_elim, refl, ap, sym, ◌∙◌, arith, length-take}
use Rattle.std.proofs.lemmas.Bool.{cases_lt, lt-ltb}
use Rattle.std.proofs.lemmas.List.{take_all}
use Rattle.ct_input.specs.declared.limits.TheConstants.{INSTANCE_FILE_LIMIT, SESSION_FILE_LIMIT}
use Rattle.ct_input.specs.declared.fault.Fault.{Fault}
use Rattle.ct_input.specs.declared.fault.Fault.TheVariants.{TooLong}
use Rattle.ct_input.specs.Files as texts
use Rattle.ct_form_text.specs.Files as form_texts
use Rattle.ct_json.specs.Values.{is_json}
use Rattle.ct_json.specs.Files.{instance_json, sessions_json}
use Rattle.ct_run.specs.Forms.{form_json, form_file, session_file}

-- the same by either reader
either : {A : Type 0} (test : Bool) (first second value : A) → first ≡ value → second ≡ value → (if test then first else second) ≡ value
either true first second value is same = is
either false first second value is same = same

form-too_long : (bytes : List ℕ) → INSTANCE_FILE_LIMIT < length bytes → form_file bytes ≡ Err TooLong
unfolding form_file instance_json form_texts.form_file
form-too_long bytes long =
    let over = lt-ltb INSTANCE_FILE_LIMIT (length bytes) long in
    either (is_json bytes) (form_json bytes) (form_texts.form_file bytes) (Err TooLong) (rw over refl) (rw over refl)

sessions-too_long : (m : ℕ) (bytes : List ℕ) → SESSION_FILE_LIMIT < length bytes → session_file m bytes ≡ Err TooLong
unfolding session_file sessions_json texts.session_file
sessions-too_long m bytes long =
    let over = lt-ltb SESSION_FILE_LIMIT (length bytes) long in
    either (is_json bytes) (sessions_json m bytes) (texts.session_file m bytes) (Err TooLong) (rw over refl) (rw over refl)

-- what a file stands for that has a limit is told by the bytes up to the limit and one more
front_tells : {A : Type 0} (value_of : List ℕ → Result A Fault) (limit : ℕ) → ((bytes : List ℕ) → limit < length bytes → value_of bytes ≡ Err TooLong) →
    (bytes : List ℕ) → value_of (take (limit + 1) bytes) ≡ value_of bytes
front_tells value_of limit long bytes =
    ⊎_elim
    (λ over. long (take (limit + 1) bytes) (omega (arith, length-take (limit + 1) bytes)) ∙ sym (long bytes over))
    (λ within. ap value_of (take_all (limit + 1) bytes (omega arith)))
    (cases_lt limit (length bytes))

pub form-front : (bytes : List ℕ) → form_file (take (INSTANCE_FILE_LIMIT + 1) bytes) ≡ form_file bytes
form-front = front_tells form_file INSTANCE_FILE_LIMIT form-too_long

pub sessions-front : (m : ℕ) (bytes : List ℕ) → session_file m (take (SESSION_FILE_LIMIT + 1) bytes) ≡ session_file m bytes
sessions-front m = front_tells (session_file m) SESSION_FILE_LIMIT (sessions-too_long m)
