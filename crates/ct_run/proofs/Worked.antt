-- The definitions on worked examples, by computation.
use Rattle.std.proofs.Common.{pos, negsuc, ◌≡◌, ℕ, ◌*◌, nat_lt, cond, length, Bool, true, false, List, ◌++◌, [], ◌∷◌, Option, None, Some, Result, Ok, Err, refl, codes}
use Rattle.std.specs.Fmt.{digits}
use Rattle.ct_instance.specs.Instance.{Problem}
use Rattle.ct_form.specs.Forms.{Form}
use Rattle.ct_form.specs.EqualityForms.{equal_of}
use Rattle.ct_input.specs.declared.fault.Fault.TheVariants.{TooLong, Text}
use Rattle.ct_input.specs.declared.fault.TextReason.TheVariants.{ZeroColumn}
use Rattle.ct_input.specs.declared.script.Script.{Script}
use Rattle.ct_legal.specs.Cases.{Case}
use Rattle.ct_run.specs.Texts.{newline}
use Rattle.ct_outside.specs.Shelf.{Told, untold, absent, holds}
use Rattle.ct_input.specs.declared.fault.Fault.{Fault}
use Rattle.ct_run.specs.Forms.{form_file, session_file}
use Rattle.ct_run.specs.declared.status.Status.TheVariants.{Done, Usage, BadInstance, BadSessions, BadLedger, LedgerRefused, Full, NotReduced, TooMany}
use Rattle.ct_text.specs.Numbers.{natural_of}
use Rattle.ct_words.specs.Parts.{parts_of}
use Rattle.ct_words.specs.Said.{places_of}
use Rattle.ct_run.specs.Words.{Work, answer, best, box, certify, check, Command, on, make, serve, command_of}
use Rattle.ct_instance.specs.Reach.{full_grade_up_to}
use Rattle.ct_ledger.specs.Parts.{LedgerParts}
use Rattle.ct_checker.specs.declared.verdicts.Verdict.{Verdict}
use Rattle.ct_checker.specs.declared.verdicts.Verdict.TheVariants.{Accepted, Refused}
use Rattle.ct_checker.specs.Checking.{verdict_of}
use Rattle.ct_run.specs.Checked.{IsVerdictEnding, IsLedgerEnding, over, faulty, bad, weighed}
use Rattle.ct_run.specs.Resumption.{IsResumption, refused, unreduced, opens}
use Rattle.ct_best_report.specs.BestReport.{rights_in}
use Rattle.ct_answer.specs.declared.options.Options.{Options}
use Rattle.ct_run.specs.Outcome.{bad_instance, bad_sessions, answered, listed, too_many, boxed, served, IsEnding, Wrote}
use Rattle.ct_run.specs.Plan.{ends, by_value, case_of, listed_or_too_many, ledger_or_full, served_plan, serve_plan, work_plan, instance_plan, plan_of}
use Rattle.ct_run.specs.Running.{HasBytes, Ends}

zero_column_line : IsEnding (bad_instance (Text 5 3 ZeroColumn)) BadInstance (codes "bad instance: line 5 column 3: zero column" ++ newline)
unfolding digits
zero_column_line = (refl, refl)

too_long_line : IsEnding (bad_instance TooLong) BadInstance (codes "bad instance: too long" ++ newline)
too_long_line = (refl, refl)

-- ---- words

three_words : command_of (codes "answer" ∷ codes "-" ∷ codes "S" ∷ []) ≡ Some (on (codes "-") (answer (codes "S") false false false 4096))
unfolding parts_of places_of
three_words = refl

options_of_answer : command_of (codes "answer" ∷ codes "--moves=2" ∷ codes "--" ∷ codes "K" ∷ codes "-S" ∷ []) ≡ Some (on (codes "K") (answer (codes "-S") false false false 2))
unfolding parts_of places_of natural_of
options_of_answer = refl

a_grade : command_of (codes "certify" ∷ codes "K" ∷ codes "15" ∷ []) ≡ Some (on (codes "K") (certify 15 4096))
unfolding parts_of places_of natural_of
a_grade = refl

a_number : command_of (codes "make" ∷ codes "18446744073709551615" ∷ []) ≡ Some (make 18446744073709551615)
unfolding parts_of places_of natural_of
a_number = refl

four_workers : command_of (codes "serve" ∷ codes "K" ∷ codes "S" ∷ codes "--levels" ∷ []) ≡ Some (serve (codes "K") (codes "S") None 4 false true 4096)
unfolding parts_of places_of natural_of
four_workers = refl

no_workers : command_of (codes "serve" ∷ codes "K" ∷ codes "S" ∷ codes "--workers=0" ∷ []) ≡ Some (serve (codes "K") (codes "S") None 0 false false 4096)
unfolding parts_of places_of natural_of
no_workers = refl

a_dash : command_of (codes "answer" ∷ codes "K" ∷ codes "-S" ∷ []) ≡ None
unfolding parts_of places_of
a_dash = refl

four_words : command_of (codes "check" ∷ codes "K" ∷ codes "L" ∷ codes "L" ∷ []) ≡ None
unfolding parts_of places_of
four_words = refl

-- ---- the status Usage is that of words that are no command, and of no others

of_bytes : (told : Told) (P : List ℕ → Type 0) (G : Type 0) → ((bytes : List ℕ) → P bytes → G) → HasBytes told P → G
of_bytes untold P G f h = f h.0 h.1
of_bytes absent P G f h = absurd h
of_bytes (holds bytes) P G f h = f bytes h

no_usage_by_sessions : (read : Result Script Fault) (c : Case) (told : List ℕ → Told) (old new : Option (List ℕ)) →
    Ends (by_value bad_sessions (λ script. ends (answered c script)) read) told (Wrote Usage old new) → ⊥
no_usage_by_sessions (Ok script) c told old new wrote = let no : Usage ≡ Done = wrote.1.0.0 in cc
no_usage_by_sessions (Err fault) c told old new wrote = let no : Usage ≡ BadSessions = wrote.1.0.0 in cc

no_usage_of_grade : (found : Option ℕ) (i : Problem) (grade : ℕ) (old new : Option (List ℕ)) → Wrote Usage old new (ledger_or_full i grade found) → ⊥
no_usage_of_grade None i grade old new wrote = let no : Usage ≡ Done = wrote.1.0.0 in cc
no_usage_of_grade (Some first) i grade old new wrote = let no : Usage ≡ Full = wrote.1.0.0 in cc

no_usage_of_verdict : (v : Verdict) (i : Problem) (l : LedgerParts) (text : List ℕ) → IsVerdictEnding i l v Usage text → ⊥
no_usage_of_verdict (Accepted grade moves) i l text h = let no : Usage ≡ Done = h.1.0 in cc
no_usage_of_verdict (Refused line reason) i l text h = let no : Usage ≡ LedgerRefused = h.1.0 in cc

no_usage_of_resumption : (c : Case) (script : Script) (l : LedgerParts) (text : List ℕ) → IsResumption c script l Usage text → ⊥
no_usage_of_resumption c script l text (refused line reason first own same) = let no : Usage ≡ LedgerRefused = own in cc
no_usage_of_resumption c script l text (unreduced number accepted first own same) = let no : Usage ≡ NotReduced = own in cc
no_usage_of_resumption c script l text (opens accepted reduced own report legal written) = let no : Usage ≡ Done = own in cc

no_usage_of_ledger : (bytes text : List ℕ) (Weighed : LedgerParts → Type 0) → ((l : LedgerParts) → Weighed l → ⊥) → IsLedgerEnding bytes Usage text Weighed → ⊥
no_usage_of_ledger bytes text Weighed other (bad (over long own same)) = let no : Usage ≡ BadLedger = own in cc
no_usage_of_ledger bytes text Weighed other (bad (faulty line within fault own same)) = let no : Usage ≡ BadLedger = own in cc
no_usage_of_ledger bytes text Weighed other (weighed l file ends_so) = other l ends_so

no_usage_of_listing : (read : Result Script Fault) (c : Case) (n count : ℕ) (told : List ℕ → Told) (old new : Option (List ℕ)) →
    Ends (by_value bad_sessions (λ script. ends (listed_or_too_many c n count script)) read) told (Wrote Usage old new) → ⊥
no_usage_of_listing (Ok script) c n count told old new wrote = by_count (nat_lt 10000 (length (rights_in script) * count)) wrote
  where
    by_count : (b : Bool) → Ends (ends (cond b (too_many (length (rights_in script))) (listed c n count script))) told (Wrote Usage old new) → ⊥
    by_count true wrote = let no : Usage ≡ TooMany = wrote.1.0.0 in cc
    by_count false wrote = let no : Usage ≡ Done = wrote.1.0.0 in cc
no_usage_of_listing (Err fault) c n count told old new wrote = let no : Usage ≡ BadSessions = wrote.1.0.0 in cc

no_usage_of_box : (read : Result Script Fault) (f : Form) (limit : ℕ) (walks : Bool) (told : List ℕ → Told) (old new : Option (List ℕ)) →
    Ends (by_value bad_sessions (λ script. ends (boxed f limit walks script)) read) told (Wrote Usage old new) → ⊥
no_usage_of_box (Ok script) f limit walks told old new wrote = let no : Usage ≡ Done = wrote.1.0.0 in cc
no_usage_of_box (Err fault) f limit walks told old new wrote = let no : Usage ≡ BadSessions = wrote.1.0.0 in cc

no_usage_by_work : (work : Work) (f : Form) (told : List ℕ → Told) (old new : Option (List ℕ)) → Ends (work_plan work f) told (Wrote Usage old new) → ⊥
no_usage_by_work (answer sessions walks levels batch moves) f told old new wrote =
    of_bytes (told sessions) _ ⊥ (λ bytes. no_usage_by_sessions (session_file f.rows bytes) (case_of (record { limit = moves; walks = walks; levels = levels }) f) told old new) wrote
no_usage_by_work (best sessions count moves) f told old new wrote =
    of_bytes (told sessions) _ ⊥ (λ bytes. no_usage_of_listing (session_file f.rows bytes) (case_of (record { limit = moves; walks = false; levels = false }) f) (length f.columns) count told old new) wrote
no_usage_by_work (box sessions walks moves) f told old new wrote =
    of_bytes (told sessions) _ ⊥ (λ bytes. no_usage_of_box (session_file f.rows bytes) f moves walks told old new) wrote
no_usage_by_work (certify grade moves) f told old new wrote = no_usage_of_grade (full_grade_up_to (equal_of f) moves grade) (equal_of f) grade old new wrote
no_usage_by_work (check ledger batch) f told old new wrote = of_bytes (told ledger) _ ⊥ (λ bytes w. no_usage_of_ledger bytes w.0 (λ l. IsVerdictEnding (equal_of f) l (verdict_of (equal_of f) l) Usage w.0)
    (λ l verdict. no_usage_of_verdict (verdict_of (equal_of f) l) (equal_of f) l w.0 verdict) w.1.0) wrote

no_usage : (read : Result Form Fault) (work : Work) (told : List ℕ → Told) (old new : Option (List ℕ)) →
    Ends (by_value bad_instance (work_plan work) read) told (Wrote Usage old new) → ⊥
no_usage (Ok f) work told old new wrote = no_usage_by_work work f told old new wrote
no_usage (Err fault) work told old new wrote = let no : Usage ≡ BadInstance = wrote.1.0.0 in cc

no_usage_served : (read : Result Script Fault) (resume : Option (List ℕ)) (c : Case) (told : List ℕ → Told) (old new : Option (List ℕ)) →
    Ends (by_value bad_sessions (served_plan resume c) read) told (Wrote Usage old new) → ⊥
no_usage_served (Ok script) None c told old new wrote = let no : Usage ≡ Done = wrote.1.0.0 in cc
no_usage_served (Ok script) (Some ledger) c told old new wrote =
    of_bytes (told ledger) _ ⊥ (λ bytes w. no_usage_of_ledger bytes w.0 (λ l. IsResumption c script l Usage w.0) (λ l is. no_usage_of_resumption c script l w.0 is) w.1.0) wrote
no_usage_served (Err fault) resume c told old new wrote = let no : Usage ≡ BadSessions = wrote.1.0.0 in cc

no_usage_by_serving : (read : Result Form Fault) (options : Options) (sessions : List ℕ) (resume : Option (List ℕ)) (told : List ℕ → Told) (old new : Option (List ℕ)) →
    Ends (by_value bad_instance (serve_plan sessions resume options) read) told (Wrote Usage old new) → ⊥
no_usage_by_serving (Ok f) options sessions resume told old new wrote =
    of_bytes (told sessions) _ ⊥ (λ bytes. no_usage_served (session_file f.rows bytes) resume (case_of options f) told old new) wrote
no_usage_by_serving (Err fault) options sessions resume told old new wrote = let no : Usage ≡ BadInstance = wrote.1.0.0 in cc

usage_only : (command : Option Command) (told : List ℕ → Told) (old new : Option (List ℕ)) → Ends (plan_of command) told (Wrote Usage old new) → command ≡ None
usage_only None told old new wrote = refl
usage_only (Some (on instance work)) told old new wrote =
    absurd (of_bytes (told instance) _ ⊥ (λ bytes. no_usage (form_file bytes) work told old new) wrote)
usage_only (Some (make number)) told old new wrote = let no : Usage ≡ Done = wrote.1.0.0 in absurd (cc)
usage_only (Some (serve instance sessions resume workers walks levels moves)) told old new wrote =
    absurd (of_bytes (told instance) _ ⊥ (λ bytes. no_usage_by_serving (form_file bytes) (record { limit = moves; walks = walks; levels = levels }) sessions resume told old new) wrote)
