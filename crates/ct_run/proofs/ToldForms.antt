-- A report of an equality form, as it is told of the form.
use Rattle.std.proofs.Common.{◌≡◌, ℕ, ℤ, zero, suc, ◌+◌, Bool, true, false, cond, List, [], ◌∷◌, ◌++◌, length, map, take, nat_eq, Result, Ok, Err, IfOk, refl, sym, ap, ap₂, subst, ◌∙◌, arith, length-take}
use Rattle.std.specs.List.{flat_map}
use Rattle.std.proofs.Math.Path.{fun_ext}
use Rattle.std.proofs.lemmas.List.{append-nil, map-append, take_all}
use Rattle.ct_order.specs.Order.{art_total_of}
use Rattle.ct_instance.specs.Instance.{Problem, IsInstance, column_count}
use Rattle.ct_instance.specs.Fiber.{least_of}
use Rattle.ct_instance.specs.Answer.{Outcome, optimum, infeasible, costs_of, answer_of}
use Rattle.ct_input.specs.declared.script.Request.{Request}
use Rattle.ct_input.specs.declared.script.Request.TheVariants.{Ask, Solve}
use Rattle.ct_input.specs.declared.script.Script.{Script}
use Rattle.ct_input.specs.Script.{IsScript}
use Rattle.ct_report.specs.declared.reports.Report.{Report}
use Rattle.ct_legal.specs.Cases.{Case, plain_case}
use Rattle.ct_legal.specs.Scripts.{with_solves}
use Rattle.ct_legal.specs.Legal.{IsLegalServed, IsLegalAnswered}
use Rattle.ct_form.specs.Forms.{Form, given_in}
use Rattle.ct_form.specs.EqualityForms.{row_slacks, equal_columns, equal_of, right_for, cut_to, form_answer_of, IsForm, plain_form}
use Rattle.ct_form.specs.Laws.{IsItself}
use Rattle.ct_form.proofs.Solutions.{length-equal_columns}
use Rattle.ct_form.proofs.Plain.{plain_is_itself}
use Rattle.ct_form_report.specs.FormCases.{form_case, script_with, widened, trimmed}
use Rattle.ct_form_report.specs.Laws.{opened_case}
use Rattle.ct_form_report.proofs.Trimmed.{trimmed_is_legal, widened_with_solves}
use Rattle.ct_form_report.proofs.Widened.{script_alone, widened_is_script}
use Rattle.ct_run.specs.declared.ending.Ending.{Ending}
use Rattle.ct_run.specs.declared.status.Status.TheVariants.{Done}
use Rattle.ct_run.specs.Outcome.{IsReportOf, IsServedReportOf}
use Rattle.ct_run.specs.Telling.{IsToldOf, HasToldText}

-- ---- forms without slack columns

none_of : {A : Type 0} (xs : List A) → length xs ≡ 0 → xs ≡ []
none_of [] e = refl
none_of (x ∷ xs) e = absurd (omega (arith, e))

-- cut to as many numbers as it has, an answer stays
cut-outcome : (n : ℕ) (test : Bool) (x : List ℕ) (costs : List ℤ) (short : ℕ) → take n x ≡ x →
    cut_to n (cond test (optimum x costs) (infeasible short)) ≡ cond test (optimum x costs) (infeasible short)
cut-outcome n true x costs short same = ap (λ y. optimum y costs) same
cut-outcome n false x costs short same = refl

cut-answer : (i : Problem) (n : ℕ) → column_count i ≡ n → (b : List ℕ) → cut_to n (answer_of i b) ≡ answer_of i b
cut-answer i n same b =
    let p : List ℕ = least_of i b in
    let x : List ℕ = take (column_count i) p in
    cut-outcome n (nat_eq (art_total_of (column_count i) p) 0) x (costs_of i x) (art_total_of (column_count i) p)
    (take_all n x (omega (arith, same, length-take (column_count i) p)))

abbrev case_with : Problem → ℕ → Bool → Bool → ℕ → (List ℕ → List ℕ) → (List ℕ → Outcome) → Case
case_with i limit walks levels opened right shown =
    record { instance = i; right = right; shown = shown; limit = limit; walks = walks; levels = levels; opened = opened }

module _ (f : Form) (form : IsForm f) (none : column_count (equal_of f) ≡ length f.columns) where
  no_bounds : given_in f.bounds ≡ []
  no_bounds =
      let all : length (equal_columns f) ≡ length f.columns + (length (row_slacks f.relations) + length (given_in f.bounds)) = length-equal_columns f form in
      none_of (given_in f.bounds) (omega (arith, all, none))

  same_right : (b : List ℕ) → right_for f b ≡ b
  same_right b = ap (λ us. b ++ us) no_bounds ∙ append-nil b

  same_case : (limit : ℕ) (walks levels : Bool) (opened : ℕ) → form_case f limit walks levels opened ≡ opened_case (plain_case (equal_of f) limit walks levels) opened
  same_case limit walks levels opened =
      let shown : (b : List ℕ) → form_answer_of f b ≡ answer_of (equal_of f) b =
      λ b. ap (λ c. cut_to (length f.columns) (answer_of (equal_of f) c)) (same_right b) ∙ cut-answer (equal_of f) (length f.columns) none b in
      ap₂ (case_with (equal_of f) limit walks levels opened) (fun_ext same_right) (fun_ext shown)

  -- of such a form the report is told as it is
  pub told_whole : (report : Report) → IsToldOf f report report
  told_whole report = λ limit walks levels opened script legal.
      subst (λ (c : Case). IsLegalServed c script report) (sym (same_case limit walks levels opened))
      (subst (λ (s : Script). IsLegalServed (opened_case (plain_case (equal_of f) limit walks levels) opened) s report) (ap (λ us. script_with us script) no_bounds ∙ script_alone script) legal)

pub plain_form_case : (i : Problem) → IsInstance i → (limit : ℕ) (walks levels : Bool) → form_case (plain_form i) limit walks levels 0 ≡ plain_case i limit walks levels
plain_form_case i inst limit walks levels =
    let is : IsItself i = plain_is_itself i inst in
    same_case (plain_form i) is.form (ap (λ (p : Problem). column_count p) is.equal) limit walks levels 0 ∙ ap (λ (p : Problem). plain_case p limit walks levels) is.equal

-- ---- reports

-- of each form the report is told with its points cut
pub told_trimmed : {E : Type 0} (f : Form) (report : Report) (columns : ℕ) → columns ≡ length f.columns → (r : Result Report E) →
    IfOk r (λ told. told ≡ trimmed columns report) → IfOk r (IsToldOf f report)
told_trimmed f report columns same (Ok told) is = λ limit walks levels opened script legal.
    subst (λ (t : Report). IsLegalServed (form_case f limit walks levels opened) script t) (sym (is ∙ ap (λ n. trimmed n report) same)) (trimmed_is_legal f limit walks levels opened script report legal)
told_trimmed f report columns same (Err e) is = tt

-- a widened script is one of the equality form
pub wide_scripts : {E : Type 0} (f : Form) → IsForm f → (script : Script) → IsScript f.rows script → (given : List ℕ) → given ≡ given_in f.bounds → (r : Result Script E) →
    IfOk r (λ wide. wide ≡ script_with given script) → IfOk r (λ wide. wide ≡ widened f script) × IfOk r (IsScript (equal_of f).rows)
wide_scripts f form script rows given same (Ok wide) is =
    let whole : wide ≡ widened f script = is ∙ ap (λ us. script_with us script) same in
    (whole, subst (λ (s : Script). IsScript (equal_of f).rows s) (sym whole) (widened_is_script f form script rows))
wide_scripts f form script rows given same (Err e) is = (tt, tt)

pub ok_weaker : {A E : Type 0} (P Q : A → Type 0) (r : Result A E) → ((x : A) → P x → Q x) → IfOk r P → IfOk r Q
ok_weaker P Q (Ok x) weaker holds = weaker x holds
ok_weaker P Q (Err e) weaker holds = tt

module _ (f : Form) (i : Problem) (same : i ≡ equal_of f) (script wide : Script) (is : wide ≡ widened f script) where
  module _ {E : Type 0} (limit : ℕ) (walks levels : Bool) (report : Report) (r : Result Ending E)
      (told : IfOk r (λ ending. (ending.status ≡ Done) × HasToldText f report ending.text)) where
    pub served_told : (opened : ℕ) → IsLegalServed (opened_case (plain_case i limit walks levels) opened) wide report →
        IfOk r (λ ending. (ending.status ≡ Done) × IsServedReportOf (form_case f limit walks levels opened) script ending.text)
    served_told opened legal =
        let of_form : IsLegalServed (opened_case (plain_case (equal_of f) limit walks levels) opened) (widened f script) report =
        subst (λ (s : Script). IsLegalServed (opened_case (plain_case (equal_of f) limit walks levels) opened) s report) is
        (subst (λ (p : Problem). IsLegalServed (opened_case (plain_case p limit walks levels) opened) wide report) same legal) in
        ok_weaker _ _ r (λ ending to. (to.0, ((to.1).0, ((to.1).1 limit walks levels opened script of_form, (to.1).2)))) told

    pub answered_told : IsLegalAnswered (plain_case i limit walks levels) wide report →
        IfOk r (λ ending. (ending.status ≡ Done) × IsReportOf (form_case f limit walks levels 0) script ending.text)
    answered_told legal =
        let solves : with_solves wide ≡ widened f (with_solves script) = ap with_solves is ∙ widened_with_solves f script in
        let of_form : IsLegalServed (plain_case (equal_of f) limit walks levels) (widened f (with_solves script)) report =
        subst (λ (s : Script). IsLegalServed (plain_case (equal_of f) limit walks levels) s report) solves
        (subst (λ (p : Problem). IsLegalServed (plain_case p limit walks levels) (with_solves wide) report) same legal) in
        ok_weaker _ _ r (λ ending to. (to.0, ((to.1).0, ((to.1).1 limit walks levels 0 (with_solves script) of_form, (to.1).2)))) told
