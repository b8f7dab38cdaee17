-- What is told of the least solutions of a form, by those of its equality form.
use Rattle.std.proofs.Common.{◌≡◌, ℕ, ◌*◌, nat_lt, Bool, true, false, cond, List, [], ◌∷◌, ◌++◌, length, map, Result, Ok, Err, IfOk, refl, sym, ap, ap₂, subst, ◌∙◌}
use Rattle.std.specs.List.{flat_map, AllZip}
use Rattle.std.proofs.lemmas.List.{length-map, map-append}
use Rattle.ct_instance.specs.Instance.{Problem}
use Rattle.ct_input.specs.declared.script.Request.{Request}
use Rattle.ct_input.specs.declared.script.Request.TheVariants.{Ask, Solve}
use Rattle.ct_input.specs.declared.script.Phase.{Phase}
use Rattle.ct_input.specs.declared.script.Script.{Script}
use Rattle.ct_input.specs.Script.{right_of}
use Rattle.ct_legal.specs.Cases.{Case, plain_case}
use Rattle.ct_form.specs.Forms.{Form, given_in}
use Rattle.ct_form.specs.EqualityForms.{equal_of, right_for}
use Rattle.ct_form_report.specs.FormCases.{form_case, request_with, phase_with, widened}
use Rattle.ct_best_report.specs.declared.reports.BestAnswer.{BestAnswer}
use Rattle.ct_best_report.specs.declared.reports.BestAnswer.TheVariants.{Full, Found}
use Rattle.ct_best_report.specs.BestReport.{rights_in, IsBestAnswer, IsBestReport}
use Rattle.ct_run.specs.declared.ending.Ending.{Ending}
use Rattle.ct_run.specs.declared.status.Status.{Status}
use Rattle.ct_run.specs.Outcome.{too_many, listed, IsEnding}
use Rattle.ct_run.specs.Plan.{listed_or_too_many}
use Rattle.ct_run.specs.Stopping.{Fits}

-- ---- the numbers of requests

right-with : (us : List ℕ) (request : Request) → right_of (request_with us request) ≡ right_of request ++ us
right-with us (Ask b) = refl
right-with us (Solve b) = refl

rights-requests : (us : List ℕ) (requests : List Request) → map right_of (map (request_with us) requests) ≡ map (λ b. b ++ us) (map right_of requests)
rights-requests us [] = refl
rights-requests us (request ∷ requests) = ap₂ ◌∷◌ (right-with us request) (rights-requests us requests)

abbrev rights_of_session : List Request → List (List ℕ)
rights_of_session requests = map right_of requests

abbrev rights_of_phase : Phase → List (List ℕ)
rights_of_phase phase = flat_map rights_of_session phase.sessions

rights-sessions : (us : List ℕ) (sessions : List (List Request)) →
    flat_map rights_of_session (map (map (request_with us)) sessions) ≡ map (λ b. b ++ us) (flat_map rights_of_session sessions)
rights-sessions us [] = refl
rights-sessions us (requests ∷ sessions) =
    ap₂ ◌++◌ (rights-requests us requests) (rights-sessions us sessions) ∙ sym (map-append (λ b. b ++ us) (rights_of_session requests) (flat_map rights_of_session sessions))

rights-phases : (us : List ℕ) (phases : List Phase) → flat_map rights_of_phase (map (phase_with us) phases) ≡ map (λ b. b ++ us) (flat_map rights_of_phase phases)
rights-phases us [] = refl
rights-phases us (phase ∷ phases) =
    ap₂ ◌++◌ (rights-sessions us phase.sessions) (rights-phases us phases) ∙ sym (map-append (λ b. b ++ us) (rights_of_phase phase) (flat_map rights_of_phase phases))

pub rights-widened : (f : Form) (script : Script) → rights_in (widened f script) ≡ map (right_for f) (rights_in script)
rights-widened f script = rights-phases (given_in f.bounds) script.phases

pub rights-count : (f : Form) (script wide : Script) → wide ≡ widened f script → length (rights_in wide) ≡ length (rights_in script)
rights-count f script wide is =
    ap (λ s. length (rights_in s)) is ∙ ap (λ (bs : List (List ℕ)). length bs) (rights-widened f script) ∙ length-map (rights_in script) (right_for f)

-- ---- what is told of them

zip_from : {X Y Z : Type 0} (g : X → Z) (R : Z → Y → Type 0) (S : X → Y → Type 0) → ((x : X) (y : Y) → R (g x) y → S x y) → (xs : List X) (ys : List Y) → AllZip R (map g xs) ys → AllZip S xs ys
zip_from g R S one [] [] h = h
zip_from g R S one [] (y ∷ ys) h = absurd h
zip_from g R S one (x ∷ xs) [] h = absurd h
zip_from g R S one (x ∷ xs) (y ∷ ys) h = (one x y h.0, zip_from g R S one xs ys h.1)

module _ (f : Form) (limit : ℕ) (walks levels : Bool) (count : ℕ) where
  abbrev n : ℕ
  n = length f.columns

  one_told : (b : List ℕ) (answer : BestAnswer) → IsBestAnswer (plain_case (equal_of f) limit false false) n count (right_for f b) answer →
      IsBestAnswer (form_case f limit walks levels 0) n count b answer
  one_told b (Full grade) h = h
  one_told b (Found solutions) h = h

  pub listed_told : (i : Problem) → i ≡ equal_of f → (columns : ℕ) → columns ≡ n → (script wide : Script) → wide ≡ widened f script →
      (rights : List (List ℕ)) → rights ≡ rights_in wide → (answers : List BestAnswer) →
      AllZip (IsBestAnswer (plain_case i limit false false) columns count) rights answers → IsBestReport (form_case f limit walks levels 0) n count script answers
  listed_told i same columns width script wide is rights are answers h =
      let of_form : AllZip (IsBestAnswer (plain_case (equal_of f) limit false false) columns count) rights answers =
      subst (λ (p : Problem). AllZip (IsBestAnswer (plain_case p limit false false) columns count) rights answers) same h in
      let of_columns : AllZip (IsBestAnswer (plain_case (equal_of f) limit false false) n count) rights answers =
      subst (λ (k : ℕ). AllZip (IsBestAnswer (plain_case (equal_of f) limit false false) k count) rights answers) width of_form in
      zip_from (right_for f) (IsBestAnswer (plain_case (equal_of f) limit false false) n count) (IsBestAnswer (form_case f limit walks levels 0) n count) one_told (rights_in script) answers
      (subst (λ (bs : List (List ℕ)). AllZip (IsBestAnswer (plain_case (equal_of f) limit false false) n count) bs answers)
      (are ∙ ap rights_in is ∙ rights-widened f script) of_columns)

-- ---- too many

-- as many times the count are above the limit, or not
by_count : (c : Case) (n count : ℕ) (script : Script) (k : ℕ) → k ≡ length (rights_in script) → (status : Status) (text : List ℕ) (test : Bool) → test ≡ nat_lt 10000 (k * count) →
    IsEnding (cond test (too_many k) (listed c n count script)) status text → IsEnding (listed_or_too_many c n count script) status text
by_count c n count script k same status text test is ends =
    subst (λ (m : ℕ). IsEnding (cond (nat_lt 10000 (m * count)) (too_many m) (listed c n count script)) status text) same
    (subst (λ (t : Bool). IsEnding (cond t (too_many k) (listed c n count script)) status text) is ends)

pub counted_too_many : {E : Type 0} (c : Case) (n count : ℕ) (script : Script) (k : ℕ) → k ≡ length (rights_in script) → (test : Bool) → test ≡ nat_lt 10000 (k * count) → test ≡ true →
    (r : Result Ending E) → IfOk r (λ ending. Fits (too_many k) ending) → IfOk r (λ ending. Fits (listed_or_too_many c n count script) ending)
counted_too_many c n count script k same test is above (Ok ending) fits =
    by_count c n count script k same ending.status ending.text test is
    (subst (λ (t : Bool). IsEnding (cond t (too_many k) (listed c n count script)) ending.status ending.text) (sym above) fits)
counted_too_many c n count script k same test is above (Err e) fits = tt

pub counted_few : (c : Case) (n count : ℕ) (script : Script) (k : ℕ) → k ≡ length (rights_in script) → (test : Bool) → test ≡ nat_lt 10000 (k * count) → test ≡ false →
    (status : Status) (text : List ℕ) → IsEnding (listed c n count script) status text → IsEnding (listed_or_too_many c n count script) status text
counted_few c n count script k same test is below status text ends =
    by_count c n count script k same status text test is
    (subst (λ (t : Bool). IsEnding (cond t (too_many k) (listed c n count script)) status text) (sym below) ends)
