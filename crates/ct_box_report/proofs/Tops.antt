-- The bound of a script is one, and each right-hand side of the script is within it.
use Rattle.std.proofs.Common.{ℕ, ◌+◌, ◌≤◌, ◌<◌, ◌≡◌, max, List, [], ◌∷◌, ◌++◌, length, get_or, take, All, refl, sym, ap, subst, ◌∙◌, arith}
use Rattle.std.specs.List.{fold}
use Rattle.std.proofs.lemmas.List.{length-append}
use Rattle.std.proofs.lemmas.List.Sums.{fold-append}
use Rattle.std.proofs.lemmas.List.Elements.{All-nil, All-cons, All-head, All-tail, All-append, All-weaker}
use Rattle.ct_vectors.specs.declared.limits.TheConstants.{RIGHT_LIMIT}
use Rattle.ct_vectors.specs.Vectors.{lcm, zeros, Divides}
use Rattle.ct_vectors.proofs.Divisors.{length-lcm, Divides-lcm, Divides-lcm_right, Divides-refl, Divides-trans}
use Rattle.ct_input.specs.declared.script.Request.{Request}
use Rattle.ct_input.specs.declared.script.Phase.{Phase}
use Rattle.ct_input.specs.declared.script.Script.{Script}
use Rattle.ct_input.specs.Script.{right_of, IsRequest, IsPhase, IsScript}
use Rattle.ct_form.specs.Forms.{Form, given_in}
use Rattle.ct_form.specs.EqualityForms.{equal_of, right_for, IsForm}
use Rattle.ct_answer.proofs.Pairing.{one_more}
use Rattle.ct_box_report.specs.BoxReport.{top_with_request, top_with_session, top_with_phase, box_top}
use Rattle.ct_box_report.specs.Boxes.{IsTop, IsCovered, IsCoveredPhase}

-- ---- folds

pub fold_more : {X A : Type 0} (h : A → X → A) (a t : A) (xs : List X) (k : ℕ) (x : X) → k < length xs → x ≡ get_or xs k x → t ≡ fold h a (take k xs) →
    h t x ≡ fold h a (take (k + 1) xs)
fold_more h a t xs k x inside is so_far =
    ap (λ y. h y x) so_far ∙ sym (fold-append h a (take k xs) (x ∷ [])) ∙ ap (fold h a) (one_more xs k x inside is)

-- a fold that only grows covers each of its items
fold_covers : {X : Type 0} (h : List ℕ → X → List ℕ) (Q : X → List ℕ → Type 0) → ((x : X) (t u : List ℕ) → Q x t → Divides t u → Q x u) →
    ((t : List ℕ) (x : X) → Divides t (h t x)) → ((t : List ℕ) (x : X) → Q x (h t x)) → (xs : List X) (t : List ℕ) →
    Divides t (fold h t xs) × All (λ x. Q x (fold h t xs)) xs
fold_covers h Q mono up has [] t = (Divides-refl t, All-nil (λ x. Q x t))
fold_covers h Q mono up has (x ∷ xs) t =
    let end : List ℕ = fold h (h t x) xs in
    let rest : Divides (h t x) end × All (λ y. Q y end) xs = fold_covers h Q mono up has xs (h t x) in
    (Divides-trans t (h t x) end (up t x) rest.0, All-cons (λ y. Q y end) x xs (mono x (h t x) end (has t x) rest.0) rest.1)

fold_keeps : {X : Type 0} (h : List ℕ → X → List ℕ) (P : List ℕ → Type 0) (R : X → Type 0) → ((t : List ℕ) (x : X) → P t → R x → P (h t x)) →
    (xs : List X) (t : List ℕ) → P t → All R xs → P (fold h t xs)
fold_keeps h P R step [] t p all = p
fold_keeps h P R step (x ∷ xs) t p all = fold_keeps h P R step xs (h t x) (step t x p (All-head R x xs all)) (All-tail R x xs all)

-- ---- the bound

lcm-limit : (n : ℕ) (p q : List ℕ) → All (λ x. x ≤ n) p → All (λ x. x ≤ n) q → All (λ x. x ≤ n) (lcm p q)
lcm-limit n [] q a b = b
lcm-limit n (x ∷ p) [] a b = a
lcm-limit n (x ∷ p) (y ∷ q) a b =
    let first : x ≤ n = All-head (λ z. z ≤ n) x p a in
    let second : y ≤ n = All-head (λ z. z ≤ n) y q b in
    All-cons (λ z. z ≤ n) (max x y) (lcm p q) (omega arith) (lcm-limit n p q (All-tail (λ z. z ≤ n) x p a) (All-tail (λ z. z ≤ n) y q b))

module _ (f : Form) (form : IsForm f) where
  pub wide_is_top : (b : List ℕ) → length b ≡ f.rows → All (λ x. x ≤ RIGHT_LIMIT) b → IsTop f (right_for f b)
  wide_is_top b right limit = record {
    right = length-append b (given_in f.bounds) ∙ ap (λ k. k + length (given_in f.bounds)) right;
    limit = All-append (λ x. x ≤ RIGHT_LIMIT) b (given_in f.bounds) limit form.bound_limit;
  }

  pub request_keeps : (t : List ℕ) (request : Request) → IsTop f t → IsRequest f.rows request → IsTop f (top_with_request f t request)
  request_keeps t request top is =
      let wide : IsTop f (right_for f (right_of request)) = wide_is_top (right_of request) is.right is.limit in
      let first : length t ≡ (equal_of f).rows = top.right in
      let second : length (right_for f (right_of request)) ≡ (equal_of f).rows = wide.right in
      record {
        right = let long : length (lcm t (right_for f (right_of request))) ≡ max (length t) (length (right_for f (right_of request))) = length-lcm t (right_for f (right_of request)) in omega (arith, long, first, second);
        limit = lcm-limit RIGHT_LIMIT t (right_for f (right_of request)) top.limit wide.limit;
      }

-- ---- what is within it

module _ (f : Form) where
  abbrev Fits : Request → List ℕ → Type 0
  Fits request t = Divides (right_for f (right_of request)) t

  abbrev AllFit : List Request → List ℕ → Type 0
  AllFit requests t = All (λ r. Fits r t) requests

  abbrev PhaseFits : Phase → List ℕ → Type 0
  PhaseFits phase t = All (λ requests. AllFit requests t) phase.sessions

  fits_more : (request : Request) (t u : List ℕ) → Fits request t → Divides t u → Fits request u
  fits_more request t u d e = Divides-trans (right_for f (right_of request)) t u d e

  all_fit_more : (requests : List Request) (t u : List ℕ) → AllFit requests t → Divides t u → AllFit requests u
  all_fit_more requests t u all e = All-weaker (λ r. Fits r t) (λ r. Fits r u) (λ r d. fits_more r t u d e) requests all

  session_covers : (requests : List Request) (t : List ℕ) → Divides t (top_with_session f t requests) × AllFit requests (top_with_session f t requests)
  session_covers =
      fold_covers (top_with_request f) Fits fits_more (λ t r. Divides-lcm t (right_for f (right_of r))) (λ t r. Divides-lcm_right t (right_for f (right_of r)))

  phase_fits_more : (phase : Phase) (t u : List ℕ) → PhaseFits phase t → Divides t u → PhaseFits phase u
  phase_fits_more phase t u all e = All-weaker (λ rs. AllFit rs t) (λ rs. AllFit rs u) (λ rs d. all_fit_more rs t u d e) phase.sessions all

  phase_covers : (t : List ℕ) (phase : Phase) → Divides t (top_with_phase f t phase) × PhaseFits phase (top_with_phase f t phase)
  phase_covers t phase =
      fold_covers (top_with_session f) AllFit all_fit_more (λ u rs. (session_covers rs u).0) (λ u rs. (session_covers rs u).1) phase.sessions t

  all_covered : (phases : List Phase) (t : List ℕ) → All (λ p. PhaseFits p (fold (top_with_phase f) t phases)) phases
  all_covered phases t = (fold_covers (top_with_phase f) PhaseFits phase_fits_more (λ u p. (phase_covers u p).0) (λ u p. (phase_covers u p).1) phases t).1

  covered : (requests : List Request) (t : List ℕ) → All (IsRequest f.rows) requests → AllFit requests t → All (IsCovered f t) requests
  covered requests t are fit = λ k d l. record { asked = are k d l; within = fit k d l }

  pub box_covers : (script : Script) → IsScript f.rows script → All (IsCoveredPhase f (box_top f script)) script.phases
  unfolding box_top
  box_covers script is = λ k d l n e m. covered (get_or (get_or script.phases k d).sessions n e) (box_top f script) ((is k d l).sessions n e m) (all_covered script.phases (zeros (equal_of f).rows) k d l n e m)
