-- What the jobs of a grade within the bound bring.
use Rattle.std.proofs.Common.{ℕ, ◌+◌, ◌≤◌, ◌<◌, ◌≡◌, ◌↔◌, Bool, true, false, Option, None, List, [], ◌∷◌, ◌++◌, cond, length, take, filter, get_or, All, AllPairs, Contains, IsPermutation, refl, sym, ap, subst, ◌∙◌, arith, append-nil}
use Rattle.std.proofs.lemmas.List.{get_or_default, get_or_push, length_push, take_all, take_at}
use Rattle.std.proofs.lemmas.List.Elements.{All-contains, Contains-get_or, filter_more}
use Rattle.std.proofs.lemmas.List.Sorted.{IsPermutation-trans}
use Rattle.ct_vectors.specs.declared.limits.TheConstants.{GRADE_LIMIT}
use Rattle.ct_vectors.specs.Vectors.{divides}
use Rattle.ct_instance.specs.declared.jobs.Job.{Job}
use Rattle.ct_instance.specs.declared.jobs.Job.TheVariants.{Generator}
use Rattle.ct_instance.specs.Instance.{Problem}
use Rattle.ct_instance.specs.TestSet.{Binomial, ComesBefore}
use Rattle.ct_instance.specs.Jobs.{job_degree_of, jobs_at}
use Rattle.ct_instance.proofs.Lists.{filter_gives}
use Rattle.ct_instance.proofs.JobsList.{jobs_of_grade_listed}
use Rattle.ct_walk.specs.Moves.{MoveList, IsMoveList}
use Rattle.ct_instance.specs.Versions.{IsRemainder}
use Rattle.ct_completion.specs.Remainders.{points_of, IsGroupMove}
use Rattle.ct_groups.specs.Groups.{IsSmallPoint}
use Rattle.ct_jobs.specs.declared.graded.GradedJob.{GradedJob}
use Rattle.ct_jobs.specs.GradedJobs.{AreJobsOf, graded_jobs, graded_pairs_from}
use Rattle.ct_jobs.proofs.Growing.{jobs_grow}
use Rattle.ct_handing.proofs.Points.{AreSmall, remainder_small, all_points}
use Rattle.ct_solo.proofs.KeptJobs.{leaves_more}
use Rattle.ct_solo.specs.Leaving.{LeavesPoints, IsSmallJob}
use Rattle.ct_box.specs.Box.{box_jobs_at}
use Rattle.ct_box.specs.Brought.{AreBrought, IsLeftWithin}
use Rattle.ct_walk.proofs.MoveFacts.{are_moves}

-- ---- jobs

pub small_at : (i : Problem) (ms : List Binomial) (g : ℕ) → g ≤ GRADE_LIMIT → (js : List Job) → js ≡ jobs_at i ms g → All (IsSmallJob i ms) js
small_at i ms g most js e =
    subst (All (IsSmallJob i ms)) (sym e)
    (λ k d l.
    let r = ((jobs_of_grade_listed i ms g).0 (get_or (jobs_at i ms g) k d)).0 (Contains-get_or (jobs_at i ms g) k d l) in
    record { job = r.0; grade = omega (arith, r.1, most) })

pub small_kept : (i : Problem) (ms : List Binomial) (p : Job → Bool) (js ks : List Job) → All (IsSmallJob i ms) js → ks ≡ filter p js → All (IsSmallJob i ms) ks
small_kept i ms p js ks all e =
    subst (All (IsSmallJob i ms)) (sym e)
    (λ k d l. All-contains (IsSmallJob i ms) js (get_or (filter p js) k d) all (filter_gives p js (get_or (filter p js) k d) (Contains-get_or (filter p js) k d l)).0)

-- ---- what they leave

pub small_points : (l : MoveList) → IsMoveList l → (js : List Job) → All (IsSmallJob l.instance l.moves) js → (points : List (List ℕ)) → LeavesPoints l.instance l.moves js points →
    All (IsSmallPoint l.instance) points
small_points l h js small points left =
    subst (All (IsSmallPoint l.instance)) (sym left.same)
    (all_points l.instance left.remainders (λ k x b.
    let m : k < length js = omega (arith, b, (left.are).count) in
    subst (AreSmall l.instance) (get_or_default left.remainders k None x b)
    (remainder_small l.instance h.instance l.moves (are_moves l h) (get_or js k (Generator 0)) (small k (Generator 0) m).job (small k (Generator 0) m).grade (get_or left.remainders k None) ((left.are).each k (Generator 0) m))))

module _ (i : Problem) (ms : List Binomial) (top : List ℕ) where
  abbrev pub is_inside : Job → Bool
  is_inside j = divides (job_degree_of i ms j) top

  leaves_one : (js : List Job) (j : Job) (old new : List (List ℕ)) (r : Option (List ℕ × List ℕ)) → LeavesPoints i ms js old → IsRemainder i ms j r →
      new ≡ old ++ points_of (r ∷ []) → LeavesPoints i ms (js ++ j ∷ []) new
  leaves_one js j old new r h rem e =
      let size : length (js ++ j ∷ []) ≡ length js + 1 = length_push js j in
      subst (λ (l : List Job). LeavesPoints i ms l new) (take_all (length js + 1) (js ++ j ∷ []) (omega (arith, size)))
      (leaves_more i ms (js ++ j ∷ []) (length js) j old new r (omega (arith, size)) (sym (get_or_push js j j (length js) refl))
      (subst (λ (l : List Job). LeavesPoints i ms l old) (sym (take_at js (j ∷ []) (length js) refl)) h) rem e)

  leaves_if : (b : Bool) (js : List Job) (j : Job) (old new : List (List ℕ)) (r : Option (List ℕ × List ℕ)) → LeavesPoints i ms js old → (b ≡ true → IsRemainder i ms j r) →
      new ≡ old ++ cond b (points_of (r ∷ [])) [] → LeavesPoints i ms (js ++ cond b (j ∷ []) []) new
  leaves_if true js j old new r h rem e = leaves_one js j old new r h (rem refl) e
  leaves_if false js j old new r h rem e =
      subst (λ (l : List Job). LeavesPoints i ms l new) (sym (append-nil js)) (subst (LeavesPoints i ms js) (sym (e ∙ append-nil old)) h)

  -- one job more
  pub leaves_next : (js : List Job) (k : ℕ) (j : Job) (old new : List (List ℕ)) → k < length js → j ≡ get_or js k j → LeavesPoints i ms (filter is_inside (take k js)) old →
      IsLeftWithin i ms top j old new → LeavesPoints i ms (filter is_inside (take (k + 1) js)) new
  leaves_next js k j old new l at h left =
      subst (λ (ks : List Job). LeavesPoints i ms ks new)
      (ap (λ (x : Job). filter is_inside (take k js) ++ cond (is_inside x) (x ∷ []) []) at ∙ sym (filter_more is_inside js k j l))
      (leaves_if (is_inside j) (filter is_inside (take k js)) j old new left.remainder h left.is left.points)

  pub none_left : (j : Job) (points : List (List ℕ)) → (is_inside j ≡ true → IsRemainder i ms j None) → IsLeftWithin i ms top j points points
  none_left j points is = record { remainder = None; is = is; points = same (is_inside j) }
    where
      same : (b : Bool) → points ≡ points ++ cond b (points_of (None ∷ [])) []
      same true = sym (append-nil points)
      same false = sym (append-nil points)

  pub some_left : (j : Job) (old new : List (List ℕ)) (r : Option (List ℕ × List ℕ)) → is_inside j ≡ true → IsRemainder i ms j r → new ≡ old ++ points_of (r ∷ []) →
      IsLeftWithin i ms top j old new
  some_left j old new r is rem e =
      record { remainder = r; is = λ w. rem; points = e ∙ ap (λ (b : Bool). old ++ cond b (points_of (r ∷ [])) []) (sym is) }

  pub are_brought : (g : ℕ) (js : List Job) → js ≡ jobs_at i ms g → (points : List (List ℕ)) → LeavesPoints i ms (filter is_inside js) points → (new : List Binomial) →
      ((m : Binomial) → Contains new m ↔ IsGroupMove i points m) → AllPairs (λ m n. ComesBefore i m.head n.head) new → AreBrought i top ms g new
  unfolding box_jobs_at
  are_brought g js all points left new exact order =
      let there : LeavesPoints i ms (box_jobs_at i top ms g) points = subst (λ (xs : List Job). LeavesPoints i ms xs points) (ap (filter is_inside) all) left in
      record {
        remainders = there.remainders;
        are = there.are;
        exact = λ m. subst (λ (ps : List (List ℕ)). Contains new m ↔ IsGroupMove i ps m) there.same (exact m);
        ordered = order;
      }

-- ---- the jobs of the longer list

pub jobs_next : (i : Problem) (ms new : List Binomial) (js mid all more : List GradedJob) → AreJobsOf i ms js → IsPermutation js mid →
    more ≡ graded_pairs_from i (ms ++ new) (length ms + 1) → IsPermutation (mid ++ more) all → AreJobsOf i (ms ++ new) all
jobs_next i ms new js mid all more are same e grown =
    IsPermutation-trans (graded_jobs i (ms ++ new)) (mid ++ more) all
    (subst (λ (xs : List GradedJob). AreJobsOf i (ms ++ new) (mid ++ xs)) (sym e) (jobs_grow i ms new mid (IsPermutation-trans (graded_jobs i ms) js mid are same))) grown

pub grown_jobs : (before l : MoveList) (new : List Binomial) → l ≡ record before { moves = before.moves ++ new } → (js mid all more : List GradedJob) (inst : Problem) (from : ℕ) →
    AreJobsOf before.instance before.moves js → IsPermutation js mid → inst ≡ l.instance → from ≡ length before.moves → more ≡ graded_pairs_from inst l.moves (from + 1) →
    IsPermutation (mid ++ more) all → AreJobsOf l.instance l.moves all
grown_jobs before l new is js mid all more inst from are same i f e grown =
    subst (λ (x : MoveList). AreJobsOf x.instance x.moves all) (sym is)
    (jobs_next before.instance before.moves new js mid all more are same
    (e ∙ ap (λ (x : Problem). graded_pairs_from x l.moves (from + 1)) i ∙ ap (λ (x : MoveList). graded_pairs_from x.instance x.moves (from + 1)) is ∙ ap (λ (n : ℕ). graded_pairs_from before.instance (before.moves ++ new) (n + 1)) f) grown)
