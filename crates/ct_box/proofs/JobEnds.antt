-- The ends of a job of a list of moves within the limits: points of its degree.
use Rattle.std.proofs.Common.{ℕ, ◌≡◌, List, length, sym, ap, subst, ◌∙◌}
use Rattle.ct_instance.specs.declared.jobs.Job.{Job}
use Rattle.ct_instance.specs.Instance.{Problem, IsPoint, degree_of}
use Rattle.ct_instance.specs.TestSet.{Binomial}
use Rattle.ct_instance.specs.Jobs.{IsJob, job_degree_of, first_end_of, second_end_of}
use Rattle.ct_instance.proofs.Degree.{degree_is_right}
use Rattle.ct_walk.specs.Moves.{MoveList, IsMoveList}
use Rattle.ct_walk.proofs.Ends.{ends_in_fiber}
use Rattle.ct_walk.proofs.MoveFacts.{are_moves}

pub record AreEnds (i : Problem) (ms : List Binomial) (j : Job) (p q : List ℕ) : Type 0 where
  pub first : IsPoint i p
  pub second : IsPoint i q
  pub degree : degree_of i.columns p ≡ job_degree_of i ms j
  pub right : length (job_degree_of i ms j) ≡ i.rows

pub are_ends : (l : MoveList) → IsMoveList l → (j : Job) → IsJob l.instance l.moves j → (i : Problem) → i ≡ l.instance → (p q : List ℕ) → p ≡ first_end_of i l.moves j →
    q ≡ second_end_of i l.moves j → AreEnds l.instance l.moves j p q
are_ends l h j job i same p q a b =
    let f = ends_in_fiber l.instance h.instance l.moves (are_moves l h) j job in
    let first : p ≡ first_end_of l.instance l.moves j = a ∙ ap (λ (x : Problem). first_end_of x l.moves j) same in
    let second : q ≡ second_end_of l.instance l.moves j = b ∙ ap (λ (x : Problem). second_end_of x l.moves j) same in
    let degree : degree_of (l.instance).columns p ≡ job_degree_of l.instance l.moves j = ap (degree_of (l.instance).columns) first ∙ (f.0).degree in
    let point : IsPoint l.instance p = subst (IsPoint l.instance) (sym first) (f.0).point in
    record {
      first = point;
      second = subst (IsPoint l.instance) (sym second) (f.1).point;
      degree = degree;
      right = sym (ap length degree) ∙ degree_is_right l.instance h.instance p point;
    }
