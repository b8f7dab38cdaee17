-- What a walk from a right-hand side by a version's list comes to.
use Rattle.std.proofs.Common.{◌≡◌, ℕ, ◌*◌, ◌≤◌, List, length, get_or, All, sym, ap, subst, ◌∙◌, arith}
use Rattle.std.proofs.lemmas.List.{get_or_default}
use Rattle.ct_vectors.specs.declared.limits.TheConstants.{ROW_LIMIT, RIGHT_LIMIT, GRADE_LIMIT}
use Rattle.ct_vectors.specs.Vectors.{total}
use Rattle.ct_instance.specs.Instance.{Problem, IsInstance, IsRight, IsPoint, grade_of, degree_of, start_of}
use Rattle.ct_instance.specs.Fiber.{least_of}
use Rattle.ct_instance.specs.TestSet.{Binomial, test_list}
use Rattle.ct_instance.specs.Versions.{Covers, level_of, version_list}
use Rattle.ct_instance.specs.Walk.{IsWalk}
use Rattle.ct_walk.specs.Moves.{MoveList}
use Rattle.ct_version.specs.Editions.{Edition, IsEdition}
use Rattle.ct_levels.proofs.Walks.{version_walk, version_walk_end}
use Rattle.ct_instance.proofs.Degree.{columns, coordinate-le-grade, degree-start, start_is_point}
use Rattle.ct_instance.proofs.Fiber.{least_in_fiber}
use Rattle.ct_instance.proofs.Points.{right-total, least_is_point, least-limit}
use Rattle.ct_vectors.proofs.Sums.{total-limit}

pub start-grade : (i : Problem) → IsInstance i → (b : List ℕ) → IsRight i b → All (λ x. x ≤ RIGHT_LIMIT) b → grade_of i.columns (start_of i b) ≤ GRADE_LIMIT
start-grade i inst b right limit =
    subst (λ (d : List ℕ). total d ≤ GRADE_LIMIT) (sym (degree-start i inst b right)) (right-total i inst b right limit)

-- what a walk of (0, b) tells, and where it ends
pub record Found (i : Problem) (b : List ℕ) (steps : List (ℕ × ℕ)) (q : List ℕ) : Type 0 where
  pub walk : IsWalk (test_list i (total b)) (start_of i b) steps q
  pub least : q ≡ least_of i b
  pub point : IsPoint i q
  pub small : All (λ x. x ≤ GRADE_LIMIT) q

-- the list, the start and the limits of a walk by a version
pub record Asked (v : Edition) (b : List ℕ) (i : Problem) (ms : List Binomial) (start : List ℕ) : Type 0 where
  pub edition : IsEdition v
  pub right : IsRight v.instance b
  pub limit : All (λ x. x ≤ RIGHT_LIMIT) b
  pub covers : Covers (level_of v.instance v.number) (total b)
  pub instance : i ≡ v.instance
  pub list : ms ≡ version_list v.instance v.number
  pub starts : start ≡ start_of v.instance b

pub asked_by : (v : Edition) (b : List ℕ) (l : MoveList) (j : Problem) (start : List ℕ) → IsEdition v → IsRight v.instance b → All (λ x. x ≤ RIGHT_LIMIT) b →
    Covers (level_of v.instance v.number) (total b) → l.instance ≡ v.instance → l.moves ≡ version_list v.instance v.number → j ≡ l.instance → start ≡ start_of j b →
    Asked v b l.instance l.moves start
asked_by v b l j start edition right limit covers instance list same starts = record {
  edition = edition;
  right = right;
  limit = limit;
  covers = covers;
  instance = instance;
  list = list;
  starts = starts ∙ ap (λ (i : Problem). start_of i b) (same ∙ instance);
}

pub asked-grade : (v : Edition) (b : List ℕ) (i : Problem) (ms : List Binomial) (start : List ℕ) → Asked v b i ms start → grade_of i.columns start ≤ GRADE_LIMIT
asked-grade v b i ms start a =
    subst (λ (j : Problem). grade_of j.columns start ≤ GRADE_LIMIT) (sym a.instance)
    (subst (λ (p : List ℕ). grade_of v.instance.columns p ≤ GRADE_LIMIT) (sym a.starts)
    (start-grade v.instance a.edition.instance b a.right a.limit))

pub asked_finds : (v : Edition) (b : List ℕ) (i : Problem) (ms : List Binomial) (start : List ℕ) → Asked v b i ms start →
    (steps : List (ℕ × ℕ)) (q : List ℕ) → IsWalk ms start steps q → Found v.instance b steps q
asked_finds v b i ms start a steps q walk =
    let by_list : IsWalk (version_list v.instance v.number) start steps q = subst (λ (l : List Binomial). IsWalk l start steps q) a.list walk in
    let from_start : IsWalk (version_list v.instance v.number) (start_of v.instance b) steps q =
    subst (λ (p : List ℕ). IsWalk (version_list v.instance v.number) p steps q) a.starts by_list in
    let degree : degree_of v.instance.columns (start_of v.instance b) ≡ b = degree-start v.instance a.edition.instance b a.right in
    let covers : Covers (level_of v.instance v.number) (grade_of v.instance.columns (start_of v.instance b)) =
    subst (λ (d : List ℕ). Covers (level_of v.instance v.number) (total d)) (sym degree) a.covers in
    let least : q ≡ least_of v.instance b =
    version_walk_end v.instance a.edition.instance v.number a.edition.version (start_of v.instance b) (start_is_point v.instance b a.right) covers q
    (record { steps = steps; walk = from_start }) ∙ ap (least_of v.instance) degree in
    record {
      walk = subst (λ (d : List ℕ). IsWalk (test_list v.instance (total d)) (start_of v.instance b) steps q) degree
          ((version_walk v.instance a.edition.instance v.number a.edition.version (start_of v.instance b) (start_is_point v.instance b a.right) covers steps q).0 from_start);
      least = least;
      point = subst (IsPoint v.instance) (sym least) (least_is_point v.instance a.edition.instance b a.right);
      small = subst (λ (p : List ℕ). All (λ x. x ≤ GRADE_LIMIT) p) (sym least) (least-limit v.instance a.edition.instance b a.right a.limit);
    }
