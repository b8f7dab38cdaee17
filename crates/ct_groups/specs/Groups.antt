-- The groups of some points, and the least point of each.
use Rattle.std.specs.Prelude.{ℕ, ◌-◌, ◌≤◌, ◌<◌, ◌≡◌, false, cond, Option, Some, List, [], ◌++◌, length, get_or, map}
use denote.Ref.{Bor}
use Rattle.ct_vectors.specs.declared.limits.TheConstants.{ROW_LIMIT, GRADE_LIMIT}
use Rattle.ct_vectors.specs.Vectors.{zeros}
use Rattle.ct_instance.specs.Instance.{Problem, IsPoint, degree_of, grade_of}
use Rattle.ct_instance.specs.Fiber.{is_lower}
use Rattle.ct_groups.specs.declared.least.Groups.{Groups}

-- the points that a slice of references lends
abbrev pub points_seen : List (Bor (List ℕ)) → List (List ℕ)
points_seen ps = map (λ p. p.now) ps

-- a point whose grade is within the limit of walks
pub record IsSmallPoint (i : Problem) (p : List ℕ) : Type 0 where
  pub point : IsPoint i p
  pub grade : grade_of i.columns p ≤ GRADE_LIMIT

-- the degree of a point, with zeros behind it up to the greatest number of rows
abbrev pub key_of : Problem → List ℕ → List ℕ
key_of i p = degree_of i.columns p ++ zeros (ROW_LIMIT - i.rows)

-- among the first n points that have this key, the one at place b is one that no other is below
pub record IsLeastOf (i : Problem) (points : List (List ℕ)) (n : ℕ) (key : List ℕ) (b : ℕ) : Type 0 where
  pub within : b < n
  pub has_key : key_of i (get_or points b []) ≡ key
  pub least : (l : ℕ) → l < n → key_of i (get_or points l []) ≡ key → is_lower i (get_or points l []) (get_or points b []) ≡ false

-- of two places the one whose point is lower, and b where neither is
abbrev pub lower_of : Problem → List (List ℕ) → ℕ → ℕ → ℕ
lower_of i points a b = cond (is_lower i (get_or points a []) (get_or points b [])) a b

-- each of the first n points has its group, and each group a least point
pub record HasGroups (i : Problem) (points : List (List ℕ)) (n : ℕ) (g : Groups) : Type 0 where
  pub counted : length g.of_point.items ≡ n
  pub within : (l : ℕ) → l < n → get_or g.of_point.items l 0 < length g.least.items
  pub least : (l : ℕ) → l < n → IsLeastOf i points n (key_of i (get_or points l [])) (get_or g.least.items (get_or g.of_point.items l 0) 0)

-- the key of each of the first n points is found, with the number of its group, and no other key
pub record KnowsGroups (i : Problem) (points : List (List ℕ)) (n : ℕ) (look : List ℕ → Option ℕ) (g : Groups) : Type 0 where
  pub counted : length g.of_point.items ≡ n
  pub found : (l : ℕ) → l < n → look (key_of i (get_or points l [])) ≡ Some (get_or g.of_point.items l 0)
  pub only : (key : List ℕ) (x : ℕ) → look key ≡ Some x → (x < length g.least.items) × IsLeastOf i points n key (get_or g.least.items x 0)
