-- Points beside the least of their degree, as moves.
use Rattle.std.specs.Prelude.{ℕ, ◌<◌, ◌≡◌, All, Contains, List, [], get_or, map}
use Rattle.std.specs.declared.cmp.Ordering.{Ordering}
use Rattle.std.specs.Ordering.{nat_cmp, ordering_then}
use Rattle.std.specs.Cmp.Lexicographic.{slice_cmp}
use Rattle.ct_instance.specs.Instance.{Problem, grade_of}
use Rattle.ct_instance.specs.TestSet.{Binomial}
use Rattle.ct_completion.specs.Remainders.{IsGroupMove}
use Rattle.ct_groups.specs.declared.pairs.Pair.{Pair}

-- the move from its head to its tail
abbrev pub pair_seen : Pair → Binomial
pair_seen p = record { head = p.head.now; tail = p.tail.now }

-- by grade, then by head, then by tail
abbrev pub pair_order : Pair → Pair → Ordering
pair_order p q =
    ordering_then (nat_cmp p.grade q.grade) (ordering_then (slice_cmp nat_cmp p.head.now q.head.now) (slice_cmp nat_cmp p.tail.now q.tail.now))

-- group moves alone, with their grades, and those from each of the first n points
pub record HasPairs (i : Problem) (points : List (List ℕ)) (n : ℕ) (pairs : List Pair) : Type 0 where
  pub sound : (m : Binomial) → Contains (map pair_seen pairs) m → IsGroupMove i points m
  pub complete : (l : ℕ) → l < n → (m : Binomial) → IsGroupMove i points m → m.head ≡ get_or points l [] → Contains (map pair_seen pairs) m
  pub graded : All (λ p. p.grade ≡ grade_of i.columns p.head.now) pairs
