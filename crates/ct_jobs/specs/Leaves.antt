-- What a move leaves of the least common multiple of its head and another.
use Rattle.std.specs.Prelude.{ℕ, ◌<◌, ◌≡◌, ◌^◌, List, All, length}
use Rattle.ct_vectors.specs.Vectors.{add, subtract, lcm}
use Rattle.ct_instance.specs.TestSet.{Binomial}

abbrev pub left_of : Binomial → Binomial → List ℕ
left_of m other = add (subtract (lcm m.head other.head) m.head) m.tail

-- the points have one width, and what is left fits
pub record Leaves (place : List ℕ) (m other : Binomial) : Type 0 where
  pub place_width : length place ≡ length m.head
  pub tail_width : length m.tail ≡ length m.head
  pub other_width : length other.head ≡ length m.head
  pub fits : All (λ x. x < 2 ^ 64) (left_of m other)
