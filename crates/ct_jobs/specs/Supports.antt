-- Supports of heads: the coordinates that aren't 0, with what 1 at each adds to the grade.
use Rattle.std.specs.Prelude.{ℕ, ◌*◌, ◌-◌, ◌≤◌, nat_lt, List, map, filter, length, slice_index, slice_index_or, slice_range}
use Rattle.ct_vectors.specs.Vectors.{total}
use Rattle.ct_instance.specs.Instance.{Problem}
use Rattle.ct_instance.specs.Made.{indices}
use Rattle.ct_instance.specs.TestSet.{Binomial}
use Rattle.ct_instance.specs.Jobs.{the_move, numbers_after}
use Rattle.ct_jobs.specs.declared.supports.Part.{Part}
use Rattle.ct_jobs.specs.declared.supports.Span.{Span}

-- the coordinate at a place, with its weight: the sum of its column, and 1 for an artificial
abbrev pub part_at : List ℕ → List ℕ → ℕ → Part
part_at sums p c = record { place = c; value = slice_index p c; weight = slice_index_or sums c 1 }

-- the first n coordinates, those that aren't 0
abbrev pub support_below : List ℕ → List ℕ → ℕ → List Part
support_below sums p n = filter (λ t. nat_lt 0 t.value) (map (part_at sums p) (indices n))

abbrev pub support : List ℕ → List ℕ → List Part
support sums p = support_below sums p (length p)

-- the support of the head of the move with this number
abbrev pub support_of : Problem → List Binomial → ℕ → List Part
support_of i ms k = support (map total i.columns) (the_move ms k).head

-- those of the moves after the number a, up to b
abbrev pub supports_between : Problem → List Binomial → ℕ → ℕ → List (List Part)
supports_between i ms a b = map (support_of i ms) (numbers_after a b)

-- how much grade a part has beyond a point
abbrev pub excess_over : List ℕ → Part → ℕ
excess_over p t = t.weight * (t.value - slice_index p t.place)

-- what lies from the start of a span to its end
abbrev pub in_span : List Part → Span → List Part
in_span ts s = slice_range ts s.start s.end

-- the span lies within n parts
pub record IsSpan (n : ℕ) (s : Span) : Type 0 where
  pub ordered : s.start ≤ s.end
  pub within : s.end ≤ n
