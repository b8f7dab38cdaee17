-- The instance of the tests: two coins of 3 and 5 at cost 2 and 3.
use Rattle.std.specs.Prelude.{pos, [], ◌∷◌}
use Rattle.ct_instance.specs.Instance.{Problem}

abbrev pub coins : Problem
coins = record { rows = 1; columns = (3 ∷ []) ∷ (5 ∷ []) ∷ []; cost_rows = (pos 2 ∷ pos 3 ∷ []) ∷ [] }
