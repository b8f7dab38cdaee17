-- When a version answers a right-hand side.
use Rattle.std.specs.Prelude.{ℕ, ◌≤◌, List, All}
use Rattle.ct_vectors.specs.Vectors.{total}
use Rattle.ct_vectors.specs.declared.limits.TheConstants.{RIGHT_LIMIT}
use Rattle.ct_instance.specs.Instance.{IsRight}
use Rattle.ct_instance.specs.Versions.{Covers, level_of}
use Rattle.ct_version.specs.Editions.{Edition}

-- m numbers within the limit, whose sum the version covers
pub record CanBeAnswered (v : Edition) (b : List ℕ) : Type 0 where
  pub right : IsRight v.instance b
  pub limit : All (λ x. x ≤ RIGHT_LIMIT) b
  pub covers : Covers (level_of v.instance v.number) (total b)
