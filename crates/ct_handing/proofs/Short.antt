-- A version that doesn't cover a grade.
use Rattle.std.proofs.Common.{◌≡◌, ℕ, ◌<◌, ⊎_elim, sym, subst, refl}
use Rattle.std.proofs.lemmas.Bool.{cases_lt}
use Rattle.ct_instance.specs.Versions.{Level, upto, everything, Covers, level_of}
use Rattle.ct_version.specs.Editions.{Edition}

-- a version that doesn't cover g opens a grade that is at most g
pub record IsShortOf (v : Edition) (g : ℕ) : Type 0 where
  pub level : ℕ
  pub same : level_of v.instance v.number ≡ upto level
  pub below : level < g

pub short_of : (v : Edition) (g : ℕ) → (Covers (level_of v.instance v.number) g → ⊥) → IsShortOf v g
short_of v g beyond = go (level_of v.instance v.number) refl
  where
    go : (l : Level) → level_of v.instance v.number ≡ l → IsShortOf v g
    go everything e = absurd (beyond (subst (λ (l : Level). Covers l g) (sym e) tt))
    go (upto l) e = record {
      level = l;
      same = e;
      below = ⊎_elim (λ below. below) (λ above. absurd (beyond (subst (λ (x : Level). Covers x g) (sym e) above))) (cases_lt l g);
    }
