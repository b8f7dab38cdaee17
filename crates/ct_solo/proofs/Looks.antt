-- What the first key of a map tells of the grades that are kept.
use Rattle.std.proofs.Common.{◌≡◌, ℕ, ◌≤◌, ◌<◌, ⊎_elim, Bool, false, true≢false, Option, Some, None, IsSome, List, [], ◌∷◌, length, ap, ◌∙◌, refl, arith}
use Rattle.std.specs.Option.{option_map}
use Rattle.std.specs.Ordering.{is_gt, nat_cmp}
use Rattle.std.specs.declared.cmp.Ordering.TheVariants.{Greater}
use Rattle.std.specs.Cmp.{nat_cmp_is}
use Rattle.std.specs.Map.{lookup}
use Rattle.std.proofs.lemmas.Bool.{cases_lt}

pub not_above : (g k : ℕ) → is_gt (nat_cmp g k) ≡ false → g ≤ k
not_above g k e = ⊎_elim (λ l. absurd (true≢false (ap is_gt (nat_cmp_is g k Greater l) ∙ e))) (λ l. l) (cases_lt k g)

pub some_there : {X Y : Type 0} (f : X → Y) (o : Option X) (y : Y) → option_map f o ≡ Some y → IsSome o
some_there f None y e = absurd (let n : None ≡ Some y = e in cc)
some_there f (Some x) y e = refl

pub none_there : {K X : Type 0} (test : K → Bool) (es : List (K × X)) → (0 < length es → ⊥) → lookup test es ≡ None
none_there test [] n = refl
none_there test (e ∷ es) n = absurd (n (omega arith))
