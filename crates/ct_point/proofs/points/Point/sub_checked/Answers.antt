use Rattle.std.proofs.Common.{◌≡◌, true, false, sym, ◌∙◌, refl, subst, rules}
use Rattle.ct_vectors.specs.Vectors.{Divides, divides}
use Rattle.ct_vectors.proofs.Divisors.{Divides-from_test, test_from_Divides}
use Rattle.ct_point.proofs.points.Point.sub_checked.Goals as goal

pub returns-then-not-divides-clause-nowhere_negative : goal.returns-then-not-divides-clause-nowhere_negative
returns-then-not-divides-clause-nowhere_negative c =
    let no : divides c.args.other.now c.args.self.now ≡ false = search rules in
    ((λ e. cc), (λ d. sym no ∙ test_from_Divides c.args.other.now c.args.self.now d))

pub subtract_from-requires-clause-at_most : goal.subtract_from-requires-clause-at_most
subtract_from-requires-clause-at_most c =
    let yes : divides c.args.other.now c.args.self.now ≡ true = search rules in
    let at_most : Divides c.args.other.now c.args.self.now = Divides-from_test c.args.other.now c.args.self.now yes in
    let same : c.as_mut_slice.result.now ≡ c.args.self.now = c.as_mut_slice.ensures.value ∙ c.rest.view_is ∙ c.in_ok-rest.ensures in
    subst (λ q. Divides c.as_slice.result.now q) (sym same) (subst (λ h. Divides h c.args.self.now) (sym c.as_slice.ensures.coordinates) at_most)

pub returns-clause-nowhere_negative : goal.returns-clause-nowhere_negative
returns-clause-nowhere_negative c =
    let yes : divides c.args.other.now c.args.self.now ≡ true = search rules in
    ((λ e. Divides-from_test c.args.other.now c.args.self.now yes), (λ d. refl))
