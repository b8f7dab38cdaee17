-- Where all columns of an instance are shown, nothing is cut.
use Rattle.std.proofs.Common.{◌≡◌, ◌≤◌, ℕ, ℤ, List, [], ◌∷◌, length, get_or, take, map, All, refl, sym, subst, ap, ap₂, ◌∙◌, arith}
use Rattle.std.proofs.lemmas.List.{take_all, get_or-map, length-map}
use Rattle.std.proofs.lemmas.List.Elements.{All-head, All-tail}
use Rattle.ct_instance.specs.Instance.{Problem, column_count}
use Rattle.ct_instance.specs.Answer.{costs_of}
use Rattle.ct_best.specs.Best.{AreBest}
use Rattle.ct_best_report.specs.declared.reports.Solution.{Solution}
use Rattle.ct_best_report.specs.BestReport.{AreBestWithCosts}

nothing_cut : (n : ℕ) (xs : List (List ℕ)) → All (λ x. length x ≡ n) xs → map (take n) xs ≡ xs
nothing_cut n [] wide = refl
nothing_cut n (x ∷ xs) wide =
    let most : length x ≤ n = let same : length x ≡ n = All-head (λ (y : List ℕ). length y ≡ n) x xs wide in omega (arith, same) in
    ap₂ ◌∷◌ (take_all n x most) (nothing_cut n xs (All-tail (λ (y : List ℕ). length y ≡ n) x xs wide))

pub all_shown : (i : Problem) (k : ℕ) (b : List ℕ) (solutions : List Solution) → AreBestWithCosts i (column_count i) k b solutions →
    AreBest i k b (map (λ s. s.point) solutions) × All (λ s. s.costs ≡ costs_of i s.point) solutions
all_shown i k b solutions a = (
  subst (AreBest i k b) same a.best,
  λ n d l.
      sym (get_or-map (λ (s : Solution). s.costs) solutions n d d.costs l)
      ∙ ap (λ (all : List (List ℤ)). get_or all n d.costs) (a.paid ∙ ap (map (costs_of i)) same)
      ∙ get_or-map (costs_of i) (map (λ (s : Solution). s.point) solutions) n d.point d.costs (omega (arith, l, length-map solutions (λ (s : Solution). s.point)))
      ∙ ap (costs_of i) (get_or-map (λ (s : Solution). s.point) solutions n d d.point l),
)
  where
    same : a.points ≡ map (λ (s : Solution). s.point) solutions
    same = sym (a.shown ∙ nothing_cut (column_count i) a.points (λ n d l. (a.best.solutions n d l).numbers))
