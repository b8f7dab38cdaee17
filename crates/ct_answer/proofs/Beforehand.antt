-- Answers that were found before they are asked for.
use Rattle.std.proofs.Common.{ℕ, Bool, ◌≡◌, Option, None, List, [], ◌∷◌, ◌++◌, sym, subst}
use Rattle.std.specs.List.{AllZip}
use Rattle.ct_vectors.specs.Vectors.{total}
use Rattle.ct_instance.specs.Instance.{Problem}
use Rattle.ct_instance.specs.Answer.{answer_of}
use Rattle.ct_instance.specs.Versions.{Covers, level_of}
use Rattle.ct_instance.specs.Reach.{full_grade_up_to}
use Rattle.ct_levels.proofs.Full.{no_full_within}
use Rattle.ct_version.specs.declared.answers.Answered.{Answered}
use Rattle.ct_version.specs.Editions.{Edition}
use Rattle.ct_version.specs.Answers.{IsAnswered}
use Rattle.ct_version.specs.Desks.{Place}
use Rattle.ct_session.specs.declared.lines.Line.{Line}
use Rattle.ct_session.specs.Lines.{IsAnsweredLine, IsFullOrAnswered, IsSolveLine}
use Rattle.ct_answer.specs.Prepared.{IsPrepared}

-- ---- two lists, from their ends

module _ {X Y : Type 0} (R : X → Y → Type 0) where
  none_left : (ys : List Y) (y : Y) → AllZip R [] (ys ++ y ∷ []) → ⊥
  none_left [] y h = h
  none_left (z ∷ ys) y h = h

  some_left : (xs : List X) (x : X) → AllZip R (xs ++ x ∷ []) [] → ⊥
  some_left [] x h = h
  some_left (w ∷ xs) x h = h

  pub zip_last : (xs : List X) (ys : List Y) (x : X) (y : Y) → AllZip R (xs ++ x ∷ []) (ys ++ y ∷ []) → AllZip R xs ys × R x y
  zip_last [] [] x y h = (tt, h.0)
  zip_last [] (z ∷ ys) x y h = absurd (none_left ys y h.1)
  zip_last (w ∷ xs) [] x y h = absurd (some_left xs x h.1)
  zip_last (w ∷ xs) (z ∷ ys) x y h = let rest = zip_last xs ys x y h.1 in ((h.0, rest.0), rest.1)

-- ---- lines

-- the line of an answer of a version of the place is that of a solve
pub solve_prepared : (p : Place) (walks : Bool) (b : List ℕ) (a : Answered) (line : Line) → IsPrepared p (record { right = b; answered = a }) →
    ((v : Edition) (c : List ℕ) → IsAnswered v c a → IsAnsweredLine v.instance walks (answer_of v.instance c) c line) →
    IsSolveLine p.instance p.limit walks (answer_of p.instance b) b line
solve_prepared p walks b a line x says =
    let v : Edition = x.version in
    let e : v.instance ≡ p.instance = (x.of_place).instance in
    let covers : Covers (level_of p.instance v.number) (total b) = subst (λ (i : Problem). Covers (level_of i v.number) (total b)) e (x.answered).covers in
    let none : full_grade_up_to p.instance p.limit (total b) ≡ None =
    no_full_within p.instance x.instance p.limit v.number (total b) (x.of_place).version (x.of_place).most covers in
    subst (λ (o : Option ℕ). IsFullOrAnswered o p.instance walks (answer_of p.instance b) b line) (sym none)
    (subst (λ (i : Problem). IsAnsweredLine i walks (answer_of i b) b line) e (says v b x.answered))
