-- Floors rise with the grade, and an ask whose sum the floor covers is answered.
use Rattle.std.proofs.Common.{ℕ, ◌+◌, ◌≤◌, ◌<◌, ◌≡◌, ◌⊎◌, ◌↔◌, ⊎_elim, max, List, sym, subst, arith}
use Rattle.std.proofs.lemmas.Bool.{cases_lt}
use Rattle.ct_instance.specs.Instance.{IsInstance}
use Rattle.ct_instance.specs.Versions.{Level, upto, everything, Covers}
use Rattle.ct_levels.proofs.Reach.{reach_rises}
use Rattle.ct_session.specs.declared.lines.Line.{Line}
use Rattle.ct_session.specs.declared.lines.Line.TheVariants.{Answered, NotYet, Full}
use Rattle.ct_session.specs.Lines.{IsAnsweredLine}
use Rattle.ct_legal.specs.Cases.{Case, sum_of, case_reach}
use Rattle.ct_legal.specs.Legal.{IsAtMost, IsAsked}

-- a level that covers less is at most what the other is
lower_is_at_most : (k l : Level) (f : ℕ) → ((x : ℕ) → Covers k x → Covers l x) → IsAtMost l f → IsAtMost k f
lower_is_at_most (upto a) (upto b) f more most = omega (arith, more a (omega arith), most)
lower_is_at_most everything (upto b) f more most = let t : b + 1 ≤ b = more (b + 1) tt in absurd (omega (arith, t))
lower_is_at_most k everything f more most = absurd most

floor_falls : (c : Case) → IsInstance c.instance → (g h f : ℕ) → g ≤ h → IsAtMost (case_reach c h) f → IsAtMost (case_reach c g) f
floor_falls c s g h f l = lower_is_at_most (case_reach c g) (case_reach c h) f (λ x. reach_rises c.instance s c.limit g h x l)

pub floor_greatest : (c : Case) → IsInstance c.instance → (g h f : ℕ) → IsAtMost (case_reach c (max g h)) f ↔ (IsAtMost (case_reach c g) f × IsAtMost (case_reach c h) f)
floor_greatest c s g h f =
    (λ m. (floor_falls c s g (max g h) f (omega arith) m, floor_falls c s h (max g h) f (omega arith) m), λ m. both (cases_lt g h) m)
  where
    both : (g < h) ⊎ (h ≤ g) → IsAtMost (case_reach c g) f × IsAtMost (case_reach c h) f → IsAtMost (case_reach c (max g h)) f
    both order m =
        ⊎_elim (λ l. let e : max g h ≡ h = omega (arith, l) in subst (λ x. IsAtMost (case_reach c x) f) (sym e) m.1)
        (λ l. let e : max g h ≡ g = omega (arith, l) in subst (λ x. IsAtMost (case_reach c x) f) (sym e) m.0) order

covered_is_at_most : (l : Level) (f s : ℕ) → IsAtMost l f → Covers l s → s ≤ f
covered_is_at_most (upto l) f s most covers = omega (arith, most, covers)
covered_is_at_most everything f s most covers = absurd most

pub covered_is_answered : (c : Case) (floor low : ℕ) (b : List ℕ) (line : Line) → Covers (case_reach c floor) (sum_of c b) → IsAsked c floor low b line →
    IsAnsweredLine c.instance c.walks (c.shown b) (c.right b) line
covered_is_answered c floor low b (Answered answer walk) covers asked = asked.1
covered_is_answered c floor low b (NotYet f) covers asked =
    let below : f < sum_of c b = asked.below in
    absurd (omega (arith, below, covered_is_at_most (case_reach c floor) f (sum_of c b) asked.reached covers))
covered_is_answered c floor low b (Full grade) covers asked = absurd asked
