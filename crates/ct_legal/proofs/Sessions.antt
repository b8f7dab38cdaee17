-- What a session shows is legal, by induction over what is shown.
use Rattle.std.proofs.Common.{ℕ, ◌+◌, ◌≤◌, ◌≡◌, ⊎_elim, max, Bool, Option, Some, None, List, refl, sym, subst, arith}
use Rattle.std.proofs.lemmas.Bool.{cases_lt}
use Rattle.ct_vectors.specs.Vectors.{total}
use Rattle.ct_instance.specs.Instance.{IsInstance}
use Rattle.ct_instance.specs.Answer.{answer_of}
use Rattle.ct_instance.specs.Versions.{Level, upto, everything, Covers, level_of}
use Rattle.ct_instance.specs.Reach.{full_grade_up_to, reach_of}
use Rattle.ct_levels.proofs.Levels.{levels_rise}
use Rattle.ct_levels.proofs.Full.{no_full_within}
use Rattle.ct_levels.proofs.Reach.{reach_covers}
use Rattle.ct_input.specs.declared.script.Request.{Request}
use Rattle.ct_version.specs.Desks.{Place}
use Rattle.ct_session.specs.declared.lines.Line.{Line}
use Rattle.ct_session.specs.declared.lines.Line.TheVariants.{Answered, NotYet, Full}
use Rattle.ct_session.specs.Lines.{IsAskLine, IsFullOrAnswered}
use Rattle.ct_session.specs.Shown.{HasReached, AskStep, SolveStep, AreShown, nothing, asked, solved}
use Rattle.ct_session.proofs.Parts.{ask_rises}
use Rattle.ct_legal.specs.Cases.{plain_case}
use Rattle.ct_legal.specs.Legal.{IsAtMost, IsAsked, AreLegalLines, low_after}

-- ---- levels

covers_both : (l : Level) (x y : ℕ) → Covers l x → Covers l y → Covers l (max x y)
covers_both (upto l) x y c d = omega (arith, c, d)
covers_both everything x y c d = tt

covers_at_most : (l : Level) (x f : ℕ) → l ≡ upto f → Covers l x → x ≤ f
covers_at_most l x f same covers = subst (λ y. Covers y x) same covers

at_most_by : (l : Level) (f : ℕ) → ((x : ℕ) → Covers l x → x ≤ f) → IsAtMost l f
at_most_by (upto l) f under = under l (omega arith)
at_most_by everything f under = let over : f + 1 ≤ f = under (f + 1) tt in absurd (omega arith)

later_reached : (p : Place) (g j k : ℕ) → j ≤ k → HasReached p g j → HasReached p g k
later_reached p g j k later reached = λ x c. levels_rise p.instance j k x later (reached x c)

greater_reached : (p : Place) (g h k : ℕ) → HasReached p g k → HasReached p h k → HasReached p (max g h) k
greater_reached p g h k first second =
    ⊎_elim (λ l. let e : max g h ≡ h = omega (arith, l) in subst (λ x. HasReached p x k) (sym e) second)
    (λ l. let e : max g h ≡ g = omega (arith, l) in subst (λ x. HasReached p x k) (sym e) first) (cases_lt g h)

-- ---- one request

ask_is_legal : (p : Place) → IsInstance p.instance → (walks levels : Bool) (before after from word : ℕ) (b : List ℕ) (line : Line) (to floor low : ℕ) →
    AskStep p walks before after from word b line to → HasReached p floor to → Covers (level_of p.instance to) low →
    IsAsked (plain_case p.instance p.limit walks levels) floor low b line × Covers (level_of p.instance to) (low_after (plain_case p.instance p.limit walks levels) low b line)
ask_is_legal p inst walks levels before after from word b (Answered answer walk) to floor low step reached shown =
    let told : IsAskLine p.instance (level_of p.instance to) walks (answer_of p.instance b) b (Answered answer walk) = step.told in
    ((no_full_within p.instance inst p.limit to (total b) (step.version).version (step.version).most told.0, told.1), covers_both (level_of p.instance to) low (total b) shown told.0)
ask_is_legal p inst walks levels before after from word b (NotYet f) to floor low step reached shown =
    let told : IsAskLine p.instance (level_of p.instance to) walks (answer_of p.instance b) b (NotYet f) = step.told in (
      record {
        level = record { number = to; version = (step.version).version; same = sym told.0; within = (step.version).most };
        below = told.1;
        reached = at_most_by (reach_of p.instance p.limit floor) f (λ x c. covers_at_most (level_of p.instance to) x f told.0 (reached x c));
        rises = covers_at_most (level_of p.instance to) low f told.0 shown;
      },
      covers_both (level_of p.instance to) low f shown (subst (λ l. Covers l f) (sym told.0) (let same : f ≤ f = omega arith in same)),
    )
ask_is_legal p inst walks levels before after from word b (Full grade) to floor low step reached shown = absurd step.told

-- an answered solve shows that the version covers its sum
solve_covers : (p : Place) → IsInstance p.instance → (walks levels : Bool) (from : ℕ) (b : List ℕ) (line : Line) (to low : ℕ) →
    SolveStep p walks from b line to → Covers (level_of p.instance to) low →
    Covers (level_of p.instance to) (low_after (plain_case p.instance p.limit walks levels) low b line)
solve_covers p inst walks levels from b (Answered answer walk) to low step shown = by (full_grade_up_to p.instance p.limit (total b)) refl step.told
  where
    by : (o : Option ℕ) → full_grade_up_to p.instance p.limit (total b) ≡ o → IsFullOrAnswered o p.instance walks (answer_of p.instance b) b (Answered answer walk) →
        Covers (level_of p.instance to) (max low (total b))
    by None e told = covers_both (level_of p.instance to) low (total b) shown (step.reached (total b) ((reach_covers p.instance inst p.limit (total b)).1 e))
    by (Some f) e told = let wrong : Answered answer walk ≡ Full f = told in absurd (cc)
solve_covers p inst walks levels from b (NotYet f) to low step shown = by (full_grade_up_to p.instance p.limit (total b)) step.told
  where
    by : (o : Option ℕ) → IsFullOrAnswered o p.instance walks (answer_of p.instance b) b (NotYet f) → Covers (level_of p.instance to) (max low f)
    by None told = absurd told
    by (Some g) told = let wrong : NotYet f ≡ Full g = told in absurd (cc)
solve_covers p inst walks levels from b (Full grade) to low step shown = shown

-- ---- a script

pub shown_is_legal : (p : Place) → IsInstance p.instance → (walks levels : Bool) (before after from to : ℕ) (requests : List Request) (lines : List Line) (words : List ℕ) →
    AreShown p walks before after from requests lines words to → (floor low : ℕ) → HasReached p floor from → Covers (level_of p.instance from) low →
    AreLegalLines (plain_case p.instance p.limit walks levels) floor low requests lines
shown_is_legal p inst walks levels before after from to requests lines words (nothing k) floor low reached shown = tt
shown_is_legal p inst walks levels before after from to requests lines words (asked k next m word b rs line ls ws step rest) floor low reached shown =
    let later : k ≤ next = ask_rises p walks before after k word b line next step in
    let reached_next : HasReached p floor next = later_reached p floor k next later reached in
    let legal = ask_is_legal p inst walks levels before after k word b line next floor low step reached_next (levels_rise p.instance k next low later shown) in (
      legal.0,
      shown_is_legal p inst walks levels before after next m rs ls ws rest floor (low_after (plain_case p.instance p.limit walks levels) low b line) reached_next legal.1,
    )
shown_is_legal p inst walks levels before after from to requests lines words (solved k next m b rs line ls found ws step rest) floor low reached shown =
    let reached_next : HasReached p (max floor (total b)) next = greater_reached p floor (total b) next (later_reached p floor k next step.rises reached) step.reached in (
      step.told,
      shown_is_legal p inst walks levels before after next m rs ls ws rest (max floor (total b)) (low_after (plain_case p.instance p.limit walks levels) low b line) reached_next
          (solve_covers p inst walks levels k b line next low step (levels_rise p.instance k next low step.rises shown)),
    )
