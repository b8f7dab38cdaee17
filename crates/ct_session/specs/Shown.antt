-- What a session tells of the requests of a script, and what the words of its desk say of it.
use Rattle.std.specs.Prelude.{ℕ, ◌≤◌, ◌≡◌, ◌⊎◌, ◌++◌, Bool, cond, Some, None, List, [], ◌∷◌}
use Rattle.ct_vectors.specs.Vectors.{total}
use Rattle.ct_instance.specs.Answer.{answer_of}
use Rattle.ct_instance.specs.Versions.{Covers, level_of}
use Rattle.ct_instance.specs.Reach.{reach_of}
use Rattle.ct_input.specs.declared.script.Request.{Request}
use Rattle.ct_input.specs.declared.script.Request.TheVariants.{Ask, Solve}
use Rattle.ct_version.specs.declared.answers.Answered.{Answered}
use Rattle.ct_version.specs.Editions.{Edition}
use Rattle.ct_version.specs.Desks.{Place, IsOfPlace}
use Rattle.ct_session.specs.declared.lines.Line.{Line}
use Rattle.ct_session.specs.declared.lines.Line.TheVariants.{Answered as AnsweredLine}
use Rattle.ct_session.specs.Lines.{IsAskLine, IsSolveLine}
use Rattle.ct_session.specs.Sessions.{newest, IsCalm}

-- the version of the place with this number
abbrev pub version_at : Place → ℕ → Edition
version_at p number = record { instance = p.instance; number = number }

-- the version covers all that a completion for the grade g comes to
abbrev pub HasReached : Place → ℕ → ℕ → Type 0
HasReached p g number = (x : ℕ) → Covers (reach_of p.instance p.limit g) x → Covers (level_of p.instance number) x

-- the line of an answer, with its walk where walks are asked for
abbrev pub line_of : Answered → Bool → Line
line_of a walks = AnsweredLine a.answer (cond walks (Some (a.walk).steps) None)

-- an ask whose pin found this word: the number that is pinned before it and the one after, and the line of that version.
-- `before` and `after` are the numbers of refused pins round the whole script.
pub record AskStep (p : Place) (walks : Bool) (before after from word : ℕ) (b : List ℕ) (line : Line) (to : ℕ) : Type 0 where
  pub version : IsOfPlace p (version_at p to)
  pub either : (to ≡ from) ⊎ (to ≡ newest from word)
  pub calm : IsCalm before after → to ≡ newest from word
  pub told : IsAskLine p.instance (level_of p.instance to) walks (answer_of p.instance b) b line

-- a solve: the number that is pinned before it and the one after, which has reached what the limit allows
pub record SolveStep (p : Place) (walks : Bool) (from : ℕ) (b : List ℕ) (line : Line) (to : ℕ) : Type 0 where
  pub version : IsOfPlace p (version_at p to)
  pub rises : from ≤ to
  pub reached : HasReached p (total b) to
  pub told : IsSolveLine p.instance p.limit walks (answer_of p.instance b) b line

-- from the number that is pinned first to the one that is pinned last: one line for each request in order, one word for each
-- ask, and for a solve as many as its help found
pub data AreShown (p : Place) (walks : Bool) (before after : ℕ) : ℕ → List Request → List Line → List ℕ → ℕ → Type 0 where
  nothing : (from : ℕ) → AreShown p walks before after from [] [] [] from
  asked : (from next to word : ℕ) (b : List ℕ) (requests : List Request) (line : Line) (lines : List Line) (words : List ℕ) →
      AskStep p walks before after from word b line next → AreShown p walks before after next requests lines words to →
      AreShown p walks before after from (Ask b ∷ requests) (line ∷ lines) (word ∷ words) to
  solved : (from next to : ℕ) (b : List ℕ) (requests : List Request) (line : Line) (lines : List Line) (found words : List ℕ) →
      SolveStep p walks from b line next → AreShown p walks before after next requests lines words to →
      AreShown p walks before after from (Solve b ∷ requests) (line ∷ lines) (found ++ words) to
