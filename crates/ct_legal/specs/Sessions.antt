-- That a session shows legal lines. The statement is the contract of a function in the module `laws`.
use Rattle.std.specs.Prelude.{ℕ, Bool, List}
use Rattle.ct_instance.specs.Instance.{IsInstance}
use Rattle.ct_instance.specs.Versions.{Covers, level_of}
use Rattle.ct_input.specs.declared.script.Request.{Request}
use Rattle.ct_version.specs.Desks.{Place}
use Rattle.ct_session.specs.declared.lines.Line.{Line}
use Rattle.ct_session.specs.Shown.{HasReached, AreShown}
use Rattle.ct_legal.specs.Cases.{plain_case}
use Rattle.ct_legal.specs.Legal.{AreLegalLines}

-- whatever words its desk finds, a session shows legal lines from a floor that its first pinned version has reached, and from
-- a least level that this version covers
abbrev pub ShownIsLegal : Type 0
ShownIsLegal =
    (p : Place) → IsInstance p.instance → (walks levels : Bool) (before after from to : ℕ) (requests : List Request) (lines : List Line) (words : List ℕ) →
    AreShown p walks before after from requests lines words to → (floor low : ℕ) → HasReached p floor from → Covers (level_of p.instance from) low →
    AreLegalLines (plain_case p.instance p.limit walks levels) floor low requests lines
