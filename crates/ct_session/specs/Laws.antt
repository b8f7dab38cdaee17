-- What holds of the lines and words of a script. Each statement is the contract of a function in the module `laws`.
use Rattle.std.specs.Prelude.{ℕ, ◌≤◌, ◌≡◌, ◌++◌, All, Bool, List, [], ◌∷◌, length}
use Rattle.ct_input.specs.declared.script.Request.{Request}
use Rattle.ct_input.specs.declared.script.Request.TheVariants.{Ask}
use Rattle.ct_version.specs.Desks.{Place}
use Rattle.ct_session.specs.declared.lines.Line.{Line}
use Rattle.ct_session.specs.Sessions.{newest, IsCalm}
use Rattle.ct_session.specs.Shown.{AreShown}

-- a script that is shown, parted between two lists of requests
pub record IsParted (p : Place) (walks : Bool) (before after from : ℕ) (first more : List Request) (lines : List Line) (words : List ℕ) (to : ℕ) : Type 0 where
  pub middle : ℕ
  pub first_lines : List Line
  pub more_lines : List Line
  pub first_words : List ℕ
  pub more_words : List ℕ
  pub all_lines : lines ≡ first_lines ++ more_lines
  pub all_words : words ≡ first_words ++ more_words
  pub shown_first : AreShown p walks before after from first first_lines first_words middle
  pub shown_more : AreShown p walks before after middle more more_lines more_words to

-- the requests are shown part by part, whichever way they are parted
abbrev pub ShownInParts : Type 0
ShownInParts =
    (p : Place) (walks : Bool) (before after from to : ℕ) (first more : List Request) (lines : List Line) (words : List ℕ) →
    AreShown p walks before after from (first ++ more) lines words to → IsParted p walks before after from first more lines words to

-- the pinned number rises
abbrev pub ShownRises : Type 0
ShownRises =
    (p : Place) (walks : Bool) (before after from to : ℕ) (requests : List Request) (lines : List Line) (words : List ℕ) →
    AreShown p walks before after from requests lines words to → from ≤ to

abbrev pub IsAsk : Request → Type 0
IsAsk request = (b : List ℕ) × (request ≡ Ask b)

-- the greatest of a number and those that the words tell
abbrev pub newest_of : ℕ → List ℕ → ℕ
newest_of from [] = from
newest_of from (word ∷ words) = newest_of (newest from word) words

-- asks alone have one word each, and the greatest number that these tell is pinned where no pin was refused for memory
abbrev pub AsksTakeWords : Type 0
AsksTakeWords =
    (p : Place) (walks : Bool) (before after from to : ℕ) (requests : List Request) (lines : List Line) (words : List ℕ) →
    All IsAsk requests → AreShown p walks before after from requests lines words to →
    (length words ≡ length requests) × (IsCalm before after → to ≡ newest_of from words)
