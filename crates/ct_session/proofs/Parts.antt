-- A script part by part, the pinned number, and the words of asks.
use Rattle.std.proofs.Common.{ℕ, ◌/◌, ◌%◌, ◌≤◌, ◌≡◌, ◌++◌, ⊎_elim, All, Bool, true, false, cond, nat_eq, max, List, [], ◌∷◌, length, refl, sym, ap, subst, ◌∙◌, arith, append_assoc, suc}
use Rattle.std.proofs.lemmas.List.Elements.{All-head, All-tail}
use Rattle.ct_input.specs.declared.script.Request.{Request}
use Rattle.ct_input.specs.declared.script.Request.TheVariants.{Ask, Solve}
use Rattle.ct_version.specs.Desks.{Place}
use Rattle.ct_session.specs.declared.lines.Line.{Line}
use Rattle.ct_session.specs.Sessions.{newest, IsCalm}
use Rattle.ct_session.specs.Shown.{AskStep, AreShown, nothing, asked, solved}
use Rattle.ct_session.specs.Laws.{IsParted, IsAsk, newest_of}

-- ---- the pinned number

pub newest_rises : (from word : ℕ) → from ≤ newest from word
newest_rises from word = by (nat_eq (word % 2) 0)
  where
    by : (even : Bool) → from ≤ cond even (max from (word / 2)) from
    by true = omega arith
    by false = omega arith

pub ask_rises : (p : Place) (walks : Bool) (before after from word : ℕ) (b : List ℕ) (line : Line) (to : ℕ) → AskStep p walks before after from word b line to → from ≤ to
ask_rises p walks before after from word b line to step =
    ⊎_elim (λ (e : to ≡ from). omega arith) (λ (e : to ≡ newest from word). subst (λ k. from ≤ k) (sym e) (newest_rises from word)) step.either

pub shown_rises : (p : Place) (walks : Bool) (before after from to : ℕ) (requests : List Request) (lines : List Line) (words : List ℕ) →
    AreShown p walks before after from requests lines words to → from ≤ to
shown_rises p walks before after from to requests lines words (nothing k) = omega arith
shown_rises p walks before after from to requests lines words (asked k next m word b rs line ls ws step rest) =
    let later : k ≤ next = ask_rises p walks before after k word b line next step in
    omega (arith, shown_rises p walks before after next m rs ls ws rest)
shown_rises p walks before after from to requests lines words (solved k next m b rs line ls found ws step rest) =
    let later : k ≤ next = step.rises in
    omega (arith, shown_rises p walks before after next m rs ls ws rest)

-- ---- parts

all_after : (p : Place) (walks : Bool) (before after from to : ℕ) (requests more : List Request) (lines : List Line) (words : List ℕ) → requests ≡ more →
    AreShown p walks before after from requests lines words to → IsParted p walks before after from [] more lines words to
all_after p walks before after from to requests more lines words same shown = record {
  middle = from;
  first_lines = [];
  more_lines = lines;
  first_words = [];
  more_words = words;
  all_lines = refl;
  all_words = refl;
  shown_first = nothing from;
  shown_more = subst (λ rs. AreShown p walks before after from rs lines words to) same shown;
}

parted : (p : Place) (walks : Bool) (before after from to : ℕ) (requests first more : List Request) (lines : List Line) (words : List ℕ) → requests ≡ first ++ more →
    AreShown p walks before after from requests lines words to → IsParted p walks before after from first more lines words to
parted p walks before after from to requests [] more lines words same shown = all_after p walks before after from to requests more lines words same shown
parted p walks before after from to requests (r ∷ first) more lines words same (nothing k) = absurd (cc)
parted p walks before after from to requests (r ∷ first) more lines words same (asked k next m word b rs line ls ws step rest) =
    let head : Ask b ≡ r = cc in
    let tail : rs ≡ first ++ more = cc in
    let left = parted p walks before after next m rs first more ls ws tail rest in
    record {
      middle = left.middle;
      first_lines = line ∷ left.first_lines;
      more_lines = left.more_lines;
      first_words = word ∷ left.first_words;
      more_words = left.more_words;
      all_lines = ap (λ xs. line ∷ xs) left.all_lines;
      all_words = ap (λ xs. word ∷ xs) left.all_words;
      shown_first =
          subst (λ x. AreShown p walks before after k (x ∷ first) (line ∷ left.first_lines) (word ∷ left.first_words) left.middle) head
          (asked k next left.middle word b first line left.first_lines left.first_words step left.shown_first);
      shown_more = left.shown_more;
    }
parted p walks before after from to requests (r ∷ first) more lines words same (solved k next m b rs line ls found ws step rest) =
    let head : Solve b ≡ r = cc in
    let tail : rs ≡ first ++ more = cc in
    let left = parted p walks before after next m rs first more ls ws tail rest in
    record {
      middle = left.middle;
      first_lines = line ∷ left.first_lines;
      more_lines = left.more_lines;
      first_words = found ++ left.first_words;
      more_words = left.more_words;
      all_lines = ap (λ xs. line ∷ xs) left.all_lines;
      all_words = ap (λ xs. found ++ xs) left.all_words ∙ sym (append_assoc found left.first_words left.more_words);
      shown_first =
          subst (λ x. AreShown p walks before after k (x ∷ first) (line ∷ left.first_lines) (found ++ left.first_words) left.middle) head
          (solved k next left.middle b first line left.first_lines found left.first_words step left.shown_first);
      shown_more = left.shown_more;
    }

pub shown_parts : (p : Place) (walks : Bool) (before after from to : ℕ) (first more : List Request) (lines : List Line) (words : List ℕ) →
    AreShown p walks before after from (first ++ more) lines words to → IsParted p walks before after from first more lines words to
shown_parts p walks before after from to first more lines words shown = parted p walks before after from to (first ++ more) first more lines words refl shown

-- ---- asks

pub asks_take_words : (p : Place) (walks : Bool) (before after from to : ℕ) (requests : List Request) (lines : List Line) (words : List ℕ) →
    All IsAsk requests → AreShown p walks before after from requests lines words to →
    (length words ≡ length requests) × (IsCalm before after → to ≡ newest_of from words)
asks_take_words p walks before after from to requests lines words asks (nothing k) = (refl, λ c. refl)
asks_take_words p walks before after from to requests lines words asks (asked k next m word b rs line ls ws step rest) =
    let left = asks_take_words p walks before after next m rs ls ws (All-tail IsAsk (Ask b) rs asks) rest in
    (ap suc left.0, λ c. left.1 c ∙ ap (λ n. newest_of n ws) (step.calm c))
asks_take_words p walks before after from to requests lines words asks (solved k next m b rs line ls found ws step rest) =
    let wrong = All-head IsAsk (Solve b) rs asks in
    let same : Solve b ≡ Ask wrong.0 = wrong.1 in
    absurd (cc)
