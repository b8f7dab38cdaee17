-- What one request tells, and what two lists of requests tell one after the other.
use Rattle.std.proofs.Common.{◌≡◌, ⊎_elim, ℕ, ◌+◌, ◌≤◌, ◌<◌, Bool, true, false, List, [], ◌∷◌, ◌++◌, length, drop, take, get_or, refl, sym, ap, subst, ◌∙◌, arith, append_assoc, append-nil}
use Rattle.std.proofs.lemmas.Bool.{cases_lt}
use Rattle.std.proofs.lemmas.List.{drop_at, take_more}
use Rattle.ct_vectors.specs.Vectors.{total}
use Rattle.ct_instance.specs.Instance.{Problem, IsInstance, start_of}
use Rattle.ct_instance.specs.Answer.{answer_of}
use Rattle.ct_instance.specs.TestSet.{test_list}
use Rattle.ct_instance.specs.Walk.{IsWalk}
use Rattle.ct_instance.specs.Versions.{Covers, upto, level_of}
use Rattle.ct_instance.specs.Reach.{first_version_from}
use Rattle.ct_input.specs.declared.script.Request.{Request}
use Rattle.ct_input.specs.declared.script.Request.TheVariants.{Ask, Solve}
use Rattle.ct_version.specs.declared.answers.Answered.{Answered}
use Rattle.ct_version.specs.Editions.{Edition}
use Rattle.ct_version.specs.Answers.{IsNotYet, IsAnswered}
use Rattle.ct_version.specs.Desks.{Place, IsOfPlace, raised}
use Rattle.ct_vectors.specs.Words.{Extends}
use Rattle.ct_levels.proofs.Levels.{levels_rise}
use Rattle.ct_levels.proofs.Covering.{first_version_is}
use Rattle.ct_levels.proofs.Reach.{reach_when_full, reach_within}
use Rattle.ct_session.specs.declared.lines.Line.{Line}
use Rattle.ct_session.specs.declared.lines.Line.TheVariants.{NotYet as NotYetLine, Full as FullLine}
use Rattle.ct_session.specs.Lines.{IsAnsweredLine, IsAskLine, IsFullOrAnswered}
use Rattle.ct_session.specs.Sessions.{IsCalm, Rises, IsRepinned, IsOpenTo, IsFullAt}
use Rattle.ct_session.specs.Shown.{version_at, line_of, HasReached, AskStep, SolveStep, AreShown, nothing, asked, solved}

-- ---- versions of a place

version_of : (p : Place) (v : Edition) → IsOfPlace p v → IsOfPlace p (version_at p v.number)
version_of p v of_place = record { instance = refl; version = of_place.version; most = of_place.most }

answered_at : (p : Place) (v : Edition) (b : List ℕ) (a : Answered) → IsOfPlace p v → IsAnswered v b a → IsAnswered (version_at p v.number) b a
answered_at p v b a of_place answered = subst (λ (i : Problem). IsAnswered (record { instance = i; number = v.number }) b a) of_place.instance answered

answered_shows : (i : Problem) (k : ℕ) (b : List ℕ) (a : Answered) (walks : Bool) → IsAnswered (record { instance = i; number = k }) b a →
    IsAnsweredLine i walks (answer_of i b) b (line_of a walks)
answered_shows i k b a true answered =
    (answered.answer, subst (λ q. IsWalk (test_list i (total b)) (start_of i b) a.walk.steps q) answered.end answered.walk)
answered_shows i k b a false answered = (answered.answer, tt)

-- ---- asks

pub ask_answered : (p : Place) (v : Edition) (b : List ℕ) (a : Answered) (walks : Bool) (line : Line) → IsOfPlace p v → IsAnswered v b a → line ≡ line_of a walks →
    IsAskLine p.instance (level_of p.instance v.number) walks (answer_of p.instance b) b line
ask_answered p v b a walks line of_place answered same =
    let here : IsAnswered (version_at p v.number) b a = answered_at p v b a of_place answered in
    subst (IsAskLine p.instance (level_of p.instance v.number) walks (answer_of p.instance b) b) (sym same) (here.covers, answered_shows p.instance v.number b a walks here)

pub ask_not_yet : (p : Place) (v : Edition) (b : List ℕ) (f : ℕ) (walks : Bool) → IsOfPlace p v → IsNotYet v b f →
    IsAskLine p.instance (level_of p.instance v.number) walks (answer_of p.instance b) b (NotYetLine f)
ask_not_yet p v b f walks of_place not_yet = (subst (λ (i : Problem). level_of i v.number ≡ upto f) of_place.instance not_yet.level, not_yet.below)

pub ask_shown : (p : Place) (walks : Bool) (before after from word : ℕ) (b : List ℕ) (line : Line) (v : Edition) (old new : List ℕ) → IsOfPlace p v →
    IsRepinned from word before after v.number → IsAskLine p.instance (level_of p.instance v.number) walks (answer_of p.instance b) b line →
    new ≡ old ++ word ∷ [] → AreShown p walks before after from (Ask b ∷ []) (line ∷ []) (drop (length old) new) v.number
ask_shown p walks before after from word b line v old new of_place repinned told more =
    let step : AskStep p walks before after from word b line v.number =
    record { version = version_of p v of_place; either = repinned.either; calm = repinned.calm; told = told } in
    subst (λ ws. AreShown p walks before after from (Ask b ∷ []) (line ∷ []) ws v.number)
    (sym (ap (drop (length old)) more ∙ drop_at old (word ∷ []) (length old) refl))
    (asked from v.number v.number word b [] line [] [] step (nothing v.number))

-- ---- solves

covers_reached : (p : Place) (v : Edition) (g : ℕ) → IsInstance p.instance → IsOfPlace p v → Covers (level_of p.instance v.number) g → HasReached p g v.number
covers_reached p v g inst of_place covers =
    λ x c. levels_rise p.instance (first_version_from p.instance g) v.number x first
    (subst (λ l. Covers l x) (reach_within p.instance inst p.limit v.number g of_place.version of_place.most covers) c)
  where
    first : first_version_from p.instance g ≤ v.number
    first =
        ⊎_elim (λ l. absurd ((first_version_is p.instance g).first v.number l covers)) (λ l. l) (cases_lt v.number (first_version_from p.instance g))

full_reached : (p : Place) (g k f : ℕ) → IsFullAt p g k f → HasReached p g k
full_reached p g k f full = λ x c. subst (λ l. Covers l x) (reach_when_full p.instance p.limit g f full.grade ∙ sym full.level) c

solve_shown : (p : Place) (walks : Bool) (before after from : ℕ) (b : List ℕ) (line : Line) (to : ℕ) (words : List ℕ) → SolveStep p walks from b line to →
    AreShown p walks before after from (Solve b ∷ []) (line ∷ []) words to
solve_shown p walks before after from b line to words step =
    subst (λ ws. AreShown p walks before after from (Solve b ∷ []) (line ∷ []) ws to) (append-nil words)
    (solved from to to b [] line [] words [] step (nothing to))

pub solve_answered : (p : Place) (walks : Bool) (before after from : ℕ) (b : List ℕ) (a : Answered) (line : Line) (v : Edition) (words : List ℕ) → IsInstance p.instance →
    IsOfPlace p v → from ≤ v.number → IsAnswered v b a → IsOpenTo p (total b) → line ≡ line_of a walks →
    AreShown p walks before after from (Solve b ∷ []) (line ∷ []) words v.number
solve_answered p walks before after from b a line v words inst of_place rises answered room same =
    let here : IsAnswered (version_at p v.number) b a = answered_at p v b a of_place answered in
    let step : SolveStep p walks from b line v.number = record {
      version = version_of p v of_place;
      rises = rises;
      reached = covers_reached p v (total b) inst of_place here.covers;
      told =
          subst (λ o. IsFullOrAnswered o p.instance walks (answer_of p.instance b) b line) (sym room)
          (subst (IsAnsweredLine p.instance walks (answer_of p.instance b) b) (sym same) (answered_shows p.instance v.number b a walks here));
    } in
    solve_shown p walks before after from b line v.number words step

pub solve_full : (p : Place) (walks : Bool) (before after from : ℕ) (b : List ℕ) (f : ℕ) (v : Edition) (words : List ℕ) → IsOfPlace p v →
    from ≤ v.number → IsFullAt p (total b) v.number f →
    AreShown p walks before after from (Solve b ∷ []) (FullLine f ∷ []) words v.number
solve_full p walks before after from b f v words of_place rises full =
    let step : SolveStep p walks from b (FullLine f) v.number = record {
      version = version_of p v of_place;
      rises = rises;
      reached = full_reached p (total b) v.number f full;
      told = subst (λ o. IsFullOrAnswered o p.instance walks (answer_of p.instance b) b (FullLine f)) (sym full.grade) refl;
    } in
    solve_shown p walks before after from b (FullLine f) v.number words step

-- ---- one after the other

under : (p : Place) (walks : Bool) (before after begun ended from : ℕ) (requests : List Request) (lines : List Line) (words : List ℕ) (to : ℕ) →
    (IsCalm begun ended → IsCalm before after) → AreShown p walks before after from requests lines words to →
    AreShown p walks begun ended from requests lines words to
under p walks before after begun ended from requests lines words to calm (nothing k) = nothing k
under p walks before after begun ended from requests lines words to calm (asked k next m word b rs line ls ws step rest) =
    asked k next m word b rs line ls ws
    (record { version = step.version; either = step.either; calm = λ c. step.calm (calm c); told = step.told })
    (under p walks before after begun ended next rs ls ws m calm rest)
under p walks before after begun ended from requests lines words to calm (solved k next m b rs line ls found ws step rest) =
    solved k next m b rs line ls found ws step (under p walks before after begun ended next rs ls ws m calm rest)

joined : (p : Place) (walks : Bool) (before after from mid to : ℕ) (requests more : List Request) (lines others : List Line) (words rest : List ℕ) →
    AreShown p walks before after from requests lines words mid → AreShown p walks before after mid more others rest to →
    AreShown p walks before after from (requests ++ more) (lines ++ others) (words ++ rest) to
joined p walks before after from mid to requests more lines others words rest (nothing k) then = then
joined p walks before after from mid to requests more lines others words rest (asked k next m word b rs line ls ws step left) then =
    asked k next to word b (rs ++ more) line (ls ++ others) (ws ++ rest) step (joined p walks before after next m to rs more ls others ws rest left then)
joined p walks before after from mid to requests more lines others words rest (solved k next m b rs line ls found ws step left) then =
    subst (λ all. AreShown p walks before after k (Solve b ∷ rs ++ more) (line ∷ ls ++ others) all to) (sym (append_assoc found ws rest))
    (solved k next to b (rs ++ more) line (ls ++ others) found (ws ++ rest) step (joined p walks before after next m to rs more ls others ws rest left then))

calm_first : (before mid after : ℕ) → Rises before mid → Rises mid after → IsCalm before after → IsCalm before mid
calm_first before mid after first last (room, same) = (room, mid_same)
  where
    mid_same : mid ≡ before
    mid_same =
        let a = first (omega arith) in
        let c = last a.1 in
        omega (arith, a.0, c.0)

calm_last : (before mid after : ℕ) → Rises before mid → Rises mid after → IsCalm before after → IsCalm mid after
calm_last before mid after first last calm =
    let same : mid ≡ before = (calm_first before mid after first last calm).1 in
    (subst (λ n. n < raised n) (sym same) calm.0, calm.1 ∙ sym same)

-- the words of two calls
pub words_joined : (old mid new : List ℕ) → Extends old mid → Extends mid new →
    Extends old new × (drop (length old) new ≡ drop (length old) mid ++ drop (length mid) new)
words_joined old mid new first last =
    let all : new ≡ old ++ (drop (length old) mid ++ drop (length mid) new) =
    last ∙ ap (λ ws. ws ++ drop (length mid) new) first ∙ append_assoc old (drop (length old) mid) (drop (length mid) new) in
    let rest : drop (length old) new ≡ drop (length old) mid ++ drop (length mid) new =
    ap (drop (length old)) all ∙ drop_at old (drop (length old) mid ++ drop (length mid) new) (length old) refl in
    (all ∙ ap (λ ws. old ++ ws) (sym rest), rest)

pub rises_joined : (before mid after : ℕ) → Rises before mid → Rises mid after → Rises before after
rises_joined before mid after first last = λ room. let a = first room in let c = last a.1 in (omega (arith, a.0, c.0), c.1)

pub shown_joined : (p : Place) (walks : Bool) (before mid after from next to : ℕ) (requests more : List Request) (lines others : List Line) (old here new : List ℕ) →
    Rises before mid → Rises mid after → Extends old here → Extends here new →
    AreShown p walks before mid from requests lines (drop (length old) here) next → AreShown p walks mid after next more others (drop (length here) new) to →
    AreShown p walks before after from (requests ++ more) (lines ++ others) (drop (length old) new) to
shown_joined p walks before mid after from next to requests more lines others old here new first last start on told then =
    subst (λ ws. AreShown p walks before after from (requests ++ more) (lines ++ others) ws to) (sym (words_joined old here new start on).1)
    (joined p walks before after from next to requests more lines others (drop (length old) here) (drop (length here) new)
    (under p walks before mid before after from requests lines (drop (length old) here) next (calm_first before mid after first last) told)
    (under p walks mid after before after next more others (drop (length here) new) to (calm_last before mid after first last) then))

-- ---- a script

pub none_shown : (p : Place) (walks : Bool) (count from : ℕ) (lines : List Line) (words : List ℕ) → lines ≡ [] →
    AreShown p walks count count from [] lines (drop (length words) words) from
none_shown p walks count from lines words empty =
    let left : drop (length words) words ≡ [] = ap (drop (length words)) (sym (append-nil words)) ∙ drop_at words [] (length words) refl in
    subst (λ ls. AreShown p walks count count from [] ls (drop (length words) words) from) (sym empty)
    (subst (λ ws. AreShown p walks count count from [] [] ws from) (sym left) (nothing from))

pub no_more_words : (words : List ℕ) → Extends words words
no_more_words words =
    let left : drop (length words) words ≡ [] = ap (drop (length words)) (sym (append-nil words)) ∙ drop_at words [] (length words) refl in
    sym (ap (λ ws. words ++ ws) left ∙ append-nil words)

pub shown_more : (p : Place) (walks : Bool) (before mid after from next to : ℕ) (script : List Request) (turn : ℕ) (x : Request) (lines more : List Line) (line : Line) (old here new : List ℕ) →
    turn < length script → x ≡ get_or script turn x → more ≡ lines ++ line ∷ [] → Rises before mid → Rises mid after → Extends old here → Extends here new →
    AreShown p walks before mid from (take turn script) lines (drop (length old) here) next →
    AreShown p walks mid after next (x ∷ []) (line ∷ []) (drop (length here) new) to →
    AreShown p walks before after from (take (turn + 1) script) more (drop (length old) new) to
shown_more p walks before mid after from next to script turn x lines more line old here new inside is pushed first last start on told then =
    subst (λ rs. AreShown p walks before after from rs more (drop (length old) new) to)
    (ap (λ y. take turn script ++ y ∷ []) is ∙ sym (take_more script turn x inside))
    (subst (λ ls. AreShown p walks before after from (take turn script ++ x ∷ []) ls (drop (length old) new) to) (sym pushed)
    (shown_joined p walks before mid after from next to (take turn script) (x ∷ []) lines (line ∷ []) old here new first last start on told then))
