-- One line more of a report: what it adds, within the limits of reading.
use Rattle.std.proofs.Common.{◌≡◌, ℕ, ◌+◌, ◌*◌, ◌<◌, ◌≤◌, ◌^◌, Bool, true, false, cond, ltb, List, [], ◌∷◌, ◌++◌, length, Option, Some, None, refl, sym, ap, ◌∙◌, inl, inr, lit<, append_assoc}
use Rattle.std.specs.Prelude.{unsigned_abs}
use Rattle.std.specs.Prelude.{All as Each}
use Rattle.std.proofs.lemmas.Bool.{ltb-true}
use Rattle.std.proofs.lemmas.List.{append-nil, length_push}
use Rattle.std.proofs.lemmas.List.Elements.{All-nil, All-push, All-from_recursion}
use Rattle.ct_vectors.specs.declared.limits.TheConstants.{COST_LIMIT, GRADE_LIMIT, JOB_GRADE_LIMIT}
use Rattle.ct_lines.specs.Texts.{IsStep}
use Rattle.ct_lines.specs.Wording.{Wording, barred, Spells}
use Rattle.ct_lines.proofs.Spelling.{Fits, fits_if}
use Rattle.ct_version.specs.declared.answers.Answer.{Answer}
use Rattle.ct_version.specs.declared.finished.Finished.{Finished}
use Rattle.ct_version.specs.declared.finished.Finished.TheVariants.{Upto, All}
use Rattle.ct_session.specs.declared.lines.Line.{Line}
use Rattle.ct_session.specs.declared.lines.Line.TheVariants.{Answered, NotYet, Full}
use Rattle.ct_report.specs.declared.reports.PhaseReport.{PhaseReport}
use Rattle.ct_report.specs.ReportText.{answer_words, walk_line_words}
use Rattle.ct_report.specs.Limits.{IsAnswer, IsLine, IsLevel, IsCount, IsPhase}
use Rattle.ct_report.specs.Grammar.{Stage, title, between, in_phase, in_session, in_answer, closed, one_more, phase_of, next_number, if_room, between_line, phase_line, optimum_line, session_line, answer_line, next_line}
use Rattle.ct_report.proofs.SaidLines.{Lines, said_phases, said_phase, said_session, said, said_level, said_no_level, said_over, said_line}

-- ---- the limits of what was read

pub record ArePhases (phases : List PhaseReport) : Type 0 where
  pub count : IsCount (length phases)
  pub all : Each IsPhase phases

pub record AreSessions (phases : List PhaseReport) (sessions : List (List Line)) : Type 0 where
  pub above : ArePhases phases
  pub room : IsCount (length phases + 1)
  pub count : IsCount (length sessions)
  pub all : Each (Each IsLine) sessions

pub record AreAnswers (phases : List PhaseReport) (sessions : List (List Line)) (lines : List Line) : Type 0 where
  pub above : AreSessions phases sessions
  pub room : IsCount (length sessions + 1)
  pub all : Each IsLine lines

abbrev pub InLimits : Stage → Type 0
InLimits title = Unit {0}
InLimits (between phases) = ArePhases phases
InLimits (in_phase phases sessions) = AreSessions phases sessions
InLimits (in_session phases sessions lines) = AreAnswers phases sessions lines
InLimits (in_answer phases sessions lines answer) = AreAnswers phases sessions lines × IsAnswer answer
InLimits (closed phases) = ArePhases phases

more_phases : (phases : List PhaseReport) (sessions : List (List Line)) (level : Option Finished) → AreSessions phases sessions → IsLevel level → ArePhases (one_more phases (phase_of sessions level))
more_phases phases sessions level h l = record {
  count = rw (length_push phases (phase_of sessions level)) h.room;
  all = All-push IsPhase phases (phase_of sessions level) h.above.all (record { count = h.count; sessions = h.all; level = l });
}

more_sessions : (phases : List PhaseReport) (sessions : List (List Line)) (lines : List Line) → AreAnswers phases sessions lines → AreSessions phases (one_more sessions lines)
more_sessions phases sessions lines h = record {
  above = h.above.above;
  room = h.above.room;
  count = rw (length_push sessions lines) h.room;
  all = All-push (Each IsLine) sessions lines h.above.all h.all;
}

more_lines : (phases : List PhaseReport) (sessions : List (List Line)) (lines : List Line) (line : Line) → AreAnswers phases sessions lines → IsLine line → AreAnswers phases sessions (one_more lines line)
more_lines phases sessions lines line h l = record { above = h.above; room = h.room; all = All-push IsLine lines line h.all l }

-- ---- one line more

-- what a line that was read adds
abbrev Adds : Lines → List (List ℕ) → Stage → Type 0
Adds lines words t = InLimits t × (said t ≡ lines ++ words ∷ [])

adds_to : (a b : Lines) (words : List (List ℕ)) (t : Stage) → a ≡ b → Adds a words t → Adds b words t
adds_to a b words t same h = (h.0, h.1 ∙ ap (λ (lines : Lines). lines ++ words ∷ []) same)

room_parts : {X : Type 0} (xs : List X) (g : Wording Stage) (words : List (List ℕ)) (t : Stage) → Spells (if_room xs g) words t → IsCount (length xs + 1) × Spells g words t
room_parts xs g words t h = go (ltb (length xs + 1) (2 ^ 62)) refl h
  where
    go : (test : Bool) → ltb (length xs + 1) (2 ^ 62) ≡ test → Spells (cond test g barred) words t → IsCount (length xs + 1) × Spells g words t
    go true is h = (ltb-true (length xs + 1) (2 ^ 62) is, h)
    go false is h = absurd h

adds_between : (phases : List PhaseReport) (words : List (List ℕ)) (t : Stage) → ArePhases phases → Spells (between_line phases) words t → Adds (said_phases phases) words t
unfolding between_line
adds_between phases words t h (inl (r1, is1, spells)) = after (room_parts phases _ r1 t spells)
  where
    after : IsCount (length phases + 1) × ((r2 : List (List ℕ)) × (r1 ≡ next_number phases ∷ r2) × ((r2 ≡ []) × (in_phase phases [] ≡ t))) → Adds (said_phases phases) words t
    after (room, (r2, is2, (none, same))) = rw (← same, is1, is2, none) (record { above = h; room = room; count = lit< tt; all = All-nil (Each IsLine) }, refl)
adds_between phases words t h (inr (no1, (r1, is1, (none, same)))) = rw (← same, is1, none) (h, refl)

adds_phase : (phases : List PhaseReport) (sessions : List (List Line)) (words : List (List ℕ)) (t : Stage) → AreSessions phases sessions → Spells (phase_line phases sessions) words t → Adds (said_phase phases sessions) words t
unfolding phase_line
adds_phase phases sessions words t h (inl (r1, is1, spells)) = after (room_parts sessions _ r1 t spells)
  where
    after : IsCount (length sessions + 1) × ((r2 : List (List ℕ)) × (r1 ≡ next_number sessions ∷ r2) × ((r2 ≡ []) × (in_session phases sessions [] ≡ t))) → Adds (said_phase phases sessions) words t
    after (room, (r2, is2, (none, same))) = rw (← same, is1, is2, none) (record { above = h; room = room; all = All-nil IsLine }, refl)
adds_phase phases sessions words t h (inr (no1, inl (r1, is1, inl (r2, is2, (none, same))))) =
    rw (← same, is1, is2, none) (more_phases phases sessions (Some All) h tt, said_level phases sessions (Some All))
adds_phase phases sessions words t h (inr (no1, inl (r1, is1, inr (no2, (level, r2, is2, low, high, (none, same)))))) =
    rw (← same, is1, is2, none) (more_phases phases sessions (Some (Upto level)) h high, said_level phases sessions (Some (Upto level)))
adds_phase phases sessions words t h (inr (no1, inr (no2, spells))) =
    adds_to (said_phases (one_more phases (phase_of sessions None))) (said_phase phases sessions) words t (said_no_level phases sessions)
    (adds_between (one_more phases (phase_of sessions None)) words t (more_phases phases sessions None h tt) spells)

adds_session : (phases : List PhaseReport) (sessions : List (List Line)) (lines : List Line) (words : List (List ℕ)) (t : Stage) → AreAnswers phases sessions lines → Spells (session_line phases sessions lines) words t → Adds (said_session phases sessions lines) words t
unfolding session_line optimum_line
adds_session phases sessions lines words t h (inl (r1, is1, (costs, r2, is2, some1, few1, all1, (point, is3, some2, few2, all2, (none, same))))) =
    rw (← same, is1, is2, is3) ((h, (some1, few1, All-from_recursion (λ n. unsigned_abs n ≤ COST_LIMIT * JOB_GRADE_LIMIT) costs all1, some2, few2, All-from_recursion (λ n. n ≤ GRADE_LIMIT) point all2)), refl)
adds_session phases sessions lines words t h (inr (no1, inl (r1, is1, (r2, is2, (short, r3, is3, low, high, (none, same)))))) =
    rw (← same, is1, is2, is3, none) ((h, (low, high)), refl)
adds_session phases sessions lines words t h (inr (no1, inr (no2, inl (r1, is1, (finished, r2, is2, low, high, (none, same)))))) =
    rw (← same, is1, is2, none) (more_lines phases sessions lines (NotYet finished) h high, said_line phases sessions lines (NotYet finished))
adds_session phases sessions lines words t h (inr (no1, inr (no2, inr (no3, inl (r1, is1, (grade, r2, is2, low, high, (none, same))))))) =
    rw (← same, is1, is2, none) (more_lines phases sessions lines (Full grade) h (low, high), said_line phases sessions lines (Full grade))
adds_session phases sessions lines words t h (inr (no1, inr (no2, inr (no3, inr (no4, spells))))) =
    adds_to (said_phase phases (one_more sessions lines)) (said_session phases sessions lines) words t (said_over phases sessions lines)
    (adds_phase phases (one_more sessions lines) words t (more_sessions phases sessions lines h) spells)

adds_answer : (phases : List PhaseReport) (sessions : List (List Line)) (lines : List Line) (answer : Answer) (words : List (List ℕ)) (t : Stage) → AreAnswers phases sessions lines → IsAnswer answer → Spells (answer_line phases sessions lines answer) words t → Adds (said_session phases sessions lines ++ answer_words answer ∷ []) words t
unfolding answer_line
adds_answer phases sessions lines answer words t h a (inl (r1, is1, (steps, r2, is2, all, ends, (none, same)))) =
    rw (← same, is1, is2, none, append-nil) (
      more_lines phases sessions lines (Answered answer (Some steps)) h (a, All-from_recursion IsStep steps all),
      said_line phases sessions lines (Answered answer (Some steps)) ∙ sym (append_assoc (said_session phases sessions lines) (answer_words answer ∷ []) (walk_line_words steps ∷ [])),
    )
adds_answer phases sessions lines answer words t h a (inr (no1, spells)) =
    adds_to (said_session phases sessions (one_more lines (Answered answer None))) (said_session phases sessions lines ++ answer_words answer ∷ []) words t (said_line phases sessions lines (Answered answer None))
    (adds_session phases sessions (one_more lines (Answered answer None)) words t (more_lines phases sessions lines (Answered answer None) h (a, tt)) spells)

no_phases : ArePhases []
no_phases = record { count = lit< tt; all = All-nil IsPhase }

pub adds : (s t : Stage) (words : List (List ℕ)) → InLimits s → Spells (next_line s) words t → Adds (said s) words t
adds title t words h (r1, is1, (r2, is2, (none, same))) = rw (← same, is1, is2, none) (no_phases, refl)
adds (between phases) t words h spells = adds_between phases words t h spells
adds (in_phase phases sessions) t words h spells = adds_phase phases sessions words t h spells
adds (in_session phases sessions lines) t words h spells = adds_session phases sessions lines words t h spells
adds (in_answer phases sessions lines answer) t words h spells = adds_answer phases sessions lines answer words t h.0 h.1 spells
adds (closed phases) t words h spells = absurd spells

-- ---- the limits of numbers fit

fits_between : (phases : List PhaseReport) → Fits (between_line phases)
unfolding between_line
fits_between phases = (fits_if (ltb (length phases + 1) (2 ^ 62)) _ tt, tt)

fits_phase : (phases : List PhaseReport) (sessions : List (List Line)) → Fits (phase_line phases sessions)
unfolding phase_line
fits_phase phases sessions = (fits_if (ltb (length sessions + 1) (2 ^ 62)) _ tt, ((tt, (lit< tt, λ level. tt)), fits_between (one_more phases (phase_of sessions None))))

fits_session : (phases : List PhaseReport) (sessions : List (List Line)) (lines : List Line) → Fits (session_line phases sessions lines)
unfolding session_line optimum_line
fits_session phases sessions lines =
    ((lit< tt, lit< tt, λ costs. (lit< tt, λ point. tt)), ((lit< tt, λ short. tt), ((lit< tt, λ finished. tt), ((lit< tt, λ grade. tt), fits_phase phases (one_more sessions lines)))))

pub in_limits : (s : Stage) → Fits (next_line s)
unfolding answer_line
in_limits title = tt
in_limits (between phases) = fits_between phases
in_limits (in_phase phases sessions) = fits_phase phases sessions
in_limits (in_session phases sessions lines) = fits_session phases sessions lines
in_limits (in_answer phases sessions lines answer) = (λ steps. tt, fits_session phases sessions (one_more lines (Answered answer None)))
in_limits (closed phases) = tt
