-- The lines of a report lead to it.
use Rattle.std.proofs.Common.{◌≡◌, ℕ, ◌+◌, ◌*◌, ◌<◌, ◌≤◌, ◌^◌, false, ltb, List, [], ◌∷◌, ◌++◌, length, map, decimal, codes, Option, Some, None, refl, sym, subst, inl, inr, arith, lit<, append_assoc}
use Rattle.std.specs.Prelude.{unsigned_abs}
use Rattle.std.specs.Prelude.{All as Each}
use Rattle.std.specs.List.{AllByRecursion, flat_map}
use Rattle.std.specs.Fmt.{signed_decimal}
use Rattle.std.proofs.lemmas.Bool.{lt-ltb}
use Rattle.std.proofs.lemmas.List.{append-nil, length_push}
use Rattle.std.proofs.lemmas.List.Elements.{All-head, All-tail, recursion_from_All}
use Rattle.ct_vectors.specs.declared.limits.TheConstants.{COST_LIMIT, GRADE_LIMIT, JOB_GRADE_LIMIT}
use Rattle.ct_lines.specs.Texts.{IsStep, walk_words, end_words}
use Rattle.ct_lines.specs.Reading.{is_next}
use Rattle.ct_lines.specs.Wording.{Wording, Spells, Runs}
use Rattle.ct_lines.proofs.Spelling.{spells_if, not_number}
use Rattle.ct_lines.proofs.Machines.{Runs-append}
use Rattle.ct_version.specs.declared.answers.Answer.{Answer}
use Rattle.ct_version.specs.declared.answers.Answer.TheVariants.{Optimum, Infeasible}
use Rattle.ct_version.specs.declared.finished.Finished.{Finished}
use Rattle.ct_version.specs.declared.finished.Finished.TheVariants.{Upto, All}
use Rattle.ct_session.specs.declared.lines.Line.{Line}
use Rattle.ct_session.specs.declared.lines.Line.TheVariants.{Answered, NotYet, Full}
use Rattle.ct_report.specs.declared.reports.PhaseReport.{PhaseReport}
use Rattle.ct_report.specs.declared.reports.Report.{Report}
use Rattle.ct_report.specs.ReportText.{title_words, phase_words, session_words, answer_words, level_words, line_lines, sessions_lines, level_lines, phase_lines, phases_lines, report_lines}
use Rattle.ct_report.specs.Limits.{IsAnswer, IsLine, IsLevel, IsCount, IsPhase, IsReport}
use Rattle.ct_report.specs.Grammar.{Stage, title, between, in_phase, in_session, in_answer, closed, one_more, phase_of, between_line, phase_line, optimum_line, session_line, answer_line, next_line}
use Rattle.ct_report.proofs.SaidLines.{Lines}

-- ---- the first and the last line

pub spells_title : Spells (next_line title) title_words (between [])
spells_title = (codes "1" ∷ [], refl, ([], refl, (refl, refl)))

pub ends_between : (phases : List PhaseReport) → Spells (between_line phases) end_words (closed phases)
unfolding between_line
ends_between phases = inr (refl, ([], refl, (refl, refl)))

pub ends_phase : (phases : List PhaseReport) (sessions : List (List Line)) → Spells (phase_line phases sessions) end_words (closed (one_more phases (phase_of sessions None)))
unfolding phase_line
ends_phase phases sessions = inr (refl, inr (refl, ends_between (one_more phases (phase_of sessions None))))

pub ends_session : (phases : List PhaseReport) (sessions : List (List Line)) (lines : List Line) → Spells (session_line phases sessions lines) end_words (closed (one_more phases (phase_of (one_more sessions lines) None)))
unfolding session_line
ends_session phases sessions lines = inr (refl, inr (refl, inr (refl, inr (refl, ends_phase phases (one_more sessions lines)))))

pub ends_answer : (phases : List PhaseReport) (sessions : List (List Line)) (lines : List Line) (answer : Answer) → Spells (answer_line phases sessions lines answer) end_words (closed (one_more phases (phase_of (one_more sessions (one_more lines (Answered answer None))) None)))
unfolding answer_line
ends_answer phases sessions lines answer = inr (refl, ends_session phases sessions (one_more lines (Answered answer None)))

-- ---- the lines of a report are read: what a stage does like another where none of some words stands next

record Acts (s : Stage) (tokens : List (List ℕ)) (g : Wording Stage) : Type 0 where
  does : (words : List (List ℕ)) (t : Stage) → AllByRecursion (λ w. is_next w words ≡ false) tokens → Spells g words t → Spells (next_line s) words t

record Reaches (s : Stage) (lines : Lines) (tokens : List (List ℕ)) (g : Wording Stage) : Type 0 where
  stage : Stage
  runs : Runs next_line s lines stage
  acts : Acts stage tokens g

abbrev answer_tokens : List (List ℕ)
answer_tokens = codes "walk" ∷ []

abbrev line_tokens : List (List ℕ)
line_tokens = codes "walk" ∷ codes "optimum" ∷ codes "infeasible" ∷ codes "notyet" ∷ codes "full" ∷ []

abbrev phase_tokens : List (List ℕ)
phase_tokens = codes "walk" ∷ codes "optimum" ∷ codes "infeasible" ∷ codes "notyet" ∷ codes "full" ∷ codes "session" ∷ codes "level" ∷ []

reaches_more : (s : Stage) (xs ys : Lines) (a b : List (List ℕ)) (g h : Wording Stage) (r : Reaches s xs a g) → Reaches r.stage ys b h → Reaches s (xs ++ ys) b h
reaches_more s xs ys a b g h r q = record { stage = q.stage; runs = Runs-append next_line s r.stage q.stage xs ys r.runs q.runs; acts = q.acts }

reads_answer : (s : Stage) (phases : List PhaseReport) (sessions : List (List Line)) (lines : List Line) (answer : Answer) → Acts s answer_tokens (session_line phases sessions lines) → IsAnswer answer → Spells (next_line s) (answer_words answer) (in_answer phases sessions lines answer)
unfolding session_line optimum_line
reads_answer s phases sessions lines (Optimum point costs) a h =
    a.does (answer_words (Optimum point costs)) (in_answer phases sessions lines (Optimum point costs)) (refl, tt)
    (inl (map signed_decimal costs ++ (codes "at" ∷ map decimal point), refl, (costs, map decimal point, refl, h.0, h.1, recursion_from_All (λ n. unsigned_abs n ≤ COST_LIMIT * JOB_GRADE_LIMIT) costs h.2, (point, refl, h.3, h.4, recursion_from_All (λ n. n ≤ GRADE_LIMIT) point h.5, (refl, refl)))))
reads_answer s phases sessions lines (Infeasible short) a h =
    a.does (answer_words (Infeasible short)) (in_answer phases sessions lines (Infeasible short)) (refl, tt)
    (inr (refl, inl (codes "short" ∷ decimal short ∷ [], refl, (decimal short ∷ [], refl, (short, [], refl, h.0, h.1, (refl, refl))))))

reads_line : (s : Stage) (phases : List PhaseReport) (sessions : List (List Line)) (lines : List Line) (line : Line) → Acts s answer_tokens (session_line phases sessions lines) → IsLine line → Reaches s (line_lines line) answer_tokens (session_line phases sessions (one_more lines line))
unfolding session_line answer_line
reads_line s phases sessions lines (NotYet finished) a h = record {
  stage = in_session phases sessions (one_more lines (NotYet finished));
  runs = (in_session phases sessions (one_more lines (NotYet finished)), a.does (codes "notyet" ∷ decimal finished ∷ []) (in_session phases sessions (one_more lines (NotYet finished))) (refl, tt) (inr (refl, inr (refl, inl (decimal finished ∷ [], refl, (finished, [], refl, omega arith, h, (refl, refl)))))), refl);
  acts = record { does = λ words t past spells. spells };
}
reads_line s phases sessions lines (Full grade) a h = record {
  stage = in_session phases sessions (one_more lines (Full grade));
  runs = (in_session phases sessions (one_more lines (Full grade)), a.does (codes "full" ∷ decimal grade ∷ []) (in_session phases sessions (one_more lines (Full grade))) (refl, tt) (inr (refl, inr (refl, inr (refl, inl (decimal grade ∷ [], refl, (grade, [], refl, h.0, h.1, (refl, refl))))))), refl);
  acts = record { does = λ words t past spells. spells };
}
reads_line s phases sessions lines (Answered answer None) a h = record {
  stage = in_answer phases sessions lines answer;
  runs = (in_answer phases sessions lines answer, reads_answer s phases sessions lines answer a h.0, refl);
  acts = record { does = λ words t past spells. inr (past.0, spells) };
}
reads_line s phases sessions lines (Answered answer (Some steps)) a h = record {
  stage = in_session phases sessions (one_more lines (Answered answer (Some steps)));
  runs = (
    in_answer phases sessions lines answer,
    reads_answer s phases sessions lines answer a h.0,
    (in_session phases sessions (one_more lines (Answered answer (Some steps))), inl (walk_words steps, refl, (steps, [], sym (append-nil (walk_words steps)), recursion_from_All IsStep steps h.1, inr refl, (refl, refl))), refl),
  );
  acts = record { does = λ words t past spells. spells };
}

reads_lines : (s : Stage) (phases : List PhaseReport) (sessions : List (List Line)) (front lines : List Line) → Acts s answer_tokens (session_line phases sessions front) → Each IsLine lines → Reaches s (flat_map line_lines lines) answer_tokens (session_line phases sessions (front ++ lines))
reads_lines s phases sessions front [] a h = record { stage = s; runs = refl; acts = subst (λ (ls : List Line). Acts s answer_tokens (session_line phases sessions ls)) (sym (append-nil front)) a }
reads_lines s phases sessions front (line ∷ lines) a h =
    let r = reads_line s phases sessions front line a (All-head IsLine line lines h) in
    let q = reads_lines r.stage phases sessions (one_more front line) lines r.acts (All-tail IsLine line lines h) in
    reaches_more s (line_lines line) (flat_map line_lines lines) answer_tokens answer_tokens (session_line phases sessions (one_more front line)) (session_line phases sessions (front ++ line ∷ lines)) r
    (subst (λ (ls : List Line). Reaches r.stage (flat_map line_lines lines) answer_tokens (session_line phases sessions ls)) (append_assoc front (line ∷ []) lines) q)

reads_session : (s : Stage) (phases : List PhaseReport) (front : List (List Line)) (lines : List Line) → Acts s line_tokens (phase_line phases front) → IsCount (length front + 1) → Each IsLine lines
    → Reaches s (session_words (length front + 1) ∷ flat_map line_lines lines) line_tokens (phase_line phases (one_more front lines))
unfolding phase_line session_line
reads_session s phases front lines a room h =
    let open_stage = in_session phases front [] in
    let begins = a.does (session_words (length front + 1)) open_stage (refl, (refl, (refl, (refl, (refl, tt)))))
    (inl (decimal (length front + 1) ∷ [], refl, spells_if (ltb (length front + 1) (2 ^ 62)) _ (decimal (length front + 1) ∷ []) open_stage (lt-ltb (length front + 1) (2 ^ 62) room) ([], refl, (refl, refl)))) in
    let r = reads_lines open_stage phases front [] lines (record { does = λ words t past spells. spells }) h in
    record {
      stage = r.stage;
      runs = (open_stage, begins, r.runs);
      acts = record { does = λ words t past spells. r.acts.does words t (past.0, tt) (inr (past.1.0, inr (past.1.1.0, inr (past.1.1.1.0, inr (past.1.1.1.1.0, spells))))) };
    }

reads_sessions : (s : Stage) (phases : List PhaseReport) (front sessions : List (List Line)) → Acts s line_tokens (phase_line phases front) → length front + length sessions < 2 ^ 62 → Each (Each IsLine) sessions
    → Reaches s (sessions_lines (length front + 1) sessions) line_tokens (phase_line phases (front ++ sessions))
reads_sessions s phases front [] a room h = record { stage = s; runs = refl; acts = subst (λ (ss : List (List Line)). Acts s line_tokens (phase_line phases ss)) (sym (append-nil front)) a }
reads_sessions s phases front (lines ∷ sessions) a room h =
    let r = reads_session s phases front lines a (omega arith) (All-head (Each IsLine) lines sessions h) in
    let q = reads_sessions r.stage phases (one_more front lines) sessions r.acts (omega (arith, length_push front lines)) (All-tail (Each IsLine) lines sessions h) in
    let numbered : Reaches r.stage (sessions_lines ((length front + 1) + 1) sessions) line_tokens (phase_line phases (front ++ lines ∷ sessions)) =
    subst (λ (ss : List (List Line)). Reaches r.stage (sessions_lines ((length front + 1) + 1) sessions) line_tokens (phase_line phases ss)) (append_assoc front (lines ∷ []) sessions)
    (subst (λ (n : ℕ). Reaches r.stage (sessions_lines (n + 1) sessions) line_tokens (phase_line phases (one_more front lines ++ sessions))) (length_push front lines) q) in
    reaches_more s (session_words (length front + 1) ∷ flat_map line_lines lines) (sessions_lines ((length front + 1) + 1) sessions) line_tokens line_tokens (phase_line phases (one_more front lines)) (phase_line phases (front ++ lines ∷ sessions)) r numbered

reads_level : (s : Stage) (phases : List PhaseReport) (sessions : List (List Line)) (level : Option Finished) → Acts s line_tokens (phase_line phases sessions) → IsLevel level → Reaches s (level_lines level) phase_tokens (between_line (one_more phases (phase_of sessions level)))
unfolding phase_line
reads_level s phases sessions None a h = record {
  stage = s;
  runs = refl;
  acts = record { does = λ words t past spells. a.does words t (past.0, (past.1.0, (past.1.1.0, (past.1.1.1.0, (past.1.1.1.1.0, tt))))) (inr (past.1.1.1.1.1.0, inr (past.1.1.1.1.1.1.0, spells))) };
}
reads_level s phases sessions (Some All) a h =
    let after = between (one_more phases (phase_of sessions (Some All))) in
    record { stage = after; runs = (after, a.does (level_words All) after (refl, (refl, (refl, (refl, (refl, tt))))) (inr (refl, inl (codes "all" ∷ [], refl, inl ([], refl, (refl, refl))))), refl); acts = record { does = λ words t past spells. spells } }
reads_level s phases sessions (Some (Upto level)) a h =
    let after = between (one_more phases (phase_of sessions (Some (Upto level)))) in
    record { stage = after; runs = (after, a.does (level_words (Upto level)) after (refl, (refl, (refl, (refl, (refl, tt))))) (inr (refl, inl (decimal level ∷ [], refl, inr (not_all level h, (level, [], refl, omega arith, h, (refl, refl)))))), refl); acts = record { does = λ words t past spells. spells } }
  where
    not_all : (n : ℕ) → n ≤ JOB_GRADE_LIMIT → is_next (codes "all") (decimal n ∷ []) ≡ false
    not_all n h = not_number JOB_GRADE_LIMIT 97 (codes "ll") n [] (lit< tt) (lit< tt) h

reads_phase : (s : Stage) (front : List PhaseReport) (phase : PhaseReport) → Acts s phase_tokens (between_line front) → IsCount (length front + 1) → IsPhase phase → Reaches s (phase_lines (length front + 1) phase) phase_tokens (between_line (one_more front phase))
unfolding between_line
reads_phase s front phase a room h =
    let open_stage = in_phase front [] in
    let begins = a.does (phase_words (length front + 1)) open_stage (refl, (refl, (refl, (refl, (refl, (refl, (refl, tt)))))))
    (inl (decimal (length front + 1) ∷ [], refl, spells_if (ltb (length front + 1) (2 ^ 62)) _ (decimal (length front + 1) ∷ []) open_stage (lt-ltb (length front + 1) (2 ^ 62) room) ([], refl, (refl, refl)))) in
    let r = reads_sessions open_stage front [] phase.sessions (record { does = λ words t past spells. spells }) (omega (arith, h.count)) h.sessions in
    let q = reads_level r.stage front phase.sessions phase.level r.acts h.level in
    record { stage = q.stage; runs = (open_stage, begins, Runs-append next_line open_stage r.stage q.stage (sessions_lines 1 phase.sessions) (level_lines phase.level) r.runs q.runs); acts = q.acts }

reads_phases : (s : Stage) (front phases : List PhaseReport) → Acts s phase_tokens (between_line front) → length front + length phases < 2 ^ 62 → Each IsPhase phases → Reaches s (phases_lines (length front + 1) phases) phase_tokens (between_line (front ++ phases))
reads_phases s front [] a room h = record { stage = s; runs = refl; acts = subst (λ (ps : List PhaseReport). Acts s phase_tokens (between_line ps)) (sym (append-nil front)) a }
reads_phases s front (phase ∷ phases) a room h =
    let r = reads_phase s front phase a (omega arith) (All-head IsPhase phase phases h) in
    let q = reads_phases r.stage (one_more front phase) phases r.acts (omega (arith, length_push front phase)) (All-tail IsPhase phase phases h) in
    let numbered : Reaches r.stage (phases_lines ((length front + 1) + 1) phases) phase_tokens (between_line (front ++ phase ∷ phases)) =
    subst (λ (ps : List PhaseReport). Reaches r.stage (phases_lines ((length front + 1) + 1) phases) phase_tokens (between_line ps)) (append_assoc front (phase ∷ []) phases)
    (subst (λ (n : ℕ). Reaches r.stage (phases_lines (n + 1) phases) phase_tokens (between_line (one_more front phase ++ phases))) (length_push front phase) q) in
    reaches_more s (phase_lines (length front + 1) phase) (phases_lines ((length front + 1) + 1) phases) phase_tokens phase_tokens (between_line (one_more front phase)) (between_line (front ++ phase ∷ phases)) r numbered

pub reads_report : (report : Report) → IsReport report → Runs next_line title (report_lines report) (closed report.phases)
reads_report report h =
    let r = reads_phases (between []) [] report.phases (record { does = λ words t past spells. spells }) (omega (arith, h.count)) h.phases in
    let last = r.acts.does end_words (closed report.phases) (refl, (refl, (refl, (refl, (refl, (refl, (refl, tt))))))) (ends_between report.phases) in
    (between [], spells_title, Runs-append next_line (between []) r.stage (closed report.phases) (phases_lines 1 report.phases) (end_words ∷ []) r.runs (closed report.phases, last, refl))
