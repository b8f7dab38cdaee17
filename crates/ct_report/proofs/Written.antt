-- The lines of a report text as they are written piece by piece.
use Rattle.std.proofs.Common.{◌≡◌, ℕ, ◌+◌, ◌<◌, List, [], ◌∷◌, ◌++◌, length, get_or, take, map, decimal, codes, sym, ap, ◌∙◌, arith, append_assoc}
use Rattle.std.specs.List.{flat_map}
use Rattle.std.specs.Prelude.{ℤ}
use Rattle.std.specs.Fmt.{signed_decimal}
use Rattle.std.proofs.lemmas.List.{take_more, length-take-le}
use Rattle.ct_lines.specs.Texts.{text_of, spaced, end_words}
use Rattle.ct_lines.proofs.TextLines.{text_of-append}
use Rattle.ct_lines.proofs.Printed.{line_written, joined_five, spaced-between}
use Rattle.ct_version.specs.declared.answers.Answer.TheVariants.{Optimum}
use Rattle.ct_session.specs.declared.lines.Line.{Line}
use Rattle.ct_report.specs.declared.reports.PhaseReport.{PhaseReport}
use Rattle.ct_report.specs.declared.reports.Report.{Report}
use Rattle.ct_report.specs.ReportText.{phase_words, session_words, answer_words, line_lines, sessions_lines, level_lines, phase_lines, phases_lines, report_text}
use Rattle.ct_report.proofs.SaidLines.{flat_map_push, sessions_push, phases_push}

joined_three : (out a b c : List ℕ) → ((out ++ a) ++ b) ++ c ≡ out ++ (a ++ (b ++ c))
joined_three out a b c = simp append_assoc

-- a first word, others and LF
pub line_of_written : (out word : List ℕ) (words : List (List ℕ)) → ((out ++ word) ++ spaced words) ++ (10 ∷ []) ≡ out ++ text_of ((word ∷ words) ∷ [])
line_of_written out word words = joined_three out word (spaced words) (10 ∷ []) ∙ ap (λ (text : List ℕ). out ++ text) (sym (line_written word words))

pub optimum_written : (out : List ℕ) (point : List ℕ) (costs : List ℤ) → ((((out ++ codes "optimum") ++ spaced (map signed_decimal costs)) ++ codes " at") ++ spaced (map decimal point)) ++ codes "\n" ≡ out ++ text_of (answer_words (Optimum point costs) ∷ [])
optimum_written out point costs =
    joined_five out (codes "optimum") (spaced (map signed_decimal costs)) (codes " at") (spaced (map decimal point)) (codes "\n")
    ∙ ap (λ (text : List ℕ). out ++ text) (sym (line_written (codes "optimum") (map signed_decimal costs ++ (codes "at" ∷ map decimal point)) ∙ ap (λ (line : List ℕ). codes "optimum" ++ line) (spaced-between (map signed_decimal costs) (map decimal point) (codes "at"))))

-- texts of lines one after the other
pub text_then : (out : List ℕ) (xs ys : List (List (List ℕ))) → (out ++ text_of xs) ++ text_of ys ≡ out ++ text_of (xs ++ ys)
text_then out xs ys = append_assoc out (text_of xs) (text_of ys) ∙ ap (λ (text : List ℕ). out ++ text) (sym (text_of-append xs ys))

-- one line, session or phase more
pub lines_more : (out : List ℕ) (xs : List Line) (i : ℕ) (x : Line) → i < length xs → x ≡ get_or xs i x → (out ++ text_of (flat_map line_lines (take i xs))) ++ text_of (line_lines x) ≡ out ++ text_of (flat_map line_lines (take (i + 1) xs))
lines_more out xs i x inside is =
    text_then out (flat_map line_lines (take i xs)) (line_lines x)
    ∙ ap (λ (lines : List (List (List ℕ))). out ++ text_of lines) (sym (flat_map_push (take i xs) x) ∙ ap (flat_map line_lines) (ap (λ y. take i xs ++ y ∷ []) is ∙ sym (take_more xs i x inside)))

pub sessions_more : (out : List ℕ) (xs : List (List Line)) (i : ℕ) (x : List Line) → i < length xs → x ≡ get_or xs i x
    → ((out ++ text_of (sessions_lines 1 (take i xs))) ++ text_of (session_words (i + 1) ∷ [])) ++ text_of (flat_map line_lines x) ≡ out ++ text_of (sessions_lines 1 (take (i + 1) xs))
sessions_more out xs i x inside is =
    let count : length (take i xs) ≡ i = length-take-le i xs (omega arith) in
    text_then (out ++ text_of (sessions_lines 1 (take i xs))) (session_words (i + 1) ∷ []) (flat_map line_lines x)
    ∙ text_then out (sessions_lines 1 (take i xs)) (session_words (i + 1) ∷ flat_map line_lines x)
    ∙ ap (λ (lines : List (List (List ℕ))). out ++ text_of lines)
    (ap (λ n. sessions_lines 1 (take i xs) ++ (session_words (n + 1) ∷ flat_map line_lines x)) (sym count) ∙ sym (sessions_push 1 (take i xs) x)
    ∙ ap (sessions_lines 1) (ap (λ y. take i xs ++ y ∷ []) is ∙ sym (take_more xs i x inside)))

pub phases_more : (out : List ℕ) (xs : List PhaseReport) (i : ℕ) (x : PhaseReport) → i < length xs → x ≡ get_or xs i x
    → (out ++ text_of (phases_lines 1 (take i xs))) ++ text_of (phase_lines (i + 1) x) ≡ out ++ text_of (phases_lines 1 (take (i + 1) xs))
phases_more out xs i x inside is =
    let count : length (take i xs) ≡ i = length-take-le i xs (omega arith) in
    text_then out (phases_lines 1 (take i xs)) (phase_lines (i + 1) x)
    ∙ ap (λ (lines : List (List (List ℕ))). out ++ text_of lines)
    (ap (λ n. phases_lines 1 (take i xs) ++ phase_lines (n + 1) x) (sym count) ∙ sym (phases_push 1 (take i xs) x)
    ∙ ap (phases_lines 1) (ap (λ y. take i xs ++ y ∷ []) is ∙ sym (take_more xs i x inside)))

pub phase_written : (out : List ℕ) (number : ℕ) (phase : PhaseReport) → ((out ++ text_of (phase_words number ∷ [])) ++ text_of (sessions_lines 1 phase.sessions)) ++ text_of (level_lines phase.level) ≡ out ++ text_of (phase_lines number phase)
phase_written out number phase =
    text_then (out ++ text_of (phase_words number ∷ [])) (sessions_lines 1 phase.sessions) (level_lines phase.level)
    ∙ text_then out (phase_words number ∷ []) (sessions_lines 1 phase.sessions ++ level_lines phase.level)

pub report_written : (report : Report) → (codes "report 1\n" ++ text_of (phases_lines 1 report.phases)) ++ codes "end\n" ≡ report_text report
unfolding report_text
report_written report = text_then (codes "report 1\n") (phases_lines 1 report.phases) (end_words ∷ [])
