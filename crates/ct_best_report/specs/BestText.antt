-- The text of what is told of the least solutions.
use Rattle.std.specs.Prelude.{ℕ, ◌+◌, List, [], ◌∷◌, ◌++◌, length, map, decimal, codes}
use Rattle.std.specs.Fmt.{signed_decimal}
use Rattle.ct_lines.specs.Texts.{text_of, end_words}
use Rattle.ct_best_report.specs.declared.reports.Solution.{Solution}
use Rattle.ct_best_report.specs.declared.reports.BestAnswer.{BestAnswer}
use Rattle.ct_best_report.specs.declared.reports.BestAnswer.TheVariants.{Full, Found}

abbrev pub title_words : List (List ℕ)
title_words = codes "best" ∷ codes "1" ∷ []

-- its costs, and its numbers
abbrev pub solution_words : Solution → List (List ℕ)
solution_words s = map signed_decimal s.costs ++ (codes "at" ∷ map decimal s.point)

-- the first line of a request: a word, and the full grade or how many solutions follow
abbrev pub request_words : ℕ → List ℕ → ℕ → List (List ℕ)
request_words number word n = codes "request" ∷ decimal number ∷ word ∷ decimal n ∷ []

abbrev pub answer_lines : ℕ → BestAnswer → List (List (List ℕ))
answer_lines number (Full grade) = request_words number (codes "full") grade ∷ []
answer_lines number (Found solutions) = request_words number (codes "found") (length solutions) ∷ map solution_words solutions

-- answers, numbered from here on
abbrev pub answers_lines : ℕ → List BestAnswer → List (List (List ℕ))
answers_lines number [] = []
answers_lines number (answer ∷ answers) = answer_lines number answer ++ answers_lines (number + 1) answers

unfoldable pub best_text : List BestAnswer → List ℕ
best_text answers = text_of (title_words ∷ (answers_lines 1 answers ++ end_words ∷ []))
