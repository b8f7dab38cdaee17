-- The text of a ledger.
use Rattle.std.specs.Prelude.{◌≡◌, ℕ, List, [], ◌∷◌, ◌++◌, map, decimal, codes}
use Rattle.ct_instance.specs.declared.jobs.Job.{Job}
use Rattle.ct_instance.specs.declared.jobs.Job.TheVariants.{Generator, Pair}
use Rattle.ct_lines.specs.Texts.{text_of, walk_words, spaced, end_words}
use Rattle.ct_ledger.specs.declared.entries.LedgerEntry.{LedgerEntry}
use Rattle.ct_ledger.specs.declared.entries.LedgerEntry.TheVariants.{Coprime, Walks}
use Rattle.ct_ledger.specs.Parts.{LedgerParts, IsLedger}

-- ---- the words of each line

abbrev pub title_words : List (List ℕ)
title_words = codes "ledger" ∷ codes "1" ∷ []

abbrev pub size_words : ℕ → ℕ → List (List ℕ)
size_words rows columns = codes "size" ∷ decimal rows ∷ decimal columns ∷ []

abbrev pub grade_words : ℕ → List (List ℕ)
grade_words grade = codes "grade" ∷ decimal grade ∷ []

abbrev pub move_words : List ℕ × List ℕ → List (List ℕ)
move_words m = codes "move" ∷ (map decimal m.0 ++ (codes "to" ∷ map decimal m.1))

abbrev pub job_words : Job → List (List ℕ) → List (List ℕ)
job_words (Generator j) rest = codes "generator" ∷ decimal j ∷ rest
job_words (Pair a b) rest = codes "pair" ∷ decimal a ∷ decimal b ∷ rest

-- how the line of a job begins
abbrev pub job_front : Job → List ℕ
job_front (Generator j) = codes "generator" ++ spaced (decimal j ∷ [])
job_front (Pair a b) = codes "pair" ++ spaced (decimal a ∷ decimal b ∷ [])

abbrev pub entry_words : LedgerEntry → List (List ℕ)
entry_words (Coprime job) = job_words job (codes "coprime" ∷ [])
entry_words (Walks job first second) = job_words job (walk_words first ++ (codes "|" ∷ walk_words second))

-- ---- the lines

abbrev pub head_lines : LedgerParts → List (List (List ℕ))
head_lines l = title_words ∷ size_words l.rows l.columns ∷ grade_words l.grade ∷ []

-- all but the last
abbrev pub body_lines : LedgerParts → List (List (List ℕ))
body_lines l = head_lines l ++ (map move_words l.moves ++ map entry_words l.entries)

abbrev pub ledger_lines : LedgerParts → List (List (List ℕ))
ledger_lines l = body_lines l ++ end_words ∷ []

unfoldable pub ledger_text : LedgerParts → List ℕ
ledger_text l = text_of (ledger_lines l)

-- the bytes are the text of some ledger
abbrev pub IsLedgerText : List ℕ → Type 0
IsLedgerText text = (l : LedgerParts) × IsLedger l × (text ≡ ledger_text l)
