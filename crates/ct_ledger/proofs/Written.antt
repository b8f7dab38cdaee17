-- The lines of a ledger text as they are written piece by piece.
use Rattle.std.proofs.Common.{◌≡◌, ℕ, List, [], ◌∷◌, ◌++◌, map, decimal, codes, refl, sym, ap, ◌∙◌, append_assoc}
use Rattle.std.proofs.lemmas.List.{append-nil}
use Rattle.ct_instance.specs.declared.jobs.Job.{Job}
use Rattle.ct_instance.specs.declared.jobs.Job.TheVariants.{Generator, Pair}
use Rattle.ct_lines.specs.Texts.{text_of, walk_words, spaced, end_words}
use Rattle.ct_lines.proofs.TextLines.{text_of-append}
use Rattle.ct_lines.proofs.Printed.{line_written, joined_five, spaced-between}
use Rattle.ct_ledger.specs.Parts.{LedgerParts}
use Rattle.ct_ledger.specs.LedgerText.{title_words, size_words, grade_words, move_words, job_words, job_front, entry_words, head_lines, body_lines, ledger_text}

joined_six : (out a b c d e f : List ℕ) → (((((out ++ a) ++ b) ++ c) ++ d) ++ e) ++ f ≡ out ++ (a ++ (b ++ (c ++ (d ++ (e ++ f)))))
joined_six out a b c d e f = simp append_assoc

head_line : (rows columns grade : List ℕ) → codes "ledger 1\nsize" ++ (spaced (rows ∷ []) ++ (spaced (columns ∷ []) ++ (codes "\ngrade" ++ (spaced (grade ∷ []) ++ codes "\n"))))
    ≡ text_of (title_words ∷ (codes "size" ∷ rows ∷ columns ∷ []) ∷ (codes "grade" ∷ grade ∷ []) ∷ [])
head_line rows columns grade = rw (append-nil rows, append-nil columns, append-nil grade, append_assoc rows (32 ∷ columns) (10 ∷ (codes "grade" ++ (32 ∷ (grade ++ (10 ∷ [])))))) refl

pub head_written : (out : List ℕ) (rows columns grade : ℕ) → (((((out ++ codes "ledger 1\nsize") ++ spaced (decimal rows ∷ [])) ++ spaced (decimal columns ∷ [])) ++ codes "\ngrade") ++ spaced (decimal grade ∷ [])) ++ codes "\n" ≡ out ++ text_of (title_words ∷ size_words rows columns ∷ grade_words grade ∷ [])
head_written out rows columns grade =
    joined_six out (codes "ledger 1\nsize") (spaced (decimal rows ∷ [])) (spaced (decimal columns ∷ [])) (codes "\ngrade") (spaced (decimal grade ∷ [])) (codes "\n")
    ∙ ap (λ (text : List ℕ). out ++ text) (head_line (decimal rows) (decimal columns) (decimal grade))

pub move_written : (out : List ℕ) (head tail : List ℕ) → ((((out ++ codes "move") ++ spaced (map decimal head)) ++ codes " to") ++ spaced (map decimal tail)) ++ codes "\n" ≡ out ++ text_of (move_words (head, tail) ∷ [])
move_written out head tail =
    joined_five out (codes "move") (spaced (map decimal head)) (codes " to") (spaced (map decimal tail)) (codes "\n")
    ∙ ap (λ (text : List ℕ). out ++ text) (sym (line_written (codes "move") (map decimal head ++ (codes "to" ∷ map decimal tail)) ∙ ap (λ (line : List ℕ). codes "move" ++ line) (spaced-between (map decimal head) (map decimal tail) (codes "to"))))

job_plain : (a b rest last : List ℕ) → (a ++ (32 ∷ (b ++ rest))) ++ last ≡ (a ++ (32 ∷ (b ++ []))) ++ (rest ++ last)
job_plain a b rest last = rw (append-nil b, append_assoc a (32 ∷ (b ++ rest)) last, append_assoc a (32 ∷ b) (rest ++ last), append_assoc b rest last) refl

job_line : (job : Job) (rest : List (List ℕ)) → text_of (job_words job rest ∷ []) ≡ job_front job ++ (spaced rest ++ (10 ∷ []))
job_line (Generator j) rest = line_written (codes "generator") (decimal j ∷ rest) ∙ simp append_assoc
job_line (Pair a b) rest = line_written (codes "pair") (decimal a ∷ decimal b ∷ rest) ∙ ap (λ (line : List ℕ). codes "pair" ++ (32 ∷ line)) (job_plain (decimal a) (decimal b) (spaced rest) (10 ∷ []))

pub coprime_written : (out : List ℕ) (job : Job) → (out ++ job_front job) ++ codes " coprime\n" ≡ out ++ text_of (job_words job (codes "coprime" ∷ []) ∷ [])
coprime_written out job = append_assoc out (job_front job) (codes " coprime\n") ∙ ap (λ (line : List ℕ). out ++ line) (sym (job_line job (codes "coprime" ∷ [])))

pub walks_written : (out : List ℕ) (job : Job) (first second : List (ℕ × ℕ)) → ((((out ++ job_front job) ++ spaced (walk_words first)) ++ codes " |") ++ spaced (walk_words second)) ++ codes "\n" ≡ out ++ text_of (job_words job (walk_words first ++ (codes "|" ∷ walk_words second)) ∷ [])
walks_written out job first second =
    joined_five out (job_front job) (spaced (walk_words first)) (codes " |") (spaced (walk_words second)) (codes "\n")
    ∙ ap (λ (text : List ℕ). out ++ text) (sym (job_line job (walk_words first ++ (codes "|" ∷ walk_words second)) ∙ ap (λ (line : List ℕ). job_front job ++ line) (spaced-between (walk_words first) (walk_words second) (codes "|"))))

pub ledger_written : (l : LedgerParts) → ((text_of (head_lines l) ++ text_of (map move_words l.moves)) ++ text_of (map entry_words l.entries)) ++ codes "end\n" ≡ ledger_text l
unfolding ledger_text
ledger_written l =
    let rest = map move_words l.moves ++ map entry_words l.entries in
    ap (λ (text : List ℕ). text ++ codes "end\n") (append_assoc (text_of (head_lines l)) (text_of (map move_words l.moves)) (text_of (map entry_words l.entries)))
    ∙ sym (text_of-append (body_lines l) (end_words ∷ [])
    ∙ ap (λ (text : List ℕ). text ++ codes "end\n") (text_of-append (head_lines l) rest ∙ ap (λ (text : List ℕ). text_of (head_lines l) ++ text) (text_of-append (map move_words l.moves) (map entry_words l.entries))))
