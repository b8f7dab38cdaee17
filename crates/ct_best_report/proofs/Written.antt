-- The lines of the text as they are written piece by piece, and the requests as they are listed.
use Rattle.std.proofs.Common.{◌≡◌, ℕ, ℤ, ◌+◌, ◌<◌, List, [], ◌∷◌, ◌++◌, length, get_or, take, map, decimal, codes, sym, ap, ◌∙◌, arith, append_assoc, append-nil, suc}
use Rattle.std.specs.List.{flat_map}
use Rattle.std.specs.Fmt.{signed_decimal}
use Rattle.std.proofs.lemmas.List.{take_more, length-take-le, map-append, flat_map_more}
use Rattle.ct_lines.specs.Texts.{text_of, spaced, end_words}
use Rattle.ct_lines.proofs.Printed.{line_written, joined_five, spaced-between}
use Rattle.ct_report.proofs.Written.{text_then}
use Rattle.ct_best_report.specs.declared.reports.Solution.{Solution}
use Rattle.ct_best_report.specs.declared.reports.BestAnswer.{BestAnswer}
use Rattle.ct_best_report.specs.BestText.{solution_words, answer_lines, answers_lines, best_text}

pub parts_written : (out : List ℕ) (first : ℤ) (others : List ℤ) (point : List ℕ) →
    ((((out ++ signed_decimal first) ++ spaced (map signed_decimal others)) ++ codes " at") ++ spaced (map decimal point)) ++ codes "\n" ≡
    out ++ text_of ((signed_decimal first ∷ (map signed_decimal others ++ (codes "at" ∷ map decimal point))) ∷ [])
parts_written out first others point =
    joined_five out (signed_decimal first) (spaced (map signed_decimal others)) (codes " at") (spaced (map decimal point)) (codes "\n")
    ∙ ap (λ (text : List ℕ). out ++ text) (sym (line_written (signed_decimal first) (map signed_decimal others ++ (codes "at" ∷ map decimal point)) ∙ ap (λ (line : List ℕ). signed_decimal first ++ line) (spaced-between (map signed_decimal others) (map decimal point) (codes "at"))))

-- one solution more
pub solutions_more : (out : List ℕ) (xs : List Solution) (i : ℕ) (x : Solution) → i < length xs → x ≡ get_or xs i x →
    (out ++ text_of (map solution_words (take i xs))) ++ text_of (solution_words x ∷ []) ≡ out ++ text_of (map solution_words (take (i + 1) xs))
solutions_more out xs i x inside is =
    text_then out (map solution_words (take i xs)) (solution_words x ∷ [])
    ∙ ap (λ (lines : List (List (List ℕ))). out ++ text_of lines) (sym (map-append solution_words (take i xs) (x ∷ [])) ∙ ap (map solution_words) (ap (λ y. take i xs ++ y ∷ []) is ∙ sym (take_more xs i x inside)))

answers_push : (n : ℕ) (xs : List BestAnswer) (x : BestAnswer) → answers_lines n (xs ++ x ∷ []) ≡ answers_lines n xs ++ answer_lines (n + length xs) x
answers_push n [] x = append-nil (answer_lines n x) ∙ ap (λ k. answer_lines k x) (let e : n ≡ n + 0 = omega arith in e)
answers_push n (y ∷ ys) x =
    ap (λ (lines : List (List (List ℕ))). answer_lines n y ++ lines) (answers_push (n + 1) ys x ∙ ap (λ k. answers_lines (n + 1) ys ++ answer_lines k x) (let e : n + 1 + length ys ≡ n + suc (length ys) = omega arith in e))
    ∙ sym (append_assoc (answer_lines n y) (answers_lines (n + 1) ys) (answer_lines (n + suc (length ys)) x))

pub answers_more : (out : List ℕ) (xs : List BestAnswer) (i : ℕ) (x : BestAnswer) → i < length xs → x ≡ get_or xs i x →
    (out ++ text_of (answers_lines 1 (take i xs))) ++ text_of (answer_lines (i + 1) x) ≡ out ++ text_of (answers_lines 1 (take (i + 1) xs))
answers_more out xs i x inside is =
    let count : 1 + length (take i xs) ≡ i + 1 = omega (arith, length-take-le i xs (omega arith)) in
    text_then out (answers_lines 1 (take i xs)) (answer_lines (i + 1) x)
    ∙ ap (λ (lines : List (List (List ℕ))). out ++ text_of lines)
    (ap (λ n. answers_lines 1 (take i xs) ++ answer_lines n x) (sym count) ∙ sym (answers_push 1 (take i xs) x)
    ∙ ap (answers_lines 1) (ap (λ y. take i xs ++ y ∷ []) is ∙ sym (take_more xs i x inside)))

pub text_written : (answers : List BestAnswer) → (codes "best 1\n" ++ text_of (answers_lines 1 answers)) ++ codes "end\n" ≡ best_text answers
unfolding best_text
text_written answers = text_then (codes "best 1\n") (answers_lines 1 answers) (end_words ∷ [])

-- ---- one item more of what is mapped or joined

pub map_more : {X Y : Type 0} (f : X → Y) (out : List Y) (xs : List X) (i : ℕ) (x : X) → i < length xs → x ≡ get_or xs i x → (out ++ map f (take i xs)) ++ f x ∷ [] ≡ out ++ map f (take (i + 1) xs)
map_more f out xs i x inside is =
    append_assoc out (map f (take i xs)) (f x ∷ []) ∙ ap (λ ys. out ++ ys) (sym (map-append f (take i xs) (x ∷ [])) ∙ ap (map f) (ap (λ y. take i xs ++ y ∷ []) is ∙ sym (take_more xs i x inside)))

pub join_more : {X Y : Type 0} (f : X → List Y) (out : List Y) (xs : List X) (i : ℕ) (x : X) → i < length xs → x ≡ get_or xs i x →
    (out ++ flat_map f (take i xs)) ++ f x ≡ out ++ flat_map f (take (i + 1) xs)
join_more f out xs i x inside is = flat_map_more f out (take i xs) x ∙ ap (λ ys. out ++ flat_map f ys) (ap (λ y. take i xs ++ y ∷ []) is ∙ sym (take_more xs i x inside))
