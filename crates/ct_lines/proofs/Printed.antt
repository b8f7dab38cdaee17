-- A line as it is written: its first word, and each other after a space.
use Rattle.std.proofs.Common.{◌≡◌, ℕ, ◌+◌, ◌<◌, List, [], ◌∷◌, ◌++◌, length, get_or, take, map, Result, Ok, Err, refl, sym, ap, ◌∙◌, append_assoc}
use Rattle.std.specs.Result.{OnErr}
use Rattle.std.specs.List.{join_with_byte}
use Rattle.std.proofs.lemmas.List.{append-nil, map_more}
use Rattle.ct_lines.specs.Texts.{spaced, text_of}
use Rattle.ct_lines.proofs.TextLines.{text_of-append}

pub spaced-append : (xs ys : List (List ℕ)) → spaced (xs ++ ys) ≡ spaced xs ++ spaced ys
spaced-append [] ys = refl
spaced-append (x ∷ xs) ys = ap (λ (rest : List ℕ). (32 ∷ x) ++ rest) (spaced-append xs ys) ∙ sym (append_assoc (32 ∷ x) (spaced xs) (spaced ys))

pub line_is : (word : List ℕ) (words : List (List ℕ)) → join_with_byte 32 (word ∷ words) ≡ word ++ spaced words
line_is word [] = sym (append-nil word)
line_is word (next ∷ words) = ap (λ (rest : List ℕ). word ++ (32 ∷ rest)) (line_is next words)

-- a line of a first word and others
pub line_written : (word : List ℕ) (words : List (List ℕ)) → text_of ((word ∷ words) ∷ []) ≡ word ++ (spaced words ++ (10 ∷ []))
line_written word words = ap (λ (line : List ℕ). line ++ (10 ∷ [])) (line_is word words) ∙ append_assoc word (spaced words) (10 ∷ [])

-- two lists of words with a word between them, and LF
pub spaced-between : (first second : List (List ℕ)) (word : List ℕ) → spaced (first ++ (word ∷ second)) ++ (10 ∷ []) ≡ spaced first ++ ((32 ∷ word) ++ (spaced second ++ (10 ∷ [])))
spaced-between first second word =
    ap (λ (line : List ℕ). line ++ (10 ∷ [])) (spaced-append first (word ∷ second)) ∙ append_assoc (spaced first) ((32 ∷ word) ++ spaced second) (10 ∷ [])
    ∙ ap (λ (line : List ℕ). spaced first ++ line) (append_assoc (32 ∷ word) (spaced second) (10 ∷ []))

pub joined_five : (out a b c d e : List ℕ) → ((((out ++ a) ++ b) ++ c) ++ d) ++ e ≡ out ++ (a ++ (b ++ (c ++ (d ++ e))))
joined_five out a b c d e = simp append_assoc

-- the lines of a list of items, one item more
pub text_more : {X : Type 0} (words_of : X → List (List ℕ)) (out : List ℕ) (xs : List X) (i : ℕ) (x : X) → i < length xs → x ≡ get_or xs i x → (out ++ text_of (map words_of (take i xs))) ++ text_of (words_of x ∷ []) ≡ out ++ text_of (map words_of (take (i + 1) xs))
text_more words_of out xs i x inside is =
    let more : map words_of (take (i + 1) xs) ≡ map words_of (take i xs) ++ words_of x ∷ [] = map_more words_of xs i x inside ∙ ap (λ y. map words_of (take i xs) ++ words_of y ∷ []) (sym is) in
    rw (more, text_of-append (map words_of (take i xs)) (words_of x ∷ [])) (append_assoc out (text_of (map words_of (take i xs))) (text_of (words_of x ∷ [])))

-- what is appended after what was appended stands after what stood
pub in_front : {T E : Type 0} (r : Result T E) (old said at new : List ℕ) → at ≡ old ++ said → (front : List ℕ) × (new ≡ at ++ front) → OnErr r ((front : List ℕ) × (new ≡ old ++ front))
in_front (Ok x) old said at new is more = tt
in_front (Err e) old said at new is more = (said ++ more.0, more.1 ∙ ap (λ xs. xs ++ more.0) is ∙ append_assoc old said more.0)
