-- Words of a line: no space and no LF stands in them.
use Rattle.std.proofs.Common.{◌≡◌, ℕ, suc, ◌<◌, ◌≤◌, ◌^◌, true, List, [], ◌∷◌, ◌++◌, map, decimal, refl, arith, lit<}
use Rattle.std.specs.Prelude.{ℤ, pos, negsuc, unsigned_abs}
use Rattle.std.specs.Fmt.{signed_decimal}
use Rattle.std.specs.List.{AllByRecursion}
use Rattle.ct_text.specs.PiecesLaw.{lacks}
use Rattle.ct_text.proofs.Splits.{Lack}
use Rattle.ct_lines.specs.Texts.{IsStep, step_word, walk_words}
use Rattle.ct_lines.proofs.TextLines.{IsSpelled, AreSpelled, lacks-append, decimal-lacks}

abbrev pub IsWord : List ℕ → Type 0
IsWord w = (lacks 32 w ≡ true) × (lacks 10 w ≡ true)

abbrev pub AreWords : List (List ℕ) → Type 0
AreWords words = AllByRecursion IsWord words

pub words_append : (xs ys : List (List ℕ)) → AreWords xs → AreWords ys → AreWords (xs ++ ys)
words_append [] ys h k = k
words_append (x ∷ xs) ys h k = (h.0, words_append xs ys h.1 k)

pub word_decimal : (n : ℕ) → n < 10 ^ 64 → IsWord (decimal n)
word_decimal n fits = (decimal-lacks 32 n (lit< tt) fits, decimal-lacks 10 n (lit< tt) fits)

-- the same of a signed number
pub word_signed : (n : ℤ) → unsigned_abs n < 10 ^ 64 → IsWord (signed_decimal n)
word_signed (pos n) fits = word_decimal n fits
word_signed (negsuc n) fits = word_decimal (suc n) fits

pub words_signed : (size : ℕ) (ns : List ℤ) → size < 2 ^ 124 → AllByRecursion (λ n. unsigned_abs n ≤ size) ns → AreWords (map signed_decimal ns)
words_signed size [] small h = tt
words_signed size (n ∷ ns) small h = (word_signed n (omega (arith, h.0)), words_signed size ns small h.1)

pub words_numbers : (high : ℕ) (ns : List ℕ) → high < 2 ^ 64 → AllByRecursion (λ n. n ≤ high) ns → AreWords (map decimal ns)
words_numbers high [] small h = tt
words_numbers high (n ∷ ns) small h = (word_decimal n (omega (arith, h.0)), words_numbers high ns small h.1)

word_step : (step : ℕ × ℕ) → IsStep step → IsWord (step_word step)
word_step step h =
    let n = word_decimal step.0 (omega (arith, h.0)) in
    let t = word_decimal step.1 (omega (arith, h.1)) in
    (lacks-append 32 (decimal step.0) (42 ∷ decimal step.1) n.0 t.0, lacks-append 10 (decimal step.0) (42 ∷ decimal step.1) n.1 t.1)

words_steps : (steps : List (ℕ × ℕ)) → AllByRecursion IsStep steps → AreWords (map step_word steps)
words_steps [] h = tt
words_steps (step ∷ steps) h = (word_step step h.0, words_steps steps h.1)

pub words_walk : (steps : List (ℕ × ℕ)) → AllByRecursion IsStep steps → AreWords (walk_words steps)
words_walk [] h = ((refl, refl), tt)
words_walk (step ∷ steps) h = words_steps (step ∷ steps) h

words_lack : (words : List (List ℕ)) → AreWords words → Lack 32 words × Lack 10 words
words_lack [] h = (tt, tt)
words_lack (w ∷ words) h = let others = words_lack words h.1 in ((h.0.0, others.0), (h.0.1, others.1))

pub spelled_line : (w : List ℕ) (words : List (List ℕ)) → AreWords (w ∷ words) → IsSpelled (w ∷ words)
spelled_line w words h = let lack = words_lack (w ∷ words) h in record { some = λ none. cc; spaces = lack.0; ends = lack.1 }

pub spelled_append : (xs ys : List (List (List ℕ))) → AreSpelled xs → AreSpelled ys → AreSpelled (xs ++ ys)
spelled_append [] ys h k = k
spelled_append (x ∷ xs) ys h k = (h.0, spelled_append xs ys h.1 k)
