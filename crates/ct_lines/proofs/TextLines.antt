-- Texts of lines, taken apart.
use Rattle.std.proofs.Common.{◌≡◌, ◌≢◌, ℕ, true, false, eqb, List, [], ◌∷◌, ◌++◌, map, refl, sym, ap, ◌∙◌, arith, append_assoc, ◌<◌, ◌^◌, decimal, ◌⊎◌, inl, inr}
use Rattle.std.specs.List.{AllByRecursion, join_with_byte, list_all}
use Rattle.std.proofs.lemmas.Bool.Decides.{nat_tests}
use Rattle.std.specs.Char.{is_ascii_digit}
use Rattle.std.proofs.lemmas.Bool.{and_parts}
use Rattle.ct_text.specs.Pieces.{split}
use Rattle.ct_text.specs.PiecesLaw.{lacks}
use Rattle.ct_text.proofs.Splits.{Lack, split-join, lacks-cons}
use Rattle.ct_text.proofs.Decimals.{AreDigits, decimal_is_digits}
use Rattle.ct_lines.specs.Texts.{text_of}

-- a line of words, none with a space or an LF
pub record IsSpelled (words : List (List ℕ)) : Type 0 where
  pub some : words ≢ []
  pub spaces : Lack 32 words
  pub ends : Lack 10 words

abbrev pub AreSpelled : List (List (List ℕ)) → Type 0
AreSpelled lines = AllByRecursion IsSpelled lines

-- ---- append

pub text_of-append : (xs ys : List (List (List ℕ))) → text_of (xs ++ ys) ≡ text_of xs ++ text_of ys
text_of-append [] ys = refl
text_of-append (x ∷ xs) ys = ap (λ (rest : List ℕ). join_with_byte 32 x ++ (10 ∷ rest)) (text_of-append xs ys) ∙ sym (append_assoc (join_with_byte 32 x) (10 ∷ text_of xs) (text_of ys))

-- a line more
pub text_of-push : (lines : List (List (List ℕ))) (words : List (List ℕ)) (rest : List ℕ) → text_of (lines ++ words ∷ []) ++ rest ≡ text_of lines ++ (join_with_byte 32 words ++ (10 ∷ rest))
text_of-push lines words rest =
    rw (text_of-append lines (words ∷ []), append_assoc (text_of lines) (join_with_byte 32 words ++ (10 ∷ [])) rest, append_assoc (join_with_byte 32 words) (10 ∷ []) rest) refl

-- ---- what lacks a byte

pub lacks-append : (separator : ℕ) (xs ys : List ℕ) → lacks separator xs ≡ true → lacks separator ys ≡ true → lacks separator (xs ++ ys) ≡ true
lacks-append separator [] ys h k = k
lacks-append separator (x ∷ xs) ys h k = let p = lacks-cons separator x xs h in rw p.0 (lacks-append separator xs ys p.1 k)

-- no digit is below 48 or above 57
pub digit_is : (byte d : ℕ) → 57 < byte ⊎ byte < 48 → is_ascii_digit d ≡ true → eqb d byte ≡ false
digit_is byte d (inl above) h = grind (arith, nat_tests)
digit_is byte d (inr below) h = grind (arith, nat_tests)

digits_lack : (byte : ℕ) (ds : List ℕ) → 57 < byte ⊎ byte < 48 → AreDigits ds → lacks byte ds ≡ true
digits_lack byte [] out h = refl
digits_lack byte (d ∷ ds) out h = let p = and_parts (is_ascii_digit d) (list_all is_ascii_digit ds) h in rw (digit_is byte d out p.0) (digits_lack byte ds out p.1)

pub decimal-lacks : (byte n : ℕ) → byte < 48 → n < 10 ^ 64 → lacks byte (decimal n) ≡ true
decimal-lacks byte n below fits = digits_lack byte (decimal n) (inr below) (decimal_is_digits n fits)

pub join-lacks : (words : List (List ℕ)) → Lack 10 words → lacks 10 (join_with_byte 32 words) ≡ true
join-lacks [] h = refl
join-lacks (w ∷ []) h = h.0
join-lacks (w ∷ v ∷ words) h = lacks-append 10 w (32 ∷ join_with_byte 32 (v ∷ words)) h.0 (join-lacks (v ∷ words) h.1)

pub lines_lack : (lines : List (List (List ℕ))) → AreSpelled lines → Lack 10 (map (join_with_byte 32) lines)
lines_lack [] h = tt
lines_lack (words ∷ lines) h = (join-lacks words h.0.ends, lines_lack lines h.1)

-- ---- the first line of two equal texts

heads : {x y : ℕ} {xs ys : List ℕ} → x ∷ xs ≡ y ∷ ys → (x ≡ y) × (xs ≡ ys)
heads e = (cc, cc)

no_end : (x : ℕ) → eqb x 10 ≡ false → 10 ≡ x → ⊥
no_end x h e = grind (arith, nat_tests)

pub same_first : (x y xs ys : List ℕ) → lacks 10 x ≡ true → lacks 10 y ≡ true → x ++ (10 ∷ xs) ≡ y ++ (10 ∷ ys) → (x ≡ y) × (xs ≡ ys)
same_first [] [] xs ys h k e = (refl, (heads e).1)
same_first [] (b ∷ y) xs ys h k e = absurd (no_end b (lacks-cons 10 b y k).0 (heads e).0)
same_first (a ∷ x) [] xs ys h k e = absurd (no_end a (lacks-cons 10 a x h).0 (sym (heads e).0))
same_first (a ∷ x) (b ∷ y) xs ys h k e =
    let p = heads e in
    let q = same_first x y xs ys (lacks-cons 10 a x h).1 (lacks-cons 10 b y k).1 p.1 in
    (cc (p.0, q.0), q.1)

-- words are known by their line
pub same_words : (a b : List (List ℕ)) → IsSpelled a → IsSpelled b → join_with_byte 32 a ≡ join_with_byte 32 b → a ≡ b
same_words a b h k e = sym (split-join 32 a h.some h.spaces) ∙ ap (split 32) e ∙ split-join 32 b k.some k.spaces

some_bytes : (x : List ℕ) (rest : List ℕ) → x ++ (10 ∷ rest) ≡ [] → ⊥
some_bytes [] rest e = cc
some_bytes (a ∷ x) rest e = cc

-- lines that begin a text are its first lines
pub lines_front : (firsts lines : List (List (List ℕ))) (rest : List ℕ) → AreSpelled firsts → AreSpelled lines → text_of firsts ++ rest ≡ text_of lines → (cs : List (List (List ℕ))) × (lines ≡ firsts ++ cs) × (rest ≡ text_of cs)
lines_front [] lines rest h k e = (lines, refl, e)
lines_front (a ∷ firsts) [] rest h k e = absurd (some_bytes (join_with_byte 32 a) (text_of firsts ++ rest) (sym (append_assoc (join_with_byte 32 a) (10 ∷ text_of firsts) rest) ∙ e))
lines_front (a ∷ firsts) (b ∷ lines) rest h k e =
    let p = same_first (join_with_byte 32 a) (join_with_byte 32 b) (text_of firsts ++ rest) (text_of lines) (join-lacks a h.0.ends) (join-lacks b k.0.ends) (sym (append_assoc (join_with_byte 32 a) (10 ∷ text_of firsts) rest) ∙ e) in
    let later = lines_front firsts lines rest h.1 k.1 p.1 in
    (later.0, cons_same (sym (same_words a b h.0 k.0 p.0)) later.1, later.2)
  where
    cons_same : {a b : List (List ℕ)} {firsts lines : List (List (List ℕ))} → b ≡ a → lines ≡ firsts → b ∷ lines ≡ a ∷ firsts
    cons_same p q = cc

-- a whole first line of a text is its first line of words
pub line_front : (here later : List ℕ) (lines : List (List (List ℕ))) → lacks 10 here ≡ true → AreSpelled lines → here ++ (10 ∷ later) ≡ text_of lines
    → (others : List (List (List ℕ))) × (lines ≡ split 32 here ∷ others)
line_front here later [] h k e = absurd (some_bytes here later e)
line_front here later (words ∷ lines) h k e =
    let p = same_first here (join_with_byte 32 words) later (text_of lines) h (join-lacks words k.0.ends) e in
    let same : split 32 here ≡ words = ap (split 32) p.0 ∙ split-join 32 words k.0.some k.0.spaces in
    (lines, ap (λ (ws : List (List ℕ)). ws ∷ lines) (sym same))
