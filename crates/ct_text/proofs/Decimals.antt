-- The decimal text of a number is its one spelling.
use Rattle.std.proofs.Common.{◌≡◌, ◌≢◌, ℕ, zero, suc, ◌+◌, ◌-◌, ◌*◌, ◌/◌, ◌%◌, ◌<◌, ◌≤◌, ◌^◌, Bool, true, false, cond, ◌&&◌, eqb, leb, List, [], ◌∷◌, ◌++◌, length, get_or, drop, Result, Ok, Err, decimal, ℤ, pos, negsuc, refl, sym, ap, ◌∙◌, rules, arith, eq-eqb, lit<, append_assoc}
use Rattle.std.specs.Prelude.{unsigned_abs}
use Rattle.std.specs.Fmt.{signed_decimal}
use Rattle.std.specs.List.{list_all}
use Rattle.std.specs.Char.{is_ascii_digit}
use Rattle.std.proofs.lemmas.Bool.{le-leb, leb-true, and_parts}
use Rattle.std.proofs.lemmas.Bool.Decides.{nat_tests}
use Rattle.std.proofs.lemmas.List.{append-nil}
use Rattle.std.proofs.lemmas.Str.Parse.{IsNumeralModel, numerals_by_fold}
use Rattle.std.proofs.lemmas.Fmt.{decimal_digit, decimal_step_wide, decimal_by_steps_wide, decimal_is_IsNumeral_wide}
use Rattle.ct_text.specs.declared.number.NumberFault.{NumberFault}
use Rattle.ct_text.specs.declared.number.NumberFault.TheVariants.{Spelling, Over}
use Rattle.ct_text.specs.Numbers.{is_natural, value_after, value_of, natural_of, signed_of, positive, negative}
use Rattle.ct_text.proofs.Digits.{value_after-ge}

abbrev pub AreDigits : List ℕ → Type 0
AreDigits ds = list_all is_ascii_digit ds ≡ true

own : IsNumeralModel AreDigits value_of
own = numerals_by_fold AreDigits (search rules) value_after (search rules)

digit_bounds : (d : ℕ) → is_ascii_digit d ≡ true → (48 ≤ d) × (d ≤ 57)
digit_bounds d h = (grind (arith, nat_tests), grind (arith, nat_tests))

-- ---- from the number to its text

pub decimal_is_digits : (n : ℕ) → n < 10 ^ 64 → AreDigits (decimal n)
decimal_is_digits n fits = own.from (decimal n) (decimal_is_IsNumeral_wide n fits).0.1

value_of_decimal : (n : ℕ) → n < 10 ^ 64 → value_of (decimal n) ≡ n
value_of_decimal n fits = let d = decimal_is_IsNumeral_wide n fits in own.same (decimal n) d.0.1 ∙ d.1

first_of_push : (ds : List ℕ) (d : ℕ) → 0 < length ds → (0 < length (ds ++ d ∷ [])) × (get_or (ds ++ d ∷ []) 0 0 ≡ get_or ds 0 0)
first_of_push [] d some = absurd (omega arith)
first_of_push (x ∷ ds) d some = (omega arith, refl)

-- it has a digit, and begins with 0 only for the number 0
abbrev BeginsRight : ℕ → List ℕ → Type 0
BeginsRight n ds = (0 < length ds) × (get_or ds 0 0 ≡ 48 → n ≡ 0)

begins_more : (n : ℕ) (ds : List ℕ) → 10 ≤ n → BeginsRight (n / 10) ds → BeginsRight n (ds ++ ((48 + n % 10) ∷ []))
begins_more n ds big h =
    let front = first_of_push ds (48 + n % 10) h.0 in
    (front.0, λ zero_first. absurd (let none : n / 10 ≡ 0 = h.1 (sym front.1 ∙ zero_first) in omega arith))

decimal_begins : (n : ℕ) → n < 10 ^ 64 → BeginsRight n (decimal n)
decimal_begins = decimal_by_steps_wide BeginsRight (λ n small. (omega arith, λ e. omega arith)) begins_more

pub decimal_some : (n : ℕ) → n < 10 ^ 64 → 0 < length (decimal n)
decimal_some n fits = (decimal_begins n fits).0

natural_of_digits : (ds : List ℕ) → AreDigits ds → 0 < length ds → (get_or ds 0 0 ≡ 48 → length ds ≡ 1) → is_natural ds ≡ true
natural_of_digits [] h some first = absurd (omega arith)
natural_of_digits (first ∷ others) h some alone = go (eqb first 48) refl
  where
    go : (test : Bool) → eqb first 48 ≡ test → cond test (eqb (length others) 0) (list_all is_ascii_digit (first ∷ others)) ≡ true
    go true same = let is : first ≡ 48 = grind (arith, nat_tests) in let one : suc (length others) ≡ 1 = alone is in eq-eqb (length others) 0 (omega arith)
    go false other = h

natural_of_decimal : (n : ℕ) → n < 10 ^ 64 → is_natural (decimal n) ≡ true
natural_of_decimal n fits =
    let begins = decimal_begins n fits in
    natural_of_digits (decimal n) (decimal_is_digits n fits) begins.0
    (λ zero_first. let none : n ≡ 0 = begins.1 zero_first in rw (none, decimal_digit 0 (lit< tt)) refl)

-- ---- from the text to the number

-- more digits come after those of the number so far
decimal_more : (n : ℕ) (ds : List ℕ) → 0 < n → AreDigits ds → value_after n ds < 10 ^ 64 → decimal (value_after n ds) ≡ decimal n ++ ds
decimal_more n [] some h fits = sym (append-nil (decimal n))
decimal_more n (d ∷ ds) some h fits =
    let parts = and_parts (is_ascii_digit d) (list_all is_ascii_digit ds) h in
    let bounds = digit_bounds d parts.0 in
    let m = n * 10 + (d - 48) in
    let least : m ≤ value_after m ds = value_after-ge m ds in
    let step = decimal_step_wide m (omega arith) (omega arith) in
    let front : m / 10 ≡ n = omega arith in
    let last : 48 + m % 10 ≡ d = omega arith in
    decimal_more m ds (omega arith) parts.1 fits ∙ ap (λ (xs : List ℕ). xs ++ ds) (step ∙ rw (front, last) refl) ∙ append_assoc (decimal n) (d ∷ []) ds

nothing_left : (others : List ℕ) → length others ≡ 0 → others ≡ []
nothing_left [] e = refl
nothing_left (x ∷ others) e = absurd (omega arith)

decimal_of_spelling : (ds : List ℕ) → is_natural ds ≡ true → value_of ds < 10 ^ 64 → decimal (value_of ds) ≡ ds
decimal_of_spelling [] h fits = absurd cc
decimal_of_spelling (first ∷ others) h fits = go (eqb first 48) refl h fits
  where
    go : (test : Bool) → eqb first 48 ≡ test → cond test (eqb (length others) 0) (list_all is_ascii_digit (first ∷ others)) ≡ true → value_after (0 * 10 + (first - 48)) others < 10 ^ 64 → decimal (value_after (0 * 10 + (first - 48)) others) ≡ first ∷ others
    go true same h fits =
        let is : first ≡ 48 = grind (arith, nat_tests) in
        let none : others ≡ [] = nothing_left others (grind (arith, nat_tests)) in
        rw (is, none) (decimal_digit 0 (lit< tt))
    go false other h fits =
        let parts = and_parts (is_ascii_digit first) (list_all is_ascii_digit others) h in
        let bounds = digit_bounds first parts.0 in
        let no : first ≢ 48 = grind (arith, nat_tests) in
        let n = 0 * 10 + (first - 48) in
        let digit : 48 + n ≡ first = omega arith in
        decimal_more n others (omega arith) parts.1 fits ∙ rw (decimal_digit n (omega arith), digit) refl

parts_of : (spelled small : Bool) (value n : ℕ) → cond spelled (cond small (Ok value) (Err Over)) (Err Spelling) ≡ Ok n → (spelled ≡ true) × (small ≡ true) × (value ≡ n)
parts_of true true value n e = (refl, refl, cc)
parts_of true false value n e = absurd cc
parts_of false small value n e = absurd cc

pub decimal_from_natural : (text : List ℕ) (limit n : ℕ) → limit < 2 ^ 128 → natural_of text limit ≡ Ok n → (text ≡ decimal n) × (n ≤ limit)
unfolding natural_of
decimal_from_natural text limit n small e =
    let p = parts_of (is_natural text) (leb (value_of text) limit) (value_of text) n e in
    let le : value_of text ≤ limit = leb-true (value_of text) limit p.1 in
    let whole : decimal (value_of text) ≡ text = decimal_of_spelling text p.0 (omega arith) in
    (sym whole ∙ ap decimal p.2, omega (arith, p.2, le))

pub natural_from_decimal : (text : List ℕ) (limit n : ℕ) → limit < 2 ^ 128 → (text ≡ decimal n) × (n ≤ limit) → natural_of text limit ≡ Ok n
unfolding natural_of
natural_from_decimal text limit n small h =
    let fits : n < 10 ^ 64 = omega (arith, h.1) in
    rw (h.0, natural_of_decimal n fits, value_of_decimal n fits, le-leb n limit h.1) refl

-- ---- with a sign

positive_parts : (r : Result ℕ NumberFault) (z : ℤ) → positive r ≡ Ok z → (n : ℕ) × (r ≡ Ok n) × (z ≡ pos n)
positive_parts (Ok n) z e = (n, refl, cc)
positive_parts (Err f) z e = absurd cc

suc_some : (n : ℕ) → eqb (suc n) 0 ≡ false
suc_some n = grind (arith, nat_tests)

ok_same : {y z : ℤ} → ◌≡◌ {A = Result ℤ NumberFault} (Ok y) (Ok z) → z ≡ y
ok_same e = cc

negative-suc : (n : ℕ) → negative (Ok (suc n)) ≡ Ok (negsuc n)
negative-suc n = rw (suc_some n) refl

negative_parts : (r : Result ℕ NumberFault) (z : ℤ) → negative r ≡ Ok z → (n : ℕ) × (r ≡ Ok (suc n)) × (z ≡ negsuc n)
negative_parts (Ok zero) z e = absurd cc
negative_parts (Ok (suc n)) z e = (n, refl, ok_same (sym (negative-suc n) ∙ e))
negative_parts (Err f) z e = absurd cc

after_first : (text : List ℕ) → eqb (get_or text 0 0) 45 ≡ true → text ≡ 45 ∷ drop 1 text
after_first [] e = absurd cc
after_first (first ∷ others) e = let is : first ≡ 45 = grind (arith, nat_tests) in rw is refl

pub signed_decimal_from_signed : (text : List ℕ) (limit : ℕ) (z : ℤ) → limit < 2 ^ 128 → signed_of text limit ≡ Ok z → (text ≡ signed_decimal z) × (unsigned_abs z ≤ limit)
unfolding signed_of
signed_decimal_from_signed text limit z small e = go (eqb (get_or text 0 0) 45) refl e
  where
    go : (test : Bool) → eqb (get_or text 0 0) 45 ≡ test → cond test (negative (natural_of (drop 1 text) limit)) (positive (natural_of text limit)) ≡ Ok z → (text ≡ signed_decimal z) × (unsigned_abs z ≤ limit)
    go true minus e =
        let p = negative_parts (natural_of (drop 1 text) limit) z e in
        let d = decimal_from_natural (drop 1 text) limit (suc p.0) small p.1 in
        rw p.2 (after_first text minus ∙ ap (λ (xs : List ℕ). 45 ∷ xs) d.0, d.1)
    go false plus e =
        let p = positive_parts (natural_of text limit) z e in
        rw p.2 (decimal_from_natural text limit p.0 small p.1)

no_minus : (ds : List ℕ) → AreDigits ds → eqb (get_or ds 0 0) 45 ≡ false
no_minus [] h = refl
no_minus (d ∷ ds) h = let bounds = digit_bounds d (and_parts (is_ascii_digit d) (list_all is_ascii_digit ds) h).0 in grind (arith, nat_tests)

pub signed_from_signed_decimal : (text : List ℕ) (limit : ℕ) (z : ℤ) → limit < 2 ^ 128 → (text ≡ signed_decimal z) × (unsigned_abs z ≤ limit) → signed_of text limit ≡ Ok z
unfolding signed_of
signed_from_signed_decimal text limit (pos n) small h =
    let fits : n < 10 ^ 64 = omega (arith, h.1) in
    rw (h.0, no_minus (decimal n) (decimal_is_digits n fits), natural_from_decimal (decimal n) limit n small (refl, h.1)) refl
signed_from_signed_decimal text limit (negsuc n) small h = rw (h.0, natural_from_decimal (decimal (suc n)) limit (suc n) small (refl, h.1)) (negative-suc n)
