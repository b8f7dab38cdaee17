-- A line is read exactly where it spells the value.
use Rattle.std.proofs.Common.{◌≡◌, ℕ, zero, suc, ◌<◌, ◌≤◌, ◌^◌, Bool, true, false, cond, leb, List, [], ◌∷◌, ◌++◌, length, map, drop, decimal, Option, Some, None, Result, Ok, Err, refl, sym, ap, ◌∙◌, inl, inr, ◌⊎◌, arith, codes, lit<, eqb, ◌&&◌}
use Rattle.std.specs.Prelude.{ℤ, pos, negsuc, unsigned_abs}
use Rattle.std.specs.Fmt.{signed_decimal}
use Rattle.std.proofs.lemmas.List.{append-nil}
use Rattle.std.specs.List.{AllByRecursion, list_all}
use Rattle.std.specs.Char.{is_ascii_digit}
use Rattle.std.proofs.lemmas.Bool.Decides.{nat_tests}
use Rattle.ct_lines.proofs.Loops.{no_step_parts}
use Rattle.std.specs.Str.{bytes_eq}
use Rattle.std.proofs.lemmas.Bool.{le-leb, leb-true, and_parts}
use Rattle.std.proofs.lemmas.Slice.Eq.{bytes_eq-Decides}
use Rattle.ct_vectors.specs.declared.limits.TheConstants.{GRADE_LIMIT, MOVE_LIMIT}
use Rattle.ct_text.specs.declared.number.NumberFault.{NumberFault}
use Rattle.ct_text.specs.Numbers.{natural_of, signed_of}
use Rattle.ct_text.specs.Pieces.{split}
use Rattle.ct_text.proofs.Decimals.{AreDigits, decimal_is_digits, decimal_some, decimal_from_natural, natural_from_decimal, signed_decimal_from_signed, signed_from_signed_decimal}
use Rattle.ct_text.proofs.Splits.{join-split, split-join}
use Rattle.ct_lines.specs.Texts.{IsStep, step_word, walk_words}
use Rattle.ct_lines.specs.Reading.{◌>>=◌, is_next, word_left, at_least, number_of, number_left, numbers_left, step_in_parts, step_of, first_step, steps_left, some_steps, walk_left, if_ok, signed_left, until_left, signeds_left, is_last, rest_left}
use Rattle.ct_lines.specs.Wording.{Wording, done, barred, word, number, numbers, rest, signeds, walk, fork, read, Spells}
use Rattle.ct_lines.proofs.TextLines.{digit_is, decimal-lacks}

pub some_same : {X : Type 0} {x y : X} → Some x ≡ Some y → x ≡ y
some_same e = cc

-- what a read that gives a value began with
bind_parts : {X Y : Type 0} (r : Option X) (f : X → Option Y) (y : Y) → (r >>= f) ≡ Some y → (x : X) × (r ≡ Some x) × (f x ≡ Some y)
bind_parts None f y e = absurd cc
bind_parts (Some x) f y e = (x, refl, e)

-- ---- a word

itself : (w : List ℕ) → bytes_eq w w ≡ true
itself w = (bytes_eq-Decides w w).1 refl

next_is : (w : List ℕ) (words : List (List ℕ)) → is_next w words ≡ true → words ≡ w ∷ drop 1 words
next_is w [] e = absurd cc
next_is w (v ∷ words) e = ap (λ (u : List ℕ). u ∷ words) ((bytes_eq-Decides v w).0 e)

word_parts : (w : List ℕ) (words left : List (List ℕ)) → word_left w words ≡ Some left → words ≡ w ∷ left
word_parts w words left e = go (is_next w words) refl e
  where
    go : (test : Bool) → is_next w words ≡ test → cond test (Some (drop 1 words)) None ≡ Some left → words ≡ w ∷ left
    go true is e = next_is w words is ∙ ap (λ (us : List (List ℕ)). w ∷ us) (some_same e)
    go false is e = absurd cc

-- ---- a number

at_least_parts : (low n : ℕ) (r : Result ℕ NumberFault) → at_least low r ≡ Some n → (r ≡ Ok n) × (low ≤ n)
at_least_parts low n (Err fault) e = absurd cc
at_least_parts low n (Ok m) e = go (leb low m) refl e
  where
    go : (test : Bool) → leb low m ≡ test → cond test (Some m) None ≡ Some n → (◌≡◌ {A = Result ℕ NumberFault} (Ok m) (Ok n)) × (low ≤ n)
    go true is e = let same = some_same e in (ap (λ k. Ok k) same, rw (← same) (leb-true low m is))
    go false is e = absurd cc

pub number_of_parts : (low high n : ℕ) (w : List ℕ) → high < 2 ^ 64 → number_of low high w ≡ Some n → (w ≡ decimal n) × (low ≤ n) × (n ≤ high)
number_of_parts low high n w small e =
    let p = at_least_parts low n (natural_of w high) e in
    let d = decimal_from_natural w high n (omega arith) p.0 in
    (d.0, p.1, d.1)

pub number_of_decimal : (low high n : ℕ) → high < 2 ^ 64 → low ≤ n → n ≤ high → number_of low high (decimal n) ≡ Some n
number_of_decimal low high n small least most = rw (natural_from_decimal (decimal n) high n (omega arith) (refl, most), le-leb low n least) refl

number_parts : (low high n : ℕ) (words left : List (List ℕ)) → high < 2 ^ 64 → number_left low high words ≡ Some (n, left) → (words ≡ decimal n ∷ left) × (low ≤ n) × (n ≤ high)
number_parts low high n [] left small e = absurd cc
number_parts low high n (w ∷ words) left small e =
    let p = bind_parts (number_of low high w) (λ k. Some (k, words)) (n, left) e in
    let same = some_same p.2 in
    let is : p.0 ≡ n = ap (λ (x : ℕ × List (List ℕ)). x.0) same in
    let later : words ≡ left = ap (λ (x : ℕ × List (List ℕ)). x.1) same in
    let q = number_of_parts low high n w small (p.1 ∙ ap (λ k. Some k) is) in
    (rw (q.0, later) refl, q.1, q.2)

-- ---- numbers

join_numbers : (high count n : ℕ) (others ns : List ℕ) (words next after left : List (List ℕ)) → words ≡ decimal n ∷ next → n ≤ high → next ≡ map decimal others ++ after → length others ≡ count → AllByRecursion (λ n. n ≤ high) others
    → n ∷ others ≡ ns → after ≡ left → (words ≡ map decimal ns ++ left) × (length ns ≡ suc count) × AllByRecursion (λ n. n ≤ high) ns
join_numbers high count n others ns words next after left first most later many below is same =
    rw (← is, ← same) (first ∙ ap (λ (us : List (List ℕ)). decimal n ∷ us) later, ap suc many, (most, below))

numbers_parts : (count high : ℕ) (ns : List ℕ) (words left : List (List ℕ)) → high < 2 ^ 64 → numbers_left count high words ≡ Some (ns, left)
    → (words ≡ map decimal ns ++ left) × (length ns ≡ count) × AllByRecursion (λ n. n ≤ high) ns
unfolding numbers_left
numbers_parts zero high ns words left small e =
    let same = some_same e in
    let none : [] ≡ ns = ap (λ (x : List ℕ × List (List ℕ)). x.0) same in
    let later : words ≡ left = ap (λ (x : List ℕ × List (List ℕ)). x.1) same in
    rw (← none, later) (refl, refl, tt)
numbers_parts (suc count) high ns words left small e =
    let p = bind_parts (number_left 0 high words) (λ x. numbers_left count high x.1 >>= λ y. Some (x.0 ∷ y.0, y.1)) (ns, left) e in
    let q = bind_parts (numbers_left count high p.0.1) (λ y. Some (p.0.0 ∷ y.0, y.1)) (ns, left) p.2 in
    let same = some_same q.2 in
    let is : p.0.0 ∷ q.0.0 ≡ ns = ap (λ (x : List ℕ × List (List ℕ)). x.0) same in
    let later : q.0.1 ≡ left = ap (λ (x : List ℕ × List (List ℕ)). x.1) same in
    let first = number_parts 0 high p.0.0 words p.0.1 small p.1 in
    let others = numbers_parts count high q.0.0 p.0.1 q.0.1 small q.1 in
    join_numbers high count p.0.0 q.0.0 ns words p.0.1 q.0.1 left first.0 first.2 others.0 others.1 others.2 is later

-- a word is the text of a number exactly where it is read as it
pub numbered_word : (w : List ℕ) (n : ℕ) → n < 2 ^ 64 → bytes_eq w (decimal n) ≡ true → natural_of w n ≡ Ok n
numbered_word w n small e = natural_from_decimal w n n (omega arith) ((bytes_eq-Decides w (decimal n)).0 e, omega arith)

pub word_numbered : (w : List ℕ) (n : ℕ) → n < 2 ^ 64 → natural_of w n ≡ Ok n → bytes_eq w (decimal n) ≡ true
word_numbered w n small e = (bytes_eq-Decides w (decimal n)).1 (decimal_from_natural w n n (omega arith) e).0

pub numbered_left : (w : List ℕ) (n : ℕ) (now others new : List (List ℕ)) → n < 2 ^ 64 → natural_of w n ≡ Ok n → now ≡ w ∷ others → new ≡ drop 1 now → word_left (decimal n) now ≡ Some new
numbered_left w n now others new small e front after = rw (after, front, word_numbered w n small e) refl

numbers_of : (count high : ℕ) (ns : List ℕ) (left : List (List ℕ)) → high < 2 ^ 64 → length ns ≡ count → AllByRecursion (λ n. n ≤ high) ns → numbers_left count high (map decimal ns ++ left) ≡ Some (ns, left)
unfolding numbers_left
numbers_of zero high [] left small e h = refl
numbers_of zero high (n ∷ ns) left small e h = absurd (omega arith)
numbers_of (suc count) high [] left small e h = absurd (omega arith)
numbers_of (suc count) high (n ∷ ns) left small e h = rw (number_of_decimal 0 high n small (omega arith) h.0, numbers_of count high ns left small (omega arith) h.1) refl

-- ---- a step

pub step_of_word : (step : ℕ × ℕ) → IsStep step → step_of (step_word step) ≡ Some step
unfolding step_of
step_of_word step h =
    let parts : split 42 (step_word step) ≡ decimal step.0 ∷ decimal step.1 ∷ [] =
    split-join 42 (decimal step.0 ∷ decimal step.1 ∷ []) (λ none. cc) (decimal-lacks 42 step.0 (lit< tt) (omega arith), (decimal-lacks 42 step.1 (lit< tt) (omega arith), tt)) in
    rw (parts, number_of_decimal 1 MOVE_LIMIT step.0 (lit< tt) h.0.0 h.0.1, number_of_decimal 1 GRADE_LIMIT step.1 (lit< tt) h.1.0 h.1.1) refl

step_joined : (w a b : List ℕ) (n t : ℕ) (step : ℕ × ℕ) → w ≡ a ++ (42 ∷ b) → (a ≡ decimal n) × (1 ≤ n) × (n ≤ MOVE_LIMIT) → (b ≡ decimal t) × (1 ≤ t) × (t ≤ GRADE_LIMIT) → (n, t) ≡ step → (w ≡ step_word step) × IsStep step
step_joined w a b n t step whole of_move of_times is = rw (← is) (whole ∙ rw (of_move.0, of_times.0) refl, ((of_move.1, of_move.2), (of_times.1, of_times.2)))

step_parts : (w : List ℕ) (parts : List (List ℕ)) (step : ℕ × ℕ) → split 42 w ≡ parts → step_in_parts parts ≡ Some step → (w ≡ step_word step) × IsStep step
step_parts w [] step is e = absurd cc
step_parts w (a ∷ []) step is e = absurd cc
step_parts w (a ∷ b ∷ c ∷ more) step is e = absurd cc
step_parts w (a ∷ b ∷ []) step is e =
    let p = bind_parts (number_of 1 MOVE_LIMIT a) (λ n. number_of 1 GRADE_LIMIT b >>= λ t. Some (n, t)) step e in
    let q = bind_parts (number_of 1 GRADE_LIMIT b) (λ t. Some (p.0, t)) step p.2 in
    let n = number_of_parts 1 MOVE_LIMIT p.0 a (lit< tt) p.1 in
    let t = number_of_parts 1 GRADE_LIMIT q.0 b (lit< tt) q.1 in
    let whole : w ≡ a ++ (42 ∷ b) = sym (join-split 42 w) ∙ rw is refl in
    step_joined w a b p.0 q.0 step whole n t (some_same q.2)

pub step_of_parts : (w : List ℕ) (step : ℕ × ℕ) → step_of w ≡ Some step → (w ≡ step_word step) × IsStep step
unfolding step_of
step_of_parts w step e = step_parts w (split 42 w) step refl e

-- ---- a walk

and_left : (x y : Bool) → x ≡ false → (x && y) ≡ false
and_left x y e = rw e refl

-- a word that begins with no digit is no step
pub no_step_word : (byte : ℕ) (others : List ℕ) (step : ℕ × ℕ) (words : List (List ℕ)) → 57 < byte ⊎ byte < 48 → IsStep step → is_next (byte ∷ others) (step_word step ∷ words) ≡ false
no_step_word byte others step words out h = differs (decimal step.0) (decimal_is_digits step.0 (omega arith)) (decimal_some step.0 (omega arith))
  where
    differs : (ds : List ℕ) → AreDigits ds → 0 < length ds → bytes_eq (ds ++ (42 ∷ decimal step.1)) (byte ∷ others) ≡ false
    differs [] d some = absurd (omega arith)
    differs (x ∷ ds) d some = and_left (eqb x byte) (bytes_eq (ds ++ (42 ∷ decimal step.1)) others) (digit_is byte x out (and_parts (is_ascii_digit x) (list_all is_ascii_digit ds) d).0)

steps_of : (steps : List (ℕ × ℕ)) (left : List (List ℕ)) → AllByRecursion IsStep steps → first_step left ≡ None → steps_left (map step_word steps ++ left) ≡ (steps, left)
steps_of [] left h none = no_step_parts left none
steps_of (step ∷ steps) left h none = rw (step_of_word step h.0, steps_of steps left h.1 none) refl

walk_of : (steps : List (ℕ × ℕ)) (left : List (List ℕ)) → AllByRecursion IsStep steps → (steps ≡ []) ⊎ (first_step left ≡ None) → walk_left (walk_words steps ++ left) ≡ Some (steps, left)
walk_of [] left h ends = refl
walk_of (step ∷ steps) left h (inl none) = absurd cc
walk_of (step ∷ steps) left h (inr ends) = rw (no_step_word 45 [] step (map step_word steps ++ left) (inr (lit< tt)) h.0, steps_of (step ∷ steps) left h ends) refl

-- the steps that stand next, and what follows them
record AreSteps (words : List (List ℕ)) (found : List (ℕ × ℕ) × List (List ℕ)) : Type 0 where
  parts : words ≡ map step_word found.0 ++ found.1
  steps : AllByRecursion IsStep found.0
  last : first_step found.1 ≡ None

steps_more : (w : List ℕ) (words : List (List ℕ)) (found : Option (ℕ × ℕ)) → step_of w ≡ found → AreSteps words (steps_left words) → AreSteps (w ∷ words) (steps_left (w ∷ words))
steps_more w words None is others = rw is (record { parts = refl; steps = tt; last = rw is refl })
steps_more w words (Some step) is others =
    let p = step_of_parts w step is in
    rw is (record { parts = cons_same p.0 others.parts; steps = (p.1, others.steps); last = others.last })
  where
    cons_same : {v w : List ℕ} {xs ys : List (List ℕ)} → v ≡ w → xs ≡ ys → v ∷ xs ≡ w ∷ ys
    cons_same p q = cc

steps_are : (words : List (List ℕ)) → AreSteps words (steps_left words)
steps_are [] = record { parts = refl; steps = tt; last = refl }
steps_are (w ∷ words) = steps_more w words (step_of w) refl (steps_are words)

abbrev IsWalk : List (List ℕ) → List (ℕ × ℕ) → List (List ℕ) → Type 0
IsWalk words steps left = (words ≡ walk_words steps ++ left) × AllByRecursion IsStep steps × ((steps ≡ []) ⊎ (first_step left ≡ None))

some_steps_are : (words left : List (List ℕ)) (found : List (ℕ × ℕ) × List (List ℕ)) (steps : List (ℕ × ℕ)) → AreSteps words found → some_steps found ≡ Some (steps, left) → IsWalk words steps left
some_steps_are words left ([], after) steps h e = absurd cc
some_steps_are words left (step ∷ others, after) steps h e =
    let same = some_same e in
    let is : step ∷ others ≡ steps = ap (λ (x : List (ℕ × ℕ) × List (List ℕ)). x.0) same in
    let last : after ≡ left = ap (λ (x : List (ℕ × ℕ) × List (List ℕ)). x.1) same in
    walk_joined words after left step others steps h.parts h.steps h.last is last
  where
    walk_joined : (words after left : List (List ℕ)) (step : ℕ × ℕ) (others steps : List (ℕ × ℕ)) → words ≡ map step_word (step ∷ others) ++ after → AllByRecursion IsStep (step ∷ others) → first_step after ≡ None → step ∷ others ≡ steps → after ≡ left → IsWalk words steps left
    walk_joined words after left step others steps parts all last is same = rw (← is, ← same) (parts, all, inr last)

walk_parts : (words left : List (List ℕ)) (steps : List (ℕ × ℕ)) → walk_left words ≡ Some (steps, left) → IsWalk words steps left
walk_parts words left steps e = go (is_next (codes "-") words) refl e
  where
    go : (test : Bool) → is_next (codes "-") words ≡ test → cond test (Some ([], drop 1 words)) (some_steps (steps_left words)) ≡ Some (steps, left) → IsWalk words steps left
    go true is e =
        let same = some_same e in
        let none : [] ≡ steps = ap (λ (x : List (ℕ × ℕ) × List (List ℕ)). x.0) same in
        let later : drop 1 words ≡ left = ap (λ (x : List (ℕ × ℕ) × List (List ℕ)). x.1) same in
        rw (← none, ← later) (next_is (codes "-") words is, tt, inl refl)
    go false is e = some_steps_are words left (steps_left words) steps (steps_are words) e

-- ---- items until their end

module _ {X : Type 0} (one : List (List ℕ) → Option (X × List (List ℕ))) (stops : List (List ℕ) → Bool) (text : X → List ℕ) (Is : X → Type 0) where
  -- what items until their end are
  record AreUntil (most : ℕ) (words left : List (List ℕ)) (xs : List X) : Type 0 where
    last : List (List ℕ)
    parts : words ≡ map text xs ++ last
    ends : stops last ≡ true
    after : left ≡ drop 1 last
    some : 1 ≤ length xs
    few : length xs ≤ most
    all : AllByRecursion Is xs

  one_until : (most : ℕ) (words left after : List (List ℕ)) (x : X) (xs : List X) → words ≡ text x ∷ left → Is x → stops left ≡ true → x ∷ [] ≡ xs → drop 1 left ≡ after → AreUntil (suc most) words after xs
  one_until most words left after x xs is good ends same later = rw (← same) (record { last = left; parts = is; ends = ends; after = sym later; some = omega arith; few = omega arith; all = (good, tt) })

  more_until : (most : ℕ) (words next left after : List (List ℕ)) (x : X) (xs ys : List X) → words ≡ text x ∷ next → Is x → AreUntil most next left xs → x ∷ xs ≡ ys → left ≡ after → AreUntil (suc most) words after ys
  more_until most words next left after x xs ys is good others same later =
      rw (← same, ← later) (record { last = others.last; parts = is ∙ ap (λ (ws : List (List ℕ)). text x ∷ ws) others.parts; ends = others.ends; after = others.after; some = omega arith; few = omega (arith, others.few); all = (good, others.all) })

  until_parts : ((words left : List (List ℕ)) (x : X) → one words ≡ Some (x, left) → (words ≡ text x ∷ left) × Is x) → (most : ℕ) (words left : List (List ℕ)) (xs : List X) → until_left one stops most words ≡ Some (xs, left) → AreUntil most words left xs
  unfolding until_left
  until_parts parts zero words left xs e = absurd cc
  until_parts parts (suc most) words left xs e = first (one words) refl e (until_parts parts most)
    where
      Others : Type 0
      Others = (words left : List (List ℕ)) (xs : List X) → until_left one stops most words ≡ Some (xs, left) → AreUntil most words left xs

      begins : (x : X) (next : List (List ℕ)) → one words ≡ Some (x, next) → (test : Bool) → stops next ≡ test → cond {A = Option (List X × List (List ℕ))} test (Some (x ∷ [], drop 1 next)) (until_left one stops most next >>= λ y. Some (x ∷ y.0, y.1)) ≡ Some (xs, left) → Others → AreUntil (suc most) words left xs
      begins x next is true ends e others =
          let p = parts words next x is in
          let same = some_same e in
          one_until most words next left x xs p.0 p.1 ends (ap (λ (y : List X × List (List ℕ)). y.0) same) (ap (λ (y : List X × List (List ℕ)). y.1) same)
      begins x next is false ends e others =
          let p = parts words next x is in
          let q = bind_parts (until_left one stops most next) (λ y. Some (x ∷ y.0, y.1)) (xs, left) e in
          let same = some_same q.2 in
          more_until most words next q.0.1 left x q.0.0 xs p.0 p.1 (others next q.0.1 q.0.0 q.1) (ap (λ (y : List X × List (List ℕ)). y.0) same) (ap (λ (y : List X × List (List ℕ)). y.1) same)

      after_one : Option (X × List (List ℕ)) → Option (List X × List (List ℕ))
      after_one found = found >>= λ x. cond {A = Option (List X × List (List ℕ))} (stops x.1) (Some (x.0 ∷ [], drop 1 x.1)) (until_left one stops most x.1 >>= λ y. Some (x.0 ∷ y.0, y.1))

      first : (found : Option (X × List (List ℕ))) → one words ≡ found → after_one found ≡ Some (xs, left) → Others → AreUntil (suc most) words left xs
      first None is e others = absurd cc
      first (Some x) is e others = begins x.0 x.1 is (stops x.1) refl e others

  until_of : ((x : X) (left : List (List ℕ)) → Is x → one (text x ∷ left) ≡ Some (x, left)) → ((x : X) (left : List (List ℕ)) → Is x → stops (text x ∷ left) ≡ false) → (most : ℕ) (xs : List X) (last : List (List ℕ)) → 1 ≤ length xs → length xs ≤ most → AllByRecursion Is xs → stops last ≡ true
      → until_left one stops most (map text xs ++ last) ≡ Some (xs, drop 1 last)
  unfolding until_left
  until_of reads goes zero [] last some few all ends = absurd (omega arith)
  until_of reads goes zero (x ∷ xs) last some few all ends = absurd (omega arith)
  until_of reads goes (suc most) [] last some few all ends = absurd (omega arith)
  until_of reads goes (suc most) (x ∷ []) last some few all ends = rw (reads x last all.0, ends) refl
  until_of reads goes (suc most) (x ∷ y ∷ xs) last some few all ends =
      rw (reads x (text y ∷ (map text xs ++ last)) all.0, goes y (map text xs ++ last) all.1.0, until_of reads goes most (y ∷ xs) last (omega arith) (omega arith) all.1 ends) refl

-- ---- signed numbers, and numbers to the end of the line

if_ok_parts : (r : Result ℤ NumberFault) (n : ℤ) → if_ok r ≡ Some n → r ≡ Ok n
if_ok_parts (Ok m) n e = ap (λ k. Ok k) (some_same e)
if_ok_parts (Err fault) n e = absurd cc

signed_parts : (size : ℕ) → size < 2 ^ 124 → (words left : List (List ℕ)) (n : ℤ) → signed_left size words ≡ Some (n, left) → (words ≡ signed_decimal n ∷ left) × (unsigned_abs n ≤ size)
signed_parts size small [] left n e = absurd cc
signed_parts size small (w ∷ words) left n e =
    let p = bind_parts (if_ok (signed_of w size)) (λ k. Some (k, words)) (n, left) e in
    let same = some_same p.2 in
    let is : p.0 ≡ n = ap (λ (x : ℤ × List (List ℕ)). x.0) same in
    let later : words ≡ left = ap (λ (x : ℤ × List (List ℕ)). x.1) same in
    let d = signed_decimal_from_signed w size n (omega arith) (if_ok_parts (signed_of w size) n (p.1 ∙ ap (λ k. Some k) is)) in
    (rw (d.0, later) refl, d.1)

signed_of_text : (size : ℕ) → size < 2 ^ 124 → (n : ℤ) (left : List (List ℕ)) → unsigned_abs n ≤ size → signed_left size (signed_decimal n ∷ left) ≡ Some (n, left)
signed_of_text size small n left h = rw (signed_from_signed_decimal (signed_decimal n) size n (omega arith) (refl, h)) refl

-- a word that begins with a letter is no signed number
not_signed : (size byte : ℕ) (others : List ℕ) → size < 2 ^ 124 → 57 < byte → (n : ℤ) (left : List (List ℕ)) → unsigned_abs n ≤ size → is_next (byte ∷ others) (signed_decimal n ∷ left) ≡ false
not_signed size byte others small letter (pos n) left h = differs (decimal n) (decimal_is_digits n (omega arith)) (decimal_some n (omega arith))
  where
    differs : (ds : List ℕ) → AreDigits ds → 0 < length ds → bytes_eq ds (byte ∷ others) ≡ false
    differs [] d some = absurd (omega arith)
    differs (x ∷ ds) d some = and_left (eqb x byte) (bytes_eq ds others) (digit_is byte x (inl letter) (and_parts (is_ascii_digit x) (list_all is_ascii_digit ds) d).0)
not_signed size byte others small letter (negsuc n) left h = and_left (eqb 45 byte) (bytes_eq (decimal (suc n)) others) (grind (arith, nat_tests))

-- the same of a number
pub not_number : (high byte : ℕ) (others : List ℕ) (n : ℕ) (left : List (List ℕ)) → high < 2 ^ 64 → 57 < byte → n ≤ high → is_next (byte ∷ others) (decimal n ∷ left) ≡ false
not_number high byte others n left small letter h = not_signed high byte others (omega arith) letter (pos n) left h

pub at_end : (last : List (List ℕ)) → is_last last ≡ true → last ≡ []
at_end [] e = refl
at_end (w ∷ last) e = absurd cc

-- ---- a line

abbrev pub BeginsWithLetter : List ℕ → Type 0
BeginsWithLetter [] = ⊥
BeginsWithLetter (byte ∷ others) = 57 < byte

-- the limits of its numbers fit in their widths
abbrev pub Fits : {A : Type 0} → Wording A → Type 0
Fits (done x) = Unit {0}
Fits barred = Unit {0}
Fits (word w next) = Fits next
Fits (number low high next) = (high < 2 ^ 64) × ((n : ℕ) → Fits (next n))
Fits (numbers count high next) = (high < 2 ^ 64) × ((ns : List ℕ) → Fits (next ns))
Fits (rest most high next) = (high < 2 ^ 64) × ((ns : List ℕ) → Fits (next ns))
Fits (signeds most size w next) = (size < 2 ^ 124) × BeginsWithLetter w × ((ns : List ℤ) → Fits (next ns))
Fits (walk next) = (steps : List (ℕ × ℕ)) → Fits (next steps)
Fits (fork w first second) = Fits first × Fits second

pub fits_if : {A : Type 0} (b : Bool) (g : Wording A) → Fits g → Fits (cond b g barred)
fits_if true g h = h
fits_if false g h = tt

pub spells_if : {A : Type 0} (b : Bool) (g : Wording A) (words : List (List ℕ)) (y : A) → b ≡ true → Spells g words y → Spells (cond b g barred) words y
spells_if true g words y is h = h
spells_if false g words y is h = absurd cc

pub spells_from_read : {A : Type 0} (g : Wording A) (words : List (List ℕ)) (y : A) → Fits g → read g words ≡ Some y → Spells g words y
spells_from_read (done x) [] y f e = (refl, some_same e)
spells_from_read (done x) (w ∷ words) y f e = absurd cc
spells_from_read barred words y f e = absurd cc
spells_from_read (word w next) words y f e =
    let p = bind_parts (word_left w words) (λ left. read next left) y e in
    (p.0, word_parts w words p.0 p.1, spells_from_read next p.0 y f p.2)
spells_from_read (number low high next) words y f e =
    let p = bind_parts (number_left low high words) (λ x. read (next x.0) x.1) y e in
    let q = number_parts low high p.0.0 words p.0.1 f.0 p.1 in
    (p.0.0, p.0.1, q.0, q.1, q.2, spells_from_read (next p.0.0) p.0.1 y (f.1 p.0.0) p.2)
spells_from_read (numbers count high next) words y f e =
    let p = bind_parts (numbers_left count high words) (λ x. read (next x.0) x.1) y e in
    let q = numbers_parts count high p.0.0 words p.0.1 f.0 p.1 in
    (p.0.0, p.0.1, q.0, q.1, q.2, spells_from_read (next p.0.0) p.0.1 y (f.1 p.0.0) p.2)
spells_from_read (rest most high next) words y f e =
    let p = bind_parts (rest_left most high words) (λ x. read (next x.0) x.1) y e in
    let u = until_parts (number_left 0 high) is_last decimal (λ n. n ≤ high) (λ ws left n e. (let q = number_parts 0 high n ws left f.0 e in (q.0, q.2))) most words p.0.1 p.0.0 p.1 in
    let none = at_end u.last u.ends in (
      p.0.0,
      u.parts ∙ ap (λ (ws : List (List ℕ)). map decimal p.0.0 ++ ws) none ∙ append-nil (map decimal p.0.0),
      u.some,
      u.few,
      u.all,
      spells_from_read (next p.0.0) [] y (f.1 p.0.0) (sym (ap (read (next p.0.0)) (u.after ∙ ap (drop 1) none)) ∙ p.2),
    )
spells_from_read (signeds most size w next) words y f e =
    let p = bind_parts (signeds_left most size w words) (λ x. read (next x.0) x.1) y e in
    let u = until_parts (signed_left size) (is_next w) signed_decimal (λ n. unsigned_abs n ≤ size) (signed_parts size f.0) most words p.0.1 p.0.0 p.1 in
    (p.0.0, p.0.1, u.parts ∙ ap (λ (ws : List (List ℕ)). map signed_decimal p.0.0 ++ ws) (next_is w u.last u.ends ∙ ap (λ (ws : List (List ℕ)). w ∷ ws) (sym u.after)), u.some, u.few, u.all, spells_from_read (next p.0.0) p.0.1 y (f.2 p.0.0) p.2)
spells_from_read (walk next) words y f e =
    let p = bind_parts (walk_left words) (λ x. read (next x.0) x.1) y e in
    let q = walk_parts words p.0.1 p.0.0 p.1 in
    (p.0.0, p.0.1, q.0, q.1, q.2, spells_from_read (next p.0.0) p.0.1 y (f p.0.0) p.2)
spells_from_read {A} (fork w first second) words y f e = go (is_next w words) refl e (spells_from_read first (drop 1 words) y f.0) (spells_from_read second words y f.1)
  where
    go : (test : Bool) → is_next w words ≡ test → cond test (read first (drop 1 words)) (read second words) ≡ Some y → (read first (drop 1 words) ≡ Some y → Spells first (drop 1 words) y) → (read second words ≡ Some y → Spells second words y) → Spells (fork w first second) words y
    go true is e one other = inl (drop 1 words, next_is w words is, one e)
    go false is e one other = inr (is, other e)

number_of_word : (high n : ℕ) (left : List (List ℕ)) → high < 2 ^ 64 → n ≤ high → number_left 0 high (decimal n ∷ left) ≡ Some (n, left)
number_of_word high n left small most = rw (number_of_decimal 0 high n small (omega arith) most) refl

pub read_from_spells : {A : Type 0} (g : Wording A) (words : List (List ℕ)) (y : A) → Fits g → Spells g words y → read g words ≡ Some y
read_from_spells (done x) words y f h = rw (h.0, h.1) refl
read_from_spells barred words y f h = absurd h
read_from_spells (word w next) words y f (left, is, h) = rw (is, itself w) (read_from_spells next left y f h)
read_from_spells (number low high next) words y f (n, left, is, least, most, h) = rw (is, number_of_decimal low high n f.0 least most) (read_from_spells (next n) left y (f.1 n) h)
read_from_spells (numbers count high next) words y f (ns, left, is, many, below, h) = rw (is, numbers_of count high ns left f.0 many below) (read_from_spells (next ns) left y (f.1 ns) h)
read_from_spells (rest most high next) words y f (ns, is, some, few, below, h) =
    let whole : rest_left most high words ≡ Some (ns, []) = rw is (rw (← append-nil (map decimal ns)) (until_of (number_left 0 high) is_last decimal (λ n. n ≤ high) (λ n left k. number_of_word high n left f.0 k) (λ n left k. refl) most ns [] some few below refl)) in
    rw whole (read_from_spells (next ns) [] y (f.1 ns) h)
read_from_spells (signeds most size [] next) words y f h = absurd f.1
read_from_spells (signeds most size (byte ∷ w) next) words y f (ns, others, is, some, few, below, h) =
    let whole : signeds_left most size (byte ∷ w) words ≡ Some (ns, others) = rw is (until_of (signed_left size) (is_next (byte ∷ w)) signed_decimal (λ n. unsigned_abs n ≤ size) (signed_of_text size f.0) (not_signed size byte w f.0 f.1) most ns ((byte ∷ w) ∷ others) some few below (itself (byte ∷ w))) in
    rw whole (read_from_spells (next ns) others y (f.2 ns) h)
read_from_spells (walk next) words y f (steps, left, is, all, ends, h) = rw (is, walk_of steps left all ends) (read_from_spells (next steps) left y (f steps) h)
read_from_spells (fork w first second) words y f (inl (left, is, h)) = rw (is, itself w) (read_from_spells first left y f.0 h)
read_from_spells (fork w first second) words y f (inr (other, h)) = rw other (read_from_spells second words y f.1 h)
