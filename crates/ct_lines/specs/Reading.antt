-- What stands next in a line, and what is left after it.
use Rattle.std.specs.Prelude.{◌≡◌, ℕ, zero, suc, nat_le, Bool, true, false, if◌then◌else◌, List, [], ◌∷◌, drop, Option, Some, None, Result, Ok, Err, codes, ℤ}
use Rattle.std.specs.Str.{bytes_eq}
use Rattle.ct_vectors.specs.declared.limits.TheConstants.{GRADE_LIMIT, MOVE_LIMIT}
use Rattle.ct_text.specs.declared.number.NumberFault.{NumberFault}
use Rattle.ct_text.specs.Numbers.{natural_of, signed_of}
use Rattle.ct_text.specs.Pieces.{split}
use Rattle.ct_lines.specs.declared.stop.LineStop.{LineStop}
use Rattle.ct_lines.specs.declared.stop.LineStop.TheVariants.{Refused, Memory}

infixl 10 ◌>>=◌
abbrev pub ◌>>=◌ : {X Y : Type 0} → Option X → (X → Option Y) → Option Y
None >>= f = None
(Some x) >>= f = f x

-- What a reader answered, seen by view, is this, unless memory ran out.
abbrev pub Fails : {Y : Type 0} → LineStop → Option Y → Type 0
Fails Memory read = Unit {0}
Fails Refused read = read ≡ None

abbrev pub Gives : {X Y : Type 0} → (X → Y) → Result X LineStop → Option Y → Type 0
Gives view (Ok x) read = read ≡ Some (view x)
Gives view (Err stop) read = Fails stop read

-- a word ahead, and those after it
abbrev pub with_ahead : Option (List ℕ) → List (List ℕ) → List (List ℕ)
with_ahead None others = others
with_ahead (Some word) others = word ∷ others

abbrev pub is_next : List ℕ → List (List ℕ) → Bool
is_next word [] = false
is_next word (next ∷ words) = bytes_eq next word

abbrev pub word_left : List ℕ → List (List ℕ) → Option (List (List ℕ))
word_left word words = if is_next word words then Some (drop 1 words) else None

-- a number that was read, if it isn't below this one
abbrev pub at_least : ℕ → Result ℕ NumberFault → Option ℕ
at_least low (Ok n) = if nat_le low n then Some n else None
at_least low (Err fault) = None

-- the number of a word, within these bounds
abbrev pub number_of : ℕ → ℕ → List ℕ → Option ℕ
number_of low high word = at_least low (natural_of word high)

abbrev pub number_left : ℕ → ℕ → List (List ℕ) → Option (ℕ × List (List ℕ))
number_left low high [] = None
number_left low high (word ∷ words) = number_of low high word >>= λ n. Some (n, words)

-- so many numbers up to a limit
unfoldable pub numbers_left : ℕ → ℕ → List (List ℕ) → Option (List ℕ × List (List ℕ))
numbers_left zero high words = Some ([], words)
numbers_left (suc count) high words = number_left 0 high words >>= λ x. numbers_left count high x.1 >>= λ y. Some (x.0 ∷ y.0, y.1)

-- number and times of a step
abbrev pub step_in_parts : List (List ℕ) → Option (ℕ × ℕ)
step_in_parts (number ∷ times ∷ []) = number_of 1 MOVE_LIMIT number >>= λ n. number_of 1 GRADE_LIMIT times >>= λ t. Some (n, t)
step_in_parts _ = None

unfoldable pub step_of : List ℕ → Option (ℕ × ℕ)
step_of word = step_in_parts (split 42 word)

abbrev pub first_step : List (List ℕ) → Option ((ℕ × ℕ) × List (List ℕ))
first_step [] = None
first_step (word ∷ words) = step_of word >>= λ step. Some (step, words)

-- all steps that stand next, and what is left
abbrev pub steps_left : List (List ℕ) → List (ℕ × ℕ) × List (List ℕ)
steps_left [] = ([], [])
steps_left (word ∷ words) = after (step_of word) (steps_left words)
  where
    after : Option (ℕ × ℕ) → List (ℕ × ℕ) × List (List ℕ) → List (ℕ × ℕ) × List (List ℕ)
    after None others = ([], word ∷ words)
    after (Some step) others = (step ∷ others.0, others.1)

-- at least one step
abbrev pub some_steps : List (ℕ × ℕ) × List (List ℕ) → Option (List (ℕ × ℕ) × List (List ℕ))
some_steps ([], words) = None
some_steps (step ∷ steps, words) = Some (step ∷ steps, words)

abbrev pub walk_left : List (List ℕ) → Option (List (ℕ × ℕ) × List (List ℕ))
walk_left words = if is_next (codes "-") words then Some ([], drop 1 words) else some_steps (steps_left words)

-- a signed number of at most this size
abbrev pub if_ok : Result ℤ NumberFault → Option ℤ
if_ok (Ok n) = Some n
if_ok (Err fault) = None

abbrev pub signed_left : ℕ → List (List ℕ) → Option (ℤ × List (List ℕ))
signed_left size [] = None
signed_left size (word ∷ words) = if_ok (signed_of word size) >>= λ n. Some (n, words)

-- one item, and others up to a number of items, until the words that are left begin with what ends them
unfoldable pub until_left : {X : Type 0} → (List (List ℕ) → Option (X × List (List ℕ))) → (List (List ℕ) → Bool) → ℕ → List (List ℕ) → Option (List X × List (List ℕ))
until_left one stops zero words = None
until_left one stops (suc most) words =
    one words >>= λ x. if stops x.1 then Some (x.0 ∷ [], drop 1 x.1) else (until_left one stops most x.1 >>= λ y. Some (x.0 ∷ y.0, y.1))

-- one signed number or several, and the word that ends them
abbrev pub signeds_left : ℕ → ℕ → List ℕ → List (List ℕ) → Option (List ℤ × List (List ℕ))
signeds_left most size word words = until_left (signed_left size) (is_next word) most words

abbrev pub is_last : List (List ℕ) → Bool
is_last [] = true
is_last (word ∷ words) = false

-- one number or several, up to the end of the line
abbrev pub rest_left : ℕ → ℕ → List (List ℕ) → Option (List ℕ × List (List ℕ))
rest_left most high words = until_left (number_left 0 high) is_last most words

-- nothing, where the line ends here
abbrev pub end_left : List (List ℕ) → Option (List (List ℕ))
end_left [] = Some []
end_left (word ∷ words) = None
