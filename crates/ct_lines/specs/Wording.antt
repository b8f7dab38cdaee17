-- Grammars of a line: what may stand next in it, and what follows.
use Rattle.std.specs.Prelude.{◌≡◌, ℕ, ◌+◌, ◌≤◌, ◌==◌, ◌&&◌, Bool, false, if◌then◌else◌, List, [], ◌∷◌, ◌++◌, map, drop, length, decimal, Option, Some, None, Result, Ok, Err, ◌⊎◌}
use Rattle.std.specs.Prelude.{ℤ, unsigned_abs}
use Rattle.std.specs.Fmt.{signed_decimal}
use Rattle.std.specs.List.{AllByRecursion}
use Rattle.ct_text.specs.Pieces.{split}
use Rattle.ct_lines.specs.Texts.{IsStep, walk_words}
use Rattle.ct_lines.specs.Reading.{◌>>=◌, is_next, word_left, number_left, numbers_left, first_step, walk_left, rest_left, signeds_left, end_left}

-- A grammar of lines that stand for values of A.
pub data Wording (A : Type 0) : Type 0 where
  -- the line ends here, and this is its value
  done : A → Wording A
  -- no line goes on like this
  barred : Wording A
  word : List ℕ → Wording A → Wording A
  -- a number within these bounds
  number : ℕ → ℕ → (ℕ → Wording A) → Wording A
  -- so many numbers up to a limit
  numbers : ℕ → ℕ → (List ℕ → Wording A) → Wording A
  -- one number or several, up to a number of them and a limit, to the end of the line
  rest : ℕ → ℕ → (List ℕ → Wording A) → Wording A
  -- one signed number or several, up to a number of them and a size, and the word that ends them
  signeds : ℕ → ℕ → List ℕ → (List ℤ → Wording A) → Wording A
  -- a walk, as long as it goes
  walk : (List (ℕ × ℕ) → Wording A) → Wording A
  -- if this word stands next, then it and the first; else the second
  fork : List ℕ → Wording A → Wording A → Wording A

-- So a grammar has no parentheses: word w then number 1 16 then λ m. ..
infixr 1 ◌then◌
abbrev pub ◌then◌ : {A B : Type 0} → (A → B) → A → B
f then x = f x

-- the value of a line of these words, if it is in the grammar
abbrev pub read : {A : Type 0} → Wording A → List (List ℕ) → Option A
read (done x) words = end_left words >>= λ _. Some x
read barred words = None
read (word w next) words = word_left w words >>= λ left. read next left
read (number low high next) words = number_left low high words >>= λ x. read (next x.0) x.1
read (numbers count high next) words = numbers_left count high words >>= λ x. read (next x.0) x.1
read (rest most high next) words = rest_left most high words >>= λ x. read (next x.0) x.1
read (signeds most size w next) words = signeds_left most size w words >>= λ x. read (next x.0) x.1
read (walk next) words = walk_left words >>= λ x. read (next x.0) x.1
read (fork w first second) words = if is_next w words then read first (drop 1 words) else read second words

-- ---- the same in other words: what a line spells

-- The words of the line spell the value in this grammar.
abbrev pub Spells : {A : Type 0} → Wording A → List (List ℕ) → A → Type 0
Spells (done x) words y = (words ≡ []) × (x ≡ y)
Spells barred words y = ⊥
Spells (word w next) words y = (left : List (List ℕ)) × (words ≡ w ∷ left) × Spells next left y
Spells (number low high next) words y = (n : ℕ) × (left : List (List ℕ)) × (words ≡ decimal n ∷ left) × (low ≤ n) × (n ≤ high) × Spells (next n) left y
Spells (numbers count high next) words y =
    (ns : List ℕ) × (left : List (List ℕ)) × (words ≡ map decimal ns ++ left) × (length ns ≡ count) × AllByRecursion (λ n. n ≤ high) ns × Spells (next ns) left y
Spells (rest most high next) words y =
    (ns : List ℕ) × (words ≡ map decimal ns) × (1 ≤ length ns) × (length ns ≤ most) × AllByRecursion (λ n. n ≤ high) ns × Spells (next ns) [] y
Spells (signeds most size w next) words y =
    (ns : List ℤ) × (others : List (List ℕ)) × (words ≡ map signed_decimal ns ++ (w ∷ others)) × (1 ≤ length ns) × (length ns ≤ most) × AllByRecursion (λ n. unsigned_abs n ≤ size) ns × Spells (next ns) others y
Spells (walk next) words y =
    (steps : List (ℕ × ℕ)) × (left : List (List ℕ)) × (words ≡ walk_words steps ++ left) × AllByRecursion IsStep steps × ((steps ≡ []) ⊎ (first_step left ≡ None)) × Spells (next steps) left y
Spells (fork w first second) words y =
    ((left : List (List ℕ)) × (words ≡ w ∷ left) × Spells first left y) ⊎ ((is_next w words ≡ false) × Spells second words y)

-- ---- a text, line by line: the value so far says what the next line may be

-- the value after these lines
abbrev pub run : {S : Type 0} → (S → Wording S) → S → List (List (List ℕ)) → Option S
run next s [] = Some s
run next s (words ∷ lines) = read (next s) words >>= λ t. run next t lines

-- the lines lead from one value to another
abbrev pub Runs : {S : Type 0} → (S → Wording S) → S → List (List (List ℕ)) → S → Type 0
Runs next s [] t = s ≡ t
Runs {S} next s (words ∷ lines) t = (u : S) × Spells (next s) words u × Runs next u lines t

abbrev pub is_empty : List ℕ → Bool
is_empty bytes = length bytes == 0

abbrev pub or_fault : {S : Type 0} → ℕ → Option S → (S → Result S ℕ) → Result S ℕ
or_fault n None go = Err n
or_fault n (Some t) go = go t

-- The value of a text, from a value on, by what is left between its LFs; or the number of the line at fault. The last
-- piece is no line: it is what follows the last LF.
unfoldable pub read_from : {S : Type 0} → (S → Wording S) → (S → Bool) → ℕ → S → List (List ℕ) → Result S ℕ
read_from next is_closed n s [] = Err n
read_from next is_closed n s (last ∷ []) = if is_closed s && is_empty last then Ok s else Err n
read_from next is_closed n s (line ∷ other ∷ lines) = or_fault n (read (next s) (split 32 line)) (λ t. read_from next is_closed (n + 1) t (other ∷ lines))
