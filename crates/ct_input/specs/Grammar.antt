-- Grammars: what may stand next in a text, and what follows it.
use Rattle.std.specs.Prelude.{ℕ, zero, suc, List, [], ◌∷◌, Bool, true, false, if◌then◌else◌, Result, Ok, Err, nat_le, ℤ}
use Rattle.std.specs.Str.{bytes_eq}
use Rattle.ct_text.specs.declared.place.Place.{Place}
use Rattle.ct_text.specs.Tokens.{Lexeme}
use Rattle.ct_text.specs.Numbers.{is_natural, natural_of, signed_of}
use Rattle.ct_text.specs.declared.number.NumberFault.{NumberFault}
use Rattle.ct_text.specs.declared.number.NumberFault.TheVariants.{Spelling, Over}
use Rattle.ct_input.specs.declared.fault.Fault.{Fault}
use Rattle.ct_input.specs.declared.fault.TextReason.TheVariants.{End, Word, Number, Limit, Extra}
use Rattle.std.specs.Prelude.{◌-◌, drop, Option, Some, None}
use Rattle.ct_input.specs.Sheet.{◌>>=◌, Sheet, fault_at, fault_next}

-- A grammar of texts that stand for values of A.
pub data Grammar (A : Type 0) : Type 0 where
  -- the value; anything may follow
  done : A → Grammar A
  -- no token follows
  nothing : Grammar A → Grammar A
  word : List ℕ → Grammar A → Grammar A
  -- a natural number within these bounds
  number : ℕ → ℕ → (ℕ → Grammar A) → Grammar A
  -- a signed number of at most this size
  signed : ℕ → (ℤ → Grammar A) → Grammar A
  -- if this word stands next, then it and the first; else the second
  fork : List ℕ → Grammar A → Grammar A → Grammar A
  -- this word may not stand here any more
  barred : List ℕ → Grammar A → Grammar A
  -- this word stands here, where a number might but none may any more
  only : List ℕ → Grammar A → Grammar A

-- So a grammar has no parentheses: word w then number 1 9 then λ m. ..
infixr 1 ◌then◌
abbrev pub ◌then◌ : {A B : Type 0} → (A → B) → A → B
f then x = f x

-- a part of the text, and what follows it
unfoldable pub part : {A B : Type 0} → Grammar A → (A → Grammar B) → Grammar B
part (done x) f = f x
part (nothing next) f = nothing (part next f)
part (word w next) f = word w (part next f)
part (number low high next) f = number low high (λ n. part (next n) f)
part (signed size next) f = signed size (λ n. part (next n) f)
part (fork w first second) f = fork w (part first f) (part second f)
part (barred w next) f = barred w (part next f)
part (only w next) f = only w (part next f)

-- so many natural numbers up to a limit
unfoldable pub numbers : ℕ → ℕ → Grammar (List ℕ)
numbers zero high = done []
numbers (suc count) high = number 0 high then λ n. part (numbers count high) then λ ns. done (n ∷ ns)

unfoldable pub signeds : ℕ → ℕ → Grammar (List ℤ)
signeds zero size = done []
signeds (suc count) size = signed size then λ n. part (signeds count size) then λ ns. done (n ∷ ns)

-- goes on where there is one
abbrev pub if_some : {X Y : Type 0} → Option X → (X → Grammar (List Y)) → Grammar (List Y)
if_some None next = done []
if_some (Some x) next = next x

-- So many items at most, and then what has to be said of one too many. An item may depend on what is spare, and uses some.
unfoldable pub upto : {X : Type 0} → (ℕ → Grammar (Option X)) → (X → ℕ) → Grammar (List X) → ℕ → ℕ → Grammar (List X)
upto item uses over zero spare = over
upto item uses over (suc count) spare =
    part (item spare) then λ found. if_some found then λ x. part (upto item uses over count (spare - uses x)) then λ xs. done (x ∷ xs)

-- So many items. An item may depend on what is spare, and uses some.
unfoldable pub exactly : {X : Type 0} → (ℕ → Grammar X) → (X → ℕ) → ℕ → ℕ → Grammar (List X)
exactly item uses zero spare = done []
exactly item uses (suc count) spare = part (item spare) then λ x. part (exactly item uses count (spare - uses x)) then λ xs. done (x ∷ xs)

-- ---- the next token

-- what the next token gives, and the tokens after it; at the end there must be one
abbrev pub token_at : {A : Type 0} → (Lexeme → Result A Fault) → Sheet → Result (A × Sheet) Fault
token_at {A} reading sheet = first sheet.tokens
  where
    first : List Lexeme → Result (A × Sheet) Fault
    first [] = Err (fault_at sheet.end End)
    first (token ∷ others) = reading token >>= λ x. Ok (x, record { tokens = others; end = sheet.end })

abbrev pub word_in : List ℕ → Lexeme → Result Bool Fault
word_in w token = if bytes_eq token.text w then Ok true else Err (fault_at token.place Word)

abbrev pub number_fault : {A : Type 0} → Place → Result A NumberFault → Result A Fault
number_fault place (Ok n) = Ok n
number_fault place (Err Spelling) = Err (fault_at place Number)
number_fault place (Err Over) = Err (fault_at place Limit)

abbrev pub number_in : ℕ → ℕ → Lexeme → Result ℕ Fault
number_in low high token = number_fault token.place (natural_of token.text high) >>= λ n. if nat_le low n then Ok n else Err (fault_at token.place Limit)

abbrev pub signed_in : ℕ → Lexeme → Result ℤ Fault
signed_in size token = number_fault token.place (signed_of token.text size)

-- a number may stand there no more, and what is spelled as none never might
abbrev pub only_in : List ℕ → Lexeme → Result Bool Fault
only_in w token = if bytes_eq token.text w then Ok true else Err (fault_at token.place (if is_natural token.text then Limit else Number))

abbrev pub is_next : List ℕ → Sheet → Bool
is_next w sheet = first sheet.tokens
  where
    first : List Lexeme → Bool
    first [] = false
    first (token ∷ others) = bytes_eq token.text w

abbrev pub after_next : Sheet → Sheet
after_next sheet = record { tokens = drop 1 sheet.tokens; end = sheet.end }

abbrev pub nothing_at : Sheet → Result Bool Fault
nothing_at sheet = first sheet.tokens
  where
    first : List Lexeme → Result Bool Fault
    first [] = Ok true
    first (token ∷ others) = Err (fault_at token.place Extra)

-- a word may stand there no more
abbrev pub barred_at : List ℕ → Sheet → Result Bool Fault
barred_at w sheet = if is_next w sheet then Err (fault_next Limit sheet) else Ok true

-- ---- reading

-- The value that a text stands for and what is left of it, or the fault at the first token that its place refuses.
abbrev pub read : {A : Type 0} → Grammar A → Sheet → Result (A × Sheet) Fault
read (done x) sheet = Ok (x, sheet)
read (nothing next) sheet = nothing_at sheet >>= λ _. read next sheet
read (word w next) sheet = token_at (word_in w) sheet >>= λ x. read next x.1
read (number low high next) sheet = token_at (number_in low high) sheet >>= λ x. read (next x.0) x.1
read (signed size next) sheet = token_at (signed_in size) sheet >>= λ x. read (next x.0) x.1
read (fork w first second) sheet = if is_next w sheet then read first (after_next sheet) else read second sheet
read (barred w next) sheet = barred_at w sheet >>= λ _. read next sheet
read (only w next) sheet = token_at (only_in w) sheet >>= λ x. read next x.1
