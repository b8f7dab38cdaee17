-- What one word is among the words of a command.
use Rattle.std.specs.Prelude.{ℕ, Bool, false, ◌==◌, ◌||◌, nat_lt, not, if◌then◌else◌, List, [], ◌∷◌, take, drop, length, find, is_some, option_map, Option, Some, None, Result, Ok, Err}
use Rattle.std.specs.Str.{bytes_eq}
use Rattle.std.specs.List.{prefix_len}
use Rattle.ct_text.specs.declared.number.NumberFault.{NumberFault}
use Rattle.ct_text.specs.Numbers.{natural_of}
use Rattle.ct_words.specs.Table.{WordOption}
use Rattle.ct_words.specs.declared.table.Bounds.{Bounds}
use Rattle.ct_words.specs.declared.table.Takes.{Takes}
use Rattle.ct_words.specs.declared.table.Takes.TheVariants.{Nothing, Number, Name}
use Rattle.ct_words.specs.declared.role.Given.{Given}
use Rattle.ct_words.specs.declared.role.Value.{Value}
use Rattle.ct_words.specs.declared.role.Value.TheVariants.{Nothing as NoValue, Number as ANumber, Text as AText}

infixl 10 ◌>>=◌
abbrev pub ◌>>=◌ : {X Y : Type 0} → Option X → (X → Option Y) → Option Y
None >>= f = None
(Some x) >>= f = f x

-- what an option was given: nothing, a number, or a text
pub data WordValue : Type 0 where
  bare : WordValue
  numbered : ℕ → WordValue
  worded : List ℕ → WordValue

abbrev pub number_given : WordValue → Option ℕ
number_given (numbered n) = Some n
number_given _ = None

abbrev pub text_given : WordValue → Option (List ℕ)
text_given (worded word) = Some word
text_given _ = None

-- an option that was given, with its value
pub record WordGiven : Type 0 where
  pub name : List ℕ
  pub value : WordValue

-- an option whose value is still to come
pub record WordAsked : Type 0 where
  pub name : List ℕ
  pub takes : Takes

-- what a word is: the end of all options, a positional word, an option or the value of the one before, or an option
-- whose value is the next word
pub data WordRole : Type 0 where
  ends : WordRole
  positional : WordRole
  says : WordGiven → WordRole
  opens : WordAsked → WordRole

abbrev pub value_seen : Value → WordValue
value_seen NoValue = bare
value_seen (ANumber n) = numbered n
value_seen (AText word) = worded word.now

abbrev pub given_seen : Given → WordGiven
given_seen given = record { name = given.name.now; value = value_seen given.value }

abbrev pub at_least : ℕ → Result ℕ NumberFault → Option ℕ
at_least low (Ok n) = if nat_lt n low then None else Some n
at_least low (Err fault) = None

-- the number that a word spells, within the bounds
abbrev pub number_in : Bounds → List ℕ → Option ℕ
number_in bounds word = at_least bounds.low (natural_of word bounds.high)

-- not empty, and no dash in front
abbrev pub is_name : List ℕ → Bool
is_name [] = false
is_name (first ∷ others) = not (first == 45)

-- what a word gives to an option: nothing to a flag
abbrev pub value_in : Takes → List ℕ → Option WordValue
value_in Nothing word = Some bare
value_in (Number bounds) word = option_map numbered (number_in bounds word)
value_in Name word = if is_name word then Some (worded word) else None

abbrev pub value_said : WordAsked → List ℕ → Option WordRole
value_said asked word = value_in asked.takes word >>= λ value. Some (says (record { name = asked.name; value = value }))

-- ---- an option, of which the two dashes are left out

-- how many bytes stand before the first '='
abbrev pub name_len : List ℕ → ℕ
name_len named = prefix_len (λ byte. not (byte == 61)) named

-- A flag stands alone. Another option has its value behind '=', or it is the next word.
abbrev pub said_with : List ℕ → Takes → List ℕ → Option WordRole
said_with name Nothing [] = Some (says (record { name = name; value = bare }))
said_with name Nothing (sign ∷ value) = None
said_with name takes [] = Some (opens (record { name = name; takes = takes }))
said_with name takes (sign ∷ value) = value_said (record { name = name; takes = takes }) value

abbrev pub option_of : List WordOption → List ℕ → Option WordRole
option_of options named =
    find (λ row. bytes_eq row.name (take (name_len named) named)) options >>= λ row. said_with row.name row.takes (drop (name_len named) named)

-- ---- any word

-- a word that is no option: the value that is waited for, or positional
abbrev pub plain_of : Option WordAsked → List ℕ → Option WordRole
plain_of None word = Some positional
plain_of (Some asked) word = value_said asked word

-- A word with two dashes in front is an option, and '--' alone ends the options; neither is a value. One dash in front
-- of another byte is no word of a command.
abbrev pub dashed_of : List WordOption → Option WordAsked → ℕ → List ℕ → Option WordRole
dashed_of options waiting second named =
    if not (second == 45) || is_some waiting then None else if length named == 0 then Some ends else option_of options named

abbrev pub role_of : List WordOption → Option WordAsked → List ℕ → Option WordRole
role_of options waiting [] = plain_of waiting []
role_of options waiting (first ∷ []) = plain_of waiting (first ∷ [])
role_of options waiting (first ∷ second ∷ named) =
    if first == 45 then dashed_of options waiting second named else plain_of waiting (first ∷ second ∷ named)
