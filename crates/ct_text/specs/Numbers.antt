-- The spelling of numbers.
use Rattle.std.specs.Prelude.{ℕ, ◌+◌, ◌*◌, ◌-◌, ◌==◌, nat_le, Bool, false, if◌then◌else◌, List, [], ◌∷◌, length, drop, slice_index, Result, Ok, Err, ℤ, pos, neg_ℤ}
use Rattle.std.specs.List.{list_all}
use Rattle.std.specs.Char.{is_ascii_digit}
use Rattle.ct_text.specs.declared.number.NumberFault.{NumberFault}
use Rattle.ct_text.specs.declared.number.NumberFault.TheVariants.{Spelling, Over}

-- '0', or a digit from 1 to 9 followed by digits
abbrev pub is_natural : List ℕ → Bool
is_natural [] = false
is_natural (first ∷ others) = if first == 48 then length others == 0 else list_all is_ascii_digit (first ∷ others)

abbrev pub value_after : ℕ → List ℕ → ℕ
value_after n [] = n
value_after n (digit ∷ digits) = value_after (n * 10 + (digit - 48)) digits

-- the number that digits represent
abbrev pub value_of : List ℕ → ℕ
value_of digits = value_after 0 digits

-- The number that the text spells, up to the limit. The spelling is looked at before the value.
unfoldable pub natural_of : List ℕ → ℕ → Result ℕ NumberFault
natural_of text limit = if is_natural text then if nat_le (value_of text) limit then Ok (value_of text) else Err Over else Err Spelling

abbrev pub positive : Result ℕ NumberFault → Result ℤ NumberFault
positive (Ok n) = Ok (pos n)
positive (Err fault) = Err fault

-- No number is spelled -0.
abbrev pub negative : Result ℕ NumberFault → Result ℤ NumberFault
negative (Ok n) = if n == 0 then Err Spelling else Ok (neg_ℤ (pos n))
negative (Err fault) = Err fault

-- A number with at most one '-' before it; the limit is on its size.
unfoldable pub signed_of : List ℕ → ℕ → Result ℤ NumberFault
signed_of text limit = if slice_index text 0 == 45 then negative (natural_of (drop 1 text) limit) else positive (natural_of text limit)
