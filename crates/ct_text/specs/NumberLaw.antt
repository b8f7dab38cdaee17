-- Reading a number undoes writing it.
use Rattle.std.specs.Prelude.{◌≡◌, ℕ, ◌^◌, ◌<◌, ◌≤◌, ◌↔◌, List, Ok, decimal, ℤ, unsigned_abs}
use Rattle.std.specs.Fmt.{signed_decimal}
use Rattle.ct_text.specs.Numbers.{natural_of, signed_of}

-- a text spells a number exactly where it is the decimal text of that number
abbrev pub NumbersAreDecimal : Type 0
NumbersAreDecimal = (text : List ℕ) (limit number : ℕ) → limit < 2 ^ 128 → (natural_of text limit ≡ Ok number) ↔ ((text ≡ decimal number) × (number ≤ limit))

-- the same of a number with its sign
abbrev pub SignedNumbersAreDecimal : Type 0
SignedNumbersAreDecimal = (text : List ℕ) (limit : ℕ) (number : ℤ) → limit < 2 ^ 128 → (signed_of text limit ≡ Ok number) ↔ ((text ≡ signed_decimal number) × (unsigned_abs number ≤ limit))
