-- Digits, read from the left.
use Rattle.std.proofs.Common.{◌≡◌, ℕ, ◌+◌, ◌*◌, ◌-◌, ◌<◌, ◌≤◌, List, [], ◌∷◌, length, get_or, drop, arith}
use Rattle.std.proofs.Math.Seq.{drop-cons}
use Rattle.ct_text.specs.Numbers.{value_after}

-- more digits give no less
pub value_after-ge : (n : ℕ) (digits : List ℕ) → n ≤ value_after n digits
value_after-ge n [] = omega arith
value_after-ge n (digit ∷ digits) = let more = value_after-ge (n * 10 + (digit - 48)) digits in omega arith

-- the next digit
pub value_after-drop : (n i : ℕ) (digits : List ℕ) → i < length digits → value_after n (drop i digits) ≡ value_after (n * 10 + (get_or digits i 0 - 48)) (drop (i + 1) digits)
value_after-drop n i digits lt = grind (arith, drop-cons {A = ℕ} digits i 0 lt)
