-- Why a read has no value.
use Rattle.std.specs.Prelude.{◌≡◌, ℕ}
use Rattle.turn_cell.specs.declared.stops.ReadStop.{ReadStop}
use Rattle.turn_cell.specs.declared.stops.ReadStop.TheVariants.{Busy, Memory}
use Rattle.turn_cell.specs.Sight.{IsOdd, IsEven}

-- the answer at the word that the take found: busy with this word, which is odd, or out of memory, and the word is even
abbrev pub Stops : ReadStop → ℕ → Type 0
Stops (Busy word) found = (word ≡ found) × IsOdd found
Stops Memory found = IsEven found
