-- What a block keeps of its heads. Heads are numbered from 0 here, and head j has the bit j.
use Rattle.std.specs.Prelude.{ℕ, true, false, ◌+◌, ◌*◌, ◌/◌, ◌%◌, ◌≤◌, ◌<◌, ◌≡◌, ◌⊎◌, min, List, [], length, get_or, All, ◌↔◌}
use Rattle.std.specs.Int.{bit_at}
use Rattle.ct_vectors.specs.Vectors.{divides}

-- an exponent is above a level; level 3 stands for all exponents from 3 on
abbrev pub IsPast : ℕ → ℕ → Type 0
IsPast level exponent = (level < 3) × (level < exponent)

-- row r of a table is of the coordinates 2 q and 2 q + 1 for q = r / 16, and of a level for each. A head is in the row
-- where it is above the level in one of them
abbrev pub IsAbove : List ℕ → ℕ → Type 0
IsAbove head r = IsPast (r % 16 / 4) (get_or head (2 * (r / 16)) 0) ⊎ IsPast (r % 4) (get_or head (2 * (r / 16) + 1) 0)

-- how many rows the table of heads of this width has
abbrev pub row_count : ℕ → ℕ
row_count width = 16 * ((width + 1) / 2)

-- the rows have the bits of the heads that are in them
pub record IsTable (heads : List (List ℕ)) (rows : List ℕ) : Type 0 where
  pub wide : All (λ h. length rows ≡ row_count (length h)) heads
  pub bits : (r j : ℕ) → r < length rows → (bit_at (get_or rows r 0) j ≡ 1) ↔ IsAbove (get_or heads j []) r

-- the rows are as before, and have the head with this index too
pub record AreMarked (old new head : List ℕ) (index : ℕ) : Type 0 where
  pub count : length new ≡ length old
  pub bits : (r j : ℕ) → r < length old → (bit_at (get_or new r 0) j ≡ 1) ↔ ((bit_at (get_or old r 0) j ≡ 1) ⊎ ((j ≡ index) × IsAbove head r))

-- the row of the coordinates 2 q and 2 q + 1 where p is looked up
abbrev pub row_of : List ℕ → ℕ → ℕ
row_of p q = 16 * q + 4 * min (get_or p (2 * q) 0) 3 + min (get_or p (2 * q + 1) 0) 3

-- the rows where p is looked up
pub record ArePlaces (p places : List ℕ) : Type 0 where
  pub count : length places ≡ (length p + 1) / 2
  pub at : (q : ℕ) → q < length places → get_or places q 0 ≡ row_of p q

-- the bits of the rows at the first n places
pub record IsExcluded (rows places : List ℕ) (n out : ℕ) : Type 0 where
  pub some : (j : ℕ) → bit_at out j ≡ 1 → (q : ℕ) × (q < n) × (bit_at (get_or rows (get_or places q 0) 0) j ≡ 1)
  pub all : (j q : ℕ) → q < n → bit_at (get_or rows (get_or places q 0) 0) j ≡ 1 → bit_at out j ≡ 1

-- the table tells all exponents apart
abbrev pub AreLow : List ℕ → Type 0
AreLow head = All (λ x. x < 4) head

-- the bits are as before, and the bit of the head with this index only where the table tells its exponents apart
abbrev pub IsDecided : ℕ → ℕ → List ℕ → ℕ → Type 0
IsDecided old new head index = (j : ℕ) → bit_at new j ≡ 1 → (bit_at old j ≡ 1) ⊎ ((j ≡ index) × AreLow head)

-- the bits of the coordinates that aren't 0
abbrev pub IsSupport : List ℕ → ℕ → Type 0
IsSupport p mask = (i : ℕ) → (bit_at mask i ≡ 1) ↔ (0 < get_or p i 0)

-- p is 0 in some coordinate of the mask
abbrev pub LacksSome : ℕ → List ℕ → Type 0
LacksSome mask p = (i : ℕ) × (bit_at mask i ≡ 1) × (get_or p i 0 ≡ 0)

-- what a block keeps of its heads: the table, the bits of the heads that the table decides, the support of each, and the
-- coordinates that are in all supports
pub record IsBlock (heads : List (List ℕ)) (rows supports : List ℕ) (decided shared : ℕ) : Type 0 where
  pub few : length heads ≤ 128
  pub table : IsTable heads rows
  pub low : (j : ℕ) → bit_at decided j ≡ 1 → (j < length heads) × AreLow (get_or heads j [])
  pub one_each : length supports ≡ length heads
  pub support : (j : ℕ) → j < length heads → IsSupport (get_or heads j []) (get_or supports j 0)
  pub common : (j i : ℕ) → j < length heads → bit_at shared i ≡ 1 → 0 < get_or (get_or heads j []) i 0

-- a head without a bit doesn't divide p
abbrev pub LeavesOut : List (List ℕ) → List ℕ → ℕ → Type 0
LeavesOut heads p allowed = (j : ℕ) → j < length heads → bit_at allowed j ≡ 0 → divides (get_or heads j []) p ≡ false

-- a head with a bit in both divides p
abbrev pub AreDecided : List (List ℕ) → List ℕ → ℕ → ℕ → Type 0
AreDecided heads p allowed decided =
    (j : ℕ) → j < length heads → bit_at allowed j ≡ 1 → bit_at decided j ≡ 1 → divides (get_or heads j []) p ≡ true
