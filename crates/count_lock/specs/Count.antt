-- The count rule: what holds of a lock between any two atomic steps.
-- The word is 0 while the lock is free, and 1 while a pass holds it.
use Rattle.std.specs.Prelude.{◌≡◌, ◌≢◌, ◌⊎◌, ℕ, ◌+◌, ◌<◌, List, [], ◌∷◌, length, nat_lt, if◌then◌else◌, Option, Some, None, true, false}
use mathlib.Core.Option.{some, none}
use lib.ListN.{get_elem?}
use Rattle.atomic_table.specs.Table.{State}
use Rattle.count_lock.specs.Pairs.{Agree, times, numbered}
use Rattle.count_lock.specs.declared.note.Note.{Note}

-- the pass of the opening has every number
abbrev pub first_note : {V : Type 0} → V → List ℕ → Note V
first_note first counts = record { first = Some first; pairs = numbered 0 counts; shown = []; held = None; spent = false }

-- what is left of a pass that was joined into another
abbrev pub spent_note : {V : Type 0} → Note V
spent_note = record { first = None; pairs = []; shown = []; held = None; spent = true }

-- how many pairs with this number an unspent view has
abbrev pub worth : {V : Type 0} → ℕ → Note V → ℕ
worth number view = if view.spent then 0 else times number view.pairs

abbrev pub total : {A : Type 0} → (A → ℕ) → List A → ℕ
total f [] = 0
total f (x ∷ xs) = f x + total f xs

-- once for each number below the number of passes
abbrev pub once : ℕ → ℕ → ℕ
once number passes = if nat_lt number passes then 1 else 0

module _ {V N : Type 0} (name_of : V → N) (counts_of : V → List ℕ) (first : V) (passes : ℕ) where
  -- the view of a pass with at least one pair, whose pairs agree with the counts, and which holds the lock with these counts or not at all
  pub record Knows (counts : List ℕ) (held : Option (List ℕ)) (view : Note V) : Type 0 where
    pub opening : view.first ≡ Some first
    pub some_pair : 0 < length view.pairs
    pub agree : Agree counts view.pairs
    pub lock : view.held ≡ held

  -- the slot is at home with a value that belongs to the name, and no pass holds the lock
  pub record IsFree (s : State (Option V) (Note V)) : Type 0 where
    pub word : s.words ≡ 0 ∷ []
    pub value : V
    pub home : s.homes ≡ some (Some value) ∷ []
    pub name : name_of value ≡ name_of first
    pub wide : length (counts_of value) ≡ passes
    pub views : (seat : ℕ) (view : Note V) → get_elem? s.views seat ≡ some view → view.spent ≡ false → Knows (counts_of value) None view

  -- the slot is out with the holder, which has a list of counts, and no other pass holds the lock
  pub record IsTaken (s : State (Option V) (Note V)) : Type 0 where
    pub word : s.words ≡ 1 ∷ []
    pub home : s.homes ≡ none ∷ []
    pub counts : List ℕ
    pub wide : length counts ≡ passes
    pub holder : ℕ
    pub view : Note V
    pub there : get_elem? s.views holder ≡ some view
    pub unspent : view.spent ≡ false
    pub holds : Knows counts (Some counts) view
    pub others : (seat : ℕ) (view : Note V) → get_elem? s.views seat ≡ some view → view.spent ≡ false → seat ≢ holder → Knows counts None view

  pub record CountRule (s : State (Option V) (Note V)) : Type 0 where
    -- each number below the number of passes stands in one pair of one unspent view, and no other number in any
    pub pairs : (number : ℕ) → total (worth number) s.views ≡ once number passes
    pub turn : IsFree s ⊎ IsTaken s
