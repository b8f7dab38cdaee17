-- Items read one after the other, as a loop does.
use Rattle.std.proofs.Common.{◌≡◌, ℕ, suc, ◌-◌, List, [], ◌∷◌, ◌++◌, Option, Some, None, Result, Ok, Err, ℤ, true, false, codes, refl, sym, ap, ◌∙◌, append_assoc}
use Rattle.std.proofs.lemmas.List.{append-nil}
use Rattle.ct_vectors.specs.declared.limits.TheConstants.{COST_LIMIT}
use Rattle.ct_input.specs.declared.fault.Fault.{Fault}
use Rattle.ct_input.specs.declared.fault.InputStop.{InputStop}
use Rattle.ct_input.specs.declared.fault.InputStop.TheVariants as stops
use Rattle.ct_input.specs.Sheet.{Sheet, ◌>>=◌, Fails}
use Rattle.ct_input.specs.Grammar.{Grammar, done, part, read, token_at, number_in, signed_in, numbers, signeds, upto, exactly, if_some, is_next, after_next, barred_at}
use Rattle.ct_input.specs.InstanceText.{more_rows}
use Rattle.ct_input.proofs.Parts.{read_part}

-- what was read before, and what is still read
abbrev pub with_front : {X : Type 0} → List X → Result (List X × Sheet) Fault → Result (List X × Sheet) Fault
with_front front read = read >>= λ x. Ok (front ++ x.0, x.1)

-- an item more, and what is still read
abbrev pub with_item : {X : Type 0} → X → Result (List X × Sheet) Fault → Result (List X × Sheet) Fault
with_item x read = read >>= λ y. Ok (x ∷ y.0, y.1)

-- ---- a loop's step, its exits and its end

regroup : {X : Type 0} (front : List X) (x : X) (read : Result (List X × Sheet) Fault) → with_front front (with_item x read) ≡ with_front (front ++ x ∷ []) read
regroup {X} front x (Ok y) = ap (λ (xs : List X). Ok (xs, y.1)) (simp append_assoc)
regroup front x (Err f) = refl

pub goes_on : {X : Type 0} (front : List X) (x : X) (now later whole : Result (List X × Sheet) Fault) → now ≡ with_item x later → with_front front now ≡ whole → with_front (front ++ x ∷ []) later ≡ whole
goes_on front x now later whole step so_far = sym (regroup front x later) ∙ ap (with_front front) (sym step) ∙ so_far

pub stops_at : {X : Type 0} (e : InputStop) (front : List X) (now whole : Result (List X × Sheet) Fault) → Fails e now → with_front front now ≡ whole → Fails e whole
stops_at stops.Memory front now whole step so_far = tt
stops_at (stops.Fault f) front now whole step so_far = sym so_far ∙ ap (with_front front) step

pub is_done : {X : Type 0} (front : List X) (s : Sheet) (now whole : Result (List X × Sheet) Fault) → now ≡ Ok ([], s) → with_front front now ≡ whole → whole ≡ Ok (front, s)
is_done {X} front s now whole step so_far = sym so_far ∙ ap (with_front front) step ∙ ap (λ (xs : List X). Ok (xs, s)) (append-nil front)

-- a fault of a part is a fault of the whole
pub Fails_bind : {X Y : Type 0} (e : InputStop) (r : Result X Fault) (f : X → Result Y Fault) → Fails e r → Fails e (r >>= f)
Fails_bind stops.Memory r f h = tt
Fails_bind (stops.Fault g) r f h = ap (λ v. v >>= f) h

-- ---- numbers

pub numbers_step : (count high n : ℕ) (s rest : Sheet) → token_at (number_in 0 high) s ≡ Ok (n, rest) → read (numbers (suc count) high) s ≡ with_item n (read (numbers count high) rest)
unfolding numbers
numbers_step count high n s rest h = rw h (read_part (numbers count high) (λ ns. done (n ∷ ns)) rest)

pub numbers_stop : (e : InputStop) (count high : ℕ) (s : Sheet) → Fails e (token_at (number_in 0 high) s) → Fails e (read (numbers (suc count) high) s)
unfolding numbers
numbers_stop e count high s h = Fails_bind e (token_at (number_in 0 high) s) (λ x. read (part (numbers count high) (λ ns. done (x.0 ∷ ns))) x.1) h

pub signeds_step : (count size : ℕ) (n : ℤ) (s rest : Sheet) → token_at (signed_in size) s ≡ Ok (n, rest) → read (signeds (suc count) size) s ≡ with_item n (read (signeds count size) rest)
unfolding signeds
signeds_step count size n s rest h = rw h (read_part (signeds count size) (λ ns. done (n ∷ ns)) rest)

pub signeds_stop : (e : InputStop) (count size : ℕ) (s : Sheet) → Fails e (token_at (signed_in size) s) → Fails e (read (signeds (suc count) size) s)
unfolding signeds
signeds_stop e count size s h = Fails_bind e (token_at (signed_in size) s) (λ x. read (part (signeds count size) (λ ns. done (x.0 ∷ ns))) x.1) h

-- ---- rows of costs

regroup_rows : (front row : List ℤ) (read : Result (List ℤ × Sheet) Fault) → with_front front (with_front row read) ≡ with_front (front ++ row) read
regroup_rows front row (Ok y) = ap (λ (xs : List ℤ). Ok (xs, y.1)) (sym (append_assoc front row y.0))
regroup_rows front row (Err f) = refl

pub rows_go_on : (front row : List ℤ) (now later whole : Result (List ℤ × Sheet) Fault) → now ≡ with_front row later → with_front front now ≡ whole → with_front (front ++ row) later ≡ whole
rows_go_on front row now later whole step so_far = sym (regroup_rows front row later) ∙ ap (with_front front) (sym step) ∙ so_far

pub rows_step : (count n : ℕ) (row : List ℤ) (s rest : Sheet) → is_next (codes "cost") s ≡ true → read (signeds n COST_LIMIT) (after_next s) ≡ Ok (row, rest)
    → read (more_rows (suc count) n) s ≡ with_front row (read (more_rows count n) rest)
unfolding more_rows
rows_step count n row s rest next h =
    rw next (read_part (signeds n COST_LIMIT) (λ r. part (more_rows count n) (λ rs. done (r ++ rs))) (after_next s) ∙ rw h (read_part (more_rows count n) (λ rs. done (row ++ rs)) rest))

pub rows_end : (count n : ℕ) (s : Sheet) → is_next (codes "cost") s ≡ false → read (more_rows (suc count) n) s ≡ Ok ([], s)
unfolding more_rows
rows_end count n s absent = rw absent refl

pub rows_stop : (e : InputStop) (count n : ℕ) (s : Sheet) → is_next (codes "cost") s ≡ true → Fails e (read (signeds n COST_LIMIT) (after_next s)) → Fails e (read (more_rows (suc count) n) s)
unfolding more_rows
rows_stop e count n s next h =
    let more : List ℤ → Grammar (List ℤ) = λ r. part (more_rows count n) (λ rs. done (r ++ rs)) in
    rw (next, read_part (signeds n COST_LIMIT) more (after_next s)) (Fails_bind e (read (signeds n COST_LIMIT) (after_next s)) (λ x. read (more x.0) x.1) h)

pub rows_over : (e : InputStop) (n : ℕ) (s : Sheet) → Fails e (barred_at (codes "cost") s) → Fails e (read (more_rows 0 n) s)
unfolding more_rows
rows_over e n s h = Fails_bind e (barred_at (codes "cost") s) (λ _. Ok ([], s)) h

pub rows_done : (n : ℕ) (s : Sheet) → barred_at (codes "cost") s ≡ Ok true → read (more_rows 0 n) s ≡ Ok ([], s)
unfolding more_rows
rows_done n s may = rw may refl

-- ---- at most so many items

module _ {X : Type 0} (item : ℕ → Grammar (Option X)) (uses : X → ℕ) (over : Grammar (List X)) where
  pub upto_step : (count spare : ℕ) (x : X) (s rest : Sheet) → read (item spare) s ≡ Ok (Some x, rest) → read (upto item uses over (suc count) spare) s ≡ with_item x (read (upto item uses over count (spare - uses x)) rest)
  unfolding upto
  upto_step count spare x s rest h =
      let more : X → Grammar (List X) = λ x. part (upto item uses over count (spare - uses x)) (λ xs. done (x ∷ xs)) in
      read_part (item spare) (λ found. if_some found more) s ∙ rw h (read_part (upto item uses over count (spare - uses x)) (λ xs. done (x ∷ xs)) rest)

  pub upto_end : (count spare : ℕ) (s rest : Sheet) → read (item spare) s ≡ Ok (None, rest) → read (upto item uses over (suc count) spare) s ≡ Ok ([], rest)
  unfolding upto
  upto_end count spare s rest h =
      let more : X → Grammar (List X) = λ x. part (upto item uses over count (spare - uses x)) (λ xs. done (x ∷ xs)) in
      read_part (item spare) (λ found. if_some found more) s ∙ rw h refl

  pub upto_stop : (e : InputStop) (count spare : ℕ) (s : Sheet) → Fails e (read (item spare) s) → Fails e (read (upto item uses over (suc count) spare) s)
  unfolding upto
  upto_stop e count spare s h =
      let more : X → Grammar (List X) = λ x. part (upto item uses over count (spare - uses x)) (λ xs. done (x ∷ xs)) in
      rw (read_part (item spare) (λ found. if_some found more) s) (Fails_bind e (read (item spare) s) (λ y. read (if_some y.0 more) y.1) h)

  -- ---- the loop: front was found before, now is what is still read

  pub loop_err : (e : InputStop) (front : List X) (count later spare : ℕ) (s : Sheet) (whole : Result (List X × Sheet) Fault) → count ≡ suc later → Fails e (read (item spare) s)
      → with_front front (read (upto item uses over count spare) s) ≡ whole → Fails e whole
  loop_err e front count later spare s whole some fault so_far =
      let fails : Fails e (read (upto item uses over count spare) s) = rw some (upto_stop e later spare s fault) in
      stops_at e front (read (upto item uses over count spare) s) whole fails so_far

  pub loop_end : (front : List X) (count later spare : ℕ) (s rest : Sheet) (whole : Result (List X × Sheet) Fault) → count ≡ suc later → read (item spare) s ≡ Ok (None, rest)
      → with_front front (read (upto item uses over count spare) s) ≡ whole → whole ≡ Ok (front, rest)
  loop_end front count later spare s rest whole some none so_far =
      let ends : read (upto item uses over count spare) s ≡ Ok ([], rest) = rw some (upto_end later spare s rest none) in
      is_done front rest (read (upto item uses over count spare) s) whole ends so_far

  pub loop_more : (front : List X) (count later spare left : ℕ) (x : X) (s rest : Sheet) (whole : Result (List X × Sheet) Fault) → count ≡ suc later → spare - uses x ≡ left → read (item spare) s ≡ Ok (Some x, rest)
      → with_front front (read (upto item uses over count spare) s) ≡ whole → with_front (front ++ x ∷ []) (read (upto item uses over later left) rest) ≡ whole
  loop_more front count later spare left x s rest whole some uses_it found so_far =
      let step : read (upto item uses over count spare) s ≡ with_item x (read (upto item uses over later left) rest) = rw (some, ← uses_it) (upto_step later spare x s rest found) in
      goes_on front x (read (upto item uses over count spare) s) (read (upto item uses over later left) rest) whole step so_far

  pub over_err : (e : InputStop) (front : List X) (count spare : ℕ) (s : Sheet) (whole : Result (List X × Sheet) Fault) → count ≡ 0 → Fails e (read over s)
      → with_front front (read (upto item uses over count spare) s) ≡ whole → Fails e whole
  unfolding upto
  over_err e front count spare s whole none fault so_far =
      let fails : Fails e (read (upto item uses over count spare) s) = rw none fault in
      stops_at e front (read (upto item uses over count spare) s) whole fails so_far

  pub over_end : (front : List X) (count spare : ℕ) (s : Sheet) (whole : Result (List X × Sheet) Fault) → count ≡ 0 → read over s ≡ Ok ([], s)
      → with_front front (read (upto item uses over count spare) s) ≡ whole → whole ≡ Ok (front, s)
  unfolding upto
  over_end front count spare s whole none may so_far =
      let ends : read (upto item uses over count spare) s ≡ Ok ([], s) = rw none may in
      is_done front s (read (upto item uses over count spare) s) whole ends so_far

-- ---- so many items

module _ {X : Type 0} (item : ℕ → Grammar X) (uses : X → ℕ) where
  exactly_step : (count spare : ℕ) (x : X) (s rest : Sheet) → read (item spare) s ≡ Ok (x, rest) → read (exactly item uses (suc count) spare) s ≡ with_item x (read (exactly item uses count (spare - uses x)) rest)
  unfolding exactly
  exactly_step count spare x s rest h =
      let more : X → Grammar (List X) = λ x. part (exactly item uses count (spare - uses x)) (λ xs. done (x ∷ xs)) in
      read_part (item spare) more s ∙ rw h (read_part (exactly item uses count (spare - uses x)) (λ xs. done (x ∷ xs)) rest)

  exactly_stop : (e : InputStop) (count spare : ℕ) (s : Sheet) → Fails e (read (item spare) s) → Fails e (read (exactly item uses (suc count) spare) s)
  unfolding exactly
  exactly_stop e count spare s h =
      let more : X → Grammar (List X) = λ x. part (exactly item uses count (spare - uses x)) (λ xs. done (x ∷ xs)) in
      rw (read_part (item spare) more s) (Fails_bind e (read (item spare) s) (λ y. read (more y.0) y.1) h)

  -- the loop: front was found before, now is what is still read

  pub each_err : (e : InputStop) (front : List X) (count later spare : ℕ) (s : Sheet) (whole : Result (List X × Sheet) Fault) → count ≡ suc later → Fails e (read (item spare) s)
      → with_front front (read (exactly item uses count spare) s) ≡ whole → Fails e whole
  each_err e front count later spare s whole some fault so_far =
      let fails : Fails e (read (exactly item uses count spare) s) = rw some (exactly_stop e later spare s fault) in
      stops_at e front (read (exactly item uses count spare) s) whole fails so_far

  pub each_more : (front : List X) (count later spare left : ℕ) (x : X) (s rest : Sheet) (whole : Result (List X × Sheet) Fault) → count ≡ suc later → spare - uses x ≡ left → read (item spare) s ≡ Ok (x, rest)
      → with_front front (read (exactly item uses count spare) s) ≡ whole → with_front (front ++ x ∷ []) (read (exactly item uses later left) rest) ≡ whole
  each_more front count later spare left x s rest whole some uses_it found so_far =
      let step : read (exactly item uses count spare) s ≡ with_item x (read (exactly item uses later left) rest) = rw (some, ← uses_it) (exactly_step later spare x s rest found) in
      goes_on front x (read (exactly item uses count spare) s) (read (exactly item uses later left) rest) whole step so_far

  pub each_end : (front : List X) (count spare : ℕ) (s : Sheet) (whole : Result (List X × Sheet) Fault) → count ≡ 0
      → with_front front (read (exactly item uses count spare) s) ≡ whole → whole ≡ Ok (front, s)
  unfolding exactly
  each_end front count spare s whole none so_far =
      let ends : read (exactly item uses count spare) s ≡ Ok ([], s) = rw none refl in
      is_done front s (read (exactly item uses count spare) s) whole ends so_far
