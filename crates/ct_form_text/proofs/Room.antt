-- What the values are that the grammar of forms can give: the equality form has room.
use Rattle.std.proofs.Common.{◌≡◌, ℕ, zero, suc, ◌+◌, ◌-◌, ◌≤◌, min, All, Bool, true, false, List, [], ◌∷◌, length, Option, Some, None, Ok, Err, Result, IfOk, refl, sym, ap, ◌∙◌, subst, arith}
use Rattle.std.specs.Prelude.{sum_by}
use Rattle.std.proofs.lemmas.List.{length-map, length-replicate}
use Rattle.std.proofs.lemmas.List.Sums.{sum_by-append}
use Rattle.std.proofs.lemmas.List.Elements.{All-cons, All-nil, All-tail}
use Rattle.ct_vectors.specs.declared.limits.TheConstants.{ROW_LIMIT, COLUMN_LIMIT, RIGHT_LIMIT}
use Rattle.ct_input.specs.declared.fault.InputStop.{InputStop}
use Rattle.ct_input.specs.Sheet.{Sheet, Gives}
use Rattle.ct_input.specs.Grammar.{Grammar, exactly, read}
use Rattle.ct_input.proofs.Yields.{Yields, read_yields, yields-part}
use Rattle.ct_form.specs.declared.relation.Relation.{Relation}
use Rattle.ct_form.specs.declared.relation.Relation.TheVariants.{Eq, Le}
use Rattle.ct_form.specs.declared.relation.Limits.{Limits}
use Rattle.ct_form.specs.Forms.{given_in}
use Rattle.ct_form.specs.EqualityForms.{row_slacks}
use Rattle.ct_form.specs.Made.{given_of, plain_limits}
use Rattle.ct_form.proofs.Plain.{none_given, no_slacks}
use Rattle.ct_form_text.specs.FormText.{slacks_of, relation, bound, relations, bounds, given_limits, limits}
use Rattle.ct_form_text.specs.Files.{HasRoom}

sum_more : {X : Type 0} (f : X → ℕ) (x : X) (xs : List X) → sum_by f (x ∷ xs) ≡ f x + sum_by f xs
sum_more f x xs = sum_by-append f (x ∷ []) xs ∙ omega arith

-- so many items, which use no more than is spare, and P holds of each
record AreExactly {X : Type 0} (P : X → Type 0) (uses : X → ℕ) (count spare : ℕ) (xs : List X) : Type 0 where
  count_is : length xs ≡ count
  within : sum_by uses xs ≤ spare
  all : All P xs

yields-exactly : {X : Type 0} (P : X → Type 0) (item : ℕ → Grammar X) (uses : X → ℕ) → ((spare : ℕ) → Yields (λ x. P x × (uses x ≤ spare)) (item spare)) →
    (count spare : ℕ) → Yields (AreExactly P uses count spare) (exactly item uses count spare)
unfolding exactly
yields-exactly P item uses items zero spare = record { count_is = refl; within = omega arith; all = All-nil P }
yields-exactly P item uses items (suc count) spare =
    yields-part (λ x. P x × (uses x ≤ spare)) (AreExactly P uses (suc count) spare) (item spare) _ (items spare) (λ x here.
    yields-part (AreExactly P uses count (spare - uses x)) (AreExactly P uses (suc count) spare) (exactly item uses count (spare - uses x)) _
    (yields-exactly P item uses items count (spare - uses x)) (λ xs are. record {
      count_is = ap suc are.count_is;
      within = (let rest : sum_by uses xs ≤ spare - uses x = are.within in let first : uses x ≤ spare = here.1 in omega (arith, sum_more uses x xs));
      all = All-cons P x xs here.0 are.all;
    }))

abbrev IsBound : Option ℕ → Type 0
IsBound None = Unit {0}
IsBound (Some u) = u ≤ RIGHT_LIMIT

yields-relation : (spare : ℕ) → Yields (λ r. Unit {0} × (slacks_of r ≤ spare)) (relation spare)
yields-relation zero = (tt, omega arith)
yields-relation (suc spare) = ((tt, omega arith), (tt, omega arith))

yields-bound : (spare : ℕ) → Yields (λ u. IsBound u × (given_of u ≤ spare)) (bound spare)
yields-bound zero = (tt, omega arith)
yields-bound (suc spare) = ((tt, omega arith), λ n _ below. (below, omega arith))

slacks_counted : (rs : List Relation) → length (row_slacks rs) ≡ sum_by slacks_of rs
slacks_counted [] = refl
slacks_counted (Eq ∷ rs) = omega (arith, length-map (row_slacks rs) (λ c. 0 ∷ c), slacks_counted rs, sum_more slacks_of Eq rs)
slacks_counted (Le ∷ rs) = omega (arith, length-map (row_slacks rs) (λ c. 0 ∷ c), slacks_counted rs, sum_more slacks_of Le rs)

given_counted : (us : List (Option ℕ)) → length (given_in us) ≡ sum_by given_of us
given_counted [] = refl
given_counted (None ∷ us) = omega (arith, given_counted us, sum_more given_of None us)
given_counted (Some u ∷ us) = omega (arith, given_counted us, sum_more given_of (Some u) us)

bounds_within : (us : List (Option ℕ)) → All IsBound us → All (λ u. u ≤ RIGHT_LIMIT) (given_in us)
bounds_within [] a = All-nil (λ u. u ≤ RIGHT_LIMIT)
bounds_within (None ∷ us) a = bounds_within us (All-tail IsBound None us a)
bounds_within (Some u ∷ us) a = All-cons (λ u. u ≤ RIGHT_LIMIT) u (given_in us) (a 0 None (omega arith)) (bounds_within us (All-tail IsBound (Some u) us a))

pub plain_has_room : (m n : ℕ) → m ≤ ROW_LIMIT → n ≤ COLUMN_LIMIT → HasRoom m n (plain_limits m n)
plain_has_room m n few-rows few-columns = record {
  relation_count = length-replicate m Eq;
  bound_for_each = length-replicate n None;
  row_room = omega (arith, ap length (none_given n));
  column_room = omega (arith, ap length (none_given n), ap length (no_slacks m));
  bound_limit = subst (All (λ u. u ≤ RIGHT_LIMIT)) (sym (none_given n)) (All-nil (λ u. u ≤ RIGHT_LIMIT));
}

pub yields-limits : (limited : Bool) (m n : ℕ) → m ≤ ROW_LIMIT → n ≤ COLUMN_LIMIT → Yields (HasRoom m n) (limits limited m n)
unfolding given_limits
yields-limits false m n few-rows few-columns = plain_has_room m n few-rows few-columns
yields-limits true m n few-rows few-columns =
    yields-part (AreExactly (λ _. Unit {0}) slacks_of m (COLUMN_LIMIT - n)) (HasRoom m n) (relations m (COLUMN_LIMIT - n)) _
    (yields-exactly (λ _. Unit {0}) relation slacks_of yields-relation m (COLUMN_LIMIT - n)) (λ rs held.
    yields-part (AreExactly IsBound given_of n (min (ROW_LIMIT - m) (COLUMN_LIMIT - n - sum_by slacks_of rs))) (HasRoom m n) (bounds n (min (ROW_LIMIT - m) (COLUMN_LIMIT - n - sum_by slacks_of rs))) _
    (yields-exactly IsBound bound given_of yields-bound n (min (ROW_LIMIT - m) (COLUMN_LIMIT - n - sum_by slacks_of rs))) (λ us given.
    let used : sum_by slacks_of rs ≤ COLUMN_LIMIT - n = held.within in
    let spare : sum_by given_of us ≤ min (ROW_LIMIT - m) (COLUMN_LIMIT - n - sum_by slacks_of rs) = given.within in
    record {
      relation_count = held.count_is;
      bound_for_each = given.count_is;
      row_room = omega (arith, given_counted us);
      column_room = omega (arith, given_counted us, slacks_counted rs);
      bound_limit = bounds_within us given.all;
    }))

pub limits_read : (limited : Bool) (m n : ℕ) → m ≤ ROW_LIMIT → n ≤ COLUMN_LIMIT → (s rest : Sheet) (r : Result Limits InputStop) →
    Gives (λ (held : Limits). (held, rest)) r (read (limits limited m n) s) → IfOk r (HasRoom m n)
limits_read limited m n few-rows few-columns s rest (Ok held) e = read_yields (HasRoom m n) (limits limited m n) s (held, rest) (yields-limits limited m n few-rows few-columns) e
limits_read limited m n few-rows few-columns s rest (Err e) gives = tt
