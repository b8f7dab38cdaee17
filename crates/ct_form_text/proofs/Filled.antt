-- The places of a form text can each be filled.
use Rattle.std.proofs.Common.{◌≡◌, ℕ, zero, suc, ◌-◌, ◌*◌, min, Bool, true, false, List, [], ◌∷◌, ℤ, refl, ap, ◌∙◌, arith, lit≤}
use Rattle.std.specs.Prelude.{codes, sum_by}
use Rattle.std.specs.Str.{bytes_eq}
use Rattle.ct_vectors.specs.declared.limits.TheConstants.{ROW_LIMIT, COLUMN_LIMIT, ENTRY_LIMIT}
use Rattle.ct_input.specs.Grammar.{Grammar, done, nothing, word, number, signed, fork, barred, only, part, numbers, exactly}
use Rattle.ct_input.specs.InstanceText.{cost_rows}
use Rattle.ct_input.proofs.Filling.{end_word, Fills, opens, Closes, Needs}
use Rattle.ct_input.proofs.Filled.{opens_part, fills_part, closes_part, fills_numbers, fills_sizes, fills_cost_rows, opens_cost_rows}
use Rattle.ct_form.specs.declared.relation.Limits.{Limits}
use Rattle.ct_form_text.specs.declared.draft.FormDraft.{FormDraft}
use Rattle.ct_form.specs.Made.{given_of}
use Rattle.ct_form_text.specs.FormText.{slacks_of, relation, bound, relations, bounds, form_number, given_limits, limits, form_text}

false_is_not_true : false ≡ true → ⊥
false_is_not_true e = cc

-- ---- a part that can be filled whatever follows

opens_any : {A B : Type 0} (after : List ℕ) (g : Grammar A) (f : A → Grammar B) → ((mid : List ℕ) → Fills false mid g) → (mid : List ℕ) × (opens after (part g f) ≡ opens mid g)
unfolding part opens Fills
opens_any after (done x) f h = (opens after (f x), refl)
opens_any after (nothing next) f h = absurd (false_is_not_true (h []).0)
opens_any after (word w next) f h = ([], refl)
opens_any after (number low high next) f h = ([], refl)
opens_any after (signed size next) f h = ([], refl)
opens_any after (fork w first second) f h = opens_any after second f (λ mid. (h mid).1)
opens_any after (barred w next) f h = opens_any after next f (λ mid. (h mid).0)
opens_any after (only w next) f h = ([], refl)

fills_any : {A B : Type 0} (whole : Bool) (after : List ℕ) (g : Grammar A) (f : A → Grammar B) → ((mid : List ℕ) → Fills false mid g) → ((x : A) → Fills whole after (f x)) → Fills whole after (part g f)
unfolding part opens Fills
fills_any whole after (done x) f h more = more x
fills_any whole after (nothing next) f h more = absurd (false_is_not_true (h []).0)
fills_any whole after (word w next) f h more = ((h []).0, fills_any whole after next f (λ mid. (h mid).1) more)
fills_any whole after (number low high next) f h more = ((h []).0, (h []).1, λ n. fills_any whole after (next n) f (λ mid. (h mid).2 n) more)
fills_any whole after (signed size next) f h more = ((h []).0, λ n. fills_any whole after (next n) f (λ mid. (h mid).1 n) more)
fills_any whole after (fork w first second) f h more =
    let o = opens_any after second f (λ mid. (h mid).1) in
    (fills_any whole after first f (λ mid. (h mid).0) more, fills_any whole after second f (λ mid. (h mid).1) more, ap (λ v. bytes_eq v w) o.1 ∙ (h o.0).2)
fills_any whole after (barred w next) f h more =
    let o = opens_any after next f (λ mid. (h mid).0) in
    (fills_any whole after next f (λ mid. (h mid).0) more, ap (λ v. bytes_eq v w) o.1 ∙ (h o.0).1)
fills_any whole after (only w next) f h more = ((h []).0, fills_any whole after next f (λ mid. (h mid).1) more)

fills_exactly : {X : Type 0} (item : ℕ → Grammar X) (uses : X → ℕ) → ((spare : ℕ) (mid : List ℕ) → Fills false mid (item spare)) → (count spare : ℕ) (mid : List ℕ) → Fills false mid (exactly item uses count spare)
unfolding exactly Fills
fills_exactly item uses items zero spare mid = tt
fills_exactly {X} item uses items (suc count) spare mid =
    let last : X → List X → Grammar (List X) = λ x xs. done (x ∷ xs) in
    let more : X → Grammar (List X) = λ x. part (exactly item uses count (spare - uses x)) (last x) in
    fills_any false mid (item spare) more (items spare) (λ x. fills_any false mid (exactly item uses count (spare - uses x)) (last x) (fills_exactly item uses items count (spare - uses x)) (λ xs. tt))

-- ---- relations and bounds

fills_relation : (spare : ℕ) (mid : List ℕ) → Fills false mid (relation spare)
unfolding Fills opens
fills_relation zero mid = ((record { some = λ e. cc; plain = refl }, tt), refl)
fills_relation (suc spare) mid = (tt, (record { some = λ e. cc; plain = refl }, tt), refl)

fills_bound : (spare : ℕ) (mid : List ℕ) → Fills false mid (bound spare)
unfolding Fills opens
fills_bound zero mid = (record { some = λ e. cc; plain = refl }, tt)
fills_bound (suc spare) mid = (tt, (omega arith, lit≤ tt, λ n. tt), refl)

fills_limits : (limited : Bool) (m n : ℕ) (mid : List ℕ) → Fills false mid (limits limited m n)
unfolding given_limits Fills
fills_limits false m n mid = tt
fills_limits true m n mid = (
  record { some = λ e. cc; plain = refl },
  fills_any false mid (relations m (COLUMN_LIMIT - n)) _ (fills_exactly relation slacks_of fills_relation m (COLUMN_LIMIT - n)) (λ rs. (
    record { some = λ e. cc; plain = refl },
    fills_any false mid (bounds n (min (ROW_LIMIT - m) (COLUMN_LIMIT - n - sum_by slacks_of rs))) _
        (fills_exactly bound given_of fills_bound n (min (ROW_LIMIT - m) (COLUMN_LIMIT - n - sum_by slacks_of rs))) (λ us. tt),
  )),
)

-- ---- the form text

abbrev closing : ℕ → ℕ → List ℕ → Limits → List ℤ → Grammar FormDraft
closing m n entries held costs = word (codes "end") (nothing (done (record { rows = m; columns = n; entries = entries; limits = held; costs = costs })))

fills_closing : (m n : ℕ) (entries : List ℕ) (held : Limits) (costs : List ℤ) → Fills true [] (closing m n entries held costs)
unfolding Fills
fills_closing m n entries held costs = (
  record { some = λ e. cc; plain = refl },
  (refl, (record { rows = m; columns = n; entries = entries; limits = held; costs = costs }, refl)),
)

closes_closing : (m n : ℕ) (entries : List ℕ) (held : Limits) (costs : List ℤ) → Closes (closing m n entries held costs) × Needs (closing m n entries held costs)
unfolding Closes Needs
closes_closing m n entries held costs = (tt, tt)

abbrev costly : ℕ → ℕ → List ℕ → Limits → Grammar FormDraft
costly m n entries held = part (cost_rows n) (closing m n entries held)

fills_costly : (m n : ℕ) (entries : List ℕ) (held : Limits) → Fills true [] (costly m n entries held)
fills_costly m n entries held =
    fills_part true [] end_word (cost_rows n) (closing m n entries held) (fills_cost_rows n) (fills_closing m n entries held) (λ costs. unfold opens in refl)

opens_costly : (m n : ℕ) (entries : List ℕ) (held : Limits) → opens [] (costly m n entries held) ≡ codes "cost"
opens_costly m n entries held =
    opens_part [] end_word (cost_rows n) (closing m n entries held) (fills_cost_rows n) (λ costs. unfold opens in refl) ∙ opens_cost_rows n

closes_costly : (m n : ℕ) (entries : List ℕ) (held : Limits) → Closes (costly m n entries held) × Needs (costly m n entries held)
closes_costly m n entries held = closes_part end_word (cost_rows n) (closing m n entries held) (fills_cost_rows n) (closes_closing m n entries held)

abbrev limited_part : Bool → ℕ → ℕ → List ℕ → Grammar FormDraft
limited_part limited m n entries = part (limits limited m n) (costly m n entries)

-- what stands behind the entries
abbrev next_word : Bool → List ℕ
next_word false = codes "cost"
next_word true = codes "relations"

opens_limited : (limited : Bool) (m n : ℕ) (entries : List ℕ) → opens [] (limited_part limited m n entries) ≡ next_word limited
unfolding part opens given_limits
opens_limited false m n entries = opens_costly m n entries _
opens_limited true m n entries = refl

fills_limited : (limited : Bool) (m n : ℕ) (entries : List ℕ) → Fills true [] (limited_part limited m n entries)
fills_limited limited m n entries = fills_any true [] (limits limited m n) (costly m n entries) (fills_limits limited m n) (fills_costly m n entries)

closes_limited : (limited : Bool) (m n : ℕ) (entries : List ℕ) → Closes (limited_part limited m n entries) × Needs (limited_part limited m n entries)
closes_limited limited m n entries = closes_part [] (limits limited m n) (costly m n entries) (fills_limits limited m n []) (closes_costly m n entries)

fills_form_number : Fills false (codes "rows") form_number
unfolding form_number Fills opens
fills_form_number = (tt, (record { some = λ e. cc; plain = refl }, tt), refl)

abbrev numbered : Bool → Grammar FormDraft
numbered limited =
    word (codes "rows") (number 1 ROW_LIMIT (λ m. word (codes "columns") (number 1 COLUMN_LIMIT (λ n.
    word (codes "matrix") (part (numbers (m * n) ENTRY_LIMIT) (limited_part limited m n))))))

fills_numbered : (limited : Bool) → Fills true [] (numbered limited)
unfolding Fills
fills_numbered limited = fills_sizes (λ m n. word (codes "matrix") (part (numbers (m * n) ENTRY_LIMIT) (limited_part limited m n))) (λ m n. (
  record { some = λ e. cc; plain = refl },
  fills_part true [] (next_word limited) (numbers (m * n) ENTRY_LIMIT) (limited_part limited m n)
      (fills_numbers (next_word limited) (m * n) ENTRY_LIMIT (lit≤ tt)) (fills_limited limited m n) (opens_limited limited m n),
))

closes_numbered : (limited : Bool) → Closes (numbered limited) × Needs (numbered limited)
unfolding Closes Needs
closes_numbered limited = (
  λ m n. (closes_part (next_word limited) (numbers (m * n) ENTRY_LIMIT) (limited_part limited m n) (fills_numbers (next_word limited) (m * n) ENTRY_LIMIT (lit≤ tt)) (closes_limited limited m n)).0,
  tt,
)

pub fills_form_text : Fills true [] form_text
unfolding form_text Fills
fills_form_text = (
  record { some = λ e. cc; plain = refl },
  fills_part true [] (codes "rows") form_number numbered fills_form_number fills_numbered (λ limited. unfold opens in refl),
)

pub closes_form_text : Closes form_text
unfolding form_text Closes
closes_form_text = (closes_part (codes "rows") form_number numbered fills_form_number closes_numbered).0
