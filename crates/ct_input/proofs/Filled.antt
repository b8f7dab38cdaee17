-- The places of the two texts can each be filled.
use Rattle.std.proofs.Common.{◌≡◌, ℕ, zero, suc, ◌-◌, ◌*◌, ◌≤◌, Bool, true, false, List, [], ◌∷◌, ◌++◌, length, Option, Some, None, ℤ, refl, ap, ◌∙◌, arith, lit≤}
use Rattle.std.specs.Prelude.{codes}
use Rattle.std.specs.Str.{bytes_eq}
use Rattle.ct_vectors.specs.declared.limits.TheConstants.{ROW_LIMIT, COLUMN_LIMIT, ENTRY_LIMIT, COST_LIMIT, COST_ROW_LIMIT, RIGHT_LIMIT, SESSION_LIMIT}
use Rattle.ct_input.specs.declared.limits.TheConstants.{PHASE_LIMIT, REQUEST_LIMIT}
use Rattle.ct_input.specs.declared.script.Request.TheVariants.{Ask, Solve}
use Rattle.ct_input.specs.declared.script.Phase.{Phase}
use Rattle.ct_input.specs.declared.script.Script.{Script}
use Rattle.ct_input.specs.declared.draft.Draft.{Draft}
use Rattle.ct_input.specs.Grammar.{Grammar, done, nothing, word, number, signed, fork, barred, only, part, numbers, signeds, if_some, upto}
use Rattle.ct_input.specs.InstanceText.{more_rows, cost_rows, instance_text}
use Rattle.ct_input.specs.SessionText.{request, no_request, requests, session, no_session, sessions, phase, no_phase, phases, request_count, session_text}
use Rattle.ct_input.proofs.Filling.{end_word, Fills, opens, Closes, Needs}

false_is_not_true : false ≡ true → ⊥
false_is_not_true e = cc

-- ---- a part and what follows it

pub opens_part : {A B : Type 0} (after mid : List ℕ) (g : Grammar A) (f : A → Grammar B) → Fills false mid g → ((x : A) → opens after (f x) ≡ mid) → opens after (part g f) ≡ opens mid g
unfolding part opens Fills
opens_part after mid (done x) f h follows = follows x
opens_part after mid (nothing next) f h follows = absurd (false_is_not_true h.0)
opens_part after mid (word w next) f h follows = refl
opens_part after mid (number low high next) f h follows = refl
opens_part after mid (signed size next) f h follows = refl
opens_part after mid (fork w first second) f h follows = opens_part after mid second f h.1 follows
opens_part after mid (barred w next) f h follows = opens_part after mid next f h.0 follows
opens_part after mid (only w next) f h follows = refl

pub fills_part : {A B : Type 0} (whole : Bool) (after mid : List ℕ) (g : Grammar A) (f : A → Grammar B) → Fills false mid g → ((x : A) → Fills whole after (f x)) → ((x : A) → opens after (f x) ≡ mid) → Fills whole after (part g f)
unfolding part opens Fills
fills_part whole after mid (done x) f h more follows = more x
fills_part whole after mid (nothing next) f h more follows = absurd (false_is_not_true h.0)
fills_part whole after mid (word w next) f h more follows = (h.0, fills_part whole after mid next f h.1 more follows)
fills_part whole after mid (number low high next) f h more follows = (h.0, h.1, λ n. fills_part whole after mid (next n) f (h.2 n) more follows)
fills_part whole after mid (signed size next) f h more follows = (h.0, λ n. fills_part whole after mid (next n) f (h.1 n) more follows)
fills_part whole after mid (fork w first second) f h more follows =
    (fills_part whole after mid first f h.0 more follows, fills_part whole after mid second f h.1 more follows, ap (λ v. bytes_eq v w) (opens_part after mid second f h.1 follows) ∙ h.2)
fills_part whole after mid (barred w next) f h more follows =
    (fills_part whole after mid next f h.0 more follows, ap (λ v. bytes_eq v w) (opens_part after mid next f h.0 follows) ∙ h.1)
fills_part whole after mid (only w next) f h more follows = (h.0, fills_part whole after mid next f h.1 more follows)

-- what follows a part closes it
pub closes_part : {A B : Type 0} (mid : List ℕ) (g : Grammar A) (f : A → Grammar B) → Fills false mid g → ((x : A) → Closes (f x) × Needs (f x)) → Closes (part g f) × Needs (part g f)
unfolding part Fills Closes Needs
closes_part mid (done x) f h more = more x
closes_part mid (nothing next) f h more = absurd (false_is_not_true h.0)
closes_part mid (word w next) f h more = ((closes_part mid next f h.1 more).0, tt)
closes_part mid (number low high next) f h more = (λ n. (closes_part mid (next n) f (h.2 n) more).0, tt)
closes_part mid (signed size next) f h more = (λ n. (closes_part mid (next n) f (h.1 n) more).0, tt)
closes_part mid (fork w first second) f h more =
    let rest = closes_part mid second f h.1 more in
    (((closes_part mid first f h.0 more).0, rest.0), rest.1)
closes_part mid (barred w next) f h more = let rest = closes_part mid next f h.0 more in (rest, rest.1)
closes_part mid (only w next) f h more = ((closes_part mid next f h.1 more).0, tt)

-- ---- lists of numbers

pub fills_numbers : (after : List ℕ) (count high : ℕ) → 1 ≤ high → Fills false after (numbers count high)
unfolding numbers Fills opens
fills_numbers after zero high h = tt
fills_numbers after (suc count) high h = (omega arith, h, λ n. fills_part false after after (numbers count high) (λ ns. done (n ∷ ns)) (fills_numbers after count high h) (λ ns. tt) (λ ns. refl))

pub fills_signeds : (after : List ℕ) (count size : ℕ) → 1 ≤ size → Fills false after (signeds count size)
unfolding signeds Fills opens
fills_signeds after zero size h = tt
fills_signeds after (suc count) size h = (h, λ n. fills_part false after after (signeds count size) (λ ns. done (n ∷ ns)) (fills_signeds after count size h) (λ ns. tt) (λ ns. refl))

-- ---- at most so many items

module _ {X : Type 0} (after : List ℕ) (item : ℕ → Grammar (Option X)) (uses : X → ℕ) (over : Grammar (List X)) (fills_item : (spare : ℕ) → Fills false after (item spare)) (fills_over : Fills false after over)
    (item_opens : (spare : ℕ) → opens after (item spare) ≡ after) (over_opens : opens after over ≡ after) where
  some_opens : (found : Option X) (next : X → Grammar (List X)) → ((x : X) → opens after (next x) ≡ after) → opens after (if_some found next) ≡ after
  unfolding opens
  some_opens None next h = refl
  some_opens (Some x) next h = h x

  some_fills : (found : Option X) (next : X → Grammar (List X)) → ((x : X) → Fills false after (next x)) → Fills false after (if_some found next)
  unfolding Fills
  some_fills None next h = tt
  some_fills (Some x) next h = h x

  upto_fills : (count spare : ℕ) → Fills false after (upto item uses over count spare) × (opens after (upto item uses over count spare) ≡ after)
  unfolding upto
  upto_fills zero spare = (fills_over, over_opens)
  upto_fills (suc count) spare =
      let last : X → List X → Grammar (List X) = λ x xs. done (x ∷ xs) in
      let more : X → Grammar (List X) = λ x. part (upto item uses over count (spare - uses x)) (last x) in
      let last_fills : (x : X) (xs : List X) → Fills false after (last x xs) = λ x xs. unfold Fills in tt in
      let last_opens : (x : X) (xs : List X) → opens after (last x xs) ≡ after = λ x xs. unfold opens in refl in
      let more_fills : (x : X) → Fills false after (more x) = λ x. fills_part false after after (upto item uses over count (spare - uses x)) (last x) (upto_fills count (spare - uses x)).0 (last_fills x) (last_opens x) in
      let more_opens : (x : X) → opens after (more x) ≡ after = λ x. opens_part after after (upto item uses over count (spare - uses x)) (last x) (upto_fills count (spare - uses x)).0 (last_opens x) ∙ (upto_fills count (spare - uses x)).1 in (
        fills_part false after after (item spare) (λ found. if_some found more) (fills_item spare) (λ found. some_fills found more more_fills) (λ found. some_opens found more more_opens),
        opens_part after after (item spare) (λ found. if_some found more) (fills_item spare) (λ found. some_opens found more more_opens) ∙ item_opens spare,
      )

-- ---- the session text

right : 1 ≤ RIGHT_LIMIT
right = lit≤ tt

fills_request : (m : ℕ) → Fills false end_word (request m)
unfolding request Fills opens
fills_request m = (
  fills_part false end_word end_word (numbers m RIGHT_LIMIT) (λ b. done (Some (Ask b))) (fills_numbers end_word m RIGHT_LIMIT right) (λ b. tt) (λ b. refl),
  (fills_part false end_word end_word (numbers m RIGHT_LIMIT) (λ b. done (Some (Solve b))) (fills_numbers end_word m RIGHT_LIMIT right) (λ b. tt) (λ b. refl), tt, refl),
  refl,
)

opens_request : (m : ℕ) → opens end_word (request m) ≡ end_word
unfolding request opens
opens_request m = refl

fills_no_request : Fills false end_word no_request
unfolding Fills opens
fills_no_request = ((tt, refl), refl)

opens_no_request : opens end_word no_request ≡ end_word
unfolding opens
opens_no_request = refl

fills_requests : (m spare : ℕ) → Fills false end_word (requests m spare) × (opens end_word (requests m spare) ≡ end_word)
fills_requests m spare = upto_fills end_word (λ _. request m) (λ _. 1) no_request (λ _. fills_request m) fills_no_request (λ _. opens_request m) opens_no_request spare spare

fills_session : (m spare : ℕ) → Fills false end_word (session m spare)
unfolding session Fills opens
fills_session m spare = (fills_part false end_word end_word (requests m spare) (λ rs. done (Some rs)) (fills_requests m spare).0 (λ rs. tt) (λ rs. refl), tt, refl)

opens_session : (m spare : ℕ) → opens end_word (session m spare) ≡ end_word
unfolding session opens
opens_session m spare = refl

fills_no_session : Fills false end_word no_session
unfolding Fills opens
fills_no_session = (tt, refl)

opens_no_session : opens end_word no_session ≡ end_word
unfolding opens
opens_no_session = refl

fills_sessions : (m spare : ℕ) → Fills false end_word (sessions m spare) × (opens end_word (sessions m spare) ≡ end_word)
fills_sessions m spare = upto_fills end_word (session m) length no_session (fills_session m) fills_no_session (opens_session m) opens_no_session SESSION_LIMIT spare

fills_phase : (m spare : ℕ) → Fills false end_word (phase m spare)
unfolding phase Fills opens
fills_phase m spare =
    ((omega arith, lit≤ tt, λ target. fills_part false end_word end_word (sessions m spare) (λ ss. done (Some (record { target = target; sessions = ss }))) (fills_sessions m spare).0 (λ ss. tt) (λ ss. refl)), tt, refl)

opens_phase : (m spare : ℕ) → opens end_word (phase m spare) ≡ end_word
unfolding phase opens
opens_phase m spare = refl

fills_no_phase : Fills false end_word no_phase
unfolding Fills opens
fills_no_phase = (tt, refl)

opens_no_phase : opens end_word no_phase ≡ end_word
unfolding opens
opens_no_phase = refl

fills_phases : (m spare : ℕ) → Fills false end_word (phases m spare) × (opens end_word (phases m spare) ≡ end_word)
fills_phases m spare = upto_fills end_word (phase m) (λ p. request_count p.sessions) no_phase (fills_phase m) fills_no_phase (opens_phase m) opens_no_phase PHASE_LIMIT spare

pub fills_session_text : (m : ℕ) → Fills true [] (session_text m)
unfolding session_text Fills opens
fills_session_text m =
    let closing : List Phase → Grammar Script = λ ps. word (codes "end") (nothing (done (record { phases = ps }))) in (
      record { some = λ e. cc; plain = refl },
      (
        record { some = λ e. cc; plain = refl },
        fills_part true [] end_word (phases m REQUEST_LIMIT) closing (fills_phases m REQUEST_LIMIT).0 (λ ps. (record { some = λ e. cc; plain = refl }, (refl, (record { phases = ps }, refl)))) (λ ps. refl),
      ),
    )

pub closes_session_text : (m : ℕ) → Closes (session_text m)
unfolding session_text Closes Needs
closes_session_text m =
    let closing : List Phase → Grammar Script = λ ps. word (codes "end") (nothing (done (record { phases = ps }))) in
    (closes_part end_word (phases m REQUEST_LIMIT) closing (fills_phases m REQUEST_LIMIT).0 (λ ps. (tt, tt))).0

-- ---- the instance text

cost : 1 ≤ COST_LIMIT
cost = lit≤ tt

fills_rows : (count n : ℕ) → Fills false end_word (more_rows count n) × (opens end_word (more_rows count n) ≡ end_word)
unfolding more_rows Fills opens
fills_rows zero n = (((tt, refl)), refl)
fills_rows (suc count) n =
    let last : List ℤ → List ℤ → Grammar (List ℤ) = λ row rows. done (row ++ rows) in
    let more : List ℤ → Grammar (List ℤ) = λ row. part (more_rows count n) (last row) in
    let rest = fills_rows count n in (
      (
        fills_part false end_word end_word (signeds n COST_LIMIT) more (fills_signeds end_word n COST_LIMIT cost)
            (λ row. fills_part false end_word end_word (more_rows count n) (last row) rest.0 (λ rows. tt) (λ rows. refl))
            (λ row. opens_part end_word end_word (more_rows count n) (last row) rest.0 (λ rows. refl) ∙ rest.1),
        tt,
        refl,
      ),
      refl,
    )

pub fills_cost_rows : (n : ℕ) → Fills false end_word (cost_rows n)
unfolding cost_rows Fills opens
fills_cost_rows n =
    let last : List ℤ → List ℤ → Grammar (List ℤ) = λ row rows. done (row ++ rows) in
    let more : List ℤ → Grammar (List ℤ) = λ row. part (more_rows (COST_ROW_LIMIT - 1) n) (last row) in
    let rest = fills_rows (COST_ROW_LIMIT - 1) n in (
      record { some = λ e. cc; plain = refl },
      fills_part false end_word end_word (signeds n COST_LIMIT) more (fills_signeds end_word n COST_LIMIT cost)
          (λ row. fills_part false end_word end_word (more_rows (COST_ROW_LIMIT - 1) n) (last row) rest.0 (λ rows. tt) (λ rows. refl))
          (λ row. opens_part end_word end_word (more_rows (COST_ROW_LIMIT - 1) n) (last row) rest.0 (λ rows. refl) ∙ rest.1),
    )

pub opens_cost_rows : (n : ℕ) → opens end_word (cost_rows n) ≡ codes "cost"
unfolding cost_rows opens
opens_cost_rows n = refl

abbrev closing : ℕ → ℕ → List ℕ → List ℤ → Grammar Draft
closing m n entries costs = word (codes "end") (nothing (done (record { rows = m; columns = n; entries = entries; costs = costs })))

fills_closing : (m n : ℕ) (entries : List ℕ) (costs : List ℤ) → Fills true [] (closing m n entries costs)
unfolding Fills
fills_closing m n entries costs = (record { some = λ e. cc; plain = refl }, (refl, (record { rows = m; columns = n; entries = entries; costs = costs }, refl)))

closes_closing : (m n : ℕ) (entries : List ℕ) (costs : List ℤ) → Closes (closing m n entries costs) × Needs (closing m n entries costs)
unfolding Closes Needs
closes_closing m n entries costs = (tt, tt)

abbrev costly : ℕ → ℕ → List ℕ → Grammar Draft
costly m n entries = part (cost_rows n) (closing m n entries)

fills_costly : (m n : ℕ) (entries : List ℕ) → Fills true [] (costly m n entries)
fills_costly m n entries = fills_part true [] end_word (cost_rows n) (closing m n entries) (fills_cost_rows n) (fills_closing m n entries) (λ costs. unfold opens in refl)

opens_costly : (m n : ℕ) (entries : List ℕ) → opens [] (costly m n entries) ≡ codes "cost"
opens_costly m n entries = opens_part [] end_word (cost_rows n) (closing m n entries) (fills_cost_rows n) (λ costs. unfold opens in refl) ∙ opens_cost_rows n

closes_costly : (m n : ℕ) (entries : List ℕ) → Closes (costly m n entries) × Needs (costly m n entries)
closes_costly m n entries = closes_part end_word (cost_rows n) (closing m n entries) (fills_cost_rows n) (closes_closing m n entries)

-- what begins with the numbers of rows and columns
pub fills_sizes : {A : Type 0} (go : ℕ → ℕ → Grammar A) → ((m n : ℕ) → Fills true [] (go m n)) →
    Fills true [] (word (codes "rows") (number 1 ROW_LIMIT (λ m. word (codes "columns") (number 1 COLUMN_LIMIT (go m)))))
unfolding Fills
fills_sizes go fills = (
  record { some = λ e. cc; plain = refl },
  (omega arith, omega arith, λ m. (record { some = λ e. cc; plain = refl }, (omega arith, omega arith, fills m))),
)

pub fills_instance_text : Fills true [] instance_text
unfolding instance_text Fills opens
fills_instance_text = (
  record { some = λ e. cc; plain = refl },
  (
    record { some = λ e. cc; plain = refl },
    fills_sizes (λ m n. word (codes "matrix") (part (numbers (m * n) ENTRY_LIMIT) (costly m n))) (λ m n. (
      record { some = λ e. cc; plain = refl },
      fills_part true [] (codes "cost") (numbers (m * n) ENTRY_LIMIT) (costly m n) (fills_numbers (codes "cost") (m * n) ENTRY_LIMIT (lit≤ tt)) (fills_costly m n) (opens_costly m n),
    )),
  ),
)

pub closes_instance_text : Closes instance_text
unfolding instance_text Closes
closes_instance_text = λ m n. (closes_part (codes "cost") (numbers (m * n) ENTRY_LIMIT) (costly m n) (fills_numbers (codes "cost") (m * n) ENTRY_LIMIT (lit≤ tt)) (closes_costly m n)).0
