-- The two texts end with the word `end`, so none that was cut short is one.
use Rattle.std.proofs.Common.{◌≡◌, ℕ, zero, suc, ◌-◌, ◌*◌, ℤ, Bool, true, false, cond, List, ◌∷◌, ◌++◌, length, nat_lt, Option, Some, None, Result, Ok, Err, is_ok, IsOk, IsErr, refl, ap, inl, inr}
use Rattle.ct_text.specs.Tokens.{text_of}
use Rattle.ct_vectors.specs.declared.limits.TheConstants.{ENTRY_LIMIT, COST_LIMIT, COST_ROW_LIMIT, RIGHT_LIMIT, SESSION_LIMIT}
use Rattle.ct_input.specs.declared.limits.TheConstants.{INSTANCE_FILE_LIMIT, SESSION_FILE_LIMIT, PHASE_LIMIT, REQUEST_LIMIT}
use Rattle.ct_input.specs.declared.fault.Fault.{Fault}
use Rattle.ct_input.specs.Sheet.{◌>>=◌, sheet_of}
use Rattle.ct_input.specs.Grammar.{Grammar, done, nothing, word, number, signed, fork, barred, only, part, numbers, signeds, if_some, upto, exactly, read}
use Rattle.ct_input.specs.InstanceText.{more_rows, cost_rows, instance_text}
use Rattle.ct_input.specs.SessionText.{request, no_request, requests, session, no_session, sessions, phase, no_phase, phases, request_count, session_text}
use Rattle.ct_input.specs.Files.{value_in, instance_file, session_file}
use Rattle.ct_input.specs.Cut.{IsCutBefore, EndsWithEnd}
use Rattle.ct_input.proofs.CutTokens.{cut_tokens}
use Rattle.ct_input.proofs.CutGrammars.{IsOther, Stops, cut, ends_well}

-- A part of a text: more follows it, and no word that a fork looks for begins as `end` does.
unfoldable pub Plain : {A : Type 0} → Grammar A → Type 0
Plain (done x) = Unit {0}
Plain (nothing next) = ⊥
Plain (word w next) = Plain next
Plain (number low high next) = (n : ℕ) → Plain (next n)
Plain (signed size next) = (n : ℤ) → Plain (next n)
Plain (fork w first second) = Plain first × Plain second × IsOther w
Plain (barred w next) = Plain next
Plain (only w next) = Plain next

-- what follows a part ends it
pub stops_part : {A B : Type 0} (g : Grammar A) (f : A → Grammar B) → Plain g → ((x : A) → Stops (f x)) → Stops (part g f)
unfolding part Plain Stops
stops_part (done x) f plain more = more x
stops_part (nothing next) f plain more = absurd plain
stops_part (word w next) f plain more = inr (stops_part next f plain more)
stops_part (number low high next) f plain more = λ n. stops_part (next n) f (plain n) more
stops_part (signed size next) f plain more = λ n. stops_part (next n) f (plain n) more
stops_part (fork w first second) f plain more = (stops_part first f plain.0 more, stops_part second f plain.1 more, plain.2)
stops_part (barred w next) f plain more = stops_part next f plain more
stops_part (only w next) f plain more = stops_part next f plain more

pub plain_part : {A B : Type 0} (g : Grammar A) (f : A → Grammar B) → Plain g → ((x : A) → Plain (f x)) → Plain (part g f)
unfolding part Plain
plain_part (done x) f plain more = more x
plain_part (nothing next) f plain more = absurd plain
plain_part (word w next) f plain more = plain_part next f plain more
plain_part (number low high next) f plain more = λ n. plain_part (next n) f (plain n) more
plain_part (signed size next) f plain more = λ n. plain_part (next n) f (plain n) more
plain_part (fork w first second) f plain more = (plain_part first f plain.0 more, plain_part second f plain.1 more, plain.2)
plain_part (barred w next) f plain more = plain_part next f plain more
plain_part (only w next) f plain more = plain_part next f plain more

-- ---- parts

pub plain_numbers : (count high : ℕ) → Plain (numbers count high)
unfolding numbers Plain
plain_numbers zero high = tt
plain_numbers (suc count) high = λ n. plain_part (numbers count high) (λ ns. done (n ∷ ns)) (plain_numbers count high) (λ ns. tt)

pub plain_signeds : (count size : ℕ) → Plain (signeds count size)
unfolding signeds Plain
plain_signeds zero size = tt
plain_signeds (suc count) size = λ n. plain_part (signeds count size) (λ ns. done (n ∷ ns)) (plain_signeds count size) (λ ns. tt)

plain_found : {X : Type 0} (found : Option X) (next : X → Grammar (List X)) → ((x : X) → Plain (next x)) → Plain (if_some found next)
unfolding Plain
plain_found None next plain = tt
plain_found (Some x) next plain = plain x

pub plain_upto : {X : Type 0} (item : ℕ → Grammar (Option X)) (uses : X → ℕ) (over : Grammar (List X)) → ((spare : ℕ) → Plain (item spare)) → Plain over → (count spare : ℕ) → Plain (upto item uses over count spare)
unfolding upto
plain_upto item uses over items overs zero spare = overs
plain_upto {X} item uses over items overs (suc count) spare =
    let more : X → Grammar (List X) = λ x. part (upto item uses over count (spare - uses x)) (λ xs. done (x ∷ xs)) in
    let plain : (x : X) → Plain (more x) = λ x. plain_part (upto item uses over count (spare - uses x)) (λ xs. done (x ∷ xs)) (plain_upto item uses over items overs count (spare - uses x)) (λ xs. unfold Plain in tt) in
    plain_part (item spare) (λ found. if_some found more) (items spare) (λ found. plain_found found more plain)

pub plain_exactly : {X : Type 0} (item : ℕ → Grammar X) (uses : X → ℕ) → ((spare : ℕ) → Plain (item spare)) → (count spare : ℕ) → Plain (exactly item uses count spare)
unfolding exactly Plain
plain_exactly item uses items zero spare = tt
plain_exactly {X} item uses items (suc count) spare =
    let more : X → Grammar (List X) = λ x. part (exactly item uses count (spare - uses x)) (λ xs. done (x ∷ xs)) in
    plain_part (item spare) more (items spare) (λ x. plain_part (exactly item uses count (spare - uses x)) (λ xs. done (x ∷ xs)) (plain_exactly item uses items count (spare - uses x)) (λ xs. tt))

-- ---- the instance text

plain_rows : (count n : ℕ) → Plain (more_rows count n)
unfolding more_rows Plain
plain_rows zero n = tt
plain_rows (suc count) n =
    let last : List ℤ → List ℤ → Grammar (List ℤ) = λ row rows. done (row ++ rows) in
    (plain_part (signeds n COST_LIMIT) (λ row. part (more_rows count n) (last row)) (plain_signeds n COST_LIMIT) (λ row. plain_part (more_rows count n) (last row) (plain_rows count n) (λ rows. tt)), tt, refl)

pub plain_cost_rows : (n : ℕ) → Plain (cost_rows n)
unfolding cost_rows Plain
plain_cost_rows n =
    let last : List ℤ → List ℤ → Grammar (List ℤ) = λ row rows. done (row ++ rows) in
    let rest : ℕ = COST_ROW_LIMIT - 1 in
    plain_part (signeds n COST_LIMIT) (λ row. part (more_rows rest n) (last row)) (plain_signeds n COST_LIMIT) (λ row. plain_part (more_rows rest n) (last row) (plain_rows rest n) (λ rows. tt))

stops_instance_text : Stops instance_text
unfolding instance_text Stops
stops_instance_text =
    inr (inr (inr (λ m. inr (λ n. inr (stops_part (numbers (m * n) ENTRY_LIMIT) _ (plain_numbers (m * n) ENTRY_LIMIT) (λ entries.
    stops_part (cost_rows n) _ (plain_cost_rows n) (λ costs. inl (refl, (record { rows = m; columns = n; entries = entries; costs = costs }, refl)))))))))

-- ---- the session text

plain_request : (m : ℕ) → Plain (request m)
unfolding request Plain
plain_request m = (
  plain_part (numbers m RIGHT_LIMIT) _ (plain_numbers m RIGHT_LIMIT) (λ b. tt),
  (plain_part (numbers m RIGHT_LIMIT) _ (plain_numbers m RIGHT_LIMIT) (λ b. tt), tt, refl),
  refl,
)

plain_requests : (m spare : ℕ) → Plain (requests m spare)
plain_requests m spare = plain_upto (λ _. request m) (λ _. 1) no_request (λ _. plain_request m) (unfold Plain in tt) spare spare

plain_session : (m spare : ℕ) → Plain (session m spare)
unfolding session Plain
plain_session m spare = (plain_part (requests m spare) _ (plain_requests m spare) (λ rs. tt), tt, refl)

plain_sessions : (m spare : ℕ) → Plain (sessions m spare)
plain_sessions m spare = plain_upto (session m) length no_session (plain_session m) (unfold Plain in tt) SESSION_LIMIT spare

plain_phase : (m spare : ℕ) → Plain (phase m spare)
unfolding phase Plain
plain_phase m spare = (λ target. plain_part (sessions m spare) _ (plain_sessions m spare) (λ ss. tt), tt, refl)

plain_phases : (m spare : ℕ) → Plain (phases m spare)
plain_phases m spare = plain_upto (phase m) (λ p. request_count p.sessions) no_phase (plain_phase m) (unfold Plain in tt) PHASE_LIMIT spare

stops_session_text : (m : ℕ) → Stops (session_text m)
unfolding session_text Stops
stops_session_text m = inr (inr (stops_part (phases m REQUEST_LIMIT) _ (plain_phases m REQUEST_LIMIT) (λ ps. inl (refl, (record { phases = ps }, refl)))))

-- ---- files

first_ok : {X Y : Type 0} (r : Result X Fault) (f : X → Result Y Fault) → IsOk (r >>= f) → (x : X) × (r ≡ Ok x)
first_ok (Ok x) f h = (x, refl)
first_ok (Err e) f h = absurd cc

within_ok : {X : Type 0} (over : Bool) (e : Fault) (r : Result X Fault) → IsOk (cond over (Err e) r) → IsOk r
within_ok true e r h = absurd cc
within_ok false e r h = h

err_of : {X : Type 0} (r : Result X Fault) → (IsOk r → ⊥) → IsErr r
err_of (Ok x) h = absurd (h refl)
err_of (Err e) h = refl

-- a text that is read is refused where it is cut short, and its last token is `end`
pub cut_text : {A : Type 0} (g : Grammar A) → Stops g → (front more : List ℕ) → IsCutBefore front more → IsOk (value_in g (front ++ more)) → IsOk (value_in g front) → ⊥
cut_text g stops front more is_cut whole part_of =
    let w = first_ok (read g (sheet_of (text_of (front ++ more)))) (λ x. Ok x.0) whole in
    let f = first_ok (read g (sheet_of (text_of front))) (λ x. Ok x.0) part_of in
    cut g stops (text_of front).tokens (text_of (front ++ more)).tokens (cut_tokens front more is_cut) (text_of front).end (text_of (front ++ more)).end f.0 w.0 w.1 f.1

pub text_ends : {A : Type 0} (g : Grammar A) → Stops g → (bytes : List ℕ) → IsOk (value_in g bytes) → EndsWithEnd bytes
text_ends g stops bytes whole =
    let w = first_ok (read g (sheet_of (text_of bytes))) (λ x. Ok x.0) whole in
    let e = ends_well g stops (text_of bytes).tokens (text_of bytes).end w.0 w.1 in
    record { before = e.before; last = e.last; tokens = e.whole; word = e.is_end }

instance_value : (bytes : List ℕ) → IsOk (instance_file bytes) → IsOk (value_in instance_text bytes)
unfolding instance_file
instance_value bytes h =
    let v = first_ok (value_in instance_text bytes) _ (within_ok (nat_lt INSTANCE_FILE_LIMIT (length bytes)) _ _ h) in
    ap (λ r. is_ok r) v.1

sessions_value : (m : ℕ) (bytes : List ℕ) → IsOk (session_file m bytes) → IsOk (value_in (session_text m) bytes)
unfolding session_file
sessions_value m bytes h = within_ok (nat_lt SESSION_FILE_LIMIT (length bytes)) _ _ h

pub instance_cut : (front more : List ℕ) → IsOk (instance_file (front ++ more)) → IsCutBefore front more → IsErr (instance_file front)
instance_cut front more whole is_cut =
    err_of (instance_file front) (λ part_of. cut_text instance_text stops_instance_text front more is_cut (instance_value (front ++ more) whole) (instance_value front part_of))

pub sessions_cut : (m : ℕ) (front more : List ℕ) → IsOk (session_file m (front ++ more)) → IsCutBefore front more → IsErr (session_file m front)
sessions_cut m front more whole is_cut =
    err_of (session_file m front) (λ part_of. cut_text (session_text m) (stops_session_text m) front more is_cut (sessions_value m (front ++ more) whole) (sessions_value m front part_of))

pub instance_ends : (bytes : List ℕ) → IsOk (instance_file bytes) → EndsWithEnd bytes
instance_ends bytes whole = text_ends instance_text stops_instance_text bytes (instance_value bytes whole)

pub sessions_end : (m : ℕ) (bytes : List ℕ) → IsOk (session_file m bytes) → EndsWithEnd bytes
sessions_end m bytes whole = text_ends (session_text m) (stops_session_text m) bytes (sessions_value m bytes whole)
