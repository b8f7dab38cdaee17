-- The ledger of two coins of 3 and 5 at cost 2 and 3 up to grade 15, and what is refused after one change, by computation.
use Rattle.std.proofs.Common.{ℕ, ◌+◌, ◌≡◌, Some, None, List, [], ◌∷◌, ◌++◌, take, drop, refl}
use Rattle.ct_instance.specs.declared.jobs.Job.TheVariants.{Generator, Pair}
use Rattle.ct_instance.specs.Fiber.{fiber_of, least_of}
use Rattle.ct_instance.specs.TestSet.{lists_of, test_moves_at, test_list}
use Rattle.ct_instance.specs.Jobs.{all_jobs, jobs_at, jobs_up_to}
use Rattle.ct_checker.specs.declared.verdicts.Reason.TheVariants.{Size, Grade, Degree, Order, Entry, Coprime, Step, End}
use Rattle.ct_ledger.specs.declared.entries.LedgerEntry.{LedgerEntry}
use Rattle.ct_ledger.specs.declared.entries.LedgerEntry.TheVariants as entry
use Rattle.ct_ledger.specs.Parts.{LedgerParts}
use Rattle.ct_checker.specs.Coins.{coins}
use Rattle.ct_checker.specs.Refusals.{first_refusal_of}

abbrev move_of : List ℕ → List ℕ → List ℕ × List ℕ
move_of h t = (h, t)

abbrev moves : List (List ℕ × List ℕ)
moves =
    move_of (0 ∷ 0 ∷ 3 ∷ []) (1 ∷ 0 ∷ 0 ∷ []) ∷ move_of (1 ∷ 0 ∷ 2 ∷ []) (0 ∷ 1 ∷ 0 ∷ []) ∷
    move_of (0 ∷ 1 ∷ 1 ∷ []) (2 ∷ 0 ∷ 0 ∷ []) ∷ move_of (3 ∷ 0 ∷ 1 ∷ []) (0 ∷ 2 ∷ 0 ∷ []) ∷
    move_of (5 ∷ 0 ∷ 0 ∷ []) (0 ∷ 3 ∷ 0 ∷ []) ∷ []

abbrev entries : List LedgerEntry
entries =
    entry.Walks (Generator 1) [] ((1, 1) ∷ []) ∷ entry.Walks (Generator 2) [] ((1, 1) ∷ (2, 1) ∷ []) ∷ entry.Walks (Pair 1 2) [] ((3, 1) ∷ []) ∷
    entry.Walks (Pair 1 3) [] ((2, 1) ∷ []) ∷ entry.Walks (Pair 2 3) [] ((4, 1) ∷ []) ∷ entry.Walks (Pair 2 4) [] ((3, 1) ∷ []) ∷
    entry.Walks (Pair 1 4) [] ((3, 2) ∷ []) ∷ entry.Walks (Pair 3 4) ((5, 1) ∷ []) [] ∷ []

abbrev ledger : List (List ℕ × List ℕ) → List LedgerEntry → LedgerParts
ledger ms es = record { rows = 1; columns = 2; grade = 15; moves = ms; entries = es }

-- the entry e, from 0, replaced by some entries
abbrev with_entry : ℕ → List LedgerEntry → LedgerParts
with_entry e new = ledger moves (take e entries ++ new ++ drop (e + 1) entries)

-- the first move replaced
abbrev with_move : List ℕ × List ℕ → LedgerParts
with_move m = ledger (m ∷ drop 1 moves) entries

accepted : first_refusal_of coins (ledger moves entries) ≡ None
unfolding jobs_up_to jobs_at all_jobs
accepted = refl

size : first_refusal_of coins (record { rows = 2; columns = 1; grade = 15; moves = moves; entries = entries }) ≡ Some (2, Size)
unfolding jobs_up_to jobs_at all_jobs
size = refl

grade : first_refusal_of coins (record { rows = 1; columns = 2; grade = 14; moves = moves; entries = entries }) ≡ Some (8, Grade)
unfolding jobs_up_to jobs_at all_jobs
grade = refl

degree : first_refusal_of coins (with_move (move_of (0 ∷ 0 ∷ 3 ∷ []) (0 ∷ 1 ∷ 0 ∷ []))) ≡ Some (4, Degree)
unfolding jobs_up_to jobs_at all_jobs
degree = refl

order : first_refusal_of coins (with_move (move_of (1 ∷ 0 ∷ 0 ∷ []) (0 ∷ 0 ∷ 3 ∷ []))) ≡ Some (4, Order)
unfolding jobs_up_to jobs_at all_jobs
order = refl

exchanged : first_refusal_of coins (ledger moves (entry.Walks (Generator 2) [] ((1, 1) ∷ (2, 1) ∷ []) ∷ entry.Walks (Generator 1) [] ((1, 1) ∷ []) ∷ drop 2 entries)) ≡ Some (9, Entry)
unfolding jobs_up_to jobs_at all_jobs
exchanged = refl

twice : first_refusal_of coins (ledger moves (take 3 entries ++ drop 2 entries)) ≡ Some (12, Entry)
unfolding jobs_up_to jobs_at all_jobs
twice = refl

-- an entry that is missing, in the middle and at the end
missing : first_refusal_of coins (with_entry 4 []) ≡ Some (13, Entry)
unfolding jobs_up_to jobs_at all_jobs
missing = refl

missing_last : first_refusal_of coins (ledger moves (take 7 entries)) ≡ Some (16, Entry)
unfolding jobs_up_to jobs_at all_jobs
missing_last = refl

not_coprime : first_refusal_of coins (with_entry 2 (entry.Coprime (Pair 1 2) ∷ [])) ≡ Some (11, Coprime)
unfolding jobs_up_to jobs_at all_jobs
not_coprime = refl

too_often : first_refusal_of coins (with_entry 0 (entry.Walks (Generator 1) [] ((1, 2) ∷ []) ∷ [])) ≡ Some (9, Step)
unfolding jobs_up_to jobs_at all_jobs
too_often = refl

not_once : first_refusal_of coins (with_entry 0 (entry.Walks (Generator 1) [] ((1, 0) ∷ (1, 1) ∷ []) ∷ [])) ≡ Some (9, Step)
unfolding jobs_up_to jobs_at all_jobs
not_once = refl

no_such_move : first_refusal_of coins (with_entry 0 (entry.Walks (Generator 1) [] ((6, 1) ∷ []) ∷ [])) ≡ Some (9, Step)
unfolding jobs_up_to jobs_at all_jobs
no_such_move = refl

apart : first_refusal_of coins (with_entry 0 (entry.Walks (Generator 1) [] [] ∷ [])) ≡ Some (9, End)
unfolding jobs_up_to jobs_at all_jobs
apart = refl

-- without the last move its step is missing
move_missing : first_refusal_of coins (ledger (take 4 moves) entries) ≡ Some (15, Step)
unfolding jobs_up_to jobs_at all_jobs
move_missing = refl

-- the test list of grade 6
pub up_to_six : test_list coins 6 ≡
    record { head = 0 ∷ 0 ∷ 3 ∷ []; tail = 1 ∷ 0 ∷ 0 ∷ [] } ∷ record { head = 1 ∷ 0 ∷ 2 ∷ []; tail = 0 ∷ 1 ∷ 0 ∷ [] } ∷
    record { head = 0 ∷ 1 ∷ 1 ∷ []; tail = 2 ∷ 0 ∷ 0 ∷ [] } ∷ []
unfolding test_list test_moves_at lists_of least_of fiber_of
up_to_six = refl
