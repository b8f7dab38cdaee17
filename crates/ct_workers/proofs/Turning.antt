-- What calls of a book are as turns.
use Rattle.std.proofs.Common.{◌≡◌, ◌<◌, ℕ, ◌+◌, length, take, get_or, List, [], ◌∷◌, ◌++◌, Some, None, Contains, ⊎_elim, refl, ap, ap₂, sym, subst}
use Rattle.std.proofs.lemmas.List.{take_more}
use Rattle.ct_instance.specs.Instance.{Problem}
use Rattle.ct_version.specs.Editions.{Edition}
use Rattle.ct_book.specs.declared.outcomes.Committed.TheVariants.{Stored as CommittedStored, Already as CommittedAlready}
use Rattle.ct_book.specs.Tasks.{RemainderSeen}
use Rattle.ct_book.specs.Books.{BookSeen, edition_of, IsCommitted}
use Rattle.ct_workers.specs.declared.turns.Turn.{Turn}
use Rattle.ct_workers.specs.declared.turns.Turned.{Turned}
use Rattle.ct_workers.specs.declared.turns.Turned.TheVariants.{Stored, Already, Lost, Nothing}
use Rattle.ct_workers.specs.Turns.{Pending, Driven, kept_by, first_of, without_first, IsCommit, IsLoss, IsTurn, AreTurns}

abbrev pub driven : BookSeen → List Pending → Driven
driven b ks = record { book = b; kept = ks }

pub nothing_committed : (by : ℕ) (b : BookSeen) (old new : List Pending) → first_of by old ≡ None → new ≡ old → IsCommit by (driven b old) (first_of by old) Nothing (driven b new)
nothing_committed by b old new none same = subst (λ o. IsCommit by (driven b old) o Nothing (driven b new)) (sym none) (refl, ap (driven b) same)

pub stored_turn : (by : ℕ) (b : BookSeen) (old new : List Pending) (r : RemainderSeen) (c : BookSeen) (place : ℕ) → first_of by old ≡ Some (kept_by by r) → new ≡ without_first by old →
    r.version.instance ≡ b.instance → IsCommitted b by r c (CommittedStored place) → IsCommit by (driven b old) (first_of by old) (Stored place) (driven c new)
stored_turn by b old new r c place first rest instance is =
    let version : r.version ≡ edition_of b = ap₂ (λ (i : Problem) (k : ℕ). edition i k) instance is.1 in
    subst (λ o. IsCommit by (driven b old) o (Stored place) (driven c new)) (sym first) (rest, (is.0, version, is.2))
  where
    edition : Problem → ℕ → Edition
    edition i k = record { instance = i; number = k }

pub already_turn : (by : ℕ) (b : BookSeen) (old new : List Pending) (r : RemainderSeen) (c : BookSeen) (number : ℕ) → first_of by old ≡ Some (kept_by by r) → new ≡ without_first by old →
    IsCommitted b by r c (CommittedAlready number) → IsCommit by (driven b old) (first_of by old) (Already number) (driven c new)
already_turn by b old new r c number first rest is =
    let resolved : r.version.number ≡ (b.state).number → Contains (b.state).queue r.job → ⊥ =
    λ same queued. ⊎_elim (λ differs. differs same) (λ done. done.done queued) ((is.2).step).0 in
    subst (λ o. IsCommit by (driven b old) o (Already number) (driven c new)) (sym first) (rest, (is.0, resolved, is.1))

pub nothing_lost : (by : ℕ) (b : BookSeen) (old new : List Pending) → first_of by old ≡ None → new ≡ old → IsLoss by (driven b old) (first_of by old) Nothing (driven b new)
nothing_lost by b old new none same = subst (λ o. IsLoss by (driven b old) o Nothing (driven b new)) (sym none) (refl, ap (driven b) same)

pub one_lost : (by : ℕ) (b : BookSeen) (old new : List Pending) (k : Pending) → first_of by old ≡ Some k → new ≡ without_first by old → IsLoss by (driven b old) (first_of by old) Lost (driven b new)
one_lost by b old new k first rest = subst (λ o. IsLoss by (driven b old) o Lost (driven b new)) (sym first) (refl, rest, refl)

-- turns go on by one
pub turns_more : (g : ℕ) (d m e : Driven) (turns : List Turn) (answers : List Turned) (turn : Turn) (answer : Turned) →
    AreTurns g d turns answers m → IsTurn g turn m answer e → AreTurns g d (turns ++ turn ∷ []) (answers ++ answer ∷ []) e
turns_more g d m e [] [] turn answer are is = (e, subst (λ x. IsTurn g turn x answer e) are is, refl)
turns_more g d m e [] (a ∷ answers) turn answer are is = absurd are
turns_more g d m e (t ∷ turns) [] turn answer are is = absurd are
turns_more g d m e (t ∷ turns) (a ∷ answers) turn answer are is = (are.0, are.1, turns_more g are.0 m e turns answers turn answer are.2 is)

pub turns_next : (g : ℕ) (d m e : Driven) (turns : List Turn) (i : ℕ) (answers : List Turned) (other : Turn) (answer : Turned) → i < length turns →
    AreTurns g d (take i turns) answers m → IsTurn g (get_or turns i other) m answer e → AreTurns g d (take (i + 1) turns) (answers ++ answer ∷ []) e
turns_next g d m e turns i answers other answer inside are is =
    subst (λ ts. AreTurns g d ts (answers ++ answer ∷ []) e) (sym (take_more turns i other inside))
    (turns_more g d m e (take i turns) answers (get_or turns i other) answer are is)
