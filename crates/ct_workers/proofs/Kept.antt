-- What passes keep is of the book's instance.
use Rattle.std.proofs.Common.{◌≡◌, ℕ, Bool, true, false, cond, List, [], ◌∷◌, ◌++◌, Option, Some, IfSome, IfOk, OnErr, Result, Ok, Err, ap, sym, subst}
use Rattle.std.specs.Prelude.{nat_eq}
use Rattle.std.specs.declared.alloc.AllocError.{AllocError}
use Rattle.std.proofs.lemmas.List.Elements.{All-cons, All-head, All-tail, All-push}
use Rattle.ct_instance.specs.Instance.{Problem}
use Rattle.ct_version.specs.Editions.{Edition}
use Rattle.ct_book.specs.Tasks.{TaskSeen, RemainderSeen}
use Rattle.ct_book.specs.Books.{BookSeen, IsHandedOut}
use Rattle.ct_workers.specs.declared.turns.Turned.{Turned}
use Rattle.ct_workers.specs.Turns.{Pending, kept_by, first_of, without_first, AreOf}

abbrev IsOf : Problem → Pending → Type 0
IsOf i k = k.version.instance ≡ i

chosen : (i : Problem) (k : Pending) (ks rest : List Pending) (b : Bool) → AreOf i (k ∷ ks) → AreOf i rest → AreOf i (cond b ks (k ∷ rest))
chosen i k ks rest true all others = All-tail (IsOf i) k ks all
chosen i k ks rest false all others = All-cons (IsOf i) k rest (All-head (IsOf i) k ks all) others

pub others_of : (i : Problem) (by : ℕ) (ks : List Pending) → AreOf i ks → AreOf i (without_first by ks)
others_of i by [] all = all
others_of i by (k ∷ ks) all = chosen i k ks (without_first by ks) (nat_eq k.by by) all (others_of i by ks (All-tail (IsOf i) k ks all))

first_one : (i : Problem) (k : Pending) (o : Option Pending) (b : Bool) → IsOf i k → IfSome o (IsOf i) → IfSome (cond b (Some k) o) (IsOf i)
first_one i k o true here rest = here
first_one i k o false here rest = rest

firsts_of : (i : Problem) (by : ℕ) (ks : List Pending) → AreOf i ks → IfSome (first_of by ks) (IsOf i)
firsts_of i by [] all = tt
firsts_of i by (k ∷ ks) all = first_one i k (first_of by ks) (nat_eq k.by by) (All-head (IsOf i) k ks all) (firsts_of i by ks (All-tail (IsOf i) k ks all))

pub first_is_of : (i : Problem) (by : ℕ) (ks : List Pending) (r : RemainderSeen) → AreOf i ks → first_of by ks ≡ Some (kept_by by r) → r.version.instance ≡ i
first_is_of i by ks r all first = subst (λ o. IfSome o (IsOf i)) first (firsts_of i by ks all)

-- with what a job that was handed out left, or without it for want of memory
more_of : (i : Problem) (by : ℕ) (t : TaskSeen) (old new : List Pending) (result : Result Turned AllocError) → AreOf i old → t.version.instance ≡ i →
    IfOk result (λ _. new ≡ old ++ record { by = by; version = t.version; job = t.job } ∷ []) → OnErr result (new ≡ old) → AreOf i new
more_of i by t old new (Ok answer) all here kept refused = subst (AreOf i) (sym kept) (All-push (IsOf i) old _ all here)
more_of i by t old new (Err error) all here kept refused = subst (AreOf i) (sym refused) all

pub kept_after : (b : BookSeen) (by g : ℕ) (t : TaskSeen) (c : BookSeen) (old new : List Pending) (result : Result Turned AllocError) → IsHandedOut b g t c → AreOf b.instance old →
    IfOk result (λ _. new ≡ old ++ record { by = by; version = t.version; job = t.job } ∷ []) → OnErr result (new ≡ old) → AreOf c.instance new
kept_after b by g t c old new result handed all kept refused =
    let here : t.version.instance ≡ b.instance = ap (λ (v : Edition). v.instance) handed.version in
    let same : c.instance ≡ b.instance = ap (λ (x : BookSeen). x.instance) (handed.steps).kept in
    subst (λ i. AreOf i new) (sym same) (more_of b.instance by t old new result all here kept refused)
