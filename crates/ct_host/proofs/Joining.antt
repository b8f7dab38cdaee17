-- The pairs of all passes, and the journal of a book that has their counts.
use Rattle.std.proofs.Common.{◌≡◌, ℕ, ◌+◌, ◌≤◌, ◌<◌, Some, None, List, [], ◌∷◌, ◌++◌, length, map, All, suc, sym, ap, subst, ◌∙◌, refl, arith, append-nil, append_assoc, length-append}
use Rattle.std.proofs.lemmas.List.{length-map}
use Rattle.std.proofs.lemmas.List.Elements.{All-cons, All-nil}
use Rattle.count_lock.specs.Pairs.{Agree, HasEach, times, numbered}
use Rattle.count_lock.specs.Sight.{LockPlace, LockSight, IsOfLock}
use Rattle.count_lock.proofs.PairLists.{times_numbered}
use Rattle.ct_completion.specs.Journal.{entries_of}
use Rattle.ct_book.specs.Books.{BookSeen, counts_of}
use Rattle.ct_host.specs.Hosts.{HostKey, PassSeen}
use Rattle.ct_host.specs.Closing.{AreNumbered, AreOfLock, pairs_of}
use Rattle.ct_host.proofs.Counts.{count_at}

pairs_numbered : (key : HostKey) (from : ℕ) (ps : List PassSeen) → AreNumbered key from ps → pairs_of ps ≡ numbered from (map (λ p. p.steps) ps)
pairs_numbered key from [] h = refl
pairs_numbered key from (p ∷ ps) h = λ i. (h.1 i, p.steps) ∷ pairs_numbered key (from + 1) ps h.2 i

pub has_each : (key : HostKey) (ps : List PassSeen) (n : ℕ) → AreNumbered key 0 ps → length ps ≡ n → HasEach n (pairs_of ps)
has_each key ps n h long number low =
    subst (λ xs. 1 ≤ times number xs) (sym (pairs_numbered key 0 ps h))
    (let most : number < 0 + length (map (λ p. p.steps) ps) = omega (arith, length-map ps (λ (p : PassSeen). p.steps), long) in omega (arith, times_numbered number 0 (map (λ p. p.steps) ps) (omega arith) most))

counted_from : (b : BookSeen) (key : HostKey) (from : ℕ) (ps : List PassSeen) → Agree (counts_of b) (pairs_of ps) → AreNumbered key from ps → from + length ps ≤ b.passes → All (λ p. entries_of p.number b.journal ≡ p.steps) ps
counted_from b key from [] agree h most = All-nil (λ p. entries_of p.number b.journal ≡ p.steps)
counted_from b key from (p ∷ ps) agree h most =
    All-cons (λ p. entries_of p.number b.journal ≡ p.steps) p ps (sym (count_at b p.number (omega (arith, h.1, most))) ∙ agree.0) (counted_from b key (from + 1) ps agree.1 h.2 (omega (arith, most)))

pub counted : (b : BookSeen) (key : HostKey) (ps : List PassSeen) → Agree (counts_of b) (pairs_of ps) → AreNumbered key 0 ps → length ps ≡ b.passes → All (λ p. entries_of p.number b.journal ≡ p.steps) ps
counted b key ps agree h long = counted_from b key 0 ps agree h (omega (arith, long))

pub are_of_lock : (lock : LockPlace BookSeen) (key : HostKey) (from : ℕ) (ps : List PassSeen) → key.lock ≡ lock.lock → key.book ≡ Some lock.first → AreNumbered key from ps → AreOfLock lock ps
are_of_lock lock key from [] id first h = All-nil (λ (p : PassSeen). (p.key.lock ≡ lock.lock) × (p.key.book ≡ Some lock.first))
are_of_lock lock key from (p ∷ ps) id first h =
    All-cons (λ (q : PassSeen). (q.key.lock ≡ lock.lock) × (q.key.book ≡ Some lock.first)) p ps (ap (λ (k : HostKey). k.lock) h.0 ∙ id, ap (λ (k : HostKey). k.book) h.0 ∙ first)
    (are_of_lock lock key (from + 1) ps id first h.2)

-- some passes are joined into one, and the others are still to come
pub record Joining (lock : LockPlace BookSeen) (all : LockSight BookSeen) (counts : List ℕ) (rest ps : List PassSeen) : Type 0 where
  pub own : IsOfLock lock all
  pub idle : all.held ≡ None
  pub later : AreOfLock lock rest
  pub pairs : all.pairs ++ pairs_of rest ≡ pairs_of ps
  pub steps : counts ++ map (λ p. p.steps) rest ≡ map (λ p. p.steps) ps

later_front : (lock : LockPlace BookSeen) (p : PassSeen) (ps : List PassSeen) → AreOfLock lock (p ∷ ps) → (p.key.lock ≡ lock.lock) × (p.key.book ≡ Some lock.first)
later_front lock p ps h = h 0 p (omega arith)

later_rest : (lock : LockPlace BookSeen) (p : PassSeen) (ps : List PassSeen) → AreOfLock lock (p ∷ ps) → AreOfLock lock ps
later_rest lock p ps h k d low = h (suc k) d (omega (arith, low))

pub joining_start : (lock : LockPlace BookSeen) (all : LockSight BookSeen) (counts : List ℕ) (p : PassSeen) (rest ps : List PassSeen) → ps ≡ p ∷ rest → AreOfLock lock ps → all.lock ≡ p.key.lock → all.first ≡ p.key.book → all.held ≡ None →
    all.pairs ≡ (p.number, p.steps) ∷ [] → counts ≡ p.steps ∷ [] → Joining lock all counts rest ps
joining_start lock all counts p rest ps is own id first idle pair count =
    let here = subst (AreOfLock lock) is own in
    let front = later_front lock p rest here in
    record {
      own = (id ∙ front.0, first ∙ front.1);
      idle = idle;
      later = later_rest lock p rest here;
      pairs = ap (λ xs. xs ++ pairs_of rest) pair ∙ ap pairs_of (sym is);
      steps = ap (λ xs. xs ++ map (λ (q : PassSeen). q.steps) rest) count ∙ ap (map (λ (q : PassSeen). q.steps)) (sym is);
    }

pub joining_own : (lock : LockPlace BookSeen) (all other : LockSight BookSeen) (counts : List ℕ) (p : PassSeen) (rest now ps : List PassSeen) → now ≡ p ∷ rest → Joining lock all counts now ps → other.lock ≡ p.key.lock → other.first ≡ p.key.book → IsOfLock lock all × IsOfLock lock other
joining_own lock all other counts p rest now ps is h id first =
    let front = later_front lock p rest (subst (AreOfLock lock) is h.later) in (h.own, (id ∙ front.0, first ∙ front.1))

pub joining_more : (lock : LockPlace BookSeen) (all other after : LockSight BookSeen) (counts more : List ℕ) (p : PassSeen) (rest now ps : List PassSeen) → now ≡ p ∷ rest → Joining lock all counts now ps →
    after ≡ record all { pairs = all.pairs ++ other.pairs } → other.pairs ≡ (p.number, p.steps) ∷ [] → more ≡ counts ++ p.steps ∷ [] → Joining lock after more rest ps
joining_more lock all other after counts more p rest now ps is h joined pair push =
    record {
      own = (ap (λ (q : LockSight BookSeen). q.lock) joined ∙ (h.own).0, ap (λ (q : LockSight BookSeen). q.first) joined ∙ (h.own).1);
      idle = ap (λ (q : LockSight BookSeen). q.held) joined ∙ h.idle;
      later = later_rest lock p rest (subst (AreOfLock lock) is h.later);
      pairs =
          ap (λ (q : LockSight BookSeen). q.pairs ++ pairs_of rest) joined ∙ (ap (λ xs. (all.pairs ++ xs) ++ pairs_of rest) pair ∙
          (append_assoc all.pairs ((p.number, p.steps) ∷ []) (pairs_of rest) ∙ (ap (λ xs. all.pairs ++ pairs_of xs) (sym is) ∙ h.pairs)));
      steps =
          ap (λ xs. xs ++ map (λ (q : PassSeen). q.steps) rest) push ∙ (append_assoc counts (p.steps ∷ []) (map (λ (q : PassSeen). q.steps) rest) ∙
          (ap (λ xs. counts ++ map (λ (q : PassSeen). q.steps) xs) (sym is) ∙ h.steps));
    }

-- there is room for one more
pub joining_room : (lock : LockPlace BookSeen) (all : LockSight BookSeen) (counts : List ℕ) (p : PassSeen) (rest now ps : List PassSeen) (room : ℕ) → now ≡ p ∷ rest → Joining lock all counts now ps → length ps ≤ room → length counts < room
joining_room lock all counts p rest now ps room is h most =
    let e : length counts + length now ≡ length ps =
    sym (length-append counts (map (λ (q : PassSeen). q.steps) now) ∙ ap (λ n. length counts + n) (length-map now (λ (q : PassSeen). q.steps))) ∙ (ap length h.steps ∙ length-map ps (λ (q : PassSeen). q.steps)) in
    omega (arith, e, ap length is, most)

pub joining_end : (lock : LockPlace BookSeen) (all : LockSight BookSeen) (counts : List ℕ) (now ps : List PassSeen) → now ≡ [] → Joining lock all counts now ps → (all.pairs ≡ pairs_of ps) × (counts ≡ map (λ p. p.steps) ps)
joining_end lock all counts now ps none h = (
  sym (append-nil all.pairs) ∙ (ap (λ xs. all.pairs ++ pairs_of xs) (sym none) ∙ h.pairs),
  sym (append-nil counts) ∙ (ap (λ xs. counts ++ map (λ (p : PassSeen). p.steps) xs) (sym none) ∙ h.steps),
)
