-- The passes of the opening: one for each pass of the lock.
use Rattle.std.proofs.Common.{◌≡◌, ℕ, ◌+◌, ◌≤◌, ◌<◌, Some, List, [], ◌∷◌, ◌++◌, All, length, map, get_or, zero, suc, sym, ap, ◌∙◌, refl, arith, add-one, length-append}
use Rattle.std.proofs.lemmas.List.{length_push, map-append, length-map}
use Rattle.std.proofs.lemmas.List.Elements.{All-map}
use Rattle.std.proofs.Math.Seq.{get_or-append_seam}
use Rattle.turn_cell.specs.Sight.{CellPlace, CellSight, IsOfCell}
use Rattle.count_lock.specs.Sight.{LockPlace, LockSight, fresh_passes, fresh_pass as fresh_lock_pass}
use Rattle.ct_instance.specs.Made.{indices}
use Rattle.ct_instance.proofs.Entries.{length-indices}
use Rattle.ct_completion.specs.Journal.{entries_of}
use Rattle.ct_book.specs.Books.{BookSeen, counts_of}
use Rattle.ct_host.specs.Values.{PlacedVersion}
use Rattle.ct_host.specs.Hosts.{HostSeen, PassSeen, IsOfHost, key_in, pass_in, opened_pass, fresh_pass}
use Rattle.ct_host.proofs.Counts.{length_counts, count_at}

-- they are passes of the host
pub opened_own : (host : HostSeen) (n : ℕ) → All (IsOfHost host) (map (fresh_pass host.key) (indices n))
opened_own host n = All-map (IsOfHost host) (fresh_pass host.key) (indices n) (λ k d inside. refl)

pub length_fresh : (L : LockPlace BookSeen) (from : ℕ) (cs : List ℕ) → length (fresh_passes L from cs) ≡ length cs
length_fresh L from [] = refl
length_fresh L from (c ∷ cs) = ap suc (length_fresh L (from + 1) cs)

fresh_at : (L : LockPlace BookSeen) (from : ℕ) (cs : List ℕ) (k : ℕ) (d : LockSight BookSeen) → k < length cs → get_or (fresh_passes L from cs) k d ≡ fresh_lock_pass L (from + k) (get_or cs k 0)
fresh_at L from [] k d l = absurd (omega arith)
fresh_at L from (c ∷ cs) zero d l = ap (λ n. fresh_lock_pass L n c) (let e : from ≡ from + 0 = omega arith in e)
fresh_at L from (c ∷ cs) (suc k) d l =
    fresh_at L (from + 1) cs k d (omega arith) ∙ ap (λ n. fresh_lock_pass L n (get_or cs k 0)) (let e : from + 1 + k ≡ from + suc k = omega arith in e)

-- the pass of the lock that comes next
pub next_lock_pass : (L : LockPlace BookSeen) (done rest locks : List (LockSight BookSeen)) (x : LockSight BookSeen) → locks ≡ fresh_passes L 0 (counts_of L.first) → locks ≡ done ++ x ∷ rest →
    x ≡ fresh_lock_pass L (length done) (entries_of (length done) L.first.journal)
next_lock_pass L done rest locks x made is =
    let cs = counts_of L.first in let b = L.first in let k = length done in
    let long : length locks ≡ length cs = ap length made ∙ length_fresh L 0 cs in
    let most : length cs ≡ b.passes = length_counts b in
    let within : k < length cs = omega (arith, long, ap length is, length-append done (x ∷ rest)) in
    let count : get_or cs k 0 ≡ entries_of k b.journal = count_at b k (omega (arith, within, most)) in
    sym (get_or-append_seam done x rest x) ∙ (sym (ap (λ l. get_or l k x) is) ∙ (ap (λ l. get_or l k x) made ∙ (fresh_at L 0 cs k x within ∙ ((λ i. fresh_lock_pass L ((let e : 0 + k ≡ k = omega arith in e) i) (count i))))))

-- the pass with this number of the opening
abbrev pub pass_of : CellPlace PlacedVersion → LockPlace BookSeen → ℕ → PassSeen
pass_of cell lock number = opened_pass (key_in cell lock) (lock.first.state).number lock.first.journal number

fresh_item : (cell : CellPlace PlacedVersion) (lock : LockPlace BookSeen) (pass : CellSight PlacedVersion) (sight : LockSight BookSeen) (k : ℕ) → pass.cell ≡ cell.cell → pass.first ≡ Some cell.first → pass.seen ≡ (lock.first.state).number → pass.words ≡ [] → pass.splits ≡ k + 1 →
    sight ≡ fresh_lock_pass lock k (entries_of k lock.first.journal) → pass_in pass sight ≡ pass_of cell lock k
fresh_item cell lock pass sight k a b c d e f =
    ap (pass_in pass) f ∙ (λ i. record { key = record { cell = a i; version = b i; lock = lock.lock; book = Some lock.first }; number = k; steps = entries_of k lock.first.journal; seen = c i; words = d i; splits = e i; shown = [] })

-- so many passes are made, and the first pass of the cell was split as often
pub record Dealing (cell : CellPlace PlacedVersion) (lock : LockPlace BookSeen) (first : CellSight PlacedVersion) (done : List (LockSight BookSeen)) (made : List PassSeen) : Type 0 where
  pub own : IsOfCell cell first
  pub seen : first.seen ≡ (lock.first.state).number
  pub splits : first.splits ≡ length done
  pub dealt : made ≡ map (pass_of cell lock) (indices (length done))

pub dealing_start : (cell : CellPlace PlacedVersion) (lock : LockPlace BookSeen) (first : CellSight PlacedVersion) (made : List PassSeen) → IsOfCell cell first → first.seen ≡ (lock.first.state).number → first.splits ≡ 0 → made ≡ [] → Dealing cell lock first [] made
dealing_start cell lock first made own seen splits none = record { own = own; seen = seen; splits = splits; dealt = none }

pub dealing_more : (cell : CellPlace PlacedVersion) (lock : LockPlace BookSeen) (first after given : CellSight PlacedVersion) (done rest locks : List (LockSight BookSeen)) (x : LockSight BookSeen) (made more : List PassSeen) →
    locks ≡ fresh_passes lock 0 (counts_of lock.first) → locks ≡ done ++ x ∷ rest → Dealing cell lock first done made →
    after ≡ record first { splits = first.splits + 1 } → given.cell ≡ first.cell → given.first ≡ first.first → given.seen ≡ first.seen → given.words ≡ [] → given.splits ≡ first.splits + 1 →
    more ≡ made ++ pass_in given x ∷ [] → Dealing cell lock after (done ++ x ∷ []) more
dealing_more cell lock first after given done rest locks x made more opened is d splits a b s w n push =
    let one : length (done ++ x ∷ []) ≡ length done + 1 = length_push done x in
    let item : pass_in given x ≡ pass_of cell lock (length done) =
    fresh_item cell lock given x (length done) (a ∙ (d.own).0) (b ∙ (d.own).1) (s ∙ d.seen) w (n ∙ ap (λ k. k + 1) d.splits) (next_lock_pass lock done rest locks x opened is) in
    record {
      own = (ap (λ (p : CellSight PlacedVersion). p.cell) splits ∙ (d.own).0, ap (λ (p : CellSight PlacedVersion). p.first) splits ∙ (d.own).1);
      seen = ap (λ (p : CellSight PlacedVersion). p.seen) splits ∙ d.seen;
      splits = ap (λ (p : CellSight PlacedVersion). p.splits) splits ∙ (ap (λ k. k + 1) d.splits ∙ sym one);
      dealt = push ∙ ((λ i. (d.dealt) i ++ item i ∷ []) ∙ (sym (map-append (pass_of cell lock) (indices (length done)) (length done ∷ [])) ∙ ap (λ n. map (pass_of cell lock) (indices n)) (sym (one ∙ add-one (length done)))));
    }

-- there is room for one more
pub dealing_room : (cell : CellPlace PlacedVersion) (lock : LockPlace BookSeen) (first : CellSight PlacedVersion) (done rest locks : List (LockSight BookSeen)) (x : LockSight BookSeen) (made : List PassSeen) (room : ℕ) → Dealing cell lock first done made →
    locks ≡ done ++ x ∷ rest → length locks ≤ room → length made < room
dealing_room cell lock first done rest locks x made room d is most =
    let e : length made ≡ length done = ap length d.dealt ∙ (length-map (indices (length done)) (pass_of cell lock) ∙ length-indices (length done)) in
    omega (arith, e, ap length is, length-append done (x ∷ rest))

pub dealing_end : (cell : CellPlace PlacedVersion) (lock : LockPlace BookSeen) (first : CellSight PlacedVersion) (done locks : List (LockSight BookSeen)) (made : List PassSeen) → locks ≡ fresh_passes lock 0 (counts_of lock.first) → locks ≡ done → Dealing cell lock first done made →
    made ≡ map (pass_of cell lock) (indices lock.first.passes)
dealing_end cell lock first done locks made opened is d =
    let long : length done ≡ lock.first.passes = sym (ap length is) ∙ (ap length opened ∙ (length_fresh lock 0 (counts_of lock.first) ∙ length_counts lock.first)) in
    d.dealt ∙ ap (λ n. map (pass_of cell lock) (indices n)) long
