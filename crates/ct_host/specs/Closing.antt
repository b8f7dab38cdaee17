-- What is left of a host.
use Rattle.std.specs.Prelude.{ℕ, ◌+◌, ◌<◌, ◌≡◌, Some, List, [], ◌∷◌, All, map, length}
use Rattle.count_lock.specs.Sight.{LockPlace}
use Rattle.ct_completion.specs.declared.journals.Entry.{Entry}
use Rattle.ct_completion.specs.Machine.{CompletionState}
use Rattle.ct_completion.specs.Journal.{entries_of, AreSerials, Replays}
use Rattle.ct_book.specs.Books.{BookSeen}
use Rattle.ct_book.specs.Benches.{BenchPlace}
use Rattle.ct_host.specs.Hosts.{HostKey, HostSeen, PassSeen}
use Rattle.ct_host.specs.declared.closing.Closed.{Closed}

-- the passes are of the host with this key, and have the numbers from this one on, in order
abbrev pub AreNumbered : HostKey → ℕ → List PassSeen → Type 0
AreNumbered key from [] = Unit {0}
AreNumbered key from (pass ∷ passes) = (pass.key ≡ key) × (pass.number ≡ from) × AreNumbered key (from + 1) passes

-- all passes of the host, in the order of their numbers
pub record AreAllPasses (host : HostSeen) (passes : List PassSeen) : Type 0 where
  pub numbered : AreNumbered host.key 0 passes
  pub all : length passes ≡ (host.place).passes

-- the number and the count of each pass
abbrev pub pairs_of : List PassSeen → List (ℕ × ℕ)
pairs_of passes = map (λ p. (p.number, p.steps)) passes

-- the passes are of this lock
abbrev pub AreOfLock : LockPlace BookSeen → List PassSeen → Type 0
AreOfLock lock passes = All (λ p. (p.key.lock ≡ lock.lock) × (p.key.book ≡ Some lock.first)) passes

-- the counts of the passes; of each pass the journal has as many entries, with their serials
pub record IsClosed (passes : List PassSeen) (c : Closed) : Type 0 where
  pub steps : c.steps ≡ map (λ p. p.steps) passes
  pub counts : All (λ p. entries_of p.number c.journal ≡ p.steps) passes
  pub serials : AreSerials c.journal

-- the journal of a completion of the place: each entry is of one of its passes, and from the opening on each is a step that
-- is allowed; it replays to this state
pub record IsJournalOf (p : BenchPlace) (journal : List Entry) : Type 0 where
  pub passes : All (λ e. e.pass < p.passes) journal
  pub state : CompletionState
  pub replays : Replays p.instance p.limit journal state
