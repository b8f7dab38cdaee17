-- What a call of the book behind the lock leaves that hands out or takes in several jobs.
use Rattle.std.proofs.Common.{◌≡◌, ℕ, ◌+◌, ◌<◌, Result, Ok, Err, List, [], ◌∷◌, map, length, slice_index, ap, ◌∙◌, refl, arith}
use Rattle.std.specs.Prelude.{IfOk, OnErr}
use Rattle.std.specs.declared.alloc.AllocError.{AllocError}
use Rattle.count_lock.specs.Pairs.{GrowsAt, Agree, first_number, first_count}
use Rattle.ct_version.specs.Editions.{Edition}
use Rattle.ct_version.specs.Desks.{IsOfPlace}
use Rattle.ct_book.specs.declared.outcomes.Step.{Step}
use Rattle.ct_book.specs.declared.tasks.PlacedJob.{PlacedJob}
use Rattle.ct_book.specs.declared.outcomes.Step.TheVariants.{Reduce, Published, Reached, Full}
use Rattle.ct_book.specs.Tasks.{TaskSeen, RemainderSeen, placed}
use Rattle.ct_book.specs.Books.{BookSeen, edition_of, place_of, IsRiseOf, CountsRise, counts_of, shown_by}
use Rattle.ct_book.specs.Batches.{IsBatchStep, AreTasksBeside, AreHandedOut, AreCommitted}
use Rattle.ct_book.specs.Benches.{BenchPlace, IsGiven}
use Rattle.ct_host.specs.Values.{bench_place}
use Rattle.ct_host.specs.Steps.{IsHostBatchStep, IsHostCommitAll, HasVersion}
use Rattle.ct_host.proofs.Called.{step_place, step_given, commit_place, is_own_place, rise_here, grows_here, no_rise}

handed_place : (b c : BookSeen) (g : ℕ) (ts : List TaskSeen) → AreHandedOut b g ts c → bench_place c ≡ bench_place b
handed_place b c g [] h = ap bench_place h
handed_place b c g (t ∷ ts) h = handed_place h.0 c g ts h.2 ∙ ap bench_place ((h.1).steps).kept

batch_place : (b c : BookSeen) (by g : ℕ) (ps : List PlacedJob) (s : Step) → IsBatchStep b by g ps c s → bench_place c ≡ bench_place b
batch_place b c by g ps (Reduce t) h = handed_place b c g (t ∷ map (placed t.version) ps) h
batch_place b c by g ps (Published v) h = step_place b c by g (Published v) h.1
batch_place b c by g ps (Reached r) h = step_place b c by g (Reached r) h.1
batch_place b c by g ps (Full m) h = step_place b c by g (Full m) h.1

batch_given : (b c : BookSeen) (by g : ℕ) (ps : List PlacedJob) (s : Step) → IsBatchStep b by g ps c s → IsOfPlace (place_of c) (edition_of c) → IsGiven (bench_place b) g s
batch_given b c by g ps (Reduce t) h o = ap (λ (v : Edition). v.instance) (h.1).version
batch_given b c by g ps (Published v) h o = step_given b c by g (Published v) h.1 o
batch_given b c by g ps (Reached r) h o = step_given b c by g (Reached r) h.1 o
batch_given b c by g ps (Full m) h o = step_given b c by g (Full m) h.1 o

none_with_version : (b c : BookSeen) (by g : ℕ) (ps : List PlacedJob) (s : Step) → IsBatchStep b by g ps c s → HasVersion s → ps ≡ []
none_with_version b c by g ps (Reduce t) h v = absurd v
none_with_version b c by g ps (Published w) h v = h.0
none_with_version b c by g ps (Reached r) h v = h.0
none_with_version b c by g ps (Full m) h v = h.0

-- where the version of an answer isn't shown, no job was handed out
pub none_beside_version : {X : Type 0} (p : BenchPlace) (by : ℕ) (item : List ℕ) (g : ℕ) (ps : List PlacedJob) (s : Step) (shown : Result X AllocError) →
    IsHostBatchStep p by item g ps s → OnErr shown (HasVersion s) → OnErr shown (ps ≡ [])
none_beside_version p by item g ps s (Ok x) h v = tt
none_beside_version p by item g ps s (Err e) h v = none_with_version h.book h.after by g ps s h.step v

-- what holds of the books before and after such a step, whether it was refused or not
pub record BatchStepped (b c : BookSeen) (by g : ℕ) (ps : List PlacedJob) (r : Result Step AllocError) : Type 0 where
  pub place : bench_place c ≡ bench_place b
  pub answer : IfOk r (IsHostBatchStep (bench_place b) by (shown_by b) g ps)
  pub grows : GrowsAt by (counts_of b) (counts_of c)
  pub count : IfOk r (λ s. (rise : ℕ) × IsRiseOf s rise × (slice_index (counts_of c) by ≡ slice_index (counts_of b) by + rise))
  pub refused : OnErr r (slice_index (counts_of c) by ≡ slice_index (counts_of b) by)

pub batch_stepped : (b c : BookSeen) (by g : ℕ) (ps : List PlacedJob) (r : Result Step AllocError) → by < b.passes → IfOk r (IsBatchStep b by g ps c) → IfOk r (AreTasksBeside ps) → OnErr r (c ≡ b) →
    IfOk r (λ s. (rise : ℕ) × IsRiseOf s rise × CountsRise by rise b c) → IsOfPlace (place_of c) (edition_of c) → BatchStepped b c by g ps r
batch_stepped b c by g ps (Ok s) own step beside same counts o =
    let place = batch_place b c by g ps s step in
    record {
      place = place;
      answer = record { book = b; after = c; own = own; place = is_own_place b; shown = refl; step = step; given = batch_given b c by g ps s step o; tasks = beside };
      grows = grows_here b c by counts.0 own place counts.2;
      count = (counts.0, counts.1, rise_here b c by counts.0 own place counts.2);
      refused = tt;
    }
batch_stepped b c by g ps (Err e) own step beside same counts o =
    record { place = ap bench_place same; answer = tt; grows = grows_here b c by 0 own (ap bench_place same) (no_rise b c by same); count = tt; refused = ap (λ x. slice_index (counts_of x) by) same }

pub passes_kept : (b c : BookSeen) (by g : ℕ) (ps : List PlacedJob) (r : Result Step AllocError) → IfOk r (IsBatchStep b by g ps c) → OnErr r (c ≡ b) → c.passes ≡ b.passes
passes_kept b c by g ps (Ok s) step same = ap (λ (p : BenchPlace). p.passes) (batch_place b c by g ps s step)
passes_kept b c by g ps (Err e) step same = ap (λ (x : BookSeen). x.passes) same

pub first_agrees : (counts : List ℕ) (pairs : List (ℕ × ℕ)) → Agree counts pairs → length pairs ≡ 1 → slice_index counts (first_number pairs) ≡ first_count pairs
first_agrees counts [] a e = absurd (omega (arith, e))
first_agrees counts (x ∷ xs) a e = a.0

committed_place : (b c : BookSeen) (by : ℕ) (rs : List RemainderSeen) (n : ℕ) → AreCommitted b by rs c n → bench_place c ≡ bench_place b
committed_place b c by [] n h = ap bench_place h.0
committed_place b c by (r ∷ rs) n h = commit_place h.0 c by r (h.3).0 (h.3).1 ∙ committed_place b h.0 by rs h.1 h.2

pub record BatchTaken (b c : BookSeen) (by : ℕ) (rs : List RemainderSeen) : Type 0 where
  pub place : bench_place c ≡ bench_place b
  pub grows : GrowsAt by (counts_of b) (counts_of c)
  pub committed : (rise : ℕ) × IsHostCommitAll (bench_place b) by (shown_by b) rs rise × (slice_index (counts_of c) by ≡ slice_index (counts_of b) by + rise)

pub batch_taken : (b c : BookSeen) (by : ℕ) (rs : List RemainderSeen) → by < b.passes → (rise : ℕ) × AreCommitted b by rs c rise × CountsRise by rise b c → BatchTaken b c by rs
batch_taken b c by rs own h =
    let place = committed_place b c by rs h.0 h.1 in
    record {
      place = place;
      grows = grows_here b c by h.0 own place h.2;
      committed = (h.0, record { book = b; after = c; own = own; place = is_own_place b; shown = refl; committed = h.1 }, rise_here b c by h.0 own place h.2);
    }
