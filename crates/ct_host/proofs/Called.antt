-- What a call of the book behind the lock leaves of its counts and its place.
use Rattle.std.proofs.Common.{◌≡◌, ℕ, ◌+◌, ◌<◌, Result, Ok, Err, Some, None, List, [], ◌∷◌, ◌++◌, slice_index, suc, sym, ap, subst, ◌∙◌, refl, arith, inl, inr}
use Rattle.std.specs.Prelude.{IfOk, OnErr}
use Rattle.std.specs.declared.alloc.AllocError.{AllocError}
use Rattle.std.specs.Arc.{arc_value}
use Rattle.count_lock.specs.Pairs.{GrowsAt, first_number, first_count}
use Rattle.count_lock.specs.Sight.{LockSight}
use Rattle.ct_completion.specs.Machine.{CompletionState}
use Rattle.ct_completion.specs.Journal.{entries_of}
use Rattle.ct_version.specs.Editions.{Edition}
use Rattle.ct_version.specs.Desks.{IsOfPlace}
use Rattle.ct_book.specs.declared.outcomes.Step.{Step}
use Rattle.ct_book.specs.declared.outcomes.Step.TheVariants.{Reduce, Published, Reached, Full}
use Rattle.ct_book.specs.declared.outcomes.Committed.{Committed}
use Rattle.ct_book.specs.declared.outcomes.Committed.TheVariants.{Stored, Already}
use Rattle.ct_book.specs.Tasks.{RemainderSeen}
use Rattle.ct_book.specs.Books.{BookSeen, edition_of, place_of, IsStep, IsRiseOf, IsCommitted, CountsRise, counts_of, shown_by, rise_of}
use Rattle.ct_book.specs.Benches.{BenchPlace, IsBookOf, IsGiven}
use Rattle.ct_host.specs.Values.{bench_place}
use Rattle.ct_host.specs.Hosts.{last_shown}
use Rattle.ct_host.specs.Steps.{IsHostStep, IsHostCommit, OneLock}
use Rattle.ct_host.proofs.Counts.{count_at, counts_grow}
use Rattle.ct_host.proofs.Lists.{last_snoc}

pub step_place : (b c : BookSeen) (by g : ℕ) (s : Step) → IsStep b by g c s → bench_place c ≡ bench_place b
step_place b c by g (Reduce t) h = ap bench_place (h.steps).kept
step_place b c by g (Published v) h = ap bench_place (h.2.1).kept
step_place b c by g (Reached r) h = ap bench_place h.1
step_place b c by g (Full m) (inl h) = ap bench_place h.1
step_place b c by g (Full m) (inr h) = ap bench_place (h.2.2).kept

pub step_given : (b c : BookSeen) (by g : ℕ) (s : Step) → IsStep b by g c s → IsOfPlace (place_of c) (edition_of c) → IsGiven (bench_place b) g s
step_given b c by g (Reduce t) h o = ap (λ (v : Edition). v.instance) h.version
step_given b c by g (Published v) h o =
    let state = ((h.2.1).step).3 in
    let number : (c.state).number ≡ suc (b.state).number = ap (λ (s : CompletionState). s.number) state in
    let place : place_of c ≡ place_of b = ap place_of (h.2.1).kept in
    let edition : edition_of c ≡ arc_value v = (λ i. record { instance = (((h.2.1).kept) i).instance; number = number i }) ∙ sym h.2.0 in
    subst (IsOfPlace (place_of b)) edition (subst (λ p. IsOfPlace p (edition_of c)) place o)
step_given b c by g (Reached r) h o = (h.0).help
step_given b c by g (Full m) (inl h) o = (h.0).mark
step_given b c by g (Full m) (inr h) o = h.3

pub is_own_place : (b : BookSeen) → IsBookOf (bench_place b) b
is_own_place b = record { instance = refl; limit = refl; passes = refl }

pub rise_here : (b c : BookSeen) (by rise : ℕ) → by < b.passes → bench_place c ≡ bench_place b → CountsRise by rise b c → slice_index (counts_of c) by ≡ slice_index (counts_of b) by + rise
rise_here b c by rise within place rises =
    let passes : c.passes ≡ b.passes = ap (λ (p : BenchPlace). p.passes) place in
    count_at c by (omega (arith, within, passes)) ∙ (rises.0 ∙ ap (λ n. n + rise) (sym (count_at b by within)))

pub grows_here : (b c : BookSeen) (by rise : ℕ) → by < b.passes → bench_place c ≡ bench_place b → CountsRise by rise b c → GrowsAt by (counts_of b) (counts_of c)
grows_here b c by rise within place rises = counts_grow b c by rise within (ap (λ (p : BenchPlace). p.passes) place) rises

pub no_rise : (b c : BookSeen) (by : ℕ) → c ≡ b → CountsRise by 0 b c
no_rise b c by same =
    (ap (λ (x : BookSeen). entries_of by x.journal) same ∙ (let e : entries_of by b.journal ≡ entries_of by b.journal + 0 = omega arith in e), λ pass ne. ap (λ (x : BookSeen). entries_of pass x.journal) same)

-- what holds of the books before and after a step, whether it was refused or not
pub record Stepped (b c : BookSeen) (by g : ℕ) (r : Result Step AllocError) : Type 0 where
  pub place : bench_place c ≡ bench_place b
  pub answer : IfOk r (IsHostStep (bench_place b) by (shown_by b) g)
  pub grows : GrowsAt by (counts_of b) (counts_of c)
  pub count : IfOk r (λ s. (rise : ℕ) × IsRiseOf s rise × (slice_index (counts_of c) by ≡ slice_index (counts_of b) by + rise))
  pub refused : OnErr r (slice_index (counts_of c) by ≡ slice_index (counts_of b) by)

pub stepped : (b c : BookSeen) (by g : ℕ) (r : Result Step AllocError) → by < b.passes → IfOk r (IsStep b by g c) → OnErr r (c ≡ b) → IfOk r (λ s. (rise : ℕ) × IsRiseOf s rise × CountsRise by rise b c) →
    IsOfPlace (place_of c) (edition_of c) → Stepped b c by g r
stepped b c by g (Ok s) own step same counts o =
    let place = step_place b c by g s step in
    record {
      place = place;
      answer = record { book = b; after = c; own = own; place = is_own_place b; shown = refl; step = step; given = step_given b c by g s step o };
      grows = grows_here b c by counts.0 own place counts.2;
      count = (counts.0, counts.1, rise_here b c by counts.0 own place counts.2);
      refused = tt;
    }
stepped b c by g (Err e) own step same counts o =
    record { place = ap bench_place same; answer = tt; grows = grows_here b c by 0 own (ap bench_place same) (no_rise b c by same); count = tt; refused = ap (λ x. slice_index (counts_of x) by) same }

pub commit_place : (b c : BookSeen) (by : ℕ) (r : RemainderSeen) (done : Committed) → IsCommitted b by r c done → bench_place c ≡ bench_place b
commit_place b c by r (Stored place) h = ap bench_place (h.2).kept
commit_place b c by r (Already number) h = ap bench_place h.1

pub record Taken (b c : BookSeen) (by : ℕ) (r : RemainderSeen) (done : Committed) : Type 0 where
  pub place : bench_place c ≡ bench_place b
  pub answer : IsHostCommit (bench_place b) by (shown_by b) r done
  pub grows : GrowsAt by (counts_of b) (counts_of c)
  pub count : slice_index (counts_of c) by ≡ slice_index (counts_of b) by + rise_of done

pub taken : (b c : BookSeen) (by : ℕ) (r : RemainderSeen) (done : Committed) → by < b.passes → IsCommitted b by r c done → entries_of by c.journal ≡ entries_of by b.journal + rise_of done →
    ((pass : ℕ) → (pass ≡ by → ⊥) → entries_of pass c.journal ≡ entries_of pass b.journal) → Taken b c by r done
taken b c by r done own h rise others =
    let place = commit_place b c by r done h in
    record {
      place = place;
      answer = record { book = b; after = c; own = own; place = is_own_place b; shown = refl; commit = h };
      grows = grows_here b c by (rise_of done) own place (rise, others);
      count = rise_here b c by (rise_of done) own place (rise, others);
    }

-- a pass of the lock that had it once, by what `lock` and `unlock` say
abbrev pub after_lock : LockSight BookSeen → ℕ → List ℕ → LockSight BookSeen
after_lock old count item = record old { pairs = (first_number old.pairs, count) ∷ []; shown = old.shown ++ item ∷ [] }

pub had_lock : (old mid new : LockSight BookSeen) (item counts after : List ℕ) → mid ≡ record old { shown = old.shown ++ item ∷ []; held = Some counts } →
    new ≡ record mid { pairs = (first_number mid.pairs, slice_index after (first_number mid.pairs)) ∷ []; held = None } → old.held ≡ None → new ≡ after_lock old (slice_index after (first_number old.pairs)) item
had_lock old mid new item counts after got gave idle =
    gave ∙ (ap (λ (m : LockSight BookSeen). record m { pairs = (first_number m.pairs, slice_index after (first_number m.pairs)) ∷ []; held = None }) got ∙
    (λ i. record old { pairs = (first_number old.pairs, slice_index after (first_number old.pairs)) ∷ []; shown = old.shown ++ item ∷ []; held = sym idle i }))

pub item_shown : (old new : LockSight BookSeen) (count : ℕ) (item : List ℕ) → new ≡ after_lock old count item → last_shown new.shown ≡ item
item_shown old new count item is = ap (λ (p : LockSight BookSeen). last_shown p.shown) is ∙ last_snoc old.shown item

pub one_lock : (old new : LockSight BookSeen) (count : ℕ) (item : List ℕ) → new ≡ after_lock old count item → OneLock old new
one_lock old new count item is = is ∙ (λ i. after_lock old (sym (ap (λ (p : LockSight BookSeen). first_count p.pairs) is) i) (sym (item_shown old new count item is) i))

-- the count of a pass fits where the number of its entries does
pub fits_here : (c : BookSeen) (by entries most : ℕ) → by < c.passes → entries ≡ entries_of by c.journal → entries < most → slice_index (counts_of c) by < most
fits_here c by entries most own is fits = omega (arith, count_at c by own, is, fits)
