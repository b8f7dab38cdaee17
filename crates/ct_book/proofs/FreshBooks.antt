-- A book whose grade was just opened.
use Rattle.std.proofs.Common.{◌≡◌, ℕ, ◌+◌, ◌≤◌, false, Bool, Option, Some, None, List, [], ◌∷◌, ◌++◌, length, map, take, replicate, get_or, ⊎_elim, sym, ap, ap₂, subst, ◌∙◌, refl, arith, zero, suc}
use Rattle.std.proofs.lemmas.List.{map-append, get_or-replicate, get_or_past, length-replicate, take_more}
use Rattle.std.proofs.Math.Seq.{take-length}
use Rattle.std.proofs.lemmas.List.Sorted.{IsPermutation-refl}
use Rattle.std.proofs.lemmas.Bool.{cases_lt}
use Rattle.ct_vectors.specs.declared.limits.TheConstants.{GRADE_LIMIT, MOVE_LIMIT}
use Rattle.ct_instance.specs.declared.jobs.Job.{Job}
use Rattle.ct_instance.specs.declared.jobs.Job.TheVariants.{Generator}
use Rattle.ct_instance.specs.Instance.{Problem}
use Rattle.ct_instance.specs.Made.{indices}
use Rattle.ct_instance.specs.Versions.{version_list}
use Rattle.ct_instance.specs.Reach.{last_opened}
use Rattle.ct_jobs.specs.GradedJobs.{AreJobsOf}
use Rattle.ct_completion.specs.Machine.{CompletionState, just_opened, opened_jobs}
use Rattle.ct_completion.specs.Journal.{IsReplay, opens}
use Rattle.ct_completion.specs.Kept.{AreLevels}
use Rattle.ct_version.specs.Editions.{Edition, IsEdition, level_seen}
use Rattle.ct_book.specs.Queues.{QueueSeen, waiting_jobs}
use Rattle.ct_book.specs.Insides.{Insides, state_in, AreHeld, IsBook, fresh}

-- reading a list at all its places in order gives the list
front_places : (js : List Job) (n : ℕ) → n ≤ length js → map (λ p. get_or js p (Generator 0)) (indices n) ≡ take n js
front_places js zero l = refl
front_places js (suc n) l =
    let next : take (n + 1) js ≡ take n js ++ get_or js n (Generator 0) ∷ [] = take_more js n (Generator 0) (omega arith) in
    map-append (λ p. get_or js p (Generator 0)) (indices n) (n ∷ []) ∙
    ap (λ (ks : List Job). ks ++ get_or js n (Generator 0) ∷ []) (front_places js n (omega arith)) ∙ sym next ∙
    ap (λ (k : ℕ). take k js) (let e : n + 1 ≡ suc n = omega arith in e)

pub fresh_waiting : (js : List Job) → waiting_jobs (fresh js) ≡ js
fresh_waiting js = front_places js (length js) (omega arith) ∙ take-length js

none_stored : (n p : ℕ) (r : Option (List ℕ × List ℕ)) → get_or (replicate {A = Option (Option (List ℕ × List ℕ))} n None) p None ≡ Some r → ⊥
none_stored n p r e =
    ⊎_elim (λ l. none_is_some r (sym (get_or-replicate {A = Option (Option (List ℕ × List ℕ))} n p None None l) ∙ e))
    (λ l. none_is_some r (sym (get_or_past (replicate {A = Option (Option (List ℕ × List ℕ))} n None) p None
    (let m : length (replicate {A = Option (Option (List ℕ × List ℕ))} n None) ≤ p = omega (arith, length-replicate {A = Option (Option (List ℕ × List ℕ))} n None, l) in m)) ∙ e))
    (cases_lt p n)
  where
    none_is_some : (r : Option (List ℕ × List ℕ)) → None ≡ Some r → ⊥
    none_is_some r e = cc

fresh_held : (v : Edition) (q : QueueSeen) (js : List Job) → q ≡ fresh js → AreHeld v q
fresh_held v q js e = subst (AreHeld v) (sym e) (λ p j r at kept. absurd (none_stored (length js) p r kept))

state_with : ℕ → List Job → Bool → CompletionState
state_with n js b = record { number = n; queue = js; full = b }

pub fresh_state : (x : Insides) → x.queue ≡ fresh (opened_jobs (x.version).instance (x.version).number) → x.full ≡ false →
    state_in x ≡ just_opened (x.version).instance (x.version).number
unfolding state_with
fresh_state x q f =
    ap₂ (state_with (x.version).number) (ap waiting_jobs q ∙ fresh_waiting (opened_jobs (x.version).instance (x.version).number)) f

pub fresh_book : (x : Insides) → IsEdition x.version → last_opened (x.version).instance (x.version).number ≤ GRADE_LIMIT → x.limit ≤ MOVE_LIMIT →
    AreLevels (x.version).instance (x.version).number (map level_seen x.levels) →
    AreJobsOf (x.version).instance (version_list (x.version).instance (x.version).number) x.jobs →
    x.queue ≡ fresh (opened_jobs (x.version).instance (x.version).number) → x.full ≡ false →
    IsReplay (x.version).instance x.limit (x.log).entries (just_opened (x.version).instance (x.version).number) →
    length (x.log).entries + length (opened_jobs (x.version).instance (x.version).number) + 1 ≤ (x.log).room → IsBook x
fresh_book x edition opened limit levels buckets queue full replay room =
    let state : state_in x ≡ just_opened (x.version).instance (x.version).number = fresh_state x queue full in
    record {
      edition = edition;
      opened = opened;
      limit = limit;
      levels = levels;
      buckets = buckets;
      jobs = ap (λ (q : QueueSeen). q.jobs) queue;
      held = fresh_held x.version x.queue (opened_jobs (x.version).instance (x.version).number) queue;
      replay = subst (IsReplay (x.version).instance x.limit (x.log).entries) (sym state) replay;
      room = λ d o u. subst (λ (s : CompletionState). length (x.log).entries + length s.queue + 1 ≤ (x.log).room) (sym state) room;
    }

-- the opening is the replay of an empty journal
pub opening_replay : (i : Problem) (limit : ℕ) → IsReplay i limit [] (just_opened i 0)
opening_replay i limit = record {
  replayed = just_opened i 0;
  replays = opens;
  alike = record { number = refl; queue = IsPermutation-refl (opened_jobs i 0); full = refl };
}
