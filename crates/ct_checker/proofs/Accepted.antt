-- What an accepted ledger shows: each job of its grades joins, so its moves decide each fiber up to its grade.
use Rattle.std.proofs.Common.{ℕ, ◌≤◌, ◌≡◌, List, ◌+◌, length, get_or, All, Contains, sym, subst, subst₂, ap, ap₂, ◌∙◌, arith}
use Rattle.std.proofs.lemmas.List.Elements.{All-contains, All-map, Contains-get_or}
use Rattle.ct_vectors.specs.Vectors.{total}
use Rattle.ct_vectors.proofs.Divisors.{Divides-refl}
use Rattle.ct_instance.specs.declared.jobs.Job.{Job}
use Rattle.ct_instance.specs.Instance.{Problem, IsInstance, IsRight, start_of, grade_of}
use Rattle.ct_instance.specs.Fiber.{IsInFiber, IsLeast}
use Rattle.ct_instance.specs.Answer.{outcome_of, answer_of}
use Rattle.ct_instance.specs.TestSet.{Binomial, IsTestList}
use Rattle.ct_instance.specs.Walk.{IsNormal, AreMoves, IsWalk}
use Rattle.ct_instance.specs.Jobs.{IsJob, job_degree_of, job_grade_of, first_end_of, second_end_of, IsCoprime, jobs_up_to}
use Rattle.ct_instance.proofs.Lists.{Contains-map, map_gives}
use Rattle.ct_instance.proofs.JobsList.{jobs_up_to_listed}
use Rattle.ct_instance.proofs.Fiber.{start_in_fiber, is_least_of, one_least}
use Rattle.ct_walk.specs.Laws.{HasOneNormalPoint, AreJoined, JobsAreJoined}
use Rattle.ct_walk.specs.Moves.{Follows}
use Rattle.ct_walk.proofs.Steps.{leads_down}
use Rattle.ct_walk.proofs.WalkFacts.{test_list_moves, walk_least}
use Rattle.ct_walk.proofs.Ends.{ends_in_fiber}
use Rattle.ct_walk.proofs.Followed.{follows_leads, walk_follows}
use Rattle.ct_walk.proofs.Pairs.{graded_critical_pairs}
use Rattle.ct_ledger.specs.declared.entries.LedgerEntry.{LedgerEntry}
use Rattle.ct_ledger.specs.declared.entries.LedgerEntry.TheVariants as entry
use Rattle.ct_ledger.specs.Parts.{LedgerParts, IsLedger}
use Rattle.ct_checker.specs.Accepted.{moves_of, job_of, IsLedgerMove, AreWalks, IsEntryRight, IsAccepted}
use Rattle.ct_checker.specs.Certified.{IsCertifiedEntry, IsCertified}

-- ---- an accepted ledger

module _ (i : Problem) (s : IsInstance i) (l : LedgerParts) (within : IsLedger l) (a : IsAccepted i l) where
  sizes : All (λ m. (length m.head ≡ l.columns + l.rows) × (length m.tail ≡ l.columns + l.rows)) (moves_of l)
  sizes =
      All-map (λ m. (length m.head ≡ l.columns + l.rows) × (length m.tail ≡ l.columns + l.rows)) (λ m. record { head = m.0; tail = m.1 }) l.moves
      (λ k d h. ((within.moves k d h).head.numbers, (within.moves k d h).tail.numbers))

  pub ledger_moves : AreMoves i (moves_of l)
  ledger_moves k d h = record {
    head = omega (arith, (sizes k d h).0, a.rows, a.columns);
    tail = omega (arith, (sizes k d h).1, a.rows, a.columns);
    degree = (a.moves k d h).degree;
    below = (a.moves k d h).below;
  }

  entry_joins : (j : Job) (e : LedgerEntry) → job_of e ≡ j → IsEntryRight i (moves_of l) e → (IsCoprime (moves_of l) j → ⊥) → AreJoined (moves_of l) (first_end_of i (moves_of l) j) (second_end_of i (moves_of l) j)
  entry_joins j (entry.Coprime k) e c n = absurd (n (subst (IsCoprime (moves_of l)) e c))
  entry_joins j (entry.Walks k first second) e c n =
      let w : AreWalks i (moves_of l) k first second = c.1 in
      subst (λ (x : Job). AreJoined (moves_of l) (first_end_of i (moves_of l) x) (second_end_of i (moves_of l) x)) e
      (record {
        point = w.point;
        first = follows_leads (moves_of l) (first_end_of i (moves_of l) k) w.point first w.first_steps;
        second = follows_leads (moves_of l) (second_end_of i (moves_of l) k) w.point second w.second_steps;
      })

  ledger_joins : (top : List ℕ) → JobsAreJoined i (moves_of l) l.grade top
  ledger_joins top j k w n =
      let c = map_gives job_of l.entries j (subst (λ (js : List Job). Contains js j) (sym a.jobs) (((jobs_up_to_listed i (moves_of l) l.grade).0 j).1 (k, w.grade))) in
      entry_joins j c.0 c.2 (All-contains (IsEntryRight i (moves_of l)) l.entries c.0 a.right c.1) n

  pub ledger_decides : (b : List ℕ) → IsRight i b → total b ≤ l.grade → HasOneNormalPoint i (moves_of l) b
  ledger_decides b right h =
      graded_critical_pairs i s (moves_of l) ledger_moves l.grade b (ledger_joins b) b right (record { grade = h; bound = Divides-refl b })

  pub steps_show : (b : List ℕ) → IsRight i b → total b ≤ l.grade → (steps : List (ℕ × ℕ)) (p : List ℕ) → Follows (moves_of l) (start_of i b) steps p → IsNormal (moves_of l) p →
      answer_of i b ≡ outcome_of i p
  steps_show b right h steps p f n =
      let one = ledger_decides b right h in
      let start = start_in_fiber i s b right in
      let down = leads_down i (moves_of l) ledger_moves (start_of i b) p start.point (follows_leads (moves_of l) (start_of i b) p steps f) in
      let same : p ≡ one.point = one.only p (record { point = (down.member).point; degree = (down.member).degree ∙ start.degree }) n in
      ap (outcome_of i) (sym (same ∙ is_least_of i s b one.point one.least))

-- ---- the ledger of a test list

module _ (i : Problem) (s : IsInstance i) (g : ℕ) (ms : List Binomial) (t : IsTestList i g ms) where
  walk_of_end : (b p : List ℕ) → IsInFiber i b p → total b ≤ g → (w : List (ℕ × ℕ)) (q : List ℕ) → IsWalk ms p w q → IsLeast i b q
  walk_of_end b p f l w q k =
      let small : grade_of i.columns p ≤ g = let e : grade_of i.columns p ≡ total b = ap total f.degree in omega arith in
      subst (λ (d : List ℕ). IsLeast i d q) f.degree (walk_least i s g ms t p q f.point small (record { steps = w; walk = k }))

  entry_right : (e : LedgerEntry) → IsJob i ms (job_of e) → job_grade_of i ms (job_of e) ≤ g → IsCertifiedEntry i ms e → IsEntryRight i ms e
  entry_right (entry.Coprime j) k l c = c
  entry_right (entry.Walks j first second) k l c =
      let fibers = ends_in_fiber i s ms (test_list_moves i g ms t) j k in
      let b : List ℕ = job_degree_of i ms j in
      let one : IsLeast i b (c.1).0 = walk_of_end b (first_end_of i ms j) fibers.0 l first (c.1).0 (c.1).1 in
      let other : IsLeast i b (c.2).0 = walk_of_end b (second_end_of i ms j) fibers.1 l second (c.2).0 (c.2).1 in (
        c.0,
        record {
          point = (c.1).0;
          first_steps = walk_follows ms (first_end_of i ms j) (c.1).0 first (c.1).1;
          second_steps = subst (λ (x : List ℕ). Follows ms (second_end_of i ms j) second x) (one_least i b (c.2).0 (c.1).0 other one)
              (walk_follows ms (second_end_of i ms j) (c.2).0 second (c.2).1);
        },
      )

  pub certified_accepted : (l : LedgerParts) → IsCertified i ms g l → IsAccepted i l
  certified_accepted l c = record {
    rows = c.rows;
    columns = c.columns;
    moves = subst₂ (λ (h : ℕ) (ns : List Binomial). All (IsLedgerMove i h) ns) (sym c.grade) (sym c.moves)
        (λ k d h. let m = test_list_moves i g ms t k d h in record { grade = (t.sound k d h).1; degree = m.degree; below = m.below });
    jobs = c.jobs ∙ sym (ap₂ (jobs_up_to i) c.moves c.grade);
    right = λ k d h. subst (λ (ns : List Binomial). IsEntryRight i ns (get_or l.entries k d)) (sym c.moves) (right (get_or l.entries k d) (Contains-get_or l.entries k d h) (c.entries k d h));
  }
    where
      right : (e : LedgerEntry) → Contains l.entries e → IsCertifiedEntry i ms e → IsEntryRight i ms e
      right e m k =
          let u = ((jobs_up_to_listed i ms g).0 (job_of e)).0 (subst (λ (js : List Job). Contains js (job_of e)) c.jobs (Contains-map job_of l.entries e m)) in
          entry_right e u.0 u.1 k
