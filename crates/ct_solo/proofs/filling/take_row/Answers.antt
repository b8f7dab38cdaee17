use Rattle.std.proofs.Common.{◌≡◌, ◌+◌, ◌-◌, ◌≤◌, ◌<◌, ◌++◌, ◌∷◌, [], ℕ, List, map, max, length, get_or, refl, sym, subst, ap, ◌∙◌, arith}
use Rattle.std.proofs.lemmas.List.{append-nil}
use Rattle.ct_instance.specs.declared.jobs.Job.{Job}
use Rattle.ct_instance.specs.declared.jobs.Job.TheVariants.{Pair}
use Rattle.ct_jobs.specs.declared.graded.GradedJob.{GradedJob}
use Rattle.ct_jobs.specs.GradedJobs.{with_grade}
use Rattle.ct_jobs.proofs.Rows.{numbers_after-none, row_end}
use Rattle.ct_solo.specs.Agendas.{graded, IsAgenda}
use Rattle.ct_solo.proofs.CoprimeHeads.{length-grades, grade_at, grade_found}
use Rattle.ct_solo.proofs.Fillings.{row_to, one_pair_more}
use Rattle.ct_solo.proofs.filling.take_row.Goals as goal

pub bounds-grades-i : goal.bounds-grades-i
bounds-grades-i c =
    let n : ℕ = length c.args.moves.now.moves in
    omega (arith, ap length c.requires.grades, length-grades c.args.moves.now.instance c.args.moves.now.moves n)

pub loop-k-init : goal.loop-k-init
loop-k-init c =
    let i = c.args.moves.now.instance in
    let ms = c.args.moves.now.moves in
    let from : ℕ = c.args.from in
    let a : ℕ = c.args.i in
    let low : c.max-k.result ≤ max a (from - 1) = omega (arith, c.max-k.ensures) in
    let none : row_to i ms from a c.max-k.result ≡ [] = ap (λ l. map (with_grade i ms) (map (Pair a) l)) (numbers_after-none (max a (from - 1)) c.max-k.result low) in
    record {
      taken = λ js h. subst (λ (ks : List GradedJob). IsAgenda ms ks c.args.agenda.now) (sym (ap (λ ks. js ++ ks) none ∙ append-nil js)) h;
      start = λ h. c.max-k.ensures;
      opened = refl;
      top = refl;
    }

pub pair_grade-grade-requires-clause-own : goal.pair_grade-grade-requires-clause-own
pair_grade-grade-requires-clause-own c = grade_found c.args.moves.now c.args.grades.now c.requires.grades c.args.i c.requires.some c.requires.in_list

pub bounds-grades-k : goal.bounds-grades-k
bounds-grades-k c =
    let n : ℕ = length c.args.moves.now.moves in
    omega (arith, ap length c.requires.grades, length-grades c.args.moves.now.instance c.args.moves.now.moves n)

pub are_coprime-out-requires-clause-own : goal.are_coprime-out-requires-clause-own
are_coprime-out-requires-clause-own c = grade_found c.args.moves.now c.args.grades.now c.requires.grades c.args.i c.requires.some c.requires.in_list

pub are_coprime-out-requires-clause-later : goal.are_coprime-out-requires-clause-later
are_coprime-out-requires-clause-later c =
    let i = c.args.moves.now.instance in
    let ms = c.args.moves.now.moves in
    let k : ℕ = c.loop-k.k in
    ap (λ gs. get_or gs k 0) c.requires.grades ∙ grade_at i ms (length ms) k (omega arith)

pub loop-k-preserved : goal.loop-k-preserved
loop-k-preserved c =
    let i = c.args.moves.now.instance in
    let ms = c.args.moves.now.moves in
    let from : ℕ = c.args.from in
    let a : ℕ = c.args.i in
    let k : ℕ = c.loop-k.k in
    let low : max a (from - 1) ≤ k = omega arith in
    let new = c.take_in.new.self in
    record {
      taken = λ js h.
          one_pair_more i ms from a k js new low
          (subst (λ (g : ℕ). IsAgenda ms ((js ++ row_to i ms from a k) ++ graded g (Pair a (k + 1)) ∷ []) new) c.pair_grade-grade.ensures
          (c.in_ok-take_in.ensures.taken ms (js ++ row_to i ms from a k) c.are_coprime-out.ensures.0 (c.loop-k.invariant.taken js h)));
      start = λ h. absurd (let n : k < length ms = omega arith in omega arith);
      opened = c.take_in.ensures.opened ∙ c.loop-k.invariant.opened;
      top = c.take_in.ensures.top ∙ c.loop-k.invariant.top;
    }

pub returns-clause-taken : goal.returns-clause-taken
returns-clause-taken c js h =
    let i = c.args.moves.now.instance in
    let ms = c.args.moves.now.moves in
    let from : ℕ = c.args.from in
    let a : ℕ = c.args.i in
    let k : ℕ = c.loop-k.k in
    let low : max a (from - 1) ≤ k = omega arith in
    subst (λ (l : List Job). IsAgenda ms (js ++ map (with_grade i ms) l) c.loop-k.agenda)
    (row_end from a k (length ms) low (λ h. omega arith) (omega arith) (λ h. c.loop-k.invariant.start (omega arith))) (c.loop-k.invariant.taken js h)
