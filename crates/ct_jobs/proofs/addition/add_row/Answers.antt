use Rattle.std.proofs.Common.{ℕ, ◌≡◌, ◌≤◌, ◌<◌, ◌+◌, ◌-◌, ◌++◌, ◌∷◌, [], map, max, length, sym, ap, ap₂, ◌∙◌, arith, append_assoc}
use Rattle.std.proofs.lemmas.List.{map-append}
use Rattle.ct_instance.specs.declared.jobs.Job.TheVariants.{Pair}
use Rattle.ct_instance.specs.Instance.{Problem, grade_of}
use Rattle.ct_instance.specs.Jobs.{job_grade_of}
use Rattle.ct_jobs.specs.GradedJobs.{with_grade, row_from}
use Rattle.ct_jobs.specs.Supports.{supports_between}
use Rattle.ct_jobs.specs.Kept.{pair_of}
use Rattle.ct_jobs.proofs.Rows.{row_push, row_end}
use Rattle.ct_jobs.proofs.addition.add_row.Goals as goal

pub pair_grade-grade-requires : goal.pair_grade-grade-requires
pair_grade-grade-requires c =
    let l = c.args.moves.now in
    let n : ℕ = length l.moves in
    let e : c.saturating_sub-known.result ≡ c.args.from - 1 = omega arith in
    record {
      supports = c.requires.supports ∙ ap₂ (λ j a. supports_between j l.moves a n) (sym c.requires.instance) (sym e);
      some = c.requires.some;
      earlier = omega arith;
      new = omega arith;
      in_list = omega arith;
      own = c.grade-own.ensures ∙ ap₂ (λ (j : Problem) p. grade_of j.columns p) (sym c.requires.instance) (c.head.ensures ∙ ap (λ m. m.head) c.get.ensures.at);
    }

pub loop-k-preserved : goal.loop-k-preserved
loop-k-preserved c =
    let l = c.args.moves.now in
    let a : ℕ = c.args.i in
    let k : ℕ = c.loop-k.k in
    let i = c.args.inst.now in
    let ms = l.moves in
    let from : ℕ = c.args.from in
    let old = map pair_of c.args.pairs.now.items in
    let low : max a (from - 1) ≤ k = omega arith in
    record {
      pairs = ap (map pair_of) c.in_ok-push.ensures.items ∙ map-append pair_of c.loop-k.pairs.items (record { grade = c.pair_grade-grade.result; first = a; second = k + 1 } ∷ []) ∙
          ap₂ (λ l g. l ++ record { grade = g; job = Pair a (k + 1) } ∷ []) c.loop-k.invariant.pairs (c.pair_grade-grade.ensures ∙ ap (λ j. job_grade_of j ms (Pair a (k + 1))) c.requires.instance) ∙
          append_assoc old (map (with_grade i ms) (row_from from a k)) (with_grade i ms (Pair a (k + 1)) ∷ []) ∙
          ap (λ l. old ++ l) (sym (map-append (with_grade i ms) (row_from from a k) (Pair a (k + 1) ∷ [])) ∙ ap (map (with_grade i ms)) (sym (row_push from a k low)));
      start = λ h. absurd (let n : k < length ms = omega arith in omega arith);
    }

pub returns : goal.returns
returns c =
    let i = c.args.inst.now in
    let ms = c.args.moves.now.moves in
    let from : ℕ = c.args.from in
    let a : ℕ = c.args.i in
    let k : ℕ = c.loop-k.k in
    let low : max a (from - 1) ≤ k = omega arith in
    c.loop-k.invariant.pairs ∙
    ap (λ l. map pair_of c.args.pairs.now.items ++ map (with_grade i ms) l) (row_end from a k (length ms) low (λ h. omega arith) (omega arith) (λ h. c.loop-k.invariant.start (omega arith)))
