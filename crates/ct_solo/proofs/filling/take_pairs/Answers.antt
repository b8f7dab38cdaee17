use Rattle.std.proofs.Common.{◌≡◌, ◌++◌, ℕ, List, length, sym, ap, subst, ◌∙◌, arith}
use Rattle.ct_jobs.specs.declared.graded.GradedJob.{GradedJob}
use Rattle.std.proofs.lemmas.List.{append-nil}
use Rattle.ct_jobs.proofs.Rows.{rows_all, rows_none}
use Rattle.ct_solo.specs.Agendas.{IsAgenda}
use Rattle.ct_solo.proofs.Fillings.{rows_to, one_row_more}
use Rattle.ct_solo.proofs.filling.take_pairs.Goals as goal

pub returns-then-from-len-clause-taken : goal.returns-then-from-len-clause-taken
returns-then-from-len-clause-taken c js h =
    let i = c.args.moves.now.instance in
    let ms = c.args.moves.now.moves in
    let none = rows_none i ms c.args.from (omega arith) in
    subst (λ (ks : List GradedJob). IsAgenda ms ks c.args.agenda.now) (sym (ap (λ ks. js ++ ks) none ∙ append-nil js)) h

pub loop-i-preserved : goal.loop-i-preserved
loop-i-preserved c =
    let i = c.args.moves.now.instance in
    let ms = c.args.moves.now.moves in
    let from : ℕ = c.args.from in
    let n : ℕ = length ms in
    record {
      taken = λ js h. one_row_more i ms from n c.loop-i.i js c.take_row.new.agenda (c.in_ok-take_row.ensures.taken (js ++ rows_to i ms from n c.loop-i.i) (c.loop-i.invariant.taken js h));
      opened = c.take_row.ensures.opened ∙ c.loop-i.invariant.opened;
      top = c.take_row.ensures.top ∙ c.loop-i.invariant.top;
    }

pub returns-clause-taken : goal.returns-clause-taken
returns-clause-taken c js h =
    let i = c.args.moves.now.instance in
    let ms = c.args.moves.now.moves in
    let from : ℕ = c.args.from in
    let n : ℕ = length ms in
    let e : c.loop-i.i ≡ n = omega arith in
    subst (λ (ks : List GradedJob). IsAgenda ms (js ++ ks) c.loop-i.agenda) (ap (rows_to i ms from n) e ∙ sym (rows_all i ms from)) (c.loop-i.invariant.taken js h)
