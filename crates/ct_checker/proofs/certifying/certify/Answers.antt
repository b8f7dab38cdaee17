use Rattle.std.proofs.Common.{◌≡◌, map, ap, ◌∙◌}
use Rattle.ct_instance.specs.TestSet.{IsTestList}
use Rattle.ct_instance.proofs.TestList.{test_lists}
use Rattle.ct_jobs.specs.declared.graded.GradedJob.{GradedJob}
use Rattle.ct_ledger.specs.Parts.{LedgerParts}
use Rattle.ct_checker.specs.Certified.{pair_of}
use Rattle.ct_checker.specs.Checking.{as_move}
use Rattle.ct_checker.proofs.Accepted.{certified_accepted}
use Rattle.ct_checker.proofs.Entries.{jobs_within}
use Rattle.ct_checker.proofs.WithinLimits.{moves_back}
use Rattle.ct_checker.proofs.certifying.certify.Goals as goal

pub put_entries-requires-clause-jobs : goal.put_entries-requires-clause-jobs
put_entries-requires-clause-jobs c =
    jobs_within c.args.inst.now c.args.moves.now.moves c.args.grade c.as_slice.result.now
    (ap (map (λ (j : GradedJob). j.job)) c.as_slice.ensures.value ∙ c.in_ok-jobs.ensures) c.requires.grade_limit

pub returns-clause-certified : goal.returns-clause-certified
returns-clause-certified c =
    let ms = c.args.moves.now.moves in
    let made = c.put_entries.new.ledger in
    let whole : made ≡ record { rows = c.rows.result; columns = c.columns.result; grade = c.args.grade; moves = map pair_of ms; entries = made.entries } =
    c.in_ok-put_entries.ensures.kept ∙
    ap (λ (l : LedgerParts). record l { entries = made.entries }) (c.in_ok-put_moves.ensures ∙ ap (λ (l : LedgerParts). record l { moves = map pair_of ms }) c.open-ledger.ensures) in
    record {
      rows = ap (λ (l : LedgerParts). l.rows) whole ∙ c.rows.ensures.rows;
      columns = ap (λ (l : LedgerParts). l.columns) whole ∙ c.columns.ensures.columns;
      grade = ap (λ (l : LedgerParts). l.grade) whole;
      moves = ap (λ (l : LedgerParts). map as_move l.moves) whole ∙ moves_back ms;
      jobs = c.in_ok-put_entries.ensures.jobs ∙ ap (map (λ (j : GradedJob). j.job)) c.as_slice.ensures.value ∙ c.in_ok-jobs.ensures;
      entries = c.in_ok-put_entries.ensures.entries;
    }

pub returns-clause-accepted : goal.returns-clause-accepted
returns-clause-accepted c =
    let i = c.args.inst.now in
    let ms = c.args.moves.now.moves in
    let test : IsTestList i c.args.grade ms = (test_lists i c.rows.ensures.instance c.args.grade ms).0 c.requires.test_list in
    certified_accepted i c.rows.ensures.instance c.args.grade ms test c.put_entries.new.ledger (returns-clause-certified c)
