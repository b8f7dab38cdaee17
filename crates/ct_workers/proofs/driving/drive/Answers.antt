use Rattle.std.proofs.lemmas.List.Elements.{All-nil}
use Rattle.std.proofs.Common.{◌≡◌, refl, ◌<◌, List, ◌+◌, length, take, sym, subst, arith}
use Rattle.ct_book.proofs.RunsOn.{run_none, run_join}
use Rattle.ct_workers.specs.declared.turns.Turned.{Turned}
use Rattle.ct_workers.specs.Turns.{Pending, AreOf, AreTurns}
use Rattle.ct_workers.proofs.Steps.{number_rises}
use Rattle.ct_workers.proofs.Turning.{driven, turns_next}
use Rattle.std.proofs.Common.{[]}
use Rattle.ct_workers.proofs.driving.drive.Goals as goal

pub returns-in_err-done-clause-runs : goal.returns-in_err-done-clause-runs
returns-in_err-done-clause-runs c = run_join c.args.book.now c.loop-turn.book c.done.new.book c.loop-turn.invariant.runs c.done.ensures.runs

pub returns-in_err-done-clause-number : goal.returns-in_err-done-clause-number
returns-in_err-done-clause-number c = number_rises c.args.book.now c.done.new.book (run_join c.args.book.now c.loop-turn.book c.done.new.book c.loop-turn.invariant.runs c.done.ensures.runs)

pub returns-in_err-push-clause-runs : goal.returns-in_err-push-clause-runs
returns-in_err-push-clause-runs c = run_join c.args.book.now c.loop-turn.book c.done.new.book c.loop-turn.invariant.runs c.done.ensures.runs

pub returns-in_err-push-clause-number : goal.returns-in_err-push-clause-number
returns-in_err-push-clause-number c = number_rises c.args.book.now c.done.new.book (run_join c.args.book.now c.loop-turn.book c.done.new.book c.loop-turn.invariant.runs c.done.ensures.runs)

pub returns-clause-number : goal.returns-clause-number
returns-clause-number c = number_rises c.args.book.now c.loop-turn.book c.loop-turn.invariant.runs

pub loop-turn-init : goal.loop-turn-init
loop-turn-init c = record {
  turns = rw (c.new-answers.ensures.items, c.new-kept.ensures) refl;
  runs = run_none c.args.book.now;
  place = subst (AreOf c.args.book.now.instance) (sym c.new-kept.ensures) (All-nil (λ (k : Pending). k.version.instance ≡ c.args.book.now.instance));
}

pub loop-turn-preserved : goal.loop-turn-preserved
loop-turn-preserved c =
    let inside : c.loop-turn.turn-index < length c.args.turns.now = omega arith in
    record {
      turns = subst (λ (answers : List Turned). AreTurns c.args.target (driven c.args.book.now []) (take (c.loop-turn.turn-index + 1) c.args.turns.now) answers (driven c.done.new.book c.done.new.kept))
          (sym c.in_ok-push.ensures.items)
          (turns_next c.args.target (driven c.args.book.now []) (driven c.loop-turn.book c.loop-turn.kept) (driven c.done.new.book c.done.new.kept) c.args.turns.now c.loop-turn.turn-index
          c.loop-turn.answers.items _ c.in_ok-done.field-0 inside c.loop-turn.invariant.turns c.in_ok-done.ensures.turn);
      runs = run_join c.args.book.now c.loop-turn.book c.done.new.book c.loop-turn.invariant.runs c.done.ensures.runs;
      place = c.done.ensures.place;
    }
