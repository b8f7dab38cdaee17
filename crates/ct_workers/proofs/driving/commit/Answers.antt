use Rattle.std.proofs.Common.{sym, subst}
use Rattle.ct_instance.specs.Instance.{Problem}
use Rattle.ct_book.specs.declared.outcomes.Committed.TheVariants.{Stored, Already}
use Rattle.ct_book.specs.Books.{IsCommitted, Runs}
use Rattle.ct_workers.specs.Turns.{AreOf}
use Rattle.ct_workers.proofs.Steps.{no_step, commit_runs, same_instance}
use Rattle.ct_workers.proofs.Kept.{first_is_of, others_of}
use Rattle.ct_workers.proofs.Turning.{stored_turn}
use Rattle.std.proofs.Common.{refl}
use Rattle.ct_workers.proofs.driving.commit.Goals as goal

pub commit-requires-clause-instance : goal.commit-requires-clause-instance
commit-requires-clause-instance c = first_is_of c.args.book.now.instance c.args.by c.args.kept.now c.in-Some.remainder c.requires.place c.in-Some.ensures.first

pub returns-in-None-clause-runs : goal.returns-in-None-clause-runs
returns-in-None-clause-runs c = no_step c.args.book.now c.args.book.now refl

pub returns-in-Stored-clause-turn : goal.returns-in-Stored-clause-turn
returns-in-Stored-clause-turn c =
    let is : IsCommitted c.args.book.now c.args.by c.in-Some.remainder c.commit.new.self (Stored c.in-Stored.place) = c.in-Stored.ensures.answer in
    stored_turn c.args.by c.args.book.now c.args.kept.now c.take_oldest.new.self c.in-Some.remainder c.commit.new.self c.in-Stored.place c.in-Some.ensures.first
    c.in-Some.ensures.rest (first_is_of c.args.book.now.instance c.args.by c.args.kept.now c.in-Some.remainder c.requires.place c.in-Some.ensures.first) is

pub returns-in-Stored-clause-runs : goal.returns-in-Stored-clause-runs
returns-in-Stored-clause-runs c = commit_runs c.args.book.now c.args.by c.in-Some.remainder c.commit.new.self (Stored c.in-Stored.place) c.in-Stored.ensures.answer

pub returns-in-Stored-clause-place : goal.returns-in-Stored-clause-place
returns-in-Stored-clause-place c =
    let runs : Runs c.args.book.now c.commit.new.self = commit_runs c.args.book.now c.args.by c.in-Some.remainder c.commit.new.self (Stored c.in-Stored.place) c.in-Stored.ensures.answer in
    let kept : AreOf c.args.book.now.instance c.take_oldest.new.self =
    subst (AreOf c.args.book.now.instance) (sym c.in-Some.ensures.rest) (others_of c.args.book.now.instance c.args.by c.args.kept.now c.requires.place) in
    subst (λ (i : Problem). AreOf i c.take_oldest.new.self) (sym (same_instance c.args.book.now c.commit.new.self runs)) kept

pub returns-in-Already-clause-runs : goal.returns-in-Already-clause-runs
returns-in-Already-clause-runs c = commit_runs c.args.book.now c.args.by c.in-Some.remainder c.commit.new.self (Already c.in-Already.number) c.in-Already.ensures.answer

pub returns-in-Already-clause-place : goal.returns-in-Already-clause-place
returns-in-Already-clause-place c =
    let runs : Runs c.args.book.now c.commit.new.self = commit_runs c.args.book.now c.args.by c.in-Some.remainder c.commit.new.self (Already c.in-Already.number) c.in-Already.ensures.answer in
    let kept : AreOf c.args.book.now.instance c.take_oldest.new.self =
    subst (AreOf c.args.book.now.instance) (sym c.in-Some.ensures.rest) (others_of c.args.book.now.instance c.args.by c.args.kept.now c.requires.place) in
    subst (λ (i : Problem). AreOf i c.take_oldest.new.self) (sym (same_instance c.args.book.now c.commit.new.self runs)) kept
