use Rattle.std.proofs.Common.{None, Some, refl, sym, true≢false}
use Rattle.std.proofs.lemmas.Bool.{cond-true, cond-false}
use Rattle.ct_checker.specs.Refusals.{is_coprime}
use Rattle.ct_checker.specs.declared.verdicts.Reason.TheVariants.{Coprime}
use Rattle.ct_checker.proofs.Refusals.{coprime_test, coprime_false}
use Rattle.ct_checker.proofs.ledger_entries.wrong_coprime.Goals as goal

pub returns-then-coprime : goal.returns-then-coprime
returns-then-coprime c =
    sym (cond-true (is_coprime c.args.moves.now.moves c.args.job) None (Some Coprime) ((coprime_test c.args.moves.now.moves c.args.job).1 (c.if-coprime.ensures.0 refl)))

pub returns-else-coprime : goal.returns-else-coprime
returns-else-coprime c =
    sym (cond-false (is_coprime c.args.moves.now.moves c.args.job) None (Some Coprime) (coprime_false c.args.moves.now.moves c.args.job (λ k. true≢false (sym (c.if-coprime.ensures.1 k)))))
