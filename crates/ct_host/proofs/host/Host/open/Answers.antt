use Rattle.std.proofs.Common.{◌≡◌, map, subst}
use Rattle.std.proofs.lemmas.Result.{IfOk-weaker}
use Rattle.ct_instance.specs.Made.{indices}
use Rattle.ct_book.specs.Books.{BookSeen}
use Rattle.ct_host.specs.Hosts.{opened_pass, fresh_pass}
use Rattle.ct_host.proofs.host.Host.open.Goals as goal

pub returns-clause-passes : goal.returns-clause-passes
returns-clause-passes c =
    IfOk-weaker c.of_book.result (λ r. r.1.items ≡ map (opened_pass r.0.key c.in_ok-book.book.state.number c.in_ok-book.book.journal) (indices c.args.passes))
    (λ r. r.1.items ≡ map (fresh_pass r.0.key) (indices c.args.passes))
    (λ r e. subst (λ (b : BookSeen). r.1.items ≡ map (opened_pass r.0.key b.state.number b.journal) (indices c.args.passes)) c.in_ok-book.ensures e) c.of_book.ensures.passes
