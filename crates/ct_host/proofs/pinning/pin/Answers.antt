use Rattle.std.proofs.Common.{◌≡◌, ℕ, ◌*◌, ◌%◌, sym, ap, subst, ◌∙◌}
use Rattle.ct_version.specs.Desks.{Place, IsPin}
use Rattle.ct_vectors.specs.Words.{latest}
use Rattle.ct_book.specs.Benches.{desk_place}
use Rattle.ct_host.specs.Values.{PlacedVersion}
use Rattle.ct_host.specs.Hosts.{HostSeen}
use Rattle.ct_host.proofs.Pinned.{word_found, pass_after, gave_back}
use Rattle.ct_host.proofs.pinning.pin.Goals as goal

pub returns-in-Err-clause-one_take : goal.returns-in-Err-clause-one_take
returns-in-Err-clause-one_take c = pass_after c.pass.inside.cell c.take.new.pass c.pass.inside.lock c.args.pass.now c.in-Err.field-0.word c.pass.view_is c.in-Err.ensures.busy.1

pub returns-in-Err-clause-answer : goal.returns-in-Err-clause-answer
returns-in-Err-clause-answer c =
    let found = word_found c.pass.inside.cell c.take.new.pass c.in-Err.field-0.word c.in-Err.ensures.busy.1 in
    (found, ap (λ w. w % 2) found ∙ c.in-Err.ensures.busy.0)

pub returns-in-Ok-clause-one_take : goal.returns-in-Ok-clause-one_take
returns-in-Ok-clause-one_take c =
    let back = gave_back c.pass.inside.cell c.take.new.pass c.give.new.pass c.in-Ok.home.number c.pass.invariant.0 c.in-Ok.ensures.turn c.give.ensures.given in
    pass_after c.pass.inside.cell c.give.new.pass c.pass.inside.lock c.args.pass.now (2 * c.in-Ok.home.number) c.pass.view_is back

pub returns-in-Ok-clause-answer : goal.returns-in-Ok-clause-answer
returns-in-Ok-clause-answer c =
    let back = gave_back c.pass.inside.cell c.take.new.pass c.give.new.pass c.in-Ok.home.number c.pass.invariant.0 c.in-Ok.ensures.turn c.give.ensures.given in
    let word : latest c.give.new.pass.words ≡ 2 * c.in-Ok.home.number = word_found c.pass.inside.cell c.give.new.pass (2 * c.in-Ok.home.number) back in
    let place : c.in-Ok.home.place ≡ desk_place c.args.host.now.place = c.in-Ok.ensures.name ∙ (c.host.invariant.name ∙ ap (λ (h : HostSeen). desk_place h.place) c.host.view_is) in
    let answer = subst (λ (v : PlacedVersion). IsPin v.place c.args.held (2 * v.number) c.pinned-answer.result) c.value.ensures c.pinned-answer.ensures in
    subst (λ (x : Place × ℕ). IsPin x.0 c.args.held x.1 c.pinned-answer.result) (λ i. (place i, sym word i)) answer
