use Rattle.std.proofs.Common.{◌≡◌, ◌-◌, ◌<◌, sym, subst, refl, arith}
use Rattle.ct_version.specs.Desks.{IsOfPlace}
use Rattle.ct_book.specs.declared.outcomes.Published.TheVariants.{Full, New}
use Rattle.ct_book.specs.Books.{place_of, IsReached, IsMarked, IsPublished, Runs}
use Rattle.ct_book.proofs.RunsOn.{run_none, run_join, completed, marked_at, published_under_way, number_below, stopped_at}
use Rattle.ct_book.proofs.completing.complete.Goals as goal

pub loop-helped-init : goal.loop-helped-init
loop-helped-init c = record { runs = run_none c.args.book.now; unchanged = λ h. refl; first = λ j low below covers. omega arith }

pub returns-in-Err : goal.returns-in-Err
returns-in-Err c = run_join c.args.book.now c.loop-helped.book c.resolve_all.new.book c.loop-helped.invariant.runs c.resolve_all.ensures.runs

pub returns-in-Ok-Reached : goal.returns-in-Ok-Reached
returns-in-Ok-Reached c =
    let reached : IsReached c.resolve_all.new.book c.args.target c.in-Ok-Reached.helped = rw c.in-Ok-Reached.field-0-is at c.in-Ok-Reached.ensures.settled in
    completed c.args.book.now c.loop-helped.book c.resolve_all.new.book c.args.target c.in-Ok-Reached.helped c.loop-helped.invariant
    c.resolve_all.ensures.runs c.resolve_all.ensures.number c.resolve_all.ensures.unchanged reached

pub returns-in-Ok-Full : goal.returns-in-Ok-Full
returns-in-Ok-Full c =
    let marked : IsMarked c.resolve_all.new.book c.args.target c.in-Ok-Full.mark = rw c.in-Ok-Full.field-0-is at c.in-Ok-Full.ensures.settled in
    marked_at c.args.book.now c.loop-helped.book c.resolve_all.new.book c.args.target c.in-Ok-Full.mark c.loop-helped.invariant c.resolve_all.ensures.runs marked

pub returns-in-Err-publish : goal.returns-in-Err-publish
returns-in-Err-publish c =
    subst (Runs c.args.book.now) (sym c.in-Err-publish.ensures.refused)
    (run_join c.args.book.now c.loop-helped.book c.resolve_all.new.book c.loop-helped.invariant.runs c.resolve_all.ensures.runs)

pub returns-in-Ok-Full-publish : goal.returns-in-Ok-Full-publish
returns-in-Ok-Full-publish c =
    let settled = rw c.in-Ok-Publish.field-0-is at c.in-Ok-Publish.ensures.settled in
    let published : IsPublished c.resolve_all.new.book c.args.by c.publish.new.self (Full c.in-Ok-Full-publish.mark) =
    rw c.in-Ok-Full-publish.field-0-is at c.in-Ok-Full-publish.ensures.answer in
    stopped_at c.args.book.now c.loop-helped.book c.resolve_all.new.book c.publish.new.self c.args.by c.args.target c.in-Ok-Full-publish.mark c.loop-helped.invariant
    c.resolve_all.ensures.runs c.resolve_all.ensures.number settled.0 c.version-version.ensures.edition
    (subst (IsOfPlace (place_of c.loop-helped.book)) c.version-version.ensures.version c.version-version.ensures.place) published

pub loop-helped-smaller-in-Ok-New : goal.loop-helped-smaller-in-Ok-New
loop-helped-smaller-in-Ok-New c =
    let settled = rw c.in-Ok-Publish.field-0-is at c.in-Ok-Publish.ensures.settled in
    let published : IsPublished c.resolve_all.new.book c.args.by c.publish.new.self (New c.in-Ok-New.field-0-0) = rw c.in-Ok-New.field-0-is at c.in-Ok-New.ensures.answer in
    let next = published_under_way c.args.book.now c.loop-helped.book c.resolve_all.new.book c.publish.new.self c.args.by c.args.target c.loop-helped.invariant
    c.resolve_all.ensures.runs c.resolve_all.ensures.number c.resolve_all.ensures.unchanged settled.0 published.1 in
    let below : c.resolve_all.new.book.state.number < c.args.target = number_below c.resolve_all.new.book c.args.target settled.0 in
    let same : c.resolve_all.new.book.state.number ≡ c.loop-helped.book.state.number = c.resolve_all.ensures.number in
    let smaller : c.args.target - c.publish.new.self.state.number < c.args.target - c.loop-helped.book.state.number = omega (arith, below, same, next.1) in
    smaller

pub loop-helped-preserved-in-Ok-New : goal.loop-helped-preserved-in-Ok-New
loop-helped-preserved-in-Ok-New c =
    let settled = rw c.in-Ok-Publish.field-0-is at c.in-Ok-Publish.ensures.settled in
    let published : IsPublished c.resolve_all.new.book c.args.by c.publish.new.self (New c.in-Ok-New.field-0-0) = rw c.in-Ok-New.field-0-is at c.in-Ok-New.ensures.answer in
    (published_under_way c.args.book.now c.loop-helped.book c.resolve_all.new.book c.publish.new.self c.args.by c.args.target c.loop-helped.invariant
    c.resolve_all.ensures.runs c.resolve_all.ensures.number c.resolve_all.ensures.unchanged settled.0 published.1).0
