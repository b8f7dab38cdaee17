use Rattle.std.proofs.Common.{◌≡◌, ◌+◌, ◌-◌, ◌∷◌, map, drop, sum_by, Ok, List, sym, arith}
use Rattle.std.proofs.lemmas.Result.{err_from_is_err_and}
use Rattle.std.proofs.lemmas.List.Sums.{sum_by_push}
use Rattle.serde_json.specs.Data.{Data}
use Rattle.serde_json.specs.View.{view}
use Rattle.ct_input.specs.Sheet.{Fails}
use Rattle.ct_json.specs.Shapes.{each}
use Rattle.ct_json.proofs.Turns.{turn_goes_on, turn_stops, turns_end, next_value, no_value}
use Rattle.ct_json.proofs.shape.each.Goals as goal

pub returns-in_err-made-clause-gives : goal.returns-in_err-made-clause-gives
returns-in_err-made-clause-gives g c =
    let p = err_from_is_err_and c.from_residual.result c.from_residual.ensures.1 in
    let shape = g.S.Shaped.shape c.args.shape.now in
    let e = c.in_err-made.field-0.0 in
    let are = next_value c.args.values.now c.loop-i.i c.index-values-i.result c.loop-i-test.true c.index-values-i.is in
    let fault = c.in_err-made.ensures.gives in
    rw (p.1, p.2) (turn_stops shape c.args.here.now e c.loop-i.found.items (c.args.index + c.loop-i.i) c.loop-i.spare (map view (drop c.loop-i.i c.args.values.now)) (map view (drop (c.loop-i.i + 1) c.args.values.now)) (view c.index-values-i.result) (each shape c.args.here.now c.args.index c.args.spare.now (map view c.args.values.now)) are (rw (← c.then-at.ensures) fault) c.loop-i.invariant.reads)

pub loop-i-preserved : goal.loop-i-preserved
loop-i-preserved g c =
    let shape = g.S.Shaped.shape c.args.shape.now in
    let are = next_value c.args.values.now c.loop-i.i c.index-values-i.result c.loop-i-test.true c.index-values-i.is in
    let gives = c.in_ok-made.ensures.gives in
    record {
      reads = rw c.in_ok-push.ensures.items (turn_goes_on shape c.args.here.now c.loop-i.found.items (c.args.index + c.loop-i.i) (c.args.index + (c.loop-i.i + 1)) c.loop-i.spare c.read.new.spare (map view (drop c.loop-i.i c.args.values.now)) (map view (drop (c.loop-i.i + 1) c.args.values.now)) (view c.index-values-i.result) c.in_ok-made.made (each shape c.args.here.now c.args.index c.args.spare.now (map view c.args.values.now)) are (rw (← c.then-at.ensures) gives) c.in_ok-made.ensures.spare (omega arith) c.loop-i.invariant.reads);
      spare = rw c.in_ok-push.ensures.items (let more = sum_by_push shape.uses c.loop-i.found.items c.in_ok-made.made in omega (arith, more, c.in_ok-made.ensures.spare, c.loop-i.invariant.spare));
    }

pub returns-clause-gives : goal.returns-clause-gives
returns-clause-gives g c =
    let shape = g.S.Shaped.shape c.args.shape.now in
    turns_end shape c.args.here.now c.loop-i.found.items (c.args.index + c.loop-i.i) c.loop-i.spare (map view (drop c.loop-i.i c.args.values.now)) (each shape c.args.here.now c.args.index c.args.spare.now (map view c.args.values.now)) (no_value c.args.values.now c.loop-i.i c.loop-i-test.false) c.loop-i.invariant.reads
