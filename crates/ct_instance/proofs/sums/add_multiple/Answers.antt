use Rattle.std.proofs.Common.{◌≡◌, ◌+◌, ◌*◌, ◌≤◌, max, length, get_or, arith}
use Rattle.ct_vectors.specs.Vectors.{add, scale, total}
use Rattle.ct_vectors.proofs.Sums.{length-add, length-scale}
use Rattle.ct_point.proofs.Places.{get_or-add, get_or-scale}
use Rattle.ct_point.proofs.InPlace.{get_or-written, IsWritten-more, IsWritten-all}
use Rattle.ct_instance.proofs.Grades.{get_or-le-total}
use Rattle.ct_instance.proofs.sums.add_multiple.Goals as goal

pub overflow_mul-degree : goal.overflow_mul-degree
overflow_mul-degree c =
    let product : get_or (scale c.args.x c.args.column.now) c.loop-i.i 0 ≡ c.args.x * get_or c.args.column.now c.loop-i.i 0 = get_or-scale c.args.x c.args.column.now c.loop-i.i in
    let sum : get_or (add (scale c.args.x c.args.column.now) c.args.degree.now) c.loop-i.i 0 ≡ get_or (scale c.args.x c.args.column.now) c.loop-i.i 0 + get_or c.args.degree.now c.loop-i.i 0 = get_or-add (scale c.args.x c.args.column.now) c.args.degree.now c.loop-i.i in
    let bound : get_or (add (scale c.args.x c.args.column.now) c.args.degree.now) c.loop-i.i 0 ≤ total (add (scale c.args.x c.args.column.now) c.args.degree.now) = get_or-le-total (add (scale c.args.x c.args.column.now) c.args.degree.now) c.loop-i.i in
    omega arith

pub overflow_add-degree : goal.overflow_add-degree
overflow_add-degree c =
    let here : get_or c.loop-i.degree c.loop-i.i 0 ≡ get_or c.args.degree.now c.loop-i.i 0 = get_or-written (add (scale c.args.x c.args.column.now) c.args.degree.now) c.args.degree.now c.loop-i.degree c.loop-i.i c.loop-i.invariant in
    let product : get_or (scale c.args.x c.args.column.now) c.loop-i.i 0 ≡ c.args.x * get_or c.args.column.now c.loop-i.i 0 = get_or-scale c.args.x c.args.column.now c.loop-i.i in
    let sum : get_or (add (scale c.args.x c.args.column.now) c.args.degree.now) c.loop-i.i 0 ≡ get_or (scale c.args.x c.args.column.now) c.loop-i.i 0 + get_or c.args.degree.now c.loop-i.i 0 = get_or-add (scale c.args.x c.args.column.now) c.args.degree.now c.loop-i.i in
    let bound : get_or (add (scale c.args.x c.args.column.now) c.args.degree.now) c.loop-i.i 0 ≤ total (add (scale c.args.x c.args.column.now) c.args.degree.now) = get_or-le-total (add (scale c.args.x c.args.column.now) c.args.degree.now) c.loop-i.i in
    omega arith

pub loop-i-preserved : goal.loop-i-preserved
loop-i-preserved c =
    let len-scale : length (scale c.args.x c.args.column.now) ≡ length c.args.column.now = length-scale c.args.x c.args.column.now in
    let len : length (add (scale c.args.x c.args.column.now) c.args.degree.now) ≡ max (length (scale c.args.x c.args.column.now)) (length c.args.degree.now) = length-add (scale c.args.x c.args.column.now) c.args.degree.now in
    let here : get_or c.loop-i.degree c.loop-i.i 0 ≡ get_or c.args.degree.now c.loop-i.i 0 = get_or-written (add (scale c.args.x c.args.column.now) c.args.degree.now) c.args.degree.now c.loop-i.degree c.loop-i.i c.loop-i.invariant in
    let product : get_or (scale c.args.x c.args.column.now) c.loop-i.i 0 ≡ c.args.x * get_or c.args.column.now c.loop-i.i 0 = get_or-scale c.args.x c.args.column.now c.loop-i.i in
    let sum : get_or (add (scale c.args.x c.args.column.now) c.args.degree.now) c.loop-i.i 0 ≡ get_or (scale c.args.x c.args.column.now) c.loop-i.i 0 + get_or c.args.degree.now c.loop-i.i 0 = get_or-add (scale c.args.x c.args.column.now) c.args.degree.now c.loop-i.i in
    let value : get_or c.loop-i.degree c.loop-i.i 0 + c.args.x * get_or c.args.column.now c.loop-i.i 0 ≡ get_or (add (scale c.args.x c.args.column.now) c.args.degree.now) c.loop-i.i 0 = omega arith in
    IsWritten-more (add (scale c.args.x c.args.column.now) c.args.degree.now) c.args.degree.now c.loop-i.degree c.loop-i.i
    (get_or c.loop-i.degree c.loop-i.i 0 + c.args.x * get_or c.args.column.now c.loop-i.i 0) (omega arith) (omega arith) (omega arith) value c.loop-i.invariant

pub returns : goal.returns
returns c =
    let len-scale : length (scale c.args.x c.args.column.now) ≡ length c.args.column.now = length-scale c.args.x c.args.column.now in
    let len : length (add (scale c.args.x c.args.column.now) c.args.degree.now) ≡ max (length (scale c.args.x c.args.column.now)) (length c.args.degree.now) = length-add (scale c.args.x c.args.column.now) c.args.degree.now in
    IsWritten-all (add (scale c.args.x c.args.column.now) c.args.degree.now) c.args.degree.now c.loop-i.degree c.loop-i.i (omega arith) (omega arith) c.loop-i.invariant
