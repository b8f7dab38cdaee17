use Rattle.std.proofs.Common.{◌≡◌, ◌++◌, ◌∷◌, [], List, ℕ, length, map, arith, ap, ap₂, ◌∙◌, ◌-◌, rules}
use Rattle.ct_vectors.specs.Vectors.{zeros, unit}
use Rattle.ct_vectors.proofs.Sums.{length-zeros, length-unit}
use Rattle.ct_form.proofs.Made.{units_from, units_are, units_step}
use Rattle.ct_form.proofs.making.push_bound_slacks.Goals as goal

pub loop-place-init : goal.loop-place-init
loop-place-init c =
    let all : c.args.bound_count - 0 ≡ c.args.bound_count = omega arith in
    ap (λ (cs : List (List ℕ)). c.args.made.now.items ++ map (λ c'. zeros c.args.rows ++ c') cs)
    (ap (units_from c.args.bound_count 0) all ∙ units_are c.args.bound_count)

pub joined-requires-clause-limit : goal.joined-requires-clause-limit
joined-requires-clause-limit c =
    let none : c.in_ok-above.above.items ≡ zeros c.args.rows = search rules in
    let a : length c.deref.result.now ≡ c.args.rows = ap length (c.deref.ensures.value ∙ none) ∙ length-zeros c.args.rows in
    let b : length c.deref-in-loop-place.result.now ≡ c.args.bound_count = ap length (c.deref-in-loop-place.ensures.value ∙ c.in_ok-below.ensures) ∙ length-unit c.args.bound_count c.loop-place.place in
    omega (arith, c.requires.limit)

pub loop-place-preserved : goal.loop-place-preserved
loop-place-preserved c =
    let none : c.in_ok-above.above.items ≡ zeros c.args.rows = search rules in
    let above : c.deref.result.now ≡ zeros c.args.rows = c.deref.ensures.value ∙ none in
    let below : c.deref-in-loop-place.result.now ≡ unit c.args.bound_count c.loop-place.place = c.deref-in-loop-place.ensures.value ∙ c.in_ok-below.ensures in
    let point : c.push.new.self.items ≡ c.loop-place.made.items ++ (zeros c.args.rows ++ unit c.args.bound_count c.loop-place.place) ∷ [] =
    c.in_ok-push.ensures.items ∙ ap (λ (p : List ℕ). c.loop-place.made.items ++ p ∷ []) (c.in_ok-joined.ensures ∙ ap₂ ◌++◌ above below) in
    rw point (units_step c.loop-place.made.items (λ c'. zeros c.args.rows ++ c') c.args.bound_count c.loop-place.place (omega arith) ∙ c.loop-place.invariant)
