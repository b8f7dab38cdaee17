use Rattle.std.proofs.Common.{◌≡◌, ◌<◌, ◌++◌, ℕ, List, [], ◌∷◌, length, drop, get_or, arith, sym, ap, ◌∙◌}
use Rattle.std.proofs.lemmas.List.{get_or-map, append-nil}
use Rattle.std.proofs.Math.ListN.{drop_of_length-le}
use Rattle.ct_instance.specs.Made.{column_of, columns_of, indices}
use Rattle.ct_instance.proofs.Entries.{length-column_of, length-columns_of, length-indices, get_or-indices}
use Rattle.ct_form.specs.EqualityForms.{over}
use Rattle.ct_form.proofs.Made.{parts_from, parts_are, length-part_at, columns_step, place_step}
use Rattle.ct_form.proofs.making.columns_with_parts.Goals as goal

pub loop-j-init : goal.loop-j-init
loop-j-init c =
    record {
      made = rw c.new-made.ensures.items
          (ap (λ k. over (columns_of c.args.rows c.args.columns c.args.entries.now) (parts_from k 0 c.args.bounds.now)) c.requires.bounds ∙
          ap (over (columns_of c.args.rows c.args.columns c.args.entries.now)) (parts_are c.args.bounds.now));
      place = omega (arith, c.requires.bounds);
    }

pub joined-requires-clause-limit : goal.joined-requires-clause-limit
joined-requires-clause-limit c =
    let a : length c.deref.result.now ≡ c.args.rows = ap length (c.deref.ensures.value ∙ c.in_ok-above.ensures) ∙ length-column_of c.args.rows c.args.columns c.loop-j.j c.args.entries.now in
    let b : length c.deref-in-loop-j.result.now ≡ c.args.bound_count = ap length (c.deref-in-loop-j.ensures.value ∙ c.in_ok-below.ensures) ∙ length-part_at _ c.args.bound_count c.loop-j.place in
    omega (arith, c.requires.most)

pub loop-j-preserved : goal.loop-j-preserved
loop-j-preserved c =
    let cs = columns_of c.args.rows c.args.columns c.args.entries.now in
    let count : length cs ≡ c.args.columns = length-columns_of c.args.rows c.args.columns c.args.entries.now in
    let in-cs : c.loop-j.j < length cs = omega arith in
    let in-us : c.loop-j.j < length c.args.bounds.now = omega (arith, c.requires.bound_for_each) in
    let in-indices : c.loop-j.j < length (indices c.args.columns) = omega (arith, length-indices c.args.columns) in
    let at : column_of c.args.rows c.args.columns c.loop-j.j c.args.entries.now ≡ get_or cs c.loop-j.j [] =
    sym (get_or-map (λ j. column_of c.args.rows c.args.columns j c.args.entries.now) (indices c.args.columns) c.loop-j.j 0 [] in-indices ∙
    ap (λ j. column_of c.args.rows c.args.columns j c.args.entries.now) (get_or-indices c.args.columns c.loop-j.j 0 (omega arith))) in
    let above : c.deref.result.now ≡ get_or cs c.loop-j.j [] = c.deref.ensures.value ∙ c.in_ok-above.ensures ∙ at in
    let below = c.deref-in-loop-j.ensures.value ∙ c.in_ok-below.ensures in
    let point : c.push.new.self.items ≡ c.loop-j.made.items ++ (c.deref.result.now ++ c.deref-in-loop-j.result.now) ∷ [] =
    c.in_ok-push.ensures.items ∙ ap (λ (p : List ℕ). c.loop-j.made.items ++ p ∷ []) c.in_ok-joined.ensures in
    record {
      made = rw (point, c.given.ensures) (columns_step c.loop-j.made.items cs c.args.bounds.now c.args.bound_count c.loop-j.place c.loop-j.j _ c.deref.result.now c.deref-in-loop-j.result.now in-cs in-us above below ∙ c.loop-j.invariant.made);
      place = rw c.given.ensures (place_step c.args.bounds.now c.args.bound_count c.loop-j.place c.loop-j.j _ in-us c.loop-j.invariant.place);
    }

pub returns : goal.returns
returns c =
    let cs = columns_of c.args.rows c.args.columns c.args.entries.now in
    let count : length cs ≡ c.args.columns = length-columns_of c.args.rows c.args.columns c.args.entries.now in
    let none : drop c.loop-j.j cs ≡ [] = drop_of_length-le cs (omega arith) in
    sym (append-nil c.loop-j.made.items) ∙
    ap (λ (xs : List (List ℕ)). c.loop-j.made.items ++ over xs (parts_from c.args.bound_count c.loop-j.place (drop c.loop-j.j c.args.bounds.now))) (sym none) ∙
    c.loop-j.invariant.made
