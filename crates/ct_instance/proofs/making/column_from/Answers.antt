use Rattle.std.proofs.Common.{◌≡◌, ℕ, List, ◌+◌, ◌*◌, [], ◌∷◌, ◌++◌, IfOk, length, take, get_or, arith, sym, ap, ◌∙◌, subst}
use Rattle.std.proofs.lemmas.List.{take_more, take_more_set, take_all, length-set}
use Rattle.ct_instance.specs.Made.{column_of}
use Rattle.ct_instance.proofs.Entries.{length-column_of, get_or-column_of}
use Rattle.ct_instance.proofs.making.column_from.Goals as goal

pub loop-r-preserved : goal.loop-r-preserved
loop-r-preserved c =
    let r : ℕ = c.loop-r.r in
    let whole : List ℕ = column_of c.args.rows c.args.columns c.args.j c.args.entries.now in
    let value : ℕ = get_or c.args.entries.now (r * c.args.columns + c.args.j) 0 in
    let len : length whole ≡ c.args.rows = length-column_of c.args.rows c.args.columns c.args.j c.args.entries.now in
    let same : get_or whole r 0 ≡ value = get_or-column_of c.args.rows c.args.columns c.args.j c.args.entries.now r (omega arith) in
    record {
      done = take_more_set c.loop-r.column r value (omega arith) ∙ ap (λ l. l ++ value ∷ []) c.loop-r.invariant.done ∙
          ap (λ x. take r whole ++ x ∷ []) (sym same) ∙ sym (take_more whole r 0 (omega arith));
      places = length-set c.loop-r.column r value ∙ c.loop-r.invariant.places;
    }

pub returns : goal.returns
returns c =
    let whole : List ℕ = column_of c.args.rows c.args.columns c.args.j c.args.entries.now in
    let len : length whole ≡ c.args.rows = length-column_of c.args.rows c.args.columns c.args.j c.args.entries.now in
    let ended : c.loop-r.r ≡ c.args.rows = omega arith in
    let all : take c.args.rows c.loop-r.column ≡ whole =
    ap (λ n. take n c.loop-r.column) (sym ended) ∙ c.loop-r.invariant.done ∙ take_all c.loop-r.r whole (omega arith) in
    subst (λ l. IfOk c.from_slice.result (λ p. p ≡ l)) all c.from_slice.ensures
