use Rattle.std.proofs.Common.{◌≡◌, ◌-◌, ◌+◌, ◌*◌, ◌%◌, ◌≤◌, ℤ, List, suc, true, false, Ok, codes, nat_abs, sym, refl, ◌++◌, vec_len, ap, ◌∙◌, subst, arith, rules}
use Rattle.std.proofs.Math.Nat.{mul-mod_left}
use Rattle.std.proofs.lemmas.List.Elements.{All-append}
use Rattle.std.proofs.lemmas.Result.{err_from_is_err_and}
use Rattle.ct_vectors.specs.declared.limits.TheConstants.{COST_ROW_LIMIT, COST_LIMIT}
use Rattle.ct_input.specs.Sheet.{Sheet, Fails}
use Rattle.ct_input.specs.Grammar.{read, signeds, is_next, after_next}
use Rattle.ct_input.specs.InstanceText.{more_rows}
use Rattle.ct_input.proofs.Loops.{with_front, is_done, stops_at, rows_go_on, rows_step, rows_end, rows_stop, rows_over, rows_done}
use Rattle.ct_input.proofs.instance_text.later_costs.Goals as goal

pub returns-then-not-goes-clause-gives : goal.returns-then-not-goes-clause-gives
returns-then-not-goes-clause-gives c =
    let later = COST_ROW_LIMIT - 1 - (c.loop.counter + 1) in
    let k : COST_ROW_LIMIT - 1 - c.loop.counter ≡ suc later = omega arith in
    let found : c.goes.result ≡ false = search rules in
    let absent : is_next (codes "cost") c.loop.reader ≡ false = sym c.goes.ensures.found ∙ found in
    let stays : c.goes.new.self ≡ c.loop.reader = c.goes.ensures.after ∙ rw found refl in
    let now = read (more_rows (COST_ROW_LIMIT - 1 - c.loop.counter) c.args.columns) c.loop.reader in
    rw stays (is_done c.loop.costs.items c.loop.reader now (read (more_rows (COST_ROW_LIMIT - 1) c.args.columns) c.args.reader.now) (rw k (rows_end later c.args.columns c.loop.reader absent)) c.loop.invariant.reads)

pub returns-then-not-goes-clause-whole_rows : goal.returns-then-not-goes-clause-whole_rows
returns-then-not-goes-clause-whole_rows c = ap (λ n. n % c.args.columns) c.loop.invariant.count ∙ mul-mod_left c.loop.counter c.args.columns

pub returns-in_err-row-clause-gives : goal.returns-in_err-row-clause-gives
returns-in_err-row-clause-gives c =
    let p = err_from_is_err_and c.from_residual.result c.from_residual.ensures.1 in
    let later = COST_ROW_LIMIT - 1 - (c.loop.counter + 1) in
    let k : COST_ROW_LIMIT - 1 - c.loop.counter ≡ suc later = omega arith in
    let found : c.goes.result ≡ true = search rules in
    let next : is_next (codes "cost") c.loop.reader ≡ true = sym c.goes.ensures.found ∙ found in
    let moved : c.goes.new.self ≡ after_next c.loop.reader = c.goes.ensures.after ∙ rw found refl in
    let fault : Fails c.in_err-row.field-0.0 (read (signeds c.args.columns COST_LIMIT) (after_next c.loop.reader)) = subst (λ (s : Sheet). Fails c.in_err-row.field-0.0 (read (signeds c.args.columns COST_LIMIT) s)) moved c.in_err-row.ensures.gives in
    let now = read (more_rows (COST_ROW_LIMIT - 1 - c.loop.counter) c.args.columns) c.loop.reader in
    let fails : Fails c.in_err-row.field-0.0 now = rw k (rows_stop c.in_err-row.field-0.0 later c.args.columns c.loop.reader next fault) in
    rw (p.1, p.2) (stops_at c.in_err-row.field-0.0 c.loop.costs.items now (read (more_rows (COST_ROW_LIMIT - 1) c.args.columns) c.args.reader.now) fails c.loop.invariant.reads)

pub loop-preserved : goal.loop-preserved
loop-preserved c =
    let later = COST_ROW_LIMIT - 1 - (c.loop.counter + 1) in
    let k : COST_ROW_LIMIT - 1 - c.loop.counter ≡ suc later = omega arith in
    let found : c.goes.result ≡ true = search rules in
    let next : is_next (codes "cost") c.loop.reader ≡ true = sym c.goes.ensures.found ∙ found in
    let moved : c.goes.new.self ≡ after_next c.loop.reader = c.goes.ensures.after ∙ rw found refl in
    let row : List ℤ = c.in_ok-row.row.items in
    let reads : read (signeds c.args.columns COST_LIMIT) (after_next c.loop.reader) ≡ Ok (row, c.signeds.new.reader) =
    subst (λ (s : Sheet). read (signeds c.args.columns COST_LIMIT) s ≡ Ok (row, c.signeds.new.reader)) moved c.in_ok-row.ensures.gives in
    let now = read (more_rows (COST_ROW_LIMIT - 1 - c.loop.counter) c.args.columns) c.loop.reader in
    let after = read (more_rows later c.args.columns) c.signeds.new.reader in
    let step : now ≡ with_front row after = rw k (rows_step later c.args.columns row c.loop.reader c.signeds.new.reader next reads) in
    let items : c.extend_from_slice.new.self.items ≡ c.loop.costs.items ++ row = search rules in
    let long : vec_len c.extend_from_slice.new.self ≡ vec_len c.loop.costs + vec_len c.in_ok-row.row = search rules in
    let some : vec_len c.in_ok-row.row ≡ c.args.columns = c.in_ok-row.ensures.count in
    let had : vec_len c.loop.costs ≡ c.loop.counter * c.args.columns = c.loop.invariant.count in
    record {
      reads = rw items (rows_go_on c.loop.costs.items row now after (read (more_rows (COST_ROW_LIMIT - 1) c.args.columns) c.args.reader.now) step c.loop.invariant.reads);
      count = omega arith;
      limit = rw items (All-append (λ n. nat_abs n ≤ COST_LIMIT) c.loop.costs.items row c.loop.invariant.limit c.in_ok-row.ensures.limit);
    }

pub returns-in_err-barred-clause-gives : goal.returns-in_err-barred-clause-gives
returns-in_err-barred-clause-gives c =
    let p = err_from_is_err_and c.from_residual-in_err-barred.result c.from_residual-in_err-barred.ensures.1 in
    let none : COST_ROW_LIMIT - 1 - c.loop.counter ≡ 0 = omega arith in
    let now = read (more_rows (COST_ROW_LIMIT - 1 - c.loop.counter) c.args.columns) c.loop.reader in
    let fails : Fails c.in_err-barred.field-0.0 now = rw none (rows_over c.in_err-barred.field-0.0 c.args.columns c.loop.reader c.in_err-barred.ensures) in
    rw (p.1, p.2) (stops_at c.in_err-barred.field-0.0 c.loop.costs.items now (read (more_rows (COST_ROW_LIMIT - 1) c.args.columns) c.args.reader.now) fails c.loop.invariant.reads)

pub returns-clause-gives : goal.returns-clause-gives
returns-clause-gives c =
    let none : COST_ROW_LIMIT - 1 - c.loop.counter ≡ 0 = omega arith in
    let now = read (more_rows (COST_ROW_LIMIT - 1 - c.loop.counter) c.args.columns) c.loop.reader in
    is_done c.loop.costs.items c.loop.reader now (read (more_rows (COST_ROW_LIMIT - 1) c.args.columns) c.args.reader.now) (rw none (rows_done c.args.columns c.loop.reader c.in_ok-barred.ensures)) c.loop.invariant.reads
