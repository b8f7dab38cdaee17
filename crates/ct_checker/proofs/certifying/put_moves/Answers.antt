use Rattle.std.proofs.Common.{ℕ, ◌≡◌, ◌+◌, ◌++◌, ◌∷◌, [], List, map, take, sym, subst, subst₂, ap, ap₂, ◌∙◌, arith}
use Rattle.ct_instance.specs.Instance.{column_count}
use Rattle.ct_ledger.specs.Parts.{LedgerParts, IsLedgerPoint}
use Rattle.ct_checker.specs.Certified.{pair_of}
use Rattle.ct_checker.proofs.WithinLimits.{small_head, small_tail, pairs_more}
use Rattle.ct_checker.proofs.certifying.put_moves.Goals as goal

pub push_move-requires-clause-head : goal.push_move-requires-clause-head
push_move-requires-clause-head c =
    let i = c.args.moves.now.instance in
    let columns : c.loop-k.ledger.columns ≡ column_count i = ap (λ (l : LedgerParts). l.columns) c.loop-k.invariant ∙ c.requires.columns in
    let rows : c.loop-k.ledger.rows ≡ i.rows = ap (λ (l : LedgerParts). l.rows) c.loop-k.invariant ∙ c.requires.rows in
    subst₂ (λ n m. IsLedgerPoint n m c.in_ok-copy.field-0) (sym columns) (sym rows)
    (subst (IsLedgerPoint (column_count i) i.rows) (sym (c.in_ok-copy.ensures ∙ c.head.ensures))
    (small_head i (c.instance-inst.ensures.checked).instance c.get-mv.result.now c.get-mv.ensures.of_instance))

pub push_move-requires-clause-tail : goal.push_move-requires-clause-tail
push_move-requires-clause-tail c =
    let i = c.args.moves.now.instance in
    let columns : c.loop-k.ledger.columns ≡ column_count i = ap (λ (l : LedgerParts). l.columns) c.loop-k.invariant ∙ c.requires.columns in
    let rows : c.loop-k.ledger.rows ≡ i.rows = ap (λ (l : LedgerParts). l.rows) c.loop-k.invariant ∙ c.requires.rows in
    subst₂ (λ n m. IsLedgerPoint n m c.in_ok-copy-2.field-0) (sym columns) (sym rows)
    (subst (IsLedgerPoint (column_count i) i.rows) (sym (c.in_ok-copy-2.ensures ∙ c.tail.ensures))
    (small_tail i (c.instance-inst.ensures.checked).instance c.get-mv.result.now c.get-mv.ensures.of_instance))

pub loop-k-preserved : goal.loop-k-preserved
loop-k-preserved c =
    let ms = c.args.moves.now.moves in
    let k : ℕ = c.loop-k.k in
    let head : c.in_ok-copy.field-0 ≡ c.get-mv.result.now.head = c.in_ok-copy.ensures ∙ c.head.ensures in
    let tail : c.in_ok-copy-2.field-0 ≡ c.get-mv.result.now.tail = c.in_ok-copy-2.ensures ∙ c.tail.ensures in
    let put : c.loop-k.ledger.moves ++ (c.in_ok-copy.field-0, c.in_ok-copy-2.field-0) ∷ [] ≡ map pair_of (take (k + 1) ms) =
    ap₂ (λ (l : List (List ℕ × List ℕ)) (p : List ℕ × List ℕ). l ++ p ∷ []) (ap (λ (l : LedgerParts). l.moves) c.loop-k.invariant) (ap₂ (λ (h t : List ℕ). (h, t)) head tail) ∙
    pairs_more ms k c.get-mv.result.now (omega (arith, c.loop-k-test.true, c.len-k-end.ensures.count)) c.get-mv.ensures.at in
    c.in_ok-push_move.ensures.ok ∙ ap₂ (λ (l : LedgerParts) (ps : List (List ℕ × List ℕ)). record l { moves = ps }) c.loop-k.invariant put
