use Rattle.std.proofs.Common.{ℕ, ◌≡◌, ◌<◌, List, [], ◌∷◌, ◌++◌, All, length, replicate, sym, ◌∙◌, subst, ap, arith, refl, bit_and}
use Rattle.std.proofs.lemmas.List.{nil_from_length, length-replicate}
use Rattle.ct_index.specs.declared.bits.HeadBits.{HeadBits}
use Rattle.ct_index.specs.Table.{row_count, IsBlock, AreMarked, IsDecided}
use Rattle.ct_index.specs.Bits.{IsIndex}
use Rattle.ct_index.proofs.Additions.{on_err, block_same, block_open, width_from, block_more}
use Rattle.ct_index.proofs.bits.HeadBits.add.Goals as goal
use Rattle.ct_index.proofs.bits.HeadBits.add.Goals.{then-index-eq0+in_ok-open, else-index-eq0}

pub returns-in_err-open-clause-err : goal.returns-in_err-open-clause-err
returns-in_err-open-clause-err c =
    on_err c.from_residual.result (λ heads count widths b.
    block_same heads c.args.self.now.rows.items c.open.new.self.rows.items c.args.self.now.supports.items c.open.new.self.supports.items
    c.args.self.now.decided c.open.new.self.decided c.args.self.now.shared c.open.new.self.shared
    (ap (λ v. v.items) c.in_err-open.ensures.err) (ap (λ v. v.items) c.open.ensures.supports) c.open.ensures.decided c.open.ensures.shared b)

-- the index with a table of the head's width
record Opened (heads : List (List ℕ)) (head : List ℕ) (old new : HeadBits) : Type 0 where
  index : IsIndex heads new
  width : length new.rows.items ≡ row_count (length head)

with_table : (heads : List (List ℕ)) (head : List ℕ) (old new : HeadBits) → length heads ≡ 0 → new.rows.items ≡ replicate (row_count (length head)) 0 → new.supports ≡ old.supports → new.decided ≡ old.decided →
    new.shared ≡ old.shared → IsIndex heads old → Opened heads head old new
with_table heads head old new none rows supports decided shared b = record {
  index =
      let empty : heads ≡ [] = nil_from_length heads none in
      let blank : IsBlock [] (replicate (row_count (length head)) 0) old.supports.items old.decided old.shared =
      block_open (length head) old.rows.items old.supports.items old.decided old.shared (subst (λ h. IsIndex h old) empty b) in
      block_same heads (replicate (row_count (length head)) 0) new.rows.items old.supports.items new.supports.items old.decided new.decided old.shared new.shared
      rows (ap (λ v. v.items) supports) decided shared
      (subst (λ h. IsBlock h (replicate (row_count (length head)) 0) old.supports.items old.decided old.shared) (sym empty) blank);
  width = ap length rows ∙ length-replicate (row_count (length head)) 0;
}

with_heads : (heads : List (List ℕ)) (head : List ℕ) (old new : HeadBits) → 0 < length heads → All (λ h. length h ≡ length head) heads → new ≡ old → IsIndex heads old → Opened heads head old new
with_heads heads head old new some widths same b =
    let there : IsIndex heads new = subst (IsIndex heads) (sym same) b in
    record { index = there; width = width_from heads head new.rows.items new.supports.items new.decided new.shared some widths there }

pub returns-in_err-keep-clause-err : goal.returns-in_err-keep-clause-err
returns-in_err-keep-clause-err c =
    on_err c.from_residual-in_err-keep.result (λ heads count widths b.
    let opened : Opened heads c.args.head.now c.args.self.now c.if-index-eq0.self =
    elim c.if-index-eq0.branch [
      | then-index-eq0+in_ok-open w ↦ subst (Opened heads c.args.head.now c.args.self.now) (sym w.self-is)
          (with_table heads c.args.head.now c.args.self.now w.open.new.self (omega (arith, count)) w.in_ok-open.ensures.ok w.open.ensures.supports w.open.ensures.decided w.open.ensures.shared b)
      | else-index-eq0 w ↦ with_heads heads c.args.head.now c.args.self.now c.if-index-eq0.self (omega (arith, count)) widths w.self-is b
    ] in
    block_same heads c.if-index-eq0.self.rows.items c.keep.new.self.rows.items c.if-index-eq0.self.supports.items c.keep.new.self.supports.items
    c.if-index-eq0.self.decided c.keep.new.self.decided c.if-index-eq0.self.shared c.keep.new.self.shared
    (ap (λ v. v.items) c.keep.ensures.rows) c.in_err-keep.ensures.err c.keep.ensures.decided c.keep.ensures.shared opened.index)

pub returns-clause-ok : goal.returns-clause-ok
returns-clause-ok c heads count widths b =
    let opened : Opened heads c.args.head.now c.args.self.now c.if-index-eq0.self =
    elim c.if-index-eq0.branch [
      | then-index-eq0+in_ok-open w ↦ subst (Opened heads c.args.head.now c.args.self.now) (sym w.self-is)
          (with_table heads c.args.head.now c.args.self.now w.open.new.self (omega (arith, count)) w.in_ok-open.ensures.ok w.open.ensures.supports w.open.ensures.decided w.open.ensures.shared b)
      | else-index-eq0 w ↦ with_heads heads c.args.head.now c.args.self.now c.if-index-eq0.self (omega (arith, count)) widths w.self-is b
    ] in
    let rows : c.keep.new.self.rows.items ≡ c.if-index-eq0.self.rows.items = ap (λ v. v.items) c.keep.ensures.rows in
    let marked : AreMarked c.if-index-eq0.self.rows.items c.enter.new.self.rows.items c.args.head.now (length heads) =
    subst (λ (n : ℕ). AreMarked c.if-index-eq0.self.rows.items c.enter.new.self.rows.items c.args.head.now n) (sym count)
    (subst (λ (r : List ℕ). AreMarked r c.enter.new.self.rows.items c.args.head.now c.args.index) rows c.enter.ensures.rows) in
    let decided : IsDecided c.if-index-eq0.self.decided c.enter.new.self.decided c.args.head.now (length heads) =
    subst (λ (n : ℕ). IsDecided c.if-index-eq0.self.decided c.enter.new.self.decided c.args.head.now n) (sym count)
    (subst (λ (r : ℕ). IsDecided r c.enter.new.self.decided c.args.head.now c.args.index) c.keep.ensures.decided c.enter.ensures.decided) in
    block_same (heads ++ c.args.head.now ∷ []) c.enter.new.self.rows.items c.enter.new.self.rows.items (c.if-index-eq0.self.supports.items ++ c.support_of-support.result ∷ []) c.enter.new.self.supports.items
    c.enter.new.self.decided c.enter.new.self.decided (bit_and c.if-index-eq0.self.shared c.support_of-support.result) c.enter.new.self.shared
    refl (c.enter.ensures.supports ∙ c.in_ok-keep.ensures.ok) refl (c.enter.ensures.shared ∙ ap (λ n. bit_and n c.support_of-support.result) c.keep.ensures.shared)
    (block_more heads c.args.head.now c.if-index-eq0.self.rows.items c.enter.new.self.rows.items c.if-index-eq0.self.supports.items c.if-index-eq0.self.decided c.enter.new.self.decided
    c.if-index-eq0.self.shared c.support_of-support.result (omega (arith, count)) widths opened.index opened.width marked c.support_of-support.ensures decided)
