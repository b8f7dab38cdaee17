use Rattle.std.proofs.Common.{◌≡◌, [], ◌∷◌, ◌++◌, All, map, ap, subst, ◌∙◌}
use Rattle.std.proofs.lemmas.List.{map-append}
use Rattle.ct_book.specs.declared.remainders.Left.{Left}
use Rattle.ct_book.specs.Tasks.{IsHeld, left_at}
use Rattle.ct_book.proofs.BatchRuns.{commits_more, all_before}
use Rattle.ct_book.proofs.batches.take_in_all.Goals as goal

pub loop-one-preserved : goal.loop-one-preserved
loop-one-preserved c =
    let v = c.args.version.now in
    let parts : c.loop-one.left.items ≡ c.pop.new.self.items ++ c.in-Some.one ∷ [] = c.in-Some.ensures.items in
    record {
      committed = commits_more c.args.book.now c.args.by (map (left_at v) c.args.left.now.items) (map (left_at v) c.loop-one.left.items) (map (left_at v) c.pop.new.self.items)
          c.loop-one.book (left_at v c.in-Some.one) c.take_in.result c.take_in.new.self c.loop-one.invariant.committed
          (ap (map (left_at v)) parts ∙ map-append (left_at v) c.pop.new.self.items (c.in-Some.one ∷ [])) c.take_in.ensures.answer (c.take_in.ensures.count, c.take_in.ensures.others);
      held = all_before (λ (x : Left). IsHeld (left_at v x)) c.pop.new.self.items c.in-Some.one (subst (All (λ (x : Left). IsHeld (left_at v x))) parts c.loop-one.invariant.held);
    }
