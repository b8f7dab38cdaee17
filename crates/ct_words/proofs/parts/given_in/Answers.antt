use Rattle.std.proofs.Common.{map, sym, ap, subst, ◌∙◌}
use Rattle.std.proofs.lemmas.List.{map-append}
use Rattle.clap.specs.Words.{found_of}
use Rattle.clap.specs.Matches.{ids_left}
use Rattle.ct_words.specs.Table.{option_seen}
use Rattle.ct_words.specs.Reading.{rows_found}
use Rattle.ct_words.proofs.Found.{Given, given_first, given_end, given_skip, given_none, given_push, ids_found, ids_next, ids_end}
use Rattle.ct_words.proofs.parts.given_in.Goals as goal

pub loop-id-init : goal.loop-id-init
loop-id-init c = record {
  next = tt;
  finite = tt;
  found = rw c.new-given.ensures.items
      (subst (Given _ _ _ _) (sym (ap ids_left c.into_iter-id-iterator.ensures.into_iter_gives ∙ (c.ids-id-items.ensures ∙ ids_found (found_of c.args.matches.now))))
      (given_first (map option_seen c.args.rows.now) (rows_found c.args.matches.now) (map (λ row. row.id) (rows_found c.args.matches.now))));
}

pub returns-in-None-option_given : goal.returns-in-None-option_given
returns-in-None-option_given c =
    let steps = c.in-Some.ensures.steps in
    let at = ids_next (ids_left c.loop-id.id-iterator) (ids_left c.next.new.self) c.in-Some.id.now steps.0 steps.1 in
    given_none _ _ _ _ _ _ (sym c.is_given.ensures ∙ c.if-is_given.true) c.in-None-option_given.ensures (subst (Given _ _ _ _) at c.loop-id.invariant.found)

pub loop-id-preserved-in-Continue-1 : goal.loop-id-preserved-in-Continue-1
loop-id-preserved-in-Continue-1 c =
    let steps = c.in-Some.ensures.steps in
    let at = ids_next (ids_left c.loop-id.id-iterator) (ids_left c.next.new.self) c.in-Some.id.now steps.0 steps.1 in
    record {
      next = tt;
      finite = tt;
      found = rw (c.in_ok-push-in-Some-option_given.ensures.items, map-append)
          (given_push _ _ _ _ _ _ _ (sym c.is_given.ensures ∙ c.if-is_given.true) c.in-Some-option_given.ensures (subst (Given _ _ _ _) at c.loop-id.invariant.found));
    }

pub loop-id-preserved : goal.loop-id-preserved
loop-id-preserved c =
    let steps = c.in-Some.ensures.steps in
    let at = ids_next (ids_left c.loop-id.id-iterator) (ids_left c.next.new.self) c.in-Some.id.now steps.0 steps.1 in
    record {
      next = tt;
      finite = tt;
      found = given_skip _ _ _ _ _ _ (sym c.is_given.ensures ∙ c.if-is_given.false) (subst (Given _ _ _ _) at c.loop-id.invariant.found);
    }

pub returns : goal.returns
returns c = given_end _ _ _ _ (subst (Given _ _ _ _) (ids_end (ids_left c.loop-id.id-iterator) c.in-None.ensures.steps.0) c.loop-id.invariant.found)
