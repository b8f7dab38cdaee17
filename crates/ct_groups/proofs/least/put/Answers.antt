use Rattle.std.proofs.Common.{◌≡◌, Some, cond, sym, subst, ap, ◌∙◌, arith, length, List, ℕ, is_eq}
use Rattle.std.specs.Ordering.{nat_cmp}
use Rattle.std.specs.Cmp.Lexicographic.{slice_cmp}
use Rattle.std.specs.BTreeMap.{get}
use Rattle.std.proofs.lemmas.Result.{on_ok_weaker}
use Rattle.ct_groups.specs.Groups.{points_seen}
use Rattle.ct_groups.proofs.Known.{small_at, key_at, joined, opened}
use Rattle.ct_groups.proofs.least.put.Goals as goal

pub degree_key-key-requires : goal.degree_key-key-requires
degree_key-key-requires c = small_at c.args.inst.now c.args.points.now c.args.k c.index-points-k.result c.requires.points c.requires.place c.index-points-k.is

pub join-requires-clause-group : goal.join-requires-clause-group
join-requires-clause-group c = (c.requires.knows.only c.degree_key-key.result c.in-Some.group (sym c.get.ensures.value ∙ sym c.copied-known.ensures ∙ c.in-Some.is)).0

pub join-requires-clause-least : goal.join-requires-clause-least
join-requires-clause-least c =
    let least = (c.requires.knows.only c.degree_key-key.result c.in-Some.group (sym c.get.ensures.value ∙ sym c.copied-known.ensures ∙ c.in-Some.is)).1 in
    omega (arith, least.within, c.requires.place)

pub returns-in-Some : goal.returns-in-Some
returns-in-Some c =
    let look = get (slice_cmp nat_cmp) c.args.numbers.now in
    let at = key_at c.args.inst.now c.args.points.now c.args.k c.index-points-k.result c.degree_key-key.result c.requires.place c.index-points-k.is c.degree_key-key.ensures in
    on_ok_weaker c.join.result
    (λ pushed. joined c.args.inst.now (points_seen c.args.points.now) c.args.k c.args.groups.now c.join.new.groups c.in-Some.group pushed look c.requires.knows
    (ap look (sym at) ∙ sym c.get.ensures.value ∙ sym c.copied-known.ensures ∙ c.in-Some.is) c.join.ensures.least) c.join.ensures.of_point

pub returns : goal.returns
returns c =
    let look = get (slice_cmp nat_cmp) c.args.numbers.now in
    let at = key_at c.args.inst.now c.args.points.now c.args.k c.index-points-k.result c.degree_key-key.result c.requires.place c.index-points-k.is c.degree_key-key.ensures in
    let number : c.len-group.result ≡ length c.args.groups.now.least.items = omega (arith, c.len-group.ensures) in
    opened c.args.inst.now (points_seen c.args.points.now) c.args.k c.args.groups.now (record { of_point = c.push.new.self; least = c.push-2.new.self }) c.len-group.result
    c.in_ok-push.ensures.items look (get (slice_cmp nat_cmp) c.insert.new.self) c.requires.knows
    (ap look (sym at) ∙ sym c.get.ensures.value ∙ sym c.copied-known.ensures ∙ c.in_default.is) number
    (subst (λ (key : List ℕ). (q : List ℕ) → get (slice_cmp nat_cmp) c.insert.new.self q ≡ cond (is_eq (slice_cmp nat_cmp key q)) (Some c.len-group.result) (look q)) at c.in_ok-insert.ensures.updates.0)
    c.in_ok-push-2.ensures.items
