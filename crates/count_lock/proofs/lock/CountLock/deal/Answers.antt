use Rattle.std.proofs.Common.{rules, ◌≡◌, ℕ, ◌+◌, ◌-◌, [], ◌∷◌, ◌++◌, length, take, get_or, drop, sym, ap, ◌∙◌, subst, arith, length-take, None}
use Rattle.count_lock.specs.Count.{first_note}
use Rattle.count_lock.specs.Sight.{fresh_pass}
use Rattle.count_lock.specs.Told.{carried_with, Fits, sight_of}
use Rattle.count_lock.proofs.PairLists.{length_numbered}
use Rattle.count_lock.proofs.Dealing.{given_note, kept_note, dealt_more}
use Rattle.count_lock.proofs.lock.CountLock.deal.Goals as goal

pub split-other-requires-clause-pairs : goal.split-other-requires-clause-pairs
split-other-requires-clause-pairs g c = let me = c.loop-number.invariant.me in let n : ℕ = c.loop-number.number in let below = c.loop-number.invariant.below in
    let long : length c.loop-number.seat.me.0.pairs ≡ length (take (n + 1) c.args.counts.now) = ap (λ m. length m.0.pairs) me ∙ length_numbered 0 (take (n + 1) c.args.counts.now) in
    omega (arith, length-take (n + 1) c.args.counts.now)

pub invariant_of-push_reserved : goal.invariant_of-push_reserved
invariant_of-push_reserved g c = let n : ℕ = c.loop-number.number in
    let given = given_note c.args.self.now.first c.args.counts.now n c.loop-number.invariant.below c.loop-number.seat.me.0 (ap (λ m. m.0) c.loop-number.invariant.me) in let now = c.split-other.ensures.given in
    let held = ap (λ m. m.0.held) now ∙ ap (λ d. d.held) given in let pairs = ap (λ m. m.0.pairs) now ∙ ap (λ d. d.pairs) given in let fits : Fits None n = tt in (
      ap (λ m. m.0.spent) now ∙ ap (λ d. d.spent) given,
      ap (λ m. m.1) now ∙ sym (ap carried_with held),
      pairs ∙ ap (λ l. (n, get_or c.args.counts.now n 0) ∷ drop 1 l) (sym pairs),
      subst (λ h. Fits h n) (sym held) fits,
    )

pub loop-number-preserved : goal.loop-number-preserved
loop-number-preserved g c = let n : ℕ = c.loop-number.number in let cs = c.args.counts.now in let invariant = c.loop-number.invariant in let back : n ≡ n - 1 + 1 = omega arith in
    let first = ap (λ m. m.0) invariant.me in let given = given_note c.args.self.now.first cs n invariant.below c.loop-number.seat.me.0 first in
    let lock : c.split-other.result.table_id ≡ c.args.self.now.lock = search rules in
    let item : sight_of c.split-other.result.table_id c.split-other.result.me.0 ≡ fresh_pass c.args.self.now n (get_or cs n 0) = (λ i. sight_of (lock i) ((c.split-other.ensures.given i).0)) ∙ ap (sight_of c.args.self.now.lock) given in
    let below = invariant.below in let room = invariant.room in record {
      below = omega arith;
      seat = search rules;
      me = c.split-other.ensures.kept ∙ ((λ i. (kept_note c.args.self.now.first cs n invariant.below c.loop-number.seat.me.0 first i, (invariant.me i).1)) ∙ ap (λ k. (first_note c.args.self.now.first (take k cs), [])) back);
      dealt = dealt_more c.args.self.now cs n (n - 1 + 1) back c.loop-number.dealt.items _ invariant.below invariant.dealt (c.push_reserved.ensures.items ∙ ap (λ p. c.loop-number.dealt.items ++ p ∷ []) item);
      room = omega (arith, c.push_reserved.ensures.len, c.push_reserved.ensures.capacity);
    }
