use Rattle.std.proofs.Common.{◌≡◌, ◌<◌, ◌≤◌, ℕ, List, [], length, get_or, take, sym, subst, ap, ◌∙◌, true≢false}
use Rattle.std.specs.List.{insert}
use Rattle.ct_instance.specs.Fiber.{IsBelow}
use Rattle.ct_best.specs.Search.{IsPutIn, IsReached}
use Rattle.ct_best.proofs.Frontier.{nothing_put, all_below, is_there, put_at}
use Rattle.ct_best.proofs.ordered.put_in.Goals as goal
use Rattle.ct_best.proofs.ordered.put_in.Goals.{then-at-count-via-then-at-count, then-at-count-via-else-at-count+then-is_at}

pub returns-then-at-count : goal.returns-then-at-count
returns-then-at-count c =
    nothing_put c.args.inst.now c.args.count c.args.found.now.items c.args.s.now c.requires.ordered c.requires.most reached
  where
    xs : List (List ℕ)
    xs = c.args.found.now.items

    same : c.deref.result.now ≡ xs
    same = c.deref.ensures.value

    reached : IsReached c.args.inst.now c.args.count c.args.found.now.items c.args.s.now
    reached = elim c.then-at-count.branch [
      | then-at-count-via-then-at-count w ↦
          all_below c.args.inst.now c.args.count c.place_of-at.result c.args.found.now.items c.args.s.now c.requires.most
          (subst (λ (l : List (List ℕ)). c.place_of-at.result ≤ length l) same c.place_of-at.ensures.within)
          (subst (λ (l : List (List ℕ)). (t : ℕ) → t < c.place_of-at.result → IsBelow c.args.inst.now (get_or l t []) c.args.s.now) same c.place_of-at.ensures.before)
          w.if-at-count.true
      | then-at-count-via-else-at-count+then-is_at w ↦
          let there : (c.place_of-at.result < length xs) × (get_or xs c.place_of-at.result [] ≡ c.args.s.now) =
          subst (λ (l : List (List ℕ)). (c.place_of-at.result < length l) × (get_or l c.place_of-at.result [] ≡ c.args.s.now)) w.deref-else-at-count.ensures.value (w.is_at.ensures.0 w.if-is_at.true) in
          is_there c.args.inst.now c.args.count c.place_of-at.result xs c.args.s.now there.0 there.1
    ]

pub returns : goal.returns
returns c =
    subst (IsPutIn c.args.inst.now c.args.count xs c.args.s.now) (sym whole)
    (put_at c.args.inst.now c.args.count c.place_of-at.result xs c.args.s.now c.requires.points c.requires.point c.requires.ordered c.requires.most
    (subst (λ (l : List (List ℕ)). c.place_of-at.result ≤ length l) same c.place_of-at.ensures.within)
    (subst (λ (l : List (List ℕ)). (t : ℕ) → t < c.place_of-at.result → IsBelow c.args.inst.now (get_or l t []) c.args.s.now) same c.place_of-at.ensures.before)
    (subst (λ (l : List (List ℕ)). c.place_of-at.result < length l → IsBelow c.args.inst.now (get_or l c.place_of-at.result []) c.args.s.now → ⊥) same c.place_of-at.ensures.not_below)
    c.if-at-count.false absent)
  where
    xs : List (List ℕ)
    xs = c.args.found.now.items

    same : c.deref.result.now ≡ xs
    same = c.deref.ensures.value

    absent : (c.place_of-at.result < length xs) × (get_or xs c.place_of-at.result [] ≡ c.args.s.now) → ⊥
    absent t =
        true≢false (sym (c.is_at.ensures.1
        (subst (λ (l : List (List ℕ)). (c.place_of-at.result < length l) × (get_or l c.place_of-at.result [] ≡ c.args.s.now)) (sym c.deref-else-at-count.ensures.value) t)) ∙ c.if-is_at.false)

    whole : c.truncate.new.self.items ≡ take c.args.count (insert xs c.place_of-at.result c.args.s.now)
    whole = c.truncate.ensures.items ∙ ap (take c.args.count) (c.in_ok-insert.ensures.items ∙ ap (insert xs c.place_of-at.result) c.in_ok-copy.ensures)
