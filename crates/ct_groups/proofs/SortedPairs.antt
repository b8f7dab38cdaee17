-- Sorted pairs, each once.
use Rattle.std.proofs.Common.{ℕ, is_eq, true≢false, ◌≡◌, ◌↔◌, Bool, true, false, ◌&&◌, nat_eq, All, Contains, Ordering, Less, Equal, Greater, List, map, refl, sym, subst, ap, ap₂, ◌∙◌, arith, IsPermutation}
use Rattle.std.specs.List.{dedup}
use Rattle.std.specs.Cmp.{IsTotalOrder, IsEquivalence, eq_by_cmp_equiv, tied_itself, then_total, on_total, nat_cmp_total}
use Rattle.std.specs.Cmp.Lexicographic.{slice_cmp, pointwise, lists_total, lists_ties}
use Rattle.std.specs.Ordering.{nat_cmp, ordering_then, eq_by_cmp}
use Rattle.std.proofs.lemmas.Bool.{and_parts}
use Rattle.std.proofs.lemmas.List.Filters.{All-dedup}
use Rattle.std.proofs.lemmas.List.Kept.{Any-dedup, Contains-from_dedup}
use Rattle.std.proofs.lemmas.List.Sorted.{Contains-permutation, All-permutation, IsPermutation-sym}
use Rattle.std.proofs.lemmas.Map.Lookups.{exact_bytes}
use Rattle.ct_instance.specs.TestSet.{Binomial}
use Rattle.ct_instance.proofs.Lists.{Contains-map, map_gives}
use Rattle.ct_groups.specs.declared.pairs.Pair.{Pair}
use Rattle.ct_groups.specs.Pairs.{pair_seen, pair_order}

pub pair_total : IsTotalOrder pair_order
pair_total =
    then_total (on_total (λ (p : Pair). p.grade) nat_cmp_total)
    (then_total (on_total (λ (p : Pair). p.head.now) (lists_total nat_cmp_total)) (on_total (λ (p : Pair). p.tail.now) (lists_total nat_cmp_total)))

abbrev pair_eq : Pair → Pair → Bool
pair_eq x y = nat_eq x.grade y.grade && (pointwise nat_eq x.head.now y.head.now && pointwise nat_eq x.tail.now y.tail.now)

both : (a b : Bool) (o p : Ordering) → a ≡ is_eq o → b ≡ is_eq p → a && b ≡ is_eq (ordering_then o p)
both a b Less p e f = ap (λ x. x && b) e
both a b Equal p e f = ap (λ x. x && b) e ∙ f
both a b Greater p e f = ap (λ x. x && b) e

number_ties : (x y : ℕ) → nat_eq x y ≡ eq_by_cmp nat_cmp x y
number_ties x y = grind arith

list_ties : (p q : List ℕ) → pointwise nat_eq p q ≡ is_eq (slice_cmp nat_cmp p q)
list_ties p q = lists_ties nat_cmp number_ties p q

pub pair_ties : (x y : Pair) → pair_eq x y ≡ eq_by_cmp pair_order x y
pair_ties x y =
    both (nat_eq x.grade y.grade) (pointwise nat_eq x.head.now y.head.now && pointwise nat_eq x.tail.now y.tail.now) (nat_cmp x.grade y.grade)
    (ordering_then (slice_cmp nat_cmp x.head.now y.head.now) (slice_cmp nat_cmp x.tail.now y.tail.now)) (number_ties x.grade y.grade)
    (both (pointwise nat_eq x.head.now y.head.now) (pointwise nat_eq x.tail.now y.tail.now) (slice_cmp nat_cmp x.head.now y.head.now)
    (slice_cmp nat_cmp x.tail.now y.tail.now) (list_ties x.head.now y.head.now) (list_ties x.tail.now y.tail.now))

pair_equivalence : IsEquivalence pair_eq
pair_equivalence =
    let e = eq_by_cmp_equiv pair_total in record {
      refl = λ x. pair_ties x x ∙ e.refl x;
      symm = λ x y. pair_ties x y ∙ e.symm x y ∙ sym (pair_ties y x);
      congr = λ x y z t. pair_ties x z ∙ e.congr x y z (sym (pair_ties x y) ∙ t) ∙ sym (pair_ties y z);
    }

pub equal_lists : (p q : List ℕ) → pointwise nat_eq p q ≡ true → p ≡ q
equal_lists p q t = tied (slice_cmp nat_cmp p q) refl (sym (list_ties p q) ∙ t)
  where
    tied : (o : Ordering) → slice_cmp nat_cmp p q ≡ o → is_eq o ≡ true → p ≡ q
    tied Less e u = absurd (true≢false (sym u))
    tied Equal e u = exact_bytes p q e
    tied Greater e u = absurd (true≢false (sym u))

pub different_lists : (p q : List ℕ) → pointwise nat_eq p q ≡ false → p ≡ q → ⊥
different_lists p q f e =
    true≢false (sym (ap is_eq (tied_itself (lists_total nat_cmp_total) p)) ∙ sym (list_ties p p) ∙ ap (pointwise nat_eq p) e ∙ f)

same_pair : (x y : Pair) → pair_eq x y ≡ true → pair_seen x ≡ pair_seen y
same_pair x y t =
    let lists = and_parts (nat_eq x.grade y.grade) (pointwise nat_eq x.head.now y.head.now && pointwise nat_eq x.tail.now y.tail.now) t in
    let parts = and_parts (pointwise nat_eq x.head.now y.head.now) (pointwise nat_eq x.tail.now y.tail.now) lists.1 in
    ap₂ (λ (h k : List ℕ). record { head = h; tail = k }) (equal_lists x.head.now y.head.now parts.0) (equal_lists x.tail.now y.tail.now parts.1)

-- sorting and dropping what comes again keeps the same moves
pub sorted_same : (xs ys : List Pair) → IsPermutation xs ys → (m : Binomial) → Contains (map pair_seen (dedup pair_eq ys)) m ↔ Contains (map pair_seen xs) m
sorted_same xs ys s m = (there, back)
  where
    there : Contains (map pair_seen (dedup pair_eq ys)) m → Contains (map pair_seen xs) m
    there c =
        let t = map_gives pair_seen (dedup pair_eq ys) m c in
        subst (Contains (map pair_seen xs)) t.2
        (Contains-map pair_seen xs t.0 (Contains-permutation ys xs t.0 (IsPermutation-sym xs ys s) (Contains-from_dedup pair_eq ys t.0 t.1)))

    back : Contains (map pair_seen xs) m → Contains (map pair_seen (dedup pair_eq ys)) m
    back c =
        let t = map_gives pair_seen xs m c in
        let a = Any-dedup pair_equivalence ys t.0 (Contains-permutation xs ys t.0 s t.1) in
        subst (Contains (map pair_seen (dedup pair_eq ys))) (sym (same_pair t.0 a.1 a.4) ∙ t.2)
        (Contains-map pair_seen (dedup pair_eq ys) a.1 (a.0, a.2, a.3))

pub sorted_graded : (n : List ℕ → ℕ) (xs ys : List Pair) → IsPermutation xs ys → All (λ p. p.grade ≡ n p.head.now) xs → All (λ p. p.grade ≡ n p.head.now) (dedup pair_eq ys)
sorted_graded n xs ys s h =
    All-dedup pair_eq (λ (p : Pair). p.grade ≡ n p.head.now) ys (All-permutation (λ (p : Pair). p.grade ≡ n p.head.now) xs ys s h)
