-- Keys of points, and what one point more does to the known least points.
use Rattle.std.proofs.Common.{ℕ, inl, inr, ◌⊎◌, is_lt, ◌+◌, ◌≤◌, ◌<◌, ◌≡◌, ⊎_elim, Bool, true, false, true≢false, cond, Option, Some, None, All, Ordering, Less, Equal, Greater, List, [], ◌∷◌, ◌++◌, length, get_or, set, refl, sym, subst, ap, ◌∙◌, arith, Bor, is_eq}
use Rattle.std.specs.Cmp.{tied_itself, nat_cmp_total}
use Rattle.std.specs.Cmp.Lexicographic.{slice_cmp, lists_total}
use Rattle.std.specs.Ordering.{nat_cmp}
use Rattle.std.proofs.lemmas.Bool.{cases_lt, cases_eq, false_from_ne_true}
use Rattle.std.proofs.lemmas.Grind.{get_or-set_at}
use Rattle.std.proofs.lemmas.List.{get_or_default, get_or-map, get_or-set_other, get_or_append_left, get_or_push, length-map, length-set, length_push}
use Rattle.std.proofs.lemmas.Map.Lookups.{exact_bytes}
use Rattle.ct_vectors.specs.declared.limits.TheConstants.{GRADE_LIMIT, JOB_GRADE_LIMIT, WIDTH_LIMIT}
use Rattle.ct_order.specs.Order.{refined_order}
use Rattle.ct_instance.specs.Instance.{column_count, Problem, IsInstance, IsPoint, grade_of}
use Rattle.ct_instance.specs.Fiber.{is_lower, IsBelow}
use Rattle.ct_instance.proofs.Degree.{columns, coordinate-le-grade}
use Rattle.ct_instance.proofs.Fiber.{below_itself, below_chain}
use Rattle.ct_groups.specs.declared.least.Groups.{Groups}
use Rattle.ct_groups.specs.Groups.{points_seen, IsSmallPoint, key_of, lower_of, IsLeastOf, HasGroups, KnowsGroups}

-- the width of a point is within the limits of points
pub point_width : (i : Problem) → IsInstance i → (p : List ℕ) → IsPoint i p → (1 ≤ length p) × (length p ≤ WIDTH_LIMIT)
point_width i s p e = (omega (arith, e, s.some_row), omega (arith, e, s.row_limit, s.column_limit))

pub walk_coordinates : (i : Problem) → IsInstance i → (p : List ℕ) → grade_of i.columns p ≤ GRADE_LIMIT → All (λ x. x ≤ GRADE_LIMIT) p
walk_coordinates i s p grade k d l =
    let at : get_or p k 0 ≤ grade_of i.columns p = coordinate-le-grade i.rows i.columns (columns i s) p k in
    let same : get_or p k d ≡ get_or p k 0 = get_or_default p k d 0 l in
    omega arith

pub small_coordinates : (i : Problem) → IsInstance i → (p : List ℕ) → IsSmallPoint i p → All (λ x. x ≤ JOB_GRADE_LIMIT) p
small_coordinates i s p h k d l =
    let at : get_or p k 0 ≤ grade_of i.columns p = coordinate-le-grade i.rows i.columns (columns i s) p k in
    let same : get_or p k d ≡ get_or p k 0 = get_or_default p k d 0 l in
    let grade : grade_of i.columns p ≤ GRADE_LIMIT = h.grade in
    omega arith

-- the point that a place of the slice lends
pub seen_at : (ps : List (Bor (List ℕ))) (k : ℕ) (x : Bor (List ℕ)) → k < length ps → x ≡ get_or ps k x → get_or (points_seen ps) k [] ≡ x.now
seen_at ps k x l e = get_or-map (λ (p : Bor (List ℕ)). p.now) ps k x [] l ∙ ap (λ (p : Bor (List ℕ)). p.now) (sym e)

-- the number that a place of a list of numbers holds
pub indexed : (xs : List ℕ) (k x : ℕ) → k < length xs → x ≡ get_or xs k x → get_or xs k 0 ≡ x
indexed xs k x l e = get_or_default xs k 0 x l ∙ sym e

pub length-seen : (ps : List (Bor (List ℕ))) → length (points_seen ps) ≡ length ps
length-seen ps = length-map ps (λ (p : Bor (List ℕ)). p.now)

pub small_at : (i : Problem) (ps : List (Bor (List ℕ))) (k : ℕ) (x : Bor (List ℕ)) → All (IsSmallPoint i) (points_seen ps) → k < length ps → x ≡ get_or ps k x → IsSmallPoint i x.now
small_at i ps k x a l e =
    subst (IsSmallPoint i) (seen_at ps k x l e) (a k [] (let s : k < length (points_seen ps) = omega (arith, length-seen ps) in s))

pub key_at : (i : Problem) (ps : List (Bor (List ℕ))) (k : ℕ) (x : Bor (List ℕ)) (key : List ℕ) → k < length ps → x ≡ get_or ps k x → key ≡ key_of i x.now →
    key ≡ key_of i (get_or (points_seen ps) k [])
key_at i ps k x key l e f = f ∙ ap (key_of i) (sym (seen_at ps k x l e))

abbrev order : List ℕ → List ℕ → Ordering
order p q = slice_cmp nat_cmp p q

order_itself : (p : List ℕ) → order p p ≡ Equal
order_itself p = tied_itself (lists_total nat_cmp_total) p

-- the test of one key against another
key_cases : (p q : List ℕ) (o : Ordering) → order p q ≡ o → (p ≡ q) ⊎ (is_eq o ≡ false)
key_cases p q Equal e = inl (exact_bytes p q e)
key_cases p q Less e = inr refl
key_cases p q Greater e = inr refl

-- ---- the test of the order

lower_gives : (i : Problem) (p q : List ℕ) → is_lower i p q ≡ true → IsBelow i p q
lower_gives i p q e = go (refined_order (column_count i) i.cost_rows p q) refl e
  where
    go : (o : Ordering) → refined_order (column_count i) i.cost_rows p q ≡ o → is_lt o ≡ true → o ≡ Less
    go Less f t = refl
    go Equal f t = absurd (true≢false (sym t))
    go Greater f t = absurd (true≢false (sym t))

pub lower_from : (i : Problem) (p q : List ℕ) → IsBelow i p q → is_lower i p q ≡ true
lower_from i p q b = ap is_lt b

pub not_lower : (i : Problem) (p q : List ℕ) → is_lower i p q ≡ false → IsBelow i p q → ⊥
not_lower i p q e b = true≢false (sym (lower_from i p q b) ∙ e)

not_lower_from : (i : Problem) (p q : List ℕ) → (IsBelow i p q → ⊥) → is_lower i p q ≡ false
not_lower_from i p q n = false_from_ne_true (is_lower i p q) (λ t. n (lower_gives i p q t))

-- ---- one point more

module _ (i : Problem) (ps : List (List ℕ)) (n : ℕ) where
  abbrev at : ℕ → List ℕ
  at l = get_or ps l []

  abbrev key : List ℕ
  key = key_of i (at n)

  -- a least point that the new one, if it has its key, isn't below
  still_least : (q : List ℕ) (b : ℕ) → IsLeastOf i ps n q b → (key ≡ q → is_lower i (at n) (at b) ≡ false) → IsLeastOf i ps (n + 1) q b
  still_least q b o e = record {
    within = omega (arith, o.within);
    has_key = o.has_key;
    least = λ l m s. ⊎_elim (λ u. o.least l u s)
        (λ u. let same : l ≡ n = omega arith in subst (λ k. is_lower i (at k) (at b) ≡ false) (sym same) (e (ap (λ k. key_of i (at k)) (sym same) ∙ s))) (cases_lt l n);
  }

  -- the new point, where none of its key is below it
  new_least : ((l : ℕ) → l < n → key_of i (at l) ≡ key → is_lower i (at l) (at n) ≡ false) → IsLeastOf i ps (n + 1) key n
  new_least none = record {
    within = omega arith;
    has_key = refl;
    least = λ l m s. ⊎_elim (λ u. none l u s)
        (λ u. subst (λ k. is_lower i (at k) (at n) ≡ false) (let same : n ≡ l = omega arith in same) (not_lower_from i (at n) (at n) (below_itself i (at n)))) (cases_lt l n);
  }

  lower_is_least : (b : ℕ) → IsLeastOf i ps n key b → IsLeastOf i ps (n + 1) key (lower_of i ps n b)
  lower_is_least b o = go (is_lower i (at n) (at b)) refl
    where
      go : (t : Bool) → is_lower i (at n) (at b) ≡ t → IsLeastOf i ps (n + 1) key (cond t n b)
      go false e = still_least key b o (λ s. e)
      go true e =
          new_least
          (λ l u s. not_lower_from i (at l) (at n) (λ d. not_lower i (at l) (at b) (o.least l u s) (below_chain i (at l) (at n) (at b) d (lower_gives i (at n) (at b) e))))

  -- the groups g, and h with the group x of the new point behind those before it
  module _ (g h : Groups) (x : ℕ) (pushed : h.of_point.items ≡ g.of_point.items ++ x ∷ []) where
    one_more : length g.of_point.items ≡ n → length h.of_point.items ≡ n + 1
    one_more e = ap length pushed ∙ length_push g.of_point.items x ∙ ap (λ k. k + 1) e

    found_more : (look : List ℕ → Option ℕ) → length g.of_point.items ≡ n → ((l : ℕ) → l < n → look (key_of i (at l)) ≡ Some (get_or g.of_point.items l 0)) → look key ≡ Some x →
        (l : ℕ) → l < n + 1 → look (key_of i (at l)) ≡ Some (get_or h.of_point.items l 0)
    found_more look e found here l m = ⊎_elim before last (cases_lt l n)
      where
        before : l < n → look (key_of i (at l)) ≡ Some (get_or h.of_point.items l 0)
        before u = found l u ∙ ap Some (sym (ap (λ xs. get_or xs l 0) pushed ∙ get_or_append_left g.of_point.items (x ∷ []) 0 l (let v : l < length g.of_point.items = omega arith in v)))

        last : n ≤ l → look (key_of i (at l)) ≡ Some (get_or h.of_point.items l 0)
        last u =
            let same : n ≡ l = omega arith in
            subst (λ k. look (key_of i (at k)) ≡ Some x) same here ∙
            ap Some (sym (ap (λ xs. get_or xs l 0) pushed ∙ get_or_push g.of_point.items x 0 l (e ∙ same)))

    -- the new point joins a group
    pub joined : (look : List ℕ → Option ℕ) → KnowsGroups i ps n look g → look key ≡ Some x → h.least.items ≡ set g.least.items x (lower_of i ps n (get_or g.least.items x 0)) → KnowsGroups i ps (n + 1) look h
    joined look k here put = record {
      counted = one_more k.counted;
      found = found_more look k.counted k.found here;
      only = λ q y f. ⊎_elim (same q y f) (other q y f) (cases_eq y x);
    }
      where
        within : (q : List ℕ) (y : ℕ) → look q ≡ Some y → y < length h.least.items
        within q y f = omega (arith, (k.only q y f).0, ap length put, length-set g.least.items x (lower_of i ps n (get_or g.least.items x 0)))

        same : (q : List ℕ) (y : ℕ) → look q ≡ Some y → y ≡ x → (y < length h.least.items) × IsLeastOf i ps (n + 1) q (get_or h.least.items y 0)
        same q y f e =
            let o = k.only key x here in
            let one : key ≡ q = sym o.1.has_key ∙ ap (λ z. key_of i (at (get_or g.least.items z 0))) (sym e) ∙ (k.only q y f).1.has_key in
            let now : get_or h.least.items y 0 ≡ lower_of i ps n (get_or g.least.items x 0) =
            ap (λ xs. get_or xs y 0) put ∙ get_or-set_at g.least.items x y (lower_of i ps n (get_or g.least.items x 0)) 0 e o.0 in
            (within q y f, subst (IsLeastOf i ps (n + 1) q) (sym now) (subst (λ r. IsLeastOf i ps (n + 1) r (lower_of i ps n (get_or g.least.items x 0))) one (lower_is_least (get_or g.least.items x 0) o.1)))

        other : (q : List ℕ) (y : ℕ) → look q ≡ Some y → (y ≡ x → ⊥) → (y < length h.least.items) × IsLeastOf i ps (n + 1) q (get_or h.least.items y 0)
        other q y f ne =
            let now : get_or h.least.items y 0 ≡ get_or g.least.items y 0 = ap (λ xs. get_or xs y 0) put ∙ get_or-set_other g.least.items x y (lower_of i ps n (get_or g.least.items x 0)) 0 ne in (
              within q y f,
              subst (IsLeastOf i ps (n + 1) q) (sym now)
                  (still_least q (get_or g.least.items y 0) (k.only q y f).1 (λ s. let t : Some y ≡ Some x = sym f ∙ ap look (sym s) ∙ here in absurd (ne (cc)))),
            )

    -- the new point opens a group
    pub opened : (look later : List ℕ → Option ℕ) → KnowsGroups i ps n look g → look key ≡ None → x ≡ length g.least.items →
        ((q : List ℕ) → later q ≡ cond (is_eq (order key q)) (Some x) (look q)) → h.least.items ≡ g.least.items ++ n ∷ [] → KnowsGroups i ps (n + 1) later h
    opened look later k none number updates put = record {
      counted = one_more k.counted;
      found = found_more later k.counted (λ l u. elsewhere (key_of i (at l)) (⊎_elim (λ s. absurd (fresh l u (sym s))) (λ e. e) (key_cases key (key_of i (at l)) (order key (key_of i (at l))) refl)) ∙ k.found l u) here;
      only = λ q y f. ⊎_elim (first q y f) (other q y f) (key_cases key q (order key q) refl);
    }
      where
        here : later key ≡ Some x
        here = updates key ∙ ap (λ o. cond (is_eq o) (Some x) (look key)) (order_itself key)

        elsewhere : (q : List ℕ) → is_eq (order key q) ≡ false → later q ≡ look q
        elsewhere q e = updates q ∙ ap (λ t. cond t (Some x) (look q)) e

        fresh : (l : ℕ) → l < n → key_of i (at l) ≡ key → ⊥
        fresh l u s = let t : None ≡ Some (get_or g.of_point.items l 0) = sym none ∙ ap look (sym s) ∙ k.found l u in cc

        grown : length h.least.items ≡ length g.least.items + 1
        grown = ap length put ∙ length_push g.least.items n

        first : (q : List ℕ) (y : ℕ) → later q ≡ Some y → key ≡ q → (y < length h.least.items) × IsLeastOf i ps (n + 1) q (get_or h.least.items y 0)
        first q y f s =
            let one : y ≡ x = let t : Some y ≡ Some x = sym f ∙ ap later (sym s) ∙ here in cc in
            let now : get_or h.least.items y 0 ≡ n = ap (λ xs. get_or xs y 0) put ∙ get_or_push g.least.items n 0 y (sym number ∙ sym one) in
            (omega (arith, grown), subst (IsLeastOf i ps (n + 1) q) (sym now) (subst (λ r. IsLeastOf i ps (n + 1) r n) s (new_least (λ l u e. absurd (fresh l u e)))))

        other : (q : List ℕ) (y : ℕ) → later q ≡ Some y → is_eq (order key q) ≡ false → (y < length h.least.items) × IsLeastOf i ps (n + 1) q (get_or h.least.items y 0)
        other q y f e =
            let o = k.only q y (sym (elsewhere q e) ∙ f) in
            let now : get_or h.least.items y 0 ≡ get_or g.least.items y 0 = ap (λ xs. get_or xs y 0) put ∙ get_or_append_left g.least.items (n ∷ []) 0 y o.0 in (
              omega (arith, grown, o.0),
              subst (IsLeastOf i ps (n + 1) q) (sym now)
                  (still_least q (get_or g.least.items y 0) o.1 (λ s. absurd (true≢false (sym (ap is_eq (ap (order key) (sym s) ∙ order_itself key)) ∙ e)))),
            )

-- what is known of all points, without the keys
pub groups_known : (i : Problem) (ps : List (List ℕ)) (n : ℕ) (look : List ℕ → Option ℕ) (g : Groups) → KnowsGroups i ps n look g → HasGroups i ps n g
groups_known i ps n look g k = record {
  counted = k.counted;
  within = λ l u. (k.only (key_of i (get_or ps l [])) (get_or g.of_point.items l 0) (k.found l u)).0;
  least = λ l u. (k.only (key_of i (get_or ps l [])) (get_or g.of_point.items l 0) (k.found l u)).1;
}
