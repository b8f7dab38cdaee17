-- The least point of a degree and another point of it are a group's move, and each group's move is such a pair.
use Rattle.std.proofs.Common.{ℕ, ◌+◌, ◌-◌, ◌<◌, ◌≡◌, ⊎_elim, All, Contains, List, [], ◌∷◌, ◌++◌, length, get_or, map, take, sym, subst, ap, ap₂, ◌∙◌, arith}
use Rattle.std.proofs.Math.Seq.{take-append_seam}
use Rattle.std.proofs.lemmas.Bool.{cases_lt}
use Rattle.std.proofs.lemmas.List.{get_or_default, map-append}
use Rattle.std.proofs.lemmas.List.Elements.{All-push, Contains-push, Contains-push_cases, Contains-append_left}
use Rattle.ct_vectors.specs.declared.limits.TheConstants.{ROW_LIMIT}
use Rattle.ct_vectors.specs.Vectors.{zeros}
use Rattle.ct_instance.specs.Instance.{Problem, IsInstance, IsPoint, degree_of, grade_of}
use Rattle.ct_instance.specs.Fiber.{IsBelow}
use Rattle.ct_instance.specs.TestSet.{Binomial}
use Rattle.ct_instance.proofs.Degree.{degree_is_right}
use Rattle.ct_instance.proofs.Fiber.{points_cases, below_itself, below_chain, below_differs}
use Rattle.ct_completion.specs.Remainders.{IsGroupMove}
use Rattle.ct_groups.specs.declared.pairs.Pair.{Pair}
use Rattle.ct_groups.specs.Groups.{IsSmallPoint, key_of, IsLeastOf}
use Rattle.ct_groups.specs.Pairs.{pair_seen, HasPairs}
use Rattle.ct_groups.proofs.Known.{not_lower}

-- points with one key have one degree
degree_of_key : (i : Problem) → IsInstance i → (p q : List ℕ) → IsPoint i p → IsPoint i q → key_of i p ≡ key_of i q → degree_of i.columns p ≡ degree_of i.columns q
degree_of_key i s p q e f k =
    let more : List ℕ = zeros (ROW_LIMIT - i.rows) in
    let first : take (length (degree_of i.columns p)) (key_of i p) ≡ degree_of i.columns p = take-append_seam (degree_of i.columns p) more in
    let second : take (length (degree_of i.columns q)) (key_of i q) ≡ degree_of i.columns q = take-append_seam (degree_of i.columns q) more in
    sym first ∙ ap₂ (λ (n : ℕ) (l : List ℕ). take n l) (degree_is_right i s p e ∙ sym (degree_is_right i s q f)) k ∙ second

module _ (i : Problem) (s : IsInstance i) (ps : List (List ℕ)) (small : All (IsSmallPoint i) ps) where
  abbrev at : ℕ → List ℕ
  at l = get_or ps l []

  point : (l : ℕ) → l < length ps → IsPoint i (at l)
  point l m = (small l [] m).point

  contained : (l : ℕ) → l < length ps → Contains ps (at l)
  contained l m = (l, m, get_or_default ps l (at l) [] m)

  place_of : (p : List ℕ) → Contains ps p → (l : ℕ) × (l < length ps) × (at l ≡ p)
  place_of p c = (c.0, c.1, get_or_default ps c.0 [] p c.1 ∙ c.2)

  point_of : (p : List ℕ) → Contains ps p → IsPoint i p
  point_of p c = let r = place_of p c in subst (IsPoint i) r.2 (point r.0 r.1)

  -- the point at place k, and the least of its degree at place b
  module _ (k b : ℕ) (l : k < length ps) (least : IsLeastOf i ps (length ps) (key_of i (at k)) b) where
    one_degree : degree_of i.columns (at b) ≡ degree_of i.columns (at k)
    one_degree = degree_of_key i s (at b) (at k) (point b least.within) (point k l) least.has_key

    none_lower : (q : List ℕ) → Contains ps q → degree_of i.columns q ≡ degree_of i.columns (at b) → IsBelow i q (at b) → ⊥
    none_lower q c e d =
        let r = place_of q c in
        let key : key_of i (at r.0) ≡ key_of i (at k) = ap (key_of i) r.2 ∙ ap (λ (g : List ℕ). g ++ zeros (ROW_LIMIT - i.rows)) (e ∙ one_degree) in
        not_lower i (at r.0) (at b) (least.least r.0 r.1 key) (subst (λ (x : List ℕ). IsBelow i x (at b)) (sym r.2) d)

    pub pair_is_move : (at k ≡ at b → ⊥) → IsGroupMove i ps (record { head = at k; tail = at b })
    pair_is_move other = record {
      head = contained k l;
      tail = contained b least.within;
      degree = one_degree;
      other = other;
      least = λ p c e n.
          ⊎_elim (λ d. d) (λ u. ⊎_elim (λ same. absurd (n (sym same))) (λ d. absurd (none_lower p c e d)) u)
          (points_cases i (at b) p (point b least.within) (point_of p c));
    }

    pub head_decides : (m : Binomial) → IsGroupMove i ps m → m.head ≡ at k → m.tail ≡ at b
    head_decides m g e =
        let degree : degree_of i.columns m.tail ≡ degree_of i.columns (at b) = g.degree ∙ ap (degree_of i.columns) e ∙ sym one_degree in
        ⊎_elim (λ d. absurd (none_lower m.tail g.tail degree d))
        (λ u. ⊎_elim (λ same. same)
        (λ d. absurd (below_itself i (at b) (below_chain i (at b) m.tail (at b) d (g.least (at b) (contained b least.within) (sym degree) (below_differs i (at b) m.tail d))))) u)
        (points_cases i m.tail (at b) (point_of m.tail g.tail) (point b least.within))

    -- the least point gives no pair
    pub pairs_still : (pairs : List Pair) → HasPairs i ps k pairs → at k ≡ at b → HasPairs i ps (k + 1) pairs
    pairs_still pairs h same = record {
      sound = h.sound;
      complete = λ j u m g e. ⊎_elim (λ v. h.complete j v m g e)
          (λ v. let head : m.head ≡ at k = e ∙ ap at (let t : j ≡ k = omega arith in t) in absurd (g.other (head ∙ same ∙ sym (head_decides m g head)))) (cases_lt j k);
      graded = h.graded;
    }

    -- another point gives one
    pub pairs_more : (pairs : List Pair) (x : Pair) → HasPairs i ps k pairs → (at k ≡ at b → ⊥) → x.head.now ≡ at k → x.tail.now ≡ at b → x.grade ≡ grade_of i.columns (at k) →
        HasPairs i ps (k + 1) (pairs ++ x ∷ [])
    pairs_more pairs x h other head tail grade = record {
      sound = λ m c. ⊎_elim (h.sound m) (λ e. subst (IsGroupMove i ps) e (subst (IsGroupMove i ps) (sym seen) (pair_is_move other))) (Contains-push_cases (map pair_seen pairs) (pair_seen x) m (subst (λ xs. Contains xs m) pushed c));
      complete = λ j u m g e. subst (λ xs. Contains xs m) (sym pushed)
          (⊎_elim (λ v. Contains-append_left (map pair_seen pairs) (pair_seen x ∷ []) m (h.complete j v m g e))
          (λ v. let here : m.head ≡ at k = e ∙ ap at (let t : j ≡ k = omega arith in t) in
          subst (Contains (map pair_seen pairs ++ pair_seen x ∷ [])) (seen ∙ ap₂ (λ (a t : List ℕ). record { head = a; tail = t }) (sym here) (sym (head_decides m g here)))
          (Contains-push (map pair_seen pairs) (pair_seen x))) (cases_lt j k));
      graded = All-push (λ p. p.grade ≡ grade_of i.columns p.head.now) pairs x h.graded (grade ∙ ap (grade_of i.columns) (sym head));
    }
      where
        seen : pair_seen x ≡ record { head = at k; tail = at b }
        seen = ap₂ (λ (a t : List ℕ). record { head = a; tail = t }) head tail

        pushed : map pair_seen (pairs ++ x ∷ []) ≡ map pair_seen pairs ++ pair_seen x ∷ []
        pushed = map-append pair_seen pairs (x ∷ [])
