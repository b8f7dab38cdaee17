-- The slabs of a list of moves.
use Rattle.std.proofs.Common.{ℕ, ◌+◌, ◌-◌, ◌≤◌, ◌<◌, ◌≡◌, inl, inr, Bool, false, cond, Option, Some, None, List, [], ◌∷◌, ◌++◌, All, length, get_or, take, map, refl, sym, subst, ap, ◌∙◌, arith, slice_get, unwrap_or, zero, suc, add-one, append_assoc, append-nil}
use Rattle.std.specs.Option.{option_map}
use Rattle.std.specs.List.{flat_map, position}
use Rattle.std.specs.Arc.{arc_value}
use Rattle.std.specs.declared.sync.Arc.{Arc}
use Rattle.std.specs.declared.alloc.Global.{Global}
use Rattle.std.proofs.lemmas.List.{get_or-take, length-take-le, length-map, get_or-map, get_or-append-add, get_or_append_left, get_or_push, length_push, length-append}
use Rattle.std.proofs.lemmas.List.Elements.{All-push}
use Rattle.std.proofs.lemmas.Bool.{cases_lt}
use Rattle.std.proofs.lemmas.List.Quantifiers.{position-Some}
use Rattle.ct_vectors.specs.Vectors.{divides}
use Rattle.ct_vectors.specs.declared.limits.TheConstants.{MOVE_LIMIT}
use Rattle.ct_index.proofs.Pages.{none_passes, flat_map_push, pages_push}
use Rattle.ct_index.specs.Pages.{ArePages, IsPaged, AreFullBelow}
use Rattle.ct_instance.specs.Instance.{Problem, IsPoint}
use Rattle.ct_instance.specs.TestSet.{Binomial}
use Rattle.ct_instance.specs.Walk.{first_dividing, IsNormal}
use Rattle.ct_instance.specs.Jobs.{the_move}
use Rattle.ct_walk.specs.Moves.{IsSmallMove}
use Rattle.ct_walk.proofs.Loops.{first_dividing_here}

-- while more moves are added: the slabs so far are full, and with the open one they have the moves so far
pub record Growing (i : Problem) (slabs : List (Arc (List Binomial) Global)) (done : List Binomial) (made : List (Arc (List Binomial) Global)) (rest : List Binomial) : Type 0 where
  pub whole : flat_map arc_value made ++ rest ≡ flat_map arc_value slabs ++ done
  pub full : AreFullBelow arc_value made (length made)
  pub few : length rest ≤ 128
  pub of_instance : All (IsSmallMove i) rest

flat_map-values : {P X : Type 0} (f : P → List X) (ps : List P) → flat_map f ps ≡ flat_map (λ b. b) (map f ps)
flat_map-values f [] = refl
flat_map-values f (p ∷ ps) = ap (λ xs. f p ++ xs) (flat_map-values f ps)

-- slabs with the same values
pub same_slabs : (slabs made : List (Arc (List Binomial) Global)) → map arc_value made ≡ map arc_value slabs → ArePages arc_value slabs → length (flat_map arc_value slabs) ≤ MOVE_LIMIT →
    IsPaged arc_value made × (flat_map arc_value made ≡ flat_map arc_value slabs)
same_slabs slabs made same a most =
    let whole : flat_map arc_value made ≡ flat_map arc_value slabs = flat_map-values arc_value made ∙ ap (flat_map (λ b. b)) same ∙ sym (flat_map-values arc_value slabs) in
    let count : length made ≡ length slabs = sym (length-map made arc_value) ∙ ap length same ∙ length-map slabs arc_value in
    let at : (k : ℕ) (d : Arc (List Binomial) Global) → k < length made → arc_value (get_or made k d) ≡ arc_value (get_or slabs k d) = λ k d l.
    sym (get_or-map arc_value made k d (arc_value d) l) ∙ ap (λ xs. get_or xs k (arc_value d)) same ∙ get_or-map arc_value slabs k d (arc_value d) (omega (arith, l, count)) in (
      record {
        all = record {
          small = λ k d l. subst (λ xs. length xs ≤ 128) (sym (at k d l)) (a.small k d (omega (arith, l, count)));
          full = λ k d l. ap length (at k d (omega (arith, l))) ∙ a.full k d (omega (arith, l, count));
        };
        most = omega (arith, ap length whole, most);
      },
      whole,
    )

-- slabs with the values of the first n
pub growing_start : (i : Problem) (slabs made : List (Arc (List Binomial) Global)) (n : ℕ) (rest : List Binomial) → n ≤ length slabs → AreFullBelow arc_value slabs n → map arc_value made ≡ map arc_value (take n slabs) →
    flat_map arc_value slabs ≡ flat_map arc_value (take n slabs) ++ rest → length rest ≤ 128 → All (IsSmallMove i) (flat_map arc_value slabs) → Growing i slabs [] made rest
growing_start i slabs made n rest l full same whole few of = record {
  whole = ap (λ xs. xs ++ rest) (flat_map-values arc_value made ∙ ap (flat_map (λ b. b)) same ∙ sym (flat_map-values arc_value (take n slabs))) ∙ sym whole ∙ sym (append-nil (flat_map arc_value slabs));
  full = λ k d m.
      let count : length made ≡ n = sym (length-map made arc_value) ∙ ap length same ∙ length-map (take n slabs) arc_value ∙ length-take-le n slabs l in
      let low : k < n = omega arith in
      ap length (
      sym (get_or-map arc_value made k d (arc_value d) m) ∙ ap (λ xs. get_or xs k (arc_value d)) same ∙
      get_or-map arc_value (take n slabs) k d (arc_value d) (omega (arith, length-take-le n slabs l)) ∙ ap arc_value (get_or-take n slabs k d low)
      ) ∙ full k d low;
  few = few;
  of_instance = λ k d m.
      subst (λ x. IsSmallMove i x) (get_or-append-add (flat_map arc_value (take n slabs)) rest k d)
      (subst (λ xs. IsSmallMove i (get_or xs (length (flat_map arc_value (take n slabs)) + k) d)) whole
      (of (length (flat_map arc_value (take n slabs)) + k) d (omega (arith, ap length whole, length-append (flat_map arc_value (take n slabs)) rest))));
}

-- one move more in the open slab
pub growing_more : (i : Problem) (slabs made : List (Arc (List Binomial) Global)) (done rest : List Binomial) (mv : Binomial) → Growing i slabs done made rest → IsSmallMove i mv → length rest < 128 →
    Growing i slabs (done ++ mv ∷ []) made (rest ++ mv ∷ [])
growing_more i slabs made done rest mv g small room = record {
  whole = sym (append_assoc (flat_map arc_value made) rest (mv ∷ [])) ∙ ap (λ xs. xs ++ mv ∷ []) g.whole ∙ append_assoc (flat_map arc_value slabs) done (mv ∷ []);
  full = g.full;
  few = omega (arith, length_push rest mv);
  of_instance = All-push (IsSmallMove i) rest mv g.of_instance small;
}

-- the open slab is full, and a new one is opened
pub growing_new : (i : Problem) (slabs made : List (Arc (List Binomial) Global)) (done rest : List Binomial) (slab : Arc (List Binomial) Global) → Growing i slabs done made rest → length rest ≡ 128 → arc_value slab ≡ rest →
    Growing i slabs done (made ++ slab ∷ []) []
growing_new i slabs made done rest slab g whole is = record {
  whole = append-nil (flat_map arc_value (made ++ slab ∷ [])) ∙ flat_map_push arc_value made slab ∙ ap (λ xs. flat_map arc_value made ++ xs) is ∙ g.whole;
  full = λ k d l. elim (cases_lt k (length made)) [
    | inl low ↦ ap (λ s. length (arc_value s)) (get_or_append_left made (slab ∷ []) d k low) ∙ g.full k d low
    | inr high ↦ ap (λ s. length (arc_value s)) (get_or_push made slab d k (omega (arith, l, length_push made slab))) ∙ ap length is ∙ whole
  ];
  few = omega arith;
  of_instance = λ k d l. absurd (omega (arith, l));
}

-- the open slab is the last
pub growing_end : (i : Problem) (slabs made : List (Arc (List Binomial) Global)) (done rest : List Binomial) (slab : Arc (List Binomial) Global) → Growing i slabs done made rest → arc_value slab ≡ rest →
    length (flat_map arc_value slabs ++ done) ≤ MOVE_LIMIT → IsPaged arc_value (made ++ slab ∷ []) × (flat_map arc_value (made ++ slab ∷ []) ≡ flat_map arc_value slabs ++ done)
growing_end i slabs made done rest slab g is most =
    let whole : flat_map arc_value (made ++ slab ∷ []) ≡ flat_map arc_value slabs ++ done = flat_map_push arc_value made slab ∙ ap (λ xs. flat_map arc_value made ++ xs) is ∙ g.whole in (
      record {
        all = pages_push arc_value made slab g.full (subst (λ xs. length xs ≤ 128) (sym is) g.few);
        most = subst (λ xs. length xs ≤ MOVE_LIMIT) (sym whole) most;
      },
      whole,
    )

-- ---- the first move that divides

normal_from : (ms : List Binomial) (p : List ℕ) → ((k : ℕ) (d : Binomial) → k < length ms → divides (get_or ms k d).head p ≡ false) → IsNormal ms p
normal_from [] p n = refl
normal_from (m ∷ ms) p n =
    ap (λ (b : Bool). cond b (Some 1) (option_map suc (first_dividing ms p))) (n 0 m (omega arith)) ∙
    ap (option_map suc) (normal_from ms p (λ k d l. n (suc k) d (omega arith)))

-- the number is the place from 1
pub first_is_position : (ms : List Binomial) (p : List ℕ) → first_dividing ms p ≡ option_map suc (position (λ m. divides m.head p) ms)
first_is_position ms p = go (position (λ m. divides m.head p) ms) refl
  where
    empty : Binomial
    empty = record { head = []; tail = [] }

    go : (o : Option ℕ) → position (λ m. divides m.head p) ms ≡ o → first_dividing ms p ≡ option_map suc o
    go None e = normal_from ms p (λ k d l. none_passes (λ m. divides m.head p) ms d e k l)
    go (Some j) e =
        let s = position-Some (λ m. divides m.head p) ms j empty e in
        first_dividing_here ms p j empty s.0
        (normal_from (take j ms) p (λ k d l.
        let before : k < j = omega (arith, l, length-take-le j ms (omega (arith, s.0))) in
        let there : divides (get_or ms k d).head p ≡ false = (position-Some (λ m. divides m.head p) ms j d e).2 k before in
        ap (λ m. divides m.head p) (get_or-take j ms k d before) ∙ there))
        s.1 ∙ ap Some (add-one j)

-- the move with a number stands at the place before it
pub the_move_get : (ms : List Binomial) (number : ℕ) (d : Binomial) → 1 ≤ number → number ≤ length ms → the_move ms number ≡ get_or ms (number - 1) d
the_move_get ms zero d some l = absurd (omega arith)
the_move_get ms (suc k) d some l = ap (λ m. m) (there ms k (omega arith)) ∙ ap (λ i. get_or ms i d) index
  where
    index : k ≡ suc k - 1
    index = omega arith

    there : (ns : List Binomial) (j : ℕ) → j < length ns → unwrap_or (slice_get ns j) (record { head = []; tail = [] }) ≡ get_or ns j d
    there [] j m = absurd (omega arith)
    there (n ∷ ns) zero m = refl
    there (n ∷ ns) (suc j) m = there ns j (omega arith)

pub have_width : (i : Problem) (ms : List Binomial) (p : List ℕ) → All (IsSmallMove i) ms → IsPoint i p → All (λ m. length m.head ≡ length p) ms
have_width i ms p a e k d l = (a k d l).move.head ∙ sym e
