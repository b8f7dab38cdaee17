-- A test list that is cut: what of it has a smaller grade, and the grade of the first move beyond a limit.
use Rattle.std.proofs.Common.{ℕ, ◌+◌, ◌-◌, ◌≤◌, ◌<◌, ◌≡◌, ⊎_elim, Bool, true, false, cond, List, [], ◌∷◌, ◌++◌, All, length, map, filter, take, get_or, Contains, refl, sym, subst, subst₂, ap, ap₂, ◌∙◌, arith, suc, ltb-true, lt-ltb}
use Rattle.std.proofs.lemmas.Bool.{cases_lt}
use Rattle.std.proofs.lemmas.List.{get_or_default, take_more, append-nil, length-append}
use Rattle.std.proofs.lemmas.List.Elements.{All-append, All-cons, All-nil, All-filter, filter_passes, filter-append}
use Rattle.std.proofs.lemmas.List.Kept.{AllPairs-filter}
use Rattle.std.proofs.lemmas.Option.{unwrap_or-slice_get}
use Rattle.ct_instance.specs.Instance.{Problem, IsInstance, grade_of}
use Rattle.ct_instance.specs.TestSet.{Binomial, test_list, IsTestMove, IsTestList, ComesBefore}
use Rattle.ct_instance.specs.Jobs.{the_move}
use Rattle.ct_instance.specs.Versions.{IsFullGrade}
use Rattle.ct_instance.proofs.Lists.{Contains-filter, Contains-map}
use Rattle.ct_instance.proofs.TestList.{is_test_list, before_itself, move_of_head, test_lists_grow}
use Rattle.ct_walk.proofs.Ends.{the_move_stays}
use Rattle.ct_levels.proofs.Numbered.{the_test_move, heads_in_turn}
use Rattle.ct_resume.specs.Resuming.{is_under}

-- the moves of smaller grade than f are the test list of the grade before
pub under_is_test_list : (i : Problem) (g f : ℕ) (ms : List Binomial) → IsTestList i g ms → 1 ≤ f → f ≤ g → IsTestList i (f - 1) (filter (is_under i f) ms)
under_is_test_list i g f ms t some low = record {
  sound = λ k d l.
      let a = All-filter (is_under i f) (λ m. IsTestMove i m × (grade_of i.columns m.head ≤ g)) ms t.sound k d l in
      let m : Binomial = get_or (filter (is_under i f) ms) k d in
      let b : grade_of i.columns m.head < f = ltb-true (grade_of i.columns m.head) f (filter_passes (is_under i f) ms k d l) in
      (a.0, omega arith);
  complete = λ p h l.
      let m = move_of_head i g ms t p h (omega arith) in
      let grade : grade_of i.columns (m.0).head ≡ grade_of i.columns p = ap (grade_of i.columns) m.2 in
      subst (Contains (map (λ m. m.head) (filter (is_under i f) ms))) m.2
      (Contains-map (λ m. m.head) (filter (is_under i f) ms) m.0 (Contains-filter (is_under i f) ms m.0 m.1 (lt-ltb (grade_of i.columns (m.0).head) f (omega arith))));
  ordered = AllPairs-filter (λ m n. ComesBefore i m.head n.head) (is_under i f) ms t.ordered;
}

-- of one move more
module _ (P : Binomial → Type 0) (f : Binomial → Bool) (ms kept : List Binomial) (k : ℕ) (m : Binomial) where
  one : (b : Bool) → f m ≡ b → filter f (m ∷ []) ≡ cond b (m ∷ []) []
  one b is = ap (λ (a : Bool). cond a (m ∷ []) []) is

  pub kept_more : k < length ms → kept ≡ filter f (take k ms) → m ≡ the_move ms (suc k) → (b : Bool) → f m ≡ b → kept ++ cond b (m ∷ []) [] ≡ filter f (take (k + 1) ms)
  kept_more inside are is b tests =
      let none : Binomial = record { head = []; tail = [] } in
      let at : m ≡ get_or ms k none = is ∙ unwrap_or-slice_get ms k none in
      ap₂ ◌++◌ are (sym (one b tests)) ∙ sym (filter-append f (take k ms) (m ∷ [])) ∙
      ap (λ (xs : List Binomial). filter f xs) (ap (λ (x : Binomial). take k ms ++ x ∷ []) at ∙ sym (take_more ms k none inside))

  pub kept_all : All P kept → P m → (b : Bool) → All P (kept ++ cond b (m ∷ []) [])
  kept_all all has true = All-append P kept (m ∷ []) all (All-cons P m [] has (All-nil P))
  kept_all all has false = subst (All P) (sym (append-nil kept)) all

  pub kept_few : length kept ≤ k → (b : Bool) → length (kept ++ cond b (m ∷ []) []) ≤ k + 1
  kept_few few true = let e : length (kept ++ m ∷ []) ≡ length kept + 1 = length-append kept (m ∷ []) in omega (arith, e)
  kept_few few false = let e : length (kept ++ []) ≡ length kept + 0 = length-append kept [] in omega (arith, e)

module _ (i : Problem) (s : IsInstance i) (limit g : ℕ) (long : limit < length (test_list i g)) where
  abbrev beyond : Binomial
  beyond = the_move (test_list i g) (suc limit)

  beyond_is : IsTestMove i beyond × (grade_of i.columns beyond.head ≤ g)
  beyond_is = the_test_move i g (test_list i g) (is_test_list i s g) (suc limit) (omega arith) (omega arith)

  -- a list of a smaller grade begins this one
  begins : (h k : ℕ) → h ≤ g → 1 ≤ k → k ≤ length (test_list i h) → the_move (test_list i g) k ≡ the_move (test_list i h) k
  begins h k l a b =
      let t = test_lists_grow i h g l in
      ap (λ ms. the_move ms k) t.1 ∙ the_move_stays (test_list i h) t.0 k a b

  -- the list of its grade has it
  reaches : length (test_list i (grade_of i.columns beyond.head)) ≤ limit → ⊥
  reaches few =
      let f : ℕ = grade_of i.columns beyond.head in
      let none : Binomial = record { head = []; tail = [] } in
      let found = move_of_head i f (test_list i f) (is_test_list i s f) beyond.head (beyond_is.0).head (let l : f ≤ f = omega arith in l) in
      let k : ℕ = (found.1).0 in
      let l : k < length (test_list i f) = (found.1).1 in
      let low : f ≤ g = beyond_is.1 in
      let longer : length (test_list i f) ≤ length (test_list i g) = omega arith in
      let at : the_move (test_list i g) (suc k) ≡ found.0 =
      begins f (suc k) low (omega arith) (omega arith) ∙ unwrap_or-slice_get (test_list i f) k none ∙ get_or_default (test_list i f) k none found.0 l ∙ (found.1).2 in
      before_itself i beyond.head
      (subst (λ (p : List ℕ). ComesBefore i p beyond.head) (ap (λ (m : Binomial). m.head) at ∙ found.2)
      (heads_in_turn i g (test_list i g) (is_test_list i s g) (suc k) (suc limit) (omega arith) (omega arith) (omega arith)))

  -- the grade of the first move beyond the limit is the full grade
  pub beyond_is_full : IsFullGrade i limit (grade_of i.columns (the_move (test_list i g) (suc limit)).head) × (grade_of i.columns (the_move (test_list i g) (suc limit)).head ≤ g)
  beyond_is_full = (
    record {
      more = ⊎_elim (λ l. l) (λ l. absurd (reaches l)) (cases_lt limit (length (test_list i (grade_of i.columns beyond.head))));
      first = λ h l.
          let low : grade_of i.columns beyond.head ≤ g = beyond_is.1 in
          ⊎_elim
          (λ m.
          let same : grade_of i.columns beyond.head ≡ grade_of i.columns (the_move (test_list i h) (suc limit)).head =
          ap (λ (x : Binomial). grade_of i.columns x.head) (begins h (suc limit) (omega arith) (omega arith) (omega arith)) in
          absurd (omega (arith, (the_test_move i h (test_list i h) (is_test_list i s h) (suc limit) (omega arith) (omega arith)).1)))
          (λ m. m) (cases_lt limit (length (test_list i h)));
    },
    beyond_is.1,
  )
