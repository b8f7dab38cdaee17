-- The box up to a grade is the one list that is sound, complete and in order.
use Rattle.std.proofs.Common.{ℕ, ◌≤◌, ◌≡◌, ◌↔◌, nat_le, List, length, get_or, Contains, sym, subst, arith, leb-true, le-leb}
use Rattle.std.proofs.lemmas.List.Elements.{All-contains, Contains-get_or}
use Rattle.std.proofs.lemmas.List.Sums.{length-filter}
use Rattle.ct_vectors.specs.Vectors.{total, Divides}
use Rattle.ct_vectors.proofs.Divisors.{Divides-from_test, test_from_Divides, total-divides}
use Rattle.ct_instance.specs.Instance.{Problem, IsInstance, degree_of, grade_of}
use Rattle.ct_instance.specs.TestSet.{Binomial, IsTestHead, IsTestMove, ComesBefore, test_move, test_list}
use Rattle.ct_instance.specs.Walk.{AreMoves}
use Rattle.ct_instance.proofs.Lists.{Contains-filter, filter_gives, Contains-map, map_gives, count_by-weaker}
use Rattle.ct_instance.proofs.Ordered.{InOrder, InOrder-filter, InOrder-pairs, InOrder-from_pairs, InOrder-unique}
use Rattle.ct_instance.proofs.TestHeads.{test_move_is_move}
use Rattle.ct_instance.proofs.TestList.{test_list_gives, test_list_has, test_list_in_order, before_itself, before_chain, same_move}
use Rattle.ct_walk.specs.Laws.{IsWithin}
use Rattle.ct_box.specs.Box.{is_in_box, box_list, box_list_to, IsBoxList}

abbrev pub Before : Problem → Binomial → Binomial → Type 0
Before i m n = ComesBefore i m.head n.head

-- ---- the whole box

pub box_gives : (i : Problem) → IsInstance i → (top : List ℕ) (m : Binomial) → Contains (box_list i top) m → IsTestMove i m × Divides (degree_of i.columns m.head) top
unfolding box_list
box_gives i s top m c =
    let f = filter_gives (is_in_box i top) (test_list i (total top)) m c in
    ((test_list_gives i s (total top) m f.0).0, Divides-from_test (degree_of i.columns m.head) top f.1)

pub box_has : (i : Problem) → IsInstance i → (top p : List ℕ) → IsTestHead i p → Divides (degree_of i.columns p) top → Contains (box_list i top) (test_move i p)
unfolding box_list
box_has i s top p h d =
    Contains-filter (is_in_box i top) (test_list i (total top)) (test_move i p) (test_list_has i s (total top) p h (total-divides (degree_of i.columns p) top d))
    (test_from_Divides (degree_of i.columns p) top d)

pub box_in_order : (i : Problem) → IsInstance i → (top : List ℕ) → InOrder (Before i) (box_list i top)
unfolding box_list
box_in_order i s top = InOrder-filter (Before i) (is_in_box i top) (test_list i (total top)) (test_list_in_order i s (total top))

-- ---- up to a grade

pub up_to_gives : (i : Problem) (top : List ℕ) (g : ℕ) (m : Binomial) → Contains (box_list_to i top g) m → Contains (box_list i top) m × (grade_of i.columns m.head ≤ g)
unfolding box_list_to
up_to_gives i top g m c =
    let f = filter_gives (λ m. nat_le (grade_of i.columns m.head) g) (box_list i top) m c in
    (f.0, leb-true (grade_of i.columns m.head) g f.1)

pub up_to_has : (i : Problem) (top : List ℕ) (g : ℕ) (m : Binomial) → Contains (box_list i top) m → grade_of i.columns m.head ≤ g → Contains (box_list_to i top g) m
unfolding box_list_to
up_to_has i top g m c l = Contains-filter (λ m. nat_le (grade_of i.columns m.head) g) (box_list i top) m c (le-leb (grade_of i.columns m.head) g l)

pub up_to_in_order : (i : Problem) → IsInstance i → (top : List ℕ) (g : ℕ) → InOrder (Before i) (box_list_to i top g)
unfolding box_list_to
up_to_in_order i s top g = InOrder-filter (Before i) (λ m. nat_le (grade_of i.columns m.head) g) (box_list i top) (box_in_order i s top)

-- a greater grade has no fewer moves
pub box_longer : (i : Problem) (top : List ℕ) (g h : ℕ) → g ≤ h → length (box_list_to i top g) ≤ length (box_list_to i top h)
unfolding box_list_to
box_longer i top g h l =
    let more = count_by-weaker (λ m. nat_le (grade_of i.columns m.head) g) (λ m. nat_le (grade_of i.columns m.head) h) (box_list i top)
    (λ m c e. le-leb (grade_of i.columns m.head) h (omega (arith, leb-true (grade_of i.columns m.head) g e))) in
    omega (arith, more, length-filter (λ m. nat_le (grade_of i.columns m.head) g) (box_list i top), length-filter (λ m. nat_le (grade_of i.columns m.head) h) (box_list i top))

-- ---- the one such list

pub is_box_list : (i : Problem) → IsInstance i → (top : List ℕ) (g : ℕ) → IsBoxList i top g (box_list_to i top g)
is_box_list i s top g = record {
  sound = λ k d l. sound (get_or (box_list_to i top g) k d) (Contains-get_or (box_list_to i top g) k d l);
  complete = λ p h w. Contains-map (λ m. m.head) (box_list_to i top g) (test_move i p) (up_to_has i top g (test_move i p) (box_has i s top p h w.bound) w.grade);
  ordered = InOrder-pairs (Before i) (box_list_to i top g) (up_to_in_order i s top g);
}
  where
    sound : (m : Binomial) → Contains (box_list_to i top g) m → IsTestMove i m × IsWithin g top (degree_of i.columns m.head)
    sound m c =
        let u = up_to_gives i top g m c in
        let b = box_gives i s top m u.0 in
        (b.0, record { grade = u.1; bound = b.1 })

pub box_move_is_sound : (i : Problem) (top : List ℕ) (g : ℕ) (ms : List Binomial) → IsBoxList i top g ms → (m : Binomial) → Contains ms m →
    IsTestMove i m × IsWithin g top (degree_of i.columns m.head)
box_move_is_sound i top g ms t m c = All-contains (λ k. IsTestMove i k × IsWithin g top (degree_of i.columns k.head)) ms m t.sound c

pub box_move_of_head : (i : Problem) (top : List ℕ) (g : ℕ) (ms : List Binomial) → IsBoxList i top g ms → (p : List ℕ) → IsTestHead i p → IsWithin g top (degree_of i.columns p) →
    (m : Binomial) × Contains ms m × (m.head ≡ p)
box_move_of_head i top g ms t p h w = map_gives (λ m. m.head) ms p (t.complete p h w)

pub box_moves : (i : Problem) (top : List ℕ) (g : ℕ) (ms : List Binomial) → IsBoxList i top g ms → AreMoves i ms
box_moves i top g ms t k d l = test_move_is_move i (get_or ms k d) (box_move_is_sound i top g ms t (get_or ms k d) (Contains-get_or ms k d l)).0

member_of_other : (i : Problem) (top : List ℕ) (g : ℕ) (ms ns : List Binomial) → IsBoxList i top g ms → IsBoxList i top g ns → (m : Binomial) → Contains ms m → Contains ns m
member_of_other i top g ms ns t u m c =
    let s = box_move_is_sound i top g ms t m c in
    let r = box_move_of_head i top g ns u m.head (s.0).head s.1 in
    subst (Contains ns) (same_move i r.0 m (box_move_is_sound i top g ns u r.0 r.1).0 s.0 r.2) r.1

-- lists in the order of test moves with the same moves are one
pub one_in_order : (i : Problem) (ms ns : List Binomial) → InOrder (Before i) ms → InOrder (Before i) ns → ((m : Binomial) → Contains ms m → Contains ns m) →
    ((m : Binomial) → Contains ns m → Contains ms m) → ms ≡ ns
one_in_order i ms ns = InOrder-unique (Before i) (λ m. before_itself i m.head) (λ m n k. before_chain i m.head n.head k.head) ms ns

pub one_box_list : (i : Problem) (top : List ℕ) (g : ℕ) (ms ns : List Binomial) → IsBoxList i top g ms → IsBoxList i top g ns → ms ≡ ns
one_box_list i top g ms ns t u =
    one_in_order i ms ns (InOrder-from_pairs (Before i) ms t.ordered) (InOrder-from_pairs (Before i) ns u.ordered)
    (member_of_other i top g ms ns t u) (member_of_other i top g ns ms u t)

pub box_lists : (i : Problem) → IsInstance i → (top : List ℕ) (g : ℕ) (ms : List Binomial) → (ms ≡ box_list_to i top g) ↔ IsBoxList i top g ms
box_lists i s top g ms =
    (λ e. subst (IsBoxList i top g) (sym e) (is_box_list i s top g), λ t. one_box_list i top g ms (box_list_to i top g) t (is_box_list i s top g))

-- ---- at the sum of the bound

pub box_is_whole : (i : Problem) → IsInstance i → (top : List ℕ) (g : ℕ) → total top ≤ g → box_list_to i top g ≡ box_list i top
box_is_whole i s top g l =
    one_in_order i (box_list_to i top g) (box_list i top) (up_to_in_order i s top g) (box_in_order i s top) (λ m c. (up_to_gives i top g m c).0)
    (λ m c. up_to_has i top g m c (let d = total-divides (degree_of i.columns m.head) top (box_gives i s top m c).1 in omega (arith, d)))

pub whole_box_list : (i : Problem) → IsInstance i → (top : List ℕ) → IsBoxList i top (total top) (box_list i top)
whole_box_list i s top = subst (IsBoxList i top (total top)) (box_is_whole i s top (total top) (omega arith)) (is_box_list i s top (total top))
