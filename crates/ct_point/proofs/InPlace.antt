-- A loop that writes the places of a list one after another.
use Rattle.std.proofs.Common.{◌≡◌, ℕ, ◌+◌, ◌≤◌, ◌<◌, List, [], ◌∷◌, ◌++◌, length, get_or, set, take, drop, sym, ap, ◌∙◌, arith}
use Rattle.std.proofs.lemmas.List.{take_more_set, take_more, drop_more, take_all, get_or-drop, drop-set-lt}

-- the first i places of now are those of end, and the others are still those of before
pub record IsWritten (end before now : List ℕ) (i : ℕ) : Type 0 where
  pub done : take i now ≡ take i end
  pub left : drop i now ≡ drop i before

pub get_or-written : (end before now : List ℕ) (i : ℕ) → IsWritten end before now i → get_or now i 0 ≡ get_or before i 0
get_or-written end before now i w =
    let there : get_or (drop i now) 0 0 ≡ get_or now (i + 0) 0 = get_or-drop i now 0 0 in
    let here : get_or (drop i before) 0 0 ≡ get_or before (i + 0) 0 = get_or-drop i before 0 0 in
    let same : get_or (drop i now) 0 0 ≡ get_or (drop i before) 0 0 = ap (λ l. get_or l 0 0) w.left in
    let index : i + 0 ≡ i = omega arith in
    ap (λ k. get_or now k 0) (sym index) ∙ sym there ∙ same ∙ here ∙ ap (λ k. get_or before k 0) index

pub IsWritten-more : (end before now : List ℕ) (i v : ℕ) → i < length now → length now ≡ length end → length now ≡ length before →
    v ≡ get_or end i 0 → IsWritten end before now i → IsWritten end before (set now i v) (i + 1)
IsWritten-more end before now i v l e f g w =
    let l-end : i < length end = omega arith in
    let l-before : i < length before = omega arith in
    record {
      done = take_more_set now i v l ∙ ap (λ k. k ++ v ∷ []) w.done ∙ ap (λ x. take i end ++ x ∷ []) g ∙ sym (take_more end i 0 l-end);
      left = drop_after now before i v l l-before w.left;
    }
  where
    drop_after : (now before : List ℕ) (i v : ℕ) → i < length now → i < length before → drop i now ≡ drop i before →
        drop (i + 1) (set now i v) ≡ drop (i + 1) before
    drop_after now before i v l k h =
        let below : i < i + 1 = omega arith in
        let a : drop i now ≡ get_or now i 0 ∷ drop (i + 1) now = drop_more now i 0 l in
        let b : drop i before ≡ get_or before i 0 ∷ drop (i + 1) before = drop_more before i 0 k in
        let c : drop (i + 1) (set now i v) ≡ drop (i + 1) now = drop-set-lt (i + 1) now i v below in
        cc

pub IsWritten-all : (end before now : List ℕ) (i : ℕ) → length now ≤ i → length now ≡ length end → IsWritten end before now i → now ≡ end
IsWritten-all end before now i l e w =
    let k : length end ≤ i = omega arith in
    sym (take_all i now l) ∙ w.done ∙ take_all i end k
