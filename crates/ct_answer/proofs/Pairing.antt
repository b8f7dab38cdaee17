-- One pair more, and the greatest of one number more.
use Rattle.std.proofs.Common.{ℕ, ◌+◌, ◌<◌, ◌≡◌, max, List, [], ◌∷◌, ◌++◌, length, get_or, take, map, All, sym, ap, subst, ◌∙◌, arith}
use Rattle.std.specs.List.{flat_map}
use Rattle.std.proofs.lemmas.List.{take_more, map_push, append-nil}
use Rattle.std.proofs.lemmas.List.Concat.{flat_map-append}
use Rattle.std.proofs.lemmas.List.Elements.{All-get_or}
use Rattle.ct_legal.specs.Scripts.{greatest}
use Rattle.ct_answer.specs.Told.{AreEach}

pub one_more : {X : Type 0} (xs : List X) (k : ℕ) (x : X) → k < length xs → x ≡ get_or xs k x → take k xs ++ x ∷ [] ≡ take (k + 1) xs
one_more xs k x inside is = ap (λ y. take k xs ++ y ∷ []) is ∙ sym (take_more xs k x inside)

-- what holds of all items holds of the one at k
pub at_item : {X : Type 0} (P : X → Type 0) (xs : List X) (k : ℕ) (x : X) → k < length xs → x ≡ get_or xs k x → All P xs → P x
at_item P xs k x inside is all = subst P (sym is) (All-get_or P xs k x inside all)

pub each_pushed : {X Y : Type 0} (R : X → Y → Type 0) (xs : List X) (ys : List Y) (x : X) (y : Y) → AreEach R xs ys → R x y → AreEach R (xs ++ x ∷ []) (ys ++ y ∷ [])
each_pushed R [] [] x y each here = (here, tt)
each_pushed R [] (z ∷ ys) x y each here = absurd each
each_pushed R (w ∷ xs) [] x y each here = absurd each
each_pushed R (w ∷ xs) (z ∷ ys) x y each here = (each.0, each_pushed R xs ys x y each.1 here)

pub each_more : {X Y : Type 0} (R : X → Y → Type 0) (xs : List X) (ys : List Y) (k : ℕ) (x : X) (y : Y) → k < length xs → x ≡ get_or xs k x →
    AreEach R (take k xs) ys → R x y → AreEach R (take (k + 1) xs) (ys ++ y ∷ [])
each_more R xs ys k x y inside is each here = subst (λ zs. AreEach R zs (ys ++ y ∷ [])) (one_more xs k x inside is) (each_pushed R (take k xs) ys x y each here)

-- ---- the greatest

greatest_append : (xs ys : List ℕ) → greatest (xs ++ ys) ≡ max (greatest xs) (greatest ys)
greatest_append [] ys = let t : greatest ys ≡ max 0 (greatest ys) = omega arith in t
greatest_append (x ∷ xs) ys = ap (max x) (greatest_append xs ys) ∙ (let t : max x (max (greatest xs) (greatest ys)) ≡ max (max x (greatest xs)) (greatest ys) = omega arith in t)

pub greatest_more : {X : Type 0} (f : X → ℕ) (xs : List X) (k top first : ℕ) (x : X) → k < length xs → x ≡ get_or xs k x →
    top ≡ max first (greatest (map f (take k xs))) → max top (f x) ≡ max first (greatest (map f (take (k + 1) xs)))
greatest_more f xs k top first x inside is so_far =
    let more : greatest (map f (take (k + 1) xs)) ≡ max (greatest (map f (take k xs))) (max (f x) 0) =
    ap (λ zs. greatest (map f zs)) (sym (one_more xs k x inside is)) ∙ ap greatest (map_push f (take k xs) x) ∙ greatest_append (map f (take k xs)) (f x ∷ []) in
    omega (arith, so_far, more)

greatest_flat : {X : Type 0} (f : X → List ℕ) (xs : List X) (x : X) → greatest (flat_map f (xs ++ x ∷ [])) ≡ max (greatest (flat_map f xs)) (greatest (f x))
greatest_flat f xs x = ap greatest (flat_map-append f xs (x ∷ []) ∙ ap (λ ns. flat_map f xs ++ ns) (append-nil (f x))) ∙ greatest_append (flat_map f xs) (f x)

pub greatest_flat_more : {X : Type 0} (f : X → List ℕ) (xs : List X) (k top first : ℕ) (x : X) → k < length xs → x ≡ get_or xs k x →
    top ≡ max first (greatest (flat_map f (take k xs))) → max top (greatest (f x)) ≡ max first (greatest (flat_map f (take (k + 1) xs)))
greatest_flat_more f xs k top first x inside is so_far =
    let more : greatest (flat_map f (take (k + 1) xs)) ≡ max (greatest (flat_map f (take k xs))) (greatest (f x)) =
    ap (λ zs. greatest (flat_map f zs)) (sym (one_more xs k x inside is)) ∙ greatest_flat f (take k xs) x in
    omega (arith, so_far, more)
