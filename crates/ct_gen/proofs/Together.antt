-- Tallies of lines one after another.
use Rattle.std.proofs.Common.{◌≡◌, ℕ, suc, ℤ, pos, ◌+ℤ◌, ◌+◌, ◌*◌, ◌≤◌, ◌<◌, List, [], ◌∷◌, ◌++◌, length, take, drop, get_or, All, refl, sym, subst, ap, ◌∙◌, arith}
use Rattle.std.proofs.Math.IntN.{+ℤ_assoc}
use Rattle.std.proofs.Math.Nat.{add_assoc}
use Rattle.std.specs.List.{flat_map}
use Rattle.std.proofs.lemmas.List.{length-append, take_more, flat_map_more}
use Rattle.std.proofs.lemmas.List.Concat.{get_or-flat_map}
use Rattle.std.proofs.lemmas.List.Folds.{length-flat_map-take}
use Rattle.std.proofs.lemmas.List.Sums.{sum_by-append}
use Rattle.std.proofs.lemmas.Int.{ints}
use Rattle.ct_session.specs.declared.lines.Line.{Line}
use Rattle.ct_gen.specs.declared.tally.Tally.{Tally}
use Rattle.ct_gen.specs.Tallies.{is_optimum, is_infeasible, is_full, cost_of, cost_sum, tally_of, plus}

-- tallies with the same numbers
same_tally : (r o i f r2 o2 i2 f2 : ℕ) (c c2 : ℤ) → r ≡ r2 → o ≡ o2 → i ≡ i2 → f ≡ f2 → c ≡ c2 →
    ◌≡◌ {A = Tally} (record { requests = r; optimum = o; infeasible = i; full = f; cost = c }) (record { requests = r2; optimum = o2; infeasible = i2; full = f2; cost = c2 })
same_tally r o i f r2 o2 i2 f2 c c2 sr so si sf sc = rw (sr, so, si, sf, sc) refl

cost_sum-append : (xs ys : List Line) → cost_sum (xs ++ ys) ≡ cost_sum xs +ℤ cost_sum ys
cost_sum-append [] ys = omega (arith, ints)
cost_sum-append (x ∷ xs) ys = ap (λ (z : ℤ). cost_of x +ℤ z) (cost_sum-append xs ys) ∙ sym (+ℤ_assoc (cost_of x) (cost_sum xs) (cost_sum ys))

pub tally_of-append : (xs ys : List Line) → tally_of (xs ++ ys) ≡ plus (tally_of xs) (tally_of ys)
tally_of-append xs ys =
    same_tally _ _ _ _ _ _ _ _ _ _ (length-append xs ys) (sum_by-append _ xs ys) (sum_by-append _ xs ys) (sum_by-append _ xs ys) (cost_sum-append xs ys)

pub plus_assoc : (a b c : Tally) → plus (plus a b) c ≡ plus a (plus b c)
plus_assoc a b c =
    same_tally _ _ _ _ _ _ _ _ _ _ (add_assoc a.requests b.requests c.requests) (add_assoc a.optimum b.optimum c.optimum) (add_assoc a.infeasible b.infeasible c.infeasible) (add_assoc a.full b.full c.full) (+ℤ_assoc a.cost b.cost c.cost)

-- lines that are added after others
pub plus_more : (t : Tally) (xs ys : List Line) → plus (plus t (tally_of xs)) (tally_of ys) ≡ plus t (tally_of (xs ++ ys))
plus_more t xs ys = plus_assoc t (tally_of xs) (tally_of ys) ∙ ap (plus t) (sym (tally_of-append xs ys))

pub none_plus : (t : Tally) → plus (tally_of []) t ≡ t
none_plus t = same_tally _ _ _ _ _ _ _ _ _ _ (omega arith) (omega arith) (omega arith) (omega arith) (omega (arith, ints))

-- ---- pieces of lines one after another, as a loop takes them

take_piece : {A : Type 0} (f : A → List Line) (xs : List A) (i : ℕ) (x : A) → i < length xs → x ≡ get_or xs i x → flat_map f (take (i + 1) xs) ≡ flat_map f (take i xs) ++ f x
take_piece {A} f xs i x below is =
    let front : take (i + 1) xs ≡ take i xs ++ x ∷ [] = take_more xs i x below ∙ ap (λ (y : A). take i xs ++ y ∷ []) (sym is) in
    ap (flat_map f) front ∙ sym (flat_map_more f [] (take i xs) x)

pub piece_more : {A : Type 0} (f : A → List Line) (t t1 t2 : Tally) (xs : List A) (i : ℕ) (x : A) → i < length xs → x ≡ get_or xs i x
    → t1 ≡ plus t (tally_of (flat_map f (take i xs))) → t2 ≡ plus t1 (tally_of (f x)) → t2 ≡ plus t (tally_of (flat_map f (take (i + 1) xs)))
piece_more f t t1 t2 xs i x below is so_far more =
    more ∙ ap (λ (u : Tally). plus u (tally_of (f x))) so_far ∙ plus_more t (flat_map f (take i xs)) (f x) ∙ ap (λ (ls : List Line). plus t (tally_of ls)) (sym (take_piece f xs i x below is))

pub line_more : (t t1 t2 : Tally) (lines : List Line) (i : ℕ) (x : Line) → i < length lines → x ≡ get_or lines i x
    → t1 ≡ plus t (tally_of (take i lines)) → t2 ≡ plus t1 (tally_of (x ∷ [])) → t2 ≡ plus t (tally_of (take (i + 1) lines))
line_more t t1 t2 lines i x below is so_far more =
    let front : take (i + 1) lines ≡ take i lines ++ x ∷ [] = take_more lines i x below ∙ ap (λ (y : Line). take i lines ++ y ∷ []) (sym is) in
    more ∙ ap (λ (u : Tally). plus u (tally_of (x ∷ []))) so_far ∙ plus_more t (take i lines) (x ∷ []) ∙ ap (λ (ls : List Line). plus t (tally_of ls)) (sym front)

-- the lines of a piece are no more than what is left
pub piece_few : {A : Type 0} (f : A → List Line) (t t1 : Tally) (xs : List A) (i most : ℕ) (x : A) → i < length xs → x ≡ get_or xs i x
    → t1 ≡ plus t (tally_of (flat_map f (take i xs))) → t.requests + length (flat_map f xs) ≤ most → t1.requests + length (f x) ≤ most
piece_few {A} f t t1 xs i most x below is so_far few =
    let had : t1.requests ≡ t.requests + length (flat_map f (take i xs)) = ap (λ (u : Tally). u.requests) so_far in
    let same : length (f x) ≡ length (f (get_or xs i x)) = ap (λ (y : A). length (f y)) is in
    omega (arith, length-flat_map-take f xs i x below, had, same, few)

-- what holds of all lines holds of those of a piece
pub piece_all : {A : Type 0} (P : Line → Type 0) (f : A → List Line) (xs : List A) (i : ℕ) (x : A) → i < length xs → x ≡ get_or xs i x → All P (flat_map f xs) → All P (f x)
piece_all {A} P f xs i x below is all k d within =
    let here : k < length (f (get_or xs i x)) = subst (λ (y : A). k < length (f y)) is within in
    let same : get_or (flat_map f xs) (length (flat_map f (take i xs)) + k) d ≡ get_or (f (get_or xs i x)) k d = get_or-flat_map f xs i k x d below here in
    let inside : length (flat_map f (take i xs)) + k < length (flat_map f xs) = omega (arith, length-flat_map-take f xs i x below, here) in
    subst P (same ∙ ap (λ (y : A). get_or (f y) k d) (sym is)) (all (length (flat_map f (take i xs)) + k) d inside)
