-- Solutions with their costs, and answers beside their requests.
use Rattle.std.proofs.Common.{◌≡◌, ℕ, ◌+◌, ◌<◌, ◌≤◌, List, [], ◌∷◌, ◌++◌, length, get_or, take, drop, map, replicate, All, false, sym, subst, ap, ap₂, ◌∙◌, arith}
use Rattle.std.specs.List.{AllZip}
use Rattle.std.proofs.lemmas.List.{take-take, take_at, take_more, map_push, map_more}
use Rattle.std.proofs.lemmas.List.Elements.{All-nil, All-cons, All-take, All-append, All-drop, All-replicate, All-weaker}
use Rattle.ct_vectors.specs.Vectors.{total, zeros}
use Rattle.ct_vectors.specs.declared.limits.TheConstants.{GRADE_LIMIT, JOB_GRADE_LIMIT}
use Rattle.ct_order.specs.Order.{cost_of}
use Rattle.ct_instance.specs.Instance.{Problem, IsInstance, column_count}
use Rattle.ct_instance.specs.Answer.{IsSolution, costs_of}
use Rattle.ct_instance.proofs.Answer.{solution_in_fiber}
use Rattle.ct_instance.proofs.Points.{costs_of-take, right-total}
use Rattle.ct_best.proofs.Backwards.{small_coordinates}
use Rattle.ct_legal.specs.Cases.{Case, plain_case}
use Rattle.ct_version.specs.Desks.{Place}
use Rattle.ct_best.specs.Best.{point_of}
use Rattle.ct_best_report.specs.BestReport.{IsAsked}
use Rattle.ct_instance.specs.Instance.{grade_of}
use Rattle.std.proofs.lemmas.List.{get_or_append_left, length-append}

-- n numbers and an artificial that is 0
pub padded_costs : (i : Problem) → IsInstance i → (x after : List ℕ) → length x ≡ column_count i →
    map (λ row. cost_of row (take (column_count i + 1) (x ++ after))) i.cost_rows ≡ costs_of i x
padded_costs i inst x after e =
    sym (costs_of-take i inst (take (column_count i + 1) (x ++ after))) ∙
    ap (costs_of i) (take-take (column_count i) (column_count i + 1) (x ++ after) (omega arith) ∙ take_at x after (column_count i) e)

pub padded_small : (n : ℕ) (x : List ℕ) → All (λ a. a ≤ JOB_GRADE_LIMIT) x → (k : ℕ) → All (λ a. a ≤ JOB_GRADE_LIMIT) (take k (x ++ drop n (replicate 80 0)))
padded_small n x small k =
    All-take (λ a. a ≤ JOB_GRADE_LIMIT) k (x ++ drop n (replicate 80 0))
    (All-append (λ a. a ≤ JOB_GRADE_LIMIT) x (drop n (replicate 80 0)) small (All-drop (λ a. a ≤ JOB_GRADE_LIMIT) n (replicate 80 0) (All-replicate (λ a. a ≤ JOB_GRADE_LIMIT) 80 0 (omega arith))))

-- a solution's numbers are within the limit
pub solution_small : (i : Problem) → IsInstance i → (b x : List ℕ) → IsAsked i b → IsSolution i b x → All (λ a. a ≤ JOB_GRADE_LIMIT) x
solution_small i inst b x asked s k d l =
    let fiber = (solution_in_fiber i b x).0 s in
    let grade : grade_of i.columns (point_of i x) ≤ GRADE_LIMIT = subst (λ (g : ℕ). g ≤ GRADE_LIMIT) (sym (ap total fiber.degree)) (right-total i inst b asked.right asked.limit) in
    subst (λ (a : ℕ). a ≤ JOB_GRADE_LIMIT) (get_or_append_left x (zeros i.rows) d k l)
    (small_coordinates i inst (point_of i x) grade k d (omega (arith, l, length-append x (zeros i.rows))))

-- a list and what it is made of, with one more of each
pub made_more : {X Y Z : Type 0} (f : X → Z) (g : Y → Z) (xs : List X) (ys : List Y) (i : ℕ) (x : X) (y : Y) → i < length ys → y ≡ get_or ys i y →
    map f xs ≡ map g (take i ys) → f x ≡ g y → map f (xs ++ x ∷ []) ≡ map g (take (i + 1) ys)
made_more f g xs ys i x y inside is so_far same =
    map_push f xs x ∙ ap₂ (λ zs z. zs ++ z ∷ []) so_far (same ∙ ap g is) ∙ sym (map_more g ys i y inside)

-- what holds of all in front, and of one more
pub all_more : {X : Type 0} (P Q : X → Type 0) (xs : List X) (i : ℕ) (x : X) → i < length xs → x ≡ get_or xs i x → ((y : X) → P y → Q y) → All P (take i xs) → Q x → All Q (take (i + 1) xs)
all_more P Q xs i x inside is weaker all here =
    subst (All Q) (ap (λ z. take i xs ++ z ∷ []) is ∙ sym (take_more xs i x inside))
    (All-append Q (take i xs) (x ∷ []) (All-weaker P Q weaker (take i xs) all) (All-cons Q x [] here (All-nil Q)))

-- one more beside its partner
zip_push : {X Y : Type 0} (R : X → Y → Type 0) (xs : List X) (ys : List Y) (x : X) (y : Y) → AllZip R xs ys → R x y → AllZip R (xs ++ x ∷ []) (ys ++ y ∷ [])
zip_push R [] [] x y a r = (r, tt)
zip_push R [] (w ∷ ys) x y a r = absurd a
zip_push R (w ∷ xs) [] x y a r = absurd a
zip_push R (w ∷ xs) (v ∷ ys) x y a r = (a.0, zip_push R xs ys x y a.1 r)

pub zip_more : {X Y : Type 0} (R : X → Y → Type 0) (xs : List X) (ys : List Y) (i : ℕ) (x : X) (y : Y) → i < length xs → x ≡ get_or xs i x → AllZip R (take i xs) ys → R x y →
    AllZip R (take (i + 1) xs) (ys ++ y ∷ [])
zip_more R xs ys i x y inside is a r =
    subst (λ l. AllZip R l (ys ++ y ∷ [])) (ap (λ z. take i xs ++ z ∷ []) is ∙ sym (take_more xs i x inside)) (zip_push R (take i xs) ys x y a r)

-- the case of a place
abbrev pub case_in : Place → Case
case_in p = plain_case p.instance p.limit false false
