-- Rows of costs with costs of 0 behind each.
use Rattle.std.proofs.Common.{ℕ, ℤ, pos, nat_abs, ◌≡◌, ◌≤◌, ◌<◌, ◌+◌, ◌-◌, ◌*◌, All, List, ◌∷◌, ◌++◌, length, take, drop, replicate, refl, sym, ap, ap₂, ◌∙◌, arith, zero, suc, append_assoc, length-append, length-drop}
use Rattle.std.proofs.lemmas.List.{length-take-le, length-replicate, drop-drop}
use Rattle.std.proofs.lemmas.List.Elements.{All-append, All-nil, All-take, All-drop, All-replicate}
use Rattle.std.proofs.Math.Seq.{take-append_seam, drop-append_seam}
use Rattle.ct_vectors.specs.declared.limits.TheConstants.{COST_LIMIT}
use Rattle.ct_order.specs.Costs.{rows_of}
use Rattle.ct_form.specs.Made.{padded_costs}
use Rattle.ct_form.proofs.Orders.{padded_rows}

row_wide : (n k : ℕ) (cs : List ℤ) → n ≤ length cs → length (take n cs ++ replicate k (pos 0)) ≡ n + k
row_wide n k cs l = length-append (take n cs) (replicate k (pos 0)) ∙ ap₂ ◌+◌ (length-take-le n cs l) (length-replicate k (pos 0))

pub length-padded_costs : (r n k : ℕ) (cs : List ℤ) → length cs ≡ r * n → length (padded_costs r n k cs) ≡ r * (n + k)
length-padded_costs zero n k cs e = omega arith
length-padded_costs (suc r) n k cs e =
    let rest : length (padded_costs r n k (drop n cs)) ≡ r * (n + k) = length-padded_costs r n k (drop n cs) (omega (arith, length-drop n cs)) in
    omega (arith, length-append (take n cs ++ replicate k (pos 0)) (padded_costs r n k (drop n cs)), row_wide n k cs (omega arith), rest)

pub rows_of-padded : (r n k : ℕ) (cs : List ℤ) → length cs ≡ r * n → rows_of r (n + k) (padded_costs r n k cs) ≡ padded_rows k (rows_of r n cs)
rows_of-padded zero n k cs e = refl
rows_of-padded (suc r) n k cs e =
    let front : List ℤ = take n cs ++ replicate k (pos 0) in
    let rest : List ℤ = padded_costs r n k (drop n cs) in
    let wide : length front ≡ n + k = row_wide n k cs (omega arith) in
    ap₂ ◌∷◌ (ap (λ w. take w (front ++ rest)) (sym wide) ∙ take-append_seam front rest)
    (ap (rows_of r (n + k)) (ap (λ w. drop w (front ++ rest)) (sym wide) ∙ drop-append_seam front rest) ∙
    rows_of-padded r n k (drop n cs) (omega (arith, length-drop n cs)))

pub padded_costs-limit : (r n k : ℕ) (cs : List ℤ) → All (λ c. nat_abs c ≤ COST_LIMIT) cs → All (λ c. nat_abs c ≤ COST_LIMIT) (padded_costs r n k cs)
padded_costs-limit zero n k cs a = All-nil (λ c. nat_abs c ≤ COST_LIMIT)
padded_costs-limit (suc r) n k cs a =
    All-append (λ c. nat_abs c ≤ COST_LIMIT) (take n cs ++ replicate k (pos 0)) (padded_costs r n k (drop n cs))
    (All-append (λ c. nat_abs c ≤ COST_LIMIT) (take n cs) (replicate k (pos 0)) (All-take (λ c. nat_abs c ≤ COST_LIMIT) n cs a)
    (All-replicate (λ c. nat_abs c ≤ COST_LIMIT) k (pos 0) (omega arith)))
    (padded_costs-limit r n k (drop n cs) (All-drop (λ c. nat_abs c ≤ COST_LIMIT) n cs a))

-- a row more
pub padded_step : (made : List ℤ) (rows n k row : ℕ) (cs : List ℤ) → row < rows →
    ((made ++ take n (drop (row * n) cs)) ++ replicate k (pos 0)) ++ padded_costs (rows - (row + 1)) n k (drop ((row + 1) * n) cs) ≡
    made ++ padded_costs (rows - row) n k (drop (row * n) cs)
padded_step made rows n k row cs l =
    let more : suc (rows - (row + 1)) ≡ rows - row = omega arith in
    let next : n + row * n ≡ (row + 1) * n = omega arith in
    let at : drop n (drop (row * n) cs) ≡ drop ((row + 1) * n) cs = drop-drop n (row * n) cs ∙ ap (λ w. drop w cs) (omega arith) in
    ap (λ (p : List ℤ). p ++ padded_costs (rows - (row + 1)) n k (drop ((row + 1) * n) cs)) (append_assoc made (take n (drop (row * n) cs)) (replicate k (pos 0))) ∙
    append_assoc made (take n (drop (row * n) cs) ++ replicate k (pos 0)) (padded_costs (rows - (row + 1)) n k (drop ((row + 1) * n) cs)) ∙
    ap (λ (p : List ℤ). made ++ ((take n (drop (row * n) cs) ++ replicate k (pos 0)) ++ padded_costs (rows - (row + 1)) n k p)) (sym at) ∙
    ap (λ r. made ++ padded_costs r n k (drop (row * n) cs)) more
