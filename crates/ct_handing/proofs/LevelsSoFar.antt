-- The levels of the versions so far.
use Rattle.std.proofs.Common.{◌≡◌, ℕ, ◌+◌, ◌-◌, ◌≤◌, ◌<◌, Option, None, Some, List, [], ◌∷◌, length, map, get_or, ⊎_elim, sym, ap, subst, ◌∙◌, refl, arith, zero, suc}
use Rattle.std.proofs.lemmas.Bool.{cases_lt}
use Rattle.std.proofs.lemmas.List.{length_push, length-map, get_or-map, get_or_append_left, get_or_push}
use Rattle.ct_vectors.specs.Vectors.{up_to}
use Rattle.ct_instance.specs.Instance.{Problem}
use Rattle.ct_instance.specs.Versions.{Level, Covers, level_of}
use Rattle.ct_instance.specs.Reach.{first_level_from}
use Rattle.ct_instance.proofs.Above.{level_under}
use Rattle.ct_levels.specs.Levels.{IsFirstVersion}
use Rattle.ct_levels.proofs.Levels.{levels_rise}
use Rattle.ct_levels.proofs.Covering.{first_version}
use Rattle.ct_completion.specs.Kept.{AreLevels}
use Rattle.ct_version.specs.declared.finished.Finished.{Finished}
use Rattle.ct_version.specs.declared.finished.Finished.TheVariants.{All}
use Rattle.ct_version.specs.Editions.{level_seen, level_below}
use Rattle.ct_handing.specs.Handing.{AreRising, IsFirstCovering}

pub under_is_below : (o : Option ℕ) → level_under o ≡ level_below o
under_is_below None = refl
under_is_below (Some g) = refl

length-up_to : (n : ℕ) → length (up_to n) ≡ n + 1
length-up_to zero = refl
length-up_to (suc n) = let rest : length (up_to n) ≡ n + 1 = length-up_to n in omega (arith, length_push (up_to n) (suc n))

get_or-up_to : (n k d : ℕ) → k ≤ n → get_or (up_to n) k d ≡ k
get_or-up_to zero zero d l = refl
get_or-up_to zero (suc k) d l = absurd (omega arith)
get_or-up_to (suc n) k d l =
    ⊎_elim (λ m. get_or_append_left (up_to n) (suc n ∷ []) d k (let e : k < length (up_to n) = omega (arith, length-up_to n, m) in e) ∙ get_or-up_to n k d (omega (arith, m)))
    (λ m. get_or_push (up_to n) (suc n) d k (let e : length (up_to n) ≡ k = omega (arith, length-up_to n, m) in e) ∙ (let e : suc n ≡ k = omega (arith, m) in e)) (cases_lt k (n + 1))

module _ (i : Problem) (k : ℕ) (levels : List Finished) (are : AreLevels i k (map level_seen levels)) where
  pub count : length levels ≡ k + 1
  count = sym (length-map levels level_seen) ∙ ap length are ∙ length-map (up_to k) (level_of i) ∙ length-up_to k

  pub level_at : (j : ℕ) (d : Finished) → j ≤ k → level_seen (get_or levels j d) ≡ level_of i j
  level_at j d within =
      let a : j < length levels = omega (arith, count) in
      let b : j < length (up_to k) = omega (arith, length-up_to k) in
      sym (get_or-map level_seen levels j d (level_of i 0) a) ∙ ap (λ (ls : List Level). get_or ls j (level_of i 0)) are ∙
      get_or-map (level_of i) (up_to k) j 0 (level_of i 0) b ∙ ap (level_of i) (get_or-up_to k j 0 within)

  pub rising : (g : ℕ) → Covers (level_of i k) g → AreRising levels g
  rising g covers = record {
    some = omega (arith, count);
    last = subst (λ (l : Level). Covers l g) (sym (level_at (length levels - 1) All (omega (arith, count))))
        (subst (λ (n : ℕ). Covers (level_of i n) g) (let e : k ≡ length levels - 1 = omega (arith, count) in e) covers);
    rise = λ a b le within c.
        subst (λ (l : Level). Covers l g) (sym (level_at b All (omega (arith, count))))
        (levels_rise i a b g le (subst (λ (l : Level). Covers l g) (level_at a All (omega (arith, count))) c));
  }

  pub first_level : (g n : ℕ) (d : Finished) → IsFirstCovering levels g n → level_seen (get_or levels n d) ≡ first_level_from i g
  first_level g n d f =
      let within : n ≤ k = omega (arith, count, f.within) in
      let first : IsFirstVersion i g n = record {
        covered = subst (λ (l : Level). Covers l g) (level_at n All within) f.covers;
        first = λ j l c. f.first j l (subst (λ (x : Level). Covers x g) (sym (level_at j All (omega arith))) c);
      } in
      level_at n d within ∙ ap (level_of i) ((first_version i g n).1 first)
