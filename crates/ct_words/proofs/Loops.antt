-- One word more in the loop over the words.
use Rattle.std.proofs.Common.{◌≡◌, ℕ, ◌+◌, ◌<◌, List, [], ◌∷◌, length, map, drop, get_or, is_some, find, cond, ◌||◌, Bool, true, false, option_map, Option, Some, None, refl, ap, sym, ◌∙◌}
use Rattle.std.specs.List.{list_any}
use Rattle.std.proofs.lemmas.List.{drop_more}
use Rattle.ct_words.specs.Role.{WordAsked, role_of, ◌>>=◌}
use Rattle.ct_words.specs.Parts.{joined, parts_of}
use Rattle.ct_words.specs.Table.{WordOption}

-- the element at an index, and those after it
pub map_at : {X : Type 0} (f : X → List ℕ) (xs : List X) (i : ℕ) (x : X) → i < length xs → x ≡ get_or xs i x → map f (drop i xs) ≡ f x ∷ map f (drop (i + 1) xs)
map_at f xs i x h is = ap (map f) (drop_more xs i x h) ∙ ap (λ y. f y ∷ map f (drop (i + 1) xs)) (sym is)

pub parts-word : (rows : List WordOption) (waiting : Option WordAsked) (word : List ℕ) (words : List (List ℕ))
    → parts_of rows waiting (word ∷ words) ≡ (role_of rows waiting word >>= joined word words (λ next. parts_of rows next words))
unfolding parts_of
parts-word rows None word words = refl
parts-word rows (Some asked) word words = refl

-- ---- what the rules read of rows and options

pub find_seen : {X Y : Type 0} (see : X → Y) (p : Y → Bool) (xs : List X) → option_map see (find (λ x. p (see x)) xs) ≡ find p (map see xs)
find_seen see p [] = refl
find_seen see p (x ∷ xs) = by_test (p (see x)) (find_seen see p xs)
  where
    by_test : (b : Bool) → option_map see (find (λ y. p (see y)) xs) ≡ find p (map see xs) → option_map see (cond b (Some x) (find (λ y. p (see y)) xs)) ≡ cond b (Some (see x)) (find p (map see xs))
    by_test true more = refl
    by_test false more = more

pub any_seen : {X Y : Type 0} (see : X → Y) (p : Y → Bool) (xs : List X) → list_any (λ x. p (see x)) xs ≡ list_any p (map see xs)
any_seen see p [] = refl
any_seen see p (x ∷ xs) = ap (λ b. p (see x) || b) (any_seen see p xs)

pub waits_seen : {X Y : Type 0} (see : X → Y) (o : Option X) {b : Bool} → is_some o ≡ b → is_some (option_map see o) ≡ b
waits_seen see None e = e
waits_seen see (Some x) e = e
