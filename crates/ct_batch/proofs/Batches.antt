-- What is collected from closures that may want memory.
use Rattle.std.proofs.Common.{◌≡◌, List, [], ◌∷◌, map, Ok, Err, IfOk, subst}
use Rattle.std.specs.Prelude.{MatchResult}
use Rattle.std.specs.declared.result.Result.{Result}
use Rattle.std.specs.List.{AllZip}

-- what holds of the value, from what each case says
pub IfOk-matched : {T E : Type 0} (r : Result T E) (P : T → Type 0) (Q : E → Type 0) (R : T → Type 0) → MatchResult r P Q → ((v : T) → P v → R v) → IfOk r R
IfOk-matched (Ok v) P Q R h f = f v h
IfOk-matched (Err e) P Q R h f = tt

module _ {X T : Type 0} (E : Type 0) (R : X → T → Type 0) where
  abbrev pub answered : X → Result T E → Type 0
  answered x r = IfOk r (R x)

  oks : (xs : List X) (ys : List T) → AllZip answered xs (map Ok ys) → AllZip R xs ys
  oks [] [] h = tt
  oks [] (y ∷ ys) h = absurd h
  oks (x ∷ xs) [] h = absurd h
  oks (x ∷ xs) (y ∷ ys) h = (h.0, oks xs ys h.1)

  -- where each call answered with a value, what holds of its result holds of the value
  pub AllZip-oks : (xs : List X) (rs : List (Result T E)) (ys : List T) → rs ≡ map Ok ys → AllZip answered xs rs → AllZip R xs ys
  AllZip-oks xs rs ys e h = oks xs ys (subst (AllZip answered xs) e h)
