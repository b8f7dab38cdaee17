-- The check of the moves of a ledger, one by one.
use Rattle.std.proofs.Common.{ℕ, ◌+◌, ◌<◌, ◌≡◌, Option, List, map, length, drop, get_or, ap, ◌∙◌}
use Rattle.std.specs.Option.{option_or, option_map}
use Rattle.std.proofs.lemmas.List.{drop_more}
use Rattle.ct_instance.specs.Instance.{Problem}
use Rattle.ct_checker.specs.declared.verdicts.Reason.{Reason}
use Rattle.ct_checker.specs.Refusals.{move_reason, refused_move}
use Rattle.ct_checker.specs.declared.stops.CheckStop.{CheckStop}
use Rattle.ct_checker.specs.declared.stops.CheckStop.TheVariants as stop
use Rattle.ct_checker.specs.Checking.{as_move, IsRefusedBy}

-- what is refused first of the moves from the k-th on
pub move_left : (i : Problem) (g : ℕ) (pairs : List (List ℕ × List ℕ)) (k : ℕ) (d : List ℕ × List ℕ) → k < length pairs →
    refused_move i g (4 + k) (map as_move (drop k pairs)) ≡
    option_or (option_map {U = ℕ × Reason} (λ r. (4 + k, r)) (move_reason i g (as_move (get_or pairs k d)))) (refused_move i g (4 + k + 1) (map as_move (drop (k + 1) pairs)))
move_left i g pairs k d l = ap (λ xs. refused_move i g (4 + k) (map as_move xs)) (drop_more pairs k d l)

-- the first of several that is refused is refused of all
pub refused_first : (first rest all : Option (ℕ × Reason)) (e : CheckStop) → IsRefusedBy first e → all ≡ option_or first rest → IsRefusedBy all e
refused_first first rest all (stop.Refused line reason) u f = f ∙ ap (λ o. option_or o rest) u
refused_first first rest all stop.Memory u f = tt
