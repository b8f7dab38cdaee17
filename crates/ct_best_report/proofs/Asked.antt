-- The requests of a script are right-hand sides of its instance.
use Rattle.std.proofs.Common.{◌≡◌, ℕ, List, [], ◌∷◌, map, All, arith, sym, subst}
use Rattle.std.specs.List.{flat_map}
use Rattle.std.proofs.lemmas.List.Elements.{All-nil, All-append, All-tail, All-map, All-weaker}
use Rattle.ct_instance.specs.Instance.{Problem}
use Rattle.ct_input.specs.declared.script.Request.{Request}
use Rattle.ct_input.specs.declared.script.Phase.{Phase}
use Rattle.ct_input.specs.declared.script.Script.{Script}
use Rattle.ct_input.specs.Script.{right_of, IsRequest, IsPhase, IsScript}
use Rattle.ct_best_report.specs.BestReport.{rights_in, IsAsked}

all_joined : {X Y : Type 0} (P : Y → Type 0) (f : X → List Y) (xs : List X) → All (λ x. All P (f x)) xs → All P (flat_map f xs)
all_joined P f [] h = All-nil P
all_joined P f (x ∷ xs) h = All-append P (f x) (flat_map f xs) (h 0 x (omega arith)) (all_joined P f xs (All-tail (λ y. All P (f y)) x xs h))

asked_in : (i : Problem) (requests : List Request) → All (IsRequest i.rows) requests → All (IsAsked i) (map right_of requests)
asked_in i requests h = All-map (IsAsked i) right_of requests (All-weaker (IsRequest i.rows) (λ r. IsAsked i (right_of r)) (λ r a. record { right = a.right; limit = a.limit }) requests h)

pub all_asked : (i : Problem) (script : Script) → IsScript i.rows script → All (IsAsked i) (rights_in script)
all_asked i script h =
    all_joined (IsAsked i) (λ (phase : Phase). flat_map (λ requests. map right_of requests) phase.sessions) script.phases
    (All-weaker (IsPhase i.rows) (λ (phase : Phase). All (IsAsked i) (flat_map (λ requests. map right_of requests) phase.sessions))
    (λ phase p. all_joined (IsAsked i) (λ requests. map right_of requests) phase.sessions
    (All-weaker (λ requests. All (IsRequest i.rows) requests) (λ requests. All (IsAsked i) (map right_of requests)) (λ requests a. asked_in i requests a) phase.sessions p.sessions))
    script.phases h)

pub same_asked : (i : Problem) (script : Script) (rights : List (List ℕ)) → rights ≡ rights_in script → IsScript i.rows script → All (IsAsked i) rights
same_asked i script rights same h = subst (All (IsAsked i)) (sym same) (all_asked i script h)
