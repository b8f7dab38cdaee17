-- Steps one after another: what stops one stops all, and what holds of its value.
use Rattle.std.proofs.Common.{◌≡◌, Bool, true, false, Option, Some, None, Result, Ok, Err, IfOk, List, refl, sym, ap, ◌∙◌, cond}
use Rattle.ct_input.specs.declared.fault.Fault.{Fault}
use Rattle.ct_input.specs.declared.fault.InputStop.{InputStop}
use Rattle.ct_input.specs.declared.fault.InputStop.TheVariants as stops
use Rattle.ct_input.specs.declared.path.PathStep.{PathStep}
use Rattle.ct_input.specs.declared.path.JsonReason.{JsonReason}
use Rattle.ct_input.specs.Sheet.{◌>>=◌, Fails}
use Rattle.ct_json.specs.Refusing.{Refuses}
use Rattle.ct_json.specs.Values.{refuse, only_if}

-- ---- faults

-- a refusal is the fault that a definition refuses with
pub fails_refused : (A : Type 0) (e : InputStop) (here : List PathStep) (reason : JsonReason) → Refuses e here reason → Fails e (refuse {A = A} here reason)
fails_refused A stops.Memory here reason h = tt
fails_refused A (stops.Fault f) here reason h = sym (ap (λ (g : Fault). Err g) h)

-- a fault of a step is a fault of the whole
pub fails_bind : {A B : Type 0} (e : InputStop) (r : Result A Fault) (f : A → Result B Fault) → Fails e r → Fails e (r >>= f)
fails_bind stops.Memory r f h = tt
fails_bind (stops.Fault g) r f h = ap (λ v. v >>= f) h

-- after a step with a value, the whole is what follows
pub fails_after : {A B : Type 0} (e : InputStop) (r : Result A Fault) (x : A) (f : A → Result B Fault) → r ≡ Ok x → Fails e (f x) → Fails e (r >>= f)
fails_after {A} e r x f is h = rw is h

-- ---- values

pub ok_bind : {A B : Type 0} (r : Result A Fault) (f : A → Result B Fault) (P : A → Type 0) (Q : B → Type 0) → IfOk r P → ((x : A) → P x → IfOk (f x) Q) → IfOk (r >>= f) Q
ok_bind (Ok x) f P Q h goes = goes x h
ok_bind (Err e) f P Q h goes = tt

pub ok_any : {A B : Type 0} (r : Result A Fault) (f : A → Result B Fault) (Q : B → Type 0) → ((x : A) → IfOk (f x) Q) → IfOk (r >>= f) Q
ok_any (Ok x) f Q goes = goes x
ok_any (Err e) f Q goes = tt

pub ok_only_if : {A : Type 0} (holds : Bool) (here : List PathStep) (reason : JsonReason) (x : A) (Q : A → Type 0) → (holds ≡ true → Q x) → IfOk (only_if holds here reason x) Q
ok_only_if true here reason x Q h = h refl
ok_only_if false here reason x Q h = tt

pub ok_either : {A : Type 0} (test : Bool) (a b : Result A Fault) (Q : A → Type 0) → IfOk a Q → IfOk b Q → IfOk (cond test a b) Q
ok_either true a b Q h k = h
ok_either false a b Q h k = k
