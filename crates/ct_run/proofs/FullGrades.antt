-- When the outcome of a grade is full.
use Rattle.std.proofs.Common.{◌≡◌, ℕ, ◌≤◌, ◌↔◌, Option, Some, None, ap}
use Rattle.ct_instance.specs.Instance.{Problem}
use Rattle.ct_instance.specs.Versions.{IsFullGrade}
use Rattle.ct_instance.specs.Reach.{full_grade_up_to}
use Rattle.ct_levels.proofs.Full.{full_some}
use Rattle.ct_run.specs.Outcome.{full}
use Rattle.ct_run.specs.Plan.{ledger_or_full}

full_from : (o : Option ℕ) (i : Problem) (g f : ℕ) → (ledger_or_full i g o ≡ full f) ↔ (o ≡ Some f)
full_from None i g f = (λ e. absurd (cc), λ e. absurd (cc))
full_from (Some h) i g f = (λ e. let same : h ≡ f = cc in ap Some same, λ e. let same : h ≡ f = cc in ap full same)

pub full_exact : (i : Problem) (limit g f : ℕ) → (ledger_or_full i g (full_grade_up_to i limit g) ≡ full f) ↔ (IsFullGrade i limit f × (f ≤ g))
full_exact i limit g f =
    let from = full_from (full_grade_up_to i limit g) i g f in
    let some = full_some i limit g f in
    (λ e. some.0 (from.0 e), λ h. from.1 (some.1 h))
