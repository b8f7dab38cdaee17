-- The test whether two jobs are one.
use Rattle.std.proofs.Common.{ℕ, ◌≡◌, Bool, true, false, true≢false, ◌&&◌, nat_eq, Decides, refl, sym, ap, ap₂, eqb-true, eq-eqb}
use Rattle.std.proofs.lemmas.Bool.{and_parts, and_from}
use Rattle.ct_instance.specs.declared.jobs.Job.{Job}
use Rattle.ct_instance.specs.declared.jobs.Job.TheVariants.{Generator, Pair}
use Rattle.ct_instance.specs.contracts.jobs.JobPartialEq.TheImpl as derived
use Rattle.ct_instance.specs.Jobs.{is_same_job}

abbrev is_generator : Job → Bool
is_generator (Generator j) = true
is_generator (Pair a b) = false

abbrev first_of : Job → ℕ
first_of (Generator j) = j
first_of (Pair a b) = a

abbrev second_of : Job → ℕ
second_of (Generator j) = 0
second_of (Pair a b) = b

pub same_job_test : (j k : Job) → Decides (is_same_job j k) (j ≡ k)
same_job_test (Generator a) (Generator b) = (λ e. ap Generator (eqb-true a b e), λ e. eq-eqb a b (ap first_of e))
same_job_test (Generator a) (Pair b c) = (λ e. absurd (true≢false (sym e)), λ e. absurd (true≢false (ap is_generator e)))
same_job_test (Pair a b) (Generator c) = (λ e. absurd (true≢false (sym e)), λ e. absurd (true≢false (sym (ap is_generator e))))
same_job_test (Pair a b) (Pair c d) = (
  λ e. let u = and_parts (nat_eq a c) (nat_eq b d) e in ap₂ Pair (eqb-true a c u.0) (eqb-true b d u.1),
  λ e. and_from (nat_eq a c) (nat_eq b d) (eq-eqb a c (ap first_of e)) (eq-eqb b d (ap second_of e)),
)

-- it is the derived comparison
pub derived_same_job : (j k : Job) → (derived.ghosts).eq j k ≡ is_same_job j k
derived_same_job (Generator a) (Generator b) = refl
derived_same_job (Generator a) (Pair b c) = refl
derived_same_job (Pair a b) (Generator c) = refl
derived_same_job (Pair a b) (Pair c d) = refl
