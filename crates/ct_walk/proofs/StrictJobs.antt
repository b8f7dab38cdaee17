-- Job order is strict.
use Rattle.std.proofs.Common.{◌<◌, ◌≡◌, ◌⊎◌, inl, inr, arith}
use Rattle.ct_instance.specs.declared.jobs.Job.{Job}
use Rattle.ct_instance.specs.declared.jobs.Job.TheVariants.{Generator, Pair}
use Rattle.ct_instance.specs.Jobs.{JobComesBefore}

pub never_before_itself : (j : Job) → JobComesBefore j j → ⊥
never_before_itself (Generator j) h = let l : j < j = h in omega arith
never_before_itself (Pair a b) (inl l) = omega arith
never_before_itself (Pair a b) (inr t) = let l : b < b = t.1 in omega arith

pub before_chain : (x y z : Job) → JobComesBefore x y → JobComesBefore y z → JobComesBefore x z
before_chain (Generator x) (Generator y) (Generator z) h k = let u : x < y = h in let v : y < z = k in omega arith
before_chain (Generator x) y (Pair e f) h k = tt
before_chain (Generator x) (Pair c d) (Generator z) h k = absurd k
before_chain (Pair a b) (Generator y) z h k = absurd h
before_chain (Pair a b) (Pair c d) (Generator z) h k = absurd k
before_chain (Pair a b) (Pair c d) (Pair e f) h k = both h k
  where
    both : (a < c) ⊎ ((a ≡ c) × (b < d)) → (c < e) ⊎ ((c ≡ e) × (d < f)) → (a < e) ⊎ ((a ≡ e) × (b < f))
    both (inl x) (inl y) = inl (omega arith)
    both (inl x) (inr y) = let s : c ≡ e = y.0 in inl (omega arith)
    both (inr x) (inl y) = let s : a ≡ c = x.0 in inl (omega arith)
    both (inr x) (inr y) =
        let s : a ≡ c = x.0 in let t : c ≡ e = y.0 in let u : b < d = x.1 in let v : d < f = y.1 in inr (omega arith, omega arith)
