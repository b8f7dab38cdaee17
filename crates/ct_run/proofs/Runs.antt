-- What a run of a plan says of its outcome, its causes and the names that it comes to.
use Rattle.std.proofs.Common.{◌≡◌, ℕ, ◌+◌, List, [], ◌∷◌, take, Result, inl, inr, ⊎_elim, refl, sym, ap, subst, ◌∙◌}
use Rattle.ct_outside.specs.Shelf.{Told, untold, absent, holds}
use Rattle.ct_run.specs.Outcome.{RunOutcome}
use Rattle.ct_input.specs.declared.fault.Fault.{Fault}
use Rattle.ct_run.specs.Plan.{Plan, ends, asks, by_value, reads}
use Rattle.ct_run.specs.Running.{HasBytes, IfBytes, IsAmong, Ends, WouldEnd, ComesTo, RunsAfter, Runs}

-- ---- files

pub HasBytes-map : (told : Told) (P Q : List ℕ → Type 0) → ((bytes : List ℕ) → P bytes → Q bytes) → HasBytes told P → HasBytes told Q
HasBytes-map untold P Q f h = (h.0, f h.0 h.1)
HasBytes-map absent P Q f h = h
HasBytes-map (holds bytes) P Q f h = f bytes h

IfBytes-from : (told : Told) (P Q : List ℕ → Type 0) → ((bytes : List ℕ) → P bytes → Q bytes) → HasBytes told P → IfBytes told Q
IfBytes-from untold P Q f h = tt
IfBytes-from absent P Q f h = tt
IfBytes-from (holds bytes) P Q f h = f bytes h

IfBytes-all : (told : Told) (P : List ℕ → Type 0) → ((bytes : List ℕ) → P bytes) → IfBytes told P
IfBytes-all untold P f = tt
IfBytes-all absent P f = tt
IfBytes-all (holds bytes) P f = f bytes

-- what follows from a fact of the bytes where no bytes have another
HasBytes-use : (told : Told) (P Q : List ℕ → Type 0) (G : Type 0) → ((bytes : List ℕ) → P bytes → ¬ (Q bytes) → G) → HasBytes told P → ¬ (HasBytes told Q) → G
HasBytes-use untold P Q G f h apart = f h.0 h.1 (λ q. apart (h.0, q))
HasBytes-use absent P Q G f h apart = absurd h
HasBytes-use (holds bytes) P Q G f h apart = f bytes h apart

-- what holds of the bytes and some name
HasBytes-some : {X : Type 0} (told : Told) (P : List ℕ → X → Type 0) (Q : X → Type 0) →
    HasBytes told (λ bytes. (x : X) × (P bytes x × Q x)) → (x : X) × (HasBytes told (λ bytes. P bytes x) × Q x)
HasBytes-some untold P Q h = (h.1.0, ((h.0, h.1.1.0), h.1.1.1))
HasBytes-some absent P Q h = absurd h
HasBytes-some (holds bytes) P Q h = h

pub HasBytes-out : (told : Told) (P : List ℕ → Type 0) (G : Type 0) → ((bytes : List ℕ) → P bytes → G) → HasBytes told P → G
HasBytes-out untold P G f h = f h.0 h.1
HasBytes-out absent P G f h = absurd h
HasBytes-out (holds bytes) P G f h = f bytes h

-- ---- outcomes

-- what follows from each outcome that the plan may have come to
pub ends-some : (plan : Plan) (told : List ℕ → Told) (P : RunOutcome → Type 0) (G : Type 0) → ((outcome : RunOutcome) → P outcome → G) → Ends plan told P → G
ends-some (ends outcome) told P G f h = f outcome h
ends-some (asks name go) told P G f h = HasBytes-out (told name) (λ bytes. Ends (go bytes) told P) G (λ bytes. ends-some (go bytes) told P G f) h

pub would_end : (plan : Plan) (told : List ℕ → Told) (P Q : RunOutcome → Type 0) → ((outcome : RunOutcome) → P outcome → Q outcome) → Ends plan told P → WouldEnd plan told Q
would_end (ends outcome) told P Q f h = f outcome h
would_end (asks name go) told P Q f h =
    IfBytes-from (told name) (λ bytes. Ends (go bytes) told P) (λ bytes. WouldEnd (go bytes) told Q) (λ bytes. would_end (go bytes) told P Q f) h

pub ends-map : (plan : Plan) (told : List ℕ → Told) (P Q : RunOutcome → Type 0) → ((outcome : RunOutcome) → P outcome → Q outcome) → Ends plan told P → Ends plan told Q
ends-map (ends outcome) told P Q f h = f outcome h
ends-map (asks name go) told P Q f h =
    HasBytes-map (told name) (λ bytes. Ends (go bytes) told P) (λ bytes. Ends (go bytes) told Q) (λ bytes. ends-map (go bytes) told P Q f) h

pub would_end-all : (plan : Plan) (told : List ℕ → Told) (P : RunOutcome → Type 0) → ((outcome : RunOutcome) → P outcome) → WouldEnd plan told P
would_end-all (ends outcome) told P f = f outcome
would_end-all (asks name go) told P f = IfBytes-all (told name) (λ bytes. WouldEnd (go bytes) told P) (λ bytes. would_end-all (go bytes) told P f)

-- ---- runs

module _ (told : List ℕ → Told) (before now : List ℕ → ℕ) (Ended : RunOutcome → Type 0) (Stopped : List ℕ → Type 0) where
  -- a run that can't have stopped came to its outcome
  pub runs-ends : (seen : List (List ℕ)) (plan : Plan) → ((name : List ℕ) → ¬ (Stopped name)) → RunsAfter told before now Ended Stopped seen plan → Ends plan told Ended
  runs-ends seen (ends outcome) none r = r.1
  runs-ends seen (asks name go) none (inl stopped) = absurd (none name stopped.1)
  runs-ends seen (asks name go) none (inr more) =
      HasBytes-map (told name) (λ bytes. RunsAfter told before now Ended Stopped (name ∷ seen) (go bytes)) (λ bytes. Ends (go bytes) told Ended)
      (λ bytes. runs-ends (name ∷ seen) (go bytes) none) more

  -- a run that can't have ended stopped at a name that the plan comes to
  pub runs-cause : (seen : List (List ℕ)) (plan : Plan) → ((outcome : RunOutcome) → ¬ (Ended outcome)) → RunsAfter told before now Ended Stopped seen plan →
      (name : List ℕ) × (ComesTo plan told name × Stopped name)
  runs-cause seen (ends outcome) none r = absurd (none outcome r.1)
  runs-cause seen (asks asked go) none (inl stopped) = (asked, (inl refl, stopped.1))
  runs-cause seen (asks asked go) none (inr more) =
      let found = HasBytes-some (told asked) (λ bytes name. ComesTo (go bytes) told name) Stopped
      (HasBytes-map (told asked) (λ bytes. RunsAfter told before now Ended Stopped (asked ∷ seen) (go bytes)) (λ bytes. (name : List ℕ) × (ComesTo (go bytes) told name × Stopped name))
      (λ bytes. runs-cause (asked ∷ seen) (go bytes) none) more) in
      (found.0, (inr found.1.0, found.1.1))

  -- the counts of names that the plan doesn't come to stay
  pub runs-others : (seen : List (List ℕ)) (plan : Plan) (name : List ℕ) → RunsAfter told before now Ended Stopped seen plan →
      ¬ (IsAmong name seen) → ¬ (ComesTo plan told name) → now name ≡ before name
  runs-others seen (ends outcome) name r apart other = r.0 name apart
  runs-others seen (asks asked go) name (inl stopped) apart other =
      stopped.0 name (⊎_elim (λ same. other (inl same)) apart)
  runs-others seen (asks asked go) name (inr more) apart other =
      HasBytes-use (told asked) (λ bytes. RunsAfter told before now Ended Stopped (asked ∷ seen) (go bytes)) (λ bytes. ComesTo (go bytes) told name) (now name ≡ before name)
      (λ bytes r here. runs-others (asked ∷ seen) (go bytes) name r (⊎_elim (λ same. other (inl same)) apart) here)
      more (λ later. other (inr later))

-- a run that stopped before it fetched anything
pub runs-none : (told : List ℕ → Told) (before : List ℕ → ℕ) (E : RunOutcome → Type 0) (S : List ℕ → Type 0) (plan : Plan) →
    ((outcome : RunOutcome) → E outcome) → ((name : List ℕ) → S name) → Runs told before before E S plan
runs-none told before E S (ends outcome) f g = (λ name out. refl, f outcome)
runs-none told before E S (asks name go) f g = inl (λ other out. refl, g name)

-- a weaker fact of the outcome and of the stop
pub runs-map : (told : List ℕ → Told) (before now : List ℕ → ℕ) (E F : RunOutcome → Type 0) (S R : List ℕ → Type 0) (seen : List (List ℕ)) (plan : Plan) →
    ((outcome : RunOutcome) → E outcome → F outcome) → ((name : List ℕ) → S name → R name) → RunsAfter told before now E S seen plan → RunsAfter told before now F R seen plan
runs-map told before now E F S R seen (ends outcome) f g r = (r.0, f outcome r.1)
runs-map told before now E F S R seen (asks name go) f g (inl stopped) = inl (stopped.0, g name stopped.1)
runs-map told before now E F S R seen (asks name go) f g (inr more) =
    inr (HasBytes-map (told name) (λ bytes. RunsAfter told before now E S (name ∷ seen) (go bytes)) (λ bytes. RunsAfter told before now F R (name ∷ seen) (go bytes))
    (λ bytes. runs-map told before now E F S R (name ∷ seen) (go bytes) f g) more)

-- a run that began after other files were fetched, seen from before them
pub runs-then : (told : List ℕ → Told) (before mid now : List ℕ → ℕ) (E : RunOutcome → Type 0) (S R : List ℕ → Type 0) (seen seen_first : List (List ℕ)) (plan : Plan) →
    ((name : List ℕ) → ¬ (IsAmong name seen_first) → ¬ (IsAmong name seen) × (mid name ≡ before name)) → ((name : List ℕ) → S name → R name) →
    RunsAfter told mid now E S seen plan → RunsAfter told before now E R seen_first plan
runs-then told before mid now E S R seen seen_first (ends outcome) apart g r =
    (λ name out. r.0 name (apart name out).0 ∙ (apart name out).1, r.1)
runs-then told before mid now E S R seen seen_first (asks asked go) apart g (inl stopped) =
    inl (λ name out. stopped.0 name (⊎_elim (λ same. out (inl same)) (apart name (λ h. out (inr h))).0) ∙ (apart name (λ h. out (inr h))).1, g asked stopped.1)
runs-then told before mid now E S R seen seen_first (asks asked go) apart g (inr more) =
    inr (HasBytes-map (told asked) (λ bytes. RunsAfter told mid now E S (asked ∷ seen) (go bytes)) (λ bytes. RunsAfter told before now E R (asked ∷ seen_first) (go bytes))
    (λ bytes. runs-then told before mid now E S R (asked ∷ seen) (asked ∷ seen_first) (go bytes)
    (λ name out. (⊎_elim (λ same. out (inl same)) (apart name (λ h. out (inr h))).0, (apart name (λ h. out (inr h))).1)) g) more)

-- a file that was read: the plan goes on by what its bytes stand for
pub runs-read : (told : List ℕ → Told) (before now : List ℕ → ℕ) (E : RunOutcome → Type 0) (S : List ℕ → Type 0) {A : Type 0} (name : List ℕ)
    (value_of : List ℕ → Result A Fault) (refused : Fault → RunOutcome) (go : A → Plan) (limit : ℕ) (got : List ℕ) (found : Result A Fault) →
    ((bytes : List ℕ) → value_of (take (limit + 1) bytes) ≡ value_of bytes) → HasBytes (told name) (λ bytes. got ≡ take (limit + 1) bytes) → value_of got ≡ found →
    RunsAfter told before now E S (name ∷ []) (by_value refused go found) → Runs told before now E S (reads name value_of refused go)
runs-read told before now E S name value_of refused go limit got found front file is more =
    inr (HasBytes-map (told name) (λ bytes. got ≡ take (limit + 1) bytes) (λ bytes. RunsAfter told before now E S (name ∷ []) (by_value refused go (value_of bytes)))
    (λ bytes same. subst (λ r. RunsAfter told before now E S (name ∷ []) (by_value refused go r)) (sym is ∙ ap value_of same ∙ front bytes) more) file)
