-- What a run up to an ending or a stop says at the top call.
use Rattle.std.proofs.Common.{◌≡◌, ℕ, ◌≤◌, true, false, true≢false, List, [], Option, Result, Ok, Err, inl, inr, refl, sym, ap, ◌∙◌, arith}
use Rattle.std.specs.Prelude.{⊤}
use Rattle.std.specs.Io.KnownBytes.{Appends}
use Rattle.ct_outside.specs.Faults.{Rose}
use Rattle.ct_outside.specs.Shelf.{Told}
use Rattle.ct_outside.specs.Sink.{AppendsFront}
use Rattle.ct_instance.specs.Instance.{Problem}
use Rattle.ct_ledger.specs.Parts.{LedgerParts}
use Rattle.ct_checker.specs.declared.verdicts.Verdict.{Verdict}
use Rattle.ct_checker.specs.declared.verdicts.Verdict.TheVariants.{Accepted, Refused}
use Rattle.ct_checker.specs.Checking.{verdict_of}
use Rattle.ct_input.specs.declared.script.Script.{Script}
use Rattle.ct_legal.specs.Cases.{Case}
use Rattle.ct_run.specs.Checked.{IsVerdictEnding, IsBadLedger, IsLedgerEnding, over, faulty, bad, weighed}
use Rattle.ct_run.specs.Resumption.{IsResumption, refused, unreduced, opens}
use Rattle.ct_run.specs.declared.ending.Ending.{Ending}
use Rattle.ct_run.specs.declared.status.Status.{Status}
use Rattle.ct_run.specs.declared.status.Status.TheVariants as statuses
use Rattle.ct_run.specs.declared.stop.Stop.{Stop}
use Rattle.ct_run.specs.declared.stop.Stop.TheVariants.{Refused, ReadFault, Memory}
use Rattle.ct_run.specs.Outcome.{RunOutcome, usage, bad_instance, bad_sessions, answered, listed, too_many, boxed, certified, full, checked, made, served, resumed, IsEnding, Wrote, WroteFront, is_stop, IsUnlessStopped, IsUnlessMemory}
use Rattle.ct_run.specs.Plan.{Plan, ends, asks}
use Rattle.ct_run.specs.Running.{Ends, WouldEnd, ComesTo, Runs, HasReadFault, NoReadFault}
use Rattle.ct_run.specs.Stopping.{Fits, StoppedBy, EndedBy, Ran}
use Rattle.ct_run.proofs.Runs.{ends-map, ends-some, would_end, would_end-all, runs-ends, runs-cause, runs-others, runs-map}

-- a later count rose over more calls, too
pub stopped-along : (result : Result Ending Stop) (before mid now : ℕ) → before ≤ mid → StoppedBy result mid now → StoppedBy result before now
stopped-along (Ok ending) before mid now up h = h
stopped-along (Err (Refused ending)) before mid now up h = h
stopped-along (Err ReadFault) before mid now up h = omega arith
stopped-along (Err Memory) before mid now up h = tt

-- nothing was asked for
pub stopped_at_once : (plan : Plan) (told : List ℕ → Told) (before : List ℕ → ℕ) → Ran plan told before before (Err Memory)
stopped_at_once (ends outcome) told before = (λ name out. refl, tt)
stopped_at_once (asks asked go) told before = inl (λ name out. refl, tt)

verdict_unstopped : (i : Problem) (l : LedgerParts) (v : Verdict) (status : Status) (text : List ℕ) → IsVerdictEnding i l v status text → is_stop status ≡ false
verdict_unstopped i l (Accepted grade moves) status text h = ap is_stop h.1.0
verdict_unstopped i l (Refused line reason) status text h = ap is_stop h.1.0

resumption_unstopped : (c : Case) (script : Script) (l : LedgerParts) (status : Status) (text : List ℕ) → IsResumption c script l status text → is_stop status ≡ false
resumption_unstopped c script l status text (refused line reason first own same) = ap is_stop own
resumption_unstopped c script l status text (unreduced number accepted first own same) = ap is_stop own
resumption_unstopped c script l status text (opens accepted reduced own report legal written) = ap is_stop own

bad_unstopped : (bytes : List ℕ) (status : Status) (text : List ℕ) → IsBadLedger bytes status text → is_stop status ≡ false
bad_unstopped bytes status text (over long own same) = ap is_stop own
bad_unstopped bytes status text (faulty line within fault own same) = ap is_stop own

ledger_unstopped : (bytes : List ℕ) (status : Status) (text : List ℕ) (Weighed : LedgerParts → Type 0) → ((l : LedgerParts) → Weighed l → is_stop status ≡ false) →
    IsLedgerEnding bytes status text Weighed → is_stop status ≡ false
ledger_unstopped bytes status text Weighed own (bad is) = bad_unstopped bytes status text is
ledger_unstopped bytes status text Weighed own (weighed l file ends_so) = own l ends_so

-- no outcome ends with the status of a stop
ending_unstopped : (outcome : RunOutcome) (status : Status) (text : List ℕ) → IsEnding outcome status text → is_stop status ≡ false
ending_unstopped usage status text h = ap is_stop h.0
ending_unstopped (bad_instance fault) status text h = ap is_stop h.0
ending_unstopped (bad_sessions fault) status text h = ap is_stop h.0
ending_unstopped (answered c script) status text h = ap is_stop h.0
ending_unstopped (listed c n count script) status text h = ap is_stop h.0
ending_unstopped (too_many requests) status text h = ap is_stop h.0
ending_unstopped (boxed f limit walks script) status text h = ap is_stop h.0
ending_unstopped (certified i grade) status text h = ap is_stop h.0
ending_unstopped (full grade) status text h = ap is_stop h.0
ending_unstopped (made number) status text h = ap is_stop h.0
ending_unstopped (served c script) status text h = ap is_stop h.0
ending_unstopped (checked i bytes) status text h =
    ledger_unstopped bytes status text (λ l. IsVerdictEnding i l (verdict_of i l) status text) (λ l verdict. verdict_unstopped i l (verdict_of i l) status text verdict) h
ending_unstopped (resumed c script bytes) status text h =
    ledger_unstopped bytes status text (λ l. IsResumption c script l status text) (λ l is. resumption_unstopped c script l status text is) h

module _ (plan : Plan) (told : List ℕ → Told) (before now : List ℕ → ℕ) where
  came_to : (ending : Ending) → Ran plan told before now (Ok ending) → Ends plan told (λ outcome. Fits outcome ending)
  came_to ending ran = runs-ends told before now (EndedBy (Ok ending)) (λ name. StoppedBy (Ok ending) (before name) (now name)) [] plan (λ name h. h) ran

  pub not_stopped : (ending : Ending) (status : Status) → Ran plan told before now (Ok ending) → is_stop status ≡ true → ending.status ≡ status → ⊥
  not_stopped ending status ran stops same =
      let own = ends-some plan told (λ outcome. Fits outcome ending) (is_stop ending.status ≡ false) (λ outcome fits. ending_unstopped outcome ending.status ending.text fits) (came_to ending ran) in
      true≢false (sym stops ∙ (ap is_stop (sym same) ∙ own))

  pub whole_text : (ending : Ending) (old new : Option (List ℕ)) → Ran plan told before now (Ok ending) → Appends old new ending.text → Ends plan told (Wrote ending.status old new)
  whole_text ending old new ran written =
      ends-map plan told (λ outcome. Fits outcome ending) (Wrote ending.status old new) (λ outcome fits. (ending.text, (fits, written))) (came_to ending ran)

  pub text_front : (ending : Ending) (old new : Option (List ℕ)) → Ran plan told before now (Ok ending) → AppendsFront old new ending.text → Ends plan told (WroteFront old new)
  text_front ending old new ran written =
      ends-map plan told (λ outcome. Fits outcome ending) (WroteFront old new) (λ outcome fits. (ending.status, (ending.text, (fits, written)))) (came_to ending ran)

  pub exact_status : (ending : Ending) → Ran plan told before now (Ok ending) → WouldEnd plan told (IsUnlessStopped ending.status)
  exact_status ending ran = would_end plan told (λ outcome. Fits outcome ending) (IsUnlessStopped ending.status) (λ outcome fits own. (ending.text, fits)) (came_to ending ran)

  pub complete_status : (ending : Ending) → Ran plan told before now (Ok ending) → WouldEnd plan told (IsUnlessMemory ending.status)
  complete_status ending ran = would_end plan told (λ outcome. Fits outcome ending) (IsUnlessMemory ending.status) (λ outcome fits. inl (ending.text, fits)) (came_to ending ran)

  pub any_status : (status : Status) → is_stop status ≡ true → WouldEnd plan told (IsUnlessStopped status)
  any_status status stops = would_end-all plan told (IsUnlessStopped status) (λ outcome own. absurd (cc))

  pub stop_cause : Ran plan told before now (Err ReadFault) → HasReadFault plan told before now
  stop_cause ran =
      runs-map told before now (EndedBy (Err ReadFault)) (λ outcome. ⊥) (λ name. StoppedBy (Err ReadFault) (before name) (now name)) (λ name. Rose (before name) (now name)) [] plan
      (λ outcome h. h) (λ name h. h) ran

  -- where no file that the plan comes to has a fault, none stopped it
  pub stop_complete : (P : RunOutcome → Type 0) → Ran plan told before now (Err ReadFault) → NoReadFault plan told before now → WouldEnd plan told P
  stop_complete P ran none =
      let cause = runs-cause told before now (λ outcome. ⊥) (λ name. Rose (before name) (now name)) [] plan (λ outcome h. h) (stop_cause ran) in
      absurd (none cause.0 cause.1.0 cause.1.1)

  -- a run that ends with the line of a fault is one that ends
  pub refused_ends : (ending : Ending) → Ran plan told before now (Err (Refused ending)) → Ran plan told before now (Ok ending)
  refused_ends ending ran =
      runs-map told before now (EndedBy (Err (Refused ending))) (EndedBy (Ok ending)) (λ name. StoppedBy (Err (Refused ending)) (before name) (now name)) (λ name. StoppedBy (Ok ending) (before name) (now name)) [] plan
      (λ outcome h. h) (λ name h. h) ran

  pub in_order : (result : Result Ending Stop) → Ran plan told before now result → Runs told before now (λ outcome. ⊤) (λ name. ⊤) plan
  in_order result ran =
      runs-map told before now (EndedBy result) (λ outcome. ⊤) (λ name. StoppedBy result (before name) (now name)) (λ name. ⊤) [] plan (λ outcome h. tt) (λ name h. tt) ran

  pub kept_counts : (result : Result Ending Stop) → Ran plan told before now result → (name : List ℕ) → ¬ (ComesTo plan told name) → now name ≡ before name
  kept_counts result ran name other =
      runs-others told before now (EndedBy result) (λ name. StoppedBy result (before name) (now name)) [] plan name ran (λ h. h) other
