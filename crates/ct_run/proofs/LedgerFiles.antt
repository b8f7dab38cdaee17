-- How a ledger file ends a run is told by its bytes up to the limit and one more.
use Rattle.std.proofs.Common.{◌≡◌, ℕ, ◌+◌, ◌≤◌, ◌<◌, ◌⊎◌, inl, inr, List, [], ◌∷◌, length, take, Result, Ok, Err, sym, subst, ◌∙◌, arith, length-take}
use Rattle.std.proofs.lemmas.List.{take_all}
use Rattle.ct_outside.specs.Shelf.{Told}
use Rattle.ct_input.specs.declared.limits.TheConstants.{LEDGER_FILE_LIMIT}
use Rattle.ct_instance.specs.Instance.{Problem}
use Rattle.ct_ledger.specs.Parts.{LedgerParts, IsLedger}
use Rattle.ct_ledger.specs.LedgerText.{ledger_text, IsLedgerText}
use Rattle.ct_ledger.proofs.LedgerMachine.{one_ledger}
use Rattle.ct_checker.specs.declared.verdicts.Verdict.{Verdict}
use Rattle.ct_checker.specs.declared.verdicts.Verdict.TheVariants.{Accepted, Refused}
use Rattle.ct_checker.specs.Checking.{verdict_of}
use Rattle.ct_run.specs.declared.ending.Ending.{Ending}
use Rattle.ct_run.specs.declared.status.Status.{Status}
use Rattle.ct_run.specs.declared.status.Status.TheVariants.{Done, BadLedger, LedgerRefused}
use Rattle.ct_run.specs.declared.stop.Stop.{Stop}
use Rattle.ct_run.specs.declared.stop.Stop.TheVariants as stops
use Rattle.ct_run.specs.Checked.{IsBadLedger, IsLedgerFile, IsLedgerEnding, IsChecked, IsVerdictEnding, over, faulty, bad, weighed}
use Rattle.ct_run.specs.Outcome.{RunOutcome, IsEnding}
use Rattle.ct_run.specs.Plan.{asks, ends}
use Rattle.ct_run.specs.Running.{HasBytes, RunsAfter}
use Rattle.ct_run.specs.Stopping.{EndedBy, StoppedBy, IsLedgerStop, Ran}
use Rattle.ct_run.proofs.Runs.{HasBytes-map}

abbrev front_of : List ℕ → List ℕ
front_of bytes = take (LEDGER_FILE_LIMIT + 1) bytes

whole : (bytes : List ℕ) → length (front_of bytes) ≤ LEDGER_FILE_LIMIT → front_of bytes ≡ bytes
whole bytes within = take_all (LEDGER_FILE_LIMIT + 1) bytes (omega (arith, within, length-take (LEDGER_FILE_LIMIT + 1) bytes))

bad_front : (bytes : List ℕ) (status : Status) (text : List ℕ) → IsBadLedger (front_of bytes) status text → IsBadLedger bytes status text
bad_front bytes status text (over long own same) = over (omega (arith, long, length-take (LEDGER_FILE_LIMIT + 1) bytes)) own same
bad_front bytes status text (faulty line within fault own same) =
    subst (λ (b : List ℕ). IsBadLedger b status text) (whole bytes within) (faulty line within fault own same)

pub ledger_front : (bytes : List ℕ) (status : Status) (text : List ℕ) (Weighed : LedgerParts → Type 0) → IsLedgerEnding (front_of bytes) status text Weighed → IsLedgerEnding bytes status text Weighed
ledger_front bytes status text Weighed (bad is) = bad (bad_front bytes status text is)
ledger_front bytes status text Weighed (weighed l file ends_so) =
    weighed l (subst (λ (b : List ℕ). IsLedgerFile b l) (whole bytes file.few) file) ends_so

-- ---- runs that end by a ledger file

module _ (outcome : List ℕ → RunOutcome) (Weighed : LedgerParts → Status → List ℕ → Type 0)
    (ending_of : (bytes : List ℕ) (status : Status) (text : List ℕ) → IsLedgerEnding bytes status text (λ l. Weighed l status text) → IsEnding (outcome bytes) status text)
    (of_ending : (bytes : List ℕ) (status : Status) (text : List ℕ) → IsEnding (outcome bytes) status text → IsLedgerEnding bytes status text (λ l. Weighed l status text)) where
  -- no ledger was read
  pub ends_badly : (bytes : List ℕ) (stop : Stop) → IsLedgerStop bytes stop → EndedBy (Err stop) (outcome bytes)
  ends_badly bytes (stops.Refused ending) is = ending_of bytes ending.status ending.text (bad is)
  ends_badly bytes stops.ReadFault is = absurd is
  ends_badly bytes stops.Memory is = tt

  front_ends : (bytes : List ℕ) (status : Status) (text : List ℕ) → IsEnding (outcome (front_of bytes)) status text → IsEnding (outcome bytes) status text
  front_ends bytes status text is = ending_of bytes status text (ledger_front bytes status text (λ l. Weighed l status text) (of_ending (front_of bytes) status text is))

  ended_front : (bytes : List ℕ) (result : Result Ending Stop) → EndedBy result (outcome (front_of bytes)) → EndedBy result (outcome bytes)
  ended_front bytes (Ok ending) is = front_ends bytes ending.status ending.text is
  ended_front bytes (Err (stops.Refused ending)) is = front_ends bytes ending.status ending.text is
  ended_front bytes (Err stops.ReadFault) is = is
  ended_front bytes (Err stops.Memory) is = tt

  -- the file was fetched, up to the limit and one more byte
  pub ran_to_ledger : (told : List ℕ → Told) (before now : List ℕ → ℕ) (name got : List ℕ) (result : Result Ending Stop) →
      HasBytes (told name) (λ bytes. got ≡ front_of bytes) → ((other : List ℕ) → ¬ (other ≡ name) → now other ≡ before other) →
      EndedBy result (outcome got) → Ran (asks name (λ bytes. ends (outcome bytes))) told before now result
  ran_to_ledger told before now name got result read others ended =
      inr (HasBytes-map (told name) (λ bytes. got ≡ front_of bytes)
      (λ bytes. RunsAfter told before now (EndedBy result) (λ n. StoppedBy result (before n) (now n)) (name ∷ []) (ends (outcome bytes)))
      (λ bytes same. (
        λ other out. others other (λ e. out (inl e)),
        ended_front bytes result (subst (λ (b : List ℕ). EndedBy result (outcome b)) same ended),
      )) read)

-- ---- a file has one ledger

pub ledger_weighed : (bytes : List ℕ) (status : Status) (text : List ℕ) (Weighed : LedgerParts → Type 0) → IsLedgerEnding bytes status text Weighed →
    length bytes ≤ LEDGER_FILE_LIMIT → (l : LedgerParts) → IsLedger l → bytes ≡ ledger_text l → Weighed l
ledger_weighed bytes status text Weighed (bad (over long own same)) few l is written = absurd (omega (arith, long, few))
ledger_weighed bytes status text Weighed (bad (faulty line within fault own same)) few l is written = absurd (fault.no_text (l, is, written))
ledger_weighed bytes status text Weighed (weighed k file ends_so) few l is written =
    subst Weighed (one_ledger k l file.ledger is (sym file.text ∙ written)) ends_so

bad_verdict : (i : Problem) (l : LedgerParts) (v : Verdict) (text : List ℕ) → IsVerdictEnding i l v BadLedger text → ⊥
bad_verdict i l (Accepted grade moves) text h = let no : BadLedger ≡ Done = h.1.0 in cc
bad_verdict i l (Refused line reason) text h = let no : BadLedger ≡ LedgerRefused = h.1.0 in cc

pub bad_is_none : (i : Problem) (bytes text : List ℕ) → IsChecked i bytes BadLedger text → (LEDGER_FILE_LIMIT < length bytes) ⊎ (IsLedgerText bytes → ⊥)
bad_is_none i bytes text (bad (over long own same)) = inl long
bad_is_none i bytes text (bad (faulty line within fault own same)) = inr fault.no_text
bad_is_none i bytes text (weighed l file verdict) = absurd (bad_verdict i l (verdict_of i l) text verdict)
