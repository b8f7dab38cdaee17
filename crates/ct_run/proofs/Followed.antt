-- A run up to an ending or a stop, with what it then writes, follows its plan.
use Rattle.std.proofs.Common.{◌≡◌, ℕ, ◌≤◌, ◌⊎◌, true≢false, false, List, Option, Result, Ok, Err, inl, inr, refl, sym, subst}
use Rattle.std.specs.Io.KnownBytes.{Appends}
use Rattle.ct_outside.specs.Faults.{Rose}
use Rattle.ct_outside.specs.Shelf.{Told}
use Rattle.ct_outside.specs.Sink.{AppendsFront}
use Rattle.ct_run.specs.declared.ending.Ending.{Ending}
use Rattle.ct_run.specs.declared.status.Status.{Status}
use Rattle.ct_run.specs.declared.status.Status.TheVariants as statuses
use Rattle.ct_run.specs.declared.stop.Stop.{Stop}
use Rattle.ct_run.specs.declared.stop.Stop.TheVariants.{Refused, ReadFault, Memory}
use Rattle.ct_run.specs.Outcome.{Wrote, is_stop, IsUnlessMemory}
use Rattle.ct_run.specs.Plan.{Plan}
use Rattle.ct_run.specs.Running.{Ends}
use Rattle.ct_run.specs.Stopping.{Ran, IsWritten, IsFinished}
use Rattle.ct_run.specs.Following.{Follows}
use Rattle.ct_run.proofs.Runs.{would_end-all}
use Rattle.ct_run.proofs.Endings.{not_stopped, whole_text, text_front, exact_status, complete_status, any_status, stop_cause, stop_complete, refused_ends, in_order, kept_counts}

module _ {S O : Type 0} (told : S → List ℕ → Told) (counts : S → List ℕ → ℕ) (held : O → Option (List ℕ)) (faults : O → ℕ)
    (plan : Plan) (files files_after : S) (out out_after : O)
    (kept : told files_after ≡ told files) (later : (name : List ℕ) → counts files name ≤ counts files_after name) (sink_later : faults out ≤ faults out_after) where
  abbrev pub RanTo : Result Ending Stop → Type 0
  RanTo ended = Ran plan (told files) (counts files) (counts files_after) ended

  -- both clauses of a top call
  abbrev pub Says : Status → Type 0
  Says status =
      (is_stop status ≡ false → Ends plan (told files) (Wrote status (held out) (held out_after))) ×
      Follows told counts held faults plan files files_after out out_after status

  whole : (ending : Ending) → RanTo (Ok ending) → Appends (held out) (held out_after) ending.text → Says ending.status
  whole ending ran appended = (
    λ own. whole_text plan (told files) (counts files) (counts files_after) ending (held out) (held out_after) ran appended,
    record {
      exactly = exact_status plan (told files) (counts files) (counts files_after) ending ran;
      complete = λ unfailed unfailing. complete_status plan (told files) (counts files) (counts files_after) ending ran;
      read_fault = λ failed. absurd (not_stopped plan (told files) (counts files) (counts files_after) ending statuses.ReadFault ran refl failed);
      write_fault = λ failed. absurd (not_stopped plan (told files) (counts files) (counts files_after) ending statuses.WriteFault ran refl failed);
      front = λ failed. absurd (not_stopped plan (told files) (counts files) (counts files_after) ending statuses.WriteFault ran refl failed);
      unread = λ failed. absurd (not_stopped plan (told files) (counts files) (counts files_after) ending statuses.ReadFault ran refl failed);
      memory = λ failed. absurd (not_stopped plan (told files) (counts files) (counts files_after) ending statuses.Memory ran refl failed);
      order = in_order plan (told files) (counts files) (counts files_after) (Ok ending) ran;
      shelf = record { kept = kept; later = later; others = kept_counts plan (told files) (counts files) (counts files_after) (Ok ending) ran };
      sink_later = sink_later;
    },
  )

  cut_off : (ending : Ending) → RanTo (Ok ending) → AppendsFront (held out) (held out_after) ending.text → Rose (faults out) (faults out_after) → Says statuses.WriteFault
  cut_off ending ran some rose = (
    λ own. absurd (true≢false own),
    record {
      exactly = any_status plan (told files) (counts files) (counts files_after) statuses.WriteFault refl;
      complete = λ unfailed unfailing. absurd (unfailing rose);
      read_fault = λ failed. absurd (cc);
      write_fault = λ failed. rose;
      front = λ failed. text_front plan (told files) (counts files) (counts files_after) ending (held out) (held out_after) ran some;
      unread = λ failed. absurd (cc);
      memory = λ failed. absurd (cc);
      order = in_order plan (told files) (counts files) (counts files_after) (Ok ending) ran;
      shelf = record { kept = kept; later = later; others = kept_counts plan (told files) (counts files) (counts files_after) (Ok ending) ran };
      sink_later = sink_later;
    },
  )

  unread : RanTo (Err ReadFault) → out_after ≡ out → Says statuses.ReadFault
  unread ran same = (
    λ own. absurd (true≢false own),
    record {
      exactly = any_status plan (told files) (counts files) (counts files_after) statuses.ReadFault refl;
      complete = λ unfailed unfailing. stop_complete plan (told files) (counts files) (counts files_after) (IsUnlessMemory statuses.ReadFault) ran unfailed;
      read_fault = λ failed. stop_cause plan (told files) (counts files) (counts files_after) ran;
      write_fault = λ failed. absurd (cc);
      front = λ failed. absurd (cc);
      unread = λ failed. same;
      memory = λ failed. absurd (cc);
      order = in_order plan (told files) (counts files) (counts files_after) (Err ReadFault) ran;
      shelf = record { kept = kept; later = later; others = kept_counts plan (told files) (counts files) (counts files_after) (Err ReadFault) ran };
      sink_later = sink_later;
    },
  )

  no_memory : RanTo (Err Memory) → out_after ≡ out → Says statuses.Memory
  no_memory ran same = (
    λ own. absurd (true≢false own),
    record {
      exactly = any_status plan (told files) (counts files) (counts files_after) statuses.Memory refl;
      complete = λ unfailed unfailing. would_end-all plan (told files) (IsUnlessMemory statuses.Memory) (λ outcome. inr refl);
      read_fault = λ failed. absurd (cc);
      write_fault = λ failed. absurd (cc);
      front = λ failed. absurd (cc);
      unread = λ failed. absurd (cc);
      memory = λ failed. same;
      order = in_order plan (told files) (counts files) (counts files_after) (Err Memory) ran;
      shelf = record { kept = kept; later = later; others = kept_counts plan (told files) (counts files) (counts files_after) (Err Memory) ran };
      sink_later = sink_later;
    },
  )

  by_text : (ending : Ending) (status : Status) → RanTo (Ok ending) → IsWritten held faults out out_after status ending → Says status
  by_text ending status ran (inl is) = subst Says (sym is.0) (whole ending ran is.1)
  by_text ending status ran (inr cut) = subst Says (sym cut.0) (cut_off ending ran cut.1 cut.2)

  pub run_says : (ended : Result Ending Stop) (status : Status) → RanTo ended → IsFinished held faults out out_after status ended → Says status
  run_says (Ok ending) status ran is = by_text ending status ran is
  run_says (Err (Refused ending)) status ran is =
      by_text ending status (refused_ends plan (told files) (counts files) (counts files_after) ending ran) is
  run_says (Err ReadFault) status ran is = subst Says (sym is.0) (unread ran is.1)
  run_says (Err Memory) status ran is = subst Says (sym is.0) (no_memory ran is.1)
