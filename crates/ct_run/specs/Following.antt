-- What a call says that follows a plan.
use Rattle.std.specs.Prelude.{ℕ, ◌≡◌, ◌≤◌, ⊤, List, Option}
use Rattle.ct_outside.specs.Faults.{Rose}
use Rattle.ct_outside.specs.Shelf.{Told, KeepsShelf}
use Rattle.ct_run.specs.declared.status.Status.{Status}
use Rattle.ct_run.specs.declared.status.Status.TheVariants.{ReadFault, WriteFault, Memory}
use Rattle.ct_run.specs.Outcome.{WroteFront, IsUnlessStopped, IsUnlessMemory}
use Rattle.ct_run.specs.Plan.{Plan}
use Rattle.ct_run.specs.Running.{Ends, WouldEnd, ComesTo, Runs, HasReadFault, NoReadFault}

-- The call followed the plan on these files and this output, and ended with this status. `told` and `counts` are what a
-- shelf tells of a name and its count of faults, `held` and `faults` what a sink holds and its count.
pub record Follows {S O : Type 0} (told : S → List ℕ → Told) (counts : S → List ℕ → ℕ) (held : O → Option (List ℕ)) (faults : O → ℕ)
    (plan : Plan) (files files_after : S) (out out_after : O) (status : Status) : Type 0 where
  -- a status that isn't one of three stops is that of what the words and files come to
  pub exactly : WouldEnd plan (told files) (IsUnlessStopped status)
  -- where no count rose it is, unless memory ran out
  pub complete : NoReadFault plan (told files) (counts files) (counts files_after) → ¬ (Rose (faults out) (faults out_after)) → WouldEnd plan (told files) (IsUnlessMemory status)
  -- what each stop is caused by, and what it leaves
  pub read_fault : status ≡ ReadFault → HasReadFault plan (told files) (counts files) (counts files_after)
  pub write_fault : status ≡ WriteFault → Rose (faults out) (faults out_after)
  pub front : status ≡ WriteFault → Ends plan (told files) (WroteFront (held out) (held out_after))
  pub unread : status ≡ ReadFault → out_after ≡ out
  pub memory : status ≡ Memory → out_after ≡ out
  -- files were asked for in the plan's order, and none after the one at which the run stopped
  pub order : Runs (told files) (counts files) (counts files_after) (λ outcome. ⊤) (λ name. ⊤) plan
  -- no file changes, no count falls, and those of files that the plan doesn't come to stay
  pub shelf : KeepsShelf (told files) (told files_after) (counts files) (counts files_after) (ComesTo plan (told files))
  pub sink_later : faults out ≤ faults out_after
