-- An accepted JSON file stands for an instance, or for a script.
use Rattle.std.proofs.Common.{◌≡◌, ℕ, List, [], map, IfOk, Option, Some, None, Result, Ok, Err, refl, subst}
use Rattle.ct_vectors.specs.Vectors.{total}
use Rattle.ct_instance.specs.Instance.{Problem, IsInstance}
use Rattle.ct_instance.specs.Made.{columns_of, zero_column_of}
use Rattle.ct_input.specs.declared.limits.TheConstants.{INSTANCE_FILE_LIMIT, SESSION_FILE_LIMIT}
use Rattle.ct_input.specs.declared.draft.Draft.{Draft}
use Rattle.ct_input.specs.declared.fault.Fault.{Fault}
use Rattle.ct_input.specs.declared.script.Script.{Script}
use Rattle.ct_input.specs.Sheet.{◌>>=◌}
use Rattle.ct_input.specs.Files.{HasCounts}
use Rattle.ct_input.specs.Accepted.{IsAcceptedScript}
use Rattle.ct_input.proofs.Yields.{ok_same, bind-ok}
use Rattle.ct_input.proofs.Accepted.{within_is, none_is_zero, counts_are_instance}
use Rattle.ct_json.specs.InstanceShape.{draft_at}
use Rattle.ct_json.specs.SessionShape.{script_at}
use Rattle.ct_json.specs.Files.{value_of, made_of, instance_json, sessions_json}
use Rattle.ct_json.specs.Accepted.{JsonIsInstance, JsonIsScript}
use Rattle.ct_json.proofs.Counts.{draft_says}
use Rattle.ct_json.proofs.Scripts.{script_says}

value_has : {A : Type 0} (P : A → Type 0) (r : Result A Fault) (x : A) → IfOk r P → r ≡ Ok x → P x
value_has {A} P r x says same = subst (λ (s : Result A Fault). IfOk s P) same says

made_is_instance : (d : Draft) (zero_column : Option ℕ) (i : Problem) → HasCounts d → zero_column_of d.rows d.columns d.entries ≡ zero_column → made_of d zero_column ≡ Ok i → IsInstance i
made_is_instance d None i has none same = subst IsInstance (ok_same _ i same) (counts_are_instance d has (none_is_zero (map total (columns_of d.rows d.columns d.entries)) none))
made_is_instance d (Some column) i has found same = absurd (cc)

pub json_is_instance : JsonIsInstance
unfolding instance_json
json_is_instance bytes i same =
    let b = bind-ok (value_of bytes) _ i (within_is INSTANCE_FILE_LIMIT bytes _ i same) in
    let d = bind-ok (draft_at [] b.0) _ i b.1.1 in
    made_is_instance d.0 (zero_column_of (d.0).rows (d.0).columns (d.0).entries) i (value_has HasCounts (draft_at [] b.0) d.0 (draft_says [] b.0) d.1.0) refl d.1.1

pub json_is_script : JsonIsScript
unfolding sessions_json
json_is_script m bytes script same =
    let b = bind-ok (value_of bytes) _ script (within_is SESSION_FILE_LIMIT bytes _ script same) in
    value_has (IsAcceptedScript m) (script_at m [] b.0) script (script_says m [] b.0) b.1.1
