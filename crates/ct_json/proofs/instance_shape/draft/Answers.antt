use Rattle.std.proofs.Common.{[]}
use Rattle.serde_json.specs.View.{view}
use Rattle.ct_input.specs.declared.draft.Draft.{Draft}
use Rattle.ct_input.specs.Files.{HasCounts}
use Rattle.ct_json.specs.InstanceShape.{draft_at}
use Rattle.ct_json.proofs.Counts.{draft_says, says_read}
use Rattle.ct_json.proofs.instance_shape.draft.Goals as goal

pub returns-clause-counts : goal.returns-clause-counts
returns-clause-counts c = says_read (λ (d : Draft). d) HasCounts c.draft_in.result (draft_at [] (view c.args.value.now)) (draft_says [] (view c.args.value.now)) c.draft_in.ensures
