use Rattle.std.proofs.Common.{◌≡◌, None, Ok, sym, ap, ◌∙◌}
use Rattle.ct_instance.specs.Instance.{Problem}
use Rattle.ct_instance.specs.Made.{problem_of, zero_column_of, NamesZeroColumn}
use Rattle.ct_text.specs.Tokens.{text_of}
use Rattle.ct_input.specs.Sheet.{sheet_of}
use Rattle.ct_input.specs.Grammar.{read}
use Rattle.ct_input.specs.InstanceText.{instance_text}
use Rattle.ct_input.proofs.ZeroColumns.{refused_file, accepted_file}
use Rattle.ct_input.proofs.instance_text.read_instance.Goals as goal

pub returns-in-Ok : goal.returns-in-Ok
returns-in-Ok c =
    let d = c.in_ok-draft.draft in
    let reads : read instance_text (sheet_of (text_of c.args.bytes.now)) ≡ Ok (d, c.draft_of.new.reader) = rw (← c.new-reader.ensures) c.in_ok-draft.ensures.gives in
    let none : zero_column_of d.rows d.columns d.entries ≡ None = rw (← c.as_slice.ensures) c.in-Ok.ensures.none in
    let same : c.in-Ok.instance ≡ problem_of d.rows d.columns d.entries d.costs = rw (← c.as_slice.ensures, ← c.as_slice-2.ensures) c.in-Ok.ensures.ok in
    accepted_file c.args.bytes.now d c.draft_of.new.reader c.if-bytes-gt-INSTANCE_FILE_LIMIT.false reads none ∙ ap (λ (i : Problem). Ok i) (sym same)

pub returns : goal.returns
returns c =
    let d = c.in_ok-draft.draft in
    let reads : read instance_text (sheet_of (text_of c.args.bytes.now)) ≡ Ok (d, c.draft_of.new.reader) = rw (← c.new-reader.ensures) c.in_ok-draft.ensures.gives in
    let named : NamesZeroColumn c.in-Err.bad (zero_column_of d.rows d.columns d.entries) = rw (← c.as_slice.ensures) c.in-Err.ensures.zero_column in
    rw c.refused.ensures (refused_file c.args.bytes.now d c.draft_of.new.reader c.in-Err.bad c.if-bytes-gt-INSTANCE_FILE_LIMIT.false reads named)
