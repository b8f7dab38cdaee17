use Rattle.std.proofs.Common.{◌≡◌, None, Ok, sym, ap, ◌∙◌, subst}
use Rattle.std.proofs.lemmas.Result.{err_from_is_err_and}
use Rattle.ct_instance.specs.Made.{columns_of, NamesZeroColumn}
use Rattle.ct_form.specs.Kept.{free_zero_of}
use Rattle.ct_form.specs.Made.{form_of}
use Rattle.ct_form_text.specs.declared.draft.FormDraft.{FormDraft}
use Rattle.ct_form_text.proofs.ZeroColumns.{draft_fails, refused_file, accepted_file}
use Rattle.ct_form_text.proofs.form_text.read_form.Goals as goal

pub returns-in_err-rows : goal.returns-in_err-rows
returns-in_err-rows c =
    let p = err_from_is_err_and c.from_residual.result c.from_residual.ensures.1 in
    rw (p.1, p.2) (draft_fails c.in_err-rows.field-0.0 c.args.bytes.now c.in_err-rows.ensures.gives)

pub returns-in-Ok : goal.returns-in-Ok
returns-in-Ok c =
    let d : FormDraft = c.in_ok-rows.field-0 in
    let none : free_zero_of (columns_of d.rows d.columns d.entries) d.limits.bounds ≡ None =
    ap (λ es. free_zero_of (columns_of d.rows d.columns es) d.limits.bounds) (sym c.as_slice.ensures) ∙ c.in-Ok.ensures.none in
    accepted_file c.args.bytes.now d c.in_ok-rows.ensures.gives none ∙
    ap Ok (sym (c.in-Ok.ensures.ok ∙ (λ t. form_of d.rows d.columns (c.as_slice.ensures t) d.limits (c.as_slice-2.ensures t))))

pub returns : goal.returns
returns c =
    let d : FormDraft = c.in_ok-rows.field-0 in
    let named : NamesZeroColumn c.in-Err.bad (free_zero_of (columns_of d.rows d.columns d.entries) d.limits.bounds) =
    subst (λ es. NamesZeroColumn c.in-Err.bad (free_zero_of (columns_of d.rows d.columns es) d.limits.bounds)) c.as_slice.ensures c.in-Err.ensures.zero_column in
    rw c.refused.ensures (refused_file c.args.bytes.now d c.in-Err.bad c.in_ok-rows.ensures.gives named)
