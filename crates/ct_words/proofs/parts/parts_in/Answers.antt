use Rattle.std.proofs.Common.{map, string_bytes, sym, ◌∙◌}
use Rattle.std.proofs.lemmas.Result.{IfOk-weaker}
use Rattle.clap.specs.Words.{app_of}
use Rattle.ct_words.specs.Table.{option_seen}
use Rattle.ct_words.proofs.Taken.{single_refused, matches_some, matches_none}
use Rattle.ct_words.proofs.parts.parts_in.Goals as goal

pub returns-then-has_single : goal.returns-then-has_single
returns-then-has_single c = single_refused (map option_seen c.args.row.options.now) (map string_bytes c.args.words.now) (sym c.has_single.ensures ∙ c.if-has_single.true)

pub returns-in-Some : goal.returns-in-Some
returns-in-Some c =
    IfOk-weaker c.parts_read.result _ _
    (λ parts h. h
    ∙ matches_some c.args.row.name.now (map option_seen c.args.row.options.now) (map string_bytes c.args.words.now) (app_of c.in_ok-command.command) c.in_ok-command.ensures
    (sym c.has_single.ensures ∙ c.if-has_single.false) c.in_ok-matches.field-0 (λ simple free. c.in_ok-matches.ensures simple free) c.in-Some.matches c.in-Some.is)
    c.parts_read.ensures

pub returns-in-None : goal.returns-in-None
returns-in-None c =
    matches_none c.args.row.name.now (map option_seen c.args.row.options.now) (map string_bytes c.args.words.now) (app_of c.in_ok-command.command) c.in_ok-command.ensures
    (sym c.has_single.ensures ∙ c.if-has_single.false) c.in_ok-matches.field-0 (λ simple free. c.in_ok-matches.ensures simple free) c.in-None.is
