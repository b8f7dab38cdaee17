use Rattle.std.proofs.Common.{◌∷◌, [], arith, map, take, sym, ap, ap₂, ◌∙◌}
use Rattle.std.proofs.lemmas.List.{map-append, take_more}
use Rattle.clap.specs.Words.{with_rule}
use Rattle.ct_words.specs.Table.{option_seen}
use Rattle.ct_words.specs.Command.{row_app}
use Rattle.ct_words.proofs.Found.{none_added, option_added}
use Rattle.ct_words.proofs.command.command_of.Goals as goal

pub loop-option-init : goal.loop-option-init
loop-option-init c = c.in_ok-command.ensures.shape c.place_arg.ensures.own ∙ (ap₂ with_rule c.bare_command.ensures c.place_arg.ensures.rule ∙ none_added c.args.row.name.now)

pub loop-option-preserved : goal.loop-option-preserved
loop-option-preserved c =
    c.in_ok-command-2.ensures.shape c.option_arg.ensures.own
    ∙ (ap₂ with_rule c.loop-option.invariant c.option_arg.ensures.rule
    ∙ (option_added c.args.row.name.now (map option_seen (take c.loop-option.option-index c.args.row.options.now)) _
    ∙ ap (row_app c.args.row.name.now)
    (sym (map-append option_seen (take c.loop-option.option-index c.args.row.options.now) (_ ∷ [])) ∙ ap (map option_seen) (sym (take_more c.args.row.options.now c.loop-option.option-index _ (omega arith))))))
