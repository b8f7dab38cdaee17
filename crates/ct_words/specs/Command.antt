-- The clap command of a row: a place for the positional words, and an argument for each option.
use Rattle.std.specs.Prelude.{Bool, true, false, List, [], ◌∷◌, map, Some, codes}
use Rattle.clap.specs.Walk.{Rule, Text}
use Rattle.clap.specs.Simple.{App, new_rule, new_shape}
use Rattle.clap.specs.declared.builder.action.ArgAction.TheVariants.{Append, Set, SetTrue}
use Rattle.ct_words.specs.Table.{WordOption, takes_value}

-- The positional words stand under a name that no word gives to an option, since an option's name ends at '='.
abbrev pub places_id : Text
places_id = codes "="

abbrev pub place_rule : Rule
place_rule = record (new_rule places_id) { action = Some Append }

abbrev pub flag_rule : Text → Rule
flag_rule name = record (new_rule name) { long = Some name; action = Some SetTrue }

abbrev pub value_rule : Text → Rule
value_rule name = record (new_rule name) { long = Some name; action = Some Set }

abbrev pub rule_by : Bool → Text → Rule
rule_by true name = value_rule name
rule_by false name = flag_rule name

abbrev pub option_rule : WordOption → Rule
option_rule option = rule_by (takes_value option.takes) option.name

abbrev pub app_with : Text → List Rule → App
app_with name rules = record { top = record (new_shape name) { rules = rules; no_binary_name = true; disable_help_flag = true; disable_version_flag = true }; subs = [] }

unfoldable pub row_app : Text → List WordOption → App
row_app name options = app_with name (place_rule ∷ map option_rule options)
