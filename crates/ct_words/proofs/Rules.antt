-- The rules of a row's clap command, once it is built, and the searches in them.
use Rattle.std.proofs.Common.{◌≡◌, ℕ, suc, ◌+◌, ◌==◌, Bool, true, false, not, cond, ◌&&◌, ◌||◌, List, [], ◌∷◌, map, take, drop, find, is_some, count_by, option_map, Option, Some, None, refl, ap, ap₂, sym, ◌∙◌, arith, true≢false, ne_eqb, eq-eqb, one-add, add-zero, fold}
use Rattle.std.specs.Str.{bytes_eq}
use Rattle.std.specs.List.{list_any, list_all, after_first}
use Rattle.clap.specs.Lexer.{has_byte}
use Rattle.clap.specs.Walk.{Rule, Row, Text, arg_by_id, arg_by_long, has_long, has_row, is_early_multiple, with_default}
use Rattle.clap.specs.Simple.{App, Shape, built, filled, filled_from, is_buildable, is_ready, is_ready_leaf, is_simple, with_index, new_shape}
use Rattle.clap.specs.Kinds.{or_else, check_kinds}
use Rattle.clap.specs.Takes.{is_given}
use Rattle.clap.specs.Faults.{check_fault, default_fault, defaults_fault, given_default_fault, is_free_app, is_simple_and_free}
use Rattle.ct_words.specs.Table.{WordOption, takes_value}
use Rattle.ct_words.specs.Role.{name_len}
use Rattle.ct_words.specs.Items.{row_by}
use Rattle.ct_words.specs.Command.{places_id, place_rule, rule_by, option_rule, row_app}

abbrev pub place_built : Rule
place_built = with_index 1 (filled place_rule)

abbrev pub built_by : Bool → Text → Rule
built_by takes name = filled (rule_by takes name)

abbrev pub option_built : WordOption → Rule
option_built option = built_by (takes_value option.takes) option.name

abbrev pub rules_built : List WordOption → List Rule
rules_built options = place_built ∷ map option_built options

abbrev pub shape_built : Text → List WordOption → Shape
shape_built name options = record (new_shape name) { rules = rules_built options; no_binary_name = true; disable_help_flag = true; disable_help_subcommand = true; disable_version_flag = true; is_built = true }

no_index : (takes : Bool) (name : Text) (i : ℕ) (rest : List Rule) → filled_from i (rule_by takes name ∷ rest) ≡ built_by takes name ∷ filled_from i rest
no_index true name i rest = refl
no_index false name i rest = refl

filled_options : (i : ℕ) (options : List WordOption) → filled_from i (map option_rule options) ≡ map option_built options
filled_options i [] = refl
filled_options i (option ∷ options) = no_index (takes_value option.takes) option.name i (map option_rule options) ∙ ap (λ rest. option_built option ∷ rest) (filled_options i options)

pub row_built : (name : Text) (options : List WordOption) → built (row_app name options) ≡ record { top = shape_built name options; subs = [] }
unfolding row_app
row_built name options = ap (λ (rest : List Rule). record { top = record (shape_built name options) { rules = place_built ∷ rest }; subs = [] }) (filled_options 2 options)

-- ---- the command is simple

all_options : (p : Rule → Bool) (f : Bool → Text → Rule) → ((takes : Bool) (name : Text) → p (f takes name) ≡ true) → (options : List WordOption)
    → list_all p (map (λ option. f (takes_value option.takes) option.name) options) ≡ true
all_options p f each [] = refl
all_options p f each (option ∷ options) = ap₂ (λ a b. a && b) (each (takes_value option.takes) option.name) (all_options p f each options)

no_option : (p : Rule → Bool) (f : Bool → Text → Rule) → ((takes : Bool) (name : Text) → p (f takes name) ≡ false) → (options : List WordOption)
    → list_any p (map (λ option. f (takes_value option.takes) option.name) options) ≡ false
no_option p f each [] = refl
no_option p f each (option ∷ options) = ap₂ (λ a b. a || b) (each (takes_value option.takes) option.name) (no_option p f each options)

simple_rule : (takes : Bool) (name : Text) → (rule_by takes name).is_simple ≡ true
simple_rule true name = refl
simple_rule false name = refl

simple_built : (takes : Bool) (name : Text) → (built_by takes name).is_simple ≡ true
simple_built true name = refl
simple_built false name = refl

free_built : (takes : Bool) (name : Text) → (built_by takes name).is_free ≡ true
free_built true name = refl
free_built false name = refl

none_early : (n : ℕ) (takes : Bool) (name : Text) → is_early_multiple n (built_by takes name) ≡ false
none_early n true name = refl
none_early n false name = refl

none_placed : (k : ℕ) (options : List WordOption) → fold (λ (n : ℕ) (a : Rule). n + cond (is_some a.index) 1 0) k (map option_built options) ≡ k
none_placed k [] = refl
none_placed k (option ∷ options) = go (takes_value option.takes) (none_placed k options)
  where
    go : (takes : Bool) → fold (λ (n : ℕ) (a : Rule). n + cond (is_some a.index) 1 0) k (map option_built options) ≡ k
        → fold (λ (n : ℕ) (a : Rule). n + cond (is_some a.index) 1 0) (k + cond (is_some (built_by takes option.name).index) 1 0) (map option_built options) ≡ k
    go true e = ap (λ n. fold (λ (n : ℕ) (a : Rule). n + cond (is_some a.index) 1 0) n (map option_built options)) (add-zero k) ∙ e
    go false e = ap (λ n. fold (λ (n : ℕ) (a : Rule). n + cond (is_some a.index) 1 0) n (map option_built options)) (add-zero k) ∙ e

one_placed : (options : List WordOption) → count_by (λ (a : Rule). is_some a.index) (rules_built options) ≡ 1
one_placed options = none_placed 1 options

early_at : (n : ℕ) (options : List WordOption) → n ≡ 1 → list_any (is_early_multiple n) (rules_built options) ≡ false
early_at n options one = ap₂ (λ a b. a || b) (ap (λ k. is_early_multiple k place_built) one) (no_option (is_early_multiple n) built_by (none_early n) options)

pub simple_row : (name : Text) (options : List WordOption) → is_simple (row_app name options) ≡ true
unfolding row_app
simple_row name options =
    ap (λ (b : App). is_buildable (row_app name options) && (is_ready b.top && list_all is_ready_leaf b.subs)) (row_built name options)
    ∙ (ap (λ x. ((true && (true && x)) && true) && (is_ready (shape_built name options) && true)) (all_options (λ a. a.is_simple) rule_by simple_rule options)
    ∙ ap₂ (λ x y. (true && (true && x)) && not y && true) (all_options (λ a. a.is_simple) built_by simple_built options) (early_at _ options (one_placed options)))

pub free_row : (name : Text) (options : List WordOption) → is_simple_and_free (row_app name options) ≡ true
free_row name options =
    ap₂ (λ x y. x && is_free_app y) (simple_row name options) (row_built name options)
    ∙ ap (λ x. (true && x) && true) (all_options (λ a. a.is_free) built_by free_built options)

-- ---- searches

or_false : (b : Bool) → (b || false) ≡ b
or_false true = refl
or_false false = refl

option_long : (takes : Bool) (own name : Text) → (not (is_some (built_by takes own).index) && has_long (built_by takes own) name) ≡ bytes_eq own name
option_long true own name = or_false (bytes_eq own name)
option_long false own name = or_false (bytes_eq own name)

option_id : (takes : Bool) (own : Text) → (built_by takes own).id ≡ own
option_id true own = refl
option_id false own = refl

found_options : (p : Rule → Bool) (name : Text) → ((takes : Bool) (own : Text) → p (built_by takes own) ≡ bytes_eq own name) → (options : List WordOption)
    → find p (map option_built options) ≡ option_map option_built (row_by options name)
found_options p name each [] = refl
found_options p name each (option ∷ options) =
    ap₂ (λ (b : Bool) (rest : Option Rule). cond b (Some (option_built option)) rest) (each (takes_value option.takes) option.name) (found_options p name each options) ∙ go (bytes_eq option.name name)
  where
    go : (b : Bool) → cond b (Some (option_built option)) (option_map option_built (row_by options name)) ≡ option_map option_built (cond b (Some option) (row_by options name))
    go true = refl
    go false = refl

pub by_long : (options : List WordOption) (name : Text) → arg_by_long (rules_built options) name ≡ option_map option_built (row_by options name)
by_long options name = found_options _ name (λ takes own. option_long takes own name) options

pub by_id : (options : List WordOption) (name : Text) → bytes_eq places_id name ≡ false → arg_by_id (rules_built options) name ≡ option_map option_built (row_by options name)
by_id options name other =
    ap (λ (b : Bool). cond b (Some place_built) (find (λ (a : Rule). bytes_eq a.id name) (map option_built options))) other
    ∙ found_options _ name (λ takes own. ap (λ id. bytes_eq id name) (option_id takes own)) options

-- ---- what stands before and after the first '='

name_more : (byte : ℕ) (named : List ℕ) → (byte == 61) ≡ false → take (name_len (byte ∷ named)) (byte ∷ named) ≡ byte ∷ take (name_len named) named
name_more byte named other = ap (λ (b : Bool). take (cond (not b) (1 + name_len named) 0) (byte ∷ named)) other ∙ ap (λ k. take k (byte ∷ named)) (one-add (name_len named))

pub name_no_sign : (named : List ℕ) → bytes_eq places_id (take (name_len named) named) ≡ false
name_no_sign [] = refl
name_no_sign (byte ∷ named) = go (byte == 61) refl
  where
    go : (b : Bool) → (byte == 61) ≡ b → bytes_eq places_id (take (name_len (byte ∷ named)) (byte ∷ named)) ≡ false
    go true is = ap (λ (c : Bool). bytes_eq places_id (take (cond (not c) (1 + name_len named) 0) (byte ∷ named))) is
    go false is =
        let other : (61 == byte) ≡ false = ne_eqb _ _ (λ same. absurd (true≢false (sym (eq-eqb byte 61 (sym same)) ∙ is))) in
        ap (bytes_eq places_id) (name_more byte named is) ∙ ap (λ (c : Bool). c && bytes_eq [] (take (name_len named) named)) other

-- the value behind the sign
abbrev pub value_behind : List ℕ → Option Text
value_behind [] = None
value_behind (sign ∷ text) = Some text

pub value_is : (named : List ℕ) → cond (has_byte 61 named) (Some (after_first (λ x. x == 61) named)) None ≡ value_behind (drop (name_len named) named)
value_is [] = refl
value_is (byte ∷ named) = go (byte == 61) (value_is named)
  where
    more : (k : ℕ) → drop ((1 + k) + 1) (byte ∷ named) ≡ drop (k + 1) named
    more k = ap (λ j. drop j (byte ∷ named)) (let e : (1 + k) + 1 ≡ suc (k + 1) = omega arith in e)

    less : (k : ℕ) → drop (1 + k) (byte ∷ named) ≡ drop k named
    less k = ap (λ j. drop j (byte ∷ named)) (one-add k)

    go : (b : Bool) → cond (has_byte 61 named) (Some (after_first (λ x. x == 61) named)) None ≡ value_behind (drop (name_len named) named)
        → cond (b || has_byte 61 named) (Some (drop (cond (not b) (1 + name_len named) 0 + 1) (byte ∷ named))) None
        ≡ value_behind (drop (cond (not b) (1 + name_len named) 0) (byte ∷ named))
    go true e = refl
    go false e = ap (λ rest. cond (has_byte 61 named) (Some rest) None) (more (name_len named)) ∙ (e ∙ ap value_behind (sym (less (name_len named))))

-- ---- after the walk

default_option : (takes : Bool) (name : Text) (rows : List Row) → default_fault rows (built_by takes name) ≡ []
default_option true name rows = go (has_row name rows)
  where
    go : (b : Bool) → cond (b || true) [] (given_default_fault (built_by true name) []) ≡ []
    go true = refl
    go false = refl
default_option false name rows = go (has_row name rows)
  where
    go : (b : Bool) → cond (b || false) [] (given_default_fault (built_by false name) (built_by false name).defaults) ≡ []
    go true = refl
    go false = refl

options_default : (rows : List Row) (options : List WordOption) → defaults_fault rows (map option_built options) ≡ []
unfolding defaults_fault
options_default rows [] = refl
options_default rows (option ∷ options) =
    ap₂ or_else (default_option (takes_value option.takes) option.name rows) (options_default (with_default rows (option_built option)) options)

pub no_default_fault : (rows : List Row) (options : List WordOption) → defaults_fault rows (rules_built options) ≡ []
unfolding defaults_fault
no_default_fault rows options = ap₂ or_else (go (has_row places_id rows)) (options_default (with_default rows place_built) options)
  where
    go : (b : Bool) → cond (b || true) [] (given_default_fault place_built []) ≡ []
    go true = refl
    go false = refl

not_required : (p : Rule → Bool) (takes : Bool) (name : Text) → ((built_by takes name).required && p (built_by takes name)) ≡ false
not_required p true name = refl
not_required p false name = refl

pub no_check_fault : (name : Text) (options : List WordOption) (rows : List Row) → check_fault (shape_built name options) rows false ≡ []
no_check_fault name options rows =
    ap (λ (b : Bool). check_kinds false false (true && (false || b)))
    (no_option (λ a. a.required && not (is_given a.id rows)) built_by (not_required (λ a. not (is_given a.id rows))) options)
