-- What clap makes of the words after a command's name: a use for each item, one after the other, or a fault where they have none.
use Rattle.std.proofs.Common.{◌≡◌, ℕ, ◌==◌, Bool, true, false, not, cond, ◌&&◌, ◌||◌, List, [], ◌∷◌, map, take, drop, fold, option_map, Option, Some, None, refl, ap, ap₂, sym, ◌∙◌, subst, true≢false, eqb-true, nat_lt}
use Rattle.std.specs.Str.{bytes_eq}
use Rattle.std.specs.Option.{option_map_or}
use Rattle.std.proofs.lemmas.Slice.Eq.{bytes_eq-Decides}
use Rattle.std.specs.Prelude.{option_and_then}
use Rattle.clap.specs.Lexer.{long_of, long_of_rest, short_of, short_of_rest, strip_byte, name_and_value}
use Rattle.clap.specs.Walk.{Held, Row, Rule, Step, Text, Waiting, Walk, after_step, pushed, idle, option as for_option, positional as at_places, value as to_places, next as goes_on, trailing as all_places, after_flag, arg_by_id, arg_by_long, is_pending, long_met, long_word, option_word as option_meets, plain_word as plain_meets, settled, settled_rows, short_or_plain, long_or_other, used_by_id, walked, word_met}
use Rattle.clap.specs.Simple.{Shape}
use Rattle.clap.specs.Kinds.{Kinds, or_else}
use Rattle.clap.specs.Faults.{bundle_fault, flag_word_fault, long_fault, positional_fault, settle_fault, step_fault, turn_fault, use_fault, walk_fault, word_fault}
use Rattle.ct_words.specs.Table.{WordOption, takes_value}
use Rattle.ct_words.specs.Role.{name_len}
use Rattle.ct_words.specs.Items.{WordItem, place, flagged, valued, WordLook, ends_options, plain_word, look_with, look_row, row_by, look_dashed, look_at, item_joined, items_of, has_single}
use Rattle.ct_words.specs.Command.{places_id}
use Rattle.ct_words.specs.declared.table.Takes.{Takes}
use Rattle.ct_words.specs.declared.table.Takes.TheVariants.{Nothing, Number, Name}
use Rattle.ct_words.proofs.Uses.{item_fault, item_used, items_fault, items_used, IsNamed, AreNamed, or_else_assoc, or_else_nil, first_nil, second_nil}
use Rattle.ct_words.proofs.Items.{items-word, found_name, found_again}
use Rattle.ct_words.proofs.Rules.{place_built, built_by, option_built, rules_built, shape_built, by_id, by_long, name_no_sign, value_behind, value_is}

-- ---- the walk

abbrev held_at : List Row → Option (Text × List Text) → Held
held_at rows pending = record { rows = rows; pending = pending; skip = 0 }

abbrev pub walk_at : Bool → Waiting → List Row → Option (Text × List Text) → Walk
walk_at is_trailing waiting rows pending = record { held = held_at rows pending; waiting = waiting; position = 1; is_trailing = is_trailing; stopped = None }

abbrev pub fault_from : Text → List WordOption → Walk → List Text → Kinds
fault_from name options w words =
    or_else (walk_fault (shape_built name options) [] w words) (settle_fault (rules_built options) false (fold (walked (rules_built options) []) w words).held)

abbrev pub rows_from : List WordOption → Walk → List Text → List Row
rows_from options w words = (settled (rules_built options) (fold (walked (rules_built options) []) w words).held).rows

abbrev pub Reads : Option (List WordItem) → Kinds → List Row → Kinds → List Row → Type 0
Reads None fault end before rows = fault ≡ [] → ⊥
Reads (Some items) fault end before rows = (fault ≡ or_else before (items_fault items rows)) × (end ≡ items_used items rows) × AreNamed items

module _ (name : Text) (options : List WordOption) where
  abbrev c : List Rule
  c = rules_built options

  abbrev s : Shape
  s = shape_built name options

  fault_step : (w after : Walk) (word : Text) (words : List Text) (first : Kinds) → turn_fault s [] w word ≡ first → walked c [] w word ≡ after
      → fault_from name options w (word ∷ words) ≡ or_else first (fault_from name options after words)
  unfolding walk_fault
  fault_step w after word words first turn goes =
      ap₂ (λ (t : Kinds) (v : Walk). or_else (or_else t (walk_fault s [] v words)) (settle_fault c false (fold (walked c []) v words).held)) turn goes
      ∙ or_else_assoc first (walk_fault s [] after words) (settle_fault c false (fold (walked c []) after words).held)

  rows_step : (w after : Walk) (word : Text) (words : List Text) → walked c [] w word ≡ after → rows_from options w (word ∷ words) ≡ rows_from options after words
  rows_step w after word words goes = ap (λ (v : Walk). rows_from options v words) goes

  -- ---- a word for the places

  never : (b : Bool) → (b && false) ≡ false
  never true = refl
  never false = refl

  place_fault : (rows : List Row) (pending : Option (Text × List Text)) → positional_fault c false place_built (held_at rows pending) ≡ settle_fault c false (held_at rows pending)
  place_fault rows pending = ap (λ (b : Bool). cond b [] (settle_fault c false (held_at rows pending))) (never (is_pending place_built pending))

  abbrev placed : Bool → List Row → Option (Text × List Text) → Text → Walk
  placed is_trailing rows pending word = walk_at is_trailing at_places (settled_rows c pending rows) (Some (places_id, word ∷ []))

  abbrev walk_of : Held → Bool → Walk
  walk_of held is_trailing = record { held = held; waiting = at_places; position = 1; is_trailing = is_trailing; stopped = None }

  or_false : (b : Bool) → (b || false) ≡ b
  or_false true = refl
  or_false false = refl

  place_walk : (is_trailing : Bool) (waiting : Waiting) (rows : List Row) (pending : Option (Text × List Text)) (word : Text)
      → word_met c [] is_trailing waiting 1 word (held_at rows pending) ≡ (held_at rows pending, to_places) → walked c [] (walk_at is_trailing waiting rows pending) word ≡ placed is_trailing rows pending word
  unfolding walked
  place_walk is_trailing waiting rows pending word met =
      ap (λ (m : Held × Step). after_step c word (walk_at is_trailing waiting rows pending) m.0 m.1) met
      ∙ (ap (λ (b : Bool).
      let from = cond b (held_at rows pending) (settled c (held_at rows pending)) in
      walk_of (pushed places_id word from) (is_trailing || false)) (never (is_pending place_built pending))
      ∙ ap (λ (b : Bool). walk_of (held_at (settled_rows c pending rows) (Some (places_id, word ∷ []))) b) (or_false is_trailing))

  all_trailing : (words : List Text) (waiting : Waiting) (rows : List Row) (pending : Option (Text × List Text))
      → Reads (Some (map place words)) (fault_from name options (walk_at true waiting rows pending) words) (rows_from options (walk_at true waiting rows pending) words)
      (settle_fault c false (held_at rows pending)) (settled_rows c pending rows)
  unfolding items_fault items_used walk_fault
  all_trailing [] waiting rows pending = (sym (or_else_nil _), refl, tt)
  all_trailing (word ∷ words) waiting rows pending =
      let goes = place_walk true waiting rows pending word refl in
      let more = all_trailing words at_places (settled_rows c pending rows) (Some (places_id, word ∷ [])) in (
        fault_step (walk_at true waiting rows pending) (placed true rows pending word) word words _ (place_fault rows pending) goes
            ∙ ap (or_else (settle_fault c false (held_at rows pending))) more.0,
        rows_step (walk_at true waiting rows pending) (placed true rows pending word) word words goes ∙ more.1,
        (tt, more.2),
      )

  -- ---- a word that is no option

  abbrev IsPlainWord : Text → Type 0
  IsPlainWord word = (bytes_eq word (45 ∷ 45 ∷ []) ≡ false) × (long_of word ≡ None) × (short_of word ≡ None)

  plain_after : (waiting : Waiting) (word : Text) (h : Held) → IsPlainWord word
      → cond (bytes_eq word (45 ∷ 45 ∷ [])) (h, all_places 1) (long_or_other c waiting word (long_of word) h) ≡ plain_meets c waiting word h
  plain_after waiting word h is =
      ap (λ (b : Bool). cond b (h, all_places 1) (long_or_other c waiting word (long_of word) h)) is.0
      ∙ (ap (λ l. long_or_other c waiting word l h) is.1 ∙ ap (λ f. short_or_plain c waiting word f h) is.2)

  plain_met : (waiting : Waiting) (word : Text) (h : Held) → IsPlainWord word → word_met c [] false waiting 1 word h ≡ plain_meets c waiting word h
  plain_met idle word h is = plain_after idle word h is
  plain_met at_places word h is = plain_after at_places word h is
  plain_met (for_option id) word h is = plain_after (for_option id) word h is

  plain_passes : (word : Text) (h : Held) → IsPlainWord word → cond (bytes_eq word (45 ∷ 45 ∷ [])) [] (flag_word_fault c false (long_of word) word h) ≡ []
  plain_passes word h is =
      ap (λ (b : Bool). cond b [] (flag_word_fault c false (long_of word) word h)) is.0
      ∙ (ap (λ l. flag_word_fault c false l word h) is.1 ∙ ap (λ f. option_map_or (λ flags. bundle_fault c false flags h) f []) is.2)

  plain_fault : (waiting : Waiting) (word : Text) (h : Held) → IsPlainWord word → word_fault s [] false waiting word h ≡ []
  plain_fault idle word h is = plain_passes word h is
  plain_fault at_places word h is = plain_passes word h is
  plain_fault (for_option id) word h is = plain_passes word h is

  -- ---- a word with two dashes

  dashes_met : (waiting : Waiting) (byte : ℕ) (named : Text) (h : Held)
      → word_met c [] false waiting 1 (45 ∷ 45 ∷ byte ∷ named) h
      ≡ long_word c waiting (45 ∷ 45 ∷ byte ∷ named) (name_and_value (byte ∷ named)).0 (name_and_value (byte ∷ named)).1 h
  dashes_met idle byte named h = refl
  dashes_met at_places byte named h = refl
  dashes_met (for_option id) byte named h = refl

  dashes_fault : (waiting : Waiting) (byte : ℕ) (named : Text) (h : Held)
      → word_fault s [] false waiting (45 ∷ 45 ∷ byte ∷ named) h ≡ long_fault c false (arg_by_long c (name_and_value (byte ∷ named)).0) (name_and_value (byte ∷ named)).1 h
  dashes_fault idle byte named h = refl
  dashes_fault at_places byte named h = refl
  dashes_fault (for_option id) byte named h = refl

  -- the same, by the row of its name and by what stands from the sign on
  abbrev row_named : Text → Option WordOption
  row_named word = row_by options (take (name_len word) word)

  abbrev from_sign : Text → Text
  from_sign word = drop (name_len word) word

  abbrev met_by : Waiting → Text → Held → Option WordOption → Option Text → Held × Step
  met_by waiting word h found text = after_flag c waiting word (long_met c (option_map option_built found) text h).0 (long_met c (option_map option_built found) text h).1

  row_met : (waiting : Waiting) (byte : ℕ) (named : Text) (h : Held)
      → word_met c [] false waiting 1 (45 ∷ 45 ∷ byte ∷ named) h ≡ met_by waiting (45 ∷ 45 ∷ byte ∷ named) h (row_named (byte ∷ named)) (value_behind (from_sign (byte ∷ named)))
  row_met waiting byte named h =
      dashes_met waiting byte named h
      ∙ ap₂ (λ (found : Option Rule) (text : Option Text). after_flag c waiting (45 ∷ 45 ∷ byte ∷ named) (long_met c found text h).0 (long_met c found text h).1)
      (by_long options (take (name_len (byte ∷ named)) (byte ∷ named))) (value_is (byte ∷ named))

  row_fault : (waiting : Waiting) (byte : ℕ) (named : Text) (h : Held)
      → word_fault s [] false waiting (45 ∷ 45 ∷ byte ∷ named) h ≡ long_fault c false (option_map option_built (row_named (byte ∷ named))) (value_behind (from_sign (byte ∷ named))) h
  row_fault waiting byte named h =
      dashes_fault waiting byte named h
      ∙ ap₂ (λ (found : Option Rule) (text : Option Text). long_fault c false found text h) (by_long options (take (name_len (byte ∷ named)) (byte ∷ named))) (value_is (byte ∷ named))

  -- ---- where the walk stands

  data Standing : Type 0 where
    free : Bool → Option (Text × List Text) → Standing
    asks : Text → Standing

  abbrev waiting_in : Standing → Waiting
  waiting_in (free true pending) = at_places
  waiting_in (free false pending) = idle
  waiting_in (asks own) = for_option own

  abbrev pending_in : Standing → Option (Text × List Text)
  pending_in (free b pending) = pending
  pending_in (asks own) = Some (own, [])

  abbrev name_in : Standing → Option Text
  name_in (free b pending) = None
  name_in (asks own) = Some own

  abbrev before_in : Standing → List Row → Kinds
  before_in (free b pending) rows = settle_fault c false (held_at rows pending)
  before_in (asks own) rows = []

  abbrev rows_in : Standing → List Row → List Row
  rows_in (free b pending) rows = settled_rows c pending rows
  rows_in (asks own) rows = rows

  abbrev IsAsked : Standing → Type 0
  IsAsked (free b pending) = Unit {0}
  IsAsked (asks own) = (bytes_eq places_id own ≡ false) × (arg_by_id c own ≡ Some (built_by true own))

  abbrev walk_in : Standing → List Row → Walk
  walk_in at rows = walk_at false (waiting_in at) rows (pending_in at)

  abbrev ReadsFrom : Standing → List Row → List Text → Type 0
  ReadsFrom at rows words =
      Reads (items_of options (name_in at) words) (fault_from name options (walk_in at rows) words) (rows_from options (walk_in at rows) words) (before_in at rows) (rows_in at rows)

  -- ---- one item more

  one_more : (item : WordItem) (items : Option (List WordItem)) (fault more : Kinds) (end before : _) (rows : List Row) (first : Kinds) → IsNamed item
      → Reads items more end before (item_used item rows) → fault ≡ or_else first (or_else (item_fault item rows) more) → before ≡ []
      → Reads (option_map (λ list. item ∷ list) items) fault end first rows
  unfolding items_fault items_used
  one_more item None fault more end before rows first named reads is none = λ e. reads (second_nil (item_fault item rows) more (second_nil first _ (sym is ∙ e)))
  one_more item (Some items) fault more end before rows first named reads is none =
      (is ∙ ap (λ (k : Kinds). or_else first (or_else (item_fault item rows) k)) (reads.0 ∙ ap (λ (k : Kinds). or_else k (items_fault items (item_used item rows))) none), reads.1, (named, reads.2))

  one_held : (item : WordItem) (items : Option (List WordItem)) (fault more : Kinds) (end : List Row) (before : Kinds) (after rows : List Row) (first : Kinds) → IsNamed item
      → Reads items more end before after → before ≡ item_fault item rows → after ≡ item_used item rows → fault ≡ or_else first more
      → Reads (option_map (λ list. item ∷ list) items) fault end first rows
  unfolding items_fault items_used
  one_held item None fault more end before after rows first named reads held gone is = λ e. reads (second_nil first more (sym is ∙ e))
  one_held item (Some items) fault more end before after rows first named reads held gone is = (
    is ∙ ap (or_else first) (reads.0 ∙ ap₂ (λ (k : Kinds) (r : List Row). or_else k (items_fault items r)) held gone),
    reads.1 ∙ ap (items_used items) gone,
    (named, reads.2),
  )

  same_items : (items : Option (List WordItem)) (fault more : Kinds) (end rows : List Row) (first : Kinds) → Reads items more end [] rows → fault ≡ or_else first more → Reads items fault end first rows
  same_items None fault more end rows first reads is = λ e. reads (second_nil first more (sym is ∙ e))
  same_items (Some items) fault more end rows first reads is = (is ∙ ap (or_else first) reads.0, reads.1, reads.2)

  some_kind : (k : _) (ks : Kinds) → k ∷ ks ≡ [] → ⊥
  some_kind k ks e = cc

  -- ---- a word where no option asks for its value

  free_turn : (b : Bool) (pending : Option (Text × List Text)) (rows : List Row) (word : Text) → IsPlainWord word
      → word_met c [] false (waiting_in (free b pending)) 1 word (held_at rows pending) ≡ (held_at rows pending, to_places)
  free_turn true pending rows word is = plain_met at_places word (held_at rows pending) is
  free_turn false pending rows word is = plain_met idle word (held_at rows pending) is

  turn_by : (at : Standing) (rows : List Row) (word : Text) (first : Kinds) (met : Held × Step)
      → word_fault s [] false (waiting_in at) word (held_at rows (pending_in at)) ≡ first → word_met c [] false (waiting_in at) 1 word (held_at rows (pending_in at)) ≡ met
      → turn_fault s [] (walk_in at rows) word ≡ or_else first (step_fault s 1 met.0 met.1)
  turn_by at rows word first met fault goes = ap₂ (λ (k : Kinds) (m : Held × Step). or_else k (step_fault s 1 m.0 m.1)) fault goes

  walk_by : (at : Standing) (rows : List Row) (word : Text) (met : Held × Step) → word_met c [] false (waiting_in at) 1 word (held_at rows (pending_in at)) ≡ met
      → walked c [] (walk_in at rows) word ≡ after_step c word (walk_in at rows) met.0 met.1
  unfolding walked
  walk_by at rows word met goes = ap (λ (m : Held × Step). after_step c word (walk_in at rows) m.0 m.1) goes

  step_reads : (at : Standing) (rows : List Row) (word : Text) (words : List Text) (after : Walk) (look : WordLook) → look_at options word ≡ look → walked c [] (walk_in at rows) word ≡ after
      → Reads (item_joined word words (name_in at) (λ next. items_of options next words) look) (fault_from name options (walk_in at rows) (word ∷ words)) (rows_from options after words) (before_in at rows) (rows_in at rows)
      → ReadsFrom at rows (word ∷ words)
  step_reads at rows word words after look is goes reads =
      subst (λ items. Reads items (fault_from name options (walk_in at rows) (word ∷ words)) (rows_from options (walk_in at rows) (word ∷ words)) (before_in at rows) (rows_in at rows))
      (sym (items-word options (name_in at) word words ∙ ap (item_joined word words (name_in at) (λ next. items_of options next words)) is))
      (subst (λ end. Reads (item_joined word words (name_in at) (λ next. items_of options next words) look) (fault_from name options (walk_in at rows) (word ∷ words)) end (before_in at rows) (rows_in at rows))
      (sym (rows_step (walk_in at rows) after word words goes)) reads)

  plain_step : (at : Standing) (rows : List Row) (word : Text) (words : List Text) → IsAsked at → look_at options word ≡ plain_word → IsPlainWord word
      → ((next : Standing) (after : List Row) → IsAsked next → ReadsFrom next after words) → ReadsFrom at rows (word ∷ words)
  plain_step (free b pending) rows word words asked look is more =
      let met = free_turn b pending rows word is in
      let goes = place_walk false (waiting_in (free b pending)) rows pending word met in
      let turn = turn_by (free b pending) rows word [] (held_at rows pending, to_places) (plain_fault (waiting_in (free b pending)) word (held_at rows pending) is) met ∙ place_fault rows pending in
      let reads = more (free true (Some (places_id, word ∷ []))) (settled_rows c pending rows) tt in
      step_reads (free b pending) rows word words (placed false rows pending word) plain_word look goes
      (one_held (place word) (items_of options None words) _ _ _ _ _ (settled_rows c pending rows) (settle_fault c false (held_at rows pending)) tt reads refl refl
      (fault_step (walk_in (free b pending) rows) (placed false rows pending word) word words _ turn goes))
  plain_step (asks own) rows word words asked look is more =
      let h = held_at rows (Some (own, [])) in
      let after = held_at rows (Some (own, word ∷ [])) in
      let met = plain_met (for_option own) word h is
      ∙ (ap (λ (a : Option Rule). ((option_meets a own word h).0, goes_on (option_meets a own word h).1)) asked.1
      ∙ ap (λ (b : Bool). (after, goes_on (cond (nat_lt (cond b 1 0) 1) (for_option own) idle))) ((bytes_eq-Decides own own).1 refl)) in
      let goes = walk_by (asks own) rows word (after, goes_on idle) met in
      let turn = turn_by (asks own) rows word [] (after, goes_on idle) (plain_fault (for_option own) word h is) met in
      let reads = more (free false (Some (own, word ∷ []))) rows tt in
      step_reads (asks own) rows word words (walk_in (free false (Some (own, word ∷ []))) rows) plain_word look goes
      (one_held (valued own word) (items_of options None words) _ _ _ _ _ rows [] asked.0 reads
      (ap (λ (a : Option Rule). option_map_or (λ r. use_fault false r (word ∷ []) rows) a []) asked.1) (ap (λ (a : Option Rule). used_by_id a (word ∷ []) rows) asked.1)
      (fault_step (walk_in (asks own) rows) (walk_in (free false (Some (own, word ∷ []))) rows) word words _ turn goes))

  -- ---- an option

  abbrev IsOwn : Option WordOption → Type 0
  IsOwn None = Unit {0}
  IsOwn (Some row) = (bytes_eq places_id row.name ≡ false) × (arg_by_id c row.name ≡ Some (option_built row))

  own_row : (word : Text) (found : Option WordOption) → row_named word ≡ found → IsOwn found
  own_row word None is = tt
  own_row word (Some row) is =
      let own = found_name options _ row is in
      let other = ap (bytes_eq places_id) own ∙ name_no_sign word in
      (other, by_id options row.name other ∙ ap (option_map option_built) (found_again options _ row is))

  abbrev turn_at : Standing → List Row → Text → Option WordOption → Text → Kinds
  turn_at at rows word found sign =
      or_else (long_fault c false (option_map option_built found) (value_behind sign) (held_at rows (pending_in at)))
      (step_fault s 1 (met_by (waiting_in at) word (held_at rows (pending_in at)) found (value_behind sign)).0 (met_by (waiting_in at) word (held_at rows (pending_in at)) found (value_behind sign)).1)

  abbrev after_at : Standing → List Row → Text → Option WordOption → Text → Walk
  after_at at rows word found sign =
      after_step c word (walk_in at rows) (met_by (waiting_in at) word (held_at rows (pending_in at)) found (value_behind sign)).0 (met_by (waiting_in at) word (held_at rows (pending_in at)) found (value_behind sign)).1

  -- an option's own argument, with what stands from the sign on
  abbrev GivenStep : Text → Takes → Text → Type 0
  GivenStep own takes sign =
      (b : Bool) (pending : Option (Text × List Text)) (rows : List Row) (word : Text) (words : List Text) (fault : Kinds) → IsOwn (Some (record { name = own; takes = takes }))
      → ((next : Standing) (after : List Row) → IsAsked next → ReadsFrom next after words)
      → fault ≡ or_else (turn_at (free b pending) rows word (Some (record { name = own; takes = takes })) sign)
      (fault_from name options (after_at (free b pending) rows word (Some (record { name = own; takes = takes })) sign) words)
      → Reads (item_joined word words None (λ next. items_of options next words) (look_with own (takes_value takes) sign)) fault
      (rows_from options (after_at (free b pending) rows word (Some (record { name = own; takes = takes })) sign) words) (settle_fault c false (held_at rows pending)) (settled_rows c pending rows)

  value_step : (own sign : Text) → GivenStep own Name sign
  value_step own [] b pending rows word words fault is more same =
      same_items (items_of options (Some own) words) fault _ _ (settled_rows c pending rows) (settle_fault c false (held_at rows pending))
      (more (asks own) (settled_rows c pending rows) is)
      (same ∙ ap (λ (k : Kinds). or_else k (fault_from name options (walk_in (asks own) (settled_rows c pending rows)) words)) (or_else_nil _))
  value_step own (sign ∷ text) b pending rows word words fault is more same =
      one_more (valued own text) (items_of options None words) fault _ _ [] (settled_rows c pending rows) (settle_fault c false (held_at rows pending)) is.0
      (more (free false None) (item_used (valued own text) (settled_rows c pending rows)) tt)
      (same ∙ (ap (λ (k : Kinds). or_else k (fault_from name options (walk_in (free false None) (item_used (valued own text) (settled_rows c pending rows))) words)) (or_else_nil _)
      ∙ or_else_assoc (settle_fault c false (held_at rows pending)) (item_fault (valued own text) (settled_rows c pending rows)) (fault_from name options (walk_in (free false None) (item_used (valued own text) (settled_rows c pending rows))) words))) refl

  flag_step : (own sign : Text) → GivenStep own Nothing sign
  flag_step own [] b pending rows word words fault is more same =
      one_more (flagged own) (items_of options None words) fault _ _ [] (settled_rows c pending rows) (settle_fault c false (held_at rows pending)) is.0
      (more (free false None) (item_used (flagged own) (settled_rows c pending rows)) tt)
      (same ∙ (ap (λ (k : Kinds). or_else k (fault_from name options (walk_in (free false None) (item_used (flagged own) (settled_rows c pending rows))) words)) (or_else_nil _)
      ∙ or_else_assoc (settle_fault c false (held_at rows pending)) (item_fault (flagged own) (settled_rows c pending rows)) (fault_from name options (walk_in (free false None) (item_used (flagged own) (settled_rows c pending rows))) words))) refl
  flag_step own (sign ∷ text) b pending rows word words fault is more same = λ e. some_kind _ _ (sym same ∙ e)

  given_step : (own : Text) (takes : Takes) (sign : Text) → GivenStep own takes sign
  given_step own Nothing sign = flag_step own sign
  given_step own (Number bounds) sign = value_step own sign
  given_step own Name sign = value_step own sign

  -- an option that asks for its value gets none
  unanswered : (own : Text) (rows : List Row) → IsAsked (asks own) → settle_fault c false (held_at rows (Some (own, []))) ≡ [] → ⊥
  unanswered own rows asked e = some_kind _ _ (sym (ap (λ (a : Option Rule). option_map_or (λ r. use_fault false r [] rows) a []) asked.1) ∙ e)

  asks_step : (own : Text) (rows : List Row) (word : Text) (found : Option WordOption) (sign : Text) → IsAsked (asks own) → turn_at (asks own) rows word found sign ≡ [] → ⊥
  asks_step own rows word None sign asked e = some_kind _ _ e
  asks_step own rows word (Some row) sign asked e = go row.name row.takes sign e
    where
      go : (name : Text) (takes : Takes) (sign : Text) → turn_at (asks own) rows word (Some (record { name = name; takes = takes })) sign ≡ [] → ⊥
      go name Nothing [] e = unanswered own rows asked (first_nil _ _ (first_nil _ _ e))
      go name Nothing (x ∷ text) e = some_kind _ _ e
      go name (Number bounds) [] e = unanswered own rows asked (first_nil _ _ e)
      go name (Number bounds) (x ∷ text) e = unanswered own rows asked (first_nil _ _ (first_nil _ _ e))
      go name Name [] e = unanswered own rows asked (first_nil _ _ e)
      go name Name (x ∷ text) e = unanswered own rows asked (first_nil _ _ (first_nil _ _ e))

  waits_none : (own : Text) (word : Text) (words : List Text) (found : Option WordOption) (sign : Text) (fault before : Kinds) (end rows : List Row) → (fault ≡ [] → ⊥)
      → Reads (item_joined word words (Some own) (λ next. items_of options next words) (look_row found sign)) fault end before rows
  waits_none own word words None sign fault before end rows fails = fails
  waits_none own word words (Some row) sign fault before end rows fails = go (takes_value row.takes) sign
    where
      go : (takes : Bool) (sign : Text) → Reads (item_joined word words (Some own) (λ next. items_of options next words) (look_with row.name takes sign)) fault end before rows
      go false [] = fails
      go false (x ∷ text) = fails
      go true [] = fails
      go true (x ∷ text) = fails

  option_step : (at : Standing) (rows : List Row) (byte : ℕ) (named : Text) (words : List Text) → IsAsked at
      → ((next : Standing) (after : List Row) → IsAsked next → ReadsFrom next after words) → ReadsFrom at rows ((45 ∷ 45 ∷ byte ∷ named) ∷ words)
  option_step at rows byte named words asked more =
      let word = 45 ∷ 45 ∷ byte ∷ named in
      let found = row_named (byte ∷ named) in
      let sign = from_sign (byte ∷ named) in
      let h = held_at rows (pending_in at) in
      let met = row_met (waiting_in at) byte named h in
      let goes = walk_by at rows word _ met in
      let turn = turn_by at rows word _ _ (row_fault (waiting_in at) byte named h) met in
      step_reads at rows word words (after_at at rows word found sign) (look_row found sign) refl goes
      (go at found sign asked (own_row (byte ∷ named) found refl) (fault_from name options (walk_in at rows) (word ∷ words)) (fault_step (walk_in at rows) (after_at at rows word found sign) word words _ turn goes))
    where
      go : (at : Standing) (found : Option WordOption) (sign : Text) → IsAsked at → IsOwn found → (fault : Kinds)
          → fault ≡ or_else (turn_at at rows (45 ∷ 45 ∷ byte ∷ named) found sign) (fault_from name options (after_at at rows (45 ∷ 45 ∷ byte ∷ named) found sign) words)
          → Reads (item_joined (45 ∷ 45 ∷ byte ∷ named) words (name_in at) (λ next. items_of options next words) (look_row found sign)) fault
          (rows_from options (after_at at rows (45 ∷ 45 ∷ byte ∷ named) found sign) words) (before_in at rows) (rows_in at rows)
      go (free b pending) None sign asked own fault same = λ e. some_kind _ _ (sym same ∙ e)
      go (free b pending) (Some row) sign asked own fault same = given_step row.name row.takes sign b pending rows (45 ∷ 45 ∷ byte ∷ named) words fault own more same
      go (asks name) found sign asked own fault same =
          waits_none name (45 ∷ 45 ∷ byte ∷ named) words found sign fault [] _ rows (λ e. asks_step name rows (45 ∷ 45 ∷ byte ∷ named) found sign asked (first_nil _ _ (sym same ∙ e)))

  -- ---- the end of the options, and of the words

  end_met : (at : Standing) (rows : List Row) → word_met c [] false (waiting_in at) 1 (45 ∷ 45 ∷ []) (held_at rows (pending_in at)) ≡ (held_at rows (pending_in at), all_places 1)
  end_met (free true pending) rows = refl
  end_met (free false pending) rows = refl
  end_met (asks own) rows = refl

  end_fault : (at : Standing) (rows : List Row) → word_fault s [] false (waiting_in at) (45 ∷ 45 ∷ []) (held_at rows (pending_in at)) ≡ []
  end_fault (free true pending) rows = refl
  end_fault (free false pending) rows = refl
  end_fault (asks own) rows = refl

  end_step : (at : Standing) (rows : List Row) (words : List Text) → IsAsked at → ReadsFrom at rows ((45 ∷ 45 ∷ []) ∷ words)
  end_step at rows words asked =
      let goes = walk_by at rows (45 ∷ 45 ∷ []) _ (end_met at rows) in
      let turn = turn_by at rows (45 ∷ 45 ∷ []) _ _ (end_fault at rows) (end_met at rows) in
      step_reads at rows (45 ∷ 45 ∷ []) words (walk_at true (waiting_in at) rows (pending_in at)) ends_options refl goes
      (go at asked (fault_from name options (walk_in at rows) ((45 ∷ 45 ∷ []) ∷ words)) (fault_step (walk_in at rows) (walk_at true (waiting_in at) rows (pending_in at)) (45 ∷ 45 ∷ []) words _ turn goes))
    where
      go : (at : Standing) → IsAsked at → (fault : Kinds) → fault ≡ fault_from name options (walk_at true (waiting_in at) rows (pending_in at)) words
          → Reads (item_joined (45 ∷ 45 ∷ []) words (name_in at) (λ next. items_of options next words) ends_options) fault (rows_from options (walk_at true (waiting_in at) rows (pending_in at)) words) (before_in at rows) (rows_in at rows)
      go (free b pending) asked fault same =
          let reads = all_trailing words (waiting_in (free b pending)) rows pending in
          (same ∙ reads.0, reads.1, reads.2)
      go (asks own) asked fault same =
          λ e. unanswered own rows asked (first_nil _ _ (sym (all_trailing words (for_option own) rows (Some (own, []))).0 ∙ (sym same ∙ e)))

  last_reads : (at : Standing) (rows : List Row) → IsAsked at → ReadsFrom at rows []
  unfolding items_of walk_fault items_fault items_used
  last_reads (free b pending) rows asked = (sym (or_else_nil _), refl, tt)
  last_reads (asks own) rows asked = unanswered own rows asked

  -- ---- any word

  abbrev ReadsWord : Text → Type 0
  ReadsWord word = (at : Standing) (rows : List Row) (words : List Text) → IsAsked at → has_single (word ∷ words) ≡ false
      → ((next : Standing) (after : List Row) → IsAsked next → has_single words ≡ false → ReadsFrom next after words) → ReadsFrom at rows (word ∷ words)

  empty_step : ReadsWord []
  empty_step at rows words asked none more = plain_step at rows [] words asked refl (refl, refl, refl) (λ next after own. more next after own none)

  short_step : (x : ℕ) → ReadsWord (x ∷ [])
  short_step x at rows words asked none more =
      plain_step at rows (x ∷ []) words asked refl (never (x == 45), go_long (x == 45), go_short (x == 45))
      (λ next after own. more next after own (sym (ap (λ (b : Bool). not b && has_single words) (never (x == 45))) ∙ none))
    where
      go_long : (b : Bool) → option_and_then long_of_rest (option_and_then (strip_byte 45) (cond b (Some []) None)) ≡ None
      go_long true = refl
      go_long false = refl

      go_short : (b : Bool) → option_and_then short_of_rest (cond b (Some []) None) ≡ None
      go_short true = refl
      go_short false = refl

  dashes_step : (named : Text) → ReadsWord (45 ∷ 45 ∷ named)
  dashes_step [] at rows words asked none more = end_step at rows words asked
  dashes_step (byte ∷ named) at rows words asked none more = option_step at rows byte named words asked (λ next after own. more next after own none)

  single_step : (y : ℕ) (named : Text) → (y == 45) ≡ false → ReadsWord (45 ∷ y ∷ named)
  single_step y named other at rows words asked none more =
      absurd (true≢false (sym (ap (λ (b : Bool). not (b && bytes_eq named []) && (not b || has_single words)) other) ∙ none))

  other_step : (x y : ℕ) (named : Text) → (x == 45) ≡ false → ReadsWord (x ∷ y ∷ named)
  other_step x y named other at rows words asked none more =
      plain_step at rows (x ∷ y ∷ named) words asked (ap (λ (b : Bool). cond b (look_dashed options y named) plain_word) other) (
        ap (λ (b : Bool). b && bytes_eq (y ∷ named) (45 ∷ [])) other,
        ap (λ (b : Bool). option_and_then long_of_rest (option_and_then (strip_byte 45) (cond b (Some (y ∷ named)) None))) other,
        ap (λ (b : Bool). option_and_then short_of_rest (cond b (Some (y ∷ named)) None)) other,
      )
      (λ next after own. more next after own (sym (ap (λ (b : Bool). not (b && bytes_eq (y ∷ named) (45 ∷ [])) && ((b && not (y == 45)) || has_single words)) other) ∙ none))

  word_step : (word : Text) → ReadsWord word
  word_step [] = empty_step
  word_step (x ∷ []) = short_step x
  word_step (x ∷ y ∷ named) = go (x == 45) refl
    where
      dashed : (b : Bool) → (y == 45) ≡ b → ReadsWord (45 ∷ y ∷ named)
      dashed true is = subst (λ z. ReadsWord (45 ∷ z ∷ named)) (sym (eqb-true y 45 is)) (dashes_step named)
      dashed false is = single_step y named is

      go : (b : Bool) → (x == 45) ≡ b → ReadsWord (x ∷ y ∷ named)
      go true is = subst (λ z. ReadsWord (z ∷ y ∷ named)) (sym (eqb-true x 45 is)) (dashed (y == 45) refl)
      go false is = other_step x y named is

  all_reads : (words : List Text) (at : Standing) (rows : List Row) → IsAsked at → has_single words ≡ false → ReadsFrom at rows words
  all_reads [] at rows asked none = last_reads at rows asked
  all_reads (word ∷ words) at rows asked none = word_step word at rows words asked none (λ next after own rest. all_reads words next after own rest)

  -- the walk over all the words
  pub walk_reads : (words : List Text) → has_single words ≡ false
      → Reads (items_of options None words) (fault_from name options (walk_at false idle [] None) words) (rows_from options (walk_at false idle [] None) words) [] []
  walk_reads words none = all_reads words (free false None) [] tt none
