-- The rows of the uses of the items: each option once, and the positional words in one row.
use Rattle.std.proofs.Common.{◌≡◌, ◌⊎◌, Bool, true, false, cond, ◌&&◌, ◌||◌, List, [], ◌∷◌, ◌++◌, map, find, fold, Option, Some, None, refl, ap, sym, subst, ◌∙◌, inl, inr, true≢false, append-nil, append_assoc, slice_get, codes}
use Rattle.std.proofs.lemmas.List.{map-append}
use Rattle.std.specs.Str.{bytes_eq}
use Rattle.std.specs.List.{list_any}
use Rattle.std.proofs.lemmas.Slice.Eq.{bytes_eq-Decides}
use Rattle.clap.specs.Walk.{Row, Text, at_row, with_values, without, has_row, stronger, more_values, with_default}
use Rattle.clap.specs.declared.builder.value_parser.Reading.{Reading}
use Rattle.clap.specs.declared.builder.value_parser.Reading.TheVariants.{AsWritten}
use Rattle.clap.specs.declared.error.kind.ErrorKind.TheVariants as kind
use Rattle.clap.specs.Kinds.{or_else}
use Rattle.clap.specs.declared.parser.matches.ValueSource.{ValueSource}
use Rattle.clap.specs.declared.parser.matches.ValueSource.TheVariants.{DefaultValue, CommandLine}
use Rattle.ct_words.specs.Table.{WordOption, takes_value}
use Rattle.ct_words.specs.Items.{WordItem, place, flagged, valued}
use Rattle.ct_words.specs.Command.{places_id}
use Rattle.ct_words.proofs.Rules.{place_built, built_by, option_built, rules_built}
use Rattle.ct_words.proofs.Uses.{item_fault, item_used, items_fault, items_used, IsNamed, AreNamed, first_nil, second_nil}

abbrev pub look : Text → List Row → Option Row
look id rows = find (λ r. bytes_eq r.id id) rows

pub not_true : (b : Bool) → (b ≡ true → ⊥) → b ≡ false
not_true true no_way = absurd (no_way refl)
not_true false no_way = refl

eq_same : (a : Text) → bytes_eq a a ≡ true
eq_same a = (bytes_eq-Decides a a).1 refl

pub eq_sym : (a b : Text) → bytes_eq a b ≡ bytes_eq b a
eq_sym a b = go (bytes_eq a b) refl
  where
    go : (x : Bool) → bytes_eq a b ≡ x → x ≡ bytes_eq b a
    go true is = sym ((bytes_eq-Decides b a).1 (sym ((bytes_eq-Decides a b).0 is)))
    go false is = sym (not_true (bytes_eq b a) (λ e. true≢false (sym ((bytes_eq-Decides a b).1 (sym ((bytes_eq-Decides b a).0 e))) ∙ is)))

-- ---- searches in rows

look_before : (id : Text) (rows more : List Row) (row : Row) → look id rows ≡ Some row → look id (rows ++ more) ≡ Some row
look_before id [] more row e = cc
look_before id (r ∷ rows) more row e = go (bytes_eq r.id id) e (look_before id rows more row)
  where
    go : (b : Bool) → cond b (Some r) (look id rows) ≡ Some row → (look id rows ≡ Some row → look id (rows ++ more) ≡ Some row) → cond b (Some r) (look id (rows ++ more)) ≡ Some row
    go true e next = e
    go false e next = next e

look_new : (id : Text) (rows : List Row) (row : Row) → has_row id rows ≡ false → bytes_eq row.id id ≡ true → look id (rows ++ row ∷ []) ≡ Some row
look_new id [] row none is = ap (λ (b : Bool). cond b (Some row) None) is
look_new id (r ∷ rows) row none is = go (bytes_eq r.id id) none (λ n. look_new id rows row n is)
  where
    go : (b : Bool) → (b || has_row id rows) ≡ false → (has_row id rows ≡ false → look id (rows ++ row ∷ []) ≡ Some row) → cond b (Some r) (look id (rows ++ row ∷ [])) ≡ Some row
    go true none next = absurd (true≢false none)
    go false none next = next none

at_none : (id : Text) (change : Row → List Row) (missing rows : List Row) → has_row id rows ≡ false → at_row id change missing rows ≡ rows ++ missing
at_none id change missing [] none = refl
at_none id change missing (r ∷ rows) none = go (bytes_eq r.id id) none (at_none id change missing rows)
  where
    go : (b : Bool) → (b || has_row id rows) ≡ false → (has_row id rows ≡ false → at_row id change missing rows ≡ rows ++ missing)
        → cond b (change r ++ rows) (r ∷ at_row id change missing rows) ≡ r ∷ rows ++ missing
    go true none next = absurd (true≢false none)
    go false none next = ap (λ (l : List Row). r ∷ l) (next none)

-- the row of this id, with more values
module _ (id : Text) (more : List Text) (missing : List Row) where
  abbrev grown : List Row → List Row
  grown rows = at_row id (more_values CommandLine more) missing rows

  grown_look : (rows : List Row) (row : Row) → look id rows ≡ Some row → row.source ≡ Some CommandLine
      → look id (grown rows) ≡ Some (record row { values = row.values ++ more; source = Some CommandLine })
  grown_look [] row e said = cc
  grown_look (r ∷ rows) row e said = go (bytes_eq r.id id) refl e (λ n. grown_look rows row n said)
    where
      wanted : Row
      wanted = record row { values = row.values ++ more; source = Some CommandLine }

      go : (b : Bool) → bytes_eq r.id id ≡ b → cond b (Some r) (look id rows) ≡ Some row
          → (look id rows ≡ Some row → look id (grown rows) ≡ Some (record row { values = row.values ++ more; source = Some CommandLine }))
          → look id (cond b (more_values CommandLine more r ++ rows) (r ∷ grown rows)) ≡ Some (record row { values = row.values ++ more; source = Some CommandLine })
      go true is e next =
          let same : r ≡ row = cc in
          ap (λ (b : Bool). cond b (Some (record r { values = r.values ++ more; source = Some (stronger r.source CommandLine) })) (look id rows)) is
          ∙ (ap (λ (x : Row). Some (record x { values = x.values ++ more; source = Some (stronger x.source CommandLine) })) same
          ∙ ap (λ (x : Option ValueSource). Some (record row { values = row.values ++ more; source = Some (stronger x CommandLine) })) said)
      go false is e next = ap (λ (b : Bool). cond b (Some r) (look id (grown rows))) is ∙ next e

  grown_other : (other : Text) (rows : List Row) → bytes_eq id other ≡ false → has_row id rows ≡ true → look other (grown rows) ≡ look other rows
  grown_other other [] differs has = cc
  grown_other other (r ∷ rows) differs has = go (bytes_eq r.id id) refl has (grown_other other rows differs)
    where
      go : (b : Bool) → bytes_eq r.id id ≡ b → (b || has_row id rows) ≡ true → (has_row id rows ≡ true → look other (grown rows) ≡ look other rows)
          → look other (cond b (more_values CommandLine more r ++ rows) (r ∷ grown rows)) ≡ look other (r ∷ rows)
      go true is has next =
          let not_it = ap (λ (x : Text). bytes_eq x other) ((bytes_eq-Decides r.id id).0 is) ∙ differs in
          ap (λ (b : Bool). cond b (Some (record r { values = r.values ++ more; source = Some (stronger r.source CommandLine) })) (look other rows)) not_it
          ∙ sym (ap (λ (b : Bool). cond b (Some r) (look other rows)) not_it)
      go false is has next = ap (λ (l : Option Row). cond (bytes_eq r.id other) (Some r) l) (next has)

  grown_ids : (rows : List Row) → has_row id rows ≡ true → map (λ (r : Row). r.id) (grown rows) ≡ map (λ (r : Row). r.id) rows
  grown_ids [] has = cc
  grown_ids (r ∷ rows) has = go (bytes_eq r.id id) has (grown_ids rows)
    where
      go : (b : Bool) → (b || has_row id rows) ≡ true → (has_row id rows ≡ true → map (λ (r : Row). r.id) (grown rows) ≡ map (λ (r : Row). r.id) rows)
          → map (λ (r : Row). r.id) (cond b (more_values CommandLine more r ++ rows) (r ∷ grown rows)) ≡ r.id ∷ map (λ (r : Row). r.id) rows
      go true has next = refl
      go false has next = ap (λ (l : List Text). r.id ∷ l) (next has)

has_ids : (id : Text) (rows : List Row) → has_row id rows ≡ list_any (λ x. bytes_eq x id) (map (λ (r : Row). r.id) rows)
has_ids id [] = refl
has_ids id (r ∷ rows) = ap (λ (b : Bool). bytes_eq r.id id || b) (has_ids id rows)

has_look : (id : Text) (rows : List Row) (row : Row) → look id rows ≡ Some row → has_row id rows ≡ true
has_look id [] row e = cc
has_look id (r ∷ rows) row e = go (bytes_eq r.id id) e (has_look id rows row)
  where
    go : (b : Bool) → cond b (Some r) (look id rows) ≡ Some row → (look id rows ≡ Some row → has_row id rows ≡ true) → (b || has_row id rows) ≡ true
    go true e next = refl
    go false e next = next e

-- ---- what the rows say

abbrev pub AsSaid : List Row → Text → Option Text → Type 0
AsSaid rows id (Some text) = (bytes_eq places_id id ≡ false) × ((row : Row) × (look id rows ≡ Some row) × (slice_get row.values 0 ≡ Some text) × (row.source ≡ Some CommandLine))
AsSaid rows id None = (places_id ≡ id) ⊎ ((row : Row) × (look id rows ≡ Some row) × (row.source ≡ Some DefaultValue))

abbrev pub Looks : List Row → List (Text × Option Text) → Type 0
Looks rows [] = Unit {0}
Looks rows (e ∷ es) = AsSaid rows e.0 e.1 × Looks rows es

abbrev pub with_text : Text → Option Text → List (Text × Text) → List (Text × Text)
with_text id None texts = texts
with_text id (Some text) texts = (id, text) ∷ texts

abbrev pub texts_of : List (Text × Option Text) → List (Text × Text)
texts_of [] = []
texts_of (e ∷ es) = with_text e.0 e.1 (texts_of es)

-- the places of the rows, before any default
abbrev PlacesAs : List Row → List Text → Type 0
PlacesAs rows places =
    ((has_row places_id rows ≡ false) × (places ≡ [])) ⊎ ((row : Row) × (look places_id rows ≡ Some row) × (row.source ≡ Some CommandLine) × (row.values ≡ places))

record Kept (rows : List Row) (es : List (Text × Option Text)) (places : List Text) : Type 0 where
  ids : map (λ (r : Row). r.id) rows ≡ map (λ (e : Text × Option Text). e.0) es
  looks : Looks rows es
  places_are : PlacesAs rows places

abbrev Keeps : List Row → List Row → Type 0
Keeps rows after = (id : Text) (row : Row) → bytes_eq places_id id ≡ false → look id rows ≡ Some row → look id after ≡ Some row

still_said : (rows after : List Row) → Keeps rows after → (id : Text) (text : Option Text) → AsSaid rows id text → AsSaid after id text
still_said rows after keeps id (Some text) said = (said.0, (said.1.0, keeps id said.1.0 said.0 said.1.1, said.1.2, said.1.3))
still_said rows after keeps id None (inl same) = inl same
still_said rows after keeps id None (inr row) = go (bytes_eq places_id id) refl
  where
    go : (b : Bool) → bytes_eq places_id id ≡ b → AsSaid after id None
    go true is = inl ((bytes_eq-Decides places_id id).0 is)
    go false is = inr (row.0, keeps id row.0 is row.1, row.2)

still_looks : (rows after : List Row) → Keeps rows after → (es : List (Text × Option Text)) → Looks rows es → Looks after es
still_looks rows after keeps [] looks = tt
still_looks rows after keeps (e ∷ es) looks = (still_said rows after keeps e.0 e.1 looks.0, still_looks rows after keeps es looks.1)

looks_more : (rows : List Row) (es : List (Text × Option Text)) (id : Text) (text : Option Text) → Looks rows es → AsSaid rows id text → Looks rows (es ++ (id, text) ∷ [])
looks_more rows [] id text looks said = (said, tt)
looks_more rows (e ∷ es) id text looks said = (looks.0, looks_more rows es id text looks.1 said)

texts_more : (es : List (Text × Option Text)) (id : Text) (text : Option Text) → texts_of (es ++ (id, text) ∷ []) ≡ texts_of es ++ with_text id text []
texts_more [] id text = refl
texts_more (e ∷ es) id text = go e.1 (texts_more es id text)
  where
    go : (own : Option Text) → texts_of (es ++ (id, text) ∷ []) ≡ texts_of es ++ with_text id text [] → with_text e.0 own (texts_of (es ++ (id, text) ∷ [])) ≡ with_text e.0 own (texts_of es) ++ with_text id text []
    go None same = same
    go (Some own) same = ap (λ (l : List (Text × Text)). (e.0, own) ∷ l) same

-- ---- one use more

abbrev pub item_text : WordItem → List (Text × Text)
item_text (place word) = []
item_text (flagged name) = (name, codes "true") ∷ []
item_text (valued name text) = (name, text) ∷ []

abbrev pub item_place : WordItem → List Text
item_place (place word) = word ∷ []
item_place (flagged name) = []
item_place (valued name text) = []

abbrev pub item_texts : List WordItem → List (Text × Text)
item_texts [] = []
item_texts (item ∷ items) = item_text item ++ item_texts items

abbrev pub item_places : List WordItem → List Text
item_places [] = []
item_places (item ∷ items) = item_place item ++ item_places items

abbrev After : List Row → List (Text × Option Text) → List Text → List (Text × Text) → Type 0
After rows es places texts = (more : List (Text × Option Text)) × Kept rows more places × (texts_of more ≡ texts_of es ++ texts)

pub new_use : (id : Text) (how : Reading) (values : List Text) (rows : List Row) → has_row id rows ≡ false
    → with_values id how CommandLine values (without id rows) ≡ rows ++ record { id = id; values = values; count = None; source = Some CommandLine; reading = how } ∷ []
new_use id how values rows none =
    ap (λ (l : List Row). with_values id how CommandLine values l) (at_none id (λ _. []) [] rows none ∙ append-nil rows) ∙ at_none id (more_values CommandLine values) _ rows none

has_more : (id : Text) (rows : List Row) (row : Row) → has_row id rows ≡ false → bytes_eq row.id id ≡ false → has_row id (rows ++ row ∷ []) ≡ false
has_more id [] row none other = ap (λ (b : Bool). b || false) other
has_more id (r ∷ rows) row none other = go (bytes_eq r.id id) none (λ n. has_more id rows row n other)
  where
    go : (b : Bool) → (b || has_row id rows) ≡ false → (has_row id rows ≡ false → has_row id (rows ++ row ∷ []) ≡ false) → (b || has_row id (rows ++ row ∷ [])) ≡ false
    go true none next = absurd (true≢false none)
    go false none next = next none

appended : (rows : List Row) (es : List (Text × Option Text)) (places : List Text) (row : Row) → Kept rows es places → Keeps rows (rows ++ row ∷ [])
appended rows es places row kept = λ id old other found. look_before id rows (row ∷ []) old found

option_used : (rows after : List Row) (es : List (Text × Option Text)) (places : List Text) (id text : Text) (how : Reading) → bytes_eq places_id id ≡ false → has_row id rows ≡ false
    → after ≡ rows ++ record { id = id; values = text ∷ []; count = None; source = Some CommandLine; reading = how } ∷ [] → Kept rows es places
    → After after es (places ++ []) ((id, text) ∷ [])
option_used rows after es places id text how other none is kept =
    let row : Row = record { id = id; values = text ∷ []; count = None; source = Some CommandLine; reading = how } in (
      es ++ (id, Some text) ∷ [],
      record {
        ids = ap (map (λ (r : Row). r.id)) is ∙ (map-append (λ (r : Row). r.id) rows (row ∷ []) ∙ (ap (λ (l : List Text). l ++ id ∷ []) kept.ids ∙ sym (map-append (λ (e : Text × Option Text). e.0) es ((id, Some text) ∷ []))));
        looks = subst (λ (l : List Row). Looks l (es ++ (id, Some text) ∷ [])) (sym is)
            (looks_more (rows ++ row ∷ []) es id (Some text) (still_looks rows (rows ++ row ∷ []) (appended rows es places row kept) es kept.looks) (other, (row, look_new id rows row none (eq_same id), refl, refl)));
        places_are = subst (λ (p : List Text). PlacesAs after p) (sym (append-nil places)) (subst (λ (l : List Row). PlacesAs l places) (sym is) (go kept.places_are));
      },
      texts_more es id (Some text),
    )
  where
    go : PlacesAs rows places → PlacesAs (rows ++ record { id = id; values = text ∷ []; count = None; source = Some CommandLine; reading = how } ∷ []) places
    go (inl absent) = inl (has_more places_id rows (record { id = id; values = text ∷ []; count = None; source = Some CommandLine; reading = how }) absent.0 (eq_sym id places_id ∙ other), absent.1)
    go (inr present) = inr (present.0, look_before places_id rows _ present.0 present.1, present.2, present.3)

place_used : (rows : List Row) (es : List (Text × Option Text)) (places : List Text) (word : Text) → Kept rows es places → After (item_used (place word) rows) es (places ++ word ∷ []) []
place_used rows es places word kept = go kept.places_are
  where
    go : PlacesAs rows places → After (item_used (place word) rows) es (places ++ word ∷ []) []
    go (inl absent) =
        let row : Row = record { id = places_id; values = word ∷ []; count = None; source = Some CommandLine; reading = AsWritten } in
        let is : item_used (place word) rows ≡ rows ++ row ∷ [] = at_none places_id (more_values CommandLine (word ∷ [])) (row ∷ []) rows absent.0 in (
          es ++ (places_id, None) ∷ [],
          record {
            ids = ap (map (λ (r : Row). r.id)) is ∙ (map-append (λ (r : Row). r.id) rows (row ∷ []) ∙ (ap (λ (l : List Text). l ++ places_id ∷ []) kept.ids ∙ sym (map-append (λ (e : Text × Option Text). e.0) es ((places_id, None) ∷ []))));
            looks = subst (λ (l : List Row). Looks l (es ++ (places_id, None) ∷ [])) (sym is)
                (looks_more (rows ++ row ∷ []) es places_id None (still_looks rows (rows ++ row ∷ []) (appended rows es places row kept) es kept.looks) (inl refl));
            places_are = inr (row, ap (look places_id) is ∙ look_new places_id rows row absent.0 refl, refl, sym (ap (λ (l : List Text). l ++ word ∷ []) absent.1));
          },
          texts_more es places_id None,
        )
    go (inr present) =
        let missing : List Row = record { id = places_id; values = word ∷ []; count = None; source = Some CommandLine; reading = AsWritten } ∷ [] in
        let has = has_look places_id rows present.0 present.1 in
        let keeps : Keeps rows (item_used (place word) rows) = λ id old other found. grown_other places_id (word ∷ []) missing id rows other has ∙ found in (
          es,
          record {
            ids = grown_ids places_id (word ∷ []) missing rows has ∙ kept.ids;
            looks = still_looks rows (item_used (place word) rows) keeps es kept.looks;
            places_are = inr (record present.0 { values = present.0.values ++ word ∷ []; source = Some CommandLine }, grown_look places_id (word ∷ []) missing rows present.0 present.1 present.2, refl, ap (λ (l : List Text). l ++ word ∷ []) present.3);
          },
          sym (append-nil (texts_of es)),
        )

-- a use of an option that was used before is a fault, and else none
use_once : (b : Bool) → or_else (cond (b && true) (kind.ArgumentConflict ∷ []) []) [] ≡ [] → b ≡ false
use_once true e = cc
use_once false e = refl

item_kept : (item : WordItem) (rows : List Row) (es : List (Text × Option Text)) (places : List Text) → IsNamed item → item_fault item rows ≡ [] → Kept rows es places
    → After (item_used item rows) es (places ++ item_place item) (item_text item)
item_kept (place word) rows es places named none kept = place_used rows es places word kept
item_kept (flagged name) rows es places named none kept =
    let fresh = use_once (has_row name rows) none in
    option_used rows (item_used (flagged name) rows) es places name (codes "true") _ named fresh (new_use name _ (codes "true" ∷ []) rows fresh) kept
item_kept (valued name text) rows es places named none kept =
    let fresh = use_once (has_row name rows) none in
    option_used rows (item_used (valued name text) rows) es places name text _ named fresh (new_use name _ (text ∷ []) rows fresh) kept

items_kept : (items : List WordItem) (rows : List Row) (es : List (Text × Option Text)) (places : List Text) → AreNamed items → items_fault items rows ≡ [] → Kept rows es places
    → After (items_used items rows) es (places ++ item_places items) (item_texts items)
unfolding items_fault items_used
items_kept [] rows es places named none kept = (es, subst (λ (p : List Text). Kept rows es p) (sym (append-nil places)) kept, sym (append-nil (texts_of es)))
items_kept (item ∷ items) rows es places named none kept =
    let one = item_kept item rows es places named.0 (first_nil _ _ none) kept in
    let more = items_kept items (item_used item rows) one.0 (places ++ item_place item) named.1 (second_nil (item_fault item rows) _ none) one.1 in (
      more.0,
      subst (λ (p : List Text). Kept (items_used items (item_used item rows)) more.0 p) (append_assoc places (item_place item) (item_places items)) more.1,
      more.2 ∙ (ap (λ (l : List (Text × Text)). l ++ item_texts items) one.2 ∙ append_assoc (texts_of es) (item_text item) (item_texts items)),
    )

-- ---- defaults

-- the places of the rows
abbrev pub PlacesEnd : List Row → List Text → Type 0
PlacesEnd rows places = ((has_row places_id rows ≡ false) × (places ≡ []))
    ⊎ ((row : Row) × (look places_id rows ≡ Some row) × (((row.source ≡ Some CommandLine) × (row.values ≡ places)) ⊎ ((row.source ≡ Some DefaultValue) × (places ≡ []))))

pub record Ended (rows : List Row) (es : List (Text × Option Text)) (places : List Text) : Type 0 where
  pub ids : map (λ (r : Row). r.id) rows ≡ map (λ (e : Text × Option Text). e.0) es
  pub looks : Looks rows es
  pub places_are : PlacesEnd rows places

ended : (rows : List Row) (es : List (Text × Option Text)) (places : List Text) → Kept rows es places → Ended rows es places
ended rows es places kept = record { ids = kept.ids; looks = kept.looks; places_are = go kept.places_are }
  where
    go : PlacesAs rows places → PlacesEnd rows places
    go (inl absent) = inl absent
    go (inr present) = inr (present.0, present.1, inl (present.2, present.3))

abbrev pub EndsAs : List Row → List Text → List (Text × Text) → Type 0
EndsAs rows places texts = (es : List (Text × Option Text)) × Ended rows es places × (texts_of es ≡ texts)

default_more : (rows : List Row) (es : List (Text × Option Text)) (places : List Text) (row : Row) → has_row row.id rows ≡ false → row.source ≡ Some DefaultValue → Ended rows es places
    → EndsAs (rows ++ row ∷ []) places (texts_of es)
default_more rows es places row none default kept = (
  es ++ (row.id, None) ∷ [],
  record {
    ids = map-append (λ (r : Row). r.id) rows (row ∷ []) ∙ (ap (λ (l : List Text). l ++ row.id ∷ []) kept.ids ∙ sym (map-append (λ (e : Text × Option Text). e.0) es ((row.id, None) ∷ [])));
    looks = looks_more (rows ++ row ∷ []) es row.id None (still_looks rows (rows ++ row ∷ []) (λ id old other found. look_before id rows (row ∷ []) old found) es kept.looks)
        (inr (row, look_new row.id rows row none (eq_same row.id), default));
    places_are = go kept.places_are;
  },
  texts_more es row.id None ∙ append-nil (texts_of es),
)
  where
    go : PlacesEnd rows places → PlacesEnd (rows ++ row ∷ []) places
    go (inr present) = inr (present.0, look_before places_id rows (row ∷ []) present.0 present.1, present.2)
    go (inl absent) = by_id (bytes_eq row.id places_id) refl
      where
        by_id : (b : Bool) → bytes_eq row.id places_id ≡ b → PlacesEnd (rows ++ row ∷ []) places
        by_id true is = inr (row, look_new places_id rows row absent.0 is, inr (default, absent.1))
        by_id false is = inl (has_more places_id rows row absent.0 is, absent.1)

default_kept : (takes : Bool) (name : Text) (rows : List Row) (es : List (Text × Option Text)) (places : List Text) → Ended rows es places
    → EndsAs (with_default rows (built_by takes name)) places (texts_of es)
default_kept true name rows es places kept = go (has_row name rows)
  where
    go : (b : Bool) → EndsAs (cond b rows rows) places (texts_of es)
    go true = (es, kept, refl)
    go false = (es, kept, refl)
default_kept false name rows es places kept = go (has_row name rows) refl
  where
    go : (b : Bool) → has_row name rows ≡ b
        → EndsAs (cond b rows (with_values name AsWritten DefaultValue (codes "false" ∷ []) rows)) places (texts_of es)
    go true is = (es, kept, refl)
    go false is =
        subst (λ (l : List Row). EndsAs l places (texts_of es))
        (sym (at_none name (more_values DefaultValue (codes "false" ∷ [])) (record { id = name; values = codes "false" ∷ []; count = None; source = Some DefaultValue; reading = AsWritten } ∷ []) rows is))
        (default_more rows es places (record { id = name; values = codes "false" ∷ []; count = None; source = Some DefaultValue; reading = AsWritten }) is refl kept)

options_kept : (options : List WordOption) (rows : List Row) (es : List (Text × Option Text)) (places : List Text) → Ended rows es places
    → EndsAs (fold with_default rows (map option_built options)) places (texts_of es)
options_kept [] rows es places kept = (es, kept, refl)
options_kept (option ∷ options) rows es places kept =
    let one = default_kept (takes_value option.takes) option.name rows es places kept in
    let more = options_kept options (with_default rows (option_built option)) one.0 places one.1 in
    (more.0, more.1, more.2 ∙ one.2)

place_default : (rows : List Row) → with_default rows place_built ≡ rows
place_default rows = go (has_row places_id rows)
  where
    go : (b : Bool) → cond b rows rows ≡ rows
    go true = refl
    go false = refl

pub all_kept : (options : List WordOption) (items : List WordItem) → AreNamed items → items_fault items [] ≡ []
    → EndsAs (fold with_default (items_used items []) (rules_built options)) (item_places items) (item_texts items)
all_kept options items named none =
    let first : Kept [] [] [] = record { ids = refl; looks = tt; places_are = inl (refl, refl) } in
    let used_up = items_kept items [] [] [] named none first in
    let more = options_kept options (items_used items []) used_up.0 (item_places items) (ended (items_used items []) used_up.0 (item_places items) used_up.1) in
    subst (λ (l : List Row). EndsAs (fold with_default l (map option_built options)) (item_places items) (item_texts items)) (sym (place_default (items_used items [])))
    (more.0, more.1, more.2 ∙ used_up.2)
