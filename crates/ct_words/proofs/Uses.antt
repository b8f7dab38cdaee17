-- The uses of arguments that the items of the words are.
use Rattle.std.proofs.Common.{◌≡◌, true, false, List, [], ◌∷◌, refl}
use Rattle.std.specs.Str.{bytes_eq}
use Rattle.clap.specs.Walk.{Row, used}
use Rattle.clap.specs.Kinds.{Kinds, or_else}
use Rattle.clap.specs.Faults.{use_fault}
use Rattle.ct_words.specs.Items.{WordItem, place, flagged, valued}
use Rattle.ct_words.specs.Command.{places_id}
use Rattle.ct_words.proofs.Rules.{place_built, built_by}

abbrev pub item_fault : WordItem → List Row → Kinds
item_fault (place word) rows = use_fault false place_built (word ∷ []) rows
item_fault (flagged name) rows = use_fault false (built_by false name) [] rows
item_fault (valued name text) rows = use_fault false (built_by true name) (text ∷ []) rows

abbrev pub item_used : WordItem → List Row → List Row
item_used (place word) rows = used place_built (word ∷ []) rows
item_used (flagged name) rows = used (built_by false name) [] rows
item_used (valued name text) rows = used (built_by true name) (text ∷ []) rows

unfoldable pub items_fault : List WordItem → List Row → Kinds
items_fault [] rows = []
items_fault (item ∷ items) rows = or_else (item_fault item rows) (items_fault items (item_used item rows))

unfoldable pub items_used : List WordItem → List Row → List Row
items_used [] rows = rows
items_used (item ∷ items) rows = items_used items (item_used item rows)

-- no option has the name of the places
abbrev pub IsNamed : WordItem → Type 0
IsNamed (place word) = Unit {0}
IsNamed (flagged name) = bytes_eq places_id name ≡ false
IsNamed (valued name text) = bytes_eq places_id name ≡ false

abbrev pub AreNamed : List WordItem → Type 0
AreNamed [] = Unit {0}
AreNamed (item ∷ items) = IsNamed item × AreNamed items

pub or_else_assoc : (a b c : Kinds) → or_else (or_else a b) c ≡ or_else a (or_else b c)
or_else_assoc [] b c = refl
or_else_assoc (k ∷ ks) b c = refl

pub or_else_nil : (a : Kinds) → or_else a [] ≡ a
or_else_nil [] = refl
or_else_nil (k ∷ ks) = refl

pub second_nil : (a b : Kinds) → or_else a b ≡ [] → b ≡ []
second_nil [] b e = e
second_nil (k ∷ ks) b e = cc

pub first_nil : (a b : Kinds) → or_else a b ≡ [] → a ≡ []
first_nil [] b e = refl
first_nil (k ∷ ks) b e = e
