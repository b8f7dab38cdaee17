-- What clap's matches give of an id, by their rows.
use Rattle.std.proofs.Common.{◌≡◌, List, [], ◌∷◌, ◌++◌, map, find, drop, Bool, true, false, not, cond, ◌&&◌, unwrap_or, append-nil, ap₂, option_map, option_and_then, slice_get, Option, Some, None, refl, ap, sym, ◌∙◌, append_assoc, Bor}
use Rattle.std.proofs.lemmas.List.{map-append}
use Rattle.std.specs.Str.{bytes_eq}
use Rattle.clap.specs.Facts.{Entry}
use Rattle.clap.specs.Matches.{first_value, matched_of, raw_values}
use Rattle.clap.specs.Simple.{with_rule}
use Rattle.clap.specs.Walk.{Row, Text, all_of, first_of, row_of, rows_of}
use Rattle.clap.specs.declared.parser.matches.Found.{Found}
use Rattle.clap.proofs.WalkLemmas.{find-map}
use Rattle.ct_words.specs.Table.{WordOption}
use Rattle.ct_words.specs.Role.{WordGiven}
use Rattle.ct_words.specs.Items.{given_by}
use Rattle.ct_words.specs.Command.{app_with, option_rule, place_rule, places_id, row_app}
use Rattle.ct_words.specs.Reading.{given_in, is_said, places_in, source_of, with_head}

entry_row : (f : Found) (id : Text) → option_map row_of (find (λ e. bytes_eq e.0.now id) f.entries.items) ≡ find (λ r. bytes_eq r.id id) (rows_of f)
entry_row f id = find-map (λ (r : Row). bytes_eq r.id id) row_of f.entries.items

pub source_found : (f : Found) (id : Text) → option_and_then (λ a. a.source) (matched_of f id) ≡ source_of id (rows_of f)
source_found f id = go (find (λ e. bytes_eq e.0.now id) f.entries.items) ∙ ap (option_and_then (λ (r : Row). r.source)) (entry_row f id)
  where
    go : (e : Option Entry) → option_and_then (λ a. a.source) (option_map (λ x. x.1) e) ≡ option_and_then (λ (r : Row). r.source) (option_map row_of e)
    go None = refl
    go (Some e) = refl

first_text : (xs : List (Bor Text)) → option_map (λ s. s.now) (slice_get xs 0) ≡ slice_get (map (λ s. s.now) xs) 0
first_text [] = refl
first_text (x ∷ xs) = refl

pub first_found : (f : Found) (id : Text) → first_value f id ≡ first_of id (rows_of f)
first_found f id = go (find (λ e. bytes_eq e.0.now id) f.entries.items) ∙ ap (option_and_then (λ (r : Row). slice_get r.values 0)) (entry_row f id)
  where
    go : (e : Option Entry) → option_and_then (λ a. option_map (λ s. s.now) (slice_get a.vals.items 0)) (option_map (λ x. x.1) e) ≡ option_and_then (λ (r : Row). slice_get r.values 0) (option_map row_of e)
    go None = refl
    go (Some e) = first_text e.1.vals.items

pub all_found : (f : Found) (id : Text) → option_map raw_values (matched_of f id) ≡ all_of id (rows_of f)
all_found f id = go (find (λ e. bytes_eq e.0.now id) f.entries.items) ∙ ap (option_map (λ (r : Row). r.values)) (entry_row f id)
  where
    go : (e : Option Entry) → option_map raw_values (option_map (λ x. x.1) e) ≡ option_map (λ (r : Row). r.values) (option_map row_of e)
    go None = refl
    go (Some e) = refl

ids_in : (entries : List Entry) → map (λ e. e.0.now) entries ≡ map (λ (r : Row). r.id) (map row_of entries)
ids_in [] = refl
ids_in (e ∷ entries) = ap (λ (l : List Text). e.0.now ∷ l) (ids_in entries)

pub ids_found : (f : Found) → map (λ e. e.0.now) f.entries.items ≡ map (λ (r : Row). r.id) (rows_of f)
ids_found f = ids_in f.entries.items

-- ---- one option more in the command

pub option_added : (name : Text) (options : List WordOption) (option : WordOption) → with_rule (row_app name options) (option_rule option) ≡ row_app name (options ++ option ∷ [])
unfolding row_app
option_added name options option = ap (λ (l : List _). app_with name (place_rule ∷ l)) (sym (map-append option_rule options (option ∷ [])))

pub none_added : (name : Text) → with_rule (app_with name []) place_rule ≡ row_app name []
unfolding row_app
none_added name = refl

-- ---- one id more in the loop over the ids

pub record Given (options : List WordOption) (rows : List Row) (all : Option (List WordGiven)) (found : List WordGiven) (ids : List Text) : Type 0 where
  pub whole : all ≡ option_map (λ more. found ++ more) (given_in options rows ids)

given_more : (options : List WordOption) (rows : List Row) (id : Text) (ids : List Text) (b : Bool) → (not (bytes_eq id places_id) && is_said id rows) ≡ b
    → given_in options rows (id ∷ ids) ≡ cond b (with_head (given_by options id (first_of id rows)) (given_in options rows ids)) (given_in options rows ids)
unfolding given_in
given_more options rows id ids b is = ap (λ (x : Bool). cond x (with_head (given_by options id (first_of id rows)) (given_in options rows ids)) (given_in options rows ids)) is

pub given_first : (options : List WordOption) (rows : List Row) (ids : List Text) → Given options rows (given_in options rows ids) [] ids
given_first options rows ids = record { whole = go (given_in options rows ids) }
  where
    go : (given : Option (List WordGiven)) → given ≡ option_map (λ more. [] ++ more) given
    go None = refl
    go (Some given) = refl

pub given_end : (options : List WordOption) (rows : List Row) (all : Option (List WordGiven)) (found : List WordGiven) → Given options rows all found [] → Some found ≡ all
unfolding given_in
given_end options rows all found given = ap Some (sym (append-nil found)) ∙ sym given.whole

module _ (options : List WordOption) (rows : List Row) (all : Option (List WordGiven)) (found : List WordGiven) (id : Text) (ids : List Text) where
  pub given_skip : (not (bytes_eq id places_id) && is_said id rows) ≡ false → Given options rows all found (id ∷ ids) → Given options rows all found ids
  given_skip is given = record { whole = given.whole ∙ ap (option_map (λ more. found ++ more)) (given_more options rows id ids false is) }

  pub given_none : (not (bytes_eq id places_id) && is_said id rows) ≡ true → None ≡ given_by options id (first_of id rows) → Given options rows all found (id ∷ ids) → None ≡ all
  given_none is none given =
      sym (given.whole ∙ ap (option_map (λ more. found ++ more)) (given_more options rows id ids true is ∙ ap (λ (one : Option WordGiven). with_head one (given_in options rows ids)) (sym none)))

  pub given_push : (one : WordGiven) → (not (bytes_eq id places_id) && is_said id rows) ≡ true → Some one ≡ given_by options id (first_of id rows) → Given options rows all found (id ∷ ids)
      → Given options rows all (found ++ one ∷ []) ids
  given_push one is some given = record {
    whole = given.whole
        ∙ (ap (option_map (λ more. found ++ more)) (given_more options rows id ids true is ∙ ap (λ (first : Option WordGiven). with_head first (given_in options rows ids)) (sym some)) ∙ go (given_in options rows ids));
  }
    where
      go : (rest : Option (List WordGiven)) → option_map (λ more. found ++ more) (with_head (Some one) rest) ≡ option_map (λ more. (found ++ one ∷ []) ++ more) rest
      go None = refl
      go (Some rest) = ap Some (sym (append_assoc found (one ∷ []) rest))

pub ids_next : (ids after : List Text) (id : Text) → Some id ≡ slice_get ids 0 → after ≡ drop 1 ids → ids ≡ id ∷ after
ids_next [] after id first rest = cc
ids_next (x ∷ xs) after id first rest =
    let same : id ≡ x = cc in
    ap₂ (λ (y : Text) (ys : List Text). y ∷ ys) (sym same) (sym rest)

pub ids_end : (ids : List Text) → None ≡ slice_get ids 0 → ids ≡ []
ids_end [] first = refl
ids_end (x ∷ xs) first = cc

-- ---- the positional words

pub places_some : (f : Found) (words : List Text) → is_said places_id (rows_of f) ≡ true → Some words ≡ option_map raw_values (matched_of f places_id) → words ≡ places_in (rows_of f)
places_some f words said some =
    ap (λ (o : Option (List Text)). unwrap_or o []) (some ∙ all_found f places_id) ∙ sym (ap (λ (b : Bool). cond b (unwrap_or (all_of places_id (rows_of f)) []) []) said)

pub places_none : (f : Found) → is_said places_id (rows_of f) ≡ true → None ≡ option_map raw_values (matched_of f places_id) → [] ≡ places_in (rows_of f)
places_none f said none =
    ap (λ (o : Option (List Text)). unwrap_or o []) (none ∙ all_found f places_id) ∙ sym (ap (λ (b : Bool). cond b (unwrap_or (all_of places_id (rows_of f)) []) []) said)
