-- The numbers that words say are within the bounds of the table.
use Rattle.std.proofs.Common.{◌≡◌, ℕ, ◌≤◌, ◌==◌, ◌||◌, nat_lt, nat_le, not, if◌then◌else◌, Bool, true, false, cond, List, [], ◌∷◌, length, take, drop, find, is_some, unwrap_or, option_map, Option, Some, None, Result, Ok, Err, refl, sym, subst, ap, ◌∙◌, leb-true, ltb-false, codes, arith}
use Rattle.std.specs.List.{AllByRecursion, list_any}
use Rattle.std.specs.Str.{bytes_eq}
use Rattle.std.proofs.lemmas.Slice.Eq.{bytes_eq-Decides}
use Rattle.ct_text.specs.declared.number.NumberFault.{NumberFault}
use Rattle.ct_text.specs.declared.number.NumberFault.TheVariants.{Spelling, Over}
use Rattle.ct_text.specs.Numbers.{natural_of, is_natural, value_of}
use Rattle.ct_words.specs.declared.table.Bounds.{Bounds}
use Rattle.ct_words.specs.declared.table.Takes.{Takes}
use Rattle.ct_words.specs.declared.table.Takes.TheVariants.{Nothing, Number, Name}
use Rattle.ct_words.specs.Table.{WordOption, WordCommand, commands}
use Rattle.ct_words.specs.Role.{WordValue, numbered, worded, number_given, WordGiven, WordAsked, WordRole, ends, positional, says, opens, at_least, number_in, is_name, value_in, value_said, said_with, option_of, name_len, plain_of, dashed_of, role_of, ◌>>=◌}
use Rattle.ct_words.specs.Parts.{WordParts, with_place, with_given, joined, parts_of, are_distinct}
use Rattle.ct_words.specs.Parts.{value_of as value_named}
use Rattle.ct_words.specs.Said.{WordPlace, text, number, WordsSaid, place_of, places_of, told_of, named_of, said_of}
use Rattle.ct_words.proofs.Loops.{parts-word}
use Rattle.ct_vectors.specs.declared.limits.TheConstants.{GRADE_LIMIT, MOVE_LIMIT, WORKER_LIMIT}
use Rattle.ct_words.specs.declared.table.CommandName.{CommandName}
use Rattle.ct_words.specs.declared.table.CommandName.TheVariants.{Best, Certify}
use Rattle.ct_run.specs.Words.{IsNumberOf, IsPlaceWithin, IsValueOf, HasNumbersWithin, IsBestCount, text_and_number, texts_and_number}

pub some_is : {X : Type 0} {x y : X} → Some x ≡ Some y → x ≡ y
some_is {X} {x} {y} same = ap (λ o. unwrap_or o x) same

-- what an option was made from by a function
pub map_is : {X Y : Type 0} (f : X → Y) (o : Option X) (y : Y) → option_map f o ≡ Some y → (x : X) × ((o ≡ Some x) × (f x ≡ y))
map_is f None y same = absurd (cc)
map_is f (Some x) y same = (x, (refl, some_is same))

pub find_has : {X : Type 0} (P : X → Type 0) (test : X → Bool) (xs : List X) (x : X) → AllByRecursion P xs → find test xs ≡ Some x → P x
find_has P test [] x all is = absurd (cc)
find_has P test (y ∷ ys) x all is = by_test (test y) (find_has P test ys x all.1) is
  where
    by_test : (b : Bool) → (find test ys ≡ Some x → P x) → cond b (Some y) (find test ys) ≡ Some x → P x
    by_test true later is = subst P (some_is is) all.0
    by_test false later is = later is

natural_le : (word : List ℕ) (limit n : ℕ) → natural_of word limit ≡ Ok n → n ≤ limit
unfolding natural_of
natural_le word limit n is = by_tests (is_natural word) (nat_le (value_of word) limit) refl is
  where
    by_tests : (a b : Bool) → nat_le (value_of word) limit ≡ b → (if a then (if b then Ok (value_of word) else Err Over) else Err Spelling) ≡ Ok n → n ≤ limit
    by_tests false b test is = absurd (cc)
    by_tests true false test is = absurd (cc)
    by_tests true true test is =
        let same : value_of word ≡ n = cc in
        subst (λ (m : ℕ). m ≤ limit) same (leb-true (value_of word) limit test)

module _ (Q : ℕ → Type 0) where
  -- what bounds let through has Q
  abbrev pub Lets : Option Bounds → Type 0
  Lets None = Unit {0}
  Lets (Some bounds) = (n : ℕ) → bounds.low ≤ n → n ≤ bounds.high → Q n

  in_bounds : (bounds : Bounds) (word : List ℕ) (n : ℕ) → Lets (Some bounds) → number_in bounds word ≡ Some n → Q n
  in_bounds bounds word n lets is = by_value (natural_of word bounds.high) refl is
    where
      by_low : (k : ℕ) → natural_of word bounds.high ≡ Ok k → (b : Bool) → nat_lt k bounds.low ≡ b → (if b then None else Some k) ≡ Some n → Q n
      by_low k found true test is = absurd (cc)
      by_low k found false test is = subst Q (some_is is) (lets k (ltb-false k bounds.low test) (natural_le word bounds.high k found))

      by_value : (r : Result ℕ NumberFault) → natural_of word bounds.high ≡ r → at_least bounds.low r ≡ Some n → Q n
      by_value (Ok k) found is = by_low k found (nat_lt k bounds.low) refl is
      by_value (Err fault) found is = absurd (cc)

  -- what an option takes lets its number be that
  abbrev pub LetsValue : Takes → Type 0
  LetsValue (Number bounds) = Lets (Some bounds)
  LetsValue _ = Unit {0}

  abbrev pub PlaceHas : WordPlace → Type 0
  PlaceHas (text word) = Unit {0}
  PlaceHas (number n) = Q n

  place-has : (wanted : Option Bounds) (word : List ℕ) (place : WordPlace) → Lets wanted → place_of wanted word ≡ Some place → PlaceHas place
  place-has None word place lets is = subst PlaceHas (some_is is) tt
  place-has (Some bounds) word place lets is =
      let made = map_is number (number_in bounds word) place is in
      subst PlaceHas made.1.1 (in_bounds bounds word made.0 lets made.1.0)

  pub places-has : (wanted : List (Option Bounds)) (words : List (List ℕ)) (places : List WordPlace) → AllByRecursion Lets wanted → places_of wanted words ≡ Some places → AllByRecursion PlaceHas places
  unfolding places_of
  places-has [] [] places all is = subst (AllByRecursion PlaceHas) (some_is is) tt
  places-has [] (word ∷ words) places all is = absurd (cc)
  places-has (one ∷ wanted) [] places all is = absurd (cc)
  places-has (one ∷ wanted) (word ∷ words) places all is =
      by_place (λ ps e. places-has wanted words ps all.1 e) (place_of one word) refl is
    where
      by_place : ((ps : List WordPlace) → places_of wanted words ≡ Some ps → AllByRecursion PlaceHas ps) →
          (o : Option WordPlace) → place_of one word ≡ o → (o >>= λ place. option_map (λ ps. place ∷ ps) (places_of wanted words)) ≡ Some places → AllByRecursion PlaceHas places
      by_place later None found is = absurd (cc)
      by_place later (Some place) found is =
          let made = map_is (λ (ps : List WordPlace). place ∷ ps) (places_of wanted words) places is in
          subst (AllByRecursion PlaceHas) made.1.1 (place-has one word place all.0 found, later made.0 made.1.0)

-- of what an option's name lets its value be
module _ (Q : List ℕ → ℕ → Type 0) where
  abbrev pub HasQ : WordGiven → Type 0
  HasQ one = (n : ℕ) → number_given one.value ≡ Some n → Q one.name n

  abbrev LetsAsked : Option WordAsked → Type 0
  LetsAsked None = Unit {0}
  LetsAsked (Some asked) = LetsValue (Q asked.name) asked.takes

  abbrev HasRole : WordRole → Type 0
  HasRole ends = Unit {0}
  HasRole positional = Unit {0}
  HasRole (says one) = HasQ one
  HasRole (opens asked) = LetsValue (Q asked.name) asked.takes

  abbrev HasValue : List ℕ → WordValue → Type 0
  HasValue name value = HasQ (record { name = name; value = value })

  value_in-has : (name : List ℕ) (takes : Takes) (word : List ℕ) (value : WordValue) → LetsValue (Q name) takes → value_in takes word ≡ Some value → HasValue name value
  value_in-has name Nothing word value lets is = subst (HasValue name) (some_is is) (λ n same. absurd (cc))
  value_in-has name (Number bounds) word value lets is =
      let made = map_is numbered (number_in bounds word) value is in
      subst (HasValue name) made.1.1 (λ n same. subst (Q name) (some_is same) (in_bounds (Q name) bounds word made.0 lets made.1.0))
  value_in-has name Name word value lets is = by_test (is_name word) is
    where
      by_test : (b : Bool) → (if b then Some (worded word) else None) ≡ Some value → HasValue name value
      by_test true is = subst (HasValue name) (some_is is) (λ n same. absurd (cc))
      by_test false is = absurd (cc)

  value_said-has : (asked : WordAsked) (word : List ℕ) (role : WordRole) → LetsValue (Q asked.name) asked.takes → value_said asked word ≡ Some role → HasRole role
  value_said-has asked word role lets is = by_value (value_in asked.takes word) refl is
    where
      by_value : (o : Option WordValue) → value_in asked.takes word ≡ o → (o >>= λ value. Some (says (record { name = asked.name; value = value }))) ≡ Some role → HasRole role
      by_value None found is = absurd (cc)
      by_value (Some value) found is = subst HasRole (some_is is) (value_in-has asked.name asked.takes word value lets found)

  said_with-has : (name : List ℕ) (takes : Takes) (rest : List ℕ) (role : WordRole) → LetsValue (Q name) takes → said_with name takes rest ≡ Some role → HasRole role
  said_with-has name Nothing [] role lets is = subst HasRole (some_is is) (λ n same. absurd (cc))
  said_with-has name Nothing (sign ∷ value) role lets is = absurd (cc)
  said_with-has name (Number bounds) [] role lets is = subst HasRole (some_is is) lets
  said_with-has name (Number bounds) (sign ∷ value) role lets is = value_said-has (record { name = name; takes = Number bounds }) value role lets is
  said_with-has name Name [] role lets is = subst HasRole (some_is is) lets
  said_with-has name Name (sign ∷ value) role lets is = value_said-has (record { name = name; takes = Name }) value role lets is

  plain-has : (waiting : Option WordAsked) (word : List ℕ) (role : WordRole) → LetsAsked waiting → plain_of waiting word ≡ Some role → HasRole role
  plain-has None word role lets is = subst HasRole (some_is is) tt
  plain-has (Some asked) word role lets is = value_said-has asked word role lets is

  module _ (options : List WordOption) (all : AllByRecursion (λ row. LetsValue (Q row.name) row.takes) options) where
    option-has : (named : List ℕ) (role : WordRole) → option_of options named ≡ Some role → HasRole role
    option-has named role is = by_row (find (λ row. bytes_eq row.name (take (name_len named) named)) options) refl is
      where
        by_row : (o : Option WordOption) → find (λ row. bytes_eq row.name (take (name_len named) named)) options ≡ o → (o >>= λ row. said_with row.name row.takes (drop (name_len named) named)) ≡ Some role → HasRole role
        by_row None found is = absurd (cc)
        by_row (Some row) found is =
            said_with-has row.name row.takes (drop (name_len named) named) role
            (find_has (λ row. LetsValue (Q row.name) row.takes) (λ row. bytes_eq row.name (take (name_len named) named)) options row all found) is

    dashed-has : (waiting : Option WordAsked) (second : ℕ) (named : List ℕ) (role : WordRole) → dashed_of options waiting second named ≡ Some role → HasRole role
    dashed-has waiting second named role is = by_tests (not (second == 45) || is_some waiting) (length named == 0) is
      where
        by_tests : (a b : Bool) → (if a then None else if b then Some ends else option_of options named) ≡ Some role → HasRole role
        by_tests true b is = absurd (cc)
        by_tests false true is = subst HasRole (some_is is) tt
        by_tests false false is = option-has named role is

    role-has : (waiting : Option WordAsked) (word : List ℕ) (role : WordRole) → LetsAsked waiting → role_of options waiting word ≡ Some role → HasRole role
    role-has waiting [] role lets is = plain-has waiting [] role lets is
    role-has waiting (first ∷ []) role lets is = plain-has waiting (first ∷ []) role lets is
    role-has waiting (first ∷ second ∷ named) role lets is = by_test (first == 45) is
      where
        by_test : (b : Bool) → (if b then dashed_of options waiting second named else plain_of waiting (first ∷ second ∷ named)) ≡ Some role → HasRole role
        by_test true is = dashed-has waiting second named role is
        by_test false is = plain-has waiting (first ∷ second ∷ named) role lets is

    parts-has : (waiting : Option WordAsked) (words : List (List ℕ)) (parts : WordParts) → LetsAsked waiting → parts_of options waiting words ≡ Some parts → AllByRecursion HasQ parts.given
    unfolding parts_of
    parts-has None [] parts lets is = subst (λ (p : WordParts). AllByRecursion HasQ p.given) (some_is is) tt
    parts-has (Some asked) [] parts lets is = absurd (cc)
    parts-has waiting (word ∷ words) parts lets is =
        by_role (λ next p asked e. parts-has next words p asked e) (role_of options waiting word) refl (sym (parts-word options waiting word words) ∙ is)
      where
        by_role : ((next : Option WordAsked) (p : WordParts) → LetsAsked next → parts_of options next words ≡ Some p → AllByRecursion HasQ p.given) →
            (o : Option WordRole) → role_of options waiting word ≡ o → (o >>= joined word words (λ next. parts_of options next words)) ≡ Some parts → AllByRecursion HasQ parts.given
        by_role later None found is = absurd (cc)
        by_role later (Some ends) found is = subst (λ (p : WordParts). AllByRecursion HasQ p.given) (some_is is) tt
        by_role later (Some positional) found is =
            let made = map_is (with_place word) (parts_of options None words) parts is in
            subst (λ (p : WordParts). AllByRecursion HasQ p.given) made.1.1 (later None made.0 tt made.1.0)
        by_role later (Some (says one)) found is =
            let made = map_is (with_given one) (parts_of options None words) parts is in
            subst (λ (p : WordParts). AllByRecursion HasQ p.given) made.1.1 (role-has waiting word (says one) lets found, later None made.0 tt made.1.0)
        by_role later (Some (opens asked)) found is = later (Some asked) parts (role-has waiting word (opens asked) lets found) is

-- ---- the table

record IsRowWithin (row : WordCommand) : Type 0 where
  places : AllByRecursion (Lets (IsNumberOf row.command)) row.places
  options : AllByRecursion (λ option. LetsValue (IsValueOf option.name) option.takes) row.options

same_places : (command : CommandName) (places : List WordPlace) → AllByRecursion (PlaceHas (IsNumberOf command)) places → AllByRecursion (IsPlaceWithin command) places
same_places command [] all = tt
same_places command (text word ∷ places) all = (tt, same_places command places all.1)
same_places command (number n ∷ places) all = (all.0, same_places command places all.1)

-- what a row says of these places and options
abbrev pub said_by_row : WordCommand → List WordGiven → List WordPlace → WordsSaid
said_by_row row given places = record { command = row.command; places = places; given = given }

told-within : (row : WordCommand) (words : List (List ℕ)) (said : WordsSaid) → IsRowWithin row → (parts_of row.options None words >>= told_of row) ≡ Some said → HasNumbersWithin said
told-within row words said within is = by_parts (parts_of row.options None words) refl is
  where
    by_test : (parts : WordParts) → parts_of row.options None words ≡ Some parts → (b : Bool) →
        (if b then option_map (said_by_row row parts.given) (places_of row.places parts.places) else None) ≡ Some said → HasNumbersWithin said
    by_test parts found false is = absurd (cc)
    by_test parts found true is =
        let made = map_is (said_by_row row parts.given) (places_of row.places parts.places) said is in
        subst HasNumbersWithin made.1.1 (record {
          places = same_places row.command made.0 (places-has (IsNumberOf row.command) row.places parts.places made.0 within.places made.1.0);
          given = parts-has IsValueOf row.options within.options None words parts tt found;
        })

    by_parts : (o : Option WordParts) → parts_of row.options None words ≡ o → (o >>= told_of row) ≡ Some said → HasNumbersWithin said
    by_parts None found is = absurd (cc)
    by_parts (Some parts) found is = by_test parts found (are_distinct parts.given) is

moves_value : (n : ℕ) → 1 ≤ n → n ≤ MOVE_LIMIT → IsValueOf (codes "moves") n
moves_value n low high = (λ same. (low, high), λ other. absurd (omega (arith, ap length other)))

workers_value : (n : ℕ) → 0 ≤ n → n ≤ WORKER_LIMIT → IsValueOf (codes "workers") n
workers_value n low high = (λ other. absurd (omega (arith, ap length other)), λ same. high)

-- a place for a text, a flag, a name, a number in its bounds
rows-within : AllByRecursion IsRowWithin commands
rows-within = (
  record { places = (tt, (tt, tt)); options = (tt, (tt, (tt, (moves_value, tt)))) },
  (
    record { places = (tt, (tt, (λ n low high. (low, high), tt))); options = (moves_value, tt) },
    (
      record { places = (tt, (tt, tt)); options = (tt, (moves_value, tt)) },
      (
        record { places = (tt, (λ n low high. high, tt)); options = (moves_value, tt) },
        (
          record { places = (tt, (tt, tt)); options = (tt, tt) },
          (
            record { places = (λ n low high. tt, tt); options = tt },
            (record { places = (tt, (tt, tt)); options = (workers_value, (tt, (tt, (moves_value, (tt, tt))))) }, tt),
          ),
        ),
      ),
    ),
  ),
)

named-within : (words : List (List ℕ)) (said : WordsSaid) → named_of commands words ≡ Some said → HasNumbersWithin said
named-within [] said is = absurd (cc)
named-within (name ∷ others) said is = by_row (find (λ row. bytes_eq row.name name) commands) refl is
  where
    by_row : (o : Option WordCommand) → find (λ row. bytes_eq row.name name) commands ≡ o → (o >>= λ row. parts_of row.options None others >>= told_of row) ≡ Some said → HasNumbersWithin said
    by_row None found is = absurd (cc)
    by_row (Some row) found is = told-within row others said (find_has IsRowWithin (λ row. bytes_eq row.name name) commands row rows-within found) is

pub said-within : (words : List (List ℕ)) (said : WordsSaid) → said_of commands words ≡ Some said → HasNumbersWithin said
said-within words said is = by_test (list_any (λ word. length word == 0) words) is
  where
    by_test : (b : Bool) → (if b then None else named_of commands words) ≡ Some said → HasNumbersWithin said
    by_test true is = absurd (cc)
    by_test false is = named-within words said is

find_found : {X : Type 0} (test : X → Bool) (xs : List X) (x : X) → find test xs ≡ Some x → test x ≡ true
find_found test [] x is = absurd (cc)
find_found test (y ∷ ys) x is = by_test (test y) refl (find_found test ys x) is
  where
    by_test : (b : Bool) → test y ≡ b → (find test ys ≡ Some x → test x ≡ true) → cond b (Some y) (find test ys) ≡ Some x → test x ≡ true
    by_test true found later is = subst (λ z. test z ≡ true) (some_is is) found
    by_test false found later is = later is

-- the value of an option is what its name lets it be
pub value-within : (name : List ℕ) (given : List WordGiven) (n : ℕ) → AllByRecursion (λ one. (n : ℕ) → number_given one.value ≡ Some n → IsValueOf one.name n) given → value_named name given ≡ Some n → IsValueOf name n
value-within name given n all is = by_one (find (λ one. bytes_eq one.name name) given) refl is
  where
    by_one : (o : Option WordGiven) → find (λ one. bytes_eq one.name name) given ≡ o → (o >>= λ one. number_given one.value) ≡ Some n → IsValueOf name n
    by_one None found is = absurd (cc)
    by_one (Some one) found is =
        subst (λ m. IsValueOf m n) ((bytes_eq-Decides one.name name).0 (find_found (λ one. bytes_eq one.name name) given one found))
        (find_has (HasQ IsValueOf) (λ one. bytes_eq one.name name) given one all found n is)

-- a grade in the second place is within its limit
pub grade-within : (command : CommandName) (places : List WordPlace) (name : List ℕ) (n : ℕ) → command ≡ Certify → AllByRecursion (IsPlaceWithin command) places →
    text_and_number places ≡ Some (name, n) → n ≤ GRADE_LIMIT
grade-within command places name n same all is = of_certify places name n (subst (λ c. AllByRecursion (IsPlaceWithin c) places) same all) is
  where
    of_certify : (places : List WordPlace) (name : List ℕ) (n : ℕ) → AllByRecursion (IsPlaceWithin Certify) places → text_and_number places ≡ Some (name, n) → n ≤ GRADE_LIMIT
    of_certify (text word ∷ number k ∷ []) name n all is = subst (λ (m : ℕ). m ≤ GRADE_LIMIT) (ap (λ (p : List ℕ × ℕ). p.1) (some_is is)) all.1.0
    of_certify [] name n all is = absurd (cc)
    of_certify (text word ∷ []) name n all is = absurd (cc)
    of_certify (number k ∷ places) name n all is = absurd (cc)
    of_certify (text word ∷ text other ∷ places) name n all is = absurd (cc)
    of_certify (text word ∷ number k ∷ more ∷ places) name n all is = absurd (cc)

-- and so is a count in the third place
pub count-within : (command : CommandName) (places : List WordPlace) (first second : List ℕ) (n : ℕ) → command ≡ Best → AllByRecursion (IsPlaceWithin command) places →
    texts_and_number places ≡ Some (first, second, n) → IsBestCount n
count-within command places first second n same all is = of_best places first second n (subst (λ c. AllByRecursion (IsPlaceWithin c) places) same all) is
  where
    of_best : (places : List WordPlace) (first second : List ℕ) (n : ℕ) → AllByRecursion (IsPlaceWithin Best) places → texts_and_number places ≡ Some (first, second, n) → IsBestCount n
    of_best (text word ∷ text other ∷ number k ∷ []) first second n all is = subst IsBestCount (ap (λ (p : List ℕ × List ℕ × ℕ). p.2) (some_is is)) all.1.1.0
    of_best [] first second n all is = absurd (cc)
    of_best (number k ∷ places) first second n all is = absurd (cc)
    of_best (text word ∷ []) first second n all is = absurd (cc)
    of_best (text word ∷ number k ∷ places) first second n all is = absurd (cc)
    of_best (text word ∷ text other ∷ []) first second n all is = absurd (cc)
    of_best (text word ∷ text other ∷ text third ∷ places) first second n all is = absurd (cc)
    of_best (text word ∷ text other ∷ number k ∷ more ∷ places) first second n all is = absurd (cc)
