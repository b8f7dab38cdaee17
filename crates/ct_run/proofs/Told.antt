-- What is said by a row of the table is a command.
use Rattle.std.proofs.Common.{◌≡◌, ℕ, ◌==◌, if◌then◌else◌, Bool, true, false, List, [], ◌∷◌, length, find, option_map, Option, Some, None, refl, sym, subst, ap, ◌∙◌, codes}
use Rattle.std.specs.List.{AllByRecursion, list_any}
use Rattle.std.specs.Str.{bytes_eq}
use Rattle.ct_words.specs.declared.table.Bounds.{Bounds}
use Rattle.ct_words.specs.Table.{WordCommand, commands}
use Rattle.ct_words.specs.Role.{WordGiven, number_in, ◌>>=◌}
use Rattle.ct_words.specs.Parts.{WordParts, parts_of, are_distinct}
use Rattle.ct_words.specs.Said.{WordPlace, text, number, WordsSaid, places_of, told_of, named_of, said_of}
use Rattle.ct_run.specs.Words.{answer, best, box, certify, check, Command, on, make, serve, limit_in, workers_in, two_texts, text_and_number, texts_and_number, one_number, as_command, command_of}
use Rattle.ct_words.specs.Parts.{has_name, text_of}
use Rattle.ct_run.proofs.Within.{some_is, map_is, find_has, said_by_row}

abbrev pub IsSaid : Option Command → Type 0
IsSaid o = (c : Command) × (o ≡ Some c)

two_said : (words : List (List ℕ)) (places : List WordPlace) → places_of (None ∷ None ∷ []) words ≡ Some places → (x : List ℕ × List ℕ) × (two_texts places ≡ Some x)
unfolding places_of
two_said [] places is = absurd (cc)
two_said (a ∷ []) places is = absurd (cc)
two_said (a ∷ b ∷ []) places is = subst (λ (ps : List WordPlace). (x : List ℕ × List ℕ) × (two_texts ps ≡ Some x)) (some_is is) ((a, b), refl)
two_said (a ∷ b ∷ c ∷ words) places is = absurd (cc)

number_said : (bounds : Bounds) (words : List (List ℕ)) (places : List WordPlace) → places_of (None ∷ Some bounds ∷ []) words ≡ Some places → (x : List ℕ × ℕ) × (text_and_number places ≡ Some x)
unfolding places_of
number_said bounds [] places is = absurd (cc)
number_said bounds (a ∷ []) places is = absurd (cc)
number_said bounds (a ∷ b ∷ []) places is = by_number (number_in bounds b) is
  where
    by_number : (o : Option ℕ) → option_map (λ ps. text a ∷ ps) (option_map number o >>= λ place. option_map (λ ps. place ∷ ps) (Some [])) ≡ Some places → (x : List ℕ × ℕ) × (text_and_number places ≡ Some x)
    by_number None is = absurd (cc)
    by_number (Some n) is = subst (λ (ps : List WordPlace). (x : List ℕ × ℕ) × (text_and_number ps ≡ Some x)) (some_is is) ((a, n), refl)
number_said bounds (a ∷ b ∷ c ∷ words) places is = by_number (number_in bounds b) is
  where
    by_number : (o : Option ℕ) → option_map (λ ps. text a ∷ ps) (option_map number o >>= λ place. option_map (λ ps. place ∷ ps) None) ≡ Some places → (x : List ℕ × ℕ) × (text_and_number places ≡ Some x)
    by_number None is = absurd (cc)
    by_number (Some n) is = absurd (cc)

three_said : (bounds : Bounds) (words : List (List ℕ)) (places : List WordPlace) → places_of (None ∷ None ∷ Some bounds ∷ []) words ≡ Some places →
    (x : List ℕ × List ℕ × ℕ) × (texts_and_number places ≡ Some x)
unfolding places_of
three_said bounds [] places is = absurd (cc)
three_said bounds (a ∷ []) places is = absurd (cc)
three_said bounds (a ∷ b ∷ []) places is = absurd (cc)
three_said bounds (a ∷ b ∷ d ∷ []) places is = by_number (number_in bounds d) is
  where
    by_number : (o : Option ℕ) → option_map (λ ps. text a ∷ ps) (option_map (λ ps. text b ∷ ps) (option_map number o >>= λ place. option_map (λ ps. place ∷ ps) (Some []))) ≡ Some places →
        (x : List ℕ × List ℕ × ℕ) × (texts_and_number places ≡ Some x)
    by_number None is = absurd (cc)
    by_number (Some n) is = subst (λ (ps : List WordPlace). (x : List ℕ × List ℕ × ℕ) × (texts_and_number ps ≡ Some x)) (some_is is) ((a, b, n), refl)
three_said bounds (a ∷ b ∷ d ∷ e ∷ words) places is = by_number (number_in bounds d) is
  where
    by_number : (o : Option ℕ) → option_map (λ ps. text a ∷ ps) (option_map (λ ps. text b ∷ ps) (option_map number o >>= λ place. option_map (λ ps. place ∷ ps) None)) ≡ Some places →
        (x : List ℕ × List ℕ × ℕ) × (texts_and_number places ≡ Some x)
    by_number None is = absurd (cc)
    by_number (Some n) is = absurd (cc)

number_alone : (bounds : Bounds) (words : List (List ℕ)) (places : List WordPlace) → places_of (Some bounds ∷ []) words ≡ Some places → (n : ℕ) × (one_number places ≡ Some n)
unfolding places_of
number_alone bounds [] places is = absurd (cc)
number_alone bounds (a ∷ []) places is = by_number (number_in bounds a) is
  where
    by_number : (o : Option ℕ) → (option_map number o >>= λ place. option_map (λ ps. place ∷ ps) (Some [])) ≡ Some places → (n : ℕ) × (one_number places ≡ Some n)
    by_number None is = absurd (cc)
    by_number (Some n) is = subst (λ (ps : List WordPlace). (k : ℕ) × (one_number ps ≡ Some k)) (some_is is) (n, refl)
number_alone bounds (a ∷ b ∷ words) places is = by_number (number_in bounds a) is
  where
    by_number : (o : Option ℕ) → (option_map number o >>= λ place. option_map (λ ps. place ∷ ps) None) ≡ Some places → (n : ℕ) × (one_number places ≡ Some n)
    by_number None is = absurd (cc)
    by_number (Some n) is = absurd (cc)

-- the places of a row make a command
abbrev IsRowSaid : WordCommand → Type 0
IsRowSaid row = (words : List (List ℕ)) (places : List WordPlace) (given : List WordGiven) → places_of row.places words ≡ Some places → IsSaid (as_command row.command places given)

rows_said : AllByRecursion IsRowSaid commands
rows_said = (
  (λ words places given is. let x = two_said words places is in (_, ap (option_map (λ names. on names.0 (answer names.1 (has_name (codes "walks") given) (has_name (codes "levels") given) (has_name (codes "batch") given) (limit_in given)))) x.1)),
  (
    (λ words places given is. let x = three_said _ words places is in (_, ap (option_map (λ words. on words.0 (best words.1 words.2 (limit_in given)))) x.1)),
    (
      (λ words places given is. let x = two_said words places is in (_, ap (option_map (λ names. on names.0 (box names.1 (has_name (codes "walks") given) (limit_in given)))) x.1)),
      (
        (λ words places given is. let x = number_said _ words places is in (_, ap (option_map (λ words. on words.0 (certify words.1 (limit_in given)))) x.1)),
        (
          (λ words places given is. let x = two_said words places is in (_, ap (option_map (λ names. on names.0 (check names.1 (has_name (codes "batch") given)))) x.1)),
          (
            (λ words places given is. let x = number_alone _ words places is in (_, ap (option_map make) x.1)),
            (
              (λ words places given is.
                  let x = two_said words places is in
                  (_, ap (option_map (λ names. serve names.0 names.1 (text_of (codes "resume") given) (workers_in given) (has_name (codes "walks") given) (has_name (codes "levels") given) (limit_in given))) x.1)),
              tt,
            ),
          ),
        ),
      ),
    ),
  ),
)

module _ (words : List (List ℕ)) (said : WordsSaid) where
  abbrev Goal : Type 0
  Goal = IsSaid (as_command said.command said.places said.given)

  row_said : (row : WordCommand) (others : List (List ℕ)) → IsRowSaid row → (parts_of row.options None others >>= told_of row) ≡ Some said → Goal
  row_said row others makes is = by_parts (parts_of row.options None others) is
    where
      by_test : (parts : WordParts) (b : Bool) → (if b then option_map (said_by_row row parts.given) (places_of row.places parts.places) else None) ≡ Some said → Goal
      by_test parts false is = absurd (cc)
      by_test parts true is =
          let made = map_is (said_by_row row parts.given) (places_of row.places parts.places) said is in
          subst (λ (s : WordsSaid). IsSaid (as_command s.command s.places s.given)) made.1.1 (makes parts.places made.0 parts.given made.1.0)

      by_parts : (o : Option WordParts) → (o >>= told_of row) ≡ Some said → Goal
      by_parts None is = absurd (cc)
      by_parts (Some parts) is = by_test parts (are_distinct parts.given) is

  named_said : (list : List (List ℕ)) → named_of commands list ≡ Some said → Goal
  named_said [] is = absurd (cc)
  named_said (name ∷ others) is = by_row (find (λ row. bytes_eq row.name name) commands) refl is
    where
      by_row : (o : Option WordCommand) → find (λ row. bytes_eq row.name name) commands ≡ o → (o >>= λ row. parts_of row.options None others >>= told_of row) ≡ Some said → Goal
      by_row None found is = absurd (cc)
      by_row (Some row) found is = row_said row others (find_has IsRowSaid (λ row. bytes_eq row.name name) commands row rows_said found) is

  pub all_said : said_of commands words ≡ Some said → Goal
  all_said is = by_test (list_any (λ word. length word == 0) words) is
    where
      by_test : (b : Bool) → (if b then None else named_of commands words) ≡ Some said → Goal
      by_test true is = absurd (cc)
      by_test false is = named_said words is

-- words are no command exactly where they are none by the table
pub no_command : (words : List (List ℕ)) → command_of words ≡ None → said_of commands words ≡ None
no_command words none = by_said (said_of commands words) refl none
  where
    by_said : (o : Option WordsSaid) → said_of commands words ≡ o → (o >>= λ said. as_command said.command said.places said.given) ≡ None → o ≡ None
    by_said None is none = refl
    by_said (Some said) is none =
        let made = all_said words said is in
        let apart : None ≡ Some made.0 = sym none ∙ made.1 in absurd (cc)

pub no_command_back : (words : List (List ℕ)) → said_of commands words ≡ None → command_of words ≡ None
no_command_back words none = ap (λ (o : Option WordsSaid). o >>= λ said. as_command said.command said.places said.given) none
