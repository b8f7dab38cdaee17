-- The places of a command, word by word.
use Rattle.std.proofs.Common.{◌≡◌, ℕ, suc, Bor, ◌+◌, ◌<◌, ◌≤◌, List, [], ◌∷◌, ◌++◌, length, map, drop, get_or, option_map, Option, Some, None, refl, ap, subst, append_assoc, append-nil, sym, ◌∙◌}
use Rattle.std.proofs.lemmas.List.{drop_more, drop_all}
use Rattle.ct_words.specs.Role.{◌>>=◌}
use Rattle.ct_words.specs.Said.{WordPlace, place_of, places_of}
use Rattle.ct_words.specs.declared.table.Bounds.{Bounds}

-- one place, and those after it
abbrev pub before : WordPlace → List WordPlace → List WordPlace
before place places = place ∷ places

none_after : (one : Option WordPlace) (others : Option (List WordPlace)) → None ≡ others → None ≡ (one >>= λ place. option_map (before place) others)
none_after None others none = refl
none_after (Some place) others none = ap (option_map (before place)) none

pub other_length : (wanted : List (Option Bounds)) (words : List (List ℕ)) → (length wanted ≡ length words → ⊥) → None ≡ places_of wanted words
unfolding places_of
other_length [] [] other = absurd (other refl)
other_length [] (word ∷ words) other = refl
other_length (one ∷ wanted) [] other = refl
other_length (one ∷ wanted) (word ∷ words) other = none_after (place_of one word) (places_of wanted words) (other_length wanted words (λ same. other (ap suc same)))

-- The loop's fact: the places that were found, with those of what is left, are all places.
pub record Placed (all : Option (List WordPlace)) (found : List WordPlace) (wanted : List (Option Bounds)) (words : List (List ℕ)) : Type 0 where
  pub whole : all ≡ option_map (λ places. found ++ places) (places_of wanted words)

module _ (all : Option (List WordPlace)) (found : List WordPlace) (one : Option Bounds) (wanted : List (Option Bounds)) (word : List ℕ) (words : List (List ℕ)) where
  pub placed_none : None ≡ place_of one word → Placed all found (one ∷ wanted) (word ∷ words) → None ≡ all
  unfolding places_of
  placed_none none placed = sym (placed.whole ∙ ap (λ o. option_map (λ places. found ++ places) (o >>= λ place. option_map (before place) (places_of wanted words))) (sym none))

  joined_places : (place : WordPlace) (others : Option (List WordPlace)) → option_map (λ places. found ++ places) (option_map (before place) others) ≡ option_map (λ places. (found ++ place ∷ []) ++ places) others
  joined_places place None = refl
  joined_places place (Some places) = ap Some (sym (append_assoc found (place ∷ []) places))

  pub placed_one : (place : WordPlace) → Some place ≡ place_of one word → Placed all found (one ∷ wanted) (word ∷ words) → Placed all (found ++ place ∷ []) wanted words
  unfolding places_of
  placed_one place is placed = record {
    whole = placed.whole
        ∙ (ap (λ o. option_map (λ places. found ++ places) (o >>= λ place. option_map (before place) (places_of wanted words))) (sym is)
        ∙ joined_places place (places_of wanted words));
  }

pub placed_all : (all : Option (List WordPlace)) (found : List WordPlace) → Placed all found [] [] → Some found ≡ all
unfolding places_of
placed_all all found placed = ap Some (sym (append-nil found)) ∙ sym placed.whole

module _ (all : Option (List WordPlace)) (found : List WordPlace) (wanted : List (Option Bounds)) (words : List (Bor (List ℕ))) (i : ℕ) where
  pub placed_at : (bounds : Option Bounds) (word : Bor (List ℕ)) → i < length wanted → i < length words → Placed all found (drop i wanted) (map (λ w. w.now) (drop i words))
      → Placed all found (get_or wanted i bounds ∷ drop (i + 1) wanted) ((get_or words i word).now ∷ map (λ w. w.now) (drop (i + 1) words))
  placed_at bounds word h k placed =
      subst (λ list. Placed all found list ((get_or words i word).now ∷ map (λ w. w.now) (drop (i + 1) words))) (drop_more wanted i bounds h)
      (subst (λ list. Placed all found (drop i wanted) (map (λ w. w.now) list)) (drop_more words i word k) placed)

  pub placed_end : length wanted ≤ i → length words ≤ i → Placed all found (drop i wanted) (map (λ w. w.now) (drop i words)) → Some found ≡ all
  placed_end h k placed =
      placed_all all found
      (subst (λ list. Placed all found list []) (drop_all i wanted h)
      (subst (λ list. Placed all found (drop i wanted) (map (λ w. w.now) list)) (drop_all i words k) placed))
