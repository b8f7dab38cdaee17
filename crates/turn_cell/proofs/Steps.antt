-- Each kind of step keeps the turn rule.
use Rattle.std.proofs.Common.{◌≡◌, ◌≢◌, ◌⊎◌, ℕ, zero, suc, ◌+◌, ◌*◌, ◌/◌, ◌%◌, ◌^◌, ◌<◌, ◌≤◌, false, List, [], ◌∷◌, ◌++◌, set, slice_index, sym, refl, ap, ◌∙◌, subst, ⊎_elim, inl, inr, arith, Option, Some, None}
use Rattle.std.specs.Int.Bits.{bit_or, or_add_and}
use Rattle.std.proofs.lemmas.Nat.{and_mask}
use mathlib.Core.Option.{none, some, some-injective, some-ne-none}
use lib.ListN.{get_elem?}
use native.Mathlib.Decide.{ℕ_discrete}
use mathlib.Core.Logic.{dite}
use Rattle.atomic_table.specs.Table.{State, Me, Act, Valid, step, keeps, takes, gives, put_back, rest, stepped, carried_after, Allows, Splits, Joins}
use Rattle.atomic_table.proofs.Lists.{at_set, set_else, at_longer, at_snoc}
use Rattle.turn_cell.specs.declared.note.Note.{Note}
use Rattle.turn_cell.specs.Turn.{Knows, IsFree, IsTaken, TurnRule, spent_note}
use Rattle.turn_cell.specs.Told.{Looked, Took, Released, sees, finds, wins, releases, keeps_one, gives_one, takes_in}

double_half : (k : ℕ) → (2 * k) / 2 ≡ k
double_half k = omega arith

odd_half : (k : ℕ) → (2 * k + 1) / 2 ≡ k
odd_half k = omega arith

or_even : (k : ℕ) → bit_or (2 * k) 1 ≡ 2 * k + 1
or_even k = omega (arith, or_add_and (2 * k) 1, and_mask (2 * k) 1)

or_odd : (k : ℕ) → bit_or (2 * k + 1) 1 ≡ 2 * k + 1
or_odd k = omega (arith, or_add_and (2 * k + 1) 1, and_mask (2 * k + 1) 1)

same_word : (l : List ℕ) (x n : ℕ) → l ≡ x ∷ [] → n ≡ x → set l 0 n ≡ l
same_word l x n e is = ap (λ (z : List ℕ). set z 0 n) e ∙ (ap (λ (y : ℕ). y ∷ []) is ∙ sym e)

module _ {A : Type 0} where
  set_at : (l : List A) (i : ℕ) (a b : A) → get_elem? l i ≡ some a → get_elem? (set l i b) i ≡ some b
  set_at [] i a b e = absurd (some-ne-none a (sym e))
  set_at (x ∷ xs) zero a b e = refl
  set_at (x ∷ xs) (suc i) a b e = set_at xs i a b e

  -- a fact of each place and value, after one value is set
  set_each : (P : ℕ → A → Type 0) (l : List A) (i : ℕ) (a : A) → P i a → ((j : ℕ) (b : A) → j ≢ i → get_elem? l j ≡ some b → P j b) → (j : ℕ) (b : A) → get_elem? (set l i a) j ≡ some b → P j b
  set_each P l i a mine others j b e = ⊎_elim (λ (t : (j ≡ i) × (a ≡ b)). subst (λ (x : ℕ × A). P x.0 x.1) (λ k. (sym t.0 k, t.1 k)) mine)
      (λ (t : (j ≢ i) × (get_elem? l j ≡ some b)). others j b t.0 t.1) (at_set l i j a b e)

module _ {V : Type 0} where
  -- exchange out: the pass has the slot of the turn in hand, and no view changes
  pub exchanges_out : (carried : List (ℕ × Option V)) (inside : Option V) → carried ≡ (0, inside) ∷ [] → (old : Option V) × (carried ≡ (0, old) ∷ rest carried)
  exchanges_out carried inside is = (inside, is ∙ ap (λ (l : List (ℕ × Option V)). (0, inside) ∷ rest l) (sym is))

module _ {V N : Type 0} (number_of : V → ℕ) (name_of : V → N) (opened : V) where
  abbrev St : Type 0
  St = State (Option V) (Note V)

  abbrev M : Type 0
  M = Me (Option V) (Note V)

  abbrev Free : ℕ → St → Type 0
  Free = IsFree number_of name_of opened

  abbrev Taken : ℕ → St → Type 0
  Taken = IsTaken number_of name_of opened

  abbrev Rule : St → Type 0
  Rule = TurnRule number_of name_of opened

  abbrev Idle : ℕ → Note V → Type 0
  Idle k view = view.spent ≡ false → Knows number_of name_of opened k None view

  abbrev seen_by : St → List (Note V) → St
  seen_by s views = record { words = s.words; homes = s.homes; views = views }

  free_set : (k : ℕ) (s : St) (id : ℕ) (w : Note V) → Free k s → Idle k w → Free k (seen_by s (set s.views id w))
  free_set k s id w f idle = record {
    word = f.word;
    value = f.value;
    home = f.home;
    number = f.number;
    name = f.name;
    views = set_each (λ _ view. Idle k view) s.views id w idle (λ j view _ e. f.views j view e);
  }

  free_add : (k : ℕ) (s : St) (w : Note V) → Free k s → Idle k w → Free k (seen_by s (s.views ++ w ∷ []))
  free_add k s w f idle = record {
    word = f.word;
    value = f.value;
    home = f.home;
    number = f.number;
    name = f.name;
    views = λ j view e. ⊎_elim (f.views j view) (λ (t : w ≡ view). subst (Idle k) t idle) (at_snoc s.views w view j e);
  }

  taken_set : (k : ℕ) (s : St) (id : ℕ) (w : Note V) (t : Taken k s) → id ≢ t.holder → Idle k w → Taken k (seen_by s (set s.views id w))
  taken_set k s id w t apart idle = record {
    word = t.word;
    home = t.home;
    holder = t.holder;
    view = t.view;
    there = set_else s.views id t.holder w (λ e. apart (sym e)) ∙ t.there;
    unspent = t.unspent;
    holds = t.holds;
    others = λ j view e unspent other. set_each (λ i v. v.spent ≡ false → i ≢ t.holder → Knows number_of name_of opened k None v) s.views id w (λ u _. idle u) (λ i v _ at u o. t.others i v at u o) j view e unspent other;
  }

  -- the holder's own view changes
  taken_turn : (k : ℕ) (s : St) (w : Note V) (t : Taken k s) → w.spent ≡ false → Knows number_of name_of opened k (Some k) w → Taken k (seen_by s (set s.views t.holder w))
  taken_turn k s w t unspent holds = record {
    word = t.word;
    home = t.home;
    holder = t.holder;
    view = w;
    there = set_at s.views t.holder t.view w t.there;
    unspent = unspent;
    holds = holds;
    others = λ j view e u other. set_each (λ i v. v.spent ≡ false → i ≢ t.holder → Knows number_of name_of opened k None v) s.views t.holder w (λ _ o. absurd (o refl)) (λ i v _ at a o. t.others i v at a o) j view e u other;
  }

  taken_add : (k : ℕ) (s : St) (w : Note V) → Taken k s → Idle k w → Taken k (seen_by s (s.views ++ w ∷ []))
  taken_add k s w t idle = record {
    word = t.word;
    home = t.home;
    holder = t.holder;
    view = t.view;
    there = at_longer s.views (w ∷ []) t.holder t.view t.there;
    unspent = t.unspent;
    holds = t.holds;
    others = λ j view e u other. ⊎_elim (λ at. t.others j view at u other) (λ (is : w ≡ view). subst (Idle k) is idle u) (at_snoc s.views w view j e);
  }

  -- an unspent view is the holder's, or does not hold the turn
  whose : (k : ℕ) (s : St) (id : ℕ) (view : Note V) (t : Taken k s) → get_elem? s.views id ≡ some view → view.spent ≡ false
      → ((id ≡ t.holder) × Knows number_of name_of opened k (Some k) view) ⊎ ((id ≢ t.holder) × Knows number_of name_of opened k None view)
  whose k s id view t at unspent = dite (ℕ_discrete id t.holder)
      (λ is. inl (is, subst (Knows number_of name_of opened k (Some k)) (some-injective t.view view (sym t.there ∙ (ap (λ i. get_elem? s.views i) (sym is) ∙ at))) t.holds))
      (λ other. inr (other, t.others id view at unspent other))

  -- a step that leaves the word as it is
  still : (s : St) (n : ℕ) (views : List (Note V)) → set s.words 0 n ≡ s.words → Rule (seen_by s views) → Rule record { words = set s.words 0 n; homes = s.homes; views = views }
  still s n views same r = subst (λ (ws : List ℕ). Rule record { words = ws; homes = s.homes; views = views }) (sym same) r

  -- what is read off the word while the turn is free, and while it is not
  free_word : (k : ℕ) (s : St) → Free k s → slice_index s.words 0 ≡ 2 * k
  free_word k s f = ap (λ (l : List ℕ). slice_index l 0) f.word

  taken_word : (k : ℕ) (s : St) → Taken k s → slice_index s.words 0 ≡ 2 * k + 1
  taken_word k s t = ap (λ (l : List ℕ). slice_index l 0) t.word

  free_half : (k : ℕ) (s : St) → Free k s → slice_index s.words 0 / 2 ≡ k
  free_half k s f = ap (λ n. n / 2) (free_word k s f) ∙ double_half k

  taken_half : (k : ℕ) (s : St) → Taken k s → slice_index s.words 0 / 2 ≡ k
  taken_half k s t = ap (λ n. n / 2) (taken_word k s t) ∙ odd_half k

  -- load: the pass has then seen the number of the word
  pub loads : (slots id : ℕ) (me : M) → me.0.spent ≡ false → Allows Rule slots id me 0 (λ n. n) (Looked (step slots 0 0 0 none) me)
  loads slots id me unspent s r _ at _ = ⊎_elim free taken r.turn
    where
      word : ℕ
      word = slice_index s.words 0

      k : ℕ
      k = r.number

      w : Note V
      w = sees me.0 (word / 2)

      Result : Type 0
      Result = (v : Note V) × (a : Act (Option V)) × Valid s.homes me.1 a × Rule (stepped s 0 word id me.1 v a) × Looked (step slots 0 0 0 none) me word (v, carried_after me.1 a)

      free : Free k s → Result
      free f = let known = f.views id me.0 at unspent in let is = free_half k s f in (
        w,
        keeps,
        tt,
        still s word (set s.views id w) (same_word s.words (2 * k) word f.word (free_word k s f)) record {
          number = k;
          small = r.small;
          turn = inl (free_set k s id w f (λ _. record { opening = known.opening; seen = omega arith; turn = known.turn }));
        },
        record { after = refl; rises = omega arith },
      )

      taken : Taken k s → Result
      taken t = let is = taken_half k s t in let same = same_word s.words (2 * k + 1) word t.word (taken_word k s t) in ⊎_elim
          (λ (mine : (id ≡ t.holder) × Knows number_of name_of opened k (Some k) me.0). (
            w,
            keeps,
            tt,
            still s word (set s.views id w) same (subst (λ i. Rule (seen_by s (set s.views i w))) (sym mine.0) record {
              number = k;
              small = r.small;
              turn = inr (taken_turn k s w t unspent record { opening = mine.1.opening; seen = omega arith; turn = mine.1.turn });
            }),
            record { after = refl; rises = omega arith },
          ))
          (λ (other : (id ≢ t.holder) × Knows number_of name_of opened k None me.0). (
            w,
            keeps,
            tt,
            still s word (set s.views id w) same record {
              number = k;
              small = r.small;
              turn = inr (taken_set k s id w t other.0 (λ _. record { opening = other.1.opening; seen = omega arith; turn = other.1.turn }));
            },
            record { after = refl; rises = omega arith },
          ))
          (whose k s id me.0 t at unspent)

  -- take: with an even word the pass gets the turn and the value at home, and with an odd one it learns the word
  pub takes_turn : (slots id : ℕ) (me : M) → me.0.spent ≡ false → me.0.held ≡ None → Allows Rule slots id me 0 (λ n. bit_or n 1) (Took number_of name_of (step slots 0 1 0 none) me)
  takes_turn slots id me unspent idle s r _ at _ = ⊎_elim free taken r.turn
    where
      word : ℕ
      word = slice_index s.words 0

      k : ℕ
      k = r.number

      Result : Type 0
      Result = (v : Note V) × (a : Act (Option V)) × Valid s.homes me.1 a × Rule (stepped s 0 (bit_or word 1) id me.1 v a) × Took number_of name_of (step slots 0 1 0 none) me word (v, carried_after me.1 a)

      free : Free k s → Result
      free f = let known = f.views id me.0 at unspent in let is = free_half k s f in let w : Note V = wins me.0 word in let even : word ≡ 2 * k = free_word k s f in (
        w,
        takes 0 (Some f.value),
        ap (λ h. get_elem? h 0) f.home,
        record {
          number = k;
          small = r.small;
          turn = inr record {
            word = ap (λ (l : List ℕ). set l 0 (bit_or (slice_index l 0) 1)) f.word ∙ ap (λ (x : ℕ). x ∷ []) (or_even k);
            home = ap (λ h. set h 0 none) f.home;
            holder = id;
            view = w;
            there = set_at s.views id me.0 w at;
            unspent = unspent;
            holds = record { opening = known.opening; seen = omega arith; turn = ap Some is };
            others = λ j view e u other. set_each (λ i v. v.spent ≡ false → i ≢ id → Knows number_of name_of opened k None v) s.views id w (λ _ o. absurd (o refl)) (λ i v _ there a _. f.views i v there a) j view e u other;
          };
        },
        record {
          busy = λ (odd : word % 2 ≡ 1). absurd (omega arith);
          free = λ _. record {
            value = f.value;
            after = refl;
            number = f.number ∙ sym is;
            double = omega arith;
            small = subst (λ n. n < 2 ^ 62) (sym is) r.small;
            name = λ first e. f.name ∙ let same : Some opened ≡ Some first = sym known.opening ∙ e in ap name_of (cc);
          };
          rises = omega arith;
        },
      )

      taken : Taken k s → Result
      taken t = let is = taken_half k s t in let w : Note V = finds me.0 word in let odd : word ≡ 2 * k + 1 = taken_word k s t in ⊎_elim
          (λ (mine : (id ≡ t.holder) × Knows number_of name_of opened k (Some k) me.0). let no = sym idle ∙ mine.1.turn in absurd (cc))
          (λ (other : (id ≢ t.holder) × Knows number_of name_of opened k None me.0). (
            w,
            keeps,
            tt,
            still s (bit_or word 1) (set s.views id w) (same_word s.words (2 * k + 1) (bit_or word 1) t.word (ap (λ n. bit_or n 1) odd ∙ or_odd k)) record {
              number = k;
              small = r.small;
              turn = inr (taken_set k s id w t other.0 (λ _. record { opening = other.1.opening; seen = omega arith; turn = other.1.turn }));
            },
            record { busy = λ _. refl; free = λ (even : word % 2 ≡ 0). absurd (omega arith); rises = omega arith },
          ))
          (whose k s id me.0 t at unspent)

  -- release: the slot is at home with a value of number j, which is no less than the number at the take
  pub releases_turn : (slots id : ℕ) (note : Note V) (carried : List (ℕ × Option V)) (k j n : ℕ) (value : V) → note.spent ≡ false → note.held ≡ Some k → carried ≡ (0, Some value) ∷ []
      → number_of value ≡ j → name_of value ≡ name_of opened → k ≤ j → j < 2 ^ 62 → n ≡ 2 * j → Allows Rule slots id (note, carried) 0 (λ _. n) (Released (step slots 0 n 0 none) (note, carried))
  releases_turn slots id note carried k j n value unspent held in_hand is name later small double s r _ at _ = ⊎_elim free taken r.turn
    where
      half : n / 2 ≡ j
      half = ap (λ m. m / 2) double ∙ double_half j

      w : Note V
      w = releases note (n / 2)

      Result : Type 0
      Result = (v : Note V) × (a : Act (Option V)) × Valid s.homes carried a × Rule (stepped s 0 n id carried v a) × Released (step slots 0 n 0 none) (note, carried) (slice_index s.words 0) (v, carried_after carried a)

      free : Free r.number s → Result
      free f = let no = sym held ∙ (f.views id note at unspent).turn in absurd (cc)

      taken : Taken r.number s → Result
      taken t = ⊎_elim
          (λ (mine : (id ≡ t.holder) × Knows number_of name_of opened r.number (Some r.number) note). let m = r.number in let same : m ≡ k = let e : Some m ≡ Some k = sym mine.1.turn ∙ held in cc in (
            w,
            gives,
            tt,
            record {
              number = j;
              small = small;
              turn = inl record {
                word = ap (λ (l : List ℕ). set l 0 n) t.word ∙ ap (λ (x : ℕ). x ∷ []) double;
                value = value;
                home = ap (λ c. put_back s.homes c) in_hand ∙ ap (λ h. set h 0 (some (Some value))) t.home;
                number = is;
                name = name;
                views = λ i view e u. set_each (λ (_ : ℕ). Idle j) s.views id w (λ _. record { opening = mine.1.opening; seen = omega arith; turn = refl })
                    (λ i v apart there a. let known = t.others i v there a (λ e. apart (e ∙ sym mine.0)) in record { opening = known.opening; seen = omega arith; turn = known.turn }) i view e u;
              };
            },
            record { after = refl; rises = omega arith },
          ))
          (λ (other : (id ≢ t.holder) × Knows number_of name_of opened r.number None note). let no = sym held ∙ other.1.turn in absurd (cc))
          (whose r.number s id note t at unspent)

  -- split: the new pass knows what the old one has seen, and nothing else
  pub splits_pass : (id : ℕ) (note : Note V) → note.spent ≡ false → Splits Rule id note (keeps_one note) (gives_one note)
  splits_pass id note unspent s r at = ⊎_elim free taken r.turn
    where
      k : ℕ
      k = r.number

      left : Note V
      left = keeps_one note

      Result : Type 0
      Result = Rule record { words = s.words; homes = s.homes; views = set s.views id left ++ gives_one note ∷ [] }

      new : (h : Option ℕ) → Knows number_of name_of opened k h note → Idle k (gives_one note)
      new h known _ = record { opening = known.opening; seen = known.seen; turn = refl }

      free : Free k s → Result
      free f = let known = f.views id note at unspent in record {
        number = k;
        small = r.small;
        turn = inl (free_add k (seen_by s (set s.views id left)) (gives_one note) (free_set k s id left f (λ _. record { opening = known.opening; seen = known.seen; turn = known.turn })) (new None known));
      }

      taken : Taken k s → Result
      taken t = ⊎_elim
          (λ (mine : (id ≡ t.holder) × Knows number_of name_of opened k (Some k) note). record {
            number = k;
            small = r.small;
            turn = inr (taken_add k (seen_by s (set s.views id left)) (gives_one note)
                (subst (λ i. Taken k (seen_by s (set s.views i left))) (sym mine.0) (taken_turn k s left t unspent record { opening = mine.1.opening; seen = mine.1.seen; turn = mine.1.turn })) (new (Some k) mine.1));
          })
          (λ (other : (id ≢ t.holder) × Knows number_of name_of opened k None note). record {
            number = k;
            small = r.small;
            turn = inr (taken_add k (seen_by s (set s.views id left)) (gives_one note) (taken_set k s id left t other.0 (λ _. record { opening = other.1.opening; seen = other.1.seen; turn = other.1.turn })) (new None other.1));
          })
          (whose k s id note t at unspent)

  -- join: the other view is spent
  pub joins_passes : (id : ℕ) (note : Note V) (other : ℕ) (note' : Note V) → note.spent ≡ false → note.held ≡ None → note'.spent ≡ false → note'.held ≡ None → Joins Rule id note other note' (takes_in note note') spent_note
  unfolding taken_set
  joins_passes id note other note' unspent idle unspent' idle' s r at apart there = ⊎_elim free taken r.turn
    where
      k : ℕ
      k = r.number

      both : Note V
      both = takes_in note note'

      views : List (Note V)
      views = set s.views id both

      Result : Type 0
      Result = Rule record { words = s.words; homes = s.homes; views = set views other spent_note }

      -- where the other view was before the first changed
      before : get_elem? s.views other ≡ some note'
      before = sym (set_else s.views id other both apart) ∙ there

      joined : Knows number_of name_of opened k None note → Knows number_of name_of opened k None note' → Idle k both
      joined a b _ = record { opening = a.opening; seen = omega arith; turn = a.turn }

      gone : Idle k (spent_note {V = V})
      gone unspent_one = absurd (cc)

      free : Free k s → Result
      free f = record {
        number = k;
        small = r.small;
        turn = inl (free_set k (seen_by s views) other spent_note (free_set k s id both f (joined (f.views id note at unspent) (f.views other note' before unspent'))) gone);
      }

      not_holder : (t : Taken k s) (i : ℕ) (v : Note V) → get_elem? s.views i ≡ some v → v.spent ≡ false → v.held ≡ None → (i ≢ t.holder) × Knows number_of name_of opened k None v
      not_holder t i v e u h = ⊎_elim (λ (mine : (i ≡ t.holder) × Knows number_of name_of opened k (Some k) v). let no = sym h ∙ mine.1.turn in absurd (cc)) (λ x. x) (whose k s i v t e u)

      taken : Taken k s → Result
      taken t = let a = not_holder t id note at unspent idle in let b = not_holder t other note' before unspent' idle' in record {
        number = k;
        small = r.small;
        turn = inr (taken_set k (seen_by s views) other spent_note (taken_set k s id both t a.0 (joined a.1 b.1)) b.0 gone);
      }
