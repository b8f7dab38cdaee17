-- Each kind of step keeps the count rule.
use Rattle.std.proofs.Common.{◌≡◌, ◌≢◌, ◌⊎◌, ℕ, zero, suc, ◌+◌, ◌<◌, ◌≤◌, false, cond, List, [], ◌∷◌, ◌++◌, set, map, length, slice_index, sym, refl, ap, ◌∙◌, subst, ⊎_elim, inl, inr, arith, Option, Some, None, length-set, length-append}
use Rattle.std.proofs.lemmas.Bool.Decides.{nat_tests}
use Rattle.std.specs.Int.Bits.{bit_or}
use mathlib.Core.Option.{none, some, some-injective, some-ne-none}
use lib.ListN.{get_elem?}
use native.Mathlib.Decide.{ℕ_discrete, dec_lt}
use mathlib.Core.Logic.{dite}
use Rattle.atomic_table.specs.Table.{State, Me, Act, Valid, step, keeps, takes, gives, put_back, rest, stepped, carried_after, Allows, Splits, Joins, Seen, Final, opening}
use Rattle.atomic_table.proofs.Lists.{at_set, set_else, set_again, at_longer, at_snoc}
use Rattle.count_lock.specs.declared.note.Note.{Note}
use Rattle.count_lock.specs.Pairs.{Agree, times, HasEach, GrowsAt, first_number}
use Rattle.count_lock.specs.Count.{Knows, IsFree, IsTaken, CountRule, first_note, spent_note, worth, total, once}
use Rattle.count_lock.specs.Told.{Took, Released, wins, releases, keeps_most, gives_last, takes_in}
use Rattle.count_lock.proofs.Totals.{total_set, total_snoc, total_one, total_two, once_small, once_below, once_is, once_not, unspent_worth, total_stays}
use Rattle.count_lock.proofs.PairLists.{times_append, times_first, agree_append, agree_others, times_recounted, agree_recounted, length_recounted, times_parted, agree_but_last, agree_last, some_last, some_but_last, times_numbered, times_above, length_numbered, agree_opening}

set_at : {A : Type 0} (l : List A) (i : ℕ) (a b : A) → get_elem? l i ≡ some a → get_elem? (set l i b) i ≡ some b
set_at [] i a b e = absurd (some-ne-none a (sym e))
set_at (x ∷ xs) zero a b e = refl
set_at (x ∷ xs) (suc i) a b e = set_at xs i a b e

-- a fact of each place and value, after one value is set
set_each : {A : Type 0} (P : ℕ → A → Type 0) (l : List A) (i : ℕ) (a : A) → P i a → ((j : ℕ) (b : A) → j ≢ i → get_elem? l j ≡ some b → P j b) → (j : ℕ) (b : A) → get_elem? (set l i a) j ≡ some b → P j b
set_each {A} P l i a mine others j b e = ⊎_elim (λ (t : (j ≡ i) × (a ≡ b)). subst (λ (x : ℕ × A). P x.0 x.1) (λ k. (sym t.0 k, t.1 k)) mine)
    (λ (t : (j ≢ i) × (get_elem? l j ≡ some b)). others j b t.0 t.1) (at_set l i j a b e)

module _ {V : Type 0} where
  -- exchange out: the pass has the slot of the lock in hand, and no view changes
  pub exchanges_out : (carried : List (ℕ × Option V)) (inside : Option V) → carried ≡ (0, inside) ∷ [] → (old : Option V) × (carried ≡ (0, old) ∷ rest carried)
  exchanges_out carried inside is = (inside, is ∙ ap (λ (l : List (ℕ × Option V)). (0, inside) ∷ rest l) (sym is))

-- the value in hand, or d
abbrev some_or : {V : Type 0} → V → Option V → V
some_or d None = d
some_or d (Some v) = v

abbrev in_hand_or : {V : Type 0} → V → List (ℕ × Option V) → V
in_hand_or d [] = d
in_hand_or d (x ∷ xs) = some_or d x.1

module _ {V N : Type 0} (name_of : V → N) (counts_of shows : V → List ℕ) (opened : V) (passes : ℕ) where
  abbrev St : Type 0
  St = State (Option V) (Note V)

  abbrev M : Type 0
  M = Me (Option V) (Note V)

  abbrev Free : St → Type 0
  Free = IsFree name_of counts_of opened passes

  abbrev Taken : St → Type 0
  Taken = IsTaken name_of counts_of opened passes

  abbrev Rule : St → Type 0
  Rule = CountRule name_of counts_of opened passes

  abbrev Known : List ℕ → Option (List ℕ) → Note V → Type 0
  Known = Knows name_of counts_of opened passes

  abbrev Idle : List ℕ → Note V → Type 0
  Idle counts view = view.spent ≡ false → Known counts None view

  abbrev seen_by : St → List (Note V) → St
  seen_by s views = record { words = s.words; homes = s.homes; views = views }

  free_set : (s : St) (id : ℕ) (w : Note V) (f : Free s) → Idle (counts_of f.value) w → Free (seen_by s (set s.views id w))
  free_set s id w f idle = record {
    word = f.word;
    value = f.value;
    home = f.home;
    name = f.name;
    wide = f.wide;
    views = set_each (λ _ view. Idle (counts_of f.value) view) s.views id w idle (λ j view _ e. f.views j view e);
  }

  free_add : (s : St) (w : Note V) (f : Free s) → Idle (counts_of f.value) w → Free (seen_by s (s.views ++ w ∷ []))
  free_add s w f idle = record {
    word = f.word;
    value = f.value;
    home = f.home;
    name = f.name;
    wide = f.wide;
    views = λ j view e. ⊎_elim (f.views j view) (λ (t : w ≡ view). subst (Idle (counts_of f.value)) t idle) (at_snoc s.views w view j e);
  }

  taken_set : (s : St) (id : ℕ) (w : Note V) (t : Taken s) → id ≢ t.holder → Idle t.counts w → Taken (seen_by s (set s.views id w))
  taken_set s id w t apart idle = record {
    word = t.word;
    home = t.home;
    counts = t.counts;
    wide = t.wide;
    holder = t.holder;
    view = t.view;
    there = set_else s.views id t.holder w (λ e. apart (sym e)) ∙ t.there;
    unspent = t.unspent;
    holds = t.holds;
    others = λ j view e unspent other. set_each (λ i v. v.spent ≡ false → i ≢ t.holder → Known t.counts None v) s.views id w (λ u _. idle u) (λ i v _ at u o. t.others i v at u o) j view e unspent other;
  }

  -- the holder's own view changes
  taken_turn : (s : St) (id : ℕ) (w : Note V) (t : Taken s) → id ≡ t.holder → w.spent ≡ false → Known t.counts (Some t.counts) w → Taken (seen_by s (set s.views id w))
  taken_turn s id w t mine unspent holds = record {
    word = t.word;
    home = t.home;
    counts = t.counts;
    wide = t.wide;
    holder = id;
    view = w;
    there = set_at s.views id t.view w (ap (λ i. get_elem? s.views i) mine ∙ t.there);
    unspent = unspent;
    holds = holds;
    others = λ j view e u other. set_each (λ i v. v.spent ≡ false → i ≢ id → Known t.counts None v) s.views id w (λ _ o. absurd (o refl)) (λ i v _ at a o. t.others i v at a (λ e'. o (e' ∙ sym mine))) j view e u other;
  }

  taken_add : (s : St) (w : Note V) (t : Taken s) → Idle t.counts w → Taken (seen_by s (s.views ++ w ∷ []))
  taken_add s w t idle = record {
    word = t.word;
    home = t.home;
    counts = t.counts;
    wide = t.wide;
    holder = t.holder;
    view = t.view;
    there = at_longer s.views (w ∷ []) t.holder t.view t.there;
    unspent = t.unspent;
    holds = t.holds;
    others = λ j view e u other. ⊎_elim (λ at. t.others j view at u other) (λ (is : w ≡ view). subst (Idle t.counts) is idle u) (at_snoc s.views w view j e);
  }

  -- an unspent view is the holder's, or does not hold the lock
  whose : (s : St) (id : ℕ) (view : Note V) (t : Taken s) → get_elem? s.views id ≡ some view → view.spent ≡ false
      → ((id ≡ t.holder) × Known t.counts (Some t.counts) view) ⊎ ((id ≢ t.holder) × Known t.counts None view)
  whose s id view t at unspent = dite (ℕ_discrete id t.holder)
      (λ is. inl (is, subst (Known t.counts (Some t.counts)) (some-injective t.view view (sym t.there ∙ (ap (λ i. get_elem? s.views i) (sym is) ∙ at))) t.holds))
      (λ other. inr (other, t.others id view at unspent other))

  -- the first number of an unspent view is below the number of passes
  known_number : (s : St) → Rule s → (id : ℕ) (view : Note V) → get_elem? s.views id ≡ some view → view.spent ≡ false → (p : ℕ) → 1 ≤ times p view.pairs → p < passes
  known_number s r id view at unspent p stands = let here = total_one (worth p) s.views id view at in let is = unspent_worth p view unspent in let all = r.pairs p in once_below p passes (omega arith)

  -- no two unspent views have a pair of one number
  apart_numbers : (s : St) → Rule s → (i j : ℕ) (a b : Note V) → i ≢ j → get_elem? s.views i ≡ some a → get_elem? s.views j ≡ some b → a.spent ≡ false → b.spent ≡ false → (p : ℕ) → 1 ≤ times p a.pairs → times p b.pairs ≡ 0
  apart_numbers s r i j a b apart at at' unspent unspent' p stands = let both = total_two (worth p) s.views i j a b apart at at' in let is = unspent_worth p a unspent in let is' = unspent_worth p b unspent' in
      let all = r.pairs p in let small = once_small p passes in omega arith

  -- a step that leaves the word as it is
  still : (s : St) (n : ℕ) (views : List (Note V)) → set s.words 0 n ≡ s.words → Rule (seen_by s views) → Rule record { words = set s.words 0 n; homes = s.homes; views = views }
  still s n views same r = subst (λ (ws : List ℕ). Rule record { words = ws; homes = s.homes; views = views }) (sym same) r

  -- take: with the word 0 the pass gets the lock and the value at home, and with 1 nothing changes
  pub takes_lock : (slots id : ℕ) (me : M) → me.0.spent ≡ false → me.0.held ≡ None → Allows Rule slots id me 0 (λ n. bit_or n 1) (Took name_of counts_of shows (step slots 0 1 0 none) me)
  takes_lock slots id me unspent idle s r _ at _ = ⊎_elim free taken r.turn
    where
      word : ℕ
      word = slice_index s.words 0

      Result : Type 0
      Result = (v : Note V) × (a : Act (Option V)) × Valid s.homes me.1 a × Rule (stepped s 0 (bit_or word 1) id me.1 v a) × Took name_of counts_of shows (step slots 0 1 0 none) me word (v, carried_after me.1 a)

      free : Free s → Result
      free f = let known = f.views id me.0 at unspent in let counts = counts_of f.value in let w : Note V = wins me.0 counts (shows f.value) in let zero_word : word ≡ 0 = ap (λ (l : List ℕ). slice_index l 0) f.word in
          let number = known_number s r id me.0 at unspent (first_number me.0.pairs) (times_first me.0.pairs known.some_pair) in let wide = f.wide in (
            w,
            takes 0 (Some f.value),
            ap (λ h. get_elem? h 0) f.home,
            record {
              pairs = λ p. total_stays p s.views id me.0 w at refl ∙ r.pairs p;
              turn = inr record {
                word = ap (λ (l : List ℕ). set l 0 (bit_or (slice_index l 0) 1)) f.word;
                home = ap (λ h. set h 0 none) f.home;
                counts = counts;
                wide = f.wide;
                holder = id;
                view = w;
                there = set_at s.views id me.0 w at;
                unspent = unspent;
                holds = record { opening = known.opening; some_pair = known.some_pair; agree = known.agree; lock = refl };
                others = λ j view e u other. set_each (λ i v. v.spent ≡ false → i ≢ id → Known counts None v) s.views id w (λ _ o. absurd (o refl)) (λ i v _ there a _. f.views i v there a) j view e u other;
              };
            },
            record {
              free = λ _. record {
                value = f.value;
                after = refl;
                agree = known.agree;
                fits = omega arith;
                name = λ first e. f.name ∙ let same : Some opened ≡ Some first = sym known.opening ∙ e in ap name_of (cc);
              };
              busy = λ other. absurd (other zero_word);
            },
          )

      taken : Taken s → Result
      taken t = let one_word : word ≡ 1 = ap (λ (l : List ℕ). slice_index l 0) t.word in (
        me.0,
        keeps,
        tt,
        still s (bit_or word 1) (set s.views id me.0) (ap (λ (l : List ℕ). set l 0 (bit_or (slice_index l 0) 1)) t.word ∙ sym t.word) (subst (λ l. Rule (seen_by s l)) (sym (set_again s.views id me.0 at)) r),
        record { free = λ (is : word ≡ 0). absurd (omega arith); busy = λ _. refl },
      )

  -- release: the slot is at home with a value whose counts have grown at the holder's number alone
  pub releases_lock : (slots id : ℕ) (note : Note V) (carried : List (ℕ × Option V)) (held : List ℕ) (value : V) → note.spent ≡ false → note.held ≡ Some held → carried ≡ (0, Some value) ∷ []
      → name_of value ≡ name_of opened → GrowsAt (first_number note.pairs) held (counts_of value) → length note.pairs ≡ 1
      → Allows Rule slots id (note, carried) 0 (λ _. 0) (Released counts_of (step slots 0 0 0 none) (note, carried))
  releases_lock slots id note carried held value unspent holding in_hand name grows single s r _ at _ = ⊎_elim free taken r.turn
    where
      n : ℕ
      n = first_number note.pairs

      counts : List ℕ
      counts = counts_of value

      w : Note V
      w = releases note counts

      Result : Type 0
      Result = (v : Note V) × (a : Act (Option V)) × Valid s.homes carried a × Rule (stepped s 0 0 id carried v a) × Released counts_of (step slots 0 0 0 none) (note, carried) (slice_index s.words 0) (v, carried_after carried a)

      free : Free s → Result
      free f = let never = sym holding ∙ (f.views id note at unspent).lock in absurd (cc)

      -- what is left of the other passes' pairs, whose numbers are not the holder's
      other_known : (t : Taken s) → t.counts ≡ held → id ≡ t.holder → (j : ℕ) (v : Note V) → j ≢ id → get_elem? s.views j ≡ some v → Idle counts v
      other_known t same mine j v apart there u = let known = t.others j v there u (λ e. apart (e ∙ sym mine)) in
          let without = apart_numbers s r id j note v (λ e. apart (sym e)) at there unspent u n (times_first note.pairs (omega arith)) in record {
            opening = known.opening;
            some_pair = known.some_pair;
            agree = subst (λ c. Agree c v.pairs) (sym grows.others) (agree_others held n (slice_index counts n) v.pairs without (subst (λ c. Agree c v.pairs) same known.agree));
            lock = known.lock;
          }

      taken : Taken s → Result
      taken t = ⊎_elim
          (λ (mine : (id ≡ t.holder) × Known t.counts (Some t.counts) note). let same : t.counts ≡ held = let e : Some t.counts ≡ Some held = sym mine.1.lock ∙ holding in cc in (
            w,
            gives,
            tt,
            record {
              pairs = λ p. total_stays p s.views id note w at (ap (λ k. cond note.spent 0 k) (times_recounted p counts note.pairs)) ∙ r.pairs p;
              turn = inl record {
                word = ap (λ (l : List ℕ). set l 0 0) t.word;
                value = value;
                home = ap (λ c. put_back s.homes c) in_hand ∙ ap (λ h. set h 0 (some (Some value))) t.home;
                name = name;
                wide = ap length grows.others ∙ (length-set held n (slice_index counts n) ∙ (ap length (sym same) ∙ t.wide));
                views = set_each (λ (_ : ℕ). Idle counts) s.views id w
                    (λ _. record { opening = mine.1.opening; some_pair = let long = length_recounted counts note.pairs in omega arith; agree = agree_recounted counts note.pairs; lock = refl })
                    (other_known t same mine.0);
              };
            },
            record {
              after = λ value' is. let e : ◌≡◌ {A = List (ℕ × Option V)} ((0, Some value) ∷ []) ((0, Some value') ∷ []) = sym in_hand ∙ is in
                  let gone : rest carried ≡ [] = ap rest in_hand in λ k. (releases note (counts_of (ap (in_hand_or value) e k)), gone k);
            },
          ))
          (λ (other : (id ≢ t.holder) × Known t.counts None note). let never = sym holding ∙ other.1.lock in absurd (cc))
          (whose s id note t at unspent)

  -- split: the last pair goes to a new view, to which nothing was shown
  pub splits_pass : (id : ℕ) (note : Note V) → note.spent ≡ false → 2 ≤ length note.pairs → Splits Rule id note (keeps_most note) (gives_last note)
  unfolding free_set taken_set taken_turn
  splits_pass id note unspent long s r at = record { pairs = pairs; turn = ⊎_elim (λ f. inl (free f)) (λ t. inr (taken t)) r.turn }
    where
      left : Note V
      left = keeps_most note

      right : Note V
      right = gives_last note

      -- the two parts have the pairs that there were
      parted : (p : ℕ) → worth p left + worth p right ≡ worth p note
      parted p = let a = unspent_worth p left unspent in let b = unspent_worth p right unspent in let c = unspent_worth p note unspent in let d = times_parted p note.pairs in omega arith

      pairs : (p : ℕ) → total (worth p) (set s.views id left ++ right ∷ []) ≡ once p passes
      pairs p = let a = total_snoc (worth p) (set s.views id left) right in let b = total_set (worth p) s.views id note left at in let c = parted p in let d = r.pairs p in omega arith

      kept : (counts : List ℕ) (h : Option (List ℕ)) → Known counts h note → Known counts h left
      kept counts h known = record { opening = known.opening; some_pair = some_but_last note.pairs long; agree = agree_but_last counts note.pairs known.agree; lock = known.lock }

      given : (counts : List ℕ) (h : Option (List ℕ)) → Known counts h note → Idle counts right
      given counts h known _ = record { opening = known.opening; some_pair = some_last note.pairs (omega arith); agree = agree_last counts note.pairs known.agree; lock = refl }

      free : Free s → Free (seen_by s (set s.views id left ++ right ∷ []))
      free f = let known = f.views id note at unspent in free_add (seen_by s (set s.views id left)) right (free_set s id left f (λ _. kept (counts_of f.value) None known)) (given (counts_of f.value) None known)

      taken : Taken s → Taken (seen_by s (set s.views id left ++ right ∷ []))
      taken t = ⊎_elim
          (λ (mine : (id ≡ t.holder) × Known t.counts (Some t.counts) note). taken_add (seen_by s (set s.views id left)) right
          (taken_turn s id left t mine.0 unspent (kept t.counts (Some t.counts) mine.1)) (given t.counts (Some t.counts) mine.1))
          (λ (other : (id ≢ t.holder) × Known t.counts None note). taken_add (seen_by s (set s.views id left)) right (taken_set s id left t other.0 (λ _. kept t.counts None other.1)) (given t.counts None other.1))
          (whose s id note t at unspent)

  -- join: the pairs of the other go to the caller's view, and the other is spent
  pub joins_passes : (id : ℕ) (note : Note V) (other : ℕ) (note' : Note V) → note.spent ≡ false → note.held ≡ None → note'.spent ≡ false → note'.held ≡ None → Joins Rule id note other note' (takes_in note note') spent_note
  unfolding free_set taken_set
  joins_passes id note other note' unspent idle unspent' idle' s r at apart there = record { pairs = pairs; turn = ⊎_elim (λ f. inl (free f)) (λ t. inr (taken t)) r.turn }
    where
      both : Note V
      both = takes_in note note'

      views : List (Note V)
      views = set s.views id both

      after : List (Note V)
      after = set views other spent_note

      -- where the other view was before the first changed
      before : get_elem? s.views other ≡ some note'
      before = sym (set_else s.views id other both apart) ∙ there

      gathered : (p : ℕ) → worth p both ≡ worth p note + worth p note'
      gathered p = let a = unspent_worth p both unspent in let b = unspent_worth p note unspent in let c = unspent_worth p note' unspent' in let d = times_append p note.pairs note'.pairs in omega arith

      pairs : (p : ℕ) → total (worth p) after ≡ once p passes
      pairs p = let a = total_set (worth p) views other note' spent_note there in let b = total_set (worth p) s.views id note both at in let c = gathered p in let d = r.pairs p in omega arith

      joined : (counts : List ℕ) → Known counts None note → Known counts None note' → Idle counts both
      joined counts a b _ = record {
        opening = a.opening;
        some_pair = let long = a.some_pair in omega (arith, length-append note.pairs note'.pairs);
        agree = agree_append counts note.pairs note'.pairs a.agree b.agree;
        lock = a.lock;
      }

      gone : (counts : List ℕ) → Idle counts (spent_note {V = V})
      gone counts unspent_one = absurd (cc)

      free : Free s → Free (seen_by s after)
      free f = free_set (seen_by s views) other spent_note (free_set s id both f (joined (counts_of f.value) (f.views id note at unspent) (f.views other note' before unspent'))) (gone (counts_of f.value))

      not_holder : (t : Taken s) (i : ℕ) (v : Note V) → get_elem? s.views i ≡ some v → v.spent ≡ false → v.held ≡ None → (i ≢ t.holder) × Known t.counts None v
      not_holder t i v e u h = ⊎_elim (λ (mine : (i ≡ t.holder) × Known t.counts (Some t.counts) v). let never = sym h ∙ mine.1.lock in absurd (cc)) (λ x. x) (whose s i v t e u)

      taken : Taken s → Taken (seen_by s after)
      taken t = let a = not_holder t id note at unspent idle in let b = not_holder t other note' before unspent' idle' in
          taken_set (seen_by s views) other spent_note (taken_set s id both t a.0 (joined t.counts a.1 b.1)) b.0 (gone t.counts)

  -- who has a pair of each number and does not hold the lock finds it free
  pub closes : (s : St) (id : ℕ) (note : Note V) → Rule s → get_elem? s.views id ≡ some note → note.spent ≡ false → note.held ≡ None → HasEach passes note.pairs
      → (value : V) × (get_elem? s.homes 0 ≡ some (some (Some value))) × Agree (counts_of value) note.pairs × (name_of value ≡ name_of opened)
  closes s id note r at unspent idle every = ⊎_elim free taken r.turn
    where
      Result : Type 0
      Result = (value : V) × (get_elem? s.homes 0 ≡ some (some (Some value))) × Agree (counts_of value) note.pairs × (name_of value ≡ name_of opened)

      free : Free s → Result
      free f = (f.value, ap (λ h. get_elem? h 0) f.home, (f.views id note at unspent).agree, f.name)

      taken : Taken s → Result
      taken t = ⊎_elim (λ (mine : (id ≡ t.holder) × Known t.counts (Some t.counts) note). let never = sym idle ∙ mine.1.lock in absurd (cc))
          (λ (other : (id ≢ t.holder) × Known t.counts None note). let n = first_number t.view.pairs in let stands = times_first t.view.pairs t.holds.some_pair in
          let low = known_number s r t.holder t.view t.there t.unspent n stands in let mine = every n low in let none_there = apart_numbers s r id t.holder note t.view other.0 at t.there unspent t.unspent n mine in absurd (omega arith))
          (whose s id note t at unspent)

  -- the value that comes out of the slot of a closed lock
  pub closed_value : (words : List ℕ) (slots : List (Option V)) (id : ℕ) (note : Note V) (found : Option V) → Final (Seen Rule id note) words slots → get_elem? slots 0 ≡ some found
      → note.spent ≡ false → note.held ≡ None → HasEach passes note.pairs → (value : V) × (found ≡ Some value) × Agree (counts_of value) note.pairs × (name_of value ≡ name_of opened)
  closed_value words slots id note found last there unspent idle every = let home = closes last.0 id note last.1.0 last.1.1 unspent idle every in
      (home.0, some-injective found (Some home.0) (sym there ∙ last.4 0 (Some home.0) home.1), home.2, home.3)

  -- the lock that was just opened: its one pass has every number
  pub opens : (homes : List (Option V)) → homes ≡ Some opened ∷ [] → length (counts_of opened) ≡ passes → 1 ≤ passes → Rule (opening (0 ∷ []) homes (first_note opened (counts_of opened)))
  opens homes home wide some_pass = record {
    pairs = once_each;
    turn = inl record {
      word = refl;
      value = opened;
      home = ap (λ (l : List (Option V)). map some l) home;
      name = refl;
      wide = wide;
      views = first_view;
    };
  }
    where
      counts : List ℕ
      counts = counts_of opened

      once_each : (p : ℕ) → total (worth p) (first_note opened counts ∷ []) ≡ once p passes
      once_each p = dite (dec_lt p passes)
          (λ low. let a = times_numbered p 0 counts (omega arith) (omega arith) in let b = once_is p passes low in omega arith)
          (λ high. let a = times_above p 0 counts (omega arith) in let b = once_not p passes high in omega arith)

      first_view : (seat : ℕ) (view : Note V) → get_elem? (first_note opened counts ∷ []) seat ≡ some view → view.spent ≡ false → Known counts None view
      first_view zero view e _ = subst (Known counts None) (some-injective (first_note opened counts) view e) record {
        opening = refl;
        some_pair = let long = length_numbered 0 counts in omega arith;
        agree = agree_opening counts;
        lock = refl;
      }
      first_view (suc i) view e _ = absurd (some-ne-none view (sym e))
