-- The tokens of a text are those that stand in it.
use Rattle.std.proofs.Common.{◌≡◌, ◌≢◌, ℕ, suc, ◌+◌, Bool, true, false, cond, not, ◌&&◌, ◌||◌, eqb, List, [], ◌∷◌, ◌++◌, length, refl, sym, ap, subst, ◌∙◌, inl, inr, arith, append_assoc, add-zero}
use Rattle.std.specs.Prelude.{count_by}
use Rattle.std.specs.List.{list_all, take_while}
use Rattle.std.proofs.lemmas.Bool.Decides.{nat_tests}
use Rattle.std.proofs.lemmas.List.Sums.{take_while-cons, sum_by-cons}
use Rattle.std.proofs.lemmas.Bool.{and_parts}
use Rattle.ct_text.specs.declared.place.Place.{Place}
use Rattle.ct_text.specs.Place.{past, place_after}
use Rattle.ct_text.specs.Tokens.{Lexeme, Mode, between, inside, comment, mode_after, is_plain, begins, tokens_in, text_of}
use Rattle.ct_text.specs.TokenLaw.{is_in_line, AreLines, ends_plain, begins_plain, StandsIn, IsAmong}

-- where reading stands after these bytes
abbrev modes : Mode → List ℕ → Mode
modes mode [] = mode
modes mode (byte ∷ bytes) = modes (mode_after mode byte) bytes

-- a token behind mid, where reading begins in this mode and at this place
record Behind (mode : Mode) (place : Place) (bytes : List ℕ) (token : Lexeme) : Type 0 where
  mid : List ℕ
  after : List ℕ
  parts : bytes ≡ mid ++ (token.text ++ after)
  outside : modes mode mid ≡ between
  place_is : token.place ≡ place_after place mid
  some : token.text ≢ []
  plain : list_all is_plain token.text ≡ true
  ends : begins_plain after ≡ false

-- ---- a longest run

run_text : (bs : List ℕ) → list_all is_plain (take_while is_plain bs) ≡ true
run_text [] = refl
run_text (b ∷ bs) = rw (take_while-cons is_plain b bs) (go (is_plain b) refl (run_text bs))
  where
    go : (test : Bool) → is_plain b ≡ test → list_all is_plain (take_while is_plain bs) ≡ true → list_all is_plain (cond test (b ∷ take_while is_plain bs) []) ≡ true
    go true plain others = rw (plain, others) refl
    go false plain others = refl

run_rest : (bs : List ℕ) → (after : List ℕ) × (bs ≡ take_while is_plain bs ++ after) × (begins_plain after ≡ false)
run_rest [] = ([], refl, refl)
run_rest (b ∷ bs) = rw (take_while-cons is_plain b bs) (go (is_plain b) refl (run_rest bs))
  where
    go : (test : Bool) → is_plain b ≡ test → (after : List ℕ) × (bs ≡ take_while is_plain bs ++ after) × (begins_plain after ≡ false) → (after : List ℕ) × (b ∷ bs ≡ cond test (b ∷ take_while is_plain bs) [] ++ after) × (begins_plain after ≡ false)
    go true plain r = (r.0, ap (λ (xs : List ℕ). b ∷ xs) r.1, r.2)
    go false plain r = (b ∷ bs, refl, plain)

-- the run is the whole text before what begins with no plain byte
run_is : (text after : List ℕ) → list_all is_plain text ≡ true → begins_plain after ≡ false → take_while is_plain (text ++ after) ≡ text
run_is [] [] h ends = refl
run_is [] (b ∷ after) h ends = rw (take_while-cons is_plain b after, ends) refl
run_is (b ∷ text) after h ends =
    let parts = and_parts (is_plain b) (list_all is_plain text) h in
    rw (take_while-cons is_plain b (text ++ after), parts.0) (ap (λ (xs : List ℕ). b ∷ xs) (run_is text after parts.1 ends))

-- ---- from the list to the text

begins_between : (mode : Mode) (b : ℕ) → begins mode b ≡ true → (mode ≡ between) × (is_plain b ≡ true)
begins_between between b e = (refl, e)
begins_between inside b e = absurd cc
begins_between comment b e = absurd cc

further_in : (mode : Mode) (place : Place) (b : ℕ) (bs : List ℕ) (token : Lexeme) → Behind (mode_after mode b) (past place b) bs token → Behind mode place (b ∷ bs) token
further_in mode place b bs token h = record {
  mid = b ∷ h.mid;
  after = h.after;
  parts = ap (λ (xs : List ℕ). b ∷ xs) h.parts;
  outside = h.outside;
  place_is = h.place_is;
  some = h.some;
  plain = h.plain;
  ends = h.ends;
}

plain_run : (b : ℕ) (bs : List ℕ) → is_plain b ≡ true → take_while is_plain (b ∷ bs) ≡ b ∷ take_while is_plain bs
plain_run b bs plain = rw (take_while-cons is_plain b bs, plain) refl

at_front : (place : Place) (b : ℕ) (bs : List ℕ) → is_plain b ≡ true → Behind between place (b ∷ bs) (record { place = place; text = take_while is_plain (b ∷ bs) })
at_front place b bs plain =
    let r = run_rest (b ∷ bs) in
    record { mid = []; after = r.0; parts = r.1; outside = refl; place_is = refl; some = λ none. (let front = plain_run b bs plain in absurd cc); plain = run_text (b ∷ bs); ends = r.2 }

behind_from_among : (mode : Mode) (place : Place) (bs : List ℕ) (token : Lexeme) → IsAmong token (tokens_in mode place bs) → Behind mode place bs token
behind_from_among mode place [] token h = absurd h
behind_from_among mode place (b ∷ bs) token h = go (begins mode b) refl h (λ later. behind_from_among (mode_after mode b) (past place b) bs token later)
  where
    go : (test : Bool) → begins mode b ≡ test → IsAmong token (cond test (record { place = place; text = take_while is_plain (b ∷ bs) } ∷ tokens_in (mode_after mode b) (past place b) bs) (tokens_in (mode_after mode b) (past place b) bs))
        → (IsAmong token (tokens_in (mode_after mode b) (past place b) bs) → Behind (mode_after mode b) (past place b) bs token) → Behind mode place (b ∷ bs) token
    go true start (inl same) others =
        let m = begins_between mode b start in
        subst (λ (t : Lexeme). Behind mode place (b ∷ bs) t) (sym same) (subst (λ (n : Mode). Behind n place (b ∷ bs) (record { place = place; text = take_while is_plain (b ∷ bs) })) (sym m.0) (at_front place b bs m.1))
    go true start (inr later) others = further_in mode place b bs token (others later)
    go false start later others = further_in mode place b bs token (others later)

-- ---- from the text to the list

among_others : (test : Bool) (token first : Lexeme) (others : List Lexeme) → IsAmong token others → IsAmong token (cond test (first ∷ others) others)
among_others true token first others h = inr h
among_others false token first others h = h

among_begin : (test : Bool) (token first : Lexeme) (others : List Lexeme) → test ≡ true → token ≡ first → IsAmong token (cond test (first ∷ others) others)
among_begin true token first others e same = inl same
among_begin false token first others e same = absurd cc

among_front : (place : Place) (text after : List ℕ) → text ≢ [] → list_all is_plain text ≡ true → begins_plain after ≡ false → IsAmong (record { place = place; text = text }) (tokens_in between place (text ++ after))
among_front place [] after some plain ends = absurd (some refl)
among_front place (b ∷ text) after some plain ends =
    let run : take_while is_plain (b ∷ (text ++ after)) ≡ b ∷ text = run_is (b ∷ text) after plain ends in
    let first : is_plain b ≡ true = front (is_plain b) (list_all is_plain text) plain in
    let bs = text ++ after in
    among_begin (is_plain b) (record { place = place; text = b ∷ text }) (record { place = place; text = take_while is_plain (b ∷ bs) }) (tokens_in (mode_after between b) (past place b) bs) first
    (ap (λ (t : List ℕ). record { place = place; text = t }) (sym run))
  where
    front : (x y : Bool) → (x && y) ≡ true → x ≡ true
    front true y e = refl
    front false y e = absurd cc

among_from_behind : (mode : Mode) (place : Place) (mid text after : List ℕ) → modes mode mid ≡ between → text ≢ [] → list_all is_plain text ≡ true → begins_plain after ≡ false
    → IsAmong (record { place = place_after place mid; text = text }) (tokens_in mode place (mid ++ (text ++ after)))
among_from_behind mode place [] text after outside some plain ends = rw outside (among_front place text after some plain ends)
among_from_behind mode place (b ∷ mid) text after outside some plain ends =
    let bs = mid ++ (text ++ after) in
    among_others (begins mode b) (record { place = place_after (past place b) mid; text = text }) (record { place = place; text = take_while is_plain (b ∷ bs) }) (tokens_in (mode_after mode b) (past place b) bs)
    (among_from_behind (mode_after mode b) (past place b) mid text after outside some plain ends)

-- ---- lines

abbrev no_end : ℕ → Bool
no_end byte = not (eqb byte 10)

record Lines (bytes : List ℕ) : Type 0 where
  above : List ℕ
  line : List ℕ
  parts : bytes ≡ above ++ line
  are_lines : AreLines above
  one_line : list_all no_end line ≡ true

lines_of : (bytes : List ℕ) → Lines bytes
lines_of [] = record { above = []; line = []; parts = refl; are_lines = tt; one_line = refl }
lines_of (b ∷ bs) = go (eqb b 10) refl (lines_of bs).above (lines_of bs).line (lines_of bs).parts (lines_of bs).are_lines (lines_of bs).one_line
  where
    go : (test : Bool) → eqb b 10 ≡ test → (above line : List ℕ) → bs ≡ above ++ line → AreLines above → list_all no_end line ≡ true → Lines (b ∷ bs)
    go true ends [] line parts are one = record { above = b ∷ []; line = line; parts = ap (λ (xs : List ℕ). b ∷ xs) parts; are_lines = grind (arith, nat_tests); one_line = one }
    go false ends [] line parts are one = record { above = []; line = b ∷ line; parts = ap (λ (xs : List ℕ). b ∷ xs) parts; are_lines = tt; one_line = rw (ends, one) refl }
    go test ends (c ∷ above) line parts are one = record { above = b ∷ c ∷ above; line = line; parts = ap (λ (xs : List ℕ). b ∷ xs) parts; are_lines = are; one_line = one }

after_end : (mode : Mode) → mode_after mode 10 ≡ between
after_end between = refl
after_end inside = refl
after_end comment = refl

modes-lines : (mode : Mode) (b : ℕ) (above line : List ℕ) → AreLines (b ∷ above) → modes mode ((b ∷ above) ++ line) ≡ modes between line
modes-lines mode b [] line ends = rw (ends, after_end mode) refl
modes-lines mode b (c ∷ above) line are = modes-lines (mode_after mode b) c above line are

-- whole lines leave no token and no comment begun
modes-above : (above line : List ℕ) → AreLines above → modes between (above ++ line) ≡ modes between line
modes-above [] line are = refl
modes-above (b ∷ above) line are = modes-lines between b above line are

abbrev line_ends : List ℕ → ℕ
line_ends = count_by (λ byte. eqb byte 10)

place_after-append : (p : Place) (xs ys : List ℕ) → place_after p (xs ++ ys) ≡ place_after (place_after p xs) ys
place_after-append p [] ys = refl
place_after-append p (x ∷ xs) ys = place_after-append (past p x) xs ys

place_after-line : (p : Place) (line : List ℕ) → list_all no_end line ≡ true → place_after p line ≡ record { line = p.line; column = p.column + length line }
place_after-line p [] one = rw add-zero refl
place_after-line p (b ∷ line) one = go (eqb b 10) refl (place_after-line (record { line = p.line; column = p.column + 1 }) line)
  where
    go : (test : Bool) → eqb b 10 ≡ test → (list_all no_end line ≡ true → place_after (record { line = p.line; column = p.column + 1 }) line ≡ record { line = p.line; column = p.column + 1 + length line })
        → place_after (past p b) line ≡ record { line = p.line; column = p.column + suc (length line) }
    go true ends others = absurd (let no = rw ends at one in cc)
    go false ends others = let rest = rw ends at one in rw ends (others rest ∙ (let same : p.column + 1 + length line ≡ p.column + suc (length line) = omega arith in ap (λ (n : ℕ). record { line = p.line; column = n }) same))

past-line : (p : Place) (b : ℕ) → (past p b).line ≡ p.line + cond (eqb b 10) 1 0
past-line p b = go (eqb b 10) refl
  where
    go : (test : Bool) → eqb b 10 ≡ test → (cond {A = Place} test (record { line = p.line + 1; column = 1 }) (record { line = p.line; column = p.column + 1 })).line ≡ p.line + cond test 1 0
    go true e = refl
    go false e = sym (add-zero p.line)

place_after-lines : (p : Place) (b : ℕ) (above : List ℕ) → AreLines (b ∷ above) → place_after p (b ∷ above) ≡ record { line = p.line + line_ends (b ∷ above); column = 1 }
place_after-lines p b [] ends = rw ends refl
place_after-lines p b (c ∷ above) are =
    let rest = place_after-lines (past p b) c above are in
    let count : line_ends (b ∷ c ∷ above) ≡ cond (eqb b 10) 1 0 + line_ends (c ∷ above) = sum_by-cons (λ byte. cond (eqb byte 10) 1 0) b (c ∷ above) in
    let same : (past p b).line + line_ends (c ∷ above) ≡ p.line + line_ends (b ∷ c ∷ above) = omega (arith, past-line p b, count) in
    rest ∙ ap (λ (n : ℕ). record { line = n; column = 1 }) same

-- the place behind whole lines and a part of one
place_of : (above line : List ℕ) → AreLines above → list_all no_end line ≡ true
    → place_after (record { line = 1; column = 1 }) (above ++ line) ≡ record { line = 1 + line_ends above; column = 1 + length line }
place_of [] line are one = place_after-line (record { line = 1; column = 1 }) line one
place_of (b ∷ above) line are one =
    let top : Place = record { line = 1; column = 1 } in
    place_after-append top (b ∷ above) line ∙ ap (λ (q : Place). place_after q line) (place_after-lines top b above are) ∙ place_after-line (record { line = 1 + line_ends (b ∷ above); column = 1 }) line one

-- ---- a part of a line

record OpenLine (mode : Mode) (line : List ℕ) : Type 0 where
  no_comment : list_all is_in_line line ≡ true
  open_mode : mode ≢ comment
  starts : ends_plain line ≡ false
  first : line ≡ [] → mode ≡ between

-- the mode after a byte that is no LF
after_byte : (mode : Mode) (b : ℕ) → eqb b 10 ≡ false → mode ≢ comment → mode_after mode b ≡ cond (is_plain b) inside (cond (eqb b 35) comment between)
after_byte between b e h = refl
after_byte inside b e h = refl
after_byte comment b e h = absurd (h refl)

comment_stays : (b : ℕ) → eqb b 10 ≡ false → mode_after comment b ≡ comment
comment_stays b e = rw e refl

no_end-cons : (b : ℕ) (line : List ℕ) → list_all no_end (b ∷ line) ≡ true → (eqb b 10 ≡ false) × (list_all no_end line ≡ true)
no_end-cons b line h = go (eqb b 10) (list_all no_end line) h
  where
    go : (x y : Bool) → (not x && y) ≡ true → (x ≡ false) × (y ≡ true)
    go true y e = absurd cc
    go false y e = (refl, e)

in_line-cons : (b : ℕ) (line : List ℕ) → eqb b 10 ≡ false → eqb b 35 ≡ false → list_all is_in_line line ≡ true → list_all is_in_line (b ∷ line) ≡ true
in_line-cons b line p q r = rw (p, q, r) refl

-- a byte that leaves no comment begun is no '#'
not_hash : (mode : Mode) (b : ℕ) → eqb b 10 ≡ false → mode ≢ comment → mode_after mode b ≢ comment → eqb b 35 ≡ false
not_hash mode b e h stays = go (eqb b 35) refl
  where
    go : (test : Bool) → eqb b 35 ≡ test → test ≡ false
    go false is = refl
    go true is =
        let hash : b ≡ 35 = grind (arith, nat_tests) in
        let leads : mode_after mode b ≡ comment = after_byte mode b e h ∙ rw hash refl in
        absurd (stays leads)

open_from_modes : (mode : Mode) (line : List ℕ) → list_all no_end line ≡ true → modes mode line ≡ between → OpenLine mode line
open_from_modes mode [] one is = record { no_comment = refl; open_mode = λ e. cc; starts = refl; first = λ _. is }
open_from_modes mode (b ∷ line) one is =
    let p = no_end-cons b line one in
    let rest = open_from_modes (mode_after mode b) line p.1 is in
    let open_now : mode ≢ comment = λ e. rest.open_mode (ap (λ (m : Mode). mode_after m b) e ∙ comment_stays b p.0) in
    record {
      no_comment = in_line-cons b line p.0 (not_hash mode b p.0 open_now rest.open_mode) rest.no_comment;
      open_mode = open_now;
      starts = last mode b line p.0 open_now rest.starts rest.first;
      first = λ e. absurd cc;
    }
  where
    last : (mode : Mode) (b : ℕ) (line : List ℕ) → eqb b 10 ≡ false → mode ≢ comment → ends_plain line ≡ false → (line ≡ [] → mode_after mode b ≡ between) → ends_plain (b ∷ line) ≡ false
    last mode b (c ∷ line) e h starts first = starts
    last mode b [] e h starts first = go (is_plain b) refl
      where
        go : (test : Bool) → is_plain b ≡ test → test ≡ false
        go false is = refl
        go true is = absurd (let into : mode_after mode b ≡ inside = after_byte mode b e h ∙ rw is refl in let stays = first refl in cc)

modes_from_open : (mode : Mode) (line : List ℕ) → OpenLine mode line → modes mode line ≡ between
modes_from_open mode [] o = o.first refl
modes_from_open mode (b ∷ line) o =
    let p = parts (eqb b 10) (eqb b 35) (list_all is_in_line line) o.no_comment in
    let next : mode_after mode b ≡ cond (is_plain b) inside (cond (eqb b 35) comment between) = after_byte mode b p.0 o.open_mode in
    modes_from_open (mode_after mode b) line (record {
      no_comment = p.2;
      open_mode = λ e. clear (is_plain b) (sym (next ∙ rw p.1 refl) ∙ e);
      starts = later b line o.starts;
      first = λ e. next ∙ blank b line p.1 e o.starts;
    })
  where
    parts : (x y z : Bool) → (not (x || y) && z) ≡ true → (x ≡ false) × (y ≡ false) × (z ≡ true)
    parts true y z e = absurd cc
    parts false true z e = absurd cc
    parts false false z e = (refl, refl, e)

    clear : (test : Bool) → cond test inside between ≡ comment → ⊥
    clear true e = cc
    clear false e = cc

    later : (b : ℕ) (line : List ℕ) → ends_plain (b ∷ line) ≡ false → ends_plain line ≡ false
    later b [] h = refl
    later b (c ∷ line) h = h

    blank : (b : ℕ) (line : List ℕ) → eqb b 35 ≡ false → line ≡ [] → ends_plain (b ∷ line) ≡ false → cond (is_plain b) inside (cond (eqb b 35) comment between) ≡ between
    blank b [] q e h = let no : is_plain b ≡ false = h in rw (no, q) refl
    blank b (c ∷ line) q e h = absurd cc

-- ---- the law

pub stands_from_among : (bytes : List ℕ) (token : Lexeme) → IsAmong token (text_of bytes).tokens → StandsIn bytes token
stands_from_among bytes token h =
    let b = behind_from_among between (record { line = 1; column = 1 }) bytes token h in
    let l = lines_of b.mid in
    let o = open_from_modes between l.line l.one_line (sym (modes-above l.above l.line l.are_lines) ∙ ap (modes between) (sym l.parts) ∙ b.outside) in
    record {
      above = l.above;
      line = l.line;
      after = b.after;
      parts = b.parts ∙ ap (λ (xs : List ℕ). xs ++ (token.text ++ b.after)) l.parts ∙ append_assoc l.above l.line (token.text ++ b.after);
      are_lines = l.are_lines;
      no_comment = o.no_comment;
      starts = o.starts;
      some = b.some;
      plain = b.plain;
      ends = b.ends;
      place = b.place_is ∙ ap (place_after (record { line = 1; column = 1 })) l.parts ∙ place_of l.above l.line l.are_lines l.one_line;
    }

no_end_in_line : (line : List ℕ) → list_all is_in_line line ≡ true → list_all no_end line ≡ true
no_end_in_line [] h = refl
no_end_in_line (b ∷ line) h = go (eqb b 10) (eqb b 35) (list_all is_in_line line) h (no_end_in_line line)
  where
    go : (x y z : Bool) → (not (x || y) && z) ≡ true → (z ≡ true → list_all no_end line ≡ true) → (not x && list_all no_end line) ≡ true
    go true y z e others = absurd cc
    go false true z e others = absurd cc
    go false false z e others = others e

pub among_from_stands : (bytes : List ℕ) (token : Lexeme) → StandsIn bytes token → IsAmong token (text_of bytes).tokens
among_from_stands bytes token s =
    let top : Place = record { line = 1; column = 1 } in
    let one = no_end_in_line s.line s.no_comment in
    let outside : modes between (s.above ++ s.line) ≡ between = modes-above s.above s.line s.are_lines ∙ modes_from_open between s.line (record { no_comment = s.no_comment; open_mode = λ e. cc; starts = s.starts; first = λ _. refl }) in
    let whole : bytes ≡ (s.above ++ s.line) ++ (token.text ++ s.after) = s.parts ∙ sym (append_assoc s.above s.line (token.text ++ s.after)) in
    let found : IsAmong (record { place = place_after top (s.above ++ s.line); text = token.text }) (tokens_in between top ((s.above ++ s.line) ++ (token.text ++ s.after))) =
    among_from_behind between top (s.above ++ s.line) token.text s.after outside s.some s.plain s.ends in
    let place : place_after top (s.above ++ s.line) ≡ token.place = place_of s.above s.line s.are_lines one ∙ sym s.place in
    subst (λ (bs : List ℕ). IsAmong token (tokens_in between top bs)) (sym whole)
    (subst (λ (q : Place). IsAmong (record { place = q; text = token.text }) (tokens_in between top ((s.above ++ s.line) ++ (token.text ++ s.after)))) place found)
