-- What a text of lines owes, and the laws that it gets: it is read exactly where it is written, its fault line is exact,
-- it is the text of one value, and no text is a proper prefix of another.
use Rattle.std.proofs.Common.{◌≡◌, ◌≢◌, ℕ, ◌+◌, Bool, true, false, cond, ◌&&◌, eqb, List, [], ◌∷◌, ◌++◌, length, map, Option, Some, None, Result, Ok, Err, refl, sym, ap, subst, ◌∙◌, arith}
use Rattle.std.specs.Prelude.{IfOk}
use Rattle.std.specs.List.{join_with_byte}
use Rattle.std.proofs.lemmas.List.{append-nil, length-append, length-map}
use Rattle.std.proofs.lemmas.Bool.Decides.{nat_tests}
use Rattle.ct_text.specs.Pieces.{split}
use Rattle.ct_text.specs.PiecesLaw.{lacks}
use Rattle.ct_text.proofs.Splits.{Lack, split-lacks, join-split, split-none, lacks-cons}
use Rattle.ct_lines.specs.Texts.{text_of}
use Rattle.ct_lines.specs.Reading.{◌>>=◌}
use Rattle.ct_lines.specs.Wording.{Wording, read, Spells, run, Runs, or_fault, read_from}
use Rattle.ct_lines.specs.FaultLine.{Cause, not_there, stops, past_end, IsFaultLine}
use Rattle.ct_lines.specs.declared.stop.TextStop.{TextStop}
use Rattle.ct_lines.specs.declared.stop.TextStop.TheVariants.{Fault, Memory}
use Rattle.ct_lines.specs.Stops.{AtFault, Found}
use Rattle.ct_lines.proofs.TextLines.{AreSpelled, text_of-push, text_of-append, lines_lack, lines_front, line_front}
use Rattle.ct_lines.proofs.Spelling.{Fits, some_same, spells_from_read, read_from_spells}

-- A text is read from a first value on, where each value says what the next line may be.
pub record Machine (S : Type 0) (Good : S → Type 0) (Is : List ℕ → Type 0) : Type 0 where
  pub start : S
  pub next : S → Wording S
  pub is_closed : S → Bool
  -- the lines that a value stands for
  pub said : S → List (List (List ℕ))
  pub begins : Good start
  pub none_said : said start ≡ []
  pub in_limits : (s : S) → Fits (next s)
  pub says : (s t : S) (words : List (List ℕ)) → Good s → Spells (next s) words t → Good t × (said t ≡ said s ++ words ∷ [])
  pub are_spelled : (s : S) → Good s → AreSpelled (said s)
  pub reached : (s : S) → Good s → Runs next start (said s) s
  pub ends : (s t : S) (words : List (List ℕ)) → is_closed s ≡ true → Spells (next s) words t → ⊥
  -- each value goes on to a closed one
  pub goes_on : (s : S) → Good s → (t : S) × (more : List (List (List ℕ))) × Good t × (is_closed t ≡ true) × (said t ≡ said s ++ more)
  -- the texts are those of closed values
  pub fits : (s : S) → Good s → is_closed s ≡ true → Is (text_of (said s))
  pub some : (text : List ℕ) → Is text → (s : S) × Good s × (is_closed s ≡ true) × (text ≡ text_of (said s))

-- ---- lines one after the other

after : {S : Type 0} (found : Option S) (whole first second : S → Option S) → ((t : S) → whole t ≡ (first t >>= second)) → (found >>= whole) ≡ ((found >>= first) >>= second)
after None whole first second same = refl
after (Some t) whole first second same = same t

pub run-append : {S : Type 0} (next : S → Wording S) (s : S) (xs ys : List (List (List ℕ))) → run next s (xs ++ ys) ≡ (run next s xs >>= λ t. run next t ys)
run-append next s [] ys = refl
run-append next s (words ∷ xs) ys = after (read (next s) words) (λ t. run next t (xs ++ ys)) (λ t. run next t xs) (λ t. run next t ys) (λ t. run-append next t xs ys)

pub run_from_runs : {S : Type 0} (next : S → Wording S) (s t : S) (lines : List (List (List ℕ))) → ((s : S) → Fits (next s)) → Runs next s lines t → run next s lines ≡ Some t
run_from_runs next s t [] f h = ap (λ u. Some u) h
run_from_runs next s t (words ∷ lines) f (u, spells, later) = rw (read_from_spells (next s) words u (f s) spells) (run_from_runs next u t lines f later)

pub Runs-append : {S : Type 0} (next : S → Wording S) (s t u : S) (xs ys : List (List (List ℕ))) → Runs next s xs t → Runs next t ys u → Runs next s (xs ++ ys) u
Runs-append {S} next s t u [] ys h k = subst (λ (v : S). Runs next v ys u) (sym h) k
Runs-append next s t u (words ∷ xs) ys (v, spells, later) k = (v, spells, Runs-append next v t u xs ys later k)

err_same : {S : Type 0} {n line : ℕ} → ◌≡◌ {A = Result S ℕ} (Err n) (Err line) → n ≡ line
err_same e = cc

ok_same : {S : Type 0} {s t : S} → ◌≡◌ {A = Result S ℕ} (Ok s) (Ok t) → s ≡ t
ok_same e = cc

rest_spelled : (xs ys : List (List (List ℕ))) → AreSpelled (xs ++ ys) → AreSpelled ys
rest_spelled [] ys h = h
rest_spelled (x ∷ xs) ys h = rest_spelled xs ys h.1

has_end : (x ys : List ℕ) → lacks 10 (x ++ (10 ∷ ys)) ≡ true → ⊥
has_end [] ys h = cc
has_end (b ∷ x) ys h = has_end x ys (lacks-cons 10 b (x ++ (10 ∷ ys)) h).1

no_lines : (last : List ℕ) (lines : List (List (List ℕ))) → lacks 10 last ≡ true → last ≡ text_of lines → lines ≡ []
no_lines last [] h e = refl
no_lines last (words ∷ lines) h e = absurd (has_end (join_with_byte 32 words) (text_of lines) (sym (ap (lacks 10) e) ∙ h))

no_bytes : (last : List ℕ) → eqb (length last) 0 ≡ true → last ≡ []
no_bytes [] h = refl
no_bytes (b ∷ last) h = absurd (grind (arith, nat_tests))

some_bytes : (last : List ℕ) → eqb (length last) 0 ≡ false → last ≢ []
some_bytes [] h e = cc
some_bytes (b ∷ last) h e = cc

line_bytes : (line rest : List ℕ) → line ++ (10 ∷ rest) ≢ []
line_bytes [] rest e = cc
line_bytes (b ∷ line) rest e = cc

module _ {S : Type 0} {Good : S → Type 0} {Is : List ℕ → Type 0} (m : Machine S Good Is) where
  -- a value's lines lead to it
  run_of : (s : S) → Good s → run m.next m.start (m.said s) ≡ Some s
  run_of s good = run_from_runs m.next m.start s (m.said s) m.in_limits (m.reached s good)

  run_on : (s t : S) (more : List (List (List ℕ))) → Good s → Good t → m.said t ≡ m.said s ++ more → run m.next s more ≡ Some t
  run_on s t more good there is =
      let whole = run_of t there in
      sym (ap (λ (r : Option S). r >>= λ u. run m.next u more) (run_of s good)) ∙ sym (run-append m.next m.start (m.said s) more) ∙ sym (ap (run m.next m.start) is) ∙ whole

  -- after a closed value there is no line
  no_more : (s t : S) (more : List (List (List ℕ))) → m.is_closed s ≡ true → run m.next s more ≡ Some t → more ≡ []
  no_more s t [] closed e = refl
  no_more s t (words ∷ more) closed e = absurd (go (read (m.next s) words) refl e)
    where
      go : (found : Option S) → read (m.next s) words ≡ found → (found >>= λ u. run m.next u more) ≡ Some t → ⊥
      go None is e = cc
      go (Some u) is e = m.ends s u words closed (spells_from_read (m.next s) words u (m.in_limits s) is)

  -- ---- one value a text, and no prefix

  no_rest : (s t : S) (rest : List ℕ) → Good s → Good t → m.is_closed s ≡ true → text_of (m.said s) ++ rest ≡ text_of (m.said t) → (rest ≡ []) × (s ≡ t)
  no_rest s t rest good there closed e =
      let p = lines_front (m.said s) (m.said t) rest (m.are_spelled s good) (m.are_spelled t there) e in
      let on = run_on s t p.0 good there p.1 in
      let none = no_more s t p.0 closed on in
      (p.2 ∙ ap text_of none, some_same (sym (ap (run m.next s) none) ∙ on))

  pub one_value : (s t : S) → Good s → Good t → m.is_closed s ≡ true → text_of (m.said s) ≡ text_of (m.said t) → s ≡ t
  one_value s t good there closed e = (no_rest s t [] good there closed (append-nil (text_of (m.said s)) ∙ e)).1

  pub no_prefix : (text rest : List ℕ) → Is text → Is (text ++ rest) → rest ≡ []
  no_prefix text rest is longer =
      let a = m.some text is in
      let b = m.some (text ++ rest) longer in
      (no_rest a.0 b.0 rest a.1 b.1 a.2 (sym (ap (λ (x : List ℕ). x ++ rest) a.3) ∙ b.3)).0

  -- ---- the fault line

  fault_below : (s : S) (rest bytes : List ℕ) (line : ℕ) → Good s → bytes ≡ text_of (m.said s) ++ rest → line ≡ length (m.said s) + 1 → Cause Is (text_of (m.said s)) rest → (Is bytes → ⊥) → IsFaultLine Is bytes line
  fault_below s rest bytes line good parts number cause no_text = record {
    above = map (join_with_byte 32) (m.said s);
    rest = rest;
    are_lines = lines_lack (m.said s) (m.are_spelled s good);
    parts = parts;
    number = rw (length-map (m.said s) (join_with_byte 32)) number;
    cause = cause;
    no_text = no_text;
  }

  after_closed : (s : S) (rest bytes : List ℕ) (line : ℕ) → Good s → m.is_closed s ≡ true → rest ≢ [] → bytes ≡ text_of (m.said s) ++ rest → line ≡ length (m.said s) + 1 → IsFaultLine Is bytes line
  after_closed s rest bytes line good closed more parts number =
      let is = m.fits s good closed in
      fault_below s rest bytes line good parts number (past_end more is) (λ whole. more (no_prefix (text_of (m.said s)) rest is (subst Is parts whole)))

  to_end : (s : S) → Good s → (more : List ℕ) × Is (text_of (m.said s) ++ more)
  to_end s good =
      let t = m.goes_on s good in
      (text_of t.1, subst Is (ap text_of t.4 ∙ text_of-append (m.said s) t.1) (m.fits t.0 t.2 t.3))

  -- no text has this line after those of s
  refused : (s : S) (line : List ℕ) → Good s → lacks 10 line ≡ true → read (m.next s) (split 32 line) ≡ None → (later : List ℕ) → Is (text_of (m.said s) ++ (line ++ (10 ∷ later))) → ⊥
  refused s line good whole none later is =
      let t = m.some (text_of (m.said s) ++ (line ++ (10 ∷ later))) is in
      let p = lines_front (m.said s) (m.said t.0) (line ++ (10 ∷ later)) (m.are_spelled s good) (m.are_spelled t.0 t.1) t.3 in
      let q = line_front line later p.0 whole (rest_spelled (m.said s) p.0 (subst AreSpelled p.1 (m.are_spelled t.0 t.1))) p.2 in
      let on : run m.next s (split 32 line ∷ q.0) ≡ Some t.0 = subst (λ (lines : List (List (List ℕ))). run m.next s lines ≡ Some t.0) q.1 (run_on s t.0 p.0 good t.1 p.1) in
      let stuck : run m.next s (split 32 line ∷ q.0) ≡ None = rw none refl in
      cc (on, stuck)

  -- a piece that no LF follows is a whole text's end only where it is empty
  not_ended : (s : S) (last : List ℕ) → Good s → m.is_closed s ≡ false → lacks 10 last ≡ true → Is (text_of (m.said s) ++ last) → ⊥
  not_ended s last good still whole is =
      let t = m.some (text_of (m.said s) ++ last) is in
      let p = lines_front (m.said s) (m.said t.0) last (m.are_spelled s good) (m.are_spelled t.0 t.1) t.3 in
      let none = no_lines last p.0 whole p.2 in
      let same : s ≡ t.0 = some_same (sym (ap (run m.next s) none) ∙ run_on s t.0 p.0 good t.1 p.1) in
      cc (sym (ap m.is_closed same) ∙ still, t.2)

  last_ok : (last : List ℕ) (n : ℕ) (s t : S) (closed empty : Bool) → m.is_closed s ≡ closed → eqb (length last) 0 ≡ empty → Good s → cond (closed && empty) (Ok s) (Err n) ≡ Ok t → Good t × (m.is_closed t ≡ true) × (text_of (m.said s) ++ last ≡ text_of (m.said t))
  last_ok last n s t true true closed empty good e =
      let same : s ≡ t = ok_same e in
      (subst Good same good, sym (ap m.is_closed same) ∙ closed, rw (no_bytes last empty) (append-nil (text_of (m.said s)) ∙ ap (λ (u : S). text_of (m.said u)) same))
  last_ok last n s t true false closed empty good e = absurd cc
  last_ok last n s t false empty closed is good e = absurd cc

  line_more : (s u : S) (line rest : List ℕ) → m.said u ≡ m.said s ++ split 32 line ∷ [] → text_of (m.said u) ++ rest ≡ text_of (m.said s) ++ (line ++ (10 ∷ rest))
  line_more s u line rest is = ap (λ (lines : List (List (List ℕ))). text_of lines ++ rest) is ∙ text_of-push (m.said s) (split 32 line) rest ∙ ap (λ (x : List ℕ). text_of (m.said s) ++ (x ++ (10 ∷ rest))) (join-split 32 line)

  pub read_ok : (pieces : List (List ℕ)) (n : ℕ) (s t : S) → Good s → read_from m.next m.is_closed n s pieces ≡ Ok t → Good t × (m.is_closed t ≡ true) × (text_of (m.said s) ++ join_with_byte 10 pieces ≡ text_of (m.said t))
  unfolding read_from
  read_ok [] n s t good e = absurd cc
  read_ok (last ∷ []) n s t good e = last_ok last n s t (m.is_closed s) (eqb (length last) 0) refl refl good e
  read_ok (line ∷ other ∷ lines) n s t good e = go (read (m.next s) (split 32 line)) refl e (λ u. read_ok (other ∷ lines) (n + 1) u t)
    where
      go : (found : Option S) → read (m.next s) (split 32 line) ≡ found → or_fault n found (λ u. read_from m.next m.is_closed (n + 1) u (other ∷ lines)) ≡ Ok t
          → ((u : S) → Good u → read_from m.next m.is_closed (n + 1) u (other ∷ lines) ≡ Ok t → Good t × (m.is_closed t ≡ true) × (text_of (m.said u) ++ join_with_byte 10 (other ∷ lines) ≡ text_of (m.said t)))
          → Good t × (m.is_closed t ≡ true) × (text_of (m.said s) ++ join_with_byte 10 (line ∷ other ∷ lines) ≡ text_of (m.said t))
      go None is e later = absurd cc
      go (Some u) is e later =
          let p = m.says s u (split 32 line) good (spells_from_read (m.next s) (split 32 line) u (m.in_limits s) is) in
          let q = later u p.0 e in
          (q.0, q.1, sym (line_more s u line (join_with_byte 10 (other ∷ lines)) p.1) ∙ q.2)

  last_err : (last bytes : List ℕ) (n line : ℕ) (s : S) (closed empty : Bool) → m.is_closed s ≡ closed → eqb (length last) 0 ≡ empty → Good s → lacks 10 last ≡ true → bytes ≡ text_of (m.said s) ++ last → n ≡ length (m.said s) + 1
      → cond (closed && empty) (Ok s) (Err n) ≡ Err line → IsFaultLine Is bytes line
  last_err last bytes n line s true true closed empty good whole parts number e = absurd cc
  last_err last bytes n line s true false closed empty good whole parts number e = after_closed s last bytes line good closed (some_bytes last empty) parts (sym (err_same e) ∙ number)
  last_err last bytes n line s false empty still is good whole parts number e =
      let more = to_end s good in
      fault_below s last bytes line good parts (sym (err_same e) ∙ number) (stops more.0 whole more.1) (λ text. not_ended s last good still whole (subst Is parts text))

  line_err : (here rest bytes : List ℕ) (line : ℕ) (s : S) (closed : Bool) → m.is_closed s ≡ closed → Good s → lacks 10 here ≡ true → read (m.next s) (split 32 here) ≡ None → bytes ≡ text_of (m.said s) ++ (here ++ (10 ∷ rest)) → line ≡ length (m.said s) + 1 → IsFaultLine Is bytes line
  line_err here rest bytes line s true closed good whole none parts number = after_closed s (here ++ (10 ∷ rest)) bytes line good closed (line_bytes here rest) parts number
  line_err here rest bytes line s false still good whole none parts number =
      let more = to_end s good in
      fault_below s (here ++ (10 ∷ rest)) bytes line good parts number (not_there here rest more.0 refl whole more.1 (refused s here good whole none)) (λ text. refused s here good whole none rest (subst Is parts text))

  pub read_err : (pieces : List (List ℕ)) (n line : ℕ) (s : S) (bytes : List ℕ) → Good s → Lack 10 pieces → pieces ≢ [] → bytes ≡ text_of (m.said s) ++ join_with_byte 10 pieces → n ≡ length (m.said s) + 1 → read_from m.next m.is_closed n s pieces ≡ Err line → IsFaultLine Is bytes line
  unfolding read_from
  read_err [] n line s bytes good whole some parts number e = absurd (some refl)
  read_err (last ∷ []) n line s bytes good whole some parts number e = last_err last bytes n line s (m.is_closed s) (eqb (length last) 0) refl refl good whole.0 parts number e
  read_err (here ∷ other ∷ lines) n line s bytes good whole some parts number e = go (read (m.next s) (split 32 here)) refl e (λ u there. read_err (other ∷ lines) (n + 1) line u bytes there whole.1 (λ none. cc))
    where
      go : (found : Option S) → read (m.next s) (split 32 here) ≡ found → or_fault n found (λ u. read_from m.next m.is_closed (n + 1) u (other ∷ lines)) ≡ Err line
          → ((u : S) → Good u → bytes ≡ text_of (m.said u) ++ join_with_byte 10 (other ∷ lines) → n + 1 ≡ length (m.said u) + 1 → read_from m.next m.is_closed (n + 1) u (other ∷ lines) ≡ Err line → IsFaultLine Is bytes line)
          → IsFaultLine Is bytes line
      go None is e later = line_err here (join_with_byte 10 (other ∷ lines)) bytes line s (m.is_closed s) refl good whole.0 is parts (sym (err_same e) ∙ number)
      go (Some u) is e later =
          let p = m.says s u (split 32 here) good (spells_from_read (m.next s) (split 32 here) u (m.in_limits s) is) in
          later u p.0 (parts ∙ sym (line_more s u here (join_with_byte 10 (other ∷ lines)) p.1)) (ap (λ k. k + 1) (number ∙ sym (ap length p.1 ∙ length-append (m.said s) (split 32 here ∷ [])))) e

  -- ---- a whole text

  pub text_from_ok : (bytes : List ℕ) (t : S) → read_from m.next m.is_closed 1 m.start (split 10 bytes) ≡ Ok t → Good t × (m.is_closed t ≡ true) × (bytes ≡ text_of (m.said t))
  text_from_ok bytes t e =
      let p = read_ok (split 10 bytes) 1 m.start t m.begins e in
      (p.0, p.1, sym (join-split 10 bytes) ∙ sym (ap (λ (lines : List (List (List ℕ))). text_of lines ++ join_with_byte 10 (split 10 bytes)) m.none_said) ∙ p.2)

  pub fault_from_err : (bytes : List ℕ) (line : ℕ) → read_from m.next m.is_closed 1 m.start (split 10 bytes) ≡ Err line → IsFaultLine Is bytes line
  fault_from_err bytes line e =
      read_err (split 10 bytes) 1 line m.start bytes m.begins (split-lacks 10 bytes) (split-none 10 bytes)
      (sym (join-split 10 bytes) ∙ sym (ap (λ (lines : List (List (List ℕ))). text_of lines ++ join_with_byte 10 (split 10 bytes)) m.none_said)) (ap (λ (lines : List (List (List ℕ))). length lines + 1) (sym m.none_said)) e

  -- ---- what a reader answers

  pub ok_from_found : {X : Type 0} (closed : X → S) (bytes : List ℕ) (answer : Result X TextStop) → Found closed answer (read_from m.next m.is_closed 1 m.start (split 10 bytes))
      → IfOk answer (λ x. Good (closed x) × (bytes ≡ text_of (m.said (closed x))))
  ok_from_found closed bytes (Ok x) found = let p = text_from_ok bytes (closed x) found in (p.0, p.2)
  ok_from_found closed bytes (Err stop) found = tt

  pub fault_from_found : {X : Type 0} (closed : X → S) (bytes : List ℕ) (answer : Result X TextStop) → Found closed answer (read_from m.next m.is_closed 1 m.start (split 10 bytes))
      → AtFault (IsFaultLine Is bytes) answer
  fault_from_found closed bytes (Ok x) found = tt
  fault_from_found closed bytes (Err Memory) found = tt
  fault_from_found closed bytes (Err (Fault line)) found = fault_from_err bytes line found
