-- A ledger text is read line by line: what it owes for the laws of texts.
use Rattle.std.proofs.Common.{◌≡◌, ℕ, ◌+◌, ◌<◌, ◌≤◌, Bool, true, false, cond, ◌&&◌, eqb, ltb, List, [], ◌∷◌, ◌++◌, length, map, decimal, codes, Ok, Err, refl, sym, ap, subst, ◌∙◌, inl, inr, arith, lit<, lit≤, append_assoc}
use Rattle.std.specs.Prelude.{All, Result, IfOk}
use Rattle.std.proofs.lemmas.Bool.{lt-ltb, and_parts}
use Rattle.std.proofs.lemmas.Bool.Decides.{nat_tests}
use Rattle.std.proofs.lemmas.List.{append-nil, map-append, length_push}
use Rattle.std.proofs.lemmas.List.Elements.{All-nil, All-push, All-head, All-tail, All-from_recursion, recursion_from_All}
use Rattle.ct_vectors.specs.declared.limits.TheConstants.{GRADE_LIMIT, MOVE_LIMIT}
use Rattle.ct_instance.specs.declared.jobs.Job.{Job}
use Rattle.ct_instance.specs.declared.jobs.Job.TheVariants.{Generator, Pair}
use Rattle.ct_lines.specs.Texts.{text_of, IsStep, step_word, walk_words, end_words}
use Rattle.ct_lines.specs.Reading.{is_next, step_of}
use Rattle.ct_lines.specs.Wording.{Wording, barred, Spells, Runs, read_from}
use Rattle.ct_lines.specs.FaultLine.{IsFaultLine}
use Rattle.ct_lines.specs.declared.stop.TextStop.{TextStop}
use Rattle.ct_lines.specs.Stops.{AtFault, Found}
use Rattle.ct_text.specs.Pieces.{split}
use Rattle.ct_lines.proofs.TextLines.{IsSpelled, AreSpelled}
use Rattle.ct_lines.proofs.Spelling.{Fits, fits_if, spells_if, no_step_word}
use Rattle.ct_lines.proofs.LineWords.{AreWords, words_append, word_decimal, words_numbers, words_walk, spelled_line, spelled_append}
use Rattle.ct_lines.proofs.Machines.{Machine, Runs-append, one_value, ok_from_found, fault_from_found}
use Rattle.ct_ledger.specs.declared.entries.LedgerEntry.{LedgerEntry}
use Rattle.ct_ledger.specs.declared.entries.LedgerEntry.TheVariants.{Coprime, Walks}
use Rattle.ct_ledger.specs.declared.stage.Stage.{Stage}
use Rattle.ct_ledger.specs.declared.stage.Stage.TheVariants.{Title, Size, Grade, Body, Closed}
use Rattle.ct_ledger.specs.Parts.{LedgerParts, IsLedgerPair, AreSteps, HasNumbers, IsEntry, IsLedger}
use Rattle.ct_ledger.specs.LedgerText.{title_words, size_words, grade_words, move_words, job_words, entry_words, head_lines, body_lines, ledger_lines, ledger_text, IsLedgerText}
use Rattle.ct_ledger.specs.Grammar.{with_move, with_entry, may_move, move_line, walks_line, pair_line, body_line, next_line, is_closed, HasSize}

-- the lines that were read so far
abbrev said : Stage → List (List (List ℕ))
said Title = []
said Size = title_words ∷ []
said (Grade rows columns) = title_words ∷ size_words rows columns ∷ []
said (Body l) = body_lines l
said (Closed l) = ledger_lines l

abbrev pub Good : Stage → Type 0
Good Title = Unit {0}
Good Size = Unit {0}
Good (Grade rows columns) = HasSize (Grade rows columns)
Good (Body l) = IsLedger l
Good (Closed l) = IsLedger l

-- ---- the limits of numbers fit

in_limits : (s : Stage) → Fits (next_line s)
unfolding move_line walks_line pair_line body_line
in_limits Title = tt
in_limits Size = (lit< tt, λ rows. (lit< tt, λ columns. tt))
in_limits (Grade rows columns) = (lit< tt, λ grade. tt)
in_limits (Body l) = (
  fits_if (may_move l) (move_line l) (lit< tt, λ head. (lit< tt, λ tail. tt)),
  (
    (lit< tt, λ j. λ first. λ second. tt),
    ((lit< tt, λ a. (lit< tt, λ b. (tt, λ first. λ second. tt))), tt),
  ),
)
in_limits (Closed l) = tt

-- ---- one line more

abbrev empty_ledger : ℕ → ℕ → ℕ → LedgerParts
empty_ledger rows columns grade = record { rows = rows; columns = columns; grade = grade; moves = []; entries = [] }

empty_is_ledger : (rows columns grade : ℕ) → HasSize (Grade rows columns) → grade ≤ GRADE_LIMIT → IsLedger (empty_ledger rows columns grade)
empty_is_ledger rows columns grade size limit = record {
  some_row = size.0;
  row_limit = size.1;
  some_column = size.2;
  column_limit = size.3;
  grade_limit = limit;
  most = lit≤ tt;
  moves = All-nil (IsLedgerPair columns rows);
  entries = All-nil IsEntry;
}

add_entry : (l : LedgerParts) (entry : LedgerEntry) → IsLedger l → IsEntry entry → IsLedger (with_entry l entry)
add_entry l entry h e = record {
  some_row = h.some_row;
  row_limit = h.row_limit;
  some_column = h.some_column;
  column_limit = h.column_limit;
  grade_limit = h.grade_limit;
  most = h.most;
  moves = h.moves;
  entries = All-push IsEntry l.entries entry h.entries e;
}

add_move : (l : LedgerParts) (head tail : List ℕ) → IsLedger l → length l.moves < MOVE_LIMIT → IsLedgerPair l.columns l.rows (head, tail) → IsLedger (with_move l head tail)
add_move l head tail h room m = record {
  some_row = h.some_row;
  row_limit = h.row_limit;
  some_column = h.some_column;
  column_limit = h.column_limit;
  grade_limit = h.grade_limit;
  most = omega (arith, length_push l.moves (head, tail));
  moves = All-push (IsLedgerPair l.columns l.rows) l.moves (head, tail) h.moves m;
  entries = h.entries;
}

said_entry : (l : LedgerParts) (entry : LedgerEntry) → body_lines (with_entry l entry) ≡ body_lines l ++ entry_words entry ∷ []
said_entry l entry = rw (map-append entry_words l.entries (entry ∷ [])) (ap (λ (rest : List (List (List ℕ))). head_lines l ++ rest) (sym (append_assoc (map move_words l.moves) (map entry_words l.entries) (entry_words entry ∷ []))))

push_between : (front lines : List (List (List ℕ))) (words : List (List ℕ)) → front ++ ((lines ++ words ∷ []) ++ []) ≡ (front ++ (lines ++ [])) ++ words ∷ []
push_between front lines words = rw (append-nil (lines ++ words ∷ []), append-nil lines) (sym (append_assoc front lines (words ∷ [])))

said_move : (l : LedgerParts) (head tail : List ℕ) → l.entries ≡ [] → body_lines (with_move l head tail) ≡ body_lines l ++ move_words (head, tail) ∷ []
said_move l head tail none = rw (none, map-append move_words l.moves ((head, tail) ∷ [])) (push_between (head_lines l) (map move_words l.moves) (move_words (head, tail)))

may_parts : (l : LedgerParts) → may_move l ≡ true → (l.entries ≡ []) × (length l.moves < MOVE_LIMIT)
may_parts l e =
    let p = and_parts (eqb (length l.entries) 0) (ltb (length l.moves) MOVE_LIMIT) e in
    (none l.entries p.0, grind (arith, nat_tests))
  where
    none : (es : List LedgerEntry) → eqb (length es) 0 ≡ true → es ≡ []
    none [] e = refl
    none (x ∷ es) e = absurd (grind (arith, nat_tests))

is_walk : (first second : List (ℕ × ℕ)) (rest r1 r2 r3 : List (List ℕ)) → rest ≡ walk_words first ++ r1 → r1 ≡ codes "|" ∷ r2 → r2 ≡ walk_words second ++ r3 → r3 ≡ [] → rest ≡ walk_words first ++ (codes "|" ∷ walk_words second)
is_walk first second rest r1 r2 r3 is1 is2 is3 none = rw (is1, is2, is3, none, append-nil) refl

is_move : (head tail : List ℕ) (rest r1 r2 r3 : List (List ℕ)) → rest ≡ map decimal head ++ r1 → r1 ≡ codes "to" ∷ r2 → r2 ≡ map decimal tail ++ r3 → r3 ≡ [] → rest ≡ map decimal head ++ (codes "to" ∷ map decimal tail)
is_move head tail rest r1 r2 r3 is1 is2 is3 none = rw (is1, is2, is3, none, append-nil) refl

says_walks : (l : LedgerParts) (job : Job) (t : Stage) (words rest : List (List ℕ)) → IsLedger l → HasNumbers job → words ≡ job_words job rest → Spells (walks_line l job) rest t → Good t × (said t ≡ body_lines l ++ words ∷ [])
unfolding walks_line
says_walks l job t words rest h numbered is (first, r1, is1, all1, ends1, (r2, is2, (second, r3, is3, all2, ends2, (none, same)))) =
    let entry = Walks job first second in
    let whole : words ≡ entry_words entry = is ∙ ap (job_words job) (is_walk first second rest r1 r2 r3 is1 is2 is3 none) in
    let e : IsEntry entry = (numbered, All-from_recursion IsStep first all1, All-from_recursion IsStep second all2) in
    rw (← same) (add_entry l entry h e, said_entry l entry ∙ ap (λ (ws : List (List ℕ)). body_lines l ++ ws ∷ []) (sym whole))

says_pair : (l : LedgerParts) (t : Stage) (words rest : List (List ℕ)) → IsLedger l → words ≡ codes "pair" ∷ rest → Spells (pair_line l) rest t → Good t × (said t ≡ body_lines l ++ words ∷ [])
unfolding pair_line
says_pair l t words rest h is (a, r1, is1, low1, high1, (b, r2, is2, low2, high2, inl (r3, is3, (none, same)))) =
    let entry = Coprime (Pair a b) in
    let whole : words ≡ entry_words entry = rw (is, is1, is2, is3, none) refl in
    rw (← same) (add_entry l entry h (tt, ((low1, high1), (low2, high2))), said_entry l entry ∙ ap (λ (ws : List (List ℕ)). body_lines l ++ ws ∷ []) (sym whole))
says_pair l t words rest h is (a, r1, is1, low1, high1, (b, r2, is2, low2, high2, inr (other, walks))) =
    says_walks l (Pair a b) t words r2 h ((low1, high1), (low2, high2)) (rw (is, is1, is2) refl) walks

says_move : (l : LedgerParts) (t : Stage) (words rest : List (List ℕ)) → IsLedger l → may_move l ≡ true → words ≡ codes "move" ∷ rest → Spells (move_line l) rest t → Good t × (said t ≡ body_lines l ++ words ∷ [])
unfolding move_line
says_move l t words rest h may is (head, r1, is1, len1, all1, (r2, is2, (tail, r3, is3, len2, all2, (none, same)))) =
    let p = may_parts l may in
    let m : IsLedgerPair l.columns l.rows (head, tail) = record {
      head = record { numbers = len1; limit = All-from_recursion (λ n. n ≤ GRADE_LIMIT) head all1 };
      tail = record { numbers = len2; limit = All-from_recursion (λ n. n ≤ GRADE_LIMIT) tail all2 };
    } in
    let whole : words ≡ move_words (head, tail) = is ∙ ap (λ (ws : List (List ℕ)). codes "move" ∷ ws) (is_move head tail rest r1 r2 r3 is1 is2 is3 none) in
    rw (← same) (add_move l head tail h p.1 m, said_move l head tail p.0 ∙ ap (λ (ws : List (List ℕ)). body_lines l ++ ws ∷ []) (sym whole))

says_if_move : (l : LedgerParts) (t : Stage) (words rest : List (List ℕ)) (may : Bool) → may_move l ≡ may → IsLedger l → words ≡ codes "move" ∷ rest → Spells (cond may (move_line l) barred) rest t → Good t × (said t ≡ body_lines l ++ words ∷ [])
says_if_move l t words rest true may h is spells = says_move l t words rest h may is spells
says_if_move l t words rest false may h is spells = absurd spells

says_body : (l : LedgerParts) (t : Stage) (words : List (List ℕ)) → IsLedger l → Spells (body_line l) words t → Good t × (said t ≡ body_lines l ++ words ∷ [])
unfolding body_line
says_body l t words h (inl (rest, is, spells)) = says_if_move l t words rest (may_move l) refl h is spells
says_body l t words h (inr (no1, inl (rest, is, (j, r1, is1, low, high, walks)))) = says_walks l (Generator j) t words r1 h (low, high) (rw (is, is1) refl) walks
says_body l t words h (inr (no1, inr (no2, inl (rest, is, spells)))) = says_pair l t words rest h is spells
says_body l t words h (inr (no1, inr (no2, inr (no3, (rest, is, (none, same)))))) = rw (← same, is, none) (h, refl)

says : (s t : Stage) (words : List (List ℕ)) → Good s → Spells (next_line s) words t → Good t × (said t ≡ said s ++ words ∷ [])
says Title t words good (r1, is1, (r2, is2, (none, same))) = rw (← same, is1, is2, none) (tt, refl)
says Size t words good (r1, is1, (rows, r2, is2, low1, high1, (columns, r3, is3, low2, high2, (none, same)))) = rw (← same, is1, is2, is3, none) ((low1, high1, low2, high2), refl)
says (Grade rows columns) t words good (r1, is1, (grade, r2, is2, low, high, (none, same))) = rw (← same, is1, is2, none) (empty_is_ledger rows columns grade good high, refl)
says (Body l) t words good spells = says_body l t words good spells
says (Closed l) t words good spells = absurd spells

-- ---- the lines of a value lead to it

spells_title : Spells (next_line Title) title_words Size
spells_title = (codes "1" ∷ [], refl, ([], refl, (refl, refl)))

spells_size : (rows columns : ℕ) → HasSize (Grade rows columns) → Spells (next_line Size) (size_words rows columns) (Grade rows columns)
spells_size rows columns h = (decimal rows ∷ decimal columns ∷ [], refl, (rows, decimal columns ∷ [], refl, h.0, h.1, (columns, [], refl, h.2, h.3, (refl, refl))))

spells_grade : (rows columns grade : ℕ) → grade ≤ GRADE_LIMIT → Spells (next_line (Grade rows columns)) (grade_words grade) (Body (empty_ledger rows columns grade))
spells_grade rows columns grade h = (decimal grade ∷ [], refl, (grade, [], refl, omega arith, h, (refl, refl)))

spells_move : (l : LedgerParts) (m : List ℕ × List ℕ) → may_move l ≡ true → IsLedgerPair l.columns l.rows m → Spells (body_line l) (move_words m) (Body (with_move l m.0 m.1))
unfolding body_line move_line
spells_move l m may h =
    let rest = map decimal m.0 ++ (codes "to" ∷ map decimal m.1) in
    let heads = recursion_from_All (λ n. n ≤ GRADE_LIMIT) m.0 h.head.limit in
    let tails = recursion_from_All (λ n. n ≤ GRADE_LIMIT) m.1 h.tail.limit in
    inl (
      rest,
      refl,
      spells_if (may_move l) (move_line l) rest (Body (with_move l m.0 m.1)) may
          (m.0, codes "to" ∷ map decimal m.1, refl, h.head.numbers, heads, (map decimal m.1, refl, (m.1, [], sym (append-nil (map decimal m.1)), h.tail.numbers, tails, (refl, refl)))),
    )

spells_walks : (l : LedgerParts) (job : Job) (first second : List (ℕ × ℕ)) → AreSteps first → AreSteps second → Spells (walks_line l job) (walk_words first ++ (codes "|" ∷ walk_words second)) (Body (with_entry l (Walks job first second)))
unfolding walks_line step_of
spells_walks l job first second h k =
    (first, codes "|" ∷ walk_words second, refl, recursion_from_All IsStep first h, inr refl, (walk_words second, refl, (second, [], sym (append-nil (walk_words second)), recursion_from_All IsStep second k, inr refl, (refl, refl))))

no_coprime : (steps : List (ℕ × ℕ)) (rest : List (List ℕ)) → AreSteps steps → is_next (codes "coprime") (walk_words steps ++ rest) ≡ false
no_coprime [] rest h = refl
no_coprime (step ∷ steps) rest h = no_step_word 99 (codes "oprime") step (map step_word steps ++ rest) (inl (lit< tt)) (All-head IsStep step steps h)

spells_entry : (l : LedgerParts) (entry : LedgerEntry) → IsEntry entry → Spells (body_line l) (entry_words entry) (Body (with_entry l entry))
unfolding body_line pair_line
spells_entry l (Coprime (Generator j)) h = absurd h.0
spells_entry l (Coprime (Pair a b)) h =
    let rest = codes "coprime" ∷ [] in
    inr (refl, inr (refl, inl (decimal a ∷ decimal b ∷ rest, refl, (a, decimal b ∷ rest, refl, h.1.0.0, h.1.0.1, (b, rest, refl, h.1.1.0, h.1.1.1, inl ([], refl, (refl, refl)))))))
spells_entry l (Walks (Generator j) first second) h =
    let rest = walk_words first ++ (codes "|" ∷ walk_words second) in
    inr (refl, inl (decimal j ∷ rest, refl, (j, rest, refl, h.0.0, h.0.1, spells_walks l (Generator j) first second h.1 h.2)))
spells_entry l (Walks (Pair a b) first second) h =
    let rest = walk_words first ++ (codes "|" ∷ walk_words second) in
    inr (refl, inr (refl, inl (decimal a ∷ decimal b ∷ rest, refl, (a, decimal b ∷ rest, refl, h.0.0.0, h.0.0.1, (b, rest, refl, h.0.1.0, h.0.1.1, inr (no_coprime first (codes "|" ∷ walk_words second) h.1, spells_walks l (Pair a b) first second h.1 h.2))))))

spells_end : (l : LedgerParts) → Spells (body_line l) end_words (Closed l)
unfolding body_line
spells_end l = inr (refl, inr (refl, inr (refl, ([], refl, (refl, refl)))))

may_with_room : (l : LedgerParts) → l.entries ≡ [] → length l.moves < MOVE_LIMIT → may_move l ≡ true
may_with_room l none room = rw none (lt-ltb (length l.moves) MOVE_LIMIT room)

runs_moves : (l : LedgerParts) (front rest : List (List ℕ × List ℕ)) → length front + length rest ≤ MOVE_LIMIT → All (IsLedgerPair l.columns l.rows) rest
    → Runs next_line (Body (record l { moves = front; entries = [] })) (map move_words rest) (Body (record l { moves = front ++ rest; entries = [] }))
runs_moves l front [] room h = ap (λ (ms : List (List ℕ × List ℕ)). Body (record l { moves = ms; entries = [] })) (sym (append-nil front))
runs_moves l front (m ∷ rest) room h =
    let now : LedgerParts = record l { moves = front; entries = [] } in
    let later = runs_moves l (front ++ m ∷ []) rest (omega (arith, length_push front m)) (All-tail (IsLedgerPair l.columns l.rows) m rest h) in (
      Body (record l { moves = front ++ m ∷ []; entries = [] }),
      spells_move now m (may_with_room now refl (omega arith)) (All-head (IsLedgerPair l.columns l.rows) m rest h),
      subst (λ (ms : List (List ℕ × List ℕ)). Runs next_line (Body (record l { moves = front ++ m ∷ []; entries = [] })) (map move_words rest) (Body (record l { moves = ms; entries = [] }))) (append_assoc front (m ∷ []) rest) later,
    )

runs_entries : (l : LedgerParts) (front rest : List LedgerEntry) → All IsEntry rest → Runs next_line (Body (record l { entries = front })) (map entry_words rest) (Body (record l { entries = front ++ rest }))
runs_entries l front [] h = ap (λ (es : List LedgerEntry). Body (record l { entries = es })) (sym (append-nil front))
runs_entries l front (entry ∷ rest) h =
    let later = runs_entries l (front ++ entry ∷ []) rest (All-tail IsEntry entry rest h) in (
      Body (record l { entries = front ++ entry ∷ [] }),
      spells_entry (record l { entries = front }) entry (All-head IsEntry entry rest h),
      subst (λ (es : List LedgerEntry). Runs next_line (Body (record l { entries = front ++ entry ∷ [] })) (map entry_words rest) (Body (record l { entries = es }))) (append_assoc front (entry ∷ []) rest) later,
    )

runs_body : (l : LedgerParts) → IsLedger l → Runs next_line Title (body_lines l) (Body l)
runs_body l h =
    let size : HasSize (Grade l.rows l.columns) = (h.some_row, h.row_limit, h.some_column, h.column_limit) in
    let none : LedgerParts = empty_ledger l.rows l.columns l.grade in
    let moved : LedgerParts = record l { entries = [] } in
    Runs-append next_line Title (Body none) (Body l) (head_lines l) (map move_words l.moves ++ map entry_words l.entries)
    (Size, spells_title, (Grade l.rows l.columns, spells_size l.rows l.columns size, (Body none, spells_grade l.rows l.columns l.grade h.grade_limit, refl)))
    (Runs-append next_line (Body none) (Body moved) (Body l) (map move_words l.moves) (map entry_words l.entries) (runs_moves l [] l.moves (omega (arith, h.most)) h.moves) (runs_entries l [] l.entries h.entries))

reached : (s : Stage) → Good s → Runs next_line Title (said s) s
reached Title good = refl
reached Size good = (Size, spells_title, refl)
reached (Grade rows columns) good = (Size, spells_title, (Grade rows columns, spells_size rows columns good, refl))
reached (Body l) good = runs_body l good
reached (Closed l) good = Runs-append next_line Title (Body l) (Closed l) (body_lines l) (end_words ∷ []) (runs_body l good) (Closed l, spells_end l, refl)

-- ---- no space and no LF stands in a word

spelled_title : IsSpelled title_words
spelled_title = spelled_line (codes "ledger") (codes "1" ∷ []) ((refl, refl), ((refl, refl), tt))

spelled_size : (rows columns : ℕ) → HasSize (Grade rows columns) → IsSpelled (size_words rows columns)
spelled_size rows columns h = spelled_line (codes "size") (decimal rows ∷ decimal columns ∷ []) ((refl, refl), (word_decimal rows (omega (arith, h.1)), (word_decimal columns (omega (arith, h.3)), tt)))

spelled_grade : (grade : ℕ) → grade ≤ GRADE_LIMIT → IsSpelled (grade_words grade)
spelled_grade grade h = spelled_line (codes "grade") (decimal grade ∷ []) ((refl, refl), (word_decimal grade (omega arith), tt))

spelled_move : (columns rows : ℕ) (m : List ℕ × List ℕ) → IsLedgerPair columns rows m → IsSpelled (move_words m)
spelled_move columns rows m h =
    let heads = words_numbers GRADE_LIMIT m.0 (lit< tt) (recursion_from_All (λ n. n ≤ GRADE_LIMIT) m.0 h.head.limit) in
    let tails = words_numbers GRADE_LIMIT m.1 (lit< tt) (recursion_from_All (λ n. n ≤ GRADE_LIMIT) m.1 h.tail.limit) in
    spelled_line (codes "move") (map decimal m.0 ++ (codes "to" ∷ map decimal m.1)) ((refl, refl), words_append (map decimal m.0) (codes "to" ∷ map decimal m.1) heads ((refl, refl), tails))

spelled_job : (job : Job) (rest : List (List ℕ)) → HasNumbers job → AreWords rest → IsSpelled (job_words job rest)
spelled_job (Generator j) rest h k = spelled_line (codes "generator") (decimal j ∷ rest) ((refl, refl), (word_decimal j (omega (arith, h.1)), k))
spelled_job (Pair a b) rest h k = spelled_line (codes "pair") (decimal a ∷ decimal b ∷ rest) ((refl, refl), (word_decimal a (omega (arith, h.0.1)), (word_decimal b (omega (arith, h.1.1)), k)))

spelled_entry : (entry : LedgerEntry) → IsEntry entry → IsSpelled (entry_words entry)
spelled_entry (Coprime job) h = spelled_job job (codes "coprime" ∷ []) h.1 ((refl, refl), tt)
spelled_entry (Walks job first second) h =
    spelled_job job (walk_words first ++ (codes "|" ∷ walk_words second)) h.0
    (words_append (walk_words first) (codes "|" ∷ walk_words second) (words_walk first (recursion_from_All IsStep first h.1)) ((refl, refl), words_walk second (recursion_from_All IsStep second h.2)))

spelled_moves : (columns rows : ℕ) (moves : List (List ℕ × List ℕ)) → All (IsLedgerPair columns rows) moves → AreSpelled (map move_words moves)
spelled_moves columns rows [] h = tt
spelled_moves columns rows (m ∷ moves) h = (spelled_move columns rows m (All-head (IsLedgerPair columns rows) m moves h), spelled_moves columns rows moves (All-tail (IsLedgerPair columns rows) m moves h))

spelled_entries : (entries : List LedgerEntry) → All IsEntry entries → AreSpelled (map entry_words entries)
spelled_entries [] h = tt
spelled_entries (entry ∷ entries) h = (spelled_entry entry (All-head IsEntry entry entries h), spelled_entries entries (All-tail IsEntry entry entries h))

spelled_body : (l : LedgerParts) → IsLedger l → AreSpelled (body_lines l)
spelled_body l h = (
  spelled_title,
  (
    spelled_size l.rows l.columns (h.some_row, h.row_limit, h.some_column, h.column_limit),
    (
      spelled_grade l.grade h.grade_limit,
      spelled_append (map move_words l.moves) (map entry_words l.entries) (spelled_moves l.columns l.rows l.moves h.moves) (spelled_entries l.entries h.entries),
    ),
  ),
)

are_spelled : (s : Stage) → Good s → AreSpelled (said s)
are_spelled Title good = tt
are_spelled Size good = (spelled_title, tt)
are_spelled (Grade rows columns) good = (spelled_title, (spelled_size rows columns good, tt))
are_spelled (Body l) good = spelled_body l good
are_spelled (Closed l) good = spelled_append (body_lines l) (end_words ∷ []) (spelled_body l good) (spelled_line (codes "end") [] ((refl, refl), tt), tt)

-- ---- the end

ends : (s t : Stage) (words : List (List ℕ)) → is_closed s ≡ true → Spells (next_line s) words t → ⊥
ends Title t words closed h = cc
ends Size t words closed h = cc
ends (Grade rows columns) t words closed h = cc
ends (Body l) t words closed h = cc
ends (Closed l) t words closed h = h

least_size : HasSize (Grade 1 1)
least_size = (lit≤ tt, lit≤ tt, lit≤ tt, lit≤ tt)

goes_on : (s : Stage) → Good s → (t : Stage) × (more : List (List (List ℕ))) × Good t × (is_closed t ≡ true) × (said t ≡ said s ++ more)
goes_on Title good = (Closed (empty_ledger 1 1 0), ledger_lines (empty_ledger 1 1 0), empty_is_ledger 1 1 0 least_size (lit≤ tt), refl, refl)
goes_on Size good = (Closed (empty_ledger 1 1 0), size_words 1 1 ∷ grade_words 0 ∷ end_words ∷ [], empty_is_ledger 1 1 0 least_size (lit≤ tt), refl, refl)
goes_on (Grade rows columns) good = (Closed (empty_ledger rows columns 0), grade_words 0 ∷ end_words ∷ [], empty_is_ledger rows columns 0 good (lit≤ tt), refl, refl)
goes_on (Body l) good = (Closed l, end_words ∷ [], good, refl, refl)
goes_on (Closed l) good = (Closed l, [], good, refl, sym (append-nil (ledger_lines l)))

fits : (s : Stage) → Good s → is_closed s ≡ true → IsLedgerText (text_of (said s))
unfolding ledger_text
fits Title good closed = absurd cc
fits Size good closed = absurd cc
fits (Grade rows columns) good closed = absurd cc
fits (Body l) good closed = absurd cc
fits (Closed l) good closed = (l, good, refl)

some : (text : List ℕ) → IsLedgerText text → (s : Stage) × Good s × (is_closed s ≡ true) × (text ≡ text_of (said s))
unfolding ledger_text
some text (l, good, is) = (Closed l, good, refl, is)

pub ledger_machine : Machine Stage Good IsLedgerText
ledger_machine = record {
  start = Title;
  next = next_line;
  is_closed = is_closed;
  said = said;
  begins = tt;
  none_said = refl;
  in_limits = in_limits;
  says = says;
  are_spelled = are_spelled;
  reached = reached;
  ends = ends;
  goes_on = goes_on;
  fits = fits;
  some = some;
}

-- ---- the laws for ledgers

pub one_ledger : (k l : LedgerParts) → IsLedger k → IsLedger l → ledger_text k ≡ ledger_text l → k ≡ l
unfolding ledger_text ledger_machine
one_ledger k l good there is = same (one_value ledger_machine (Closed k) (Closed l) good there refl is)
  where
    same : {k l : LedgerParts} → Closed k ≡ Closed l → k ≡ l
    same e = cc

pub ledger_from_found : (bytes : List ℕ) (answer : Result LedgerParts TextStop) → Found Closed answer (read_from next_line is_closed 1 Title (split 10 bytes)) → IfOk answer (λ l. IsLedger l × (bytes ≡ ledger_text l))
unfolding ledger_machine ledger_text
ledger_from_found bytes answer found = ok_from_found ledger_machine Closed bytes answer found

pub ledger_fault : (bytes : List ℕ) (answer : Result LedgerParts TextStop) → Found Closed answer (read_from next_line is_closed 1 Title (split 10 bytes)) → AtFault (IsFaultLine IsLedgerText bytes) answer
unfolding ledger_machine
ledger_fault bytes answer found = fault_from_found ledger_machine Closed bytes answer found
