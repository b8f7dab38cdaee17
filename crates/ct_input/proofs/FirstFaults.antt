-- The first fault of a text whose places can each be filled.
use Rattle.std.proofs.Common.{◌≡◌, ℕ, Bool, true, false, cond, List, [], ◌∷◌, ◌++◌, Result, Ok, Err, ℤ, refl, sym, ap, subst, ◌∙◌, inl, inr, leb}
use Rattle.std.specs.Prelude.{is_ok}
use Rattle.std.specs.List.{AllByRecursion}
use Rattle.std.specs.Str.{bytes_eq}
use Rattle.std.proofs.lemmas.Bool.{cases_Bool}
use Rattle.ct_text.specs.declared.place.Place.{Place}
use Rattle.ct_text.specs.Tokens.{Lexeme}
use Rattle.ct_text.specs.Numbers.{is_natural, natural_of, signed_of}
use Rattle.ct_text.specs.declared.number.NumberFault.TheVariants.{Spelling, Over}
use Rattle.ct_text.specs.declared.number.NumberFault.{NumberFault}
use Rattle.ct_input.specs.declared.fault.Fault.{Fault}
use Rattle.ct_input.specs.declared.fault.TextReason.{TextReason}
use Rattle.ct_input.specs.declared.fault.TextReason.TheVariants.{End, Word, Number, Limit, ZeroColumn, Extra}
use Rattle.ct_input.specs.Sheet.{Sheet, ◌>>=◌, fault_next, fault_at}
use Rattle.ct_input.specs.Grammar.{Grammar, done, nothing, word, number, signed, fork, barred, only, read, token_at, word_in, number_in, number_fault, signed_in, only_in, is_next}
use Rattle.ct_input.specs.FirstFault.{IsSpelling, Accepts, IsFirstFault}
use Rattle.ct_input.proofs.Filling.{sheet, fill, Fills, Closes, needs_token, true_is_not_false, filled, fill_spelled}

-- what is proved of each grammar in turn
record First {A : Type 0} (g : Grammar A) (tokens : List Lexeme) (end : Place) (fault : Fault) : Type 0 where
  before : List Lexeme
  rest : List Lexeme
  reason : TextReason
  whole : tokens ≡ before ++ rest
  place : fault ≡ fault_next reason (sheet rest end)
  more : List Lexeme
  are_spellings : AllByRecursion IsSpelling more
  fills : before ≡ [] → more ≡ fill g
  goes_on : Accepts g (before ++ more)
  refused : (token : Lexeme) (others later : List Lexeme) (other : Place) → rest ≡ token ∷ others → is_ok (read g (sheet (before ++ token ∷ later) other)) ≡ false
  is_end : rest ≡ [] → reason ≡ End
  has_end : reason ≡ End → rest ≡ []
  is_extra : reason ≡ Extra → Accepts g before
  has_extra : Closes g → Accepts g before → reason ≡ Extra

abbrev Faults : {A : Type 0} → Grammar A → Type 0
Faults {A} g = (tokens : List Lexeme) (end : Place) (fault : Fault) → read g (sheet tokens end) ≡ Err fault → First g tokens end fault

-- the fault is at the first token that is left
here : {A : Type 0} (filling : Bool) (after : List ℕ) (g : Grammar A) → Fills filling after g → (tokens : List Lexeme) (end : Place) (fault : Fault) (reason : TextReason) → fault ≡ fault_next reason (sheet tokens end)
    → ((token : Lexeme) (others later : List Lexeme) (other : Place) → tokens ≡ token ∷ others → is_ok (read g (sheet (token ∷ later) other)) ≡ false)
    → (tokens ≡ [] → reason ≡ End) → (reason ≡ End → tokens ≡ []) → (reason ≡ Extra → Accepts g []) → (Closes g → Accepts g [] → reason ≡ Extra) → First g tokens end fault
here filling after g fills tokens end fault reason place refused is_end has_end is_extra has_extra = record {
  before = [];
  rest = tokens;
  reason = reason;
  whole = refl;
  place = place;
  more = fill g;
  are_spellings = fill_spelled filling after g fills;
  fills = λ _. refl;
  goes_on = filled filling after g fills;
  refused = refused;
  is_end = is_end;
  has_end = has_end;
  is_extra = is_extra;
  has_extra = has_extra;
}

-- a reason that a token has by itself
pub data IsOfToken : TextReason → Type 0 where
  of_word : IsOfToken Word
  of_number : IsOfToken Number
  of_limit : IsOfToken Limit

not_end : (reason : TextReason) → IsOfToken reason → reason ≡ End → ⊥
not_end End h e = elim h [ ]
not_end ZeroColumn h e = elim h [ ]
not_end Extra h e = elim h [ ]
not_end Word of_word e = cc
not_end Number of_number e = cc
not_end Limit of_limit e = cc

not_extra : (reason : TextReason) → IsOfToken reason → reason ≡ Extra → ⊥
not_extra End h e = elim h [ ]
not_extra ZeroColumn h e = elim h [ ]
not_extra Extra h e = elim h [ ]
not_extra Word of_word e = cc
not_extra Number of_number e = cc
not_extra Limit of_limit e = cc

head_is : (a b : Lexeme) (xs ys : List Lexeme) → a ∷ xs ≡ b ∷ ys → a ≡ b
head_is a b xs ys e = cc

err_is : {X : Type 0} (f g : Fault) (r : Result X Fault) → r ≡ Err f → r ≡ Err g → f ≡ g
err_is f g r a b = cc

abbrev good : {X : Type 0} → X → Result X Fault
good x = Ok x

no_ok : {X : Type 0} (x : X) (f : Fault) → good x ≡ Err f → ⊥
no_ok x f e = cc

-- a token that is read by itself, and what follows it
module _ {A X : Type 0} (filling : Bool) (after : List ℕ) (g : Grammar A) (fills : Fills filling after g) (reading : Lexeme → Result X Fault) (next : X → Grammar A)
    (reads : (s : Sheet) → read g s ≡ (token_at reading s >>= λ x. read (next x.0) x.1))
    (faults : (token : Lexeme) (f : Fault) → reading token ≡ Err f → (reason : TextReason) × (f ≡ fault_at token.place reason) × IsOfToken reason) (others_first : (x : X) → Faults (next x)) (closed : Closes g → (x : X) → Closes (next x)) where
  refuses : (token : Lexeme) (later : List Lexeme) (other : Place) (f : Fault) → reading token ≡ Err f → is_ok (read g (sheet (token ∷ later) other)) ≡ false
  refuses token later other f bad = rw (reads (sheet (token ∷ later) other), bad) refl

  goes : (token : Lexeme) (later : List Lexeme) (other : Place) (x : X) → reading token ≡ Ok x → read g (sheet (token ∷ later) other) ≡ read (next x) (sheet later other)
  goes token later other x good = reads (sheet (token ∷ later) other) ∙ rw good refl

  needs : (end : Place) → is_ok (read g (sheet [] end)) ≡ false
  needs end = ap is_ok (reads (sheet [] end))

  first_of_token : (token : Lexeme) (tokens : List Lexeme) (end : Place) (fault : Fault) → read g (sheet (token ∷ tokens) end) ≡ Err fault → (r : Result X Fault) → reading token ≡ r → First g (token ∷ tokens) end fault
  first_of_token token tokens end fault bad (Ok x) good =
      let f = others_first x tokens end fault (sym (goes token tokens end x good) ∙ bad) in
      record {
        before = token ∷ f.before;
        rest = f.rest;
        reason = f.reason;
        whole = ap (λ (ts : List Lexeme). token ∷ ts) f.whole;
        place = f.place;
        more = f.more;
        are_spellings = f.are_spellings;
        fills = λ e. absurd cc;
        goes_on = λ other. ap is_ok (goes token (f.before ++ f.more) other x good) ∙ f.goes_on other;
        refused = λ t others later other e. ap is_ok (goes token (f.before ++ t ∷ later) other x good) ∙ f.refused t others later other e;
        is_end = f.is_end;
        has_end = f.has_end;
        is_extra = λ e other. ap is_ok (goes token f.before other x good) ∙ f.is_extra e other;
        has_extra = λ closes accepted. f.has_extra (closed closes x) (λ other. sym (ap is_ok (goes token f.before other x good)) ∙ accepted other);
      }
  first_of_token token tokens end fault bad (Err f) wrong =
      let p = faults token f wrong in
      let same : fault ≡ f = err_is fault f (read g (sheet (token ∷ tokens) end)) bad (reads (sheet (token ∷ tokens) end) ∙ rw wrong refl) in
      here filling after g fills (token ∷ tokens) end fault p.0 (same ∙ p.1)
      (λ t others later other e. subst (λ (u : Lexeme). is_ok (read g (sheet (u ∷ later) other)) ≡ false) (head_is token t tokens others e) (refuses token later other f wrong))
      (λ e. absurd cc) (λ e. absurd (not_end p.0 p.2 e)) (λ e. absurd (not_extra p.0 p.2 e)) (λ closes accepted. absurd (true_is_not_false (is_ok (read g (sheet [] end))) (accepted end) (needs end)))

  first_of_reading : Faults g
  first_of_reading [] end fault bad =
      let same : fault ≡ fault_at end End = err_is fault (fault_at end End) (read g (sheet [] end)) bad (reads (sheet [] end)) in
      here filling after g fills [] end fault End same (λ t others later other e. absurd cc)
      (λ e. refl) (λ e. refl) (λ e. absurd cc) (λ closes accepted. absurd (true_is_not_false (is_ok (read g (sheet [] end))) (accepted end) (needs end)))
  first_of_reading (token ∷ tokens) end fault bad = first_of_token token tokens end fault bad (reading token) refl

word_faults : (w : List ℕ) (token : Lexeme) (f : Fault) → word_in w token ≡ Err f → (reason : TextReason) × (f ≡ fault_at token.place reason) × IsOfToken reason
word_faults w token f bad = go (bytes_eq token.text w) bad
  where
    go : (b : Bool) → cond b (Ok true) (Err (fault_at token.place Word)) ≡ Err f → (reason : TextReason) × (f ≡ fault_at token.place reason) × IsOfToken reason
    go true e = absurd (no_ok true f e)
    go false e = (Word, cc, of_word)

only_faults : (w : List ℕ) (token : Lexeme) (f : Fault) → only_in w token ≡ Err f → (reason : TextReason) × (f ≡ fault_at token.place reason) × IsOfToken reason
only_faults w token f bad = go (bytes_eq token.text w) (is_natural token.text) bad
  where
    go : (same natural : Bool) → cond same (Ok true) (Err (fault_at token.place (cond natural Limit Number))) ≡ Err f → (reason : TextReason) × (f ≡ fault_at token.place reason) × IsOfToken reason
    go true natural e = absurd (no_ok true f e)
    go false true e = (Limit, cc, of_limit)
    go false false e = (Number, cc, of_number)

spelling_faults : {X : Type 0} (place : Place) (r : Result X NumberFault) (f : Fault) → number_fault place r ≡ Err f → (reason : TextReason) × (f ≡ fault_at place reason) × IsOfToken reason
spelling_faults place (Ok x) f e = absurd (no_ok x f e)
spelling_faults place (Err Spelling) f e = (Number, cc, of_number)
spelling_faults place (Err Over) f e = (Limit, cc, of_limit)

number_faults : (low high : ℕ) (token : Lexeme) (f : Fault) → number_in low high token ≡ Err f → (reason : TextReason) × (f ≡ fault_at token.place reason) × IsOfToken reason
number_faults low high token f bad = go (natural_of token.text high) bad
  where
    small : (n : ℕ) (b : Bool) → cond b (Ok n) (Err (fault_at token.place Limit)) ≡ Err f → (reason : TextReason) × (f ≡ fault_at token.place reason) × IsOfToken reason
    small n true e = absurd (no_ok n f e)
    small n false e = (Limit, cc, of_limit)

    go : (r : Result ℕ NumberFault) → (number_fault token.place r >>= λ n. cond (leb low n) (Ok n) (Err (fault_at token.place Limit))) ≡ Err f → (reason : TextReason) × (f ≡ fault_at token.place reason) × IsOfToken reason
    go (Ok n) e = small n (leb low n) e
    go (Err Spelling) e = (Number, cc, of_number)
    go (Err Over) e = (Limit, cc, of_limit)

-- Where w doesn't stand next, a grammar that only looks for it has the fault of what it goes on with.
module _ {A : Type 0} (filling : Bool) (after : List ℕ) (g next : Grammar A) (fills : Fills filling after g) (w : List ℕ) (same_fill : fill next ≡ fill g)
    (reads : (s : Sheet) → is_next w s ≡ false → read g s ≡ read next s) (next_first : Faults next) (closed : Closes g → Closes next) where
  passes : (token : Lexeme) (tokens later : List Lexeme) (end other : Place) → is_next w (sheet (token ∷ tokens) end) ≡ false → read g (sheet (token ∷ later) other) ≡ read next (sheet (token ∷ later) other)
  passes token tokens later end other absent = reads (sheet (token ∷ later) other) absent

  first_past : (tokens : List Lexeme) (end : Place) (fault : Fault) → read g (sheet tokens end) ≡ Err fault → is_next w (sheet tokens end) ≡ false → (before rest : List Lexeme) → tokens ≡ before ++ rest
      → (f : First next tokens end fault) → f.before ≡ before → f.rest ≡ rest → First g tokens end fault
  first_past tokens end fault bad absent [] [] whole f none same = record {
    before = [];
    rest = [];
    reason = f.reason;
    whole = whole;
    place = f.place ∙ ap (λ (ts : List Lexeme). fault_next f.reason (sheet ts end)) same;
    more = fill g;
    are_spellings = fill_spelled filling after g fills;
    fills = λ _. refl;
    goes_on = filled filling after g fills;
    refused = λ t others later other e. absurd cc;
    is_end = λ e. f.is_end same;
    has_end = λ e. refl;
    is_extra = λ e other. ap is_ok (reads (sheet [] other) refl) ∙ subst (λ (ts : List Lexeme). is_ok (read next (sheet ts other)) ≡ true) none (f.is_extra e other);
    has_extra = λ closes accepted. f.has_extra (closed closes) (λ other.
        subst (λ (ts : List Lexeme). is_ok (read next (sheet ts other)) ≡ true) (sym none) (sym (ap is_ok (reads (sheet [] other) refl)) ∙ accepted other));
  }
  first_past tokens end fault bad absent [] (token ∷ rest) whole f none same = record {
    before = [];
    rest = token ∷ rest;
    reason = f.reason;
    whole = whole;
    place = f.place ∙ ap (λ (ts : List Lexeme). fault_next f.reason (sheet ts end)) same;
    more = fill g;
    are_spellings = fill_spelled filling after g fills;
    fills = λ _. refl;
    goes_on = filled filling after g fills;
    refused = λ t others later other e.
        let first : is_next w (sheet (token ∷ rest) end) ≡ false = subst (λ (ts : List Lexeme). is_next w (sheet ts end) ≡ false) whole absent in
        let t-is : token ≡ t = head_is token t rest others e in
        let past : read g (sheet (t ∷ later) other) ≡ read next (sheet (t ∷ later) other) = subst (λ (u : Lexeme). read g (sheet (u ∷ later) other) ≡ read next (sheet (u ∷ later) other)) t-is (passes token rest later end other first) in
        let no : is_ok (read next (sheet (f.before ++ t ∷ later) other)) ≡ false = f.refused t others later other (same ∙ e) in
        ap is_ok past ∙ subst (λ (ts : List Lexeme). is_ok (read next (sheet (ts ++ t ∷ later) other)) ≡ false) none no;
    is_end = λ e. absurd cc;
    has_end = λ e. sym same ∙ f.has_end e;
    is_extra = λ e other. ap is_ok (reads (sheet [] other) refl) ∙ subst (λ (ts : List Lexeme). is_ok (read next (sheet ts other)) ≡ true) none (f.is_extra e other);
    has_extra = λ closes accepted. f.has_extra (closed closes) (λ other.
        subst (λ (ts : List Lexeme). is_ok (read next (sheet ts other)) ≡ true) (sym none) (sym (ap is_ok (reads (sheet [] other) refl)) ∙ accepted other));
  }
  first_past tokens end fault bad absent (token ∷ before) rest whole f some same =
      let first : is_next w (sheet (token ∷ (before ++ rest)) end) ≡ false = subst (λ (ts : List Lexeme). is_next w (sheet ts end) ≡ false) whole absent in
      record {
        before = token ∷ before;
        rest = rest;
        reason = f.reason;
        whole = whole;
        place = f.place ∙ ap (λ (ts : List Lexeme). fault_next f.reason (sheet ts end)) same;
        more = f.more;
        are_spellings = f.are_spellings;
        fills = λ e. absurd cc;
        goes_on = λ other. ap is_ok (passes token (before ++ rest) (before ++ f.more) end other first) ∙ subst (λ (ts : List Lexeme). is_ok (read next (sheet (ts ++ f.more) other)) ≡ true) some (f.goes_on other);
        refused = λ t others later other e.
            ap is_ok (passes token (before ++ rest) (before ++ t ∷ later) end other first) ∙ subst (λ (ts : List Lexeme). is_ok (read next (sheet (ts ++ t ∷ later) other)) ≡ false) some (f.refused t others later other (same ∙ e));
        is_end = λ e. f.is_end (same ∙ e);
        has_end = λ e. sym same ∙ f.has_end e;
        is_extra = λ e other. ap is_ok (passes token (before ++ rest) before end other first) ∙ subst (λ (ts : List Lexeme). is_ok (read next (sheet ts other)) ≡ true) some (f.is_extra e other);
        has_extra = λ closes accepted. f.has_extra (closed closes) (λ other.
            subst (λ (ts : List Lexeme). is_ok (read next (sheet ts other)) ≡ true) (sym some) (sym (ap is_ok (passes token (before ++ rest) before end other first)) ∙ accepted other));
      }

  first_of_past : (tokens : List Lexeme) (end : Place) (fault : Fault) → read g (sheet tokens end) ≡ Err fault → is_next w (sheet tokens end) ≡ false → First g tokens end fault
  first_of_past tokens end fault bad absent =
      let f = next_first tokens end fault (sym (reads (sheet tokens end) absent) ∙ bad) in
      first_past tokens end fault bad absent f.before f.rest f.whole f refl refl

closes_taken : {A : Type 0} (w : List ℕ) (first second : Grammar A) → Closes (fork w first second) → Closes first
unfolding Closes
closes_taken w first second h = h.0

closes_past : {A : Type 0} (w : List ℕ) (first second : Grammar A) → Closes (fork w first second) → Closes second
unfolding Closes
closes_past w first second h = h.1

closes_barred : {A : Type 0} (w : List ℕ) (next : Grammar A) → Closes (barred w next) → Closes next
unfolding Closes
closes_barred w next h = h.0

barred_needs : {A : Type 0} (w : List ℕ) (next : Grammar A) → Closes (barred w next) → (end : Place) → is_ok (read (barred w next) (sheet [] end)) ≡ false
unfolding Closes
barred_needs w next h end = needs_token next h.1 end

closes_word : {A : Type 0} (w : List ℕ) (next : Grammar A) → Closes (word w next) → Closes next
unfolding Closes
closes_word w next h = h

closes_only : {A : Type 0} (w : List ℕ) (next : Grammar A) → Closes (only w next) → Closes next
unfolding Closes
closes_only w next h = h

closes_number : {A : Type 0} (low high : ℕ) (next : ℕ → Grammar A) → Closes (number low high next) → (n : ℕ) → Closes (next n)
unfolding Closes
closes_number low high next h = h

closes_signed : {A : Type 0} (size : ℕ) (next : ℤ → Grammar A) → Closes (signed size next) → (n : ℤ) → Closes (next n)
unfolding Closes
closes_signed size next h = h

-- the word of a fork stands next
first_of_taken : {A : Type 0} (w : List ℕ) (first second : Grammar A) → Faults first → (token : Lexeme) (tokens : List Lexeme) (end : Place) (fault : Fault) → bytes_eq token.text w ≡ true
    → read (fork w first second) (sheet (token ∷ tokens) end) ≡ Err fault → First (fork w first second) (token ∷ tokens) end fault
first_of_taken {A} w first second firsts token tokens end fault found bad =
    let goes : (later : List Lexeme) (other : Place) → read (fork w first second) (sheet (token ∷ later) other) ≡ read first (sheet later other) = λ later other. rw found refl in
    let f = firsts tokens end fault (sym (goes tokens end) ∙ bad) in
    record {
      before = token ∷ f.before;
      rest = f.rest;
      reason = f.reason;
      whole = ap (λ (ts : List Lexeme). token ∷ ts) f.whole;
      place = f.place;
      more = f.more;
      are_spellings = f.are_spellings;
      fills = λ e. absurd cc;
      goes_on = λ other. ap is_ok (goes (f.before ++ f.more) other) ∙ f.goes_on other;
      refused = λ t others later other e. ap is_ok (goes (f.before ++ t ∷ later) other) ∙ f.refused t others later other e;
      is_end = f.is_end;
      has_end = f.has_end;
      is_extra = λ e other. ap is_ok (goes f.before other) ∙ f.is_extra e other;
      has_extra = λ closes accepted. f.has_extra (closes_taken w first second closes) (λ other. sym (ap is_ok (goes f.before other)) ∙ accepted other);
    }

fork_false : {A : Type 0} (w : List ℕ) (first second : Grammar A) (s : Sheet) → is_next w s ≡ false → read (fork w first second) s ≡ read second s
fork_false w first second s absent = rw absent refl

barred_false : {A : Type 0} (w : List ℕ) (next : Grammar A) (s : Sheet) → is_next w s ≡ false → read (barred w next) s ≡ read next s
barred_false w next s absent = rw absent refl

-- one word too many stands next
first_of_barred : {A : Type 0} (filling : Bool) (after w : List ℕ) (next : Grammar A) → Fills filling after (barred w next) → (token : Lexeme) (tokens : List Lexeme) (end : Place) (fault : Fault) → bytes_eq token.text w ≡ true
    → read (barred w next) (sheet (token ∷ tokens) end) ≡ Err fault → First (barred w next) (token ∷ tokens) end fault
first_of_barred {A} filling after w next fills token tokens end fault found bad =
    let stops : (later : List Lexeme) (other : Place) → read (barred w next) (sheet (token ∷ later) other) ≡ Err (fault_at token.place Limit) = λ later other. rw found refl in
    let same : fault ≡ fault_at token.place Limit = err_is fault (fault_at token.place Limit) (read (barred w next) (sheet (token ∷ tokens) end)) bad (stops tokens end) in
    here filling after (barred w next) fills (token ∷ tokens) end fault Limit same
    (λ t others later other e. subst (λ (u : Lexeme). is_ok (read (barred w next) (sheet (u ∷ later) other)) ≡ false) (head_is token t tokens others e) (ap is_ok (stops later other)))
    (λ e. absurd cc) (λ e. absurd cc) (λ e. absurd cc)
    (λ closes accepted. absurd (true_is_not_false (is_ok (read (barred w next) (sheet [] end))) (accepted end) (barred_needs w next closes end)))

-- a token stands after the end
first_of_extra : {A : Type 0} (filling : Bool) (after : List ℕ) (next : Grammar A) → Fills filling after (nothing next) → (x : A) → next ≡ done x → Faults (nothing next)
first_of_extra {A} filling after next fills x is [] end fault bad =
    let accepted : read (nothing next) (sheet [] end) ≡ Ok (x, sheet [] end) = rw is refl in
    absurd (no_ok (x, sheet [] end) fault (sym accepted ∙ bad))
first_of_extra {A} filling after next fills x is (token ∷ tokens) end fault bad =
    here filling after (nothing next) fills (token ∷ tokens) end fault Extra (err_is fault (fault_at token.place Extra) (read (nothing next) (sheet (token ∷ tokens) end)) bad refl)
    (λ t others later other e. refl) (λ e. absurd cc) (λ e. absurd cc) (λ e other. rw is refl) (λ closes accepted. refl)

-- A fault of a text whose places can each be filled is the first.
first_fault : {A : Type 0} (filling : Bool) (after : List ℕ) (g : Grammar A) → Fills filling after g → Faults g
unfolding Fills fill
first_fault filling after (done x) h tokens end fault bad = absurd (no_ok (x, sheet tokens end) fault bad)
first_fault filling after (nothing next) h tokens end fault bad = first_of_extra filling after next h h.1.0 h.1.1 tokens end fault bad
first_fault filling after (word w next) h tokens end fault bad = first_of_reading filling after (word w next) h (word_in w) (λ _. next) (λ s. refl) (word_faults w) (λ _. first_fault filling after next h.1) (λ closes _. closes_word w next closes) tokens end fault bad
first_fault filling after (number low high next) h tokens end fault bad = first_of_reading filling after (number low high next) h (number_in low high) next (λ s. refl) (number_faults low high) (λ n. first_fault filling after (next n) (h.2 n)) (closes_number low high next) tokens end fault bad
first_fault filling after (signed size next) h tokens end fault bad = first_of_reading filling after (signed size next) h (signed_in size) next (λ s. refl) (λ token. spelling_faults token.place (signed_of token.text size)) (λ n. first_fault filling after (next n) (h.1 n)) (closes_signed size next) tokens end fault bad
first_fault filling after (fork w first second) h [] end fault bad = first_of_past filling after (fork w first second) second h w refl (fork_false w first second) (first_fault filling after second h.1) (closes_past w first second) [] end fault bad refl
first_fault filling after (fork w first second) h (token ∷ tokens) end fault bad =
    elim (cases_Bool (bytes_eq token.text w)) [
      | inl found ↦ first_of_taken w first second (first_fault filling after first h.0) token tokens end fault found bad
      | inr absent ↦ first_of_past filling after (fork w first second) second h w refl (fork_false w first second) (first_fault filling after second h.1) (closes_past w first second) (token ∷ tokens) end fault bad absent
    ]
first_fault filling after (barred w next) h [] end fault bad = first_of_past filling after (barred w next) next h w refl (barred_false w next) (first_fault filling after next h.0) (closes_barred w next) [] end fault bad refl
first_fault filling after (barred w next) h (token ∷ tokens) end fault bad =
    elim (cases_Bool (bytes_eq token.text w)) [
      | inl found ↦ first_of_barred filling after w next h token tokens end fault found bad
      | inr absent ↦ first_of_past filling after (barred w next) next h w refl (barred_false w next) (first_fault filling after next h.0) (closes_barred w next) (token ∷ tokens) end fault bad absent
    ]
first_fault filling after (only w next) h tokens end fault bad = first_of_reading filling after (only w next) h (only_in w) (λ _. next) (λ s. refl) (only_faults w) (λ _. first_fault filling after next h.1) (λ closes _. closes_only w next closes) tokens end fault bad

-- the same, as a law of whole texts
pub is_first : {A : Type 0} (after : List ℕ) (g : Grammar A) → Fills true after g → Closes g → (s : Sheet) (fault : Fault) → read g s ≡ Err fault → IsFirstFault g s fault
is_first {A} after g fills closes s fault bad =
    let f = first_fault true after g fills s.tokens s.end fault bad in
    record {
      before = f.before;
      rest = f.rest;
      reason = f.reason;
      whole = f.whole;
      place = f.place;
      more = f.more;
      are_spellings = f.are_spellings;
      goes_on = f.goes_on;
      refused = λ token others later e accepted. true_is_not_false (is_ok (read g (sheet (f.before ++ token ∷ later) s.end))) (accepted s.end) (f.refused token others later s.end e);
      not_whole = λ accepted. true_is_not_false (is_ok (read g s)) (accepted s.end) (ap is_ok bad);
      at_end = (f.has_end, f.is_end);
      at_extra = (f.is_extra, f.has_extra closes);
    }

-- the value of a text, or its first fault
pub value_fault : {A : Type 0} (g : Grammar A) (s : Sheet) (fault : Fault) → (read g s >>= λ x. Ok x.0) ≡ Err fault → read g s ≡ Err fault
value_fault {A} g s fault bad = go (read g s) bad
  where
    go : (r : Result (A × Sheet) Fault) → (r >>= λ x. Ok x.0) ≡ Err fault → r ≡ Err fault
    go (Ok x) e = absurd (no_ok x.0 fault e)
    go (Err f) e = cc
