-- An instance text is a form text, of the form of its instance.
use Rattle.std.proofs.Common.{◌≡◌, ℕ, ◌*◌, ◌/◌, ltb, Bool, true, false, if◌then◌else◌, ℤ, List, [], ◌∷◌, length, map, replicate, codes, Option, Some, None, Result, Ok, Err, refl, sym, ap, ap₂, ◌∙◌}
use Rattle.std.specs.Prelude.{position, nat_eq}
use Rattle.std.specs.Str.{bytes_eq}
use Rattle.std.proofs.lemmas.List.{length-replicate}
use Rattle.ct_vectors.specs.Vectors.{total}
use Rattle.ct_vectors.specs.declared.limits.TheConstants.{ROW_LIMIT, COLUMN_LIMIT, ENTRY_LIMIT}
use Rattle.ct_order.specs.Costs.{rows_of}
use Rattle.ct_instance.specs.Instance.{Problem}
use Rattle.ct_instance.specs.Made.{columns_of, problem_of, zero_column_of}
use Rattle.ct_instance.proofs.Entries.{length-columns_of}
use Rattle.ct_text.specs.Tokens.{Lexeme, text_of}
use Rattle.ct_input.specs.declared.limits.TheConstants.{INSTANCE_FILE_LIMIT}
use Rattle.ct_input.specs.declared.draft.Draft.{Draft}
use Rattle.ct_input.specs.declared.fault.Fault.{Fault}
use Rattle.ct_input.specs.declared.fault.Fault.TheVariants.{TooLong}
use Rattle.ct_input.specs.declared.fault.TextReason.TheVariants.{Word}
use Rattle.ct_input.specs.Sheet.{Sheet, ◌>>=◌, sheet_of, fault_at}
use Rattle.ct_input.specs.Grammar.{Grammar, done, nothing, word, number, signed, fork, barred, only, part, numbers, read, token_at, word_in}
use Rattle.ct_input.specs.InstanceText.{cost_rows, instance_text}
use Rattle.ct_input.specs.Files as texts
use Rattle.ct_input.specs.Files.{value_in, instance_file}
use Rattle.ct_input.proofs.Parts.{read_part}
use Rattle.ct_input.proofs.Yields.{ok_same, bind-ok}
use Rattle.ct_form.specs.declared.relation.Relation.TheVariants.{Eq}
use Rattle.ct_form.specs.Forms.{Form}
use Rattle.ct_form.specs.EqualityForms.{plain_form}
use Rattle.ct_form.specs.Kept.{free_zero_of}
use Rattle.ct_form.specs.Made.{form_of, plain_limits}
use Rattle.ct_form.proofs.Plain.{plain_equal}
use Rattle.ct_form.proofs.ZeroColumns.{zero_column_is_free}
use Rattle.ct_form_text.specs.declared.draft.FormDraft.{FormDraft}
use Rattle.ct_form_text.specs.FormText.{form_number, limits, form_text}
use Rattle.ct_form_text.specs.Files.{draft_file, form_file}
use Rattle.ct_form_text.specs.Laws.{InstanceTextIsPlain}
use Rattle.ct_form_text.proofs.ZeroColumns.{accepted_file}

-- ---- grammars

-- what follows a part of a part
part-part : {A B C : Type 0} (g : Grammar A) (f : A → Grammar B) (h : B → Grammar C) → part (part g f) h ≡ part g (λ x. part (f x) h)
unfolding part
part-part (done x) f h = refl
part-part (nothing next) f h = ap nothing (part-part next f h)
part-part (word w next) f h = ap (word w) (part-part next f h)
part-part (number low high next) f h = λ t. number low high (λ n. part-part (next n) f h t)
part-part (signed size next) f h = λ t. signed size (λ n. part-part (next n) f h t)
part-part (fork w first second) f h = ap₂ (fork w) (part-part first f h) (part-part second f h)
part-part (barred w next) f h = ap (barred w) (part-part next f h)
part-part (only w next) f h = ap (only w) (part-part next f h)

-- a word that stands next is taken where it may
word_goes : {A : Type 0} (w : List ℕ) (first second : Grammar A) (s : Sheet) (y : A × Sheet) → read (word w first) s ≡ Ok y → read (fork w first second) s ≡ Ok y
word_goes {A} w first second s y = go s.tokens
  where
    next : (token : Lexeme) (others : List Lexeme) (is : Bool) →
        ◌>>=◌ {A = Bool × Sheet} (◌>>=◌ {A = Bool} (if is then Ok true else Err (fault_at token.place Word)) (λ x. Ok (x, record { tokens = others; end = s.end }))) (λ x. read first x.1) ≡ Ok y →
        (if is then read first (record { tokens = others; end = s.end }) else read second (record { tokens = token ∷ others; end = s.end })) ≡ Ok y
    next token others true same = same
    next token others false same = absurd cc

    go : (tokens : List Lexeme) → read (word w first) (record { tokens = tokens; end = s.end }) ≡ Ok y → read (fork w first second) (record { tokens = tokens; end = s.end }) ≡ Ok y
    go [] same = absurd cc
    go (token ∷ others) same = next token others (bytes_eq token.text w) same

-- ---- the text

-- the numbers of the form of an instance
abbrev formed : Draft → FormDraft
formed d = record { rows = d.rows; columns = d.columns; entries = d.entries; limits = plain_limits d.rows d.columns; costs = d.costs }

abbrev said : ℕ → ℕ → List ℕ → List ℤ → Draft
said m n entries costs = record { rows = m; columns = n; entries = entries; costs = costs }

abbrev closing : {A : Type 0} → A → Grammar A
closing x = word (codes "end") (nothing (done x))

-- both texts behind the form number
abbrev after : {A : Type 0} → (ℕ → ℕ → Grammar A) → Grammar A
after rest = word (codes "rows") (number 1 ROW_LIMIT (λ m. word (codes "columns") (number 1 COLUMN_LIMIT (λ n. word (codes "matrix") (rest m n)))))

abbrev counted : ℕ → ℕ → Grammar Draft
counted m n = part (numbers (m * n) ENTRY_LIMIT) (λ entries. part (cost_rows n) (λ costs. closing (said m n entries costs)))

abbrev limited : Bool → ℕ → ℕ → Grammar FormDraft
limited two m n =
    part (numbers (m * n) ENTRY_LIMIT) (λ entries. part (limits two m n) (λ held. part (cost_rows n) (λ costs.
    closing (record { rows = m; columns = n; entries = entries; limits = held; costs = costs }))))

same_text : (m n : ℕ) → part (counted m n) (λ d. done (formed d)) ≡ limited false m n
unfolding part
same_text m n =
    part-part (numbers (m * n) ENTRY_LIMIT) (λ entries. part (cost_rows n) (λ costs. closing (said m n entries costs))) (λ d. done (formed d)) ∙
    ap (part (numbers (m * n) ENTRY_LIMIT)) (λ t entries. part-part (cost_rows n) (λ costs. closing (said m n entries costs)) (λ d. done (formed d)) t)

formed_text : Sheet → Result (FormDraft × Sheet) Fault
formed_text s = read (part instance_text (λ d. done (formed d))) s

reads_form : (s : Sheet) (d : Draft) (rest : Sheet) → read instance_text s ≡ Ok (d, rest) → read form_text s ≡ Ok (formed d, rest)
unfolding part instance_text form_text form_number
reads_form s d rest same =
    let whole : read (part instance_text (λ d. done (formed d))) s ≡ Ok (formed d, rest) = read_part instance_text (λ d. done (formed d)) s ∙ ap (λ (r : Result (Draft × Sheet) Fault). r >>= λ x. Ok (formed x.0, x.1)) same in
    let plain : read (word (codes "instance") (word (codes "1") (after (limited false)))) s ≡ Ok (formed d, rest) =
    sym (λ t. read (word (codes "instance") (word (codes "1") (after (λ m n. same_text m n t)))) s) ∙ whole in
    let b = bind-ok (token_at (word_in (codes "instance")) s) (λ x. read (word (codes "1") (after (limited false))) x.1) (formed d, rest) plain in
    ap (λ (r : Result (Bool × Sheet) Fault). r >>= λ x. read (fork (codes "1") (after (limited false)) (word (codes "2") (after (limited true)))) x.1) b.1.0 ∙
    word_goes (codes "1") (after (limited false)) (word (codes "2") (after (limited true))) b.0.1 (formed d, rest) b.1.1

-- ---- files

within_parts : {A : Type 0} (over : Bool) (value : Result A Fault) (x : A) → (if over then Err TooLong else value) ≡ Ok x → (over ≡ false) × (value ≡ Ok x)
within_parts true value x same = absurd cc
within_parts false value x same = (refl, same)

draft_reads : (bytes : List ℕ) (d : Draft) → ltb INSTANCE_FILE_LIMIT (length bytes) ≡ false → value_in instance_text bytes ≡ Ok d → draft_file bytes ≡ Ok (formed d)
unfolding draft_file
draft_reads bytes d short same =
    let b = bind-ok (read instance_text (sheet_of (text_of bytes))) (λ x. Ok x.0) d same in
    let reads = reads_form (sheet_of (text_of bytes)) b.0.0 b.0.1 b.1.0 in
    ap (λ (over : Bool). if over then Err TooLong else value_in form_text bytes) short ∙
    ap (λ (r : Result (FormDraft × Sheet) Fault). r >>= λ x. Ok x.0) reads ∙ ap (λ x. Ok (formed x)) (ok_same b.0.0 d b.1.1)

-- the form of the numbers is that of the instance
plain_made : (d : Draft) → form_of d.rows d.columns d.entries (plain_limits d.rows d.columns) d.costs ≡ plain_form (problem_of d.rows d.columns d.entries d.costs)
plain_made d = λ t. record {
  rows = d.rows;
  columns = columns_of d.rows d.columns d.entries;
  cost_rows = rows_of (length d.costs / d.columns) d.columns d.costs;
  relations = replicate d.rows Eq;
  bounds = replicate (sym (length-columns_of d.rows d.columns d.entries) t) None;
}

none_free : (d : Draft) → zero_column_of d.rows d.columns d.entries ≡ None → free_zero_of (columns_of d.rows d.columns d.entries) (plain_limits d.rows d.columns).bounds ≡ None
none_free d none =
    let i = problem_of d.rows d.columns d.entries d.costs in
    ap (λ (f : Form). free_zero_of f.columns f.bounds) (plain_made d) ∙
    sym (zero_column_is_free (plain_form i) (length-replicate (length i.columns) None)) ∙
    ap (λ (j : Problem). position (λ s. nat_eq s 0) (map total j.columns)) (plain_equal i) ∙ none

made_plain : (bytes : List ℕ) (d : Draft) (zero_column : Option ℕ) (i : Problem) → draft_file bytes ≡ Ok (formed d) → zero_column_of d.rows d.columns d.entries ≡ zero_column →
    texts.made_of (sheet_of (text_of bytes)) d zero_column ≡ Ok i → form_file bytes ≡ Ok (plain_form i)
unfolding texts.made_of
made_plain bytes d None i reads none same =
    accepted_file bytes (formed d) reads (none_free d none) ∙ ap Ok (plain_made d ∙ ap plain_form (ok_same _ i same))
made_plain bytes d (Some column) i reads found same = absurd cc

pub instance_text_is_plain : InstanceTextIsPlain
unfolding instance_file
instance_text_is_plain bytes i same =
    let w = within_parts (ltb INSTANCE_FILE_LIMIT (length bytes)) _ i same in
    let b = bind-ok (value_in instance_text bytes) _ i w.1 in
    made_plain bytes b.0 (zero_column_of (b.0).rows (b.0).columns (b.0).entries) i (draft_reads bytes b.0 w.0 b.1.0) refl b.1.1
