-- What it says of a fault that it is the first.
use Rattle.std.specs.Prelude.{◌≡◌, ◌≢◌, ◌↔◌, ℕ, List, [], ◌∷◌, ◌++◌, IsOk, IsTrue, Err}
use Rattle.std.specs.List.{list_all, AllByRecursion}
use Rattle.ct_text.specs.declared.place.Place.{Place}
use Rattle.ct_text.specs.Tokens.{Lexeme, is_plain}
use Rattle.ct_input.specs.declared.fault.Fault.{Fault}
use Rattle.ct_input.specs.declared.fault.TextReason.{TextReason}
use Rattle.ct_input.specs.declared.fault.TextReason.TheVariants.{End, Extra}
use Rattle.ct_text.specs.Tokens.{text_of}
use Rattle.ct_input.specs.Sheet.{Sheet, sheet_of, fault_next}
use Rattle.ct_input.specs.InstanceText.{instance_text}
use Rattle.ct_input.specs.SessionText.{session_text}
use Rattle.ct_input.specs.Files.{value_in}
use Rattle.ct_input.specs.Grammar.{Grammar, read}

-- a text that has these tokens is in the grammar, wherever it ends
abbrev pub Accepts : {A : Type 0} → Grammar A → List Lexeme → Type 0
Accepts grammar tokens = (end : Place) → IsOk (read grammar (record { tokens = tokens; end = end }))

-- a token can be spelled so
pub record IsSpelling (token : Lexeme) : Type 0 where
  pub some : token.text ≢ []
  pub plain : IsTrue (list_all is_plain token.text)

-- The tokens before the fault can go on to a text of the grammar. With the token at the fault they can't, and
-- where there is none, the tokens before it are the whole text, which isn't in the grammar. The reason is End exactly
-- where nothing is left, and Extra exactly where the tokens before the fault are a text of the grammar.
pub record IsFirstFault {A : Type 0} (grammar : Grammar A) (sheet : Sheet) (fault : Fault) : Type 0 where
  pub before : List Lexeme
  pub rest : List Lexeme
  pub reason : TextReason
  pub whole : sheet.tokens ≡ before ++ rest
  pub place : fault ≡ fault_next reason (record { tokens = rest; end = sheet.end })
  pub more : List Lexeme
  pub are_spellings : AllByRecursion IsSpelling more
  pub goes_on : Accepts grammar (before ++ more)
  pub refused : (token : Lexeme) (others later : List Lexeme) → rest ≡ token ∷ others → Accepts grammar (before ++ token ∷ later) → ⊥
  pub not_whole : Accepts grammar sheet.tokens → ⊥
  pub at_end : (reason ≡ End) ↔ (rest ≡ [])
  pub at_extra : (reason ≡ Extra) ↔ Accepts grammar before

-- A fault of an instance text that a token has is the first: a zero column is looked for only where there is none.
abbrev pub InstanceFaultIsFirst : Type 0
InstanceFaultIsFirst = (bytes : List ℕ) (fault : Fault) → value_in instance_text bytes ≡ Err fault → IsFirstFault instance_text (sheet_of (text_of bytes)) fault

-- a fault of a session text, for an instance with m rows, is the first
abbrev pub SessionFaultIsFirst : Type 0
SessionFaultIsFirst = (m : ℕ) (bytes : List ℕ) (fault : Fault) → value_in (session_text m) bytes ≡ Err fault → IsFirstFault (session_text m) (sheet_of (text_of bytes)) fault
