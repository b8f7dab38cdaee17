-- A text as tokens, and what a reader answers.
use Rattle.std.specs.Prelude.{◌≡◌, List, [], ◌∷◌, Result, Ok, Err}
use Rattle.ct_text.specs.declared.place.Place.{Place}
use Rattle.ct_text.specs.Tokens.{Lexeme, Text}
use Rattle.ct_input.specs.declared.fault.Fault.{Fault}
use Rattle.ct_input.specs.declared.fault.Fault.TheVariants as faults
use Rattle.ct_input.specs.declared.fault.TextReason.{TextReason}
use Rattle.ct_input.specs.declared.fault.InputStop.{InputStop}
use Rattle.ct_input.specs.declared.fault.InputStop.TheVariants as stops

infixl 10 ◌>>=◌
abbrev pub ◌>>=◌ : {A B : Type 0} → Result A Fault → (A → Result B Fault) → Result B Fault
(Ok x) >>= f = f x
(Err e) >>= f = Err e

-- What a reader answered, seen by view, is this, unless memory ran out.
abbrev pub Fails : {Y : Type 0} → InputStop → Result Y Fault → Type 0
Fails stops.Memory read = Unit {0}
Fails (stops.Fault f) read = read ≡ Err f

abbrev pub Gives : {X Y : Type 0} → (X → Y) → Result X InputStop → Result Y Fault → Type 0
Gives view (Ok x) read = read ≡ Ok (view x)
Gives view (Err e) read = Fails e read

-- the tokens that are left, and the place of the end
pub record Sheet : Type 0 where
  pub tokens : List Lexeme
  pub end : Place

abbrev pub sheet_of : Text → Sheet
sheet_of text = record { tokens = text.tokens; end = text.end }

abbrev pub fault_at : Place → TextReason → Fault
fault_at place reason = faults.Text place.line place.column reason

-- the fault at the next token, or at the end
abbrev pub fault_next : TextReason → Sheet → Fault
fault_next reason sheet = first sheet.tokens
  where
    first : List Lexeme → Fault
    first [] = fault_at sheet.end reason
    first (token ∷ others) = fault_at token.place reason
