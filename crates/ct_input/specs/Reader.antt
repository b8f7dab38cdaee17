-- What a reader has left.
use Rattle.std.specs.Prelude.{Option, Some, None, List, ◌∷◌}
use Rattle.ct_text.specs.Tokens.{Lexeme}
use Rattle.ct_text.specs.Token.{lexeme}
use Rattle.ct_text.specs.declared.token.Token.{Token}

-- a token ahead, and those after it
abbrev pub with_ahead : Option Token → List Lexeme → List Lexeme
with_ahead None others = others
with_ahead (Some token) others = lexeme token ∷ others
