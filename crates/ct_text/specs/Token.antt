-- A token as it stands in the text.
use Rattle.ct_text.specs.Tokens.{Lexeme}
use Rattle.ct_text.specs.declared.token.Token.{Token}

abbrev pub lexeme : Token → Lexeme
lexeme token = record { place = record { line = token.line; column = token.column }; text = token.text.now }
