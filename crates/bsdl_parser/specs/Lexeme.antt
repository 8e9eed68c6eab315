-- A token as the grammar sees it.
use Rattle.std.specs.Prelude.{ℕ, List, map}
use Rattle.std.specs.List.{slice_range}
use Rattle.std.specs.Char.{to_ascii_uppercase}
use Rattle.bsdl_lexer.specs.declared.token.Token.{Token}
use Rattle.bsdl_lexer.specs.declared.token.TokenKind.{TokenKind}

-- the kind of a token, its bytes in upper case, and its line
pub record Lexeme : Type 0 where
  pub kind : TokenKind
  pub spelled : List ℕ
  pub line : ℕ

abbrev pub bytes_of : List ℕ → Token → List ℕ
bytes_of text token = slice_range text token.start token.end

abbrev pub lexeme_of : List ℕ → Token → Lexeme
lexeme_of text token = record { kind = token.kind; spelled = map to_ascii_uppercase (bytes_of text token); line = token.line }

abbrev pub lexemes : List ℕ → List Token → List Lexeme
lexemes text tokens = map (lexeme_of text) tokens
