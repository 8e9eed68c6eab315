-- The answer to a text. It is either all tokens of the text, or its first fault and the tokens before this fault.
use Rattle.std.specs.Prelude.{◌≡◌, ◌≢◌, ℕ, ◌≤◌, List, [], ◌∷◌, ◌++◌, length, take, drop, false, ◌⊎◌, IsTrue, Option, Some, None, Result, Ok, Err}
use Rattle.std.specs.List.{list_all}
use Rattle.bsdl_lexer.specs.declared.token.Token.{Token}
use Rattle.bsdl_lexer.specs.declared.token.TokenKind.{TokenKind}
use Rattle.bsdl_lexer.specs.declared.token.LexFault.{LexFault}
use Rattle.bsdl_lexer.specs.declared.token.LexFault.TheVariants.{Byte, OpenString, TooMany, Memory}
use Rattle.bsdl_lexer.specs.Forms.{HasForm, begins_comment, begins_gap, is_text_byte, line_feed, carriage_return, quote}
use Rattle.bsdl_lexer.specs.Tokens.{line_of_place, Stand, AreTokens, token_limit}

-- a token begins at the front: the first `len` bytes have the form of a token, and no comment
-- begins here
pub record BeginsToken (rest : List ℕ) : Type 0 where
  pub kind : TokenKind
  pub len : ℕ
  pub form : HasForm kind (take len rest)
  pub no_comment : begins_comment rest ≡ false

-- a string that is open before these bytes is not closed on its line: there are no more bytes, or the next byte is a
-- line feed (10) or a carriage return (13)
abbrev pub EndsOpen : List ℕ → Type 0
EndsOpen [] = Unit {0}
EndsOpen (byte ∷ others) = (byte ≡ line_feed) ⊎ (byte ≡ carriage_return)

-- A string begins at the front but is not closed. Its opening quote is followed only by bytes that may be in a string,
-- up to the end of the line or of the text.
pub record BeginsOpenText (rest : List ℕ) : Type 0 where
  pub inner : List ℕ
  pub more : List ℕ
  pub parts : rest ≡ quote ∷ (inner ++ more)
  pub allowed : IsTrue (list_all is_text_byte inner)
  pub is_open : EndsOpen more

-- there is a first byte, it is not a quote, and it begins no blank, comment or token
pub record BeginsNothing (rest : List ℕ) : Type 0 where
  pub first : ℕ
  pub others : List ℕ
  pub parts : rest ≡ first ∷ others
  pub no_gap : begins_gap rest ≡ false
  pub no_token : BeginsToken rest → ⊥
  pub no_text : first ≢ quote

-- The text before `place` consists of these tokens, with gaps (blanks and comments) before, between and after them.
-- There are at most `token_limit` tokens, and `line` is the line of `place`.
pub record StopsAt (text : List ℕ) (tokens : List Token) (place line : ℕ) : Type 0 where
  pub before : Stand text 0 tokens place
  pub limit : length tokens ≤ token_limit
  pub line_is : line ≡ line_of_place text place

-- The text has this fault at the place that follows these tokens and an optional gap, and the fault
-- has the line of this place. Lack of memory is not a fault of the text.
abbrev pub IsLexerFault : List ℕ → List Token → LexFault → Type 0
IsLexerFault text tokens (Byte line) = (place : ℕ) × StopsAt text tokens place line × BeginsNothing (drop place text)
IsLexerFault text tokens (OpenString line) = (place : ℕ) × StopsAt text tokens place line × BeginsOpenText (drop place text)
IsLexerFault text tokens (TooMany line) =
    (place : ℕ) × StopsAt text tokens place line × BeginsToken (drop place text)
    × (length tokens ≡ token_limit)
IsLexerFault text tokens (Memory error) = ⊥

abbrev pub IsLexAnswer : List ℕ → List Token → Result (Unit {0}) LexFault → Type 0
IsLexAnswer text tokens (Ok done) = AreTokens text tokens
IsLexAnswer text tokens (Err fault) = IsLexerFault text tokens fault

-- the tokens in the text's answer begin with these tokens
pub record AreFirst (text : List ℕ) (tokens : List Token) : Type 0 where
  pub answer : Result (Unit {0}) LexFault
  pub more : List Token
  pub whole : IsLexAnswer text (tokens ++ more) answer

-- the fault, or None if memory ran out
abbrev pub lex_told : LexFault → Option LexFault
lex_told (Memory error) = None
lex_told fault = Some fault
