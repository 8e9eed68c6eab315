-- The tokens of a text. A place in a text is a byte number, counted from 0.
use Rattle.std.specs.Prelude.{◌≡◌, ℕ, ◌+◌, ◌<◌, ◌≤◌, List, [], ◌∷◌, length, take, drop, count_by, false, ◌==◌}
use Rattle.std.specs.List.{slice_range}
use Rattle.bsdl_lexer.specs.declared.token.Token.{Token}
use Rattle.bsdl_lexer.specs.declared.token.TokenKind.{TokenKind}
use Rattle.bsdl_lexer.specs.Forms.{HasForm, IsGap, begins_comment, line_feed}

-- the number of line feeds in these bytes
abbrev pub line_feeds : List ℕ → ℕ
line_feeds bytes = count_by (λ byte. byte == line_feed) bytes

-- the line of a place, counted from 1
abbrev pub line_of_place : List ℕ → ℕ → ℕ
line_of_place text place = 1 + line_feeds (take place text)

-- bytes `from..to` of the text are blanks and whole comments
pub record Separates (text : List ℕ) (from to : ℕ) : Type 0 where
  pub order : from ≤ to
  pub within : to ≤ length text
  pub gap : IsGap (drop to text) (slice_range text from to)

-- The range of the token has the form of its kind. No longer range with the same start has the form
-- of a token. No comment begins at the start. The line of the token is the line of its start.
pub record IsToken (text : List ℕ) (token : Token) : Type 0 where
  pub within : token.end ≤ length text
  pub form : HasForm token.kind (slice_range text token.start token.end)
  pub longest : (kind : TokenKind) (to : ℕ) → token.end < to → to ≤ length text → HasForm kind (slice_range text token.start to) → ⊥
  pub no_comment : begins_comment (drop token.start text) ≡ false
  pub line : token.line ≡ line_of_place text token.start

-- From place `from` to place `to`, the text consists of these tokens, with optional gaps (blanks and comments) before,
-- between and after them.
abbrev pub Stand : List ℕ → ℕ → List Token → ℕ → Type 0
Stand text from [] to = Separates text from to
Stand text from (token ∷ tokens) to = Separates text from token.start × IsToken text token × Stand text token.end tokens to

-- the largest number of tokens that a text may have
abbrev pub token_limit : ℕ
token_limit = 1_048_576

-- these are all tokens of the text, and there are at most `token_limit` of them
pub record AreTokens (text : List ℕ) (tokens : List Token) : Type 0 where
  pub whole : Stand text 0 tokens (length text)
  pub limit : length tokens ≤ token_limit
