-- One step of the lexer through a text, which finds the next token, the end of the text, or a
-- fault.
use Rattle.std.specs.Prelude.{ℕ, ◌+◌, List, [], ◌∷◌, take, drop, false, ◌==◌, if◌then◌else◌, Result, Ok, Err, Option, Some, None}
use Rattle.bsdl_lexer.specs.declared.token.Token.{Token}
use Rattle.bsdl_lexer.specs.declared.token.TokenKind.{TokenKind}
use Rattle.bsdl_lexer.specs.declared.token.LexFault.{LexFault}
use Rattle.bsdl_lexer.specs.declared.token.LexFault.TheVariants.{Byte, OpenString}
use Rattle.bsdl_lexer.specs.Forms.{quote}
use Rattle.bsdl_lexer.specs.Tokens.{line_feeds}
use Rattle.bsdl_lexer.specs.inner.Lengths.{token_at, gap_len}

-- the fault at a byte at which no token begins; if the byte is a quote, the fault is a string that is not closed
abbrev pub bad_byte : ℕ → ℕ → LexFault
bad_byte first line = if first == quote then OpenString line else Byte line

abbrev pub token_of : ℕ → ℕ → TokenKind × ℕ → Token
token_of start line found = record { kind = found.0; start = start; «end» = start + found.1; line = line }

-- The result of a step that reaches place `start`, which is on line `line`. `first` is the byte there, and the last
-- argument is what `token_at` finds there.
abbrev pub step_with : ℕ → ℕ → ℕ → Option (TokenKind × ℕ) → Result (Option Token) LexFault
step_with start line first None = Err (bad_byte first line)
step_with start line first (Some found) = Ok (Some (token_of start line found))

-- the result of a step that reaches these bytes, which begin at place `start` on line `line`
abbrev pub step_at : ℕ → ℕ → List ℕ → Result (Option Token) LexFault
step_at start line [] = Ok None
step_at start line (first ∷ others) = step_with start line first (token_at (first ∷ others))

-- the result of a step from `place`, which is on line `line`, over a gap (blanks and comments) of `gap` bytes
abbrev pub step_past : ℕ → List ℕ → ℕ → ℕ → Result (Option Token) LexFault
step_past gap text place line = step_at (place + gap) (line + line_feeds (take gap (drop place text))) (drop (place + gap) text)

-- The next token at or after `place`, which is on line `line`. The result is None if only blanks and comments are left,
-- and a fault if no token begins after the blanks and comments.
abbrev pub step : List ℕ → ℕ → ℕ → Result (Option Token) LexFault
step text place line = step_past (gap_len false (drop place text)) text place line
