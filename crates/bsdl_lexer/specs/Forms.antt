-- The forms of the tokens of BSDL, and of the blanks and comments between them (IEEE 1149.1-2001, B.5).
use Rattle.std.specs.Prelude.{◌≡◌, ℕ, List, [], ◌∷◌, ◌++◌, Bool, false, ◌&&◌, ◌||◌, not, ◌==◌, IsTrue, ◌⊎◌}
use Rattle.std.specs.List.{list_all}
use Rattle.std.specs.Char.{is_ascii_alphabetic, is_ascii_alphanumeric, is_ascii_digit, is_ascii_graphic}
use Rattle.std.specs.Int.{is_in_range}
use Rattle.bsdl_lexer.specs.declared.token.TokenKind.{TokenKind}
use Rattle.bsdl_lexer.specs.declared.token.TokenKind.TheVariants.{Word, Number, Text, Mark}

-- the byte that ends a line
abbrev pub line_feed : ℕ
line_feed = 10

abbrev pub carriage_return : ℕ
carriage_return = 13

abbrev pub quote : ℕ
quote = 34

abbrev pub dash : ℕ
dash = 45

abbrev pub point : ℕ
point = 46

-- the byte is a space, a tab, or a byte from 10 to 13
abbrev pub is_bsdl_blank : ℕ → Bool
is_bsdl_blank byte = byte == 32 || is_in_range 9 13 byte

-- the byte is a letter, a digit or `_`
abbrev pub is_word_byte : ℕ → Bool
is_word_byte byte = is_ascii_alphanumeric byte || byte == 95

-- the byte is `e` or `E`
abbrev pub is_exponent_letter : ℕ → Bool
is_exponent_letter byte = byte == 69 || byte == 101

-- the byte is `+` or `-`
abbrev pub is_sign : ℕ → Bool
is_sign byte = byte == 43 || byte == 45

-- the byte may be between the quotes of a string: it is not a quote, a line feed or a carriage
-- return
abbrev pub is_text_byte : ℕ → Bool
is_text_byte byte = not (byte == quote || (byte == line_feed || byte == carriage_return))

-- the byte is from 33 to 126, and is not a letter, a digit or a quote
abbrev pub is_mark_byte : ℕ → Bool
is_mark_byte byte = is_ascii_graphic byte && not (is_ascii_alphanumeric byte || byte == quote)

-- the bytes are a letter, followed by letters, digits and `_`
abbrev pub IsWord : List ℕ → Type 0
IsWord [] = ⊥
IsWord (first ∷ others) = IsTrue (is_ascii_alphabetic first) × IsTrue (list_all is_word_byte others)

-- the bytes are one or more digits
abbrev pub IsDigits : List ℕ → Type 0
IsDigits [] = ⊥
IsDigits (first ∷ others) = IsTrue (list_all is_ascii_digit (first ∷ others))

-- there are no bytes, or they are a point and digits
abbrev pub IsFraction : List ℕ → Type 0
IsFraction [] = Unit {0}
IsFraction (first ∷ others) = (first ≡ point) × IsDigits others

-- the bytes are digits, with an optional sign before them
abbrev pub IsSigned : List ℕ → Type 0
IsSigned [] = ⊥
IsSigned (first ∷ others) = IsDigits (first ∷ others) ⊎ (IsTrue (is_sign first) × IsDigits others)

-- there are no bytes, or they are `e` or `E`, an optional sign, and digits
abbrev pub IsExponent : List ℕ → Type 0
IsExponent [] = Unit {0}
IsExponent (first ∷ others) = IsTrue (is_exponent_letter first) × IsSigned others

-- the bytes are digits, an optional fraction, and an optional exponent
pub record IsNumber (bytes : List ℕ) : Type 0 where
  pub whole : List ℕ
  pub fraction : List ℕ
  pub exponent : List ℕ
  pub parts : bytes ≡ whole ++ (fraction ++ exponent)
  pub digits : IsDigits whole
  pub after_point : IsFraction fraction
  pub after_letter : IsExponent exponent

-- the bytes are a quote, bytes that a string may have, and a second quote
pub record IsQuoted (bytes : List ℕ) : Type 0 where
  pub inner : List ℕ
  pub quoted : bytes ≡ quote ∷ (inner ++ quote ∷ [])
  pub allowed : IsTrue (list_all is_text_byte inner)

-- there is one byte, and it is a mark
abbrev pub IsMark : List ℕ → Type 0
IsMark [] = ⊥
IsMark (byte ∷ []) = IsTrue (is_mark_byte byte)
IsMark (byte ∷ next ∷ others) = ⊥

-- the bytes have the form of a token of this kind
abbrev pub HasForm : TokenKind → List ℕ → Type 0
HasForm Word = IsWord
HasForm Number = IsNumber
HasForm Text = IsQuoted
HasForm Mark = IsMark

-- the first two bytes are dashes, which begin a comment
abbrev pub begins_comment : List ℕ → Bool
begins_comment [] = false
begins_comment (first ∷ []) = false
begins_comment (first ∷ second ∷ others) = first == dash && second == dash

-- a blank or a comment begins at the front
abbrev pub begins_gap : List ℕ → Bool
begins_gap [] = false
begins_gap (first ∷ others) = is_bsdl_blank first || begins_comment (first ∷ others)

-- These bytes are blanks and whole comments, and `more` is the rest of the text after them. A comment ends with its
-- line or with the text.
pub data IsGap (more : List ℕ) : List ℕ → Type 0 where
  nothing : IsGap more []
  blank : (byte : ℕ) (gap : List ℕ) → IsTrue (is_bsdl_blank byte) → IsGap more gap → IsGap more (byte ∷ gap)
  comment : (words gap : List ℕ) → IsTrue (list_all (λ byte. not (byte == line_feed)) words)
      → IsGap more (line_feed ∷ gap) → IsGap more (dash ∷ dash ∷ (words ++ line_feed ∷ gap))
  last_comment : (words : List ℕ) → IsTrue (list_all (λ byte. not (byte == line_feed)) words) → more ≡ [] → IsGap more (dash ∷ dash ∷ words)
