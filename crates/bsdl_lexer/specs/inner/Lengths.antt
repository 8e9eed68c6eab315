-- The lengths of the longest token and of the longest gap at the front of a list of bytes. A gap consists of blanks and
-- comments.
use Rattle.std.specs.Prelude.{ℕ, suc, ◌+◌, List, [], ◌∷◌, drop, Bool, true, false, ◌==◌, if◌then◌else◌, Option, Some, None, slice_get}
use Rattle.std.specs.List.{prefix_len}
use Rattle.std.specs.Char.{is_ascii_alphabetic, is_ascii_digit}
use Rattle.bsdl_lexer.specs.declared.token.TokenKind.{TokenKind}
use Rattle.bsdl_lexer.specs.declared.token.TokenKind.TheVariants.{Word, Number, Text, Mark}
use Rattle.bsdl_lexer.specs.Forms.{is_bsdl_blank, is_word_byte, is_text_byte, is_mark_byte, is_exponent_letter, is_sign, begins_comment, line_feed, quote, point}

-- `front` plus the number of digits at the front of `bytes`, or 0 if there are no digits
abbrev pub with_digits : ℕ → List ℕ → ℕ
with_digits front bytes = if prefix_len is_ascii_digit bytes == 0 then 0 else front + prefix_len is_ascii_digit bytes

-- the length of a point and digits at the front, or 0
abbrev pub fraction_len : List ℕ → ℕ
fraction_len [] = 0
fraction_len (first ∷ others) = if first == point then with_digits 1 others else 0

-- The length of the exponent whose letter is the byte before these bytes. The length includes the letter. It is 0 if
-- these bytes do not begin with an optional sign and digits.
abbrev pub signed_len : List ℕ → ℕ
signed_len [] = 0
signed_len (first ∷ others) = if is_sign first then with_digits 2 others else with_digits 1 (first ∷ others)

-- the length of an exponent at the front, which is a letter, an optional sign and digits; or 0 if
-- there is none
abbrev pub exponent_len : List ℕ → ℕ
exponent_len [] = 0
exponent_len (first ∷ others) = if is_exponent_letter first then signed_len others else 0

abbrev pub number_len : List ℕ → ℕ
number_len bytes =
    let whole = prefix_len is_ascii_digit bytes in
    let fraction = fraction_len (drop whole bytes) in
    whole + (fraction + exponent_len (drop fraction (drop whole bytes)))

-- The kind and the length of a string token with `inner` bytes between its quotes. The first
-- argument is the byte after these bytes. The result is None if that byte is missing or is not a
-- quote.
abbrev pub closed_len : Option ℕ → ℕ → Option (TokenKind × ℕ)
closed_len None inner = None
closed_len (Some byte) inner = if byte == quote then Some (Text, suc (suc inner)) else None

-- the kind and the length of the token at the front, or None if no token begins there
abbrev pub token_at : List ℕ → Option (TokenKind × ℕ)
token_at [] = None
token_at (first ∷ others) =
    if begins_comment (first ∷ others) then None else
    if is_ascii_alphabetic first then Some (Word, suc (prefix_len is_word_byte others)) else
    if is_ascii_digit first then Some (Number, number_len (first ∷ others)) else
    if first == quote then closed_len (slice_get others (prefix_len is_text_byte others)) (prefix_len is_text_byte others) else
    if is_mark_byte first then Some (Mark, 1) else None

-- the length of the gap at the front; if `in_comment` is true, the front is inside a comment
abbrev pub gap_len : Bool → List ℕ → ℕ
gap_len in_comment [] = 0
gap_len true (first ∷ others) = suc (gap_len (if first == line_feed then false else true) others)
gap_len false (first ∷ others) =
    if is_bsdl_blank first then suc (gap_len false others) else
    if begins_comment (first ∷ others) then suc (gap_len true others) else 0
