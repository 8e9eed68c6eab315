-- The lines of a text, and the words of a line.
use Rattle.std.specs.Prelude.{◌≡◌, ℕ, ◌<◌, ◌==◌, Bool, true, false, not, ◌&&◌, ◌||◌, List, [], ◌∷◌, length, nat_le, filter, take_while, Option, Some, None}
use Rattle.std.specs.List.{list_all, slice_split, position_or_len, before_first, after_first}
use Rattle.std.specs.Char.{is_ascii_graphic}

abbrev pub Word : Type 0
Word = List ℕ

abbrev pub is_newline : ℕ → Bool
is_newline b = b == 10

-- true if the byte is a carriage return, a tab or a space
abbrev pub is_line_blank : ℕ → Bool
is_line_blank b = (b == 13) || (b == 9) || (b == 32)

abbrev pub is_filled : Word → Bool
is_filled [] = false
is_filled (b ∷ bs) = true

abbrev pub begins_no_comment : Word → Bool
begins_no_comment [] = true
begins_no_comment (b ∷ bs) = not (b == 35)

-- the words of a line: the nonempty pieces between blanks; a piece that begins with `#`, and all pieces after it, are
-- left out
unfoldable pub words_of : List ℕ → List Word
words_of line = take_while begins_no_comment (filter is_filled (slice_split is_line_blank line))

-- the largest number of bytes that a word can have
abbrev pub most_word_bytes : ℕ
most_word_bytes = 255

-- true if the word has 1 to 255 bytes, each from 33 to 126
abbrev pub is_word : Word → Bool
is_word word = is_filled word && nat_le (length word) most_word_bytes && list_all is_ascii_graphic word

-- the lines of the text that is left, or no lines if no text is left
abbrev pub lines_of : Option (List ℕ) → List (List ℕ)
lines_of None = []
lines_of (Some text) = slice_split is_newline text

-- The parts are the bytes before and after the first byte that passes the test. None means that no byte passes.
abbrev pub IsCutAt : (ℕ → Bool) → List ℕ → Option (List ℕ × List ℕ) → Type 0
IsCutAt p text None = position_or_len p text ≡ length text
IsCutAt p text (Some (before, behind)) =
    (position_or_len p text < length text) × (before ≡ before_first p text)
    × (behind ≡ after_first p text)

-- true if the text begins with a blank
abbrev pub begins_blank : List ℕ → Bool
begins_blank [] = false
begins_blank (b ∷ bs) = is_line_blank b

-- true if the text begins with a byte other than `#`
abbrev pub begins_word : List ℕ → Bool
begins_word text = is_filled text && begins_no_comment text
