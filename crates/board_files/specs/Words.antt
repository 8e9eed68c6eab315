-- Checks of the words in a board's files.
use Rattle.std.specs.Prelude.{ℕ, ◌==◌, Bool, not, ◌&&◌, ◌||◌, List, [], ◌∷◌, Option, Some, None, map}
use Rattle.std.specs.List.{list_all, list_any}
use Rattle.std.specs.Char.{to_ascii_uppercase, is_ascii_alphanumeric}
use Rattle.text_lines.specs.Words.{Word, is_word}

abbrev pub is_dot : ℕ → Bool
is_dot b = b == 46

-- the word may be the name of a part: 1 to 255 visible ASCII bytes without `.`
abbrev pub is_part : Word → Bool
is_part word = is_word word && not (list_any is_dot word)

abbrev pub is_symbol_byte : ℕ → Bool
is_symbol_byte b = is_ascii_alphanumeric b || (b == 95)

-- the word has 1 to 255 bytes, each a letter, a digit or `_`
abbrev pub is_symbol_word : Word → Bool
is_symbol_word word = is_word word && list_all is_symbol_byte word

abbrev pub upper_word : Word → Word
upper_word word = map to_ascii_uppercase word

-- the word, if there is exactly one
abbrev pub one_of : List Word → Option Word
one_of (a ∷ []) = Some a
one_of [] = None
one_of (a ∷ b ∷ more) = None

-- the two words, if there are exactly two
abbrev pub two_of : List Word → Option (Word × Word)
two_of (a ∷ b ∷ []) = Some (a, b)
two_of [] = None
two_of (a ∷ []) = None
two_of (a ∷ b ∷ c ∷ more) = None

-- the three words, if there are exactly three
abbrev pub three_of : List Word → Option (Word × Word × Word)
three_of (a ∷ b ∷ c ∷ []) = Some (a, b, c)
three_of [] = None
three_of (a ∷ []) = None
three_of (a ∷ b ∷ []) = None
three_of (a ∷ b ∷ c ∷ d ∷ more) = None
