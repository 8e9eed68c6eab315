-- The pieces of a string in a BSDL text: groups of adjacent letters, digits and `_`; single other
-- bytes; and the end of the string.
use Rattle.std.specs.Prelude.{ℕ, ◌==◌, List, [], ◌∷◌, Bool, true, false, ◌&&◌, ◌||◌, if◌then◌else◌}
use Rattle.std.specs.Char.{is_ascii_alphanumeric}

-- the byte is a space or a tab
abbrev pub is_string_blank : ℕ → Bool
is_string_blank byte = (byte == 32) || (byte == 9)

-- the byte is a letter, a digit or `_`
abbrev pub is_word_byte : ℕ → Bool
is_word_byte byte = is_ascii_alphanumeric byte || (byte == 95)

-- the first byte is a letter, a digit or `_`
abbrev pub starts_word : List ℕ → Bool
starts_word [] = false
starts_word (byte ∷ bytes) = is_word_byte byte

abbrev pub starts_blank : List ℕ → Bool
starts_blank [] = false
starts_blank (byte ∷ bytes) = is_string_blank byte

-- the pieces, with `byte` added in front of the first piece; if there are no pieces, `byte` is the
-- only piece
abbrev pub longer : ℕ → List (List ℕ) → List (List ℕ)
longer byte [] = (byte ∷ []) ∷ []
longer byte (piece ∷ pieces) = (byte ∷ piece) ∷ pieces

-- the piece is empty, which means that it is the end of the string
abbrev pub is_end : List ℕ → Bool
is_end [] = true
is_end (byte ∷ bytes) = false

-- The pieces of a text. The last piece is empty and stands for the end of the text. Blanks separate pieces and belong
-- to none.
unfoldable pub pieces : List ℕ → List (List ℕ)
pieces [] = [] ∷ []
pieces (byte ∷ bytes) =
    if is_string_blank byte then pieces bytes else
    if is_word_byte byte && starts_word bytes then longer byte (pieces bytes) else
    (byte ∷ []) ∷ pieces bytes
