-- The tokens of an SVF text (SVF Revision E): words, parentheses and semicolons. Blanks and line ends separate words. They are
-- optional next to a parenthesis or a semicolon.
use Rattle.std.specs.Prelude.{ℕ, ◌==◌, Bool, true, false, cond, ◌&&◌, ◌||◌, List, [], ◌∷◌, ◌++◌, Option, Some, None, option_map, if◌then◌else◌}

-- The text without comments. A comment begins with ! or // and ends with its line. The first argument says whether a comment
-- has begun.
abbrev pub without_comments : Bool → List ℕ → List ℕ
without_comments comment [] = []
without_comments true (b ∷ bytes) = cond (b == 10) (10 ∷ without_comments false bytes) (without_comments true bytes)
without_comments false (b ∷ []) = cond (b == 33) [] (b ∷ [])
without_comments false (b ∷ c ∷ bytes) =
    cond ((b == 33) || ((b == 47) && (c == 47))) (without_comments true (c ∷ bytes)) (b ∷ without_comments false (c ∷ bytes))

-- a token: a word, an opening or a closing parenthesis, or a semicolon
pub data Token : Type 0 where
  Word : List ℕ → Token
  Open : Token
  Close : Token
  End : Token

-- true if the byte is a space, a tab, a line feed or a carriage return
abbrev pub is_svf_blank : ℕ → Bool
is_svf_blank b = (b == 32) || (b == 9) || (b == 10) || (b == 13)

-- the word that ends here, if one has begun, followed by the tokens
abbrev pub ended : List ℕ → List Token → List Token
ended [] tokens = tokens
ended (b ∷ word) tokens = Word (b ∷ word) ∷ tokens

-- The tokens of a text without comments. The first argument is the part of a word that has been read.
unfoldable pub tokens_from : List ℕ → List ℕ → List Token
tokens_from word [] = ended word []
tokens_from word (b ∷ bytes) =
    if is_svf_blank b
    then ended word (tokens_from [] bytes)
    else (if b == 40
    then ended word (Open ∷ tokens_from [] bytes)
    else (if b == 41
    then ended word (Close ∷ tokens_from [] bytes)
    else (if b == 59 then ended word (End ∷ tokens_from [] bytes) else tokens_from (word ++ b ∷ []) bytes)))

-- The tokens of each statement without its semicolon, or None if the last statement has no semicolon. The first argument
-- is the part of a statement that has been read.
abbrev pub pieces_from : List Token → List Token → Option (List (List Token))
pieces_from piece (End ∷ tokens) = option_map (λ pieces. piece ∷ pieces) (pieces_from [] tokens)
pieces_from piece (Word w ∷ tokens) = pieces_from (piece ++ Word w ∷ []) tokens
pieces_from piece (Open ∷ tokens) = pieces_from (piece ++ Open ∷ []) tokens
pieces_from piece (Close ∷ tokens) = pieces_from (piece ++ Close ∷ []) tokens
pieces_from [] [] = Some []
pieces_from (t ∷ piece) [] = None
