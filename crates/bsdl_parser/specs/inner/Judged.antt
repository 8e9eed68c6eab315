-- The answer to a text, which is its entity or its first fault, computed from the result of the reader of a file.
use Rattle.std.specs.Prelude.{ℕ, List, [], ◌∷◌, length, Bool, ◌&&◌, ◌==◌, if◌then◌else◌, Option, Some, None, Result, Ok, Err, codes}
use Rattle.grammars.specs.inner.Reader.{Outcome, found, refused}
use Rattle.bsdl_parser.specs.declared.cursor.Front.{Front}
use Rattle.bsdl_parser.specs.declared.entity.Entity.{Entity}
use Rattle.bsdl_parser.specs.declared.fault.ParseFault.{ParseFault}
use Rattle.bsdl_parser.specs.declared.fault.ParseFault.TheVariants.{Expected, Package}
use Rattle.bsdl_parser.specs.Lexeme.{Lexeme}
use Rattle.bsdl_parser.specs.Places.{is_the_word}
use Rattle.bsdl_parser.specs.Answer.{last_line}

abbrev pub is_package : Lexeme → Bool
is_package token = is_the_word (codes "PACKAGE") token

-- the first of these tokens, as far as a fault depends on it: a flag that says whether it is the
-- word `package`, and its line; or None if there is no token
abbrev pub front_of : List Lexeme → Option Front
front_of [] = None
front_of (token ∷ after) = Some (record { is_package = is_package token; line = token.line })

abbrev pub fault_on_line : Bool → ℕ → ParseFault
fault_on_line starts_package line = if starts_package then Package line else Expected line

-- The answer if the reader found a whole file. A token after the file is a fault, and `front`
-- describes this token.
abbrev pub behind_file : Entity → Option Front → Result Entity ParseFault
behind_file entity None = Ok entity
behind_file entity (Some front) = Err (fault_on_line front.is_package front.line)

-- The answer if the reader stopped inside a file, at the token that `front` describes or at the end
-- of the text. The word `package` begins a package text only if it is the first token.
abbrev pub inside_file : List ℕ → Bool → Option Front → Result Entity ParseFault
inside_file text is_first None = Err (Expected (last_line text))
inside_file text is_first (Some front) = Err (fault_on_line (front.is_package && is_first) front.line)

abbrev pub judged : List ℕ → List Lexeme → Outcome Lexeme Entity → Result Entity ParseFault
judged text tokens (found entity after) = behind_file entity (front_of after)
judged text tokens (refused left) = inside_file text (length left == length tokens) (front_of left)
