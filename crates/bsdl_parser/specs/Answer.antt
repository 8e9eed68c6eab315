-- The answer to a text: the entity that the grammar derives from its tokens, or the first fault.
use Rattle.std.specs.Prelude.{◌≡◌, ℕ, ◌+◌, ◌-◌, List, [], ◌∷◌, ◌++◌, length, take, count_by, ◌==◌, ◌⊎◌, IsTrue, Option, Some, None, Result, Ok, Err, codes}
use Rattle.grammars.specs.Grammar.{production_of}
use Rattle.bsdl_parser.specs.declared.entity.Entity.{Entity}
use Rattle.bsdl_parser.specs.declared.fault.ParseFault.{ParseFault}
use Rattle.bsdl_parser.specs.declared.fault.ParseFault.TheVariants.{Expected, Package, Memory}
use Rattle.bsdl_parser.specs.Lexeme.{Lexeme}
use Rattle.bsdl_parser.specs.Places.{is_the_word}
use Rattle.bsdl_parser.specs.Bsdl.{file}

-- the tokens are a whole file, whose value is `entity`
abbrev pub Derives : List Lexeme → Entity → Type 0
Derives tokens entity = (production_of file).Whole tokens entity

-- the tokens are a prefix of some file
abbrev pub BeginsFile : List Lexeme → Type 0
BeginsFile tokens = (production_of file).Cut tokens

-- `tokens` consists of `before`, `token` and `after`; `before` is a prefix of some file, but `before`
-- followed by `token` is not
pub record IsStray (tokens before : List Lexeme) (token : Lexeme) (after : List Lexeme) : Type 0 where
  pub split : tokens ≡ before ++ token ∷ after
  pub begins : BeginsFile before
  pub stray : BeginsFile (before ++ token ∷ []) → ⊥

-- the token is the word `package`, and is either the first of the text or directly after a whole
-- file
pub record StartsPackage (before : List Lexeme) (token : Lexeme) : Type 0 where
  pub word : IsTrue (is_the_word (codes "PACKAGE") token)
  pub place : (before ≡ []) ⊎ ((entity : Entity) × Derives before entity)

-- the first stray token is on this line, and `IsSuch` holds for the tokens before it and the token
pub record StraysAt (tokens : List Lexeme) (line : ℕ) (IsSuch : List Lexeme → Lexeme → Type 0) : Type 0 where
  pub before : List Lexeme
  pub token : Lexeme
  pub after : List Lexeme
  pub stray : IsStray tokens before token after
  pub line_is : line ≡ token.line
  pub such : IsSuch before token

-- the tokens are a prefix of a file, but not a whole file
pub record IsUnfinished (tokens : List Lexeme) : Type 0 where
  pub begins : BeginsFile tokens
  pub no_entity : (entity : Entity) → Derives tokens entity → ⊥

-- The line of the last byte, or 1 for an empty text. A line feed belongs to the line that it ends.
abbrev pub last_line : List ℕ → ℕ
last_line text = 1 + count_by (λ byte. byte == 10) (take (length text - 1) text)

abbrev pub IsParserFault : List ℕ → List Lexeme → ParseFault → Type 0
IsParserFault text tokens (Expected line) =
    StraysAt tokens line (λ before token. StartsPackage before token → ⊥) ⊎ (IsUnfinished tokens × (line ≡ last_line text))
IsParserFault text tokens (Package line) = StraysAt tokens line StartsPackage
IsParserFault text tokens (Memory error) = ⊥

abbrev pub IsParseAnswer : List ℕ → List Lexeme → Result Entity ParseFault → Type 0
IsParseAnswer text tokens (Ok entity) = Derives tokens entity
IsParseAnswer text tokens (Err fault) = IsParserFault text tokens fault

-- the fault, or None if memory ran out
abbrev pub parse_told : ParseFault → Option ParseFault
parse_told (Memory error) = None
parse_told fault = Some fault
