-- The entities of BSDL texts. An answer is a value or the first fault.
use Rattle.std.specs.Prelude.{◌≡◌, ℕ, List, Result, Ok, Err}
use Rattle.std.specs.List.{enumerate_from}
use Rattle.bsdl_lexer.specs.declared.token.Token.{Token}
use Rattle.bsdl_lexer.specs.declared.token.LexFault.{LexFault}
use Rattle.bsdl_lexer.specs.Tokens.{AreTokens}
use Rattle.bsdl_lexer.specs.Answer as lexer
use Rattle.bsdl_parser.specs.declared.entity.Entity.{Entity}
use Rattle.bsdl_parser.specs.declared.fault.ParseFault.{ParseFault}
use Rattle.bsdl_parser.specs.Lexeme.{lexemes}
use Rattle.bsdl_parser.specs.Answer.{Derives}
use Rattle.bsdl_parser.specs.Answer as parser
use Rattle.btest_core.specs.declared.fault.InputFault.{InputFault}
use Rattle.btest_core.specs.declared.fault.InputFault.TheVariants.{Chain, Nets, Lex, Parse, Board, Device, Link, NoIdent, Memory}
use Rattle.btest_core.specs.Answers.{EachOf}

-- the text has these tokens, and the grammar derives the entity from them
pub record IsEntity (text : List ℕ) (entity : Entity) : Type 0 where
  pub tokens : List Token
  pub are : AreTokens text tokens
  pub derives : Derives (lexemes text tokens) entity

-- `fault` describes the point at which the lexer stops: a byte that begins no blank, comment or
-- token, an unclosed string, or a token beyond the limit
pub record IsLexFault (text : List ℕ) (fault : LexFault) : Type 0 where
  pub tokens : List Token
  pub stops : lexer.IsLexerFault text tokens fault

-- the text has these tokens, the grammar derives no entity from them, and `fault` says why
pub record IsParseFault (text : List ℕ) (fault : ParseFault) : Type 0 where
  pub tokens : List Token
  pub are : AreTokens text tokens
  pub stops : parser.IsParserFault text (lexemes text tokens) fault

-- the fault is the first fault of BSDL text `n`
abbrev pub IsTextFault : List ℕ → ℕ → InputFault → Type 0
IsTextFault text n (Lex number fault) = (number ≡ n) × IsLexFault text fault
IsTextFault text n (Parse number fault) = (number ≡ n) × IsParseFault text fault
IsTextFault text n (Chain fault) = ⊥
IsTextFault text n (Nets fault) = ⊥
IsTextFault text n (Board fault) = ⊥
IsTextFault text n (Device number fault) = ⊥
IsTextFault text n (Link fault) = ⊥
IsTextFault text n (NoIdent line) = ⊥
IsTextFault text n (Memory error) = ⊥

-- the answer for BSDL text `n` is its entity, or its first fault
abbrev pub IsEntityOf : List ℕ → ℕ → Result Entity InputFault → Type 0
IsEntityOf text n (Ok entity) = IsEntity text entity
IsEntityOf text n (Err fault) = IsTextFault text n fault

abbrev pub IsEntityOfText : ℕ × List ℕ → Result Entity InputFault → Type 0
IsEntityOfText numbered = IsEntityOf numbered.1 numbered.0

-- the answer for the texts is their entities, in the order of the texts, or the first fault of the
-- first text that has a fault
abbrev pub AreEntities : List (List ℕ) → Result (List Entity) InputFault → Type 0
AreEntities texts = EachOf IsEntityOfText (enumerate_from 0 texts)
