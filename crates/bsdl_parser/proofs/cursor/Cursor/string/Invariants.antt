use Rattle.std.proofs.Common.{◌≡◌, map, length}
use Rattle.std.specs.Char.{to_ascii_uppercase}
use Rattle.grammars.specs.Grammar.{turns, reader_of_grammar}
use Rattle.bsdl_parser.specs.Bsdl.{string_piece, string}
use Rattle.bsdl_parser.proofs.cursor.Cursor.string.Given as goal

-- Reading the remaining tokens, with the content read so far as the start value, gives the same result as reading all
-- tokens.
abbrev pub invariant-loop-content : goal.invariant-loop-content
invariant-loop-content l =
    reader_of_grammar (turns (string_piece l.close) (map to_ascii_uppercase l.content.items)) l.self
    ≡ reader_of_grammar (string l.close) l.fn.self

abbrev pub decreases-loop-content : goal.decreases-loop-content
decreases-loop-content l = length l.self
