use Rattle.std.proofs.Common.{◌≡◌, length, []}
use Rattle.grammars.specs.Grammar.{turns, reader_of_grammar}
use Rattle.bsdl_parser.specs.Bsdl.{port_name}
use Rattle.bsdl_parser.proofs.cursor.Cursor.port_names.Given as goal

-- Reading the remaining tokens, with the names read so far as the start value, gives the same result as reading all
-- tokens.
abbrev pub invariant-loop-names : goal.invariant-loop-names
invariant-loop-names l = reader_of_grammar (turns port_name l.names.items) l.self ≡ reader_of_grammar (turns port_name []) l.fn.self

abbrev pub decreases-loop-names : goal.decreases-loop-names
decreases-loop-names l = length l.self
