use Rattle.std.proofs.Common.{◌≡◌, length, []}
use Rattle.grammars.specs.Grammar.{turns, reader_of_grammar}
use Rattle.bsdl_parser.specs.Bsdl.{port_group}
use Rattle.bsdl_parser.proofs.cursor.Cursor.port_groups.Given as goal

-- Reading the remaining tokens, with the ports read so far as the start value, gives the same result as reading all
-- tokens.
abbrev pub invariant-loop-ports : goal.invariant-loop-ports
invariant-loop-ports l = reader_of_grammar (turns port_group l.ports.items) l.self ≡ reader_of_grammar (turns port_group []) l.fn.self

abbrev pub decreases-loop-ports : goal.decreases-loop-ports
decreases-loop-ports l = length l.self
