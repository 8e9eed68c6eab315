use Rattle.std.proofs.Common.{◌≡◌, length}
use Rattle.grammars.specs.Grammar.{turns, reader_of_grammar}
use Rattle.bsdl_strings.specs.Pieces.{pieces}
use Rattle.bsdl_strings.specs.Strings.{bit_turn, bits}
use Rattle.bsdl_strings.proofs.compliance_string.bits.Given as goal

-- Reading the rest of the text, with the bits read so far as the start value, gives the same result as reading the
-- whole text.
abbrev pub invariant-bits : goal.invariant-bits
invariant-bits l = reader_of_grammar (turns bit_turn l.bits.items) (pieces l.rest) ≡ reader_of_grammar bits (pieces l.text)

abbrev pub decreases-bits : goal.decreases-bits
decreases-bits l = length (pieces l.rest)
