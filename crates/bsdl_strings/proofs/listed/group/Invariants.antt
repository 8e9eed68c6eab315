use Rattle.std.proofs.Common.{length}
use Rattle.grammars.proofs.ListReaders.{Progress}
use Rattle.bsdl_strings.specs.Pieces.{pieces}
use Rattle.bsdl_strings.specs.Strings.{comma_or_close}
use Rattle.bsdl_strings.proofs.listed.group.Given as goal

abbrev pub invariant-entries : goal.invariant-entries
invariant-entries g l = Progress g.T.Listed.grammar comma_or_close (pieces l.text) (pieces l.rest) l.entries.items

abbrev pub decreases-entries : goal.decreases-entries
decreases-entries g l = length (pieces l.rest)
