use Rattle.ident_test.proofs.LengthLemmas.{room_of}
use Rattle.commands.proofs.ident_codes.tests_codes.Goals as goal

pub returns-clause-room : goal.returns-clause-room
returns-clause-room c = room_of c.args.patterns.now c.requires.whole c.requires.few
