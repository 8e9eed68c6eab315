use Rattle.line_printer.proofs.PrintLemmas.{puts_of}
use Rattle.walk_test.specs.GroupText.{groups_text}
use Rattle.walk_test.proofs.listing.write_groups.Goals as goal

pub returns-in-None : goal.returns-in-None
unfolding groups_text
returns-in-None g c = rw c.in-None.is (puts_of c.put_none.ensures)

pub returns-in-Some : goal.returns-in-Some
unfolding groups_text
returns-in-Some g c = rw c.in-Some.is (puts_of c.put_all.ensures)
