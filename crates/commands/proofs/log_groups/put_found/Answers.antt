use Rattle.std.proofs.Common.{ℕ, List, Option, subst}
use Rattle.walk_test.specs.GroupText.{groups_text}
use Rattle.commands.specs.inner.Unput.{PutsText}
use Rattle.commands.proofs.log_groups.put_found.Goals as goal

pub returns : goal.returns
returns g c =
    subst
    (λ (found : Option (List (List ℕ))). PutsText (groups_text c.args.board.now found)
    (g.K.Sink.shown c.args.out.now) (g.K.Sink.shown c.write_groups.new.out)
    c.answer_by.result) c.lent.ensures (c.answer_by.ensures _ _ _ c.write_groups.ensures)
