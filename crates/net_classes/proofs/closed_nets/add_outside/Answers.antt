use Rattle.std.proofs.Common.{sym}
use Rattle.net_classes.proofs.OtherControls.{inside, outside}
use Rattle.net_classes.proofs.closed_nets.add_outside.Goals as goal

pub returns-then-has : goal.returns-then-has
returns-then-has c board passes is = inside board passes c.args.others.now c.args.set.now c.args.c (sym c.if-has.ensures) is

pub returns : goal.returns
returns c board passes is =
    outside board passes c.insert.new.self c.args.set.now c.args.c (sym c.if-has.ensures)
    (c.in_ok-insert.ensures board passes is)
