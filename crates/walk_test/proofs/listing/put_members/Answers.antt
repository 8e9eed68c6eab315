use Rattle.std.specs.List.{flat_map}
use Rattle.line_printer.proofs.PrintLemmas.{prints_ok, prints_err}
use Rattle.walk_test.specs.GroupText.{net_line}
use Rattle.walk_test.proofs.listing.put_members.Goals as goal

pub returns-in_err-put_size : goal.returns-in_err-put_size
returns-in_err-put_size g c =
    prints_err (flat_map (net_line c.args.board.now) c.args.nets.now) c.put_size.ensures
    c.in_err-put_size.was c.from_residual.ensures.0

pub returns : goal.returns
returns g c = prints_ok c.put_size.ensures c.in_ok-put_size.was c.put_nets.ensures
