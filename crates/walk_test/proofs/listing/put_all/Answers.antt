use Rattle.std.specs.List.{flat_map}
use Rattle.line_printer.proofs.PrintLemmas.{prints_ok, prints_err}
use Rattle.walk_test.specs.GroupText.{group_text}
use Rattle.walk_test.proofs.listing.put_all.Goals as goal

pub returns-in_err-put_count : goal.returns-in_err-put_count
returns-in_err-put_count g c =
    prints_err (flat_map (group_text c.args.board.now) c.args.groups.now) c.put_count.ensures
    c.in_err-put_count.was c.from_residual.ensures.0

pub returns : goal.returns
returns g c = prints_ok c.put_count.ensures c.in_ok-put_count.was c.put_groups.ensures
