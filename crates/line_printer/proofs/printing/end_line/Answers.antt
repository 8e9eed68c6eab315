use Rattle.std.proofs.Common.{refl, ◌∙◌, [], ◌∷◌}
use Rattle.line_printer.proofs.PrintLemmas.{prints_ok, prints_err, prints_put}
use Rattle.line_printer.proofs.printing.end_line.Goals as goal

pub returns-in_err-make_room : goal.returns-in_err-make_room
returns-in_err-make_room g c = prints_err (10 ∷ []) c.make_room.ensures.text c.in_err-make_room.was c.from_residual.ensures.0

pub returns : goal.returns
returns g c =
    prints_ok c.make_room.ensures.text c.in_ok-make_room.was (prints_put c.put.ensures (c.bytes.ensures ∙ c.push.ensures) refl)
