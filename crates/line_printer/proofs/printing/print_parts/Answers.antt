use Rattle.std.proofs.Common.{refl, sym, drop, append-nil, arith}
use Rattle.std.proofs.lemmas.List.{take-append-drop}
use Rattle.line_printer.proofs.PrintLemmas.{prints_ok, prints_err, prints_none, prints_same, taken_more}
use Rattle.line_printer.proofs.printing.print_parts.Goals as goal

pub loop-at-init : goal.loop-at-init
loop-at-init g c = record {
  within = omega arith;
  printed = prints_none tt (sym (append-nil c.args.line.now));
}

pub returns-in_err-make_room : goal.returns-in_err-make_room
returns-in_err-make_room g c =
    prints_same (take-append-drop c.loop-at.at c.args.text.now)
    (prints_ok c.loop-at.invariant.printed refl
    (prints_err (drop c.loop-at.at c.args.text.now) c.make_room.ensures.text c.in_err-make_room.was c.from_residual.ensures.0))

pub loop-at-preserved : goal.loop-at-preserved
loop-at-preserved g c = record {
  within = omega arith;
  printed = prints_same (taken_more c.loop-at.at c.min-count.result c.args.text.now)
      (prints_ok c.loop-at.invariant.printed refl
      (prints_ok c.make_room.ensures.text c.in_ok-make_room.was
      (prints_none tt c.push.ensures)));
}
