use Rattle.std.proofs.Common.{◌-◌, refl, sym, ap, length, take, append-nil, arith}
use Rattle.std.proofs.lemmas.List.{drop_all}
use Rattle.line_printer.proofs.PrintLemmas.{prints_ok, prints_err, prints_none, prints_same, prints_done}
use Rattle.device_check.specs.DeviceText.{code_text}
use Rattle.device_check.proofs.ListingLemmas.{code_next, code_left}
use Rattle.device_check.proofs.listing.print_code.Goals as goal

pub loop-at-init : goal.loop-at-init
loop-at-init g c = record {
  within = omega arith;
  printed =
      prints_same
      (sym (ap code_text (drop_all (length c.args.code.now) c.args.code.now (omega arith))))
      (prints_none tt (sym (append-nil c.args.line.now)));
}

pub returns-in_err-print : goal.returns-in_err-print
returns-in_err-print g c =
    prints_same
    (code_left c.args.code.now c.loop-at.at _ c.symbol_word.result.now c.loop-at-test.true
    c.loop-at.invariant.within c.symbol_word.ensures)
    (prints_ok c.loop-at.invariant.printed refl
    (prints_err (code_text (take (c.loop-at.at - 1) c.args.code.now)) c.print.ensures c.in_err-print.was c.from_residual.ensures.0))

pub loop-at-preserved : goal.loop-at-preserved
loop-at-preserved g c = record {
  within = omega arith;
  printed =
      prints_same
      (code_next c.args.code.now c.loop-at.at _ c.symbol_word.result.now c.loop-at-test.true
      c.loop-at.invariant.within c.symbol_word.ensures)
      (prints_ok c.loop-at.invariant.printed refl (prints_done c.print.ensures c.in_ok-print.was));
}
