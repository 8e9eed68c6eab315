use Rattle.std.proofs.Common.{◌++◌}
use Rattle.bt_base.proofs.Cuts.{puts_ok, puts_err}
use Rattle.tap_defs.specs.chain.Text.{scan_text, tail_text}
use Rattle.svf_writer.proofs.FieldLemmas.{puts_same}
use Rattle.ident_test.specs.Patterns.{ident_scan}
use Rattle.ident_test.proofs.RowLemmas.{text_is}
use Rattle.ident_test.proofs.ident.write_ident.Goals as goal

pub returns-in_err-write_head-clause-text : goal.returns-in_err-write_head-clause-text
returns-in_err-write_head-clause-text g c =
    puts_same (text_is c.args.parts.now)
    (puts_err (scan_text (ident_scan c.args.parts.now) ++ tail_text) c.write_head.ensures c.in_err-write_head.was c.from_residual.ensures.0)

pub returns-in_err-put_scan-clause-text : goal.returns-in_err-put_scan-clause-text
returns-in_err-put_scan-clause-text g c =
    puts_same (text_is c.args.parts.now)
    (puts_ok c.write_head.ensures c.in_ok-write_head.was
    (puts_err tail_text c.put_scan.ensures.text c.in_err-put_scan.was c.from_residual-in_err-put_scan.ensures.0))

pub returns-clause-text : goal.returns-clause-text
returns-clause-text g c =
    puts_same (text_is c.args.parts.now)
    (puts_ok c.write_head.ensures c.in_ok-write_head.was
    (puts_ok c.put_scan.ensures.text c.in_ok-put_scan.was c.write_tail.ensures))
