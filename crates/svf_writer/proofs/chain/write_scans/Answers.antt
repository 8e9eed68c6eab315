use Rattle.std.proofs.Common.{length, arith}
use Rattle.bt_base.proofs.Cuts.{puts_ok, puts_err}
use Rattle.tap_defs.specs.chain.Text.{scan_text}
use Rattle.tap_defs.proofs.chain.ScanRowLemmas.{each_room}
use Rattle.svf_writer.proofs.FieldLemmas.{puts_same}
use Rattle.svf_writer.proofs.ChainLemmas.{mark_scan, scan_texts-chain, sum_at_most}
use Rattle.svf_writer.proofs.chain.write_scans.Goals as goal

pub write_codes-requires-clause-total : goal.write_codes-requires-clause-total
write_codes-requires-clause-total g c = omega (arith, sum_at_most c.args.lengths.now c.requires.each, c.requires.parts)

pub write_codes-requires-clause-room : goal.write_codes-requires-clause-room
write_codes-requires-clause-room g c = each_room (λ room is. is.codes) c.requires.room

pub returns-in_err-write_codes-clause-text : goal.returns-in_err-write_codes-clause-text
returns-in_err-write_codes-clause-text g c =
    puts_same (scan_texts-chain c.args.lengths.now)
    (puts_err (scan_text (mark_scan (length c.args.lengths.now))) c.write_codes.ensures.text
    c.in_err-write_codes.was c.from_residual.ensures.0)

pub returns-clause-text : goal.returns-clause-text
returns-clause-text g c =
    puts_same (scan_texts-chain c.args.lengths.now)
    (puts_ok c.write_codes.ensures.text c.in_ok-write_codes.was c.write_marks.ensures.text)
