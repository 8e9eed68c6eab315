use Rattle.std.proofs.Common.{◌≡◌, ◌+◌, ◌<◌, ◌++◌, length, drop, sym, ap, ◌∙◌, arith}
use Rattle.bt_base.proofs.Cuts.{puts_ok, puts_err}
use Rattle.bt_bits.specs.Hex.{hex_text}
use Rattle.bt_bits.proofs.HexLemmas.{length-hex_text}
use Rattle.tap_defs.specs.chain.Text.{broken}
use Rattle.svf_writer.proofs.FieldLemmas.{line_more, line_last, puts_same}
use Rattle.svf_writer.proofs.scan.put_field.Goals as goal

pub returns-in_err-put_full_line : goal.returns-in_err-put_full_line
returns-in_err-put_full_line g c =
    let digits = hex_text c.args.row.now.bits in
    let from = c.loop-from.from in
    let long : from + 64 < length digits = omega (arith, length-hex_text c.args.row.now.bits) in
    c.loop-from.invariant.completes _ _
    (puts_same (line_more c.loop-from.line digits c.args.end.now from long)
    (puts_err (broken 64 (drop (from + 64) digits) ++ c.args.end.now) c.put_full_line.ensures.text
    c.in_err-put_full_line.was c.from_residual.ensures.0))

pub loop-from-preserved : goal.loop-from-preserved
loop-from-preserved g c =
    let digits = hex_text c.args.row.now.bits in
    let from = c.loop-from.from in
    let long : from + 64 < length digits = omega (arith, length-hex_text c.args.row.now.bits) in
    let empty = c.put_full_line.ensures.empty in
    record {
      within = omega arith;
      short = omega (arith, ap length empty);
      completes = λ new end more. c.loop-from.invariant.completes new end
          (puts_same (line_more c.loop-from.line digits c.args.end.now from long)
          (puts_ok c.put_full_line.ensures.text c.in_ok-put_full_line.was
          (puts_same (ap (λ t. t ++ (broken 64 (drop (from + 64) digits) ++ c.args.end.now)) empty) more)));
    }

pub returns : goal.returns
returns g c =
    let digits = hex_text c.args.row.now.bits in
    let count : c.digit_count-count.result ≡ length digits = c.digit_count-count.ensures ∙ sym (length-hex_text c.args.row.now.bits) in
    c.loop-from.invariant.completes _ _
    (puts_same
    (c.bytes.ensures ∙ c.push-2.ensures ∙ ap (λ t. t ++ c.args.end.now) c.put_hex.ensures
    ∙ line_last c.loop-from.line digits c.args.end.now c.loop-from.from
    c.digit_count-count.result count (omega arith)) c.put.ensures)
