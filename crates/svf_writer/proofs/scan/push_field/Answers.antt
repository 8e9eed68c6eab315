use Rattle.std.proofs.Common.{arith}
use Rattle.std.proofs.lemmas.Grind.{common_steps}
use Rattle.bt_bits.proofs.HexLemmas.{length-hex_text}
use Rattle.svf_writer.proofs.FieldLemmas.{whole_field}
use Rattle.svf_writer.proofs.scan.push_field.Goals as goal

pub returns-clause-text : goal.returns-clause-text
returns-clause-text c = let e = whole_field c.args.row.now.bits c.digit_count.result c.digit_count.ensures in grind (arith, common_steps)

pub returns-clause-longer : goal.returns-clause-longer
returns-clause-longer c =
    let e = whole_field c.args.row.now.bits c.digit_count.result c.digit_count.ensures in
    let n = length-hex_text c.args.row.now.bits in
    grind (arith, common_steps)
