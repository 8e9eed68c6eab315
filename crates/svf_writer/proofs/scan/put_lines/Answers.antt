use Rattle.std.proofs.Common.{◌∙◌}
use Rattle.bt_base.proofs.Cuts.{puts_ok, puts_err}
use Rattle.svf_writer.proofs.FieldLemmas.{puts_same}
use Rattle.svf_writer.proofs.scan.put_lines.Goals as goal

pub returns-in_err-put : goal.returns-in_err-put
returns-in_err-put g c =
    puts_err _ (puts_same (c.bytes.ensures ∙ c.push.ensures) c.put.ensures) c.in_err-put.was c.from_residual.ensures.0

pub returns : goal.returns
returns g c = puts_ok (puts_same (c.bytes.ensures ∙ c.push.ensures) c.put.ensures) c.in_ok-put.was c.put_fields.ensures
