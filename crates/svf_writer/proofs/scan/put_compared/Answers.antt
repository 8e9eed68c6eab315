use Rattle.bt_base.proofs.Cuts.{puts_ok, puts_err}
use Rattle.svf_writer.proofs.scan.put_compared.Goals as goal

pub returns-in_err-put_field : goal.returns-in_err-put_field
returns-in_err-put_field g c = puts_err _ c.put_field.ensures c.in_err-put_field.was c.from_residual.ensures.0

pub returns-in_err-put_field-2 : goal.returns-in_err-put_field-2
returns-in_err-put_field-2 g c =
    puts_ok c.put_field.ensures c.in_ok-put_field.was
    (puts_err _ c.put_field-2.ensures c.in_err-put_field-2.was c.from_residual-in_err-put_field-2.ensures.0)

pub returns : goal.returns
returns g c =
    puts_ok c.put_field.ensures c.in_ok-put_field.was
    (puts_ok c.put_field-2.ensures c.in_ok-put_field-2.was c.put_field-3.ensures)
