use Rattle.bt_base.proofs.Cuts.{puts_ok, puts_err}
use Rattle.svf_writer.proofs.ends.write_head.Goals as goal

pub returns-in_err-put : goal.returns-in_err-put
returns-in_err-put g c = puts_err _ c.put.ensures c.in_err-put.was c.from_residual.ensures.0

pub returns-in_err-put-2 : goal.returns-in_err-put-2
returns-in_err-put-2 g c =
    puts_ok c.put.ensures c.in_ok-put.was
    (puts_err _ c.put-2.ensures c.in_err-put-2.was c.from_residual-in_err-put-2.ensures.0)

pub returns-in_err-put-3 : goal.returns-in_err-put-3
returns-in_err-put-3 g c =
    puts_ok c.put.ensures c.in_ok-put.was
    (puts_ok c.put-2.ensures c.in_ok-put-2.was
    (puts_err _ c.put-3.ensures c.in_err-put-3.was c.from_residual-in_err-put-3.ensures.0))

pub returns-in_err-put-4 : goal.returns-in_err-put-4
returns-in_err-put-4 g c =
    puts_ok c.put.ensures c.in_ok-put.was
    (puts_ok c.put-2.ensures c.in_ok-put-2.was
    (puts_ok c.put-3.ensures c.in_ok-put-3.was
    (puts_err _ c.put-4.ensures c.in_err-put-4.was c.from_residual-in_err-put-4.ensures.0)))

pub returns : goal.returns
returns g c =
    puts_ok c.put.ensures c.in_ok-put.was
    (puts_ok c.put-2.ensures c.in_ok-put-2.was
    (puts_ok c.put-3.ensures c.in_ok-put-3.was
    (puts_ok c.put-4.ensures c.in_ok-put-4.was c.put-5.ensures)))
