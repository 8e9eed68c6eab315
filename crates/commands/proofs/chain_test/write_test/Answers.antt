use Rattle.bt_base.proofs.Cuts.{puts_ok, puts_err}
use Rattle.tap_defs.specs.chain.Text.{svf_text}
use Rattle.commands.proofs.chain_test.write_test.Goals as goal

pub returns-in_err-write_head : goal.returns-in_err-write_head
unfolding svf_text
returns-in_err-write_head g c = puts_err _ c.write_head.ensures c.in_err-write_head.was c.from_residual.ensures.0

pub returns-in_err-write_chain : goal.returns-in_err-write_chain
unfolding svf_text
returns-in_err-write_chain g c =
    puts_ok c.write_head.ensures c.in_ok-write_head.was
    (puts_err _ c.write_chain.ensures.text c.in_err-write_chain.was
    c.from_residual-in_err-write_chain.ensures.0)

pub returns : goal.returns
unfolding svf_text
returns g c =
    puts_ok c.write_head.ensures c.in_ok-write_head.was (puts_ok c.write_chain.ensures.text c.in_ok-write_chain.was c.write_tail.ensures)
