use Rattle.std.proofs.Common.{◌∙◌, sym}
use Rattle.driver_passes.proofs.making.first_pass.Goals as goal

pub returns : goal.returns
returns c = rw (sym (c.in_ok-tables.ensures ∙ c.of.ensures)) c.first_pass_by.ensures
