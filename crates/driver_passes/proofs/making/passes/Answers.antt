use Rattle.std.proofs.Common.{◌∙◌, sym}
use Rattle.driver_passes.proofs.making.passes.Goals as goal

pub returns-clause-made : goal.returns-clause-made
returns-clause-made c = rw (sym (c.in_ok-tables.ensures ∙ c.of.ensures)) c.passes_by.ensures.made

pub returns-clause-useful : goal.returns-clause-useful
returns-clause-useful c = rw (sym (c.in_ok-tables.ensures ∙ c.of.ensures)) c.passes_by.ensures.useful
