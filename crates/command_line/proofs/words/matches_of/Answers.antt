use Rattle.std.proofs.Common.{◌∙◌}
use Rattle.command_line.proofs.Parses.{found_by, refused_by}
use Rattle.command_line.proofs.words.matches_of.Goals as goal

pub returns-in-Ok : goal.returns-in-Ok
returns-in-Ok c =
    found_by _ _ _ c.in_ok-whole_command.ensures c.requires c.in-Ok.ensures.kinds
    (λ simple. (c.in-Ok.ensures.matches simple).1)

pub returns-in_default : goal.returns-in_default
returns-in_default c =
    refused_by _ _ _ c.in_ok-whole_command.ensures c.requires c.in-Err.ensures.kinds
    (λ e. c.in_default.not-OutOfMemory (c.kind-kind.ensures ∙ e))
