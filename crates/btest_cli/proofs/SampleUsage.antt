-- The usage line names exactly the commands of the grammar, in their order.
use Rattle.std.proofs.Common.{◌≡◌, refl}
use Rattle.command_line.specs.Grammar.{usage}
use Rattle.refusal_lines.specs.Refusals.{usage_line}

usage_is : usage_line ≡ usage
usage_is = refl
