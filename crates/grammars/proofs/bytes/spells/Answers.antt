use Rattle.std.proofs.Common.{◌∙◌}
use Rattle.std.specs.Char.{to_ascii_uppercase}
use Rattle.grammars.proofs.Spelled.{each_agrees}
use Rattle.grammars.proofs.bytes.spells.Goals as goal

pub returns-then-bytes-name : goal.returns-then-bytes-name
returns-then-bytes-name c = c.each_agrees.ensures ∙ each_agrees to_ascii_uppercase c.args.bytes.now c.args.name.now c.if-bytes-name.true
