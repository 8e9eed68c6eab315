use Rattle.std.proofs.Common.{sym}
use Rattle.bsdl_parser.specs.declared.entity.Attribute.TheVariants.{IdcodeRegister}
use Rattle.device_check.proofs.TextLemmas.{short_text}
use Rattle.device_check.proofs.strings.read_idcode.Goals as goal

pub pattern-requires : goal.pattern-requires
pattern-requires c = short_text c.args.entity.now IdcodeRegister c.in-Some.text.now c.requires (sym c.in-Some.ensures)
