use Rattle.std.proofs.Common.{sym, ◌∙◌}
use Rattle.grammars.specs.Lists.{list_of}
use Rattle.grammars.proofs.ListReaders.{each_takes, one_value}
use Rattle.bsdl_strings.specs.Pieces.{pieces}
use Rattle.bsdl_strings.specs.Places.{comma_or_end}
use Rattle.bsdl_strings.specs.Strings.{map_entry, opcode, entry, compliance}
use Rattle.bsdl_strings.proofs.Lists.{can_maps, can_opcodes, can_entries}
use Rattle.bsdl_strings.proofs.ComplianceLemmas.{compliance_takes}
use Rattle.bsdl_strings.proofs.law.strings_have_one_value.Goals as goal

pub returns-clause-pin_map : goal.returns-clause-pin_map
returns-clause-pin_map c = λ text a b. one_value (list_of map_entry comma_or_end) (each_takes can_maps) (pieces text) a b

pub returns-clause-opcodes : goal.returns-clause-opcodes
returns-clause-opcodes c = λ text a b. one_value (list_of opcode comma_or_end) (each_takes can_opcodes) (pieces text) a b

pub returns-clause-boundary : goal.returns-clause-boundary
returns-clause-boundary c = λ text a b. one_value (list_of entry comma_or_end) (each_takes can_entries) (pieces text) a b

pub returns-clause-pattern : goal.returns-clause-pattern
returns-clause-pattern c = λ text a b x y. x.1 ∙ sym y.1

pub returns-clause-compliance : goal.returns-clause-compliance
returns-clause-compliance c = λ text a b. one_value compliance compliance_takes (pieces text) a b
