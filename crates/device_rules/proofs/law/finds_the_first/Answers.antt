use Rattle.device_rules.specs.Ports.{breaks_port, v2}
use Rattle.device_rules.specs.PinMap.{breaks_map, v4}
use Rattle.instruction_rules.specs.Instructions.{breaks_opcode, v5}
use Rattle.device_rules.specs.Cells.{breaks_control, has_two_values, is_crowded, v10, v11, v12}
use Rattle.device_rules.specs.Places.{breaks_place, breaks_driver, breaks_mode, v9, v13, v14}
use Rattle.device_rules.proofs.ItemLemmas.{first_is_found}
use Rattle.device_rules.proofs.LeastLemmas.{is_least}
use Rattle.device_rules.proofs.NumberedLemmas.{v3_finds, v6_finds, v7_finds, v8_finds}
use Rattle.device_rules.proofs.law.finds_the_first.Goals as goal

pub returns-clause-v2 : goal.returns-clause-v2
unfolding v2
returns-clause-v2 c = λ ports. first_is_found breaks_port ports

pub returns-clause-v3 : goal.returns-clause-v3
returns-clause-v3 c = v3_finds

pub returns-clause-v4 : goal.returns-clause-v4
unfolding v4
returns-clause-v4 c = λ ports entries. first_is_found (breaks_map ports) entries

pub returns-clause-v5 : goal.returns-clause-v5
unfolding v5
returns-clause-v5 c = λ ir ops. first_is_found (breaks_opcode ir) ops

pub returns-clause-v6 : goal.returns-clause-v6
returns-clause-v6 c = v6_finds

pub returns-clause-v7 : goal.returns-clause-v7
returns-clause-v7 c = v7_finds

pub returns-clause-v8 : goal.returns-clause-v8
returns-clause-v8 c = v8_finds

pub returns-clause-v9 : goal.returns-clause-v9
unfolding v9
returns-clause-v9 c = λ ports entries. first_is_found (λ before entry. breaks_place ports entry) entries

pub returns-clause-v10 : goal.returns-clause-v10
unfolding v10
returns-clause-v10 c = λ entries. first_is_found (λ before entry. breaks_control entries entry) entries

pub returns-clause-v11 : goal.returns-clause-v11
unfolding v11
returns-clause-v11 c = λ boundary entries. is_least (has_two_values entries) boundary

pub returns-clause-v12 : goal.returns-clause-v12
unfolding v12
returns-clause-v12 c = λ boundary entries. is_least (is_crowded entries) boundary

pub returns-clause-v13 : goal.returns-clause-v13
unfolding v13
returns-clause-v13 c = λ ports entries. first_is_found (breaks_driver ports) entries

pub returns-clause-v14 : goal.returns-clause-v14
unfolding v14
returns-clause-v14 c = λ ports taps entries. first_is_found (λ before entry. breaks_mode ports taps entry) entries
