use Rattle.btest_core.proofs.RulesLemmas.{device_keeps, idents_keep, board_keeps}
use Rattle.btest_core.proofs.law.inputs_keep_rules.Goals as goal

pub returns-clause-device : goal.returns-clause-device
returns-clause-device c = device_keeps c.sound_devices_keep_rules.ensures

pub returns-clause-idents : goal.returns-clause-idents
returns-clause-idents c =
    idents_keep c.sound_devices_keep_rules.ensures c.selected_are_chains.ensures.chain
    c.selected_are_chains.ensures.count

pub returns-clause-board : goal.returns-clause-board
returns-clause-board c =
    board_keeps c.sound_devices_keep_rules.ensures c.selected_are_chains.ensures.chain
    c.selected_are_chains.ensures.count c.lengths_are_in_bounds.ensures c.boards_keep_rules.ensures
