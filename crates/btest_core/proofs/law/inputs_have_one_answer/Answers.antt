use Rattle.btest_core.proofs.SomeLemmas.{some_device, some_chain, some_idents, some_board}
use Rattle.btest_core.proofs.OneLemmas.{device_text_one, chain_one, idents_one, board_one}
use Rattle.btest_core.proofs.law.inputs_have_one_answer.Goals as goal

pub returns-clause-device : goal.returns-clause-device
returns-clause-device c =
    device_text_one c.texts_have_one_answer.ensures.one c.token_lists_have_one_answer.ensures.one
    c.entities_have_one_answer.ensures.one

pub returns-clause-chain : goal.returns-clause-chain
returns-clause-chain c =
    chain_one c.texts_have_one_answer.ensures.one c.token_lists_have_one_answer.ensures.one
    c.entities_have_one_answer.ensures.one

pub returns-clause-idents : goal.returns-clause-idents
returns-clause-idents c =
    idents_one c.texts_have_one_answer.ensures.one c.token_lists_have_one_answer.ensures.one
    c.entities_have_one_answer.ensures.one

pub returns-clause-board : goal.returns-clause-board
returns-clause-board c =
    board_one c.texts_have_one_answer.ensures.one c.token_lists_have_one_answer.ensures.one
    c.entities_have_one_answer.ensures.one

pub returns-clause-some_device : goal.returns-clause-some_device
returns-clause-some_device c =
    some_device c.texts_have_one_answer.ensures.some c.token_lists_have_one_answer.ensures.some
    c.entities_have_one_answer.ensures.some

pub returns-clause-some_chain : goal.returns-clause-some_chain
returns-clause-some_chain c =
    some_chain c.texts_have_one_answer.ensures.some c.token_lists_have_one_answer.ensures.some
    c.entities_have_one_answer.ensures.some c.selected_are_entities.ensures

pub returns-clause-some_idents : goal.returns-clause-some_idents
returns-clause-some_idents c =
    some_idents c.texts_have_one_answer.ensures.some c.token_lists_have_one_answer.ensures.some
    c.entities_have_one_answer.ensures.some c.selected_are_entities.ensures

pub returns-clause-some_board : goal.returns-clause-some_board
returns-clause-some_board c =
    some_board c.texts_have_one_answer.ensures.some c.token_lists_have_one_answer.ensures.some
    c.entities_have_one_answer.ensures.some c.selected_are_entities.ensures
