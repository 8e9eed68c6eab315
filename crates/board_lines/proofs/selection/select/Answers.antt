-- If the selection finds no fault, the chain has 1 to 255 parts with different names.
use Rattle.std.proofs.Common.{arith}
use Rattle.std.proofs.lemmas.Result.{IfOk-weaker}
use Rattle.board_lines.proofs.SelectLemmas.{selected_chain}
use Rattle.board_lines.proofs.NumberLemmas.{if_selected}
use Rattle.board_lines.proofs.selection.select.Goals as goal

pub returns-clause-chain : goal.returns-clause-chain
returns-clause-chain c =
    IfOk-weaker c.entity_numbers.result _ _ (λ v h. h.0)
    (selected_chain (λ numbers. numbers.items) c.args.chain.now c.args.entities.now
    c.entity_numbers.result c.entity_numbers.ensures)

pub returns-clause-count : goal.returns-clause-count
returns-clause-count c =
    IfOk-weaker c.entity_numbers.result _ _ (λ v h. omega (arith, h.1, v.ok.0))
    (selected_chain (λ numbers. numbers.items) c.args.chain.now c.args.entities.now
    c.entity_numbers.result c.entity_numbers.ensures)

pub returns-clause-within : goal.returns-clause-within
returns-clause-within c = if_selected c.args.chain.now c.args.entities.now c.entity_numbers.result c.entity_numbers.ensures
