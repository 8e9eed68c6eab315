use Rattle.std.proofs.Common.{ap, ◌∙◌}
use Rattle.board_defs.specs.declared.board.RawBoard.{RawBoard}
use Rattle.plan_tables.proofs.CodeLemmas.{board_coded}
use Rattle.plan_tables.proofs.SizeLemmas.{few_bits}
use Rattle.plan_tables.proofs.instructions.instruction_rows.Goals as goal

pub rows_of-requires-clause-coded : goal.rows_of-requires-clause-coded
rows_of-requires-clause-coded c =
    rw (c.as_slice.ensures ∙ ap (λ (b : RawBoard). b.chain) c.raw.ensures.value)
    (board_coded c.args.instruction c.args.board.now c.raw.ensures.rules)

pub rows_of-requires-clause-few : goal.rows_of-requires-clause-few
rows_of-requires-clause-few c =
    rw (c.as_slice.ensures ∙ ap (λ (b : RawBoard). b.chain) c.raw.ensures.value)
    (few_bits c.args.instruction c.args.board.now c.raw.ensures.rules)
