use Rattle.side_by_side.proofs.PieceLemmas.{of_one_piece}
use Rattle.side_by_side.proofs.pieces.in_pieces.Goals as goal

pub returns-then-pieces-eq1 : goal.returns-then-pieces-eq1
returns-then-pieces-eq1 g c =
    rw c.if-pieces-eq1.true
    (of_one_piece _ _ _ c.args.items c.work.result (rw (← c.piece_of.ensures.piece) c.work.ensures))
