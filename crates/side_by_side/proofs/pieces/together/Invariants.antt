use Rattle.std.proofs.Common.{◌≡◌, length}
use Rattle.std.specs.Vec.Iter.{into_iter_items, into_iter_len}
use Rattle.side_by_side.specs.Pieces.{then_later, together}
use Rattle.side_by_side.proofs.pieces.together.Given as goal

-- If the remaining answers are lists, the list joined so far, followed by these lists, is the joined list of all answers.
-- Otherwise the first fault of the remaining answers is the first fault of all answers.
abbrev pub invariant-loop-answer : goal.invariant-loop-answer
invariant-loop-answer g l = record {
  said : together (λ v. v.items) (into_iter_items l.initial.answer-iterator)
      ≡ then_later l.all.items (together (λ v. v.items) (into_iter_items l.answer-iterator));
  count : into_iter_len l.answer-iterator ≡ length (into_iter_items l.answer-iterator);
}
