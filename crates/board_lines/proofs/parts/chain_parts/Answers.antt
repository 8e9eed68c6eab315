-- Each step of the loop appends the part of one more line, if the line has one.
use Rattle.std.proofs.Common.{sym, subst}
use Rattle.std.specs.Prelude.{All}
use Rattle.std.specs.Vec.Iter.{into_iter_items}
use Rattle.board_defs.specs.BoardRules.{IsPart}
use Rattle.board_lines.proofs.ChainLemmas.{parts_step, all_option}
use Rattle.board_lines.proofs.parts.chain_parts.Goals as goal

pub loop-line-preserved : goal.loop-line-preserved
loop-line-preserved c = record {
  parts =
      parts_step c.args.lines.now c.loop-line.line-index c.line-item.result
      (into_iter_items c.loop-line.devices) (into_iter_items c.part_of_line.new.devices)
      c.in_ok-part.part c.loop-line.parts.items c.push_some.new.items.items _ c.loop-line-test.true
      (sym c.line-item.is) c.in_ok-part.ensures.part c.in_ok-part.ensures.rest
      c.in_ok-push_some.ensures c.loop-line.invariant.parts;
  kinds =
      subst (All (λ part. IsPart part.kind)) (sym c.in_ok-push_some.ensures)
      (all_option (λ part. IsPart part.kind) c.loop-line.parts.items c.in_ok-part.part
      c.loop-line.invariant.kinds c.in_ok-part.ensures.kind);
}
