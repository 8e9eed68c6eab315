use Rattle.std.proofs.Common.{◌≡◌, take, fold}
use Rattle.plan_tables.specs.inner.Codes.{marked_on}
use Rattle.plan_tables.proofs.codes.mark_passes.Given as goal

abbrev pub invariant-loop-pass : goal.invariant-loop-pass
invariant-loop-pass l = l.flags ≡ fold (marked_on l.placed.board.now l.table) l.initial.flags (take l.pass-index l.passes)
