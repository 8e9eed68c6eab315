use Rattle.std.proofs.Common.{◌≡◌, length}
use Rattle.board_defs.specs.Passes.{useful_controls}
use Rattle.driver_passes.specs.inner.Alike.{AreAlikeBelow}
use Rattle.driver_passes.proofs.alike.likes_of.Given as goal

abbrev pub invariant-loop-net : goal.invariant-loop-net
invariant-loop-net l = AreAlikeBelow l.board l.net l.likes.items × (length l.latest.items ≡ length (useful_controls l.board))
