use Rattle.std.proofs.Common.{refl}
use Rattle.diagnoser.proofs.search.Search.suspects.Goals as goal

pub returns : goal.returns
returns c = rw (← c.self.view_is) (record { value = refl; suspects = c.self.invariant.suspects_are })
