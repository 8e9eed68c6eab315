use Rattle.std.proofs.Common.{◌≡◌, take, drop}
use Rattle.first_places.specs.Items.{first_from}
use Rattle.device_rules.specs.Places.{breaks_mode, v14}
use Rattle.device_rules.proofs.places.misfit.Given as goal

abbrev pub invariant-loop-i : goal.invariant-loop-i
invariant-loop-i l =
    first_from (λ before entry. breaks_mode l.ports l.taps entry) (take l.i l.entries)
    (drop l.i l.entries) ≡ v14 l.ports l.taps l.entries
