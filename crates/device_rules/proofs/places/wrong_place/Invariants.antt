use Rattle.std.proofs.Common.{◌≡◌, take, drop}
use Rattle.first_places.specs.Items.{first_from}
use Rattle.device_rules.specs.Places.{breaks_place, v9}
use Rattle.device_rules.proofs.places.wrong_place.Given as goal

abbrev pub invariant-loop-i : goal.invariant-loop-i
invariant-loop-i l =
    first_from (λ before entry. breaks_place l.ports entry) (take l.i l.entries)
    (drop l.i l.entries) ≡ v9 l.ports l.entries
