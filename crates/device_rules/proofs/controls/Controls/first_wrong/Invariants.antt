use Rattle.std.proofs.Common.{◌≡◌, take, drop}
use Rattle.first_places.specs.Items.{first_from}
use Rattle.device_rules.specs.Cells.{breaks_control, v10}
use Rattle.device_rules.proofs.controls.Controls.first_wrong.Given as goal

abbrev pub invariant-loop-i : goal.invariant-loop-i
invariant-loop-i l = first_from (λ before entry. breaks_control l.self entry) (take l.i l.entries) (drop l.i l.entries) ≡ v10 l.self
