use Rattle.std.proofs.Common.{◌≡◌, map}
use Rattle.std.specs.Prelude.{filter_map}
use Rattle.std.specs.List.{range_with_len}
use Rattle.net_facts.specs.Cells.{table}
use Rattle.net_facts.specs.inner.Answers.{pin_class_in, tested_drive_in}
use Rattle.net_facts.proofs.tested.tested_pins.Given as goal

abbrev pub invariant-loop-place : goal.invariant-loop-place
invariant-loop-place l =
    (l.classes ≡ map (pin_class_in (table l.rows) l.net) (range_with_len 0 l.place))
    × (l.drivers ≡ filter_map (tested_drive_in (table l.rows) l.net) (range_with_len 0 l.place))
