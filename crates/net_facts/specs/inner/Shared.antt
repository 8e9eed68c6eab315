-- The nets that have drivers of two or more controls, as the code finds them from the facts about the nets.
use Rattle.std.specs.Prelude.{ℕ, Bool, true, false, List, map, fold, filter, Option, Some, None, slice_index_or, cond}
use Rattle.board_defs.specs.declared.board.Ctl.{Ctl}
use Rattle.board_defs.specs.declared.board.Drive.{Drive}
use Rattle.board_defs.specs.declared.board.Drive.TheVariants.{AlwaysOn, OneSided, By}
use Rattle.board_defs.specs.Settings.{same_ctl}
use Rattle.net_facts.specs.declared.facts.PinFacts.{PinFacts}
use Rattle.net_facts.specs.declared.facts.NetFacts.{NetFacts}
use Rattle.net_facts.specs.declared.classes.ControlClass.{ControlClass}
use Rattle.net_facts.specs.declared.shared.Controls.{Controls}
use Rattle.net_facts.specs.declared.shared.Controls.TheVariants.{Nobody, One, Several}

abbrev pub with_control : Controls → Ctl → Controls
with_control Nobody c = One c
with_control (One d) c = cond (same_ctl d c) (One d) Several
with_control Several c = Several

abbrev pub with_drive : Controls → Option Drive → Controls
with_drive seen None = seen
with_drive seen (Some AlwaysOn) = seen
with_drive seen (Some OneSided) = seen
with_drive seen (Some (By c)) = with_control seen c

abbrev pub controls_from : Controls → List PinFacts → Controls
controls_from seen pins = fold (λ s pin. with_drive s pin.drive) seen pins

abbrev pub controls_of_pins : List PinFacts → Controls
controls_of_pins pins = controls_from Nobody pins

abbrev pub is_several : Controls → Bool
is_several Nobody = false
is_several (One c) = false
is_several Several = true

abbrev pub contended_in : List PinFacts → Bool
contended_in pins = is_several (controls_of_pins pins)

abbrev pub flags_of : List NetFacts → List Bool
flags_of nets = map (λ net. contended_in net.pins) nets

abbrev pub shared_in : List Bool → ControlClass → List ℕ
shared_in flags row = filter (λ n. slice_index_or flags n false) row.nets
