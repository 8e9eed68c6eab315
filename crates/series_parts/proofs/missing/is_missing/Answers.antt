-- A pin is in a net if and only if it is on a line of the net file.
use Rattle.std.proofs.Common.{◌∙◌, [], ap, sym}
use Rattle.std.specs.Prelude.{is_none}
use Rattle.series_parts.specs.Nets.{has_pin}
use Rattle.series_parts.proofs.FindLemmas.{none_found}
use Rattle.series_parts.proofs.missing.is_missing.Goals as goal

pub returns : goal.returns
returns c =
    c.is_none.ensures ∙ ap is_none c.place_of.ensures
    ∙ sym
    (none_found (λ line. line.name) (has_pin c.args.part.now c.args.pin.now) c.args.pins.now [])
