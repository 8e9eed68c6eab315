-- The map gives, for each pin, the first line with this pin. A key of the map has the name of the
-- pin's part and the pin's own name.
use Rattle.std.proofs.Common.{◌∙◌, ap}
use Rattle.series_parts.specs.inner.Edges.{pin_place}
use Rattle.series_parts.proofs.pins.Pins.place_of.Goals as goal

pub returns : goal.returns
returns c =
    c.copied.ensures ∙ c.get.ensures.value ∙ c.self.invariant (c.args.part, c.args.pin)
    ∙ ap (λ lines. pin_place lines c.args.part.now c.args.pin.now) c.self.view_is
