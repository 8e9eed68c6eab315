use Rattle.std.proofs.Common.{ap, ◌∙◌}
use Rattle.device_rules.specs.inner.Index.{place_called}
use Rattle.device_rules.proofs.name_index.NameIndex.place_of.Goals as goal

pub returns : goal.returns
returns g c =
    c.mapped_place.ensures ∙ c.self.invariant.1 c.args.name
    ∙ ap (λ items. place_called g.T.Named.name_in items c.args.name.now) c.self.view_is
