-- Both ends of each edge are indices of lines of the net file.
use Rattle.std.proofs.Common.{◌≡◌, ◌<◌, ◌++◌, length, ap, sym, subst, ◌∙◌}
use Rattle.std.specs.Prelude.{All}
use Rattle.series_parts.specs.inner.Labels.{Edges}
use Rattle.series_parts.specs.inner.Edges.{edges, link_edges, name_edges}
use Rattle.series_parts.proofs.EdgeLemmas.{all_edges_within}
use Rattle.series_parts.proofs.edges.edges.Goals as goal

pub returns-clause-within : goal.returns-clause-within
returns-clause-within c =
    let items : c.push_link_edges.new.edges.items
    ≡ edges c.args.pins.now c.args.chain.now = c.in_ok-push_link_edges.ensures
    ∙ ap (λ es. es ++ link_edges c.args.pins.now c.args.chain.now)
    (c.in_ok-edges.ensures ∙ ap (λ ns. name_edges ns 0 ns) c.requires) in
    subst (λ (es : Edges). All (λ e. (e.0 < length c.args.names.now) × (e.1 < length c.args.names.now)) es) (sym items)
    (all_edges_within c.args.pins.now c.args.chain.now (length c.args.names.now) (ap length c.requires))
