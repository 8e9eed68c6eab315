-- The joined name of a line's net is the name on the line that is its label.
use Rattle.std.proofs.Common.{◌≡◌, length, map, ap, sym, ◌∙◌, Bor, List, ℕ}
use Rattle.std.proofs.lemmas.Result.{IfOk-weaker}
use Rattle.series_parts.specs.inner.Edges.{edges}
use Rattle.series_parts.proofs.EdgeLemmas.{at, new_names}
use Rattle.series_parts.proofs.least.least_names.Goals as goal

pub returns : goal.returns
returns c =
    let labels = c.in_ok-labels.labels.items in
    let count : length labels ≡ length c.args.names.now = sym c.in_ok-labels.labels.ok.0 ∙ c.in_ok-labels.ensures.count ∙ c.len.ensures in
    let whole : c.deref.result.now ≡ edges c.args.pins.now c.args.chain.now = c.deref.ensures.value ∙ c.in_ok-edges.ensures.edges in
    IfOk-weaker c.names_at.result _ _
    (λ least e name. new_names c.args.pins.now c.args.chain.now c.args.names.now c.deref.result.now
    labels (map (λ (n : Bor (List ℕ)). n.now) least.items) c.requires whole
    c.in_ok-labels.ensures.labels count
    (e ∙ ap (map (at c.args.names.now)) c.deref-2.ensures.value) name)
    c.names_at.ensures
