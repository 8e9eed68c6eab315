use Rattle.std.proofs.Common.{◌<◌, All, sym, ◌∙◌, ap, subst}
use Rattle.device_rules.specs.declared.draft.Draft.{Draft}
use Rattle.device_rules.specs.Cells.{v8}
use Rattle.device_rules.proofs.CellLemmas.{all_below}
use Rattle.device_rules.proofs.rules.first_from_8.Goals as goal

pub first_from_9-requires : goal.first_from_9-requires
first_from_9-requires c =
    let text = c.text-text.result.now in
    subst (λ (d : Draft). All (λ entry. entry.num < d.boundary) d.entries) c.text-text.ensures.text
    (all_below text.boundary text.entries (ap (v8 text.boundary) (sym c.as_slice.ensures) ∙ sym c.in_ok-item.ensures ∙ c.in-None.is))
