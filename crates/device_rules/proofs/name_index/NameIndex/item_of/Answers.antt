use Rattle.std.proofs.Common.{sym, ap, find, ◌∙◌, arith}
use Rattle.device_rules.specs.inner.Index.{is_item_called, place_called}
use Rattle.device_rules.proofs.BitLemmas.{number_below, found_item, nothing_found}
use Rattle.device_rules.proofs.name_index.NameIndex.item_of.Goals as goal

pub bounds-items-place : goal.bounds-items-place
bounds-items-place g c =
    let found = ap (λ items. place_called g.T.Named.name_in items c.args.name.now)
    c.as_slice-items.ensures.items ∙ sym c.place_of.ensures ∙ c.in-Some.is in
    number_below (is_item_called g.T.Named.name_in c.args.name.now) c.as_slice-items.result.now c.in-Some.place found

pub offset_bounds-items-place : goal.offset_bounds-items-place
offset_bounds-items-place g c =
    let found = ap (λ items. place_called g.T.Named.name_in items c.args.name.now)
    c.as_slice-items.ensures.items ∙ sym c.place_of.ensures ∙ c.in-Some.is in
    let below = number_below (is_item_called g.T.Named.name_in c.args.name.now) c.as_slice-items.result.now c.in-Some.place found in
    omega (arith, below)

pub returns-in-Some : goal.returns-in-Some
returns-in-Some g c =
    let found = ap (λ items. place_called g.T.Named.name_in items c.args.name.now)
    c.as_slice-items.ensures.items ∙ sym c.place_of.ensures ∙ c.in-Some.is in
    found_item (is_item_called g.T.Named.name_in c.args.name.now) c.as_slice-items.result.now
    c.in-Some.place _ found (sym c.index-items-place.is)
    ∙ ap (find (is_item_called g.T.Named.name_in c.args.name.now)) c.as_slice-items.ensures.items

pub returns-in-None : goal.returns-in-None
returns-in-None g c =
    nothing_found (is_item_called g.T.Named.name_in c.args.name.now) c.args.self.now
    (sym c.place_of.ensures ∙ c.in-None.is)
