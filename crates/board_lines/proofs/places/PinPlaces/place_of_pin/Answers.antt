-- A look-up in the row of the pin's part gives the same place as the definition.
use Rattle.std.proofs.Common.{ap, ◌∙◌}
use Rattle.indexmap.specs.IndexMap.{get_by}
use Rattle.board_files.specs.Names.{same_word}
use Rattle.board_lines.specs.NetWords.{lent_pin}
use Rattle.board_lines.specs.ChainParts.{pin_places, place_of_pin}
use Rattle.board_lines.specs.PinRows.{place_by_part}
use Rattle.board_lines.proofs.PinLemmas.{place_by_rows}
use Rattle.board_lines.proofs.places.PinPlaces.place_of_pin.Goals as goal

pub returns : goal.returns
returns c =
    let parts = c.self.inside.parts.now in
    let rows = c.self.inside.part_rows.rows.items in
    let numbers = c.self.inside.part_rows.numbers.items in
    let pin = lent_pin c.args.pin.now in
    let part = get_by (λ n. same_word pin.0 n.now) c.self.inside.by_name in
    c.place_in.ensures
    ∙ ap (λ v. place_by_part v c.deref-2.result.now part pin.1) c.deref.ensures.value
    ∙ ap (λ v. place_by_part rows v part pin.1) c.deref-2.ensures.value
    ∙ ap (λ o. place_by_part rows numbers o pin.1) (c.self.invariant.named c.args.pin.now.0)
    ∙ place_by_rows rows numbers parts pin c.self.invariant.pinned c.self.invariant.differ
    ∙ ap (λ v. place_of_pin (pin_places v) pin) c.self.view_is
