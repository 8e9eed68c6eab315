use Rattle.std.proofs.Common.{ℕ, ◌+◌, ◌<◌, List, length, map, ap, sym, subst, ◌∙◌, arith}
use Rattle.std.proofs.lemmas.List.{take_all}
use Rattle.std.specs.List.{range_with_len}
use Rattle.board_defs.specs.declared.device.Cell.{Cell}
use Rattle.device_check.specs.DeviceText.{entries_of_cell}
use Rattle.device_check.specs.inner.ListingForms.{entries_in}
use Rattle.device_check.proofs.ListingLemmas.{table_is, entries_step, has_room}
use Rattle.device_check.proofs.listing_table.fill_entries.Goals as goal

pub loop-cell-init : goal.loop-cell-init
loop-cell-init c = record {
  places = c.clear.ensures.length;
  each = λ k less. ap entries_in (c.clear.ensures.nothing k less);
}

pub add_entry-requires : goal.add_entry-requires
add_entry-requires c = λ k less same.
    let num = c.args.from + k in
    subst (λ (l : List Cell). length l < 2) (sym (c.loop-cell.invariant.each k less))
    (has_room num c.args.cells.now c.loop-cell.cell-index _ c.loop-cell-test.true same
    (c.requires num))

pub loop-cell-preserved : goal.loop-cell-preserved
loop-cell-preserved c = record {
  places = c.add_entry.ensures.length ∙ c.loop-cell.invariant.places;
  each = λ k less.
      let before : k < length c.loop-cell.table = omega (arith, c.add_entry.ensures.length) in
      entries_step (c.args.from + k) c.args.cells.now c.loop-cell.cell-index _ _ _
      c.loop-cell-test.true (c.add_entry.ensures.entries k before)
      (c.loop-cell.invariant.each k before);
}

pub returns : goal.returns
returns c =
    let cells = c.args.cells.now in
    let f = λ (num : ℕ). entries_of_cell num cells in
    table_is f c.args.from c.loop-cell.table
    (λ k less. c.loop-cell.invariant.each k less
    ∙ ap (entries_of_cell (c.args.from + k))
    (take_all c.loop-cell.cell-index cells (omega arith)))
    ∙ ap (λ n. map f (range_with_len c.args.from n)) c.loop-cell.invariant.places
