use Rattle.std.proofs.Common.{◌≡◌, ◌+◌, ◌-◌, refl, length, take, drop, length-take, length-drop, length-append, arith}
use Rattle.line_printer.proofs.PrintLemmas.{prints_ok, prints_err, prints_same, prints_done}
use Rattle.device_check.specs.DeviceText.{cell_lines}
use Rattle.device_check.proofs.ListingLemmas.{cells_next, cells_left}
use Rattle.device_check.proofs.listing.put_blocks.Goals as goal

pub returns-in_err-put_block : goal.returns-in_err-put_block
returns-in_err-put_block g c =
    let d = c.args.device.now in
    let from = c.loop-from.from in
    let count = c.min-count.result in
    let size : length (take count c.loop-from.table)
    ≡ count = omega (arith, length-take count c.loop-from.table, c.loop-from.invariant.room) in
    prints_same (cells_left d.ports d.bits d.cells from count _ d.boundary size (omega arith))
    (prints_ok c.loop-from.invariant.printed refl
    (prints_err (cell_lines d.ports d.bits d.cells (from + count) (d.boundary - (from + count)))
    c.put_block.ensures.text c.in_err-put_block.was c.from_residual.ensures.0))

pub loop-from-preserved : goal.loop-from-preserved
loop-from-preserved g c =
    let d = c.args.device.now in
    let from = c.loop-from.from in
    let count = c.min-count.result in
    let size : length (take count c.loop-from.table)
    ≡ count = omega (arith, length-take count c.loop-from.table, c.loop-from.invariant.room) in
    record {
      within = omega arith;
      room =
          omega (
            arith,
            size,
            c.put_block.ensures.length,
            c.loop-from.invariant.room,
            length-append c.put_block.new.table (drop count c.loop-from.table),
            length-drop count c.loop-from.table,
          );
      printed =
          prints_same (cells_next d.ports d.bits d.cells from count _ size)
          (prints_ok c.loop-from.invariant.printed refl
          (prints_done c.put_block.ensures.text c.in_ok-put_block.was));
    }
