use Rattle.std.proofs.Common.{◌++◌, append-nil, sym, ap, ◌∙◌}
use Rattle.std.specs.List.{flat_map}
use Rattle.line_printer.proofs.PrintLemmas.{prints_ok, prints_err, prints_same}
use Rattle.device_check.specs.DeviceText.{cell_line}
use Rattle.device_check.specs.inner.ListingForms.{entries_in}
use Rattle.device_check.proofs.listing.put_entries.Goals as goal

pub returns-in_err-put_cell-in-Two : goal.returns-in_err-put_cell-in-Two
returns-in_err-put_cell-in-Two g c =
    let line = cell_line c.args.ports.now c.args.bits.now in
    prints_same
    (ap (λ t. line c.in-Two.first ++ t) (sym (append-nil (line c.in-Two.second)))
    ∙ sym (ap (λ e. flat_map line (entries_in e)) c.in-Two.is))
    (prints_err (line c.in-Two.second) c.put_cell-in-Two.ensures c.in_err-put_cell-in-Two.was c.from_residual.ensures.0)

pub returns-in_ok-put_cell-in-Two : goal.returns-in_ok-put_cell-in-Two
returns-in_ok-put_cell-in-Two g c =
    let line = cell_line c.args.ports.now c.args.bits.now in
    prints_same
    (ap (λ t. line c.in-Two.first ++ t) (sym (append-nil (line c.in-Two.second)))
    ∙ sym (ap (λ e. flat_map line (entries_in e)) c.in-Two.is))
    (prints_ok c.put_cell-in-Two.ensures c.in_ok-put_cell-in-Two.was c.put_cell-in-Two-2.ensures)
