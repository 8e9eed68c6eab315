use Rattle.std.proofs.Common.{List, Bool, length, ap, ◌∙◌, arith}
use Rattle.board_defs.specs.declared.board.RawBoard.{RawBoard}
use Rattle.board_defs.specs.Pins.{data_bits}
use Rattle.plan_tables.specs.inner.Laid.{quiet_bits}
use Rattle.plan_tables.proofs.LaidLemmas.{length-laid}
use Rattle.plan_tables.proofs.quiet.quiet_row.Goals as goal

pub row_of-requires : goal.row_of-requires
row_of-requires c =
    let raw = c.raw-raw.result.now in
    omega (
      arith,
      ap (λ (l : List Bool). length l) (c.deref.ensures.value ∙ c.in_ok-bits.ensures),
      length-laid (quiet_bits raw) raw,
      ap (λ (b : RawBoard). data_bits b) c.raw-raw.ensures.value,
      c.raw-raw.ensures.rules.data_most,
    )
