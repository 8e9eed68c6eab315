use Rattle.std.proofs.Common.{◌≡◌, ◌+◌, ◌<◌, ℕ, true}
use Rattle.std.specs.List.{list_all}
use Rattle.tap_defs.specs.board.TestRows.{code_bit}
use Rattle.fault_sim.specs.Fits.{cell_shows}
use Rattle.fault_sim.proofs.net_rows.NetRows.show.Given as goal

abbrev pub invariant-loop-j : goal.invariant-loop-j
invariant-loop-j l =
    (k : ℕ) → k < l.j
    → list_all
    (cell_shows l.self-inside.log.now (l.self-inside.first + k) l.driver l.effect k
    (code_bit l.code k)) l.self-inside.readers.now ≡ true
