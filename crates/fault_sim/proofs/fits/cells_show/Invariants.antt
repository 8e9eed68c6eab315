use Rattle.std.proofs.Common.{◌≡◌, true, take}
use Rattle.std.specs.List.{list_all}
use Rattle.fault_sim.specs.Fits.{cell_shows}
use Rattle.fault_sim.proofs.fits.cells_show.Given as goal

abbrev pub invariant-loop-reader : goal.invariant-loop-reader
invariant-loop-reader l = list_all (cell_shows l.log l.row l.driver l.effect l.j l.expected) (take l.reader-index l.readers) ≡ true
