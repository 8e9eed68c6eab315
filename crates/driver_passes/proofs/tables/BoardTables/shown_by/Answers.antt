use Rattle.std.proofs.Common.{sym}
use Rattle.driver_passes.proofs.tables.BoardTables.shown_by.Goals as goal

pub returns : goal.returns
returns c = rw (sym c.self.view_is) c.shown_by.ensures
