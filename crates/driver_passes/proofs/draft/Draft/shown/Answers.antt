use Rattle.std.proofs.Common.{sym}
use Rattle.driver_passes.proofs.draft.Draft.shown.Goals as goal

pub returns : goal.returns
returns c = rw (sym c.self.view_is) c.shown_by.ensures
