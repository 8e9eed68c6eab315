use Rattle.std.proofs.Common.{◌≡◌, List, Bool, length, sym}
use Rattle.std.proofs.lemmas.List.Elements.{All-same}
use Rattle.response_log.proofs.KeptLemmas.{kept_rows-lengths}
use Rattle.response_log.proofs.kept.Log.len.Goals as goal

pub returns : goal.returns
returns c =
    All-same (λ (bits : List Bool). length bits ≡ c.self.inside.len) _ _ (sym c.self.view_is)
    (kept_rows-lengths c.self.inside.len c.self.inside.rows c.self.inside.digits.items c.self.invariant.0)
