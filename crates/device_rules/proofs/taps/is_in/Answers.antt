use Rattle.std.proofs.Common.{sym, ◌∙◌, Bor, List, ℕ}
use Rattle.std.specs.Str.{bytes_eq}
use Rattle.lists.proofs.ListLemmas.{list_any-map}
use Rattle.device_rules.proofs.taps.is_in.Goals as goal

pub returns : goal.returns
returns c = c.is_lent.ensures ∙ sym (list_any-map (λ (n : Bor (List ℕ)). n.now) (bytes_eq c.args.name.now) c.args.names.now)
