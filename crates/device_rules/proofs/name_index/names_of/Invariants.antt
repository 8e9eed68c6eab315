use Rattle.std.proofs.Common.{◌≡◌, map, take, vec_len}
use Rattle.device_rules.proofs.name_index.names_of.Given as goal

abbrev pub invariant-loop-item : goal.invariant-loop-item
invariant-loop-item g l = record {
  names : map (λ n. n.now) l.names.items ≡ map g.T.Named.name_in (take l.item-index l.items);
  count : vec_len l.names ≡ l.item-index;
}
