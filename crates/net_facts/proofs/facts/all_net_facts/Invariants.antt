use Rattle.std.proofs.Common.{◌≡◌, map, take}
use Rattle.net_facts.specs.Facts.{net_facts_of}
use Rattle.net_facts.proofs.facts.all_net_facts.Given as goal

abbrev pub invariant-loop-n : goal.invariant-loop-n
invariant-loop-n l = l.facts.items ≡ map (net_facts_of l.board) (take l.n l.board.nets)
