use Rattle.std.proofs.Common.{◌≡◌, map, take}
use Rattle.board_defs.specs.Pins.{guarded}
use Rattle.net_pins.proofs.guards.guarded_of.Given as goal

abbrev pub invariant-loop-net : goal.invariant-loop-net
invariant-loop-net l = l.flags.items ≡ map (guarded l.board) (take l.net-index l.nets)
