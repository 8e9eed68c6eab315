use Rattle.std.proofs.Common.{ℕ, List, sym, subst}
use Rattle.board_defs.specs.declared.board.RawBoard.{RawBoard}
use Rattle.port_entries.specs.Entries.{AreEntries}
use Rattle.net_pins.specs.Positions.{AreFirsts}
use Rattle.net_pins.proofs.pin_tables.PinTables.new.Goals as goal

pub returns : goal.returns
returns c = record {
  firsts = subst (λ (firsts : List ℕ). AreFirsts c.args.board.now.chain firsts) (sym c.of-firsts.ensures) c.in_ok-first_positions.ensures;
  entries = subst (λ (b : RawBoard). AreEntries b c.in_ok-entries.entries) c.raw.ensures.value c.in_ok-entries.ensures;
  guards = c.in_ok-guarded.ensures;
}
