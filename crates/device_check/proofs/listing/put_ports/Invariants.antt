use Rattle.std.proofs.Common.{◌≡◌, ℕ, ◌≤◌, [], filter, Ok}
use Rattle.std.specs.Prelude.{◌==◌}
use Rattle.std.specs.List.{flat_map, range_with_len}
use Rattle.bt_base.specs.declared.sink.PutFault.{PutFault}
use Rattle.line_printer.specs.Prints.{Prints}
use Rattle.device_check.specs.DeviceText.{port_line, name_of_port}
use Rattle.device_check.specs.inner.ListingForms.{Rises}
use Rattle.device_check.proofs.listing.put_ports.Given as goal

-- The lines of ports `0..port` were written. The remaining bits are in the order of the ports. They include all bits of
-- the remaining ports, and no bit of a port below `port`.
abbrev pub invariant-loop-port : goal.invariant-loop-port
invariant-loop-port g l = record {
  rises : Rises l.port l.rest;
  others : (q : ℕ) → l.port ≤ q → filter (λ bit. bit.port == q) l.rest ≡ filter (λ bit. bit.port == q) l.bits;
  printed : Prints {T = Unit {0}} {E = PutFault} (g.K.Sink.shown l.fn.out) (g.K.Sink.shown l.out) [] []
      (flat_map
      (λ port. port_line (name_of_port l.ports port)
      (filter (λ bit. bit.port == port) l.bits)) (range_with_len 0 l.port)) (Ok tt);
}
