use Rattle.std.proofs.Common.{◌≡◌, ℕ, ◌+◌, ◌-◌, ◌++◌, refl, ap, ◌∙◌, length, filter, arith}
use Rattle.std.specs.Prelude.{◌==◌}
use Rattle.std.specs.List.{flat_map, range_with_len}
use Rattle.line_printer.proofs.PrintLemmas.{prints_ok, prints_err, prints_none, prints_same, prints_done}
use Rattle.device_check.specs.DeviceText.{port_line, name_of_port}
use Rattle.device_check.proofs.ListingLemmas.{range-more, range-rest-one, port_same}
use Rattle.board_defs.specs.declared.device.PortBit.{PortBit}
use Rattle.device_check.proofs.listing.put_ports.Goals as goal

pub loop-port-init : goal.loop-port-init
loop-port-init g c = record { rises = c.requires; others = λ q le. refl; printed = prints_none tt refl }

pub returns-in_err-put_port : goal.returns-in_err-put_port
returns-in_err-put_port g c =
    let ports = c.args.ports.now in
    let port = c.loop-port.port in
    let f = λ (p : ℕ). port_line (name_of_port ports p) (filter (λ (bit : PortBit). bit.port == p) c.args.bits.now) in
    let rest = flat_map f (range_with_len (port + 1) (length ports - (port + 1))) in
    let one : port_line c.port_name.result.now c.split_port.result.0.now ≡ f port =
    port_same _ _ _ _ c.port_name.ensures (c.split_port.ensures.own ∙ c.loop-port.invariant.others port (omega arith)) in
    prints_same
    (ap (λ t. flat_map f (range_with_len 0 port) ++ (t ++ rest)) one
    ∙ range-rest-one f port (length ports) c.loop-port-test.true)
    (prints_ok c.loop-port.invariant.printed refl (prints_err rest c.put_port.ensures c.in_err-put_port.was c.from_residual.ensures.0))

pub loop-port-preserved : goal.loop-port-preserved
loop-port-preserved g c =
    let ports = c.args.ports.now in
    let port = c.loop-port.port in
    let f = λ (p : ℕ). port_line (name_of_port ports p) (filter (λ (bit : PortBit). bit.port == p) c.args.bits.now) in
    let one : port_line c.port_name.result.now c.split_port.result.0.now ≡ f port =
    port_same _ _ _ _ c.port_name.ensures (c.split_port.ensures.own ∙ c.loop-port.invariant.others port (omega arith)) in
    record {
      rises = c.split_port.ensures.rises;
      others = λ q le. c.split_port.ensures.others q (omega arith) ∙ c.loop-port.invariant.others q (omega arith);
      printed = prints_same (ap (λ t. flat_map f (range_with_len 0 port) ++ t) one ∙ range-more f port)
          (prints_ok c.loop-port.invariant.printed refl (prints_done c.put_port.ensures c.in_ok-put_port.was));
    }
