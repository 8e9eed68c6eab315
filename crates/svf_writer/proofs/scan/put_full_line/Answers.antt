use Rattle.std.proofs.Common.{ℕ, length, ap, arith, length-append, length-take}
use Rattle.svf_writer.proofs.scan.put_full_line.Goals as goal

pub push-requires : goal.push-requires
push-requires g c = omega (arith, ap length c.put_hex.ensures, length-append {A = ℕ}, length-take {A = ℕ})
