use Rattle.std.proofs.Common.{ℕ, ◌≤◌, length, sum, arith, ◌*◌}
use Rattle.std.proofs.lemmas.List.Sums.{sum_by-le}
use Rattle.commands.proofs.chain_test.longest_scan.Goals as goal

pub instruction_bits-requires : goal.instruction_bits-requires
instruction_bits-requires c =
    let within : sum c.args.lengths.now
    ≤ length c.args.lengths.now * 255 = sum_by-le (λ (n : ℕ). n) 255 c.args.lengths.now
    (λ k d inside. (c.requires.each k d inside).1) in
    omega (arith, within, c.requires.most)
