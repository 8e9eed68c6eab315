use Rattle.std.proofs.Common.{ℕ, ◌≤◌, ◌*◌, length, sum, arith}
use Rattle.std.proofs.lemmas.List.Sums.{sum_by-le}
use Rattle.commands.proofs.chain_test.tests_length.Goals as goal

pub returns : goal.returns
returns c =
    let within : sum c.args.lengths.now
    ≤ length c.args.lengths.now * 255 = sum_by-le (λ (n : ℕ). n) 255 c.args.lengths.now
    (λ k d inside. (c.requires.each k d inside).1) in
    c.chain_tests.ensures c.args.lengths.now
    (record { some = c.requires.some; wide = λ k d inside. (c.requires.each k d inside).0 })
    (omega (arith, within, c.requires.most))
