use Rattle.std.proofs.Common.{◌==◌, ◌%◌, ap}
use Rattle.std.proofs.lemmas.Nat.Bits.{shr_and_one}
use Rattle.net_classes.proofs.words.has_bit.Goals as goal

pub returns : goal.returns
returns c = ap (λ k. k == 1) (shr_and_one c.args.word (c.args.number % 64))
