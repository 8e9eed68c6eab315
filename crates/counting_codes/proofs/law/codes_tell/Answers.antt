use Rattle.std.proofs.Common.{arith}
use Rattle.counting_codes.proofs.CodeLemmas.{has_zero, has_one, codes_differ}
use Rattle.counting_codes.proofs.law.codes_tell.Goals as goal

pub returns-clause-zero : goal.returns-clause-zero
returns-clause-zero c = λ n width enough code some most. has_zero width code (omega (arith, most, enough))

pub returns-clause-one : goal.returns-clause-one
returns-clause-one c = λ n width enough code some most. has_one width code some (omega (arith, most, enough))

pub returns-clause-differ : goal.returns-clause-differ
returns-clause-differ c =
    λ n width enough code other code_some code_most other_some other_most ne. codes_differ width
    code other (omega (arith, code_most, enough)) (omega (arith, other_most, enough)) ne
