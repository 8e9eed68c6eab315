use Rattle.std.proofs.Common.{◌+◌, arith}
use Rattle.side_by_side.proofs.PieceLemmas.{start_first, start_end}
use Rattle.side_by_side.proofs.ShareLemmas.{starts_low, starts_high, even}
use Rattle.side_by_side.proofs.law.pieces_share.Goals as goal

pub returns-clause-first : goal.returns-clause-first
returns-clause-first c = λ items pieces. start_first items pieces

pub returns-clause-last : goal.returns-clause-last
returns-clause-last c = λ items before. start_end items (before + 1) (omega arith)

pub returns-clause-least : goal.returns-clause-least
returns-clause-least c = λ items pieces number. starts_low items pieces number

pub returns-clause-most : goal.returns-clause-most
returns-clause-most c = λ items pieces number some. starts_high items pieces number some

pub returns-clause-even : goal.returns-clause-even
returns-clause-even c = λ items pieces one other some. even items pieces one other some
