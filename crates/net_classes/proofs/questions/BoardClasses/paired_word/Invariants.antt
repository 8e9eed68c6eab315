use Rattle.std.proofs.Common.{take}
use Rattle.std.specs.List.{list_any}
use Rattle.net_classes.specs.Pairs.{AreWordBits, fits_at}
use Rattle.net_classes.proofs.questions.BoardClasses.paired_word.Given as goal

abbrev pub invariant-loop-d : goal.invariant-loop-d
invariant-loop-d l = AreWordBits (λ m. list_any (λ d. fits_at l.self d m) (take l.d-index l.d-items)) l.word l.bits
