use Rattle.std.proofs.Common.{◌≡◌, drop}
use Rattle.std.specs.Prelude.{is_some}
use Rattle.std.specs.List.{list_all}
use Rattle.device_rules.specs.Ports.{bit_number}
use Rattle.device_rules.proofs.taps.are_bits.Given as goal

abbrev pub invariant-loop-word : goal.invariant-loop-word
invariant-loop-word l =
    list_all (λ word. is_some (bit_number l.ports word)) l.words
    ≡ list_all (λ word. is_some (bit_number l.ports word)) (drop l.word-index l.words)
