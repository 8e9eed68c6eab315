-- Samples of the lines of groups, worked out by hand.
use Rattle.std.proofs.Common.{◌≡◌, [], ◌∷◌, codes, refl}
use Rattle.std.specs.Fmt.{digits}
use Rattle.line_printer.specs.Prints.{line_of, whole}
use Rattle.walk_test.specs.GroupText.{size_line, group_count_line}

lines : whole
    (line_of (codes "GROUPS none" ∷ []) ∷ group_count_line 0 ∷ group_count_line 4096 ∷ size_line 2
    ∷ line_of (codes "NET " ∷ codes "DATA_0" ∷ []) ∷ [])
    ≡ codes "GROUPS none\nGROUPS 0\nGROUPS 4096\nGROUP 2\nNET DATA_0\n"
unfolding digits
lines = refl
