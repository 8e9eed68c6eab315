use Rattle.std.proofs.Common.{◌≡◌, ◌++◌, map, drop, option_copied}
use Rattle.std.specs.List.{filter_map}
use Rattle.btest_core.specs.DevicesRead.{package_in}
use Rattle.btest_core.proofs.devices.packages.Given as goal

-- The packages found so far, followed by the packages on the remaining lines, are the packages on
-- all lines.
abbrev pub invariant-loop-line : goal.invariant-loop-line
invariant-loop-line l =
    filter_map (λ line. package_in line.statement) l.lines
    ≡ map option_copied l.list.items
    ++ filter_map (λ line. package_in line.statement) (drop l.line-index l.lines)
