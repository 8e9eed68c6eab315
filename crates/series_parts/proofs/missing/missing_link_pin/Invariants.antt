use Rattle.std.proofs.Common.{◌≡◌, drop}
use Rattle.series_parts.specs.LinkPins.{missing_link_pin}
use Rattle.series_parts.proofs.missing.missing_link_pin.Given as goal

-- the first LINK pin in no net on the remaining lines is the first one on all lines, since each pin
-- on the lines visited so far is in a net
abbrev pub invariant-loop-line : goal.invariant-loop-line
invariant-loop-line l = missing_link_pin l.pins l.lines ≡ missing_link_pin l.pins (drop l.line-index l.lines)
