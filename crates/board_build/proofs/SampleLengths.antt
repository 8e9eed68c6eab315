-- A sample of a chain with one line more than the limit allows.
use Rattle.std.proofs.Common.{◌≡◌, length, arith}
use Rattle.board_build.specs.inner.Selected.{ChainWithParts, IsSelected}

long_chain : (chain : ChainWithParts) → length chain.lines ≡ 4294967296 → IsSelected chain → ⊥
long_chain chain long rules = let most = rules.few in omega (arith, long, most)
