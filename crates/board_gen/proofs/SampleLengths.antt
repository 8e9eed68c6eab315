-- Samples of a text with one byte more than the limit allows. Each text of a board must be within the limit.
use Rattle.std.proofs.Common.{◌≡◌, length, arith}
use Rattle.board_gen.specs.declared.Made.{Made}
use Rattle.board_gen.specs.Short.{AreShortTexts}

long_chain : (made : Made) → length made.chain.items ≡ 4194305 → AreShortTexts made → ⊥
long_chain made long short = let most = short.chain in omega (arith, long, most)

long_nets : (made : Made) → length made.nets.items ≡ 4194305 → AreShortTexts made → ⊥
long_nets made long short = let most = short.nets in omega (arith, long, most)

long_bsdl : (made : Made) → length made.bsdl.items ≡ 4194305 → AreShortTexts made → ⊥
long_bsdl made long short = let most = short.bsdl in omega (arith, long, most)
