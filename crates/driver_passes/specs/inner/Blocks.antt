-- Sets of places in the list of useful controls. Place `n` has bit `n % 64` of word `n / 64`. A set is a list
-- of blocks, and each block has places that belong to one word. A control is useful if it is safe alone and
-- enables a tested driver.
use Rattle.std.specs.Prelude.{ℕ, Bool, List}
use Rattle.std.specs.List.{list_any}
use Rattle.driver_passes.specs.declared.blocks.Block.{Block}
use Rattle.driver_passes.specs.inner.NumberSets.{is_of_word}

-- the place is in the block
abbrev pub block_has : Block → ℕ → Bool
block_has block place = is_of_word block.word block.bits place

-- the place is in one of the blocks
abbrev pub has_place : List Block → ℕ → Bool
has_place blocks place = list_any (λ block. block_has block place) blocks
