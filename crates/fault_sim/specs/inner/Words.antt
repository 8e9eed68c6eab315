-- Words of 32 bits. Bit j of a word belongs to row j of a pass.
use Rattle.std.specs.Prelude.{◌≡◌, ℕ, ◌+◌, ◌<◌, ◌==◌, nat_lt, Bool, true, false, if◌then◌else◌, not, ◌&&◌, List, Option, Some, None, unwrap_or}
use Rattle.std.specs.Int.{bit_at}
use Rattle.std.specs.List.{list_any}
use Rattle.board_defs.specs.declared.fault.Kind.{Kind}
use Rattle.board_defs.specs.Pins.{is_same}
use Rattle.tap_defs.specs.board.NetBits.{bit_or_else}
use Rattle.tap_defs.specs.board.SingleBits.{shorted}
use Rattle.net_pins.specs.declared.nets.ReaderCell.{ReaderCell}
use Rattle.response_log.specs.LogRows.{bit_in}
use Rattle.fault_sim.specs.declared.feed.FedNet.{FedNet}
use Rattle.fault_sim.specs.declared.shown.ShownWords.{ShownWords}
use Rattle.fault_sim.specs.declared.words.FeedWords.{FeedWords}
use Rattle.fault_sim.specs.declared.words.FedWords.{FedWords}
use Rattle.fault_sim.specs.Effects.{feed_bit}
use Rattle.fault_sim.specs.inner.NetRows.{RowsOfNet}

-- true if bit j of a word is 1
abbrev pub word_bit : ℕ → ℕ → Bool
word_bit word j = bit_at word j == 1

-- the bit to which a net is driven in row j, or `None` if the net is not driven in this row
abbrev pub driven_bit : FeedWords → ℕ → Option Bool
driven_bit words j = if word_bit words.driven j then Some (word_bit words.value j) else None

-- The bit of two shorted nets in row j. If neither net is driven and neither has a pull, it is bit j of `code`, the code of the net whose
-- cells are compared.
abbrev pub short_word_bit : Kind → FedWords → FedWords → ℕ → ℕ → Bool
short_word_bit kind first second code j =
    unwrap_or
    (bit_or_else (shorted kind (driven_bit first.feed j) (driven_bit second.feed j))
    (shorted kind first.pull second.pull)) (word_bit code j)

-- in each row j, `words` has the bit to which the net `fed` is driven; `words` also has the pull of the net
pub record AreWordsOf (fed : FedNet) (words : FedWords) : Type 0 where
  pub feed_is : (j : ℕ) → j < 32 → driven_bit words.feed j ≡ feed_bit fed.feed j
  pub pull_is : words.pull ≡ fed.pull

-- true if a cell has this bit in a row of a log, and does not read the driver's pin
abbrev pub shows_beside : List (List Bool) → ℕ → Bool → ℕ → ReaderCell → Bool
shows_beside log row bit driver r = not (r.place == driver) && is_same (bit_in log row r.position) bit

-- true if there is a driver, and some cell has this bit in the row and does not read the driver's pin
abbrev pub some_shows : List (List Bool) → ℕ → Bool → List ReaderCell → Option ℕ → Bool
some_shows log row bit readers None = false
some_shows log row bit readers (Some driver) = list_any (shows_beside log row bit driver) readers

-- Bit j of the word is 1 if and only if the pass has a row j, and in this row some cell that does not read the driver's pin has the bit
-- `bit`. If there is no driver, every bit of the word is 0.
abbrev pub AreShownBits : RowsOfNet → Bool → Option ℕ → ℕ → Type 0
AreShownBits rows bit driver word =
    (j : ℕ) → j < 32
    → word_bit word j
    ≡ (nat_lt j rows.width && some_shows rows.log (rows.first + j) bit rows.readers driver)

-- `shown` has the rows in which some cell shows 1, and the rows in which some cell shows 0. Cells that read
-- the driver's pin are not counted. If there is no driver, both words are 0.
pub record AreShown (rows : RowsOfNet) (driver : Option ℕ) (shown : ShownWords) : Type 0 where
  pub ones : AreShownBits rows true driver shown.ones
  pub zeros : AreShownBits rows false driver shown.zeros

-- if some cell shows a bit in row j, bit j of `word` is this bit
abbrev pub AgreesWith : ShownWords → ℕ → Type 0
AgreesWith shown word =
    (j : ℕ) → j < 32
    → (word_bit shown.ones j ≡ true → word_bit word j ≡ true)
    × (word_bit shown.zeros j ≡ true → word_bit word j ≡ false)
