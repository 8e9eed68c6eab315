-- The bits of a net in a pass of a log, and the bits that a fault gives the net.
use Rattle.std.specs.Prelude.{◌≡◌, ◌⊎◌, ℕ, ◌<◌, Some}
use Rattle.board_defs.specs.declared.fault.Single.{Single}
use Rattle.tap_defs.specs.board.TestRows.{code_bit}
use Rattle.fault_sim.specs.declared.shown.ShownWords.{ShownWords}
use Rattle.fault_sim.specs.declared.words.FedWords.{FedWords}
use Rattle.fault_sim.specs.Effects.{code_in, driver_in, effect_bit, effect_in, fed_net, first_net, place_of_driver, second_net}
use Rattle.fault_sim.specs.Planned.{NetInPass, PassOfLog, held_controls}
use Rattle.fault_sim.specs.inner.NetRows.{net_rows_in}
use Rattle.fault_sim.specs.inner.Words.{AreShown, AreWordsOf, word_bit}

-- `shown` has the rows of the pass in which some compared cell of the net has the bit 1 in the log, and the
-- rows in which some such cell has the bit 0. Cells that read the enabled driver's pin are not counted. Both
-- words are 0 if the pass enables no driver on the net or the net is guarded. No pass observes a guarded net,
-- for example a net that carries a supply.
abbrev pub IsShownIn : NetInPass → ShownWords → Type 0
IsShownIn n shown =
    AreShown (net_rows_in n.pass n.net)
    (place_of_driver (driver_in n.pass.logged.test.plan (held_controls n.pass) n.net)) shown

-- `words` has, for each row of the pass, the bit to which the net is driven, and it has the pull of the net
abbrev pub AreWordsIn : PassOfLog → ℕ → FedWords → Type 0
AreWordsIn pass net words = AreWordsOf (fed_net pass.logged.test.board pass.logged.test.plan (held_controls pass) net) words

-- `code` is the code of the net, and `fed` has the bits to which the net is driven in the pass. `shown` has the rows in which some compared
-- cell of the net has the bit 1, and the rows in which some such cell has the bit 0.
pub record IsTellingNet (n : NetInPass) (code : ℕ) (fed : FedWords) (shown : ShownWords) : Type 0 where
  pub code_is : code ≡ code_in n.pass.logged.test.plan n.net
  pub fed_is : AreWordsIn n.pass n.net fed
  pub shown_is : IsShownIn n shown

-- the net is one of the fault's own nets, and bit j of `word` is the bit that the fault gives each compared cell of the net in row j
pub record IsWordOn (n : NetInPass) (fault : Single) (word : ℕ) : Type 0 where
  pub is_own : (n.net ≡ first_net fault) ⊎ (n.net ≡ second_net fault)
  pub bits : (j : ℕ) → j < 32 → (place : ℕ) →
      word_bit word j
      ≡ effect_bit
      (effect_in n.pass.logged.test.board n.pass.logged.test.plan (held_controls n.pass)
      (Some fault) n.net) j place (code_bit (code_in n.pass.logged.test.plan n.net) j)
