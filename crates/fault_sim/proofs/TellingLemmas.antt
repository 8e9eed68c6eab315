-- Lemmas which say that, if a fault explains a log, each pass of the log shows the bits that the fault gives the fault's nets.
use Rattle.std.proofs.Common.{◌≡◌, ◌⊎◌, inl, inr, ℕ, ◌+◌, ◌<◌, ◌==◌, ltb, Bool, true, false, not, ◌&&◌, ◌||◌, List, [], ◌∷◌, length, Option, Some, None, refl, sym, ◌∙◌, arith}
use Rattle.std.specs.List.{list_all, list_any}
use Rattle.std.proofs.lemmas.Bool.{and_parts, both_ways, ltb-true}
use Rattle.board_defs.specs.declared.fault.Single.{Single}
use Rattle.board_defs.specs.Faults.{IsSingle}
use Rattle.board_defs.specs.Pins.{is_same}
use Rattle.tap_defs.specs.board.TestRows.{code_bit}
use Rattle.net_pins.specs.declared.nets.ReaderCell.{ReaderCell}
use Rattle.response_log.specs.LogRows.{bit_in}
use Rattle.fault_sim.specs.declared.effect.Effect.{Effect}
use Rattle.fault_sim.specs.declared.shown.ShownWords.{ShownWords}
use Rattle.fault_sim.specs.declared.words.FedWords.{FedWords}
use Rattle.fault_sim.specs.Effects.{code_in, driver_in, effect_bit, effect_in, first_net, place_of_driver, second_net}
use Rattle.fault_sim.specs.Fits.{ShowBy, ShowsAll, cell_shows}
use Rattle.fault_sim.specs.Planned.{NetInPass, held_controls}
use Rattle.fault_sim.specs.inner.NetRows.{RowsOfNet, net_rows_in}
use Rattle.fault_sim.specs.inner.Telling.{IsTellingNet, IsWordOn}
use Rattle.fault_sim.specs.inner.Words.{AgreesWith, AreShownBits, AreShown, shows_beside, some_shows, word_bit}
use Rattle.fault_sim.proofs.MatchLemmas.{nets_there}

row_there : (rows : RowsOfNet) (bit : Bool) (driver : Option ℕ) (word : ℕ)
    → AreShownBits rows bit driver word → (j : ℕ) → j < 32 → word_bit word j ≡ true →
    (j < rows.width) × (some_shows rows.log (rows.first + j) bit rows.readers driver ≡ true)
row_there rows bit driver word are j less on =
    let parts = and_parts (ltb j rows.width) (some_shows rows.log (rows.first + j) bit rows.readers driver) (sym (are j less) ∙ on) in
    (ltb-true j rows.width parts.0, parts.1)

-- The effect gives the bit `value` at every place. Every cell has the effect's bit, and some cell has the bit `bit`, so the bits are equal.
bit_shown : (log : List (List Bool)) (row driver j : ℕ) (effect : Effect)
    (expected bit value : Bool) → ((place : ℕ) → value ≡ effect_bit effect j place expected)
    → (readers : List ReaderCell) →
    list_any (shows_beside log row bit driver) readers ≡ true
    → list_all (cell_shows log row driver effect j expected) readers ≡ true → value ≡ bit
bit_shown log row driver j effect expected bit value gives [] some all = absurd (both_ways false refl some)
bit_shown log row driver j effect expected bit value gives (r ∷ readers) some all =
    by_first (shows_beside log row bit driver r) refl some
    (λ later. bit_shown log row driver j effect expected bit value gives readers later all_parts.1)
  where
    all_parts : (cell_shows log row driver effect j expected r ≡ true)
        × (list_all (cell_shows log row driver effect j expected) readers ≡ true)
    all_parts =
        and_parts (cell_shows log row driver effect j expected r)
        (list_all (cell_shows log row driver effect j expected) readers) all

    by_bits : (own logged given : Bool) → (not own && is_same logged bit) ≡ true → (own || is_same logged given) ≡ true → given ≡ bit
    by_bits true logged given p q = absurd (both_ways false refl p)
    by_bits false true given p q = q ∙ sym p
    by_bits false false given p q = both_off bit given p q
      where
        both_off : (b g : Bool) → not b ≡ true → not g ≡ true → g ≡ b
        both_off true g p q = absurd (both_ways false refl p)
        both_off false true p q = absurd (both_ways false refl q)
        both_off false false p q = refl

    by_first : (here : Bool) → shows_beside log row bit driver r ≡ here
        → (here || list_any (shows_beside log row bit driver) readers) ≡ true
        → (list_any (shows_beside log row bit driver) readers ≡ true → value ≡ bit) → value ≡ bit
    by_first true e some others =
        gives r.place
        ∙ by_bits (r.place == driver) (bit_in log row r.position)
        (effect_bit effect j r.place expected) e all_parts.0
    by_first false e some others = others some

-- if the cells have the bits of an effect, they agree with each word that has the bits of this effect
shown_agrees : (rows : RowsOfNet) (code : ℕ) (effect : Effect) (driver : Option ℕ)
    (shown : ShownWords) (word : ℕ) → AreShown rows driver shown →
    ((j : ℕ) → j < 32 → (place : ℕ) → word_bit word j ≡ effect_bit effect j place (code_bit code j))
    → ShowBy rows.log rows.first rows.width code rows.readers effect driver
    → AgreesWith shown word
shown_agrees rows code effect None shown word are gives show j less = (
  λ on. absurd (both_ways false refl (row_there rows true None shown.ones are.ones j less on).1),
  λ on. absurd
      (both_ways false refl (row_there rows false None shown.zeros are.zeros j less on).1),
)
shown_agrees rows code effect (Some driver) shown word are gives show j less = (
  λ on. let there = row_there rows true (Some driver) shown.ones are.ones j less on in
      bit_shown rows.log (rows.first + j) driver j effect (code_bit code j) true (word_bit word j)
      (gives j less) rows.readers there.1 (show j there.0),
  λ on. let there = row_there rows false (Some driver) shown.zeros are.zeros j less on in
      bit_shown rows.log (rows.first + j) driver j effect (code_bit code j) false (word_bit word j)
      (gives j less) rows.readers there.1 (show j there.0),
)

-- if a log shows a fault on all nets, the bits that it shows on net n agree with the bits that the fault gives this net
pub agrees_there : (n : NetInPass) (fault : Single) (code : ℕ) (fed : FedWords) (shown : ShownWords)
    (word : ℕ) → IsTellingNet n code fed shown → IsWordOn n fault word
    → IsSingle n.pass.logged.test.board fault →
    n.pass.number < length n.pass.logged.test.plan.passes
    → ShowsAll n.pass.logged.test.board n.pass.logged.test.plan (Some fault) n.pass.logged.log
    → AgreesWith shown word
agrees_there n fault code fed shown word telling short single pass all =
    let plan = n.pass.logged.test.plan in
    let board = n.pass.logged.test.board in
    shown_agrees (net_rows_in n.pass n.net) (code_in plan n.net)
    (effect_in board plan (held_controls n.pass) (Some fault) n.net)
    (place_of_driver (driver_in plan (held_controls n.pass) n.net)) shown word telling.shown_is
    short.bits
    (all n.pass.number pass n.net (there short.is_own))
  where
    there : (n.net ≡ first_net fault) ⊎ (n.net ≡ second_net fault) → n.net < length n.pass.logged.test.board.nets
    there (inl same) = omega (arith, same, (nets_there n.pass.logged.test.board fault single).0)
    there (inr same) = omega (arith, same, (nets_there n.pass.logged.test.board fault single).1)
