-- Under stuck nets and open pins, a compared cell of a net that is in no short captures the same bit in every run.
use Rattle.std.specs.Prelude.{unwrap_or}
use Rattle.std.proofs.Common.{◌≡◌, None, refl, Option, Some, List, ◌∙◌, Bool, ℕ, ap, sym}
use Rattle.board_defs.specs.declared.board.RawBoard.{RawBoard}
use Rattle.board_defs.specs.declared.board.Net.{Net}
use Rattle.board_defs.specs.Settings.{IsSafe}
use Rattle.tap_defs.specs.board.NetBits.{Feeding, held_if, net_bit_by, unshorted_bit, feeding, fed_unless, bit_or_else}
use Rattle.tap_defs.specs.board.TestRows.{TestRow, observing_driver}
use Rattle.tap_defs.specs.board.FaultSet.{FaultSet}
use Rattle.tap_defs.specs.chain.Run.{Choice}
use Rattle.tap_defs.specs.chain.Chain.{ChainPart, pin_states}
use Rattle.tap_defs.proofs.board.FeedingLemmas.{Carries, NetRules, pulled, driven, carries}
use Rattle.tap_defs.proofs.board.InTestLemmas.{InTest, shifted_row}
use Rattle.tap_defs.proofs.board.WrongLemmas.{Compared, captured_here}

-- the bit of a net whose driver has the bit `v`: `v`, or, if the driver is open, the net's pull or otherwise the
-- constant of the driver
abbrev pub driven_bit : Option Bool → Option Bool → Bool → Bool
driven_bit None pull v = v
driven_bit (Some u) pull v = unwrap_or pull u

-- The bit that a compared cell captures from net `n`: the constant of the cell's pin if this pin is open, else the
-- constant of the net if the net is stuck, else the net's `driven_bit`.
abbrev pub response : FaultSet → ℕ → ℕ → ℕ → Option Bool → Bool → Bool
response faults n driver place pull v =
    unwrap_or (faults.opened n place)
    (unwrap_or (faults.stuck n) (driven_bit (faults.opened n driver) pull v))

pub plain_is : (faults : FaultSet) (d n : ℕ) (pull : Option Bool) (v : Bool) (f : Feeding) → Carries d pull v f →
    unshorted_bit faults n pull f ≡ Some (driven_bit (faults.opened n d) pull v)
plain_is faults d n pull v f (driven e) = ap (λ (x : Feeding). unshorted_bit faults n pull x) e ∙ by_open (faults.opened n d) pull
  where
    by_open : (o p : Option Bool) → bit_or_else (fed_unless o v) (bit_or_else (held_if o p) o) ≡ Some (driven_bit o p v)
    by_open None p = refl
    by_open (Some u) None = refl
    by_open (Some u) (Some w) = refl
plain_is faults d n pull v f (pulled e p) =
    ap (λ (x : Feeding). unshorted_bit faults n pull x) e
    ∙ ap (λ (x : Option Bool). bit_or_else x None) p
    ∙ by_open (faults.opened n d)
    ∙ sym (ap (λ (x : Option Bool). Some (driven_bit (faults.opened n d) x v)) p)
  where
    by_open : (o : Option Bool) → Some v ≡ Some (driven_bit o (Some v) v)
    by_open None = refl
    by_open (Some u) = refl

pub cell_responds : (board : RawBoard) (faults : FaultSet) (row : TestRow) → IsSafe board row.setting → (n : ℕ) (net : Net) →
    NetRules board n net → (d : ℕ) → observing_driver board row.setting net ≡ Some d → (c : Compared board row.setting n net) (v : Bool) →
    row.carried n ≡ Some v → faults.short n ≡ None →
    (before : TestRow) (free : Choice) (chain : List ChainPart)
    → InTest board (shifted_row board (record { now = row; before = before })) chain →
    captured_here board faults free chain n net c.place c.k c.cell ≡ response faults n d c.place net.pull v
cell_responds board faults row safe n net rules d observing c v carried alone before free chain h =
    ap (λ (b : Bool). unwrap_or (faults.opened n c.place) b)
    (ap
    (λ (o : Option ℕ). unwrap_or
    (net_bit_by board faults (pin_states chain) free.shorts n net (faults.stuck n) o)
    ((free.parts c.k).cells c.cell)) alone ∙ by_stuck (faults.stuck n))
  where
    by_stuck : (o : Option Bool) →
        unwrap_or (net_bit_by board faults (pin_states chain) free.shorts n net o None)
        ((free.parts c.k).cells c.cell)
        ≡ unwrap_or o (driven_bit (faults.opened n d) net.pull v)
    by_stuck (Some u) = refl
    by_stuck None =
        ap (λ (o : Option Bool). unwrap_or o ((free.parts c.k).cells c.cell))
        (plain_is faults d n net.pull v (feeding board (pin_states chain) net)
        (carries board row safe n net rules d observing before chain h v carried))
