-- Lemmas which say that no two single faults come before each other, and that each suspect is a place of the board.
use Rattle.std.proofs.Common.{◌≡◌, inl, inr, ℕ, ◌<◌, Bool, true, false, sym, subst, arith}
use Rattle.std.specs.Prelude.{All}
use Rattle.board_defs.specs.declared.board.PinRef.{PinRef}
use Rattle.board_defs.specs.declared.fault.Kind.{Kind}
use Rattle.board_defs.specs.declared.fault.Single.TheVariants.{StuckNet, OpenPin, Short}
use Rattle.board_defs.specs.Faults.{PinPrecedes, SinglePrecedes}
use Rattle.fault_sim.specs.Laws.{OneOrder, SuspectsArePlaces}
use Rattle.fault_sim.proofs.OrderLemmas.{places_counted}

pub suspects_are_places : SuspectsArePlaces
suspects_are_places board plan lists log suspects universe are =
    subst (λ (n : ℕ). All (λ i. i < n) suspects) (sym (places_counted board lists universe)) are.below

bits_one_way : (v w : Bool) → v ≡ false → w ≡ true → w ≡ false → ⊥
bits_one_way v w zero one other = cc

nets_one_way : (n m : ℕ) (v w : Bool) → SinglePrecedes (StuckNet n v) (StuckNet m w) → SinglePrecedes (StuckNet m w) (StuckNet n v) → ⊥
nets_one_way n m v w (inl less) (inl more) = omega arith
nets_one_way n m v w (inl less) (inr later) = omega (arith, later.0)
nets_one_way n m v w (inr first) (inl more) = omega (arith, first.0)
nets_one_way n m v w (inr first) (inr later) = bits_one_way v w first.1 first.2 later.1

places_one_way : (p q : PinRef) → PinPrecedes p q → PinPrecedes q p → ⊥
places_one_way p q (inl less) (inl more) = omega arith
places_one_way p q (inl less) (inr later) = omega (arith, later.0)
places_one_way p q (inr first) (inl more) = omega (arith, first.0)
places_one_way p q (inr first) (inr later) = omega (arith, first.1, later.1)

no_earlier : (p q : PinRef) → p ≡ q → PinPrecedes p q → ⊥
no_earlier p q same first =
    let itself : PinPrecedes p p = subst (λ (r : PinRef). PinPrecedes p r) (sym same) first in
    places_one_way p p itself itself

pins_one_way : (p q : PinRef) (v w : Bool) → SinglePrecedes (OpenPin p v) (OpenPin q w) → SinglePrecedes (OpenPin q w) (OpenPin p v) → ⊥
pins_one_way p q v w (inl first) (inl later) = places_one_way p q first later
pins_one_way p q v w (inl first) (inr later) = no_earlier p q (sym later.0) first
pins_one_way p q v w (inr first) (inl later) = no_earlier q p (sym first.0) later
pins_one_way p q v w (inr first) (inr later) = bits_one_way v w first.1 first.2 later.1

shorts_one_way : (a b c d : ℕ) (k l : Kind) → SinglePrecedes (Short a b k) (Short c d l) → SinglePrecedes (Short c d l) (Short a b k) → ⊥
shorts_one_way a b c d k l (inl less) (inl more) = omega arith
shorts_one_way a b c d k l (inl less) (inr (inl later)) = omega (arith, later.0)
shorts_one_way a b c d k l (inl less) (inr (inr later)) = omega (arith, later.0)
shorts_one_way a b c d k l (inr (inl first)) (inl more) = omega (arith, first.0)
shorts_one_way a b c d k l (inr (inl first)) (inr (inl later)) = omega (arith, first.1, later.1)
shorts_one_way a b c d k l (inr (inl first)) (inr (inr later)) = omega (arith, first.1, later.1)
shorts_one_way a b c d k l (inr (inr first)) (inl more) = omega (arith, first.0)
shorts_one_way a b c d k l (inr (inr first)) (inr (inl later)) = omega (arith, first.1, later.1)
shorts_one_way a b c d k l (inr (inr first)) (inr (inr later)) = omega (arith, first.2, later.2)

pub singles_have_one_order : OneOrder
singles_have_one_order (StuckNet n v) (StuckNet m w) first later = nets_one_way n m v w first later
singles_have_one_order (StuckNet n v) (OpenPin q w) first later = later
singles_have_one_order (StuckNet n v) (Short c d l) first later = later
singles_have_one_order (OpenPin p v) (StuckNet m w) first later = first
singles_have_one_order (OpenPin p v) (OpenPin q w) first later = pins_one_way p q v w first later
singles_have_one_order (OpenPin p v) (Short c d l) first later = later
singles_have_one_order (Short a b k) (StuckNet m w) first later = first
singles_have_one_order (Short a b k) (OpenPin q w) first later = first
singles_have_one_order (Short a b k) (Short c d l) first later = shorts_one_way a b c d k l first later
