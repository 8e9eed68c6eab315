-- If no open pin is on a shorted net, the bit that a compared cell captures while a row with a safe setting is in the
-- latches does not depend on free bits.
use Rattle.std.proofs.Common.{◌≡◌, ◌≢◌, ◌⊎◌, inl, inr, ℕ, zero, suc, ◌+◌, ◌==◌, Bool, true, false, cond, not, ◌&&◌, List, [], ◌∷◌, Option, Some, None, refl, sym, ◌∙◌, ap, subst, arith}
use Rattle.std.specs.Prelude.{slice_get}
use Rattle.std.specs.List.{list_all}
use Rattle.std.proofs.lemmas.Bool.{and_from, eqb-true, eq-eqb, false_from_ne_true}
use Rattle.board_defs.specs.declared.board.PinAt.{PinAt}
use Rattle.board_defs.specs.declared.board.NetPin.{NetPin}
use Rattle.board_defs.specs.declared.board.Net.{Net}
use Rattle.board_defs.specs.declared.board.RawBoard.{RawBoard}
use Rattle.board_defs.specs.Pins.{guarded}
use Rattle.board_defs.specs.Settings.{IsSafe}
use Rattle.board_defs.specs.Coverage.{IsCovered}
use Rattle.board_defs.proofs.Members.{Has, has_filter_map}
use Rattle.tap_defs.specs.chain.Part.{PinState}
use Rattle.tap_defs.specs.chain.Chain.{ChainPart, pin_states}
use Rattle.tap_defs.specs.board.FaultSet.{ShortKind, FaultSet, IsFaultSet}
use Rattle.tap_defs.specs.board.NetBits.{extest_where, live, driver_bit, ruled, Feeding, Unruled, with_pin, feeding_from, feeding, fed, fed_unless, held, OfNet, is_in_short, shorted_nets, is_decided, numbered_value, bits_fed, bits_held, first_combined, short_bit, net_bit, net_bit_by}
use Rattle.tap_defs.specs.board.TestRows.{TestRow, observing_driver}
use Rattle.tap_defs.specs.board.RowCaptures.{NoOpenShorted}
use Rattle.tap_defs.proofs.board.InTestLemmas.{InTest, shifted_row}
use Rattle.tap_defs.proofs.board.LiveLemmas.{extest_is}
use Rattle.tap_defs.proofs.board.FeedingLemmas.{PinRules, apart, placed, all_dead, all_pass, Carries, driven, pulled, carries}
use Rattle.tap_defs.proofs.board.QuietLemmas.{BoardRules, live_on}
use Rattle.tap_defs.proofs.board.ResponseLemmas.{driven_bit, plain_is}

one_feeds : (board : RawBoard) (states : List PinState) (m : ℕ) (ps : List NetPin) →
    ((i j : ℕ) (p q : NetPin) → slice_get ps i ≡ Some p → slice_get ps j ≡ Some q → i ≢ j
    → live board states p ≡ true → live board states q ≡ true → ⊥) →
    is_decided (feeding_from board states m ps) ≡ true
one_feeds board states m [] one = refl
one_feeds board states m (p ∷ ps) one =
    by_head
    (one_feeds board states (suc m) ps
    (λ i j x y ex ey ne. one (suc i) (suc j) x y ex ey (λ e. ne (omega (arith, e)))))
    (live board states p) refl
  where
    by_head : is_decided (feeding_from board states (suc m) ps) ≡ true → (b : Bool) → live board states p ≡ b →
        is_decided (with_pin b m (driver_bit board states p.at) (feeding_from board states (suc m) ps)) ≡ true
    by_head rest false e = rest
    by_head rest true e =
        ap (λ (f : Feeding). is_decided (with_pin true m (driver_bit board states p.at) f))
        (all_dead board states (suc m) ps
        (λ i q eq. false_from_ne_true (live board states q)
        (λ on. one 0 (suc i) p q refl eq (λ z. absurd (omega (arith, z))) e on)))

shorted_pass : (faults : FaultSet) (k n : ℕ) (nets : List Net) (test : OfNet Net → Bool) →
    ((i : ℕ) (net : Net) → slice_get nets i ≡ Some net → faults.short (n + i) ≡ Some k
    → test (n + i, net) ≡ true) → list_all test (shorted_nets faults k n nets) ≡ true
shorted_pass faults k n [] test h = refl
shorted_pass faults k n (net ∷ nets) test h =
    by_short
    (shorted_pass faults k (suc n) nets test (λ i x e s.
    let z : suc n + i ≡ n + suc i = omega arith in
    ap (λ (j : ℕ). test (j, x)) z ∙ h (suc i) x e (ap faults.short (sym z) ∙ s)))
    (faults.short n) refl
  where
    with_number : (j : ℕ) → faults.short n ≡ Some j → (b : Bool) → (j == k) ≡ b →
        list_all test (shorted_nets faults k (suc n) nets) ≡ true →
        list_all test (cond b ((n, net) ∷ shorted_nets faults k (suc n) nets) (shorted_nets faults k (suc n) nets)) ≡ true
    with_number j s false e rest = rest
    with_number j s true e rest =
        let z : n + 0 ≡ n = omega arith in
        and_from (test (n, net)) (list_all test (shorted_nets faults k (suc n) nets))
        (ap (λ (x : ℕ). test (x, net)) (sym z) ∙ h 0 net refl (ap faults.short z ∙ s ∙ ap (λ (x : ℕ). Some x) (eqb-true j k e))) rest

    by_short : list_all test (shorted_nets faults k (suc n) nets) ≡ true → (o : Option ℕ) → faults.short n ≡ o →
        list_all test (cond (is_in_short o k) ((n, net) ∷ shorted_nets faults k (suc n) nets) (shorted_nets faults k (suc n) nets)) ≡ true
    by_short rest None s = rest
    by_short rest (Some j) s = with_number j s (j == k) refl rest

shorted_has : (faults : FaultSet) (k n : ℕ) (nets : List Net) (i : ℕ) (net : Net) → slice_get nets i ≡ Some net →
    faults.short (n + i) ≡ Some k → Has (shorted_nets faults k n nets) (n + i, net)
shorted_has faults k n [] i net e s = cc e
shorted_has faults k n (x ∷ nets) zero net e s =
    let z : n + 0 ≡ n = omega arith in
    let same : x ≡ net = cc e in
    let here : faults.short n ≡ Some k = ap faults.short (sym z) ∙ s in
    subst (λ (l : List (OfNet Net)). Has l (n + 0, net))
    (sym
    (ap
    (λ (o : Option ℕ). cond (is_in_short o k) ((n, x) ∷ shorted_nets faults k (suc n) nets)
    (shorted_nets faults k (suc n) nets)) here
    ∙ ap (λ (b : Bool). cond b ((n, x) ∷ shorted_nets faults k (suc n) nets) (shorted_nets faults k (suc n) nets)) (eq-eqb k k refl)))
    (inl (ap (λ (y : Net). (n, y)) same ∙ ap (λ (m : ℕ). (m, net)) (sym z)))
shorted_has faults k n (x ∷ nets) (suc i) net e s =
    let z : suc n + i ≡ n + suc i = omega arith in
    let rest : Has (shorted_nets faults k (suc n) nets) (suc n + i, net) = shorted_has faults k
    (suc n) nets i net e (ap faults.short z ∙ s) in
    by_test (subst (λ (m : ℕ). Has (shorted_nets faults k (suc n) nets) (m, net)) z rest) (is_in_short (faults.short n) k)
  where
    by_test : Has (shorted_nets faults k (suc n) nets) (n + suc i, net) → (b : Bool) →
        Has (cond b ((n, x) ∷ shorted_nets faults k (suc n) nets) (shorted_nets faults k (suc n) nets)) (n + suc i, net)
    by_test rest true = inr rest
    by_test rest false = rest

-- If some net of a short is fed or held, the bit of the short does not depend on the free bit.
combined_fixed : (kind : ShortKind) (fs hs : List (OfNet Bool)) (x : OfNet Bool) → Has fs x ⊎ Has hs x → (free other : Bool) →
    first_combined kind fs hs free ≡ first_combined kind fs hs other
combined_fixed kind (f ∷ fs) hs x h free other = refl
combined_fixed kind [] (g ∷ hs) x h free other = refl
combined_fixed kind [] [] x (inl h) free other = absurd h
combined_fixed kind [] [] x (inr h) free other = absurd h

module _ (board : RawBoard) (row : TestRow) (safe : IsSafe board row.setting)
    (rules : BoardRules board) (before : TestRow) (chain : List ChainPart)
    (h : InTest board (shifted_row board (record { now = row; before = before })) chain) where
  pub under_extest : (n : ℕ) (net : Net) (i : ℕ) (p : NetPin) → PinRules board n net i p → extest_where (pin_states chain) p.at ≡ true
  under_extest n net i p (apart a) = ap (λ (o : Option PinAt). extest_where (pin_states chain) o) a
  under_extest n net i p (placed at part device a ek ed wired pinned place) =
      ap (λ (o : Option PinAt). extest_where (pin_states chain) o) a
      ∙ extest_is board (record { now = row; before = before }) chain at.part part device h ek ed

  -- While the row is in the latches, every unguarded net has at most one live driver and is ruled: every described part
  -- with a pin on the net has the instruction EXTEST.
  pub decided : (n : ℕ) (net : Net) → slice_get board.nets n ≡ Some net → guarded board net ≡ false →
      is_decided (feeding board (pin_states chain) net) ≡ true
  decided n net en unguarded =
      let r = rules.nets n net en in
      let all : list_all (λ p. extest_where (pin_states chain) p.at) net.pins ≡ true =
      all_pass (λ p. extest_where (pin_states chain) p.at) net.pins (λ i p e. under_extest n net i p (r.pins i p e)) in
      let ruled_is : ruled board (pin_states chain) net ≡ true =
      ap (λ (b : Bool). not b && list_all (λ p. extest_where (pin_states chain) p.at) net.pins) unguarded ∙ all in
      ap (λ (b : Bool). is_decided (cond b (feeding_from board (pin_states chain) 0 net.pins) Unruled)) ruled_is
      ∙ one_feeds board (pin_states chain) 0 net.pins
      (λ i j p q ep eq ne on also. safe.one n net i j p q en ep eq ne
      (live_on board row safe rules before chain h n net i p en ep on)
      (live_on board row safe rules before chain h n net j q en eq also))

  module _ (faults : FaultSet) (is_set : IsFaultSet board faults) (no_open : NoOpenShorted faults) where
    covered_open : (i : ℕ) (net : Net) → slice_get board.nets i ≡ Some net → IsCovered board i → guarded board net ≡ false
    covered_open i net e cov =
        let o = cov.2 in
        let same : o.0 ≡ net = let z : Some o.0 ≡ Some net = sym o.1 ∙ e in cc z in
        subst (λ (x : Net). guarded board x ≡ false) same o.2.1.open_net

    pub all_decided : (k : ℕ) →
        list_all (λ net. is_decided (feeding board (pin_states chain) net.1)) (shorted_nets faults k 0 board.nets) ≡ true
    all_decided k =
        shorted_pass faults k 0 board.nets (λ net. is_decided (feeding board (pin_states chain) net.1))
        (λ i x e s.
        let z : 0 + i ≡ i = omega arith in
        decided i x e (covered_open i x e (subst (λ (m : ℕ). IsCovered board m) z (is_set.covered (0 + i) k s))))

    -- a net that the row observes carries the bit that the row gives it
    module _ (n : ℕ) (net : Net) (en : slice_get board.nets n ≡ Some net) (d : ℕ)
        (observing : observing_driver board row.setting net ≡ Some d) (v : Bool)
        (carried_is : row.carried n ≡ Some v) where
      carries_v : Carries d net.pull v (feeding board (pin_states chain) net)
      carries_v = carries board row safe n net (rules.nets n net en) d observing before chain h v carried_is

      module _ (k : ℕ) (s : faults.short n ≡ Some k) where
        abbrev nets : List (OfNet Net)
        nets = shorted_nets faults k 0 board.nets

        in_short : Has nets (n, net)
        in_short =
            let z : 0 + n ≡ n = omega arith in
            subst (λ (m : ℕ). Has nets (m, net)) z (shorted_has faults k 0 board.nets n net en (ap faults.short z ∙ s))

        is_given : Carries d net.pull v (feeding board (pin_states chain) net) →
            Has (bits_fed board faults (pin_states chain) nets) (n, v) ⊎ Has (bits_held board faults (pin_states chain) nets) (n, v)
        is_given (driven e) =
            inl
            (has_filter_map
            (λ (x : OfNet Net). numbered_value x.0
            (fed faults x.0 (feeding board (pin_states chain) x.1))) nets (n, net) (n, v)
            in_short
            (ap (λ (f : Feeding). numbered_value n (fed faults n f)) e ∙ ap
            (λ (o : Option Bool). numbered_value n (fed_unless o v)) (no_open n k d s)))
        is_given (pulled e p) =
            inr
            (has_filter_map
            (λ (x : OfNet Net). numbered_value x.0
            (held faults x.0 x.1.pull (feeding board (pin_states chain) x.1))) nets (n, net)
            (n, v) in_short
            (ap (λ (f : Feeding). numbered_value n (held faults n net.pull f)) e ∙ ap (λ (o : Option Bool). numbered_value n o) p))

        short_fixed : (free other : Bool) →
            short_bit board faults (pin_states chain) free k ≡ short_bit board faults (pin_states chain) other k
        short_fixed free other =
            let fs : List (OfNet Bool) = bits_fed board faults (pin_states chain) nets in
            let hs : List (OfNet Bool) = bits_held board faults (pin_states chain) nets in
            ap (λ (b : Bool). cond b (first_combined (faults.kind k) fs hs free) free) (all_decided k)
            ∙ combined_fixed (faults.kind k) fs hs (n, v) (is_given carries_v) free other
            ∙ sym (ap (λ (b : Bool). cond b (first_combined (faults.kind k) fs hs other) other) (all_decided k))

      -- the net has one bit, whatever the free bits are
      abbrev Fixed : Type 0
      Fixed = (bit : Bool) × ((shorts : ℕ → Bool) → net_bit board faults (pin_states chain) shorts n net ≡ Some bit)

      by_short : faults.stuck n ≡ None → (o : Option ℕ) → faults.short n ≡ o → Fixed
      by_short st None s = (
        driven_bit (faults.opened n d) net.pull v,
        λ shorts.
            ap (λ (o : Option Bool). net_bit_by board faults (pin_states chain) shorts n net o (faults.short n)) st
            ∙ ap (λ (o : Option ℕ). net_bit_by board faults (pin_states chain) shorts n net None o) s
            ∙ plain_is faults d n net.pull v (feeding board (pin_states chain) net) carries_v,
      )
      by_short st (Some k) s = (
        short_bit board faults (pin_states chain) false k,
        λ shorts.
            ap (λ (o : Option Bool). net_bit_by board faults (pin_states chain) shorts n net o (faults.short n)) st
            ∙ ap (λ (o : Option ℕ). net_bit_by board faults (pin_states chain) shorts n net None o) s
            ∙ ap (λ (b : Bool). Some b) (short_fixed k s (shorts k) false),
      )

      by_stuck : (o : Option Bool) → faults.stuck n ≡ o → Fixed
      by_stuck None st = by_short st (faults.short n) refl
      by_stuck (Some u) st = (
        u,
        λ shorts. ap
            (λ (o : Option Bool). net_bit_by board faults (pin_states chain) shorts n net o
            (faults.short n)) st,
      )

      pub fixed : Fixed
      fixed = by_stuck (faults.stuck n) refl
