-- Under a single fault, each compared cell captures a bit that depends only on the row in the latches. The free bits do
-- not change it.
use Rattle.std.proofs.Common.{◌≡◌, ◌≢◌, ◌⊎◌, inl, inr, ℕ, zero, suc, ◌+◌, ◌<◌, ◌==◌, Bool, true, false, cond, not, ◌&&◌, ◌||◌, List, [], ◌∷◌, Option, Some, None, refl, sym, ◌∙◌, ap, subst, arith}
use Rattle.std.specs.Prelude.{slice_get, unwrap_or, option_and_then}
use Rattle.std.specs.List.{cons_option}
use Rattle.std.proofs.Math.Bool.{and-true, or-false}
use Rattle.std.proofs.lemmas.Bool.{both_ways, or_cases, eqb-true, eq-eqb, ne_eqb}
use Rattle.board_defs.specs.declared.device.Cell.{Cell}
use Rattle.board_defs.specs.declared.device.RawDevice.{RawDevice}
use Rattle.board_defs.specs.declared.board.PinAt.{PinAt}
use Rattle.board_defs.specs.declared.board.PinRef.{PinRef}
use Rattle.board_defs.specs.declared.board.Net.{Net}
use Rattle.board_defs.specs.declared.board.RawBoard.{RawBoard}
use Rattle.board_defs.specs.declared.fault.Kind.{Kind}
use Rattle.board_defs.specs.declared.fault.Kind.TheVariants.{And, Or, First, Second}
use Rattle.board_defs.specs.declared.fault.Single.{Single}
use Rattle.board_defs.specs.declared.fault.Single.TheVariants.{StuckNet, OpenPin, Short}
use Rattle.board_defs.specs.BoardRules.{IsBoard}
use Rattle.board_defs.specs.DeviceRules.{is_receiving, reading_entry}
use Rattle.board_defs.specs.Pins.{guarded, receives_where}
use Rattle.board_defs.specs.Settings.{IsSafe}
use Rattle.board_defs.specs.Faults.{IsSingle}
use Rattle.tap_defs.specs.chain.Part.{PinState}
use Rattle.tap_defs.specs.chain.Chain.{ChainPart, pin_states}
use Rattle.tap_defs.specs.chain.Run.{Choice}
use Rattle.tap_defs.specs.board.FaultSet.{FaultSet}
use Rattle.tap_defs.specs.board.NetBits.{Feeding, Unruled, Undriven, Driven, Contended, live_where, feeding, fed, held, OfNet, all_bits, bit_at_net, combined, is_in_short, shorted_nets, is_decided, numbered_value, bits_fed, bits_held, first_combined, short_bit, unshorted_bit, net_bit, net_bit_by, bit_or_else, Place, place_of}
use Rattle.tap_defs.specs.board.TestRows.{TestRow, quiet_row, first_enabled, reads_beside, observing_driver_by, observing_driver, only_if, expect_observed, expect_place, expect_pin, expect_entry}
use Rattle.tap_defs.specs.board.RowCaptures.{row_states}
use Rattle.tap_defs.specs.board.RowDriving.{row_feeding}
use Rattle.tap_defs.specs.board.Explaining.{short_kind, set_of, IsCompared}
use Rattle.tap_defs.specs.board.SingleBits.{bit_of_feeding, shorted, shorted_nets_bit, is_place, single_bit}
use Rattle.tap_defs.proofs.board.InTestLemmas.{InTest, shifted_row}
use Rattle.tap_defs.proofs.board.WrongLemmas.{Compared, captures}
use Rattle.tap_defs.proofs.board.FeedingLemmas.{Carries, driven, pulled, carries, dead_at}
use Rattle.tap_defs.proofs.board.PassingLemmas.{stands_at}
use Rattle.tap_defs.proofs.board.QuietLemmas.{BoardRules, device_of}
use Rattle.tap_defs.proofs.board.NetRuleLemmas.{board_rules}
use Rattle.tap_defs.proofs.board.FixedLemmas.{all_decided, decided}
use Rattle.tap_defs.proofs.board.ResponseLemmas.{driven_bit, plain_is}
use Rattle.tap_defs.proofs.board.OneResponseLemmas.{holding_chain, held_in_test, all_show}
use Rattle.tap_defs.proofs.board.DrivingLemmas.{feeding_is}
use Rattle.tap_defs.proofs.board.SingleLemmas.{single_observable, single_no_open_shorted}
use Rattle.tap_defs.proofs.board.CellPlaceLemmas.{captured_cell}

-- In this row the cell is compared with the bit `v`: `entry`, its reading entry, reads the pin at `place`, the row
-- observes the net of this pin by a driver on another pin, and the net carries `v`.
pub record ReadsPlace (board : RawBoard) (row : TestRow) (part : ℕ) (device : RawDevice) (cell : ℕ)
    (place : Place) (v : Bool) : Type 0 where
  pub entry : Cell
  pub reads : reading_entry device cell ≡ Some entry
  pub receiving : is_receiving entry.role ≡ true
  pub bit : ℕ
  pub bit_is : entry.bit ≡ Some bit
  pub receives_is : receives_where board (Some (record { part = part; bit = bit })) ≡ true
  pub stands : place_of (record { part = part; bit = bit }) 0 board.nets ≡ Some place
  pub driver : ℕ
  pub observing : observing_driver board row.setting place.net ≡ Some driver
  pub other : (driver == place.place) ≡ false
  pub carried : row.carried place.number ≡ Some v

module _ (board : RawBoard) (row : TestRow) (part : ℕ) (device : RawDevice) (cell : ℕ) (place : Place) (v : Bool) where
  module _ (entry : Cell) (reads : reading_entry device cell ≡ Some entry)
      (receiving : is_receiving entry.role ≡ true) (bit : ℕ) (bit_is : entry.bit ≡ Some bit)
      (receives_is : receives_where board (Some (record { part = part; bit = bit })) ≡ true)
      (stands : place_of (record { part = part; bit = bit }) 0 board.nets ≡ Some place) where
    by_other : (d : ℕ) → observing_driver board row.setting place.net ≡ Some d → (b : Bool) → (d == place.place) ≡ b →
        only_if (not b) (row.carried place.number) ≡ Some v → ReadsPlace board row part device cell place v
    by_other d o true q e = cc e
    by_other d o false q e = record {
      entry = entry;
      reads = reads;
      receiving = receiving;
      bit = bit;
      bit_is = bit_is;
      receives_is = receives_is;
      stands = stands;
      driver = d;
      observing = o;
      other = q;
      carried = e;
    }

    by_driver : (o : Option ℕ) → observing_driver board row.setting place.net ≡ o →
        expect_observed (row.carried place.number) place.place o ≡ Some v → ReadsPlace board row part device cell place v
    by_driver None o e = cc e
    by_driver (Some d) o e = by_other d o (d == place.place) refl e

    by_stand : expect_place board row (place_of (record { part = part; bit = bit }) 0 board.nets)
        ≡ Some v → ReadsPlace board row part device cell place v
    by_stand e =
        by_driver (observing_driver board row.setting place.net) refl
        (sym (ap (λ (o : Option Place). expect_place board row o) stands) ∙ e)

  abbrev placed : Option ℕ → Option Place
  placed o = option_and_then (λ b. place_of (record { part = part; bit = b }) 0 board.nets) o

  by_bit : (entry : Cell) → reading_entry device cell ≡ Some entry → is_receiving entry.role ≡ true → (o : Option ℕ) → entry.bit ≡ o →
      expect_pin board row part o ≡ Some v → placed o ≡ Some place → ReadsPlace board row part device cell place v
  by_bit entry reads receiving None q e at = cc e
  by_bit entry reads receiving (Some b) q e at = by_receives (receives_where board (Some (record { part = part; bit = b }))) refl e
    where
      by_receives : (r : Bool) → receives_where board (Some (record { part = part; bit = b })) ≡ r →
          cond r (expect_place board row (place_of (record { part = part; bit = b }) 0 board.nets))
          None ≡ Some v → ReadsPlace board row part device cell place v
      by_receives true r h = by_stand entry reads receiving b q r at h
      by_receives false r h = cc h

  by_entry : (o : Option Cell) → reading_entry device cell ≡ o → expect_entry board row part o ≡ Some v →
      option_and_then (λ entry. placed entry.bit) o ≡ Some place → ReadsPlace board row part device cell place v
  by_entry None q e at = cc e
  by_entry (Some entry) q e at = by_role (is_receiving entry.role) refl e
    where
      by_role : (r : Bool) → is_receiving entry.role ≡ r
          → cond r (expect_pin board row part entry.bit) None ≡ Some v
          → ReadsPlace board row part device cell place v
      by_role true r h = by_bit entry q r entry.bit refl h at
      by_role false r h = cc h

  pub reads_place : IsCompared board row part device cell place v → ReadsPlace board row part device cell place v
  reads_place c = by_entry (reading_entry device cell) refl c.expects c.reads

-- Lemmas about a short of two nets, with the numbers `a` and `b`: which nets are in the short, and which bit the short has.
module _ (a b : ℕ) (less : a < b) (kind : Kind) (one two : Net) where
  abbrev faults_of : FaultSet
  faults_of = set_of (Short a b kind)

  in_short : (n : ℕ) → is_in_short (faults_of.short n) 0 ≡ ((n == a) || (n == b))
  in_short n = by_test ((n == a) || (n == b))
    where
      by_test : (t : Bool) → is_in_short (cond t (Some 0) None) 0 ≡ t
      by_test true = refl
      by_test false = refl

  step : (n : ℕ) (net : Net) (nets : List Net) (t : Bool) → ((n == a) || (n == b)) ≡ t →
      shorted_nets faults_of 0 n (net ∷ nets)
      ≡ cond t ((n, net) ∷ shorted_nets faults_of 0 (suc n) nets)
      (shorted_nets faults_of 0 (suc n) nets)
  step n net nets t e =
      ap (λ (x : Bool). cond x ((n, net) ∷ shorted_nets faults_of 0 (suc n) nets) (shorted_nets faults_of 0 (suc n) nets)) (in_short n ∙ e)

  neither : (n : ℕ) → n ≢ a → n ≢ b → ((n == a) || (n == b)) ≡ false
  neither n p q = ap (λ (x : Bool). x || (n == b)) (ne_eqb n a p) ∙ ne_eqb n b q

  second_is : (n : ℕ) → n ≡ b → n ≢ a → ((n == a) || (n == b)) ≡ true
  second_is n e p = ap (λ (x : Bool). x || (n == b)) (ne_eqb n a p) ∙ ap (λ (x : ℕ). n == x) (sym e) ∙ eq-eqb n n refl

  first_is : (n : ℕ) → n ≡ a → ((n == a) || (n == b)) ≡ true
  first_is n e = ap (λ (x : Bool). x || (n == b)) (ap (λ (x : ℕ). n == x) (sym e) ∙ eq-eqb n n refl)

  none_after : (n : ℕ) (nets : List Net) → b < n → shorted_nets faults_of 0 n nets ≡ []
  none_after n [] h = refl
  none_after n (net ∷ nets) h =
      step n net nets false (neither n (λ e. omega (arith, e, h, less)) (λ e. omega (arith, e, h)))
      ∙ none_after (suc n) nets (omega (arith, h))

  pair_is : (n m : ℕ) (x y : Net) → n ≡ m → x ≡ y → ◌≡◌ {A = OfNet Net} (n, x) (m, y)
  pair_is n m x y e f = ap (λ (k : ℕ). (k, x)) e ∙ ap (λ (z : Net). (m, z)) f

  one_after : (n j : ℕ) (nets : List Net) → a < n → slice_get nets j ≡ Some two → n + j ≡ b
      → shorted_nets faults_of 0 n nets ≡ (b, two) ∷ []
  one_after n j [] h e z = cc e
  one_after n zero (net ∷ nets) h e z =
      let same : net ≡ two = cc e in
      let here : n ≡ b = omega (arith, z) in
      step n net nets true (second_is n here (λ q. omega (arith, q, h)))
      ∙ ap (λ (rest : List (OfNet Net)). (n, net) ∷ rest) (none_after (suc n) nets (omega (arith, here)))
      ∙ ap (λ (x : OfNet Net). x ∷ []) (pair_is n b net two here same)
  one_after n (suc j) (net ∷ nets) h e z =
      step n net nets false (neither n (λ q. omega (arith, q, h)) (λ q. omega (arith, q, z)))
      ∙ one_after (suc n) j nets (omega (arith, h)) e (omega (arith, z))

  two_after : (n i j : ℕ) (nets : List Net) → slice_get nets i ≡ Some one → n + i ≡ a → slice_get nets j ≡ Some two → n + j ≡ b →
      shorted_nets faults_of 0 n nets ≡ (a, one) ∷ (b, two) ∷ []
  two_after n i j [] e z f w = cc e
  two_after n zero zero (net ∷ nets) e z f w = absurd (omega (arith, z, w, less))
  two_after n zero (suc j) (net ∷ nets) e z f w =
      let same : net ≡ one = cc e in
      let here : n ≡ a = omega (arith, z) in
      step n net nets true (first_is n here)
      ∙ ap (λ (rest : List (OfNet Net)). (n, net) ∷ rest) (one_after (suc n) j nets (omega (arith, here)) f (omega (arith, w)))
      ∙ ap (λ (x : OfNet Net). x ∷ (b, two) ∷ []) (pair_is n a net one here same)
  two_after n (suc i) zero (net ∷ nets) e z f w = absurd (omega (arith, z, w, less))
  two_after n (suc i) (suc j) (net ∷ nets) e z f w =
      step n net nets false (neither n (λ q. omega (arith, q, z)) (λ q. omega (arith, q, w)))
      ∙ two_after (suc n) i j nets e (omega (arith, z)) f (omega (arith, w))

  -- A single bit is combined into itself. The bits of both nets are combined according to the kind of their short.
  alone : (k : Kind) (c : ℕ) (u : Bool) → combined (short_kind a b k) ((c, u) ∷ []) ≡ u
  alone And c u = and-true u
  alone Or c u = or-false u
  alone First c u = by_test (c == a)
    where
      by_test : (t : Bool) → unwrap_or (cond t (Some u) None) (u && true) ≡ u
      by_test true = refl
      by_test false = and-true u
  alone Second c u = by_test (c == b)
    where
      by_test : (t : Bool) → unwrap_or (cond t (Some u) None) (u && true) ≡ u
      by_test true = refl
      by_test false = and-true u

  both : (k : Kind) (u w v : Bool) → combined (short_kind a b k) ((a, u) ∷ (b, w) ∷ []) ≡ unwrap_or (shorted k (Some u) (Some w)) v
  both And u w v = ap (λ (x : Bool). u && x) (and-true w)
  both Or u w v = ap (λ (x : Bool). u || x) (or-false w)
  both First u w v =
      ap
      (λ (t : Bool). unwrap_or (cond t (Some u) (bit_at_net a ((b, w) ∷ [])))
      (all_bits ((a, u) ∷ (b, w) ∷ []))) (eq-eqb a a refl)
  both Second u w v =
      ap
      (λ (t : Bool). unwrap_or (cond t (Some u) (bit_at_net b ((b, w) ∷ [])))
      (all_bits ((a, u) ∷ (b, w) ∷ []))) (ne_eqb a b (λ e. omega (arith, e, less)))
      ∙ ap (λ (t : Bool). unwrap_or (cond t (Some w) None) (all_bits ((a, u) ∷ (b, w) ∷ []))) (eq-eqb b b refl)

  -- the bit of a short of two ruled nets that each have at most one live driver, and of which at least one is driven or
  -- pulled
  short_is : (k : Kind) (x y : Feeding) (p q : Option Bool) (v free : Bool) (d : ℕ)
      → is_decided x ≡ true → is_decided y ≡ true → Carries d p v x ⊎ Carries d q v y →
      first_combined (short_kind a b k)
      (cons_option (numbered_value a (fed faults_of a x))
      (cons_option (numbered_value b (fed faults_of b y)) []))
      (cons_option (numbered_value a (held faults_of a p x)) (cons_option (numbered_value b (held faults_of b q y)) [])) free
      ≡ unwrap_or (bit_or_else (shorted k (bit_of_feeding x) (bit_of_feeding y)) (shorted k p q)) v
  short_is k Unruled y p q v free d hx hy c = cc hx
  short_is k Contended y p q v free d hx hy c = cc hx
  short_is k Undriven Unruled p q v free d hx hy c = cc hy
  short_is k Undriven Contended p q v free d hx hy c = cc hy
  short_is k (Driven i u) Unruled p q v free d hx hy c = cc hy
  short_is k (Driven i u) Contended p q v free d hx hy c = cc hy
  short_is k (Driven i u) Undriven p q v free d hx hy c = alone k a u
  short_is k Undriven (Driven j w) p q v free d hx hy c = alone k b w
  short_is k (Driven i u) (Driven j w) p q v free d hx hy c = both k u w v ∙ by_kind k
    where
      by_kind : (l : Kind)
          → unwrap_or (shorted l (Some u) (Some w)) v
          ≡ unwrap_or (bit_or_else (shorted l (Some u) (Some w)) (shorted l p q)) v
      by_kind And = refl
      by_kind Or = refl
      by_kind First = refl
      by_kind Second = refl
  short_is k Undriven Undriven (Some u) (Some w) v free d hx hy c = both k u w v
  short_is k Undriven Undriven (Some u) None v free d hx hy c = alone k a u
  short_is k Undriven Undriven None (Some w) v free d hx hy c = alone k b w
  short_is k Undriven Undriven None None v free d hx hy c = absurd (elim c [ inl h ↦ none_carries h | inr h ↦ none_carries h ])
    where
      none_carries : Carries d None v Undriven → ⊥
      none_carries (driven e) = cc e
      none_carries (pulled e f) = cc f

first_driver : (board : RawBoard) (row : TestRow) (net : Net) (d : ℕ)
    → observing_driver board row.setting net ≡ Some d
    → first_enabled board row.setting 0 net.pins ≡ Some d
first_driver board row net d e = go (guarded board net) e
  where
    same : (t : Bool) (x : ℕ) → cond t (Some x) None ≡ Some d → Some x ≡ Some d
    same true x h = h
    same false x h = cc h

    inner : (o : Option ℕ) → observing_driver_by board net o ≡ Some d → o ≡ Some d
    inner None h = cc h
    inner (Some i) h = same (reads_beside board i 0 net.pins) i h

    go : (g : Bool)
        → cond g None (observing_driver_by board net (first_enabled board row.setting 0 net.pins))
        ≡ Some d → first_enabled board row.setting 0 net.pins ≡ Some d
    go true h = cc h
    go false h = inner (first_enabled board row.setting 0 net.pins) h

-- the bit that a compared cell captures while a row with a safe setting is in the latches
module _ (board : RawBoard) (rules : IsBoard board) (row : TestRow) (safe : IsSafe board row.setting) where
  abbrev chain : List ChainPart
  chain = holding_chain board row 0 board.chain

  abbrev states : List PinState
  states = pin_states chain

  abbrev held_row : InTest board (shifted_row board (record { now = row; before = quiet_row })) chain
  held_row = held_in_test board row

  abbrev places : BoardRules board
  places = board_rules board rules

  module _ (n : ℕ) (net : Net) (place : ℕ) (en : slice_get board.nets n ≡ Some net) (d : ℕ)
      (observing : observing_driver board row.setting net ≡ Some d) (v : Bool)
      (carried : row.carried n ≡ Some v) where
    abbrev at : Place
    at = record { number = n; net = net; place = place }

    abbrev Value : Single → Type 0
    Value single = (shorts : ℕ → Bool) (w : Bool) →
        unwrap_or ((set_of single).opened n place)
        (unwrap_or (net_bit board (set_of single) states shorts n net) w)
        ≡ single_bit board single row at v

    carried_is : Carries d net.pull v (feeding board states net)
    carried_is = carries board row safe n net (places.nets n net en) d observing quiet_row chain held_row v carried

    plain : (faults : FaultSet)
        → unshorted_bit faults n net.pull (feeding board states net)
        ≡ Some (driven_bit (faults.opened n d) net.pull v)
    plain faults = plain_is faults d n net.pull v (feeding board states net) carried_is

    stuck_value : (m : ℕ) (u : Bool) → Value (StuckNet m u)
    stuck_value m u shorts w = by_test (n == m)
      where
        by_test : (t : Bool)
            → unwrap_or
            (net_bit_by board (set_of (StuckNet m u)) states shorts n net (cond t (Some u) None)
            None) w ≡ cond t u v
        by_test true = refl
        by_test false = ap (λ (o : Option Bool). unwrap_or o w) (plain (set_of (StuckNet m u)))

    open_value : (pin : PinRef) (u : Bool) → Value (OpenPin pin u)
    open_value pin u shorts w =
        ap (λ (o : Option Bool). unwrap_or ((set_of (OpenPin pin u)).opened n place) (unwrap_or o w)) (plain (set_of (OpenPin pin u)))
        ∙ by_tests (n == pin.net) (place == pin.place) (d == pin.place)
        ∙ sym
        (ap
        (λ (o : Option ℕ). cond (n == pin.net)
        (cond (place == pin.place) u
        (cond (is_place o pin.place) (unwrap_or net.pull u) v)) v)
        (first_driver board row net d observing))
      where
        by_tests : (x y z : Bool) →
            unwrap_or (cond (x && y) (Some u) None)
            (unwrap_or (Some (driven_bit (cond (x && z) (Some u) None) net.pull v)) w)
            ≡ cond x (cond y u (cond z (unwrap_or net.pull u) v)) v
        by_tests false y z = refl
        by_tests true true z = refl
        by_tests true false true = refl
        by_tests true false false = refl

    -- the case of a short of two nets
    module _ (a b : ℕ) (kind : Kind) (is_single : IsSingle board (Short a b kind)) where
      abbrev faults : FaultSet
      faults = set_of (Short a b kind)

      abbrev one : Net
      one = is_single.1.1.2.0.0

      abbrev one_at : slice_get board.nets a ≡ Some one
      one_at = is_single.1.1.2.0.1

      abbrev two : Net
      two = is_single.1.1.2.1.0

      abbrev two_at : slice_get board.nets b ≡ Some two
      two_at = is_single.1.1.2.1.1

      one_open : guarded board one ≡ false
      one_open = is_single.1.1.2.0.2.1.open_net

      two_open : guarded board two ≡ false
      two_open = is_single.1.1.2.1.2.1.open_net

      abbrev bits_are : List (OfNet Net) → Bool → Bool
      bits_are nets free =
          first_combined (short_kind a b kind) (bits_fed board faults states nets)
          (bits_held board faults states nets) free

      nets_are : shorted_nets faults 0 0 board.nets ≡ (a, one) ∷ (b, two) ∷ []
      nets_are =
          let za : 0 + a ≡ a = omega arith in
          let zb : 0 + b ≡ b = omega arith in
          two_after a b is_single.0 kind one two 0 a b board.nets one_at za two_at zb

      here_is : (m : ℕ) (x : Net) → n ≡ m → slice_get board.nets m ≡ Some x → Carries d x.pull v (feeding board states x)
      here_is m x e at_m =
          let both_at : Some net ≡ Some x = sym en ∙ ap (λ (k : ℕ). slice_get board.nets k) e ∙ at_m in
          let same : net ≡ x = cc both_at in
          subst (λ (y : Net). Carries d y.pull v (feeding board states y)) same carried_is

      some_carries : ((n == a) || (n == b)) ≡ true
          → Carries d one.pull v (feeding board states one)
          ⊎ Carries d two.pull v (feeding board states two)
      some_carries e =
          elim (or_cases (n == a) (n == b) e) [
            | inl h ↦ inl (here_is a one (eqb-true n a h) one_at)
            | inr h ↦ inr
                (here_is b two (eqb-true n b h) two_at)
          ]

      short_bit_is : ((n == a) || (n == b)) ≡ true → (free : Bool) →
          short_bit board faults states free 0
          ≡ unwrap_or
          (shorted_nets_bit board row kind (slice_get board.nets a) (slice_get board.nets b))
          v
      short_bit_is e free =
          let x : Feeding = feeding board states one in
          let y : Feeding = feeding board states two in
          let pulls : Option Bool = shorted kind one.pull two.pull in
          ap (λ (t : Bool). cond t (bits_are (shorted_nets faults 0 0 board.nets) free) free)
          (all_decided board row safe places quiet_row chain held_row faults
          (single_observable board (Short a b kind) is_single).is_set
          (single_no_open_shorted (Short a b kind)) 0)
          ∙ ap (λ (nets : List (OfNet Net)). bits_are nets free) nets_are
          ∙ short_is a b is_single.0 kind one two kind x y one.pull two.pull v free d
          (decided board row safe places quiet_row chain held_row a one one_at one_open)
          (decided board row safe places quiet_row chain held_row b two two_at two_open) (some_carries e)
          ∙ ap
          (λ (f : Feeding). unwrap_or
          (bit_or_else (shorted kind (bit_of_feeding f) (bit_of_feeding y)) pulls) v)
          (feeding_is board row safe places quiet_row chain held_row a one one_at one_open)
          ∙ ap
          (λ (f : Feeding). unwrap_or
          (bit_or_else
          (shorted kind (bit_of_feeding (row_feeding board row one)) (bit_of_feeding f))
          pulls) v)
          (feeding_is board row safe places quiet_row chain held_row b two two_at two_open)
          ∙ sym (ap (λ (o : Option Net). unwrap_or (shorted_nets_bit board row kind o (Some two)) v) one_at)
          ∙ sym (ap (λ (o : Option Net). unwrap_or (shorted_nets_bit board row kind (slice_get board.nets a) o) v) two_at)

      short_value : Value (Short a b kind)
      short_value shorts w = by_test ((n == a) || (n == b)) refl
        where
          by_test : (t : Bool) → ((n == a) || (n == b)) ≡ t →
              unwrap_or (net_bit_by board (set_of (Short a b kind)) states shorts n net None (cond t (Some 0) None)) w
              ≡ cond t (unwrap_or (shorted_nets_bit board row kind (slice_get board.nets a) (slice_get board.nets b)) v) v
          by_test true e = short_bit_is e (shorts 0)
          by_test false e = ap (λ (o : Option Bool). unwrap_or o w) (plain (set_of (Short a b kind)))

    value : (single : Single) → IsSingle board single → Value single
    value (StuckNet m u) is_single = stuck_value m u
    value (OpenPin pin u) is_single = open_value pin u
    value (Short a b kind) is_single = short_value a b kind is_single

  pub cell_value : (single : Single) → IsSingle board single → (part : ℕ) (device : RawDevice) (cell : ℕ) (place : Place) (v : Bool) →
      IsCompared board row part device cell place v → (choice : Choice) →
      captured_cell board (set_of single) (row_states board row) choice part device cell ≡ single_bit board single row place v
  cell_value single is_single part device cell place v c choice =
      let r = reads_place board row part device cell place v c in
      let pin_at : PinAt = record { part = part; bit = r.bit } in
      let s = stands_at board pin_at place 0 board.nets r.stands in
      let z : s.index ≡ place.number = omega (arith, s.number_is) in
      let net_at : slice_get board.nets place.number
      ≡ Some place.net = subst (λ (x : ℕ). slice_get board.nets x ≡ Some place.net) z s.net_is
      in
      let ne : place.place
      ≢ r.driver = λ q. both_ways (r.driver == place.place) r.other
      (ap (λ (x : ℕ). r.driver == x) q ∙ eq-eqb r.driver r.driver refl) in
      let d = device_of board part device c.is_device in
      let compared : Compared board row.setting place.number place.net = record {
        k = part;
        part = d.part;
        device = device;
        at_k = d.at_k;
        device_is = d.kind_is;
        cell = cell;
        below = c.below;
        entry = r.entry;
        reads = r.reads;
        receiving = r.receiving;
        bit = r.bit;
        bit_is = r.bit_is;
        receives_is = r.receives_is;
        place = place.place;
        stands = r.stands;
        pin = s.pin;
        pin_is = s.pin_is;
        pin_at = s.at_is;
        driver = r.driver;
        observing_is = r.observing;
        other = r.other;
      } in
      let dead : live_where board states (Some pin_at) ≡ false =
      sym (ap (λ (o : Option PinAt). live_where board states o) s.at_is)
      ∙ dead_at board row safe place.number place.net (places.nets place.number place.net net_at)
      r.driver r.observing quiet_row chain held_row place.place s.pin s.pin_is ne in
      subst
      (λ (all : List PinState). captured_cell board (set_of single) all choice part device cell
      ≡ single_bit board single row place v) (all_show board row 0 board.chain)
      (captures board (set_of single) row.setting place.number place.net states choice.shorts ((choice.parts part).cells cell) compared dead
      ∙ value place.number place.net place.place net_at r.driver r.observing v r.carried single
      is_single choice.shorts ((choice.parts part).cells cell))
