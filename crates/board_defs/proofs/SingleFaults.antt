-- The list of single faults has exactly the board's single faults, each once and in order.
use Rattle.std.proofs.Common.{sym, ◌≡◌, ◌≢◌, ℕ, zero, suc, ◌+◌, ◌<◌, Bool, true, false, List, [], ◌∷◌, ◌++◌, length, Some, refl, ◌∙◌, ap, subst, arith, ◌⊎◌, inl, inr}
use Rattle.std.specs.Prelude.{slice_get, filter, Contains, AllPairs}
use Rattle.std.specs.List.{flat_map, enumerate_from, range_with_len}
use Rattle.std.proofs.lemmas.Bool.{or_left, or_right, or_cases}
use Rattle.std.proofs.lemmas.Option.{slice_get_within}
use Rattle.board_defs.specs.declared.board.Net.{Net}
use Rattle.board_defs.specs.declared.board.PinRef.{PinRef}
use Rattle.board_defs.specs.declared.board.RawBoard.{RawBoard}
use Rattle.board_defs.specs.declared.fault.Kind.{Kind}
use Rattle.board_defs.specs.declared.fault.Kind.TheVariants.{And, Or, First, Second}
use Rattle.board_defs.specs.declared.fault.Single.{Single}
use Rattle.board_defs.specs.declared.fault.Single.TheVariants.{StuckNet, OpenPin, Short}
use Rattle.board_defs.specs.BoardRules.{IsBoard}
use Rattle.board_defs.specs.Coverage.{IsCovered, ArePaired, IsTestedDriver, IsTestedReceiver}
use Rattle.board_defs.specs.Decided.{is_covered, are_paired, is_tested_driver, is_tested_receiver}
use Rattle.board_defs.specs.Passes.{pairs_within}
use Rattle.board_defs.specs.Faults.{Numbered, numbered_nets, covered_nets, is_tested_pin, tested_pins_in, tested_pins, paired_nets, stuck_faults, open_faults, short_faults, singles, PinPrecedes, kind_rank, SinglePrecedes, IsSingle}
use Rattle.board_defs.proofs.Members.{Has, has_contains, contains_has, has_left, has_right, has_append, has_map, map_has, has_flat_map, flat_map_has, has_filter, filter_has, has_range, has_enumerate, enumerate_has, has_at, has_pairs_within, Apart, pairs_within_has}
use Rattle.board_defs.proofs.Ordered.{InOrder, PairPrecedes, order_pairs, order_append, order_flat_map, order_filter, order_map, order_range, order_enumerate, order_pairs_within}
use Rattle.board_defs.proofs.Covered.{covered_is, covered_true, paired_is, paired_true, tested_driver_is, tested_driver_true, tested_receiver_is, tested_receiver_true, tested_below}

numbered_at : (board : RawBoard) (m : Numbered) → Has (numbered_nets board) m → slice_get board.nets m.0 ≡ Some m.1
numbered_at board m h =
    let r = enumerate_has 0 board.nets m.0 m.1 h in
    let at : m.0 ≡ r.0 = omega (arith, r.1) in
    ap (slice_get board.nets) at ∙ r.2

numbered_has : (board : RawBoard) (n : ℕ) (net : Net) → slice_get board.nets n ≡ Some net → Has (numbered_nets board) (n, net)
numbered_has board n net e =
    let at : 0 + n ≡ n = omega arith in
    let P : ℕ → Type 0 = λ k. Has (numbered_nets board) (k, net) in
    subst P at (has_enumerate 0 board.nets n net e)

numbered_place : (n : ℕ) (nets : List Net) (k : ℕ) (m : Numbered) → slice_get (enumerate_from n nets) k ≡ Some m → m.0 ≡ n + k
numbered_place n [] k m e = cc e
numbered_place n (net ∷ nets) zero m e =
    let same : (n, net) ≡ m = cc e in
    let at : n ≡ m.0 = ap (λ (q : Numbered). q.0) same in
    omega (arith, at)
numbered_place n (net ∷ nets) (suc k) m e = let at : m.0 ≡ n + 1 + k = numbered_place (n + 1) nets k m e in omega (arith, at)

at_place : (n : ℕ) (nets : List Net) (k : ℕ) (net : Net) → slice_get nets k ≡ Some net
    → slice_get (enumerate_from n nets) k ≡ Some (n + k, net)
at_place n [] k net e = cc e
at_place n (v ∷ nets) zero net e =
    let same : v ≡ net = cc e in
    let at : n ≡ n + 0 = omega arith in
    ap (λ w. let q : Numbered = (n, w) in Some q) same
    ∙ ap (λ m. let q : Numbered = (m, net) in Some q) at
at_place n (v ∷ nets) (suc k) net e =
    let at : n + 1 + k ≡ n + suc k = omega arith in
    at_place (n + 1) nets k net e ∙ ap (λ m. let q : Numbered = (m, net) in Some q) at

stuck_is : (board : RawBoard) → IsBoard board → (s : Single)
    → Has (flat_map (λ net. stuck_faults net.0) (covered_nets board)) s → IsSingle board s
stuck_is board rules s h = by_value r.2
  where
    r : (m : Numbered) × Has (covered_nets board) m × Has (stuck_faults m.0) s
    r = flat_map_has (λ (net : Numbered). stuck_faults net.0) (covered_nets board) s h

    covered : IsCovered board r.0.0
    covered =
        let f = filter_has (λ (net : Numbered). is_covered board net.1) (numbered_nets board) r.0 r.1 in
        covered_is board r.0.0 r.0.1 rules (numbered_at board r.0 f.0) f.1

    by_value : Has (stuck_faults r.0.0) s → IsSingle board s
    by_value (inl e) = let P : Single → Type 0 = λ v. IsSingle board v in subst P e covered
    by_value (inr (inl e)) = let P : Single → Type 0 = λ v. IsSingle board v in subst P e covered
    by_value (inr (inr k)) = absurd k

stuck_has : (board : RawBoard) → IsBoard board → (n : ℕ) (value : Bool) → IsCovered board n
    → Has (flat_map (λ net. stuck_faults net.0) (covered_nets board)) (StuckNet n value)
stuck_has board rules n value (setting, safe, (net, en, o)) =
    has_flat_map (λ (m : Numbered). stuck_faults m.0) (covered_nets board) (n, net) (StuckNet n value)
    (has_filter (λ (m : Numbered). is_covered board m.1) (numbered_nets board) (n, net)
    (numbered_has board n net en)
    (covered_true board n net rules en (setting, safe, (net, en, o))))
    (by_value value)
  where
    by_value : (v : Bool) → Has (stuck_faults n) (StuckNet n v)
    by_value false = inl refl
    by_value true = inr (inl refl)

open_is : (board : RawBoard) → IsBoard board → (s : Single) → Has (flat_map open_faults (tested_pins board)) s → IsSingle board s
open_is board rules s h = by_value r.2
  where
    r : (pin : PinRef) × Has (tested_pins board) pin × Has (open_faults pin) s
    r = flat_map_has open_faults (tested_pins board) s h

    tested : IsTestedDriver board r.0.net r.0.place ⊎ IsTestedReceiver board r.0.net r.0.place
    tested =
        let f = flat_map_has (tested_pins_in board) (numbered_nets board) r.0 r.1 in
        let g = map_has (λ place. let pin : PinRef = record { net = f.0.0; place = place } in pin)
        (filter (is_tested_pin board f.0.1) (range_with_len 0 (length f.0.1.pins))) r.0 f.2 in
        let k = filter_has (is_tested_pin board f.0.1) (range_with_len 0 (length f.0.1.pins)) g.0 g.1 in
        let P : PinRef → Type 0 = λ v. IsTestedDriver board v.net v.place ⊎ IsTestedReceiver board v.net v.place in
        subst P g.2
        (by_test f.0 g.0 (numbered_at board f.0 f.1)
        (or_cases (is_tested_driver board f.0.1 g.0) (is_tested_receiver board f.0.1 g.0)
        k.1))
      where
        by_test : (m : Numbered) (place : ℕ) → slice_get board.nets m.0 ≡ Some m.1
            → (is_tested_driver board m.1 place ≡ true)
            ⊎ (is_tested_receiver board m.1 place ≡ true)
            → IsTestedDriver board m.0 place ⊎ IsTestedReceiver board m.0 place
        by_test m place en (inl t) = inl (tested_driver_is board m.0 m.1 place rules en t)
        by_test m place en (inr t) = inr (tested_receiver_is board m.0 m.1 place rules en t)

    by_value : Has (open_faults r.0) s → IsSingle board s
    by_value (inl e) = let P : Single → Type 0 = λ v. IsSingle board v in subst P e tested
    by_value (inr (inl e)) = let P : Single → Type 0 = λ v. IsSingle board v in subst P e tested
    by_value (inr (inr k)) = absurd k

-- the net of the pin, the proof that the net has a pin at this place, and the proof that the pin is
-- tested
record TestedAt (board : RawBoard) (pin : PinRef) : Type 0 where
  net : Net
  on_board : slice_get board.nets pin.net ≡ Some net
  below : pin.place < length net.pins
  tested : is_tested_pin board net pin.place ≡ true

tested_at : (board : RawBoard) (pin : PinRef) → IsBoard board
    → IsTestedDriver board pin.net pin.place ⊎ IsTestedReceiver board pin.net pin.place
    → TestedAt board pin
tested_at board pin rules (inl (s, safe, (net, en, o))) =
    let t : is_tested_driver board net pin.place ≡ true = tested_driver_true board pin.net net pin.place rules en (s, safe, (net, en, o)) in
    record {
      net = net;
      on_board = en;
      below = tested_below board net pin.place t;
      tested = or_left
          (is_tested_driver board net pin.place) (is_tested_receiver board net pin.place) t;
    }
tested_at board pin rules (inr (s, safe, (net, p, driver, en, ep, reads, ne, o))) =
    let t : is_tested_receiver board net pin.place
    ≡ true = tested_receiver_true board pin.net net pin.place rules en
    (s, safe, (net, p, driver, en, ep, reads, ne, o)) in
    record {
      net = net;
      on_board = en;
      below = slice_get_within net.pins pin.place p ep;
      tested =
          or_right (is_tested_driver board net pin.place) (is_tested_receiver board net pin.place)
          t;
    }

open_has : (board : RawBoard) → IsBoard board → (pin : PinRef) (value : Bool)
    → IsTestedDriver board pin.net pin.place ⊎ IsTestedReceiver board pin.net pin.place
    → Has (flat_map open_faults (tested_pins board)) (OpenPin pin value)
open_has board rules pin value h =
    let t : TestedAt board pin = tested_at board pin rules h in
    has_flat_map open_faults (tested_pins board) pin (OpenPin pin value)
    (has_flat_map (tested_pins_in board) (numbered_nets board) (pin.net, t.net) pin (numbered_has board pin.net t.net t.on_board)
    (has_map (λ place. let r : PinRef = record { net = pin.net; place = place } in r)
    (filter (is_tested_pin board t.net) (range_with_len 0 (length t.net.pins))) pin.place
    (has_filter (is_tested_pin board t.net) (range_with_len 0 (length t.net.pins)) pin.place
    (has_range 0 (length t.net.pins) pin.place (omega arith) (omega (arith, t.below)))
    t.tested)))
    (by_value value)
  where
    by_value : (v : Bool) → Has (open_faults pin) (OpenPin pin v)
    by_value false = inl refl
    by_value true = inr (inl refl)

short_is : (board : RawBoard) → IsBoard board → (s : Single)
    → Has (flat_map (λ pair. short_faults pair.0.0 pair.1.0) (paired_nets board)) s
    → IsSingle board s
short_is board rules s h = by_kind r.2
  where
    r : (pair : Numbered × Numbered) × Has (paired_nets board) pair × Has (short_faults pair.0.0 pair.1.0) s
    r = flat_map_has (λ (pair : Numbered × Numbered). short_faults pair.0.0 pair.1.0) (paired_nets board) s h

    paired : (r.0.0.0 < r.0.1.0) × ArePaired board r.0.0.0 r.0.1.0
    paired =
        let f = filter_has (λ (pair : Numbered × Numbered). are_paired board pair.0.1 pair.1.1)
        (pairs_within (numbered_nets board)) r.0 r.1 in
        let a : Apart (numbered_nets board) r.0 = pairs_within_has (numbered_nets board) r.0 f.0 in
        let low : r.0.0.0 ≡ 0 + a.low = numbered_place 0 board.nets a.low r.0.0 a.at_low in
        let high : r.0.1.0 ≡ 0 + a.high = numbered_place 0 board.nets a.high r.0.1 a.at_high in
        let less : r.0.0.0 < r.0.1.0 = omega (arith, low, high, a.below) in (
          less,
          paired_is board r.0.0.0 r.0.1.0 r.0.0.1 r.0.1.1 rules
              (numbered_at board r.0.0 (has_at (numbered_nets board) a.low r.0.0 a.at_low))
              (numbered_at board r.0.1 (has_at (numbered_nets board) a.high r.0.1 a.at_high))
              (less_differ r.0.0.0 r.0.1.0 less) f.1,
        )
      where
        less_differ : (m n : ℕ) → m < n → m ≢ n
        less_differ m n less e = omega arith

    by_kind : Has (short_faults r.0.0.0 r.0.1.0) s → IsSingle board s
    by_kind (inl e) = let P : Single → Type 0 = λ v. IsSingle board v in subst P e paired
    by_kind (inr (inl e)) = let P : Single → Type 0 = λ v. IsSingle board v in subst P e paired
    by_kind (inr (inr (inl e))) = let P : Single → Type 0 = λ v. IsSingle board v in subst P e paired
    by_kind (inr (inr (inr (inl e)))) = let P : Single → Type 0 = λ v. IsSingle board v in subst P e paired
    by_kind (inr (inr (inr (inr k)))) = absurd k

short_has : (board : RawBoard) → IsBoard board → (a b : ℕ) (kind : Kind) → a < b
    → ArePaired board a b
    → Has (flat_map (λ pair. short_faults pair.0.0 pair.1.0) (paired_nets board)) (Short a b kind)
short_has board rules a b kind less (ne, (s, safe, ((first, ea, oa), (second, eb, ob)))) =
    has_flat_map (λ (pair : Numbered × Numbered). short_faults pair.0.0 pair.1.0)
    (paired_nets board) ((a, first), (b, second)) (Short a b kind)
    (has_filter (λ (pair : Numbered × Numbered). are_paired board pair.0.1 pair.1.1)
    (pairs_within (numbered_nets board)) ((a, first), (b, second))
    (has_pairs_within (numbered_nets board) a b (a, first) (b, second) less
    (at_place 0 board.nets a first ea ∙ number a first)
    (at_place 0 board.nets b second eb ∙ number b second))
    (paired_true board a b first second rules ea eb (ne, (s, safe, ((first, ea, oa), (second, eb, ob))))))
    (by_kind kind)
  where
    number : (n : ℕ) (net : Net) → (let q : Numbered = (0 + n, net) in Some q) ≡ (let q : Numbered = (n, net) in Some q)
    number n net = let at : 0 + n ≡ n = omega arith in ap (λ m. let q : Numbered = (m, net) in Some q) at

    by_kind : (k : Kind) → Has (short_faults a b) (Short a b k)
    by_kind And = inl refl
    by_kind Or = inr (inl refl)
    by_kind First = inr (inr (inl refl))
    by_kind Second = inr (inr (inr (inl refl)))

pub single_is : (board : RawBoard) → IsBoard board → (s : Single) → Contains (singles board) s → IsSingle board s
single_is board rules s h = by_part (has_append (stuck ++ opens) shorts s (contains_has (singles board) s h))
  where
    stuck : List Single
    stuck = flat_map (λ (net : Numbered). stuck_faults net.0) (covered_nets board)

    opens : List Single
    opens = flat_map open_faults (tested_pins board)

    shorts : List Single
    shorts = flat_map (λ (pair : Numbered × Numbered). short_faults pair.0.0 pair.1.0) (paired_nets board)

    by_first : Has stuck s ⊎ Has opens s → IsSingle board s
    by_first (inl k) = stuck_is board rules s k
    by_first (inr k) = open_is board rules s k

    by_part : Has (stuck ++ opens) s ⊎ Has shorts s → IsSingle board s
    by_part (inl k) = by_first (has_append stuck opens s k)
    by_part (inr k) = short_is board rules s k

pub single_listed : (board : RawBoard) → IsBoard board → (s : Single) → IsSingle board s → Contains (singles board) s
single_listed board rules s h = has_contains (singles board) s (by_case s h)
  where
    stuck : List Single
    stuck = flat_map (λ (net : Numbered). stuck_faults net.0) (covered_nets board)

    opens : List Single
    opens = flat_map open_faults (tested_pins board)

    shorts : List Single
    shorts = flat_map (λ (pair : Numbered × Numbered). short_faults pair.0.0 pair.1.0) (paired_nets board)

    by_case : (s : Single) → IsSingle board s → Has (singles board) s
    by_case (StuckNet net value) h =
        has_left (stuck ++ opens) shorts (StuckNet net value)
        (has_left stuck opens (StuckNet net value) (stuck_has board rules net value h))
    by_case (OpenPin pin value) h =
        has_left (stuck ++ opens) shorts (OpenPin pin value)
        (has_right stuck opens (OpenPin pin value) (open_has board rules pin value h))
    by_case (Short a b kind) h = has_right (stuck ++ opens) shorts (Short a b kind) (short_has board rules a b kind h.0 h.1)

stuck_form : (n : ℕ) (s : Single) → Has (stuck_faults n) s → (v : Bool) × (StuckNet n v ≡ s)
stuck_form n s (inl e) = (false, e)
stuck_form n s (inr (inl e)) = (true, e)
stuck_form n s (inr (inr k)) = absurd k

open_form : (pin : PinRef) (s : Single) → Has (open_faults pin) s → (v : Bool) × (OpenPin pin v ≡ s)
open_form pin s (inl e) = (false, e)
open_form pin s (inr (inl e)) = (true, e)
open_form pin s (inr (inr k)) = absurd k

short_form : (a b : ℕ) (s : Single) → Has (short_faults a b) s → (kind : Kind) × (Short a b kind ≡ s)
short_form a b s (inl e) = (And, e)
short_form a b s (inr (inl e)) = (Or, e)
short_form a b s (inr (inr (inl e))) = (First, e)
short_form a b s (inr (inr (inr (inl e)))) = (Second, e)
short_form a b s (inr (inr (inr (inr k)))) = absurd k

precedes_as : (a b s t : Single) → a ≡ s → b ≡ t → SinglePrecedes a b → SinglePrecedes s t
precedes_as a b s t e f h =
    let P : Single → Type 0 = λ v. SinglePrecedes v b in
    let Q : Single → Type 0 = λ v. SinglePrecedes s v in
    subst Q f (subst P e h)

-- the first net has the lower number
abbrev Lower : Numbered → Numbered → Type 0
Lower p q = p.0 < q.0

stuck_order : (board : RawBoard) → InOrder SinglePrecedes (flat_map (λ net. stuck_faults net.0) (covered_nets board))
stuck_order board =
    order_flat_map (λ (p q : Numbered). p.0 < q.0) SinglePrecedes (λ net. stuck_faults net.0) (covered_nets board)
    (order_filter (λ (p q : Numbered). p.0 < q.0) (λ net. is_covered board net.1) (numbered_nets board) (order_enumerate 0 board.nets))
    (λ net h. (λ s m. by_second net.0 s m, (λ s m. absurd m, tt)))
    (λ p q less s t hs ht.
    let a = stuck_form p.0 s hs in
    let b = stuck_form q.0 t ht in
    precedes_as (StuckNet p.0 a.0) (StuckNet q.0 b.0) s t a.1 b.1 (inl less))
  where
    by_second : (n : ℕ) (s : Single) → Has (StuckNet n true ∷ []) s → SinglePrecedes (StuckNet n false) s
    by_second n s (inl e) = precedes_as (StuckNet n false) (StuckNet n true) (StuckNet n false) s refl e (inr (refl, refl, refl))
    by_second n s (inr k) = absurd k

pin_order : (board : RawBoard) → InOrder PinPrecedes (tested_pins board)
pin_order board =
    order_flat_map (λ (p q : Numbered). p.0 < q.0) PinPrecedes (tested_pins_in board) (numbered_nets board) (order_enumerate 0 board.nets)
    (λ net h. order_map (λ (x y : ℕ). x < y) PinPrecedes
    (λ place. let pin : PinRef = record { net = net.0; place = place } in pin)
    (filter (is_tested_pin board net.1) (range_with_len 0 (length net.1.pins)))
    (λ x y less. inr (refl, less))
    (order_filter (λ (x y : ℕ). x < y) (is_tested_pin board net.1)
    (range_with_len 0 (length net.1.pins)) (order_range 0 (length net.1.pins))))
    (λ p q less a b ha hb. inl (across p q less a b (of_net p a ha) (of_net q b hb)))
  where
    of_net : (net : Numbered) (pin : PinRef) → Has (tested_pins_in board net) pin → pin.net ≡ net.0
    of_net net pin h =
        let r = map_has (λ place. let p : PinRef = record { net = net.0; place = place } in p)
        (filter (is_tested_pin board net.1) (range_with_len 0 (length net.1.pins))) pin h in
        ap (λ (p : PinRef). p.net) (sym r.2)

    across : (p q : Numbered) → p.0 < q.0 → (a b : PinRef) → a.net ≡ p.0 → b.net ≡ q.0 → a.net < b.net
    across p q less a b ea eb = omega (arith, ea, eb)

open_order : (board : RawBoard) → InOrder SinglePrecedes (flat_map open_faults (tested_pins board))
open_order board =
    order_flat_map PinPrecedes SinglePrecedes open_faults (tested_pins board) (pin_order board)
    (λ pin h. (λ s m. by_second pin s m, (λ s m. absurd m, tt)))
    (λ p q before s t hs ht.
    let a = open_form p s hs in
    let b = open_form q t ht in
    precedes_as (OpenPin p a.0) (OpenPin q b.0) s t a.1 b.1 (inl before))
  where
    by_second : (pin : PinRef) (s : Single) → Has (OpenPin pin true ∷ []) s → SinglePrecedes (OpenPin pin false) s
    by_second pin s (inl e) = precedes_as (OpenPin pin false) (OpenPin pin true) (OpenPin pin false) s refl e (inr (refl, refl, refl))
    by_second pin s (inr k) = absurd k

short_order : (board : RawBoard) → InOrder SinglePrecedes (flat_map (λ pair. short_faults pair.0.0 pair.1.0) (paired_nets board))
short_order board =
    order_flat_map (PairPrecedes Lower) SinglePrecedes (λ pair. short_faults pair.0.0 pair.1.0) (paired_nets board)
    (order_filter (PairPrecedes Lower) (λ pair. are_paired board pair.0.1 pair.1.1)
    (pairs_within (numbered_nets board))
    (order_pairs_within Lower (numbered_nets board) (order_enumerate 0 board.nets)))
    (λ pair h. kinds pair.0.0 pair.1.0)
    (λ p q before s t hs ht.
    let a = short_form p.0.0 p.1.0 s hs in
    let b = short_form q.0.0 q.1.0 t ht in
    precedes_as (Short p.0.0 p.1.0 a.0) (Short q.0.0 q.1.0 b.0) s t a.1 b.1 (across p q a.0 b.0 before))
  where
    across : (p q : Numbered × Numbered) (k l : Kind) → PairPrecedes Lower p q → SinglePrecedes (Short p.0.0 p.1.0 k) (Short q.0.0 q.1.0 l)
    across p q k l (inl less) = inl less
    across p q k l (inr (same, less)) = inr (inl (ap (λ (m : Numbered). m.0) same, less))

    later : (a b : ℕ) (k l : Kind) → kind_rank k < kind_rank l → (s : Single) → Short a b l ≡ s → SinglePrecedes (Short a b k) s
    later a b k l less s e = precedes_as (Short a b k) (Short a b l) (Short a b k) s refl e (inr (inr (refl, refl, less)))

    after_and : (a b : ℕ) (s : Single) → Has (Short a b Or ∷ Short a b First ∷ Short a b Second ∷ []) s → SinglePrecedes (Short a b And) s
    after_and a b s (inl e) = later a b And Or (omega arith) s e
    after_and a b s (inr (inl e)) = later a b And First (omega arith) s e
    after_and a b s (inr (inr (inl e))) = later a b And Second (omega arith) s e
    after_and a b s (inr (inr (inr k))) = absurd k

    after_or : (a b : ℕ) (s : Single) → Has (Short a b First ∷ Short a b Second ∷ []) s → SinglePrecedes (Short a b Or) s
    after_or a b s (inl e) = later a b Or First (omega arith) s e
    after_or a b s (inr (inl e)) = later a b Or Second (omega arith) s e
    after_or a b s (inr (inr k)) = absurd k

    after_first : (a b : ℕ) (s : Single) → Has (Short a b Second ∷ []) s → SinglePrecedes (Short a b First) s
    after_first a b s (inl e) = later a b First Second (omega arith) s e
    after_first a b s (inr k) = absurd k

    kinds : (a b : ℕ) → InOrder SinglePrecedes (short_faults a b)
    kinds a b = (after_and a b, (after_or a b, (after_first a b, (λ s m. absurd m, tt))))

pub singles_order : (board : RawBoard) → AllPairs SinglePrecedes (singles board)
singles_order board =
    order_pairs SinglePrecedes (singles board)
    (order_append SinglePrecedes (stuck ++ opens) shorts
    (order_append SinglePrecedes stuck opens (stuck_order board) (open_order board) first_two)
    (short_order board) third)
  where
    stuck : List Single
    stuck = flat_map (λ (net : Numbered). stuck_faults net.0) (covered_nets board)

    opens : List Single
    opens = flat_map open_faults (tested_pins board)

    shorts : List Single
    shorts = flat_map (λ (pair : Numbered × Numbered). short_faults pair.0.0 pair.1.0) (paired_nets board)

    of_stuck : (s : Single) → Has stuck s → (n : ℕ) × (v : Bool) × (StuckNet n v ≡ s)
    of_stuck s h =
        let r = flat_map_has (λ (net : Numbered). stuck_faults net.0) (covered_nets board) s h in
        let f = stuck_form r.0.0 s r.2 in
        (r.0.0, f.0, f.1)

    of_opens : (s : Single) → Has opens s → (pin : PinRef) × (v : Bool) × (OpenPin pin v ≡ s)
    of_opens s h = let r = flat_map_has open_faults (tested_pins board) s h in let f = open_form r.0 s r.2 in (r.0, f.0, f.1)

    of_shorts : (s : Single) → Has shorts s → (a : ℕ) × (b : ℕ) × (kind : Kind) × (Short a b kind ≡ s)
    of_shorts s h =
        let r = flat_map_has (λ (pair : Numbered × Numbered). short_faults pair.0.0 pair.1.0)
        (paired_nets board) s h in
        let f = short_form r.0.0.0 r.0.1.0 s r.2 in
        (r.0.0.0, r.0.1.0, f.0, f.1)

    first_two : (s t : Single) → Has stuck s → Has opens t → SinglePrecedes s t
    first_two s t hs ht = let a = of_stuck s hs in let b = of_opens t ht in precedes_as (StuckNet a.0 a.1) (OpenPin b.0 b.1) s t a.2 b.2 tt

    third : (s t : Single) → Has (stuck ++ opens) s → Has shorts t → SinglePrecedes s t
    third s t hs ht = by_part (has_append stuck opens s hs) (of_shorts t ht)
      where
        by_part : Has stuck s ⊎ Has opens s → (a : ℕ) × (b : ℕ) × (kind : Kind) × (Short a b kind ≡ t) → SinglePrecedes s t
        by_part (inl h) b = let a = of_stuck s h in precedes_as (StuckNet a.0 a.1) (Short b.0 b.1 b.2) s t a.2 b.3 tt
        by_part (inr h) b = let a = of_opens s h in precedes_as (OpenPin a.0 a.1) (Short b.0 b.1 b.2) s t a.2 b.3 tt
