-- Lemmas about the listing of a device: its lines, and the order of its ports and of its entries.
use Rattle.std.proofs.Common.{◌≡◌, ℕ, ◌+◌, ◌-◌, ◌<◌, ◌≤◌, zero, suc, Bool, true, false, cond, List, [], ◌∷◌, ◌++◌, length, take, drop, map, filter, get_or, Some, refl, sym, ap, subst, ◌∙◌, append_assoc, append-nil, length-append, inl, inr, arith}
use Rattle.std.specs.Prelude.{◌==◌, ◌||◌, ◌&&◌, slice_get}
use Rattle.std.specs.List.{flat_map, prefix_len, range_with_len}
use Rattle.std.specs.List.Sorted.{IsNonDecreasing}
use Rattle.std.proofs.lemmas.Bool.{eqb-true, eq-eqb, cases_eq, and_parts}
use Rattle.std.proofs.lemmas.Grind.{flat_map-append}
use Rattle.std.proofs.lemmas.List.{drop_more, drop_all, take_more, take-append-drop, length-map}
use Rattle.std.proofs.lemmas.List.Folds.{flat_map-map}
use Rattle.std.proofs.lemmas.List.Elements.{filter-append, filter_more}
use Rattle.line_printer.specs.Prints.{whole, line_of}
use Rattle.board_defs.specs.DeviceRules.{is_loading, is_writing, OneOf}
use Rattle.board_defs.specs.declared.device.Symbol.{Symbol}
use Rattle.board_defs.specs.declared.device.Role.{Role}
use Rattle.board_defs.specs.declared.device.Role.TheVariants.{Input, Output2, Output3, Control as ControlRole, ControlR, Internal, Clock, Bidir, ObserveOnly}
use Rattle.board_defs.specs.declared.device.Cell.{Cell}
use Rattle.board_defs.specs.declared.device.PortBit.{PortBit}
use Rattle.board_defs.specs.declared.device.RawDevice.{RawDevice}
use Rattle.device_check.specs.declared.listing_table.Entries.{Entries}
use Rattle.device_check.specs.declared.listing_table.Entries.TheVariants.{Nothing}
use Rattle.device_check.specs.DeviceText.{symbol_word, code_text, entries_of_cell, port_line, cell_line, cell_lines}
use Rattle.device_check.specs.inner.ListingForms.{entries_in, Rises, Climbs}

code_text-append : (a b : List Symbol) → code_text (a ++ b) ≡ code_text b ++ code_text a
code_text-append [] b = sym (append-nil (code_text b))
code_text-append (s ∷ a) b = ap (λ t. t ++ symbol_word s) (code_text-append a b) ∙ append_assoc (code_text b) (code_text a) (symbol_word s)

pub code_text-more : (code : List Symbol) (i : ℕ) (d : Symbol) → i < length code
    → code_text (drop (i + 1) code) ++ symbol_word (get_or code i d) ≡ code_text (drop i code)
code_text-more code i d within = sym (ap code_text (drop_more code i d within))

pub code_text-split : (code : List Symbol) (i : ℕ) (d : Symbol) → i < length code
    → code_text (drop (i + 1) code) ++ (symbol_word (get_or code i d) ++ code_text (take i code)) ≡ code_text code
code_text-split code i d within =
    sym (append_assoc (code_text (drop (i + 1) code)) (symbol_word (get_or code i d)) (code_text (take i code)))
    ∙ ap (λ t. t ++ code_text (take i code)) (code_text-more code i d within)
    ∙ sym (code_text-append (take i code) (drop i code)) ∙ ap code_text (take-append-drop i code)

pub code_next : (code : List Symbol) (at : ℕ) (d : Symbol) (w : List ℕ) → 0 < at → at ≤ length code
    → w ≡ symbol_word (get_or code (at - 1) d)
    → code_text (drop at code) ++ w ≡ code_text (drop (at - 1) code)
code_next code at d w some within is =
    let next : at ≡ at - 1 + 1 = omega arith in
    ap (λ n. code_text (drop n code) ++ w) next
    ∙ ap (λ t. code_text (drop (at - 1 + 1) code) ++ t) is
    ∙ code_text-more code (at - 1) d (omega arith)

pub code_left : (code : List Symbol) (at : ℕ) (d : Symbol) (w : List ℕ) → 0 < at → at ≤ length code
    → w ≡ symbol_word (get_or code (at - 1) d)
    → code_text (drop at code) ++ (w ++ code_text (take (at - 1) code)) ≡ code_text code
code_left code at d w some within is =
    let next : at ≡ at - 1 + 1 = omega arith in
    ap (λ n. code_text (drop n code) ++ (w ++ code_text (take (at - 1) code))) next
    ∙ ap (λ t. code_text (drop (at - 1 + 1) code) ++ (t ++ code_text (take (at - 1) code))) is
    ∙ code_text-split code (at - 1) d (omega arith)

-- the pieces of the instruction register's line, joined in the order of printing, are the whole
-- line
pub instruction_pieces : (a b c d e : List ℕ) → whole (a ∷ b ∷ []) ++ (c ++ (d ++ (e ++ 10 ∷ []))) ≡ line_of (a ∷ b ∷ c ∷ d ∷ e ∷ [])
instruction_pieces a b c d e = simp (append_assoc, append-nil)

pub port_pieces : (a b c d e : List ℕ) → whole (a ∷ b ∷ c ∷ []) ++ (d ++ (e ++ 10 ∷ [])) ≡ line_of (a ∷ b ∷ c ∷ d ∷ e ∷ [])
port_pieces a b c d e = simp (append_assoc, append-nil)

pub cell_pieces : (a b c d e f g h i : List ℕ)
    → whole (a ∷ b ∷ c ∷ d ∷ e ∷ []) ++ (f ++ (whole (g ∷ h ∷ []) ++ (i ++ 10 ∷ [])))
    ≡ line_of (a ∷ b ∷ c ∷ d ∷ e ∷ f ∷ g ∷ h ∷ i ∷ [])
cell_pieces a b c d e f g h i = simp (append_assoc, append-nil)

pub code_pieces : (a b c d : List ℕ) → (a ++ b) ++ (c ++ d) ≡ whole (a ∷ b ∷ c ∷ d ∷ [])
code_pieces a b c d = simp (append_assoc, append-nil)

pub two_pieces : (a b : List ℕ) → a ++ b ≡ whole (a ∷ b ∷ [])
two_pieces a b = simp append-nil

pub flat-more : {X : Type 0} (f : X → List ℕ) (xs : List X) (i : ℕ) (d : X) → i < length xs
    → flat_map f (take i xs) ++ f (get_or xs i d) ≡ flat_map f (take (i + 1) xs)
flat-more f xs i d within =
    sym
    (ap (flat_map f) (take_more xs i d within)
    ∙ flat_map-append f (take i xs) (get_or xs i d ∷ [])
    ∙ ap (λ t. flat_map f (take i xs) ++ t) (append-nil (f (get_or xs i d))))

pub flat-split : {X : Type 0} (f : X → List ℕ) (xs : List X) (i : ℕ) (d : X) → i < length xs
    → flat_map f (take i xs) ++ (f (get_or xs i d) ++ flat_map f (drop (i + 1) xs)) ≡ flat_map f xs
flat-split f xs i d within =
    ap (λ t. flat_map f (take i xs) ++ t) (sym (ap (flat_map f) (drop_more xs i d within)))
    ∙ sym (flat_map-append f (take i xs) (drop i xs)) ∙ ap (flat_map f) (take-append-drop i xs)

pub range-split : (a n m : ℕ) → range_with_len a (n + m) ≡ range_with_len a n ++ range_with_len (a + n) m
range-split a n m = by n a
  where
    by : (n a : ℕ) → range_with_len a (n + m) ≡ range_with_len a n ++ range_with_len (a + n) m
    by zero a =
        let same : 0 + m ≡ m = omega arith in
        let at : a ≡ a + 0 = omega arith in
        ap (range_with_len a) same ∙ ap (λ b. range_with_len b m) at
    by (suc n) a =
        let same : suc n + m ≡ suc (n + m) = omega arith in
        let at : a + 1 + n ≡ a + suc n = omega arith in
        ap (range_with_len a) same ∙ ap (λ t. a ∷ t) (by n (a + 1) ∙ ap (λ b. range_with_len (a + 1) n ++ range_with_len b m) at)

none_here : (port : ℕ) (bit : PortBit) (bits : List PortBit) (t : Bool) → (bit.port == port) ≡ t
    → port < bit.port → filter (λ bit. bit.port == port) bits ≡ []
    → cond t (bit ∷ filter (λ bit. bit.port == port) bits) (filter (λ bit. bit.port == port) bits)
    ≡ []
none_here port bit bits true same less none = let e : bit.port ≡ port = eqb-true bit.port port same in absurd (omega arith)
none_here port bit bits false other less none = none

none_before : (port from : ℕ) (bits : List PortBit) → port < from → Rises from bits → filter (λ bit. bit.port == port) bits ≡ []
none_before port from [] less rises = refl
none_before port from (bit ∷ bits) less rises =
    let more : port < bit.port = omega (arith, rises.0) in
    none_here port bit bits (bit.port == port) refl more (none_before port bit.port bits more rises.1)

pub differ : (a b : ℕ) (t : Bool) → (a == b) ≡ t → a < b → (a == b) ≡ false
differ a b true same less = let e : a ≡ b = eqb-true a b same in absurd (omega arith)
differ a b false other less = other

later_port : (bit port : ℕ) → (bit == port) ≡ false → port ≤ bit → port < bit
later_port bit port other least =
    elim (cases_eq bit port) [
      | inl same ↦
          (let clash : true ≡ false = sym (eq-eqb bit port same) ∙ other in absurd (cc clash))
      | inr
          more ↦ omega arith
    ]

-- the first `n` bits are the bits of port `port`, and the others belong to later ports
pub record IsSplit (port : ℕ) (bits : List PortBit) (n : ℕ) : Type 0 where
  pub own : take n bits ≡ filter (λ bit. bit.port == port) bits
  pub rises : Rises (port + 1) (drop n bits)
  pub others : (q : ℕ) → port < q → filter (λ bit. bit.port == q) (drop n bits) ≡ filter (λ bit. bit.port == q) bits

split_here : (port : ℕ) (x : PortBit) (xs : List PortBit) (t : Bool) → (x.port == port) ≡ t → Rises port (x ∷ xs)
    → (Rises port xs → IsSplit port xs (prefix_len (λ bit. bit.port == port) xs))
    → IsSplit port (x ∷ xs) (cond t (1 + prefix_len (λ bit. bit.port == port) xs) 0)
split_here port x xs true same rises more =
    let n = prefix_len (λ (bit : PortBit). bit.port == port) xs in
    let one : 1 + n ≡ suc n = omega arith in
    let at : x.port ≡ port = eqb-true x.port port same in
    let rest : IsSplit port xs n = more (subst (λ p. Rises p xs) at rises.1) in
    record {
      own =
          ap (λ k. take k (x ∷ xs)) one ∙ ap (λ l. x ∷ l) rest.own
          ∙ sym
          (ap
          (λ u. cond u (x ∷ filter (λ bit. bit.port == port) xs)
          (filter (λ bit. bit.port == port) xs)) same);
      rises = subst (λ k. Rises (port + 1) (drop k (x ∷ xs))) (sym one) rest.rises;
      others = λ q less.
          let below : x.port < q = omega arith in
          ap (λ k. filter (λ bit. bit.port == q) (drop k (x ∷ xs))) one ∙ rest.others q less
          ∙ sym
          (ap
          (λ u. cond u (x ∷ filter (λ bit. bit.port == q) xs)
          (filter (λ bit. bit.port == q) xs)) (differ x.port q (x.port == q) refl below));
    }
split_here port x xs false other rises more =
    let later : port < x.port = later_port x.port port other rises.0 in
    let next : port + 1 ≤ x.port = omega arith in
    record {
      own =
          sym
          (ap
          (λ u. cond u (x ∷ filter (λ bit. bit.port == port) xs)
          (filter (λ bit. bit.port == port) xs)) other
          ∙ none_before port x.port xs later rises.1);
      rises = (next, rises.1);
      others = λ q less. refl;
    }

pub split_at_port : (port : ℕ) (bits : List PortBit) → Rises port bits → IsSplit port bits (prefix_len (λ bit. bit.port == port) bits)
split_at_port port [] rises = record { own = refl; rises = tt; others = λ q less. refl }
split_at_port port (x ∷ xs) rises = split_here port x xs (x.port == port) refl rises (λ r. split_at_port port xs r)

rises_from : (from : ℕ) (bits : List PortBit) → IsNonDecreasing (map (λ bit. bit.port) bits)
    → ((d : ℕ) → 0 < length bits → from ≤ get_or (map (λ bit. bit.port) bits) 0 d) → Rises from bits
rises_from from [] order first = tt
rises_from from (x ∷ xs) order first = (
  first 0 (omega arith),
  rises_from x.port xs (λ i j d le less. order (suc i) (suc j) d (omega arith) (omega arith))
      (λ d some. order 0 1 d (omega arith) (omega (arith, length-map xs (λ bit. bit.port)))),
)

pub rises_all : (bits : List PortBit) → IsNonDecreasing (map (λ bit. bit.port) bits) → Rises 0 bits
rises_all bits order = rises_from 0 bits order (λ d some. omega arith)

pub range-cut : (f : ℕ → List ℕ) (n m k : ℕ) → n + m ≡ k
    → flat_map f (range_with_len 0 n) ++ flat_map f (range_with_len n m)
    ≡ flat_map f (range_with_len 0 k)
range-cut f n m k sum =
    let at : 0 + n ≡ n = omega arith in
    sym
    (ap (λ l. flat_map f (range_with_len 0 l)) (sym sum) ∙ ap (flat_map f) (range-split 0 n m)
    ∙ flat_map-append f (range_with_len 0 n) (range_with_len (0 + n) m)
    ∙ ap (λ l. flat_map f (range_with_len 0 n) ++ flat_map f (range_with_len l m)) at)

pub range-more : (f : ℕ → List ℕ) (n : ℕ) → flat_map f (range_with_len 0 n) ++ f n ≡ flat_map f (range_with_len 0 (n + 1))
range-more f n = ap (λ t. flat_map f (range_with_len 0 n) ++ t) (sym (append-nil (f n))) ∙ range-cut f n 1 (n + 1) refl

pub range-rest : (f : ℕ → List ℕ) (n m k : ℕ) → n + m ≤ k
    → flat_map f (range_with_len 0 n)
    ++ (flat_map f (range_with_len n m) ++ flat_map f (range_with_len (n + m) (k - (n + m))))
    ≡ flat_map f (range_with_len 0 k)
range-rest f n m k within =
    sym
    (append_assoc (flat_map f (range_with_len 0 n)) (flat_map f (range_with_len n m))
    (flat_map f (range_with_len (n + m) (k - (n + m)))))
    ∙ ap (λ t. t ++ flat_map f (range_with_len (n + m) (k - (n + m))))
    (range-cut f n m (n + m) refl) ∙ range-cut f (n + m) (k - (n + m)) k (omega arith)

pub range-rest-one : (f : ℕ → List ℕ) (n k : ℕ) → n < k
    → flat_map f (range_with_len 0 n) ++ (f n ++ flat_map f (range_with_len (n + 1) (k - (n + 1))))
    ≡ flat_map f (range_with_len 0 k)
range-rest-one f n k within =
    ap
    (λ t. flat_map f (range_with_len 0 n)
    ++ (t ++ flat_map f (range_with_len (n + 1) (k - (n + 1))))) (sym (append-nil (f n)))
    ∙ range-rest f n 1 k (omega arith)

pub port_same : (name name' : List ℕ) (bits bits' : List PortBit) → name ≡ name' → bits ≡ bits'
    → port_line name bits ≡ port_line name' bits'
port_same name name' bits bits' n b = ap (λ t. port_line t bits) n ∙ ap (port_line name') b

pub cells_next : (ports : List (List ℕ)) (bits : List PortBit) (cells : List Cell) (from count n : ℕ) → n ≡ count
    → cell_lines ports bits cells 0 from ++ cell_lines ports bits cells from n ≡ cell_lines ports bits cells 0 (from + count)
cells_next ports bits cells from count n same =
    ap (λ k. cell_lines ports bits cells 0 from ++ cell_lines ports bits cells from k) same
    ∙ range-cut (λ num. flat_map (cell_line ports bits) (entries_of_cell num cells)) from count (from + count) refl

pub cells_left : (ports : List (List ℕ)) (bits : List PortBit) (cells : List Cell) (from count n all : ℕ) → n ≡ count → from + count ≤ all
    → cell_lines ports bits cells 0 from
    ++ (cell_lines ports bits cells from n
    ++ cell_lines ports bits cells (from + count) (all - (from + count)))
    ≡ cell_lines ports bits cells 0 all
cells_left ports bits cells from count n all same within =
    ap
    (λ k. cell_lines ports bits cells 0 from
    ++ (cell_lines ports bits cells from k
    ++ cell_lines ports bits cells (from + count) (all - (from + count)))) same
    ∙ range-rest (λ num. flat_map (cell_line ports bits) (entries_of_cell num cells)) from count all within

table_lines : (ports : List (List ℕ)) (bits : List PortBit) (cells : List Cell) (from n : ℕ) (table : List Entries)
    → map entries_in table ≡ map (λ num. entries_of_cell num cells) (range_with_len from n)
    → flat_map (λ e. flat_map (cell_line ports bits) (entries_in e)) table
    ≡ cell_lines ports bits cells from n
table_lines ports bits cells from n table same =
    sym (flat_map-map (flat_map (cell_line ports bits)) entries_in table) ∙ ap (flat_map (flat_map (cell_line ports bits))) same
    ∙ flat_map-map (flat_map (cell_line ports bits)) (λ num. entries_of_cell num cells) (range_with_len from n)

pub table_text : (ports ports' : List (List ℕ)) (bits bits' : List PortBit)
    (cells cells' : List Cell) (from n : ℕ) (table : List Entries) → ports' ≡ ports → bits' ≡ bits
    → cells' ≡ cells
    → map entries_in table ≡ map (λ num. entries_of_cell num cells') (range_with_len from n)
    → flat_map (λ e. flat_map (cell_line ports' bits') (entries_in e)) table
    ≡ cell_lines ports bits cells from n
table_text ports ports' bits bits' cells cells' from n table p b s same =
    table_lines ports' bits' cells' from n table same
    ∙ ap (λ l. cell_lines l bits' cells' from n) p ∙ ap (λ l. cell_lines ports l cells' from n) b
    ∙ ap (λ l. cell_lines ports bits l from n) s

pub table_is : (f : ℕ → List Cell) (from : ℕ) (table : List Entries)
    → ((k : ℕ) → k < length table → entries_in (get_or table k Nothing) ≡ f (from + k))
    → map entries_in table ≡ map f (range_with_len from (length table))
table_is f from [] each = refl
table_is f from (e ∷ table) each =
    let here : from + 0 ≡ from = omega arith in
    ap (λ l. l ∷ map entries_in table) (each 0 (omega arith) ∙ ap f here)
    ∙ ap (λ (l : List (List Cell)). f from ∷ l)
    (table_is f (from + 1) table
    (λ k less. let next : from + suc k ≡ from + 1 + k = omega arith in
    each (suc k) (omega arith) ∙ ap f next))

pub entries-more : (num : ℕ) (cells : List Cell) (i : ℕ) (d : Cell) → i < length cells
    → entries_of_cell num (take i cells)
    ++ cond ((get_or cells i d).num == num) (get_or cells i d ∷ []) []
    ≡ entries_of_cell num (take (i + 1) cells)
entries-more num cells i d within = sym (filter_more (λ cell. cell.num == num) cells i d within)

pub entries_step : (num : ℕ) (cells : List Cell) (i : ℕ) (d : Cell) (old new : List Cell)
    → i < length cells
    → new ≡ old ++ cond ((get_or cells i d).num == num) (get_or cells i d ∷ []) []
    → old ≡ entries_of_cell num (take i cells) → new ≡ entries_of_cell num (take (i + 1) cells)
entries_step num cells i d old new within more before =
    more ∙ ap (λ l. l ++ cond ((get_or cells i d).num == num) (get_or cells i d ∷ []) []) before ∙ entries-more num cells i d within

pub has_room : (num : ℕ) (cells : List Cell) (i : ℕ) (d : Cell) → i < length cells
    → (get_or cells i d).num ≡ num → length (entries_of_cell num cells) ≤ 2
    → length (entries_of_cell num (take i cells)) < 2
has_room num cells i d within same few =
    let x = get_or cells i d in
    let here : cond (x.num == num) (x ∷ entries_of_cell num (drop (i + 1) cells))
    (entries_of_cell num (drop (i + 1) cells)) ≡ x ∷ entries_of_cell num (drop (i + 1) cells) =
    ap (λ u. cond u (x ∷ entries_of_cell num (drop (i + 1) cells)) (entries_of_cell num (drop (i + 1) cells))) (eq-eqb x.num num same) in
    let cut : entries_of_cell num cells ≡ entries_of_cell num (take i cells) ++ (x ∷ entries_of_cell num (drop (i + 1) cells)) =
    ap (entries_of_cell num) (sym (take-append-drop i cells)) ∙ filter-append (λ cell. cell.num == num) (take i cells) (drop i cells)
    ∙ ap (λ l. entries_of_cell num (take i cells) ++ entries_of_cell num l)
    (drop_more cells i d within) ∙ ap (λ l. entries_of_cell num (take i cells) ++ l) here in
    omega (arith, ap length cut, length-append (entries_of_cell num (take i cells)) (x ∷ entries_of_cell num (drop (i + 1) cells)))

none_more : (p : Cell → Bool) (xs : List Cell) → ((j : ℕ) (d : Cell) → slice_get xs j ≡ Some d → p d ≡ true → ⊥) → filter p xs ≡ []
none_more p [] none = refl
none_more p (x ∷ xs) none =
    ap (λ u. cond u (x ∷ filter p xs) (filter p xs)) (fails (p x) refl)
    ∙ none_more p xs (λ j d is pass. none (suc j) d is pass)
  where
    fails : (t : Bool) → p x ≡ t → p x ≡ false
    fails true pass = absurd (none 0 x refl pass)
    fails false pass = pass

one_here : (p : Cell → Bool) (x : Cell) (xs : List Cell) (t : Bool) → p x ≡ t
    → ((i j : ℕ) (e d : Cell) → slice_get (x ∷ xs) i ≡ Some e → slice_get (x ∷ xs) j ≡ Some d
    → p e ≡ true → p d ≡ true → i ≡ j) → length (filter p xs) ≤ 1
    → length (cond t (x ∷ filter p xs) (filter p xs)) ≤ 1
one_here p x xs true pass one rest =
    let none : filter p xs
    ≡ [] = none_more p xs
    (λ j d is other. let clash : 0 ≡ suc j = one 0 (suc j) x d refl is pass other in
    absurd (omega arith)) in
    omega (arith, ap length none)
one_here p x xs false pass one rest = rest

one_at_most : (p : Cell → Bool) (xs : List Cell)
    → ((i j : ℕ) (e d : Cell) → slice_get xs i ≡ Some e → slice_get xs j ≡ Some d → p e ≡ true
    → p d ≡ true → i ≡ j) → length (filter p xs) ≤ 1
one_at_most p [] one = omega arith
one_at_most p (x ∷ xs) one =
    one_here p x xs (p x) refl one
    (one_at_most p xs
    (λ i j e d is_e is_d pass_e pass_d. let next : suc i
    ≡ suc j = one (suc i) (suc j) e d is_e is_d pass_e pass_d in
    omega arith))

has_class : (role : Role) → (is_loading role || is_writing role) ≡ true
has_class Input = refl
has_class Output2 = refl
has_class Output3 = refl
has_class ControlRole = refl
has_class ControlR = refl
has_class Internal = refl
has_class Clock = refl
has_class Bidir = refl
has_class ObserveOnly = refl

-- the entry belongs to the cell, and its function passes the test `roles`
abbrev of_class : (Role → Bool) → ℕ → Cell → Bool
of_class roles num cell = (cell.num == num) && roles cell.role

counted : (n l w : Bool) (x : Cell) (xs ls ws : List Cell) → (l || w) ≡ true → length xs ≤ length ls + length ws
    → length (cond n (x ∷ xs) xs) ≤ length (cond (n && l) (x ∷ ls) ls) + length (cond (n && w) (x ∷ ws) ws)
counted false l w x xs ls ws class rest = rest
counted true true true x xs ls ws class rest = omega arith
counted true true false x xs ls ws class rest = omega arith
counted true false true x xs ls ws class rest = omega arith
counted true false false x xs ls ws class rest = let clash : false ≡ true = class in absurd (cc clash)

two_classes : (num : ℕ) (cells : List Cell)
    → length (entries_of_cell num cells)
    ≤ length (filter (of_class is_loading num) cells) + length
    (filter (of_class is_writing num) cells)
two_classes num [] = omega arith
two_classes num (x ∷ cells) =
    counted (x.num == num) (is_loading x.role) (is_writing x.role) x (entries_of_cell num cells)
    (filter (of_class is_loading num) cells) (filter (of_class is_writing num) cells)
    (has_class x.role) (two_classes num cells)

one_of : (roles : Role → Bool) (device : RawDevice) (num : ℕ) → OneOf roles device → length (filter (of_class roles num) device.cells) ≤ 1
one_of roles device num one =
    one_at_most (of_class roles num) device.cells (λ i j e d is_e is_d pass_e pass_d.
    let first = and_parts (e.num == num) (roles e.role) pass_e in
    let second = and_parts (d.num == num) (roles d.role) pass_d in
    one i j e d is_e is_d first.1 second.1 (eqb-true e.num num first.0 ∙ sym (eqb-true d.num num second.0)))

-- Each entry defines what its cell captures, or takes its value from the cell's update latch, or both. A cell has at
-- most one entry of the first kind and at most one of the second, so it has at most two entries.
pub few_entries : (device : RawDevice) → OneOf is_loading device → OneOf is_writing device
    → (num : ℕ) → length (entries_of_cell num device.cells) ≤ 2
few_entries device loading writing num =
    omega (arith, two_classes num device.cells, one_of is_loading device num loading, one_of is_writing device num writing)

flat_none : (g : ℕ → List ℕ) (n a : ℕ) → ((k : ℕ) → a ≤ k → k < a + n → g k ≡ []) → flat_map g (range_with_len a n) ≡ []
flat_none g zero a none = refl
flat_none g (suc n) a none =
    ap (λ t. t ++ flat_map g (range_with_len (a + 1) n)) (none a (omega arith) (omega arith))
    ∙ flat_none g n (a + 1) (λ k least less. none k (omega arith) (omega arith))

flat_same : (g h : ℕ → List ℕ) (n a : ℕ) → ((k : ℕ) → a ≤ k → g k ≡ h k) → flat_map g (range_with_len a n) ≡ flat_map h (range_with_len a n)
flat_same g h zero a same = refl
flat_same g h (suc n) a same =
    ap (λ t. t ++ flat_map g (range_with_len (a + 1) n)) (same a (omega arith))
    ∙ ap (λ t. h a ++ t) (flat_same g h n (a + 1) (λ k least. same k (omega arith)))

other_entry : (num : ℕ) (x : Cell) (xs : List Cell) → (x.num == num) ≡ false → entries_of_cell num (x ∷ xs) ≡ entries_of_cell num xs
other_entry num x xs other = ap (λ u. cond u (x ∷ entries_of_cell num xs) (entries_of_cell num xs)) other

first_entry : (x : Cell) (xs : List Cell) → entries_of_cell x.num (x ∷ xs) ≡ x ∷ entries_of_cell x.num xs
first_entry x xs = ap (λ u. cond u (x ∷ entries_of_cell x.num xs) (entries_of_cell x.num xs)) (eq-eqb x.num x.num refl)

above : (a b : ℕ) (t : Bool) → (a == b) ≡ t → b < a → (a == b) ≡ false
above a b true same less = let e : a ≡ b = eqb-true a b same in absurd (omega arith)
above a b false other less = other

no_entry : (num most from : ℕ) (cells : List Cell) → num < from → Climbs from most cells → entries_of_cell num cells ≡ []
no_entry num most from [] less c = refl
no_entry num most from (x ∷ xs) less c =
    let more : num < x.num = omega (arith, c.0) in
    other_entry num x xs (above x.num num (x.num == num) refl more) ∙ no_entry num most x.num xs more c.1.1

climb_lines : (f : Cell → List ℕ) (most from : ℕ) (cells : List Cell) → Climbs from most cells
    → flat_map (λ num. flat_map f (entries_of_cell num cells)) (range_with_len from (most - from))
    ≡ flat_map f cells
climb_lines f most from [] c = flat_none (λ num. []) (most - from) from (λ k least less. refl)
climb_lines f most from (x ∷ xs) c =
    let m = most - (x.num + 1) in
    let before = x.num - from in
    let g : ℕ → List ℕ = λ num. flat_map f (entries_of_cell num (x ∷ xs)) in
    let h : ℕ → List ℕ = λ num. flat_map f (entries_of_cell num xs) in
    let all : most - from ≡ before + suc m = omega (arith, c.0, c.1.0) in
    let left : suc m ≡ most - x.num = omega (arith, c.1.0) in
    let at : from + before ≡ x.num = omega (arith, c.0) in
    let climbs : Climbs x.num most (x ∷ xs) = (omega arith, c.1) in
    let none : flat_map g (range_with_len from before)
    ≡ [] = flat_none g before from
    (λ k least less. ap (flat_map f)
    (no_entry k most x.num (x ∷ xs) (omega (arith, less, at)) climbs)) in
    let others : flat_map g (range_with_len (x.num + 1) m)
    ≡ flat_map h (range_with_len (x.num + 1) m) = flat_same g h m (x.num + 1)
    (λ k least. ap (flat_map f)
    (other_entry k x xs (differ x.num k (x.num == k) refl (omega arith)))) in
    ap (λ n. flat_map g (range_with_len from n)) all
    ∙ ap (flat_map g) (range-split from before (suc m))
    ∙ flat_map-append g (range_with_len from before) (range_with_len (from + before) (suc m))
    ∙ ap (λ t. t ++ flat_map g (range_with_len (from + before) (suc m))) none
    ∙ ap (λ a. flat_map g (range_with_len a (suc m))) at
    ∙ ap (λ l. flat_map f l ++ flat_map g (range_with_len (x.num + 1) m)) (first_entry x xs)
    ∙ ap (λ t. (f x ++ h x.num) ++ t) others
    ∙ append_assoc (f x) (h x.num) (flat_map h (range_with_len (x.num + 1) m))
    ∙ ap (λ n. f x ++ flat_map h (range_with_len x.num n)) left
    ∙ ap (λ t. f x ++ t) (climb_lines f most x.num xs c.1.1)

pub ordered_text : (ports ports' : List (List ℕ)) (bits bits' : List PortBit)
    (cells cells' : List Cell) (most : ℕ) → ports' ≡ ports → bits' ≡ bits → cells' ≡ cells
    → Climbs 0 most cells'
    → flat_map (cell_line ports' bits') cells' ≡ cell_lines ports bits cells 0 most
ordered_text ports ports' bits bits' cells cells' most p b s climbs =
    let same : most - 0 ≡ most = omega arith in
    sym (ap (λ n. cell_lines ports' bits' cells' 0 n) (sym same) ∙ climb_lines (cell_line ports' bits') most 0 cells' climbs)
    ∙ ap (λ l. cell_lines l bits' cells' 0 most) p ∙ ap (λ l. cell_lines ports l cells' 0 most) b
    ∙ ap (λ l. cell_lines ports bits l 0 most) s

pub climb_next : (least most : ℕ) (cells : List Cell) (i : ℕ) (d : Cell) → i < length cells
    → least ≤ (get_or cells i d).num → (get_or cells i d).num < most
    → Climbs (get_or cells i d).num most (drop (i + 1) cells) → Climbs least most (drop i cells)
climb_next least most cells i d within from below rest = subst (Climbs least most) (sym (drop_more cells i d within)) (from, (below, rest))

pub climb_end : (least most : ℕ) (cells : List Cell) (i : ℕ) → length cells ≤ i → Climbs least most (drop i cells)
climb_end least most cells i past = subst (Climbs least most) (sym (drop_all i cells past)) tt
