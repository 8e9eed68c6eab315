-- Lemmas about the rows of the identity test's scan.
use Rattle.std.proofs.Common.{◌≡◌, ℕ, zero, suc, ◌+◌, ◌-◌, ◌<◌, ◌≤◌, Bool, false, List, [], ◌∷◌, ◌++◌, length, map, get_or, set, take, drop, replicate, sum_by, Option, refl, sym, ◌∙◌, ap, append_assoc, length-append, length-drop, arith}
use Rattle.std.proofs.lemmas.List.{append-nil, length-map, map-append, set_at, drop_more, length-take-le, replicate-append-replicate, take_more, take-append-drop, take_at, drop_at, drop-drop, drop-replicate}
use Rattle.std.proofs.lemmas.List.Sums.{sum_by-cons}
use Rattle.board_defs.specs.declared.device.Symbol.{Symbol}
use Rattle.tap_defs.specs.chain.Scan.{ScanBit, tdi_bits}
use Rattle.tap_defs.specs.chain.Text.{svf_text, scan_text, head_text, tail_text}
use Rattle.ident_test.specs.Patterns.{symbol_bit, register_pattern, ident_bits, ident_scan, ident_text}
use Rattle.ident_test.specs.inner.Rows.{with_values}
use Rattle.ident_test.proofs.LengthLemmas.{length-ident_bits}

pub bits_are : (patterns : List (Option (List Symbol)))
    → sum_by (λ part. length (register_pattern part)) patterns ≡ length (ident_bits patterns)
bits_are [] = refl
bits_are (part ∷ patterns) =
    omega (
      arith,
      sum_by-cons (λ (part : Option (List Symbol)). length (register_pattern part)) part patterns,
      bits_are patterns,
      length-ident_bits part patterns,
    )

pub placed_nothing : (at : ℕ) (bits : List Bool) → with_values at [] bits ≡ bits
placed_nothing at bits =
    let here : at + 0 ≡ at = omega arith in
    ap (λ n. take at bits ++ drop n bits) here ∙ take-append-drop at bits

pub placed_more : (at : ℕ) (vs bits : List Bool) (v : Bool) → at + length vs < length bits
    → set (with_values at vs bits) (at + length vs) v ≡ with_values at (vs ++ v ∷ []) bits
placed_more at vs bits v lt =
    let front : List Bool = take at bits in
    let k : ℕ = at + length vs in
    let rest : List Bool = drop (k + 1) bits in
    let old : Bool = get_or bits k false in
    let size : length (front ++ vs) ≡ k = omega (arith, length-append front vs, length-take-le at bits (omega (arith, lt))) in
    let next : k + 1 ≡ at + length (vs ++ v ∷ []) = omega (arith, length-append vs (v ∷ [])) in
    ap (λ t. set (front ++ (vs ++ t)) k v) (drop_more bits k false lt)
    ∙ ap (λ t. set t k v) (sym (append_assoc front vs (old ∷ rest)))
    ∙ set_at (front ++ vs) old rest v k size
    ∙ append_assoc front vs (v ∷ rest)
    ∙ ap (λ t. front ++ t) (sym (append_assoc vs (v ∷ []) rest))
    ∙ ap (λ n. front ++ ((vs ++ v ∷ []) ++ drop n bits)) next

-- One step of the loop that writes a pattern: the bit of symbol `i` is written after the bits of the first `i` symbols.
pub symbol_more : (g : ScanBit → Bool) (pattern : List Symbol) (i at position : ℕ)
    (now was : List Bool) (d : Symbol) (bit : Bool) → i < length pattern →
    at + length pattern ≤ length was → position ≡ at + i → now ≡ with_values at (map g (map symbol_bit (take i pattern))) was →
    bit ≡ g (symbol_bit (get_or pattern i d)) →
    set now position bit ≡ with_values at (map g (map symbol_bit (take (i + 1) pattern))) was
symbol_more g pattern i at position now was d bit lt room is_at so_far is_bit =
    let front : List Symbol = take i pattern in
    let next : Symbol = get_or pattern i d in
    let vs : List Bool = map g (map symbol_bit front) in
    let size : length vs
    ≡ i = length-map (map symbol_bit front) g ∙ length-map front symbol_bit
    ∙ length-take-le i pattern (omega (arith, lt)) in
    let there : position ≡ at + length vs = omega (arith, is_at, size) in
    let values : map g (map symbol_bit (take (i + 1) pattern)) ≡ vs ++ g (symbol_bit next) ∷ [] =
    ap (λ t. map g (map symbol_bit t)) (take_more pattern i d lt)
    ∙ ap (map g) (map-append symbol_bit front (next ∷ []))
    ∙ map-append g (map symbol_bit front) (symbol_bit next ∷ []) in
    ap (λ t. set t position bit) so_far
    ∙ ap (λ n. set (with_values at vs was) n bit) there
    ∙ placed_more at vs was bit (omega (arith, size, lt, room))
    ∙ ap (λ b. with_values at (vs ++ b ∷ []) was) is_bit
    ∙ ap (λ t. with_values at t was) (sym values)

placed_zeros : (done vs : List Bool) (at zeros : ℕ) → length done ≡ at → length vs ≤ zeros →
    with_values at vs (done ++ replicate zeros false) ≡ (done ++ vs) ++ replicate (zeros - length vs) false
placed_zeros done vs at zeros is_at few =
    let bits : List Bool = done ++ replicate zeros false in
    ap (λ t. t ++ (vs ++ drop (at + length vs) bits)) (take_at done (replicate zeros false) at is_at)
    ∙ ap (λ t. done ++ (vs ++ t))
    (sym (drop-drop (length vs) at bits)
    ∙ ap (drop (length vs)) (drop_at done (replicate zeros false) at is_at)
    ∙ drop-replicate (length vs) zeros false)
    ∙ sym (append_assoc done vs (replicate (zeros - length vs) false))

pub part_before : (parts : List (Option (List Symbol))) (i : ℕ) (part : Option (List Symbol))
    → 0 < i → i ≤ length parts → part ≡ get_or parts (i - 1) part →
    drop (i - 1) parts ≡ part ∷ drop i parts
part_before parts i part some within is =
    let next : i - 1 + 1 ≡ i = omega arith in
    drop_more parts (i - 1) part (omega arith)
    ∙ ap (λ p. p ∷ drop (i - 1 + 1) parts) (sym is)
    ∙ ap (λ k. part ∷ drop k parts) next

drop_bits : (parts : List (Option (List Symbol))) (i : ℕ) → length (ident_bits (drop i parts)) ≤ length (ident_bits parts)
drop_bits [] zero = omega arith
drop_bits [] (suc i) = omega arith
drop_bits (part ∷ parts) zero = omega arith
drop_bits (part ∷ parts) (suc i) = omega (arith, drop_bits parts i, length-ident_bits part parts)

-- One step of the loop over the parts: writing the register of part `i - 1` at position `at` adds this part to the row
-- of the later parts.
pub record WritesMore (parts : List (Option (List Symbol))) (i at : ℕ) (pattern : List Symbol) : Type 0 where
  pub next : at + length pattern ≡ length (ident_bits (drop (i - 1) parts))
  pub room : at + length pattern ≤ length (ident_bits parts)
  pub row : (g : ScanBit → Bool) (bits : List Bool)
      → bits ≡ map g (ident_bits (drop i parts)) ++ replicate (length (ident_bits parts) - at) false
      →
      with_values at (map g (map symbol_bit pattern)) bits
      ≡ map g (ident_bits (drop (i - 1) parts)) ++ replicate (length (ident_bits parts) - (at + length pattern)) false

pub writes_more : (parts : List (Option (List Symbol))) (i at : ℕ) (part : Option (List Symbol))
    (pattern : List Symbol) → 0 < i → i ≤ length parts →
    part ≡ get_or parts (i - 1) part → pattern ≡ register_pattern part → at ≡ length (ident_bits (drop i parts)) →
    WritesMore parts i at pattern
writes_more parts i at part pattern some within is is_pattern is_at = record { next = next; room = room; row = row }
  where
    before : drop (i - 1) parts ≡ part ∷ drop i parts
    before = part_before parts i part some within is

    bits_before : ident_bits (drop (i - 1) parts) ≡ ident_bits (drop i parts) ++ map symbol_bit pattern
    bits_before = ap ident_bits before ∙ ap (λ p. ident_bits (drop i parts) ++ map symbol_bit p) (sym is_pattern)

    next : at + length pattern ≡ length (ident_bits (drop (i - 1) parts))
    next =
        omega (
          arith,
          ap length bits_before,
          length-append (ident_bits (drop i parts)) (map symbol_bit pattern),
          length-map pattern symbol_bit,
          is_at,
        )

    room : at + length pattern ≤ length (ident_bits parts)
    room = omega (arith, next, drop_bits parts (i - 1))

    row : (g : ScanBit → Bool) (bits : List Bool)
        → bits
        ≡ map g (ident_bits (drop i parts)) ++ replicate (length (ident_bits parts) - at) false →
        with_values at (map g (map symbol_bit pattern)) bits
        ≡ map g (ident_bits (drop (i - 1) parts)) ++ replicate (length (ident_bits parts) - (at + length pattern)) false
    row g bits so_far =
        let vs : List Bool = map g (map symbol_bit pattern) in
        let done : List Bool = map g (ident_bits (drop i parts)) in
        let total : ℕ = length (ident_bits parts) in
        let size : length vs ≡ length pattern = length-map (map symbol_bit pattern) g ∙ length-map pattern symbol_bit in
        let less : total - at - length vs ≡ total - (at + length pattern) = omega (arith, size, room) in
        ap (with_values at vs) so_far
        ∙ placed_zeros done vs at (total - at) (length-map (ident_bits (drop i parts)) g ∙ sym is_at) (omega (arith, size, room))
        ∙ ap (λ n. (done ++ vs) ++ replicate n false) less
        ∙ ap (λ t. t ++ replicate (total - (at + length pattern)) false)
        (sym (ap (map g) bits_before ∙ map-append g (ident_bits (drop i parts)) (map symbol_bit pattern)))

pub length-placed : (at : ℕ) (vs bits : List Bool) → at + length vs ≤ length bits → length (with_values at vs bits) ≡ length bits
length-placed at vs bits le =
    omega (
      arith,
      length-append (take at bits) (vs ++ drop (at + length vs) bits),
      length-append vs (drop (at + length vs) bits),
      length-take-le at bits (omega (arith, le)),
      length-drop (at + length vs) bits,
    )

symbols_zero : (pattern : List Symbol) → tdi_bits (map symbol_bit pattern) ≡ replicate (length pattern) false
symbols_zero [] = refl
symbols_zero (symbol ∷ pattern) = ap (λ t. false ∷ t) (symbols_zero pattern)

pub tdi_zero : (patterns : List (Option (List Symbol))) → replicate (length (ident_bits patterns)) false ≡ tdi_bits (ident_bits patterns)
tdi_zero [] = refl
tdi_zero (part ∷ patterns) =
    let here : List Symbol = register_pattern part in
    ap (λ n. replicate n false) (length-ident_bits part patterns)
    ∙ sym (replicate-append-replicate (length (ident_bits patterns)) (length here) false)
    ∙ ap (λ t. t ++ replicate (length here) false) (tdi_zero patterns)
    ∙ ap (λ t. tdi_bits (ident_bits patterns) ++ t) (sym (symbols_zero here))
    ∙ sym (map-append (λ b. b.tdi) (ident_bits patterns) (map symbol_bit here))

pub text_is : (patterns : List (Option (List Symbol))) → head_text ++ (scan_text (ident_scan patterns) ++ tail_text) ≡ ident_text patterns
unfolding svf_text
text_is patterns = ap (λ t. head_text ++ (t ++ tail_text)) (sym (append-nil (scan_text (ident_scan patterns))))
