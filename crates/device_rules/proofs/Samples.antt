-- Samples of the numbers of port bits, with values computed by hand.
use Rattle.std.proofs.Common.{◌≡◌, ℕ, zero, suc, ◌≤◌, true, false, List, [], ◌∷◌, Option, Some, None, map, take, refl, arith}
use Rattle.std.specs.Prelude.{codes, slice_index}
use Rattle.board_defs.specs.declared.device.Mode.TheVariants.{Inward}
use Rattle.bsdl_parser.specs.declared.entity.Port.{Port}
use Rattle.bsdl_parser.specs.declared.entity.Range.{Range}
use Rattle.bsdl_strings.specs.declared.values.PortWord.TheVariants.{Star, Plain, Index}
use Rattle.device_rules.specs.Ports.{bit_number, bit_total, v2}
use Rattle.device_rules.specs.inner.Index.{AreBitStarts, IsIndex, index_place}

abbrev port : List ℕ → Option Range → Port
port name range = record { name = name; mode = Inward; range = range }

-- the range `7 downto 0`
abbrev falling : Option Range
falling = Some (record { left = 7; right = 0; up = false })

-- the range `2 to 4`
abbrev rising : Option Range
rising = Some (record { left = 2; right = 4; up = true })

-- port D with 8 bits, port C with 1 bit, and port Q with 3 bits
abbrev ports : List Port
ports = port (codes "D") falling ∷ port (codes "C") None ∷ port (codes "Q") rising ∷ []

-- the numbers of the ports' first bits, which are 0, 8 and 9, followed by the number of all bits
abbrev firsts : List ℕ
firsts = 0 ∷ 8 ∷ 9 ∷ 12 ∷ []

starts : AreBitStarts ports firsts
starts = record {
  size = refl;
  each = each;
}
  where
    each : (n : ℕ) → n ≤ 3 → slice_index firsts n ≡ bit_total (take n ports)
    each zero within = refl
    each (suc zero) within = refl
    each (suc (suc zero)) within = refl
    each (suc (suc (suc zero))) within = refl
    each (suc (suc (suc (suc n)))) within = absurd (omega (arith, within))

-- a list without the number of all bits as its last item is not a list of starts
no_last : AreBitStarts ports (0 ∷ 8 ∷ 9 ∷ []) → ⊥
no_last are = absurd (omega (arith, are.size))

-- port D has 8 bits, so a list with 7 bits before port C is not a list of starts
wrong_start : AreBitStarts ports (0 ∷ 7 ∷ 9 ∷ 12 ∷ []) → ⊥
wrong_start are = let before : 7 ≡ 8 = are.each 1 (omega arith) in omega (arith, before)

-- An index of ports has their starts, and its ports keep rule V2. So no two of them have the same name.
index_without_last : IsIndex ports (0 ∷ 8 ∷ 9 ∷ []) → ⊥
index_without_last index = no_last index.counted

port_twice : IsIndex (port (codes "D") None ∷ port (codes "D") None ∷ []) (0 ∷ 1 ∷ 2 ∷ []) → ⊥
unfolding v2
port_twice index = let broken : Some 2 ≡ None = index.rule in cc broken

-- if there are no ports, the only item is the number of all bits, which is 0
no_ports : AreBitStarts [] (0 ∷ [])
no_ports = record {
  size = refl;
  each = each;
}
  where
    each : (n : ℕ) → n ≤ 0 → slice_index (0 ∷ []) n ≡ bit_total (take n [])
    each zero within = refl
    each (suc n) within = absurd (omega (arith, within))

-- places of indexes at both ends of a range and just outside it
places : index_place falling (Some 7) ∷ index_place falling (Some 0) ∷ index_place falling (Some 8)
    ∷ index_place rising (Some 2) ∷ index_place rising (Some 4) ∷ index_place rising (Some 1)
    ∷ index_place rising (Some 5) ∷ []
    ≡ Some 0 ∷ Some 7 ∷ None ∷ Some 0 ∷ Some 2 ∷ None ∷ None ∷ []
places = refl

-- a port without a range has one bit, without an index; a vector has no bit without an index
plain_places : index_place None None ∷ index_place None (Some 0) ∷ index_place rising None ∷ [] ≡ Some 0 ∷ None ∷ None ∷ []
plain_places = refl

-- the number of the bit that a word names is the number of bits before its port plus its place in
-- the port
numbers : map (bit_number ports)
    (Index (codes "D") 7 ∷ Index (codes "D") 0 ∷ Plain (codes "C") ∷ Index (codes "Q") 2
    ∷ Index (codes "Q") 4 ∷ [])
    ≡ Some 0 ∷ Some 7 ∷ Some 8 ∷ Some 9 ∷ Some 11 ∷ []
numbers = refl

-- words that name no bit: `*`, a vector without an index, a port of one bit with an index, an index outside the
-- range, and a port that does not exist
no_numbers : map (bit_number ports)
    (Star ∷ Plain (codes "D") ∷ Index (codes "C") 0 ∷ Index (codes "Q") 5 ∷ Plain (codes "E") ∷ [])
    ≡ None ∷ None ∷ None ∷ None ∷ None ∷ []
no_numbers = refl
