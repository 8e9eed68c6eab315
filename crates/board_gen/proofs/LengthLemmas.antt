-- Lemmas about the lengths of the texts of a generated board.
use Rattle.std.proofs.Common.{◌≡◌, ℕ, zero, suc, ◌+◌, ◌*◌, ◌<◌, ◌≤◌, Bool, true, false, List, ◌++◌, length, refl, arith}
use Rattle.std.specs.Prelude.{codes, decimal, ◌==◌, if◌then◌else◌}
use Rattle.std.specs.Fmt.{digits}
use Rattle.std.proofs.lemmas.Fmt.{length-decimal-le}
use Rattle.std.proofs.lemmas.List.{length-append}
use Rattle.board_gen.specs.DeviceText.{bsdl_text, device_head, map_line, attributes_text}
use Rattle.board_gen.specs.BoardTexts.{each, part_line, chain_file_text, pin_word, next_part, ring_line, bus_line, net_text}

decimal_short : (n : ℕ) → n < 100000 → length (decimal n) ≤ 5
decimal_short n below = length-decimal-le 5 n (omega arith) (omega arith) (omega arith)

each_short : (text : ℕ → List ℕ) (bound first count : ℕ)
    → ((n : ℕ) → n < first + count → length (text n) ≤ bound)
    → length (each text first count) ≤ count * bound
each_short text bound first zero short = omega arith
each_short text bound first (suc count) short =
    let rest : length (each text (first + 1) count)
    ≤ count * bound = each_short text bound (first + 1) count (λ n below. short n (omega arith))
    in
    let one : length (text first) ≤ bound = short first (omega arith) in
    let all : length (text first ++ each text (first + 1) count)
    ≡ length (text first) + length (each text (first + 1) count) = length-append (text first)
    (each text (first + 1) count) in
    grind (arith, rest, one, all)

part_short : (part : ℕ) → part < 256 → length (part_line part) ≤ 30
part_short part below =
    let number = decimal_short part (omega (arith, below)) in
    grind (
      arith,
      number,
      length-append (codes "DEVICE U") (decimal part ++ codes " GEN -\n"),
      length-append (decimal part) (codes " GEN -\n"),
    )

pub chain_short : (k : ℕ) → k ≤ 255 → length (chain_file_text k) ≤ 4194304
unfolding chain_file_text
chain_short k few =
    let all : length (each part_line 1 k) ≤ k * 30 = each_short part_line 30 1 k (λ n below. part_short n (omega (arith, below, few))) in
    omega (arith, all, few)

pin_short : (part pin : ℕ) → part < 100000 → pin < 100000 → length (pin_word part pin) ≤ 15
pin_short part pin few low =
    let first = decimal_short part few in
    let second = decimal_short pin low in
    grind (arith, first, second, length-append (decimal part ++ codes ".") (decimal pin), length-append (decimal part) (codes "."))

next_low : (k part : ℕ) → part < 99999 → next_part k part < 100000
next_low k part few = by (part == k)
  where
    by : (b : Bool) → (if b then 1 else part + 1) < 100000
    by true = omega arith
    by false = omega (arith, few)

ring_joined : (part bit from to : List ℕ) → length part ≤ 5 → length bit ≤ 5 → length from ≤ 15
    → length to ≤ 15
    → length (codes "NET R" ++ part ++ codes "_" ++ bit ++ from ++ to ++ codes "\n") ≤ 47
ring_joined part bit from to p b f t =
    grind (
      arith,
      p,
      b,
      f,
      t,
      length-append (part ++ codes "_" ++ bit ++ from ++ to) (codes "\n"),
      length-append (part ++ codes "_" ++ bit ++ from) to,
      length-append (part ++ codes "_" ++ bit) from,
      length-append (part ++ codes "_") bit,
      length-append part (codes "_"),
    )

ring_short : (k part bit : ℕ) → part < 99999 → bit < 99000 → length (ring_line k part bit) ≤ 47
ring_short k part bit few low =
    ring_joined (decimal part) (decimal bit) (pin_word part (bit + 1))
    (pin_word (next_part k part) (bit + 33)) (decimal_short part (omega (arith, few)))
    (decimal_short bit (omega (arith, low)))
    (pin_short part (bit + 1) (omega (arith, few)) (omega (arith, low)))
    (pin_short (next_part k part) (bit + 33) (next_low k part few) (omega (arith, low)))

bus_joined : (k : ℕ) (bit pins : List ℕ) → length bit ≤ 5 → length pins ≤ k * 15
    → length (codes "NET B" ++ bit ++ pins ++ codes "\n") ≤ k * 15 + 11
bus_joined k bit pins b p = grind (arith, b, p, length-append (bit ++ pins) (codes "\n"), length-append bit pins)

bus_short : (k bit : ℕ) → k ≤ 255 → bit < 99000 → length (bus_line k bit) ≤ 3836
bus_short k bit few low =
    let pins : length (each (λ part. pin_word part (bit + 65)) 1 k)
    ≤ k * 15 = each_short (λ part. pin_word part (bit + 65)) 15 1 k
    (λ part below. pin_short part (bit + 65) (omega (arith, below, few)) (omega (arith, low)))
    in
    let line : length (bus_line k bit)
    ≤ k * 15 + 11 = bus_joined k (decimal bit) (each (λ part. pin_word part (bit + 65)) 1 k)
    (decimal_short bit (omega (arith, low))) pins in
    omega (arith, line, few)

rings_short : (k : ℕ) → k ≤ 255 → length (each (λ part. each (ring_line k part) 0 32) 1 k) ≤ k * 1504
rings_short k few =
    each_short (λ part. each (ring_line k part) 0 32) 1504 1 k
    (λ part below. each_short (ring_line k part) 47 0 32
    (λ bit low. ring_short k part bit (omega (arith, below, few)) (omega (arith, low))))

pub net_short : (k : ℕ) → k ≤ 255 → length (net_text k) ≤ 4194304
unfolding net_text
net_short k few =
    let rings = rings_short k few in
    let buses : length (each (bus_line k) 0 8)
    ≤ 8 * 3836 = each_short (bus_line k) 3836 0 8
    (λ bit low. bus_short k bit few (omega (arith, low))) in
    let all = length-append (each (λ part. each (ring_line k part) 0 32) 1 k) (each (bus_line k) 0 8) in
    omega (arith, rings, buses, all, few)

bsdl_length : length bsdl_text ≡ 3900
unfolding bsdl_text device_head map_line attributes_text digits
bsdl_length = refl

pub bsdl_short : length bsdl_text ≤ 4194304
bsdl_short = omega (arith, bsdl_length)
