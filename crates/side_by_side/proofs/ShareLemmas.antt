-- Lemmas about the number of items in a piece.
use Rattle.std.proofs.Common.{◌≡◌, ℕ, ◌+◌, ◌-◌, ◌*◌, ◌<◌, ◌≤◌, arith}
use Rattle.std.proofs.Math.Nat.{div-mul-le_self, lt-div-mul-add, lt_of_mul-lt-mul_right}
use Rattle.side_by_side.specs.Pieces.{piece_start}

pub starts_low : (items pieces number : ℕ) → piece_start items pieces number * pieces ≤ number * items
starts_low items pieces number = div-mul-le_self (number * items) pieces

pub starts_high : (items pieces number : ℕ) → 0 < pieces → number * items < (piece_start items pieces number + 1) * pieces
starts_high items pieces number some = omega (arith, lt-div-mul-add {a = number * items} {b = pieces} some)

size_most : (items pieces number : ℕ) → 0 < pieces
    → piece_start items pieces (number + 1) * pieces
    < items + (piece_start items pieces number + 1) * pieces
size_most items pieces number some =
    let next : (number + 1) * items ≡ number * items + items = omega arith in
    omega (arith, next, starts_low items pieces (number + 1), starts_high items pieces number some)

size_least : (items pieces number : ℕ) → 0 < pieces
    → items + piece_start items pieces number * pieces
    < (piece_start items pieces (number + 1) + 1) * pieces
size_least items pieces number some =
    let next : (number + 1) * items ≡ number * items + items = omega arith in
    omega (arith, next, starts_high items pieces (number + 1) some, starts_low items pieces number)

sizes : (items pieces first end start stop : ℕ) → end * pieces < items + (first + 1) * pieces
    → items + start * pieces < (stop + 1) * pieces → end + start < stop + first + 2
sizes items pieces first end start stop most least = lt_of_mul-lt-mul_right pieces (omega (arith, most, least))

pub even : (items pieces one other : ℕ) → 0 < pieces →
    piece_start items pieces (one + 1) - piece_start items pieces one
    ≤ piece_start items pieces (other + 1) - piece_start items pieces other + 1
even items pieces one other some =
    let apart : piece_start items pieces (one + 1) + piece_start items pieces other
    < piece_start items pieces (other + 1) + piece_start items pieces one + 2 =
    sizes items pieces (piece_start items pieces one) (piece_start items pieces (one + 1))
    (piece_start items pieces other) (piece_start items pieces (other + 1))
    (size_most items pieces one some) (size_least items pieces other some) in
    omega (arith, apart)
