-- Lemmas about the fields of a scan statement.
use Rattle.std.proofs.Common.{◌≡◌, ℕ, ◌+◌, ◌-◌, ◌<◌, ◌≤◌, zero, suc, Bool, List, [], ◌∷◌, ◌++◌, length, take, drop, Result, refl, ap, subst, ◌∙◌, append_assoc, length-drop, arith}
use Rattle.std.proofs.lemmas.List.{take_all, drop-drop}
use Rattle.bt_base.specs.Puts.{Puts, Shown}
use Rattle.bt_bits.specs.Hex.{hex_text, digit_count}
use Rattle.bt_bits.proofs.HexLemmas.{length-hex_text}
use Rattle.tap_defs.specs.chain.Text.{broken}

pub whole_field : (bits : List Bool) (count : ℕ) → count ≡ digit_count (length bits) → take count (drop 0 (hex_text bits)) ≡ hex_text bits
whole_field bits count all = take_all count (hex_text bits) (omega (arith, length-hex_text bits))

pub broken-short : (room : ℕ) (digits : List ℕ) → length digits ≤ room → broken room digits ≡ digits
broken-short room [] short = refl
broken-short zero (d ∷ digits) short = absurd (omega arith)
broken-short (suc room) (d ∷ digits) short = ap (λ t. d ∷ t) (broken-short room digits (omega arith))

pub broken-long : (room : ℕ) (digits : List ℕ) → room < length digits
    → broken room digits ≡ take room digits ++ 10 ∷ broken 64 (drop room digits)
broken-long room [] long = absurd (omega arith)
broken-long zero (d ∷ digits) long = refl
broken-long (suc room) (d ∷ digits) long = ap (λ t. d ∷ t) (broken-long room digits (omega arith))

-- One step of the loop that writes a field: more than 64 digits are left, and the next 64 become a line.
pub line_more : (line digits end : List ℕ) (from : ℕ) → from + 64 < length digits
    → (line ++ (take 64 (drop from digits) ++ 10 ∷ []))
    ++ (broken 64 (drop (from + 64) digits) ++ end)
    ≡ line ++ (broken 64 (drop from digits) ++ end)
line_more line digits end from long =
    let left : 64 < length (drop from digits) = omega (arith, length-drop from digits) in
    let next : broken 64 (drop from digits) ≡ take 64 (drop from digits) ++ 10 ∷ broken 64 (drop (from + 64) digits) =
    broken-long 64 (drop from digits) left ∙ ap (λ t. take 64 (drop from digits) ++ 10 ∷ broken 64 t) (drop-drop 64 from digits) in
    rw next (simp append_assoc)

-- The last step of the loop that writes a field: at most 64 digits are left, and they become the last line.
pub line_last : (line digits end : List ℕ) (from count : ℕ) → count ≡ length digits
    → count - from ≤ 64
    → (line ++ take (count - from) (drop from digits)) ++ end
    ≡ line ++ (broken 64 (drop from digits) ++ end)
line_last line digits end from count is_count short =
    let all : take (count - from) (drop from digits)
    ≡ drop from digits = take_all (count - from) (drop from digits)
    (omega (arith, length-drop from digits)) in
    let one : broken 64 (drop from digits)
    ≡ drop from digits = broken-short 64 (drop from digits)
    (omega (arith, length-drop from digits)) in
    rw all (rw one (append_assoc line (drop from digits) end))

pub puts_same : {T E : Type 0} {old new : Shown} {a b : List ℕ} {r : Result T E} → a ≡ b → Puts old new a r → Puts old new b r
puts_same {T} {E} {old} {new} {a} {b} {r} same puts = subst (λ t. Puts old new t r) same puts
