-- Lemmas about the rows of the two scans of the chain test.
use Rattle.std.proofs.Common.{◌≡◌, ℕ, ◌+◌, ◌-◌, ◌*◌, ◌<◌, ◌≤◌, zero, suc, Bool, true, false, List, [], ◌∷◌, ◌++◌, length, get_or, set, drop, map, replicate, sum, is_some, unwrap_or, refl, sym, ap, ◌∙◌, append_assoc, length-append, arith}
use Rattle.std.proofs.lemmas.List.{append-nil, set_at, set-append_right, length-replicate, length-map, map-append, replicate_more, replicate-append-replicate, drop_more}
use Rattle.std.proofs.lemmas.List.Sums.{sum_by-cons, sum_by-le, sum_by-take-drop}
use Rattle.std.specs.Prelude.{◌||◌}
use Rattle.std.specs.List.{list_any, All}
use Rattle.std.proofs.Math.Bool.{or-true}
use Rattle.board_defs.specs.Limits.{IsInstructionLength}
use Rattle.tap_defs.specs.chain.Scan.{Scan, tdi_bits, tdo_bits, mask_bits}
use Rattle.tap_defs.specs.chain.Codes.{sent, code_bits}
use Rattle.tap_defs.specs.chain.Text.{scan_text, scan_texts}
use Rattle.tap_defs.specs.chain.ChainScans.{marks, compared_with, chain_scans}
use Rattle.tap_defs.proofs.chain.RowLemmas.{tdi_bits-code_bits, tdi_bits-compared}
use Rattle.svf_writer.specs.inner.Chain.{bypass_bits, mark_bits, with_marks}

set_first : (done : List Bool) (at m : ℕ) (x y : Bool) → length done ≡ at → 0 < m
    → set (done ++ replicate m x) at y ≡ done ++ y ∷ replicate (m - 1) x
set_first done at zero x y is_at some = absurd (omega arith)
set_first done at (suc m) x y is_at some =
    let less : suc m - 1 ≡ m = omega arith in
    set_at done x (replicate m x) y at is_at ∙ ap (λ k. done ++ y ∷ replicate k x) (sym less)

pub ones_more : (len at : ℕ) → at < len
    → set (replicate at true ++ replicate (len - at) false) at true
    ≡ replicate (at + 1) true ++ replicate (len - (at + 1)) false
ones_more len at within =
    let less : len - at - 1 ≡ len - (at + 1) = omega arith in
    set_first (replicate at true) at (len - at) false true (length-replicate at true) (omega arith)
    ∙ ap (λ k. replicate at true ++ true ∷ replicate k false) less
    ∙ sym (append_assoc (replicate at true) (true ∷ []) (replicate (len - (at + 1)) false))
    ∙ ap (λ t. t ++ replicate (len - (at + 1)) false) (replicate_more at true)

sent_tdo : (n : ℕ) → tdo_bits (map sent (replicate n true)) ≡ replicate n false
sent_tdo zero = refl
sent_tdo (suc n) = ap (λ t. false ∷ t) (sent_tdo n)

sent_mask : (n : ℕ) → mask_bits (map sent (replicate n true)) ≡ replicate n false
sent_mask zero = refl
sent_mask (suc n) = ap (λ t. false ∷ t) (sent_mask n)

bypass_tdo : (n : ℕ) → 2 ≤ n → tdo_bits (code_bits (replicate n true)) ≡ true ∷ replicate (n - 1) false
bypass_tdo zero long = absurd (omega arith)
bypass_tdo (suc zero) long = absurd (omega arith)
bypass_tdo (suc (suc n)) long =
    let rest : suc n ≡ suc (suc n) - 1 = omega arith in
    ap (λ t. true ∷ false ∷ t) (sent_tdo n) ∙ ap (λ k. true ∷ replicate k false) rest

bypass_mask : (n : ℕ) → 2 ≤ n → mask_bits (code_bits (replicate n true)) ≡ true ∷ true ∷ replicate (n - 2) false
bypass_mask zero long = absurd (omega arith)
bypass_mask (suc zero) long = absurd (omega arith)
bypass_mask (suc (suc n)) long =
    let rest : n ≡ suc (suc n) - 2 = omega arith in
    ap (λ t. true ∷ true ∷ t) (sent_mask n) ∙ ap (λ k. true ∷ true ∷ replicate k false) rest

pub bypass_bits-tdi : (lengths : List ℕ) → tdi_bits (bypass_bits lengths) ≡ replicate (sum lengths) true
bypass_bits-tdi [] = refl
bypass_bits-tdi (n ∷ lengths) =
    let total : sum lengths + n ≡ sum (n ∷ lengths) = omega (arith, sum_by-cons (λ (x : ℕ). x) n lengths) in
    map-append (λ b. b.tdi) (bypass_bits lengths) (code_bits (replicate n true))
    ∙ ap (λ t. t ++ tdi_bits (code_bits (replicate n true))) (bypass_bits-tdi lengths)
    ∙ ap (λ t. replicate (sum lengths) true ++ t) (tdi_bits-code_bits (replicate n true))
    ∙ replicate-append-replicate (sum lengths) n true ∙ ap (λ k. replicate k true) total

pub length-bypass_bits : (lengths : List ℕ) → length (bypass_bits lengths) ≡ sum lengths
length-bypass_bits lengths =
    sym (length-map (bypass_bits lengths) (λ b. b.tdi)) ∙ ap length (bypass_bits-tdi lengths)
    ∙ length-replicate (sum lengths) true

-- One step of the loop over the parts, from the last part to the first: a one at the lowest bit of the part's register
-- adds the expected bits of the part to the row of TDO.
pub tdo_step : (rest : List ℕ) (n at total : ℕ) (bits : List Bool) → 2 ≤ n → at ≡ sum rest
    → at + n ≤ total → bits ≡ tdo_bits (bypass_bits rest) ++ replicate (total - at) false
    → set bits at true ≡ tdo_bits (bypass_bits (n ∷ rest)) ++ replicate (total - (at + n)) false
tdo_step rest n at total bits long is_at within so_far =
    let done : List Bool = tdo_bits (bypass_bits rest) in
    let done_at : length done ≡ at = length-map (bypass_bits rest) (λ b. unwrap_or b.expect false) ∙ length-bypass_bits rest ∙ sym is_at in
    let zeros : n - 1 + (total - (at + n)) ≡ total - at - 1 = omega arith in
    ap (λ t. set t at true) so_far ∙ set_first done at (total - at) false true done_at (omega arith)
    ∙ sym
    (ap (λ t. t ++ replicate (total - (at + n)) false)
    (map-append (λ b. unwrap_or b.expect false) (bypass_bits rest)
    (code_bits (replicate n true)))
    ∙ append_assoc done (tdo_bits (code_bits (replicate n true))) (replicate (total - (at + n)) false)
    ∙ ap (λ t. done ++ (t ++ replicate (total - (at + n)) false)) (bypass_tdo n long)
    ∙ ap (λ t. done ++ true ∷ t) (replicate-append-replicate (n - 1) (total - (at + n)) false)
    ∙ ap (λ k. done ++ true ∷ replicate k false) zeros)

pub mask_step : (rest : List ℕ) (n at total : ℕ) (bits : List Bool) → 2 ≤ n → at ≡ sum rest
    → at + n ≤ total → bits ≡ mask_bits (bypass_bits rest) ++ replicate (total - at) false
    → set (set bits at true) (at + 1) true
    ≡ mask_bits (bypass_bits (n ∷ rest)) ++ replicate (total - (at + n)) false
mask_step rest n at total bits long is_at within so_far =
    let done : List Bool = mask_bits (bypass_bits rest) in
    let done_at : length done ≡ at = length-map (bypass_bits rest) (λ b. is_some b.expect) ∙ length-bypass_bits rest ∙ sym is_at in
    let zeros : n - 2 + (total - (at + n)) ≡ total - at - 1 - 1 = omega arith in
    let next : length (done ++ true ∷ []) ≡ at + 1 = omega (arith, length-append done (true ∷ [])) in
    ap (λ t. set (set t at true) (at + 1) true) so_far
    ∙ ap (λ t. set t (at + 1) true)
    (set_first done at (total - at) false true done_at (omega arith)
    ∙ sym (append_assoc done (true ∷ []) (replicate (total - at - 1) false)))
    ∙ set_first (done ++ true ∷ []) (at + 1) (total - at - 1) false true next (omega arith)
    ∙ append_assoc done (true ∷ []) (true ∷ replicate (total - at - 1 - 1) false)
    ∙ sym
    (ap (λ t. t ++ replicate (total - (at + n)) false)
    (map-append (λ b. is_some b.expect) (bypass_bits rest) (code_bits (replicate n true)))
    ∙ append_assoc done (mask_bits (code_bits (replicate n true))) (replicate (total - (at + n)) false)
    ∙ ap (λ t. done ++ (t ++ replicate (total - (at + n)) false)) (bypass_mask n long)
    ∙ ap (λ t. done ++ true ∷ true ∷ t) (replicate-append-replicate (n - 2) (total - (at + n)) false)
    ∙ ap (λ k. done ++ true ∷ true ∷ replicate k false) zeros)

set_after : (n i k : ℕ) (bits : List Bool) → i ≡ n + k → set (replicate n false ++ bits) i true ≡ replicate n false ++ set bits k true
set_after n i k bits is_i =
    let less : i - n ≡ k = omega arith in
    set-append_right (replicate n false) bits n i true (length-replicate n false) (omega arith)
    ∙ ap (λ j. replicate n false ++ set bits j true) less

pub marked-zeros : (at rest : ℕ) → with_marks at (replicate (at + (8 + rest)) false) ≡ replicate at false ++ (marks ++ replicate rest false)
marked-zeros at rest =
    let here : at ≡ at + 0 = omega arith in
    let zeros : List Bool = false ∷ false ∷ false ∷ false ∷ false ∷ false ∷ false ∷ false ∷ replicate rest false in
    let eight : replicate (at + (8 + rest)) false ≡ replicate at false ++ zeros =
    sym (replicate-append-replicate at (8 + rest) false)
    ∙ ap (λ t. replicate at false ++ t) (sym (replicate-append-replicate 8 rest false)) in
    ap (with_marks at) eight
    ∙ ap (λ t. set (set (set t (at + 2) true) (at + 5) true) (at + 7) true) (set_after at at 0 zeros here)
    ∙ ap (λ t. set (set t (at + 5) true) (at + 7) true) (set_after at (at + 2) 2 (set zeros 0 true) refl)
    ∙ ap (λ t. set t (at + 7) true) (set_after at (at + 5) 5 (set (set zeros 0 true) 2 true) refl)
    ∙ set_after at (at + 7) 7 (set (set (set zeros 0 true) 2 true) 5 true) refl

compared_tdo : (ins out : List Bool) → length ins ≡ length out → tdo_bits (compared_with ins out) ≡ out
compared_tdo [] [] same = refl
compared_tdo [] (o ∷ out) same = absurd (omega arith)
compared_tdo (i ∷ ins) [] same = absurd (omega arith)
compared_tdo (i ∷ ins) (o ∷ out) same = ap (λ t. o ∷ t) (compared_tdo ins out (omega arith))

compared_mask : (ins out : List Bool) → length ins ≡ length out → mask_bits (compared_with ins out) ≡ replicate (length ins) true
compared_mask [] out same = refl
compared_mask (i ∷ ins) [] same = absurd (omega arith)
compared_mask (i ∷ ins) (o ∷ out) same = ap (λ t. true ∷ t) (compared_mask ins out (omega arith))

same_length : (parts : ℕ) → length (marks ++ replicate parts false) ≡ length (replicate parts false ++ marks)
same_length parts =
    omega (
      arith,
      length-append marks (replicate parts false),
      length-append (replicate parts false) marks,
      length-replicate parts false,
    )

pub mark_bits-tdi : (parts : ℕ) → with_marks 0 (replicate (parts + 8) false) ≡ tdi_bits (mark_bits parts)
mark_bits-tdi parts =
    let long : parts + 8 ≡ 0 + (8 + parts) = omega arith in
    ap (λ k. with_marks 0 (replicate k false)) long ∙ marked-zeros 0 parts
    ∙ sym
    (tdi_bits-compared (marks ++ replicate parts false) (replicate parts false ++ marks)
    (same_length parts))

pub mark_bits-tdo : (parts : ℕ) → with_marks parts (replicate (parts + 8) false) ≡ tdo_bits (mark_bits parts)
mark_bits-tdo parts =
    marked-zeros parts 0
    ∙ sym
    (compared_tdo (marks ++ replicate parts false) (replicate parts false ++ marks)
    (same_length parts))

pub mark_bits-mask : (parts : ℕ) → replicate (parts + 8) true ≡ mask_bits (mark_bits parts)
mark_bits-mask parts =
    let long : parts + 8
    ≡ length (marks ++ replicate parts false) = omega
    (arith, length-append marks (replicate parts false), length-replicate parts false) in
    ap (λ k. replicate k true) long
    ∙ sym
    (compared_mask (marks ++ replicate parts false) (replicate parts false ++ marks)
    (same_length parts))

pub drop_before : (lengths : List ℕ) (i : ℕ) → 0 < i → i ≤ length lengths → drop (i - 1) lengths ≡ get_or lengths (i - 1) 0 ∷ drop i lengths
drop_before lengths i some within =
    let next : i - 1 + 1 ≡ i = omega arith in
    drop_more lengths (i - 1) 0 (omega arith) ∙ ap (λ k. get_or lengths (i - 1) 0 ∷ drop k lengths) next

pub sum_before : (lengths : List ℕ) (i : ℕ) → 0 < i → i ≤ length lengths
    → sum (drop (i - 1) lengths) ≡ sum (drop i lengths) + get_or lengths (i - 1) 0
sum_before lengths i some within =
    ap sum (drop_before lengths i some within) ∙ omega (arith, sum_by-cons (λ (x : ℕ). x) (get_or lengths (i - 1) 0) (drop i lengths))

pub sum_drop : (lengths : List ℕ) (i : ℕ) → sum (drop i lengths) ≤ sum lengths
sum_drop lengths i = omega (arith, sum_by-take-drop (λ (x : ℕ). x) lengths i)

pub room_before : (lengths : List ℕ) (i at : ℕ) → 0 < i → i ≤ length lengths
    → at ≡ sum (drop i lengths) → at + get_or lengths (i - 1) 0 ≤ sum lengths
room_before lengths i at some within is_at = omega (arith, sum_before lengths i some within, sum_drop lengths (i - 1))

any_one : (a b : List Bool) → list_any (λ bit. bit) (a ++ true ∷ b) ≡ true
any_one [] b = refl
any_one (x ∷ a) b = ap (λ t. x || t) (any_one a b) ∙ or-true x

pub bypass_bits-compared : (lengths : List ℕ) → 0 < length lengths → All (λ n. 2 ≤ n) lengths
    → list_any (λ bit. bit) (mask_bits (bypass_bits lengths)) ≡ true
bypass_bits-compared [] some each = absurd (omega arith)
bypass_bits-compared (n ∷ lengths) some each =
    ap (list_any (λ bit. bit)) (map-append (λ b. is_some b.expect) (bypass_bits lengths) (code_bits (replicate n true))
    ∙ ap (λ t. mask_bits (bypass_bits lengths) ++ t) (bypass_mask n (each 0 0 (omega arith))))
    ∙ any_one (mask_bits (bypass_bits lengths)) (true ∷ replicate (n - 2) false)

pub sum_some : (lengths : List ℕ) → 0 < length lengths → All (λ n. 2 ≤ n) lengths → 0 < sum lengths
sum_some [] some each = absurd (omega arith)
sum_some (n ∷ lengths) some each = omega (arith, sum_by-cons (λ (x : ℕ). x) n lengths, each 0 0 (omega arith))

pub length-mark_bits : (parts : ℕ) → length (tdi_bits (mark_bits parts)) ≡ parts + 8
length-mark_bits parts =
    ap length (tdi_bits-compared (marks ++ replicate parts false) (replicate parts false ++ marks) (same_length parts))
    ∙ omega (arith, length-append marks (replicate parts false), length-replicate parts false)

pub length-bypass_tdi : (lengths : List ℕ) → length (tdi_bits (bypass_bits lengths)) ≡ sum lengths
length-bypass_tdi lengths = ap length (bypass_bits-tdi lengths) ∙ length-replicate (sum lengths) true

pub sum_at_most : (lengths : List ℕ) → All IsInstructionLength lengths → sum lengths ≤ length lengths * 255
sum_at_most lengths each = sum_by-le (λ (x : ℕ). x) 255 lengths (λ k d within. (each k d within).1)

-- the instruction scan of the chain test
abbrev pub bypass_scan : List ℕ → Scan
bypass_scan lengths = record { ir = true; bits = bypass_bits lengths }

-- the data scan of the chain test
abbrev pub mark_scan : ℕ → Scan
mark_scan parts = record { ir = false; bits = mark_bits parts }

pub scan_texts-chain : (lengths : List ℕ)
    → scan_text (bypass_scan lengths) ++ scan_text (mark_scan (length lengths))
    ≡ scan_texts (chain_scans lengths)
scan_texts-chain lengths = ap (λ t. scan_text (bypass_scan lengths) ++ t) (sym (append-nil (scan_text (mark_scan (length lengths)))))
