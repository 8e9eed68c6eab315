-- The comparisons of a scan, part by part and bit by bit.
use Rattle.std.proofs.Common.{◌≡◌, ℕ, zero, suc, ◌<◌, Bool, true, false, ◌&&◌, ◌⊎◌, inl, inr, List, [], ◌∷◌, ◌++◌, length, map, Some, refl, sym, ◌∙◌, ap, subst, arith}
use Rattle.std.specs.Prelude.{slice_get}
use Rattle.std.proofs.lemmas.Bool.{and_parts}
use Rattle.std.proofs.lemmas.List.{map-append, length-map}
use Rattle.tap_defs.specs.chain.ShiftRegister.{filled}
use Rattle.tap_defs.specs.chain.Run.{bit_passes}
use Rattle.tap_defs.specs.chain.Scan.{ScanBit, joined, tdi_bits}
use Rattle.tap_defs.specs.chain.Transport.{scan_passes}
use Rattle.tap_defs.proofs.chain.ListLemmas.{cons_path, length-joined}
use Rattle.tap_defs.proofs.chain.RunLemmas.{scan_passes-append}

pub split : (a b c d : List Bool) → length a ≡ length b → a ++ c ≡ b ++ d → (a ≡ b) × (c ≡ d)
split [] [] c d h e = (refl, e)
split [] (y ∷ b) c d h e = absurd (omega (arith, h))
split (x ∷ a) [] c d h e = absurd (omega (arith, h))
split (x ∷ a) (y ∷ b) c d h e =
    let hd : x ≡ y = cc e in
    let tl : a ++ c ≡ b ++ d = cc e in
    let ih = split a b c d (omega (arith, h)) tl in
    (cons_path hd ih.0, ih.1)

pub joined_same : (rs qs : List (List Bool)) → map length rs ≡ map length qs → joined rs ≡ joined qs → rs ≡ qs
joined_same [] [] e h = refl
joined_same [] (q ∷ qs) e h = cc e
joined_same (r ∷ rs) [] e h = cc e
joined_same (r ∷ rs) (q ∷ qs) e h =
    let hd : length r ≡ length q = cc e in
    let tl : map length rs ≡ map length qs = cc e in
    let parts = split (joined rs) (joined qs) r q (length-joined rs qs tl) h in
    cons_path parts.1 (joined_same rs qs tl parts.0)

pub tdi_bits-joined : (bs : List (List ScanBit)) → tdi_bits (joined bs) ≡ joined (map tdi_bits bs)
tdi_bits-joined [] = refl
tdi_bits-joined (b ∷ bs) = map-append (λ b. b.tdi) (joined bs) b ∙ ap (λ (r : List Bool). r ++ tdi_bits b) (tdi_bits-joined bs)

pub lengths-tdi_bits : (bs : List (List ScanBit)) → map length (map tdi_bits bs) ≡ map length bs
lengths-tdi_bits [] = refl
lengths-tdi_bits (b ∷ bs) = cons_path (length-map b (λ (x : ScanBit). x.tdi)) (lengths-tdi_bits bs)

pub scan_passes_front : (bits : List ScanBit) (o r : List Bool) → length o ≡ length bits → scan_passes bits (o ++ r) ≡ scan_passes bits o
scan_passes_front [] [] r e = refl
scan_passes_front [] (x ∷ o) r e = absurd (omega (arith, e))
scan_passes_front (b ∷ bits) [] r e = absurd (omega (arith, e))
scan_passes_front (b ∷ bits) (x ∷ o) r e = ap (λ (t : Bool). bit_passes b.expect x && t) (scan_passes_front bits o r (omega (arith, e)))

pub part_passes : (bs : List (List ScanBit)) (rs : List (List Bool)) → map length bs ≡ map length rs →
    scan_passes (joined bs) (joined rs) ≡ true →
    (k : ℕ) (b : List ScanBit) (r : List Bool) → slice_get bs k ≡ Some b → slice_get rs k ≡ Some r → scan_passes b r ≡ true
part_passes [] rs e h k b r p q = cc p
part_passes (x ∷ bs) [] e h k b r p q = cc q
part_passes (x ∷ bs) (y ∷ rs) e h zero b r p q =
    let tl : map length bs ≡ map length rs = cc e in
    let both =
    and_parts (scan_passes (joined bs) (joined rs)) (scan_passes x y)
    (sym (scan_passes-append (joined bs) x (joined rs) y (length-joined bs rs tl)) ∙ h) in
    let ex : x ≡ b = cc p in
    let ey : y ≡ r = cc q in
    subst (λ (z : List ScanBit). scan_passes z r ≡ true) ex (subst (λ (z : List Bool). scan_passes x z ≡ true) ey both.1)
part_passes (x ∷ bs) (y ∷ rs) e h (suc k) b r p q =
    let tl : map length bs ≡ map length rs = cc e in
    let both =
    and_parts (scan_passes (joined bs) (joined rs)) (scan_passes x y)
    (sym (scan_passes-append (joined bs) x (joined rs) y (length-joined bs rs tl)) ∙ h) in
    part_passes bs rs tl both.0 k b r p q

pub cell_passes : (bs : List ScanBit) (os : List Bool) → scan_passes bs os ≡ true → (c : ℕ) (b : ScanBit) (o : Bool) →
    slice_get bs c ≡ Some b →
    slice_get os c ≡ Some o → bit_passes b.expect o ≡ true
cell_passes [] os h c b o p q = cc p
cell_passes (x ∷ bs) [] h c b o p q = cc q
cell_passes (x ∷ bs) (y ∷ os) h zero b o p q =
    let both = and_parts (bit_passes x.expect y) (scan_passes bs os) h in
    let ex : x ≡ b = cc p in
    let ey : y ≡ o = cc q in
    subst (λ (z : ScanBit). bit_passes z.expect o ≡ true) ex (subst (λ (z : Bool). bit_passes x.expect z ≡ true) ey both.0)
cell_passes (x ∷ bs) (y ∷ os) h (suc c) b o p q = cell_passes bs os (and_parts (bit_passes x.expect y) (scan_passes bs os) h).1 c b o p q

pub filled_at : {A : Type 0} (n : ℕ) (f : ℕ → A) (c : ℕ) → c < n → slice_get (filled n f) c ≡ Some (f c)
filled_at zero f c h = absurd (omega arith)
filled_at (suc n) f zero h = refl
filled_at (suc n) f (suc c) h = filled_at n (λ k. f (suc k)) c (omega arith)

pub parts_pass : (bs : List (List ScanBit)) (rs : List (List Bool)) → map length bs ≡ map length rs →
    ((k : ℕ) (b : List ScanBit) (r : List Bool) → slice_get bs k ≡ Some b → slice_get rs k ≡ Some r → scan_passes b r ≡ true) →
    scan_passes (joined bs) (joined rs) ≡ true
parts_pass [] [] e q = refl
parts_pass [] (r ∷ rs) e q = cc e
parts_pass (b ∷ bs) [] e q = cc e
parts_pass (b ∷ bs) (r ∷ rs) e q =
    let tl : map length bs ≡ map length rs = cc e in
    scan_passes-append (joined bs) b (joined rs) r (length-joined bs rs tl)
    ∙ ap (λ (x : Bool). x && scan_passes b r) (parts_pass bs rs tl (λ k. q (suc k)))
    ∙ q 0 b r refl refl

pub and_false : (x y : Bool) → (x ≡ false) ⊎ (y ≡ false) → (x && y) ≡ false
and_false false y h = refl
and_false true y (inl h) = cc h
and_false true y (inr h) = h
