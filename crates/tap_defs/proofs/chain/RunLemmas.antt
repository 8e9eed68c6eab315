-- Runs of clocks, and the bits that they compare.
use Rattle.std.proofs.Common.{◌≡◌, suc, Bool, true, false, ◌&&◌, List, [], ◌∷◌, ◌++◌, length, take, refl, ◌∙◌, ap, arith}
use Rattle.tap_defs.specs.chain.Run.{Wiring, Clock, Choice, Choices, clock_after, later, choices_after, run, tdos, bit_passes, run_passes}
use Rattle.tap_defs.specs.chain.Chain.{ChainPart}
use Rattle.tap_defs.specs.chain.Scan.{ScanBit}
use Rattle.tap_defs.specs.chain.Clocks.{shift_clocks}
use Rattle.tap_defs.specs.chain.Transport.{scan_passes}
use Rattle.tap_defs.proofs.chain.ListLemmas.{cons_path}

pub run-append : (wiring : Wiring) (xs ys : List Clock) (choices : Choices) (ps : List ChainPart) →
    run wiring (xs ++ ys) choices ps ≡ run wiring ys (choices_after xs choices) (run wiring xs choices ps)
unfolding run
run-append wiring [] ys choices ps = refl
run-append wiring (x ∷ xs) ys choices ps = run-append wiring xs ys (later choices) (clock_after wiring x (choices 0) ps)

pub tdos-append : (wiring : Wiring) (xs ys : List Clock) (choices : Choices) (ps : List ChainPart) →
    tdos wiring (xs ++ ys) choices ps ≡ tdos wiring xs choices ps ++ tdos wiring ys (choices_after xs choices) (run wiring xs choices ps)
unfolding run tdos
tdos-append wiring [] ys choices ps = refl
tdos-append wiring (x ∷ xs) ys choices ps = cons_path refl (tdos-append wiring xs ys (later choices) (clock_after wiring x (choices 0) ps))

pub length-tdos : (wiring : Wiring) (cs : List Clock) (choices : Choices) (ps : List ChainPart) →
    length (tdos wiring cs choices ps) ≡ length cs
unfolding tdos
length-tdos wiring [] choices ps = refl
length-tdos wiring (c ∷ cs) choices ps = ap suc (length-tdos wiring cs (later choices) (clock_after wiring c (choices 0) ps))

pub run_keeps : (P : List ChainPart → Type 0) (wiring : Wiring) →
    ((c : Clock) (choice : Choice) (ps : List ChainPart) → P ps → P (clock_after wiring c choice ps)) →
    (cs : List Clock) (choices : Choices) (ps : List ChainPart) → P ps → P (run wiring cs choices ps)
unfolding run
run_keeps P wiring step [] choices ps h = h
run_keeps P wiring step (c ∷ cs) choices ps h =
    run_keeps P wiring step cs (later choices) (clock_after wiring c (choices 0) ps)
    (step c (choices 0) ps h)

pub and_assoc : (x y z : Bool) → (x && (y && z)) ≡ ((x && y) && z)
and_assoc true y z = refl
and_assoc false y z = refl

pub run_passes-append : (xs ys : List Clock) (os ps : List Bool) → length os ≡ length xs →
    run_passes (xs ++ ys) (os ++ ps) ≡ (run_passes xs os && run_passes ys ps)
run_passes-append [] ys [] ps e = refl
run_passes-append [] ys (o ∷ os) ps e = absurd (omega (arith, e))
run_passes-append (x ∷ xs) ys [] ps e = absurd (omega (arith, e))
run_passes-append (x ∷ xs) ys (o ∷ os) ps e =
    ap (λ (r : Bool). bit_passes x.expect o && r) (run_passes-append xs ys os ps (omega (arith, e)))
    ∙ and_assoc (bit_passes x.expect o) (run_passes xs os) (run_passes ys ps)

pub two_pass : (wiring : Wiring) (xs ys : List Clock) (choices : Choices) (ps : List ChainPart) →
    run_passes (xs ++ ys) (tdos wiring (xs ++ ys) choices ps)
    ≡ (run_passes xs (tdos wiring xs choices ps) && run_passes ys (tdos wiring ys (choices_after xs choices) (run wiring xs choices ps)))
two_pass wiring xs ys choices ps =
    ap (λ (o : List Bool). run_passes (xs ++ ys) o) (tdos-append wiring xs ys choices ps)
    ∙ run_passes-append xs ys (tdos wiring xs choices ps) (tdos wiring ys (choices_after xs choices) (run wiring xs choices ps))
    (length-tdos wiring xs choices ps)

pub shifts_pass : (b : ScanBit) (bits : List ScanBit) (out more : List Bool) (rest : List Clock) → length out ≡ length (b ∷ bits) →
    run_passes rest more ≡ true →
    run_passes (shift_clocks (b ∷ bits) ++ rest) (out ++ more) ≡ scan_passes (b ∷ bits) out
shifts_pass b bits [] more rest e h = absurd (omega (arith, e))
shifts_pass b [] (o ∷ []) more rest e h = ap (λ (r : Bool). bit_passes b.expect o && r) h
shifts_pass b [] (o ∷ p ∷ out) more rest e h = absurd (omega (arith, e))
shifts_pass b (c ∷ bits) (o ∷ out) more rest e h =
    ap (λ (r : Bool). bit_passes b.expect o && r)
    (shifts_pass c bits out more rest (omega (arith, e)) h)

pub scan_passes_take : (bits : List ScanBit) (out : List Bool) → scan_passes bits (take (length bits) out) ≡ scan_passes bits out
scan_passes_take [] out = refl
scan_passes_take (b ∷ bits) [] = refl
scan_passes_take (b ∷ bits) (o ∷ out) = ap (λ (r : Bool). bit_passes b.expect o && r) (scan_passes_take bits out)

pub scan_passes-append : (bs cs : List ScanBit) (os ps : List Bool) → length bs ≡ length os →
    scan_passes (bs ++ cs) (os ++ ps) ≡ (scan_passes bs os && scan_passes cs ps)
scan_passes-append [] cs [] ps e = refl
scan_passes-append [] cs (o ∷ os) ps e = absurd (omega (arith, e))
scan_passes-append (b ∷ bs) cs [] ps e = absurd (omega (arith, e))
scan_passes-append (b ∷ bs) cs (o ∷ os) ps e =
    ap (λ (r : Bool). bit_passes b.expect o && r) (scan_passes-append bs cs os ps (omega (arith, e)))
    ∙ and_assoc (bit_passes b.expect o) (scan_passes bs os) (scan_passes cs ps)
