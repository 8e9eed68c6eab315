-- Instruction codes without X are equal if their bits are equal.
use Rattle.std.proofs.Common.{◌≡◌, ◌≢◌, List, [], ◌∷◌, map, refl, ◌∙◌, ap}
use Rattle.std.specs.Prelude.{All}
use Rattle.std.proofs.lemmas.List.Elements.{All-head, All-tail}
use Rattle.board_defs.specs.declared.device.Symbol.{Symbol}
use Rattle.board_defs.specs.declared.device.Symbol.TheVariants.{Zero, One, Any}
use Rattle.board_defs.specs.declared.device.RawDevice.{RawDevice}
use Rattle.board_defs.specs.DeviceRules.{bit_of, HasCodes}

pub same_symbol : (s t : Symbol) → s ≢ Any → t ≢ Any → bit_of s ≡ bit_of t → s ≡ t
same_symbol Any t gs gt e = absurd (gs refl)
same_symbol s Any gs gt e = absurd (gt refl)
same_symbol Zero Zero gs gt e = refl
same_symbol One One gs gt e = refl
same_symbol Zero One gs gt e = cc e
same_symbol One Zero gs gt e = cc e

pub same_code : (xs ys : List Symbol) → All (λ s. s ≢ Any) xs → All (λ s. s ≢ Any) ys → map bit_of xs ≡ map bit_of ys → xs ≡ ys
same_code [] [] gx gy e = refl
same_code [] (y ∷ ys) gx gy e = cc e
same_code (x ∷ xs) [] gx gy e = cc e
same_code (x ∷ xs) (y ∷ ys) gx gy e =
    let first : bit_of x ≡ bit_of y = cc e in
    let rest : map bit_of xs ≡ map bit_of ys = cc e in
    let P : Symbol → Type 0 = λ s. s ≢ Any in
    ap (λ (s : Symbol). s ∷ xs) (same_symbol x y (All-head P x xs gx) (All-head P y ys gy) first)
    ∙ ap (λ (v : List Symbol). y ∷ v) (same_code xs ys (All-tail P x xs gx) (All-tail P y ys gy) rest)

pub code_bits_differ : (device : RawDevice) → HasCodes device → map bit_of device.sample ≢ map bit_of device.extest
code_bits_differ device h e = h.codes_differ (same_code device.sample device.extest h.sample_given h.extest_given e)
