-- Lemmas that carry facts about names over to borrowed names.
use Rattle.std.proofs.Common.{◌≡◌, ℕ, List, map, sym, ap, ◌∙◌, arith}
use Rattle.std.specs.Str.{bytes_eq}
use Rattle.std.proofs.lemmas.Slice.Eq.{bytes_eq-Decides}
use Rattle.lists.proofs.ListLemmas.{position_from-map}
use Rattle.first_places.specs.Places.{first_place}
use Rattle.device_rules.specs.inner.Index.{place_called}

pub called_first : {A : Type 0} (name_in : A → List ℕ) (items : List A) (names : List (List ℕ))
    (q : List ℕ) → names ≡ map name_in items
    → first_place bytes_eq names q ≡ place_called name_in items q
called_first name_in items names q e = ap (λ ns. first_place bytes_eq ns q) e ∙ sym (position_from-map name_in (λ n. bytes_eq n q) 0 items)

pub bytes_turned : (a b : List ℕ) → bytes_eq a b ≡ bytes_eq b a
bytes_turned a b = grind (arith, bytes_eq-Decides)
