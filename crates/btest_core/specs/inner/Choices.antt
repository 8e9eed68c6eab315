-- Choices whose packages are borrowed, and lists of devices that belong to choices. A choice has
-- the number of a text, and a package if the DEVICE line gives one.
use Rattle.std.specs.Prelude.{◌≡◌, ℕ, List, Option, Some, Ok, map, option_copied, slice_get}
use Rattle.std.specs.Borrow.{Bor}
use Rattle.board_defs.specs.declared.device.RawDevice.{RawDevice}
use Rattle.bsdl_parser.specs.declared.entity.Entity.{Entity}
use Rattle.btest_core.specs.DevicesRead.{Chosen, IsDeviceOf}

-- a choice whose package is borrowed
abbrev pub Lent : Type 0
Lent = ℕ × Option (Bor (List ℕ))

abbrev pub choices_of : List Lent → List Chosen
choices_of chosen = map (λ choice. (choice.0, option_copied choice.1)) chosen

-- each device is the device of the choice with the same index
abbrev pub AreOfChoices : List Entity → List Chosen → List RawDevice → Type 0
AreOfChoices entities choices devices =
    (i : ℕ) (choice : Chosen) (device : RawDevice) → slice_get choices i ≡ Some choice
    → slice_get devices i ≡ Some device → IsDeviceOf entities choice (Ok device)
