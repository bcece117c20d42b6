-- What the code's parts hand over.
use Rattle.std.specs.Prelude.{ℕ, ◌+◌, ◌≤◌, List, ◌≡◌, length, take}
use Rattle.changer_elements.specs.declared.Asked.{Asked}
use Rattle.changer_elements.specs.Status.{transport_type, slot_type, drive_type, of_type, status_data}

-- elements for whose pages 152 bytes are enough
pub record Few (es : List ℕ) : Type 0 where
  pub all : length es ≤ 10
  pub types : length (of_type transport_type es) + length (of_type drive_type es) + length (of_type slot_type es) ≤ 10

-- the first n bytes of an output are what is handed over
pub record HandsOver (a : Asked) (slots : List ℕ) (n : ℕ) (out : List ℕ) : Type 0 where
  pub end : n ≡ length (status_data a slots)
  pub bytes : take n out ≡ status_data a slots
  pub few : n ≤ 152
