-- What passes over an element of a list.
use Rattle.std.specs.Prelude.{ℕ, ◌^◌, ◌<◌, ◌≡◌, Option}
use Rattle.wire_layouts.specs.Layout.{Got}
use Rattle.wire_layouts.specs.Scans.{forget}

-- each result, from an offset of the code on, is the offset after what the definition reads there
abbrev pub Passes : (ℕ → Option ℕ → Type 0) → (ℕ → Got) → Type 0
Passes post e = (at : ℕ) (next : Option ℕ) → at < 2 ^ 64 → post at next → next ≡ forget (e at)
