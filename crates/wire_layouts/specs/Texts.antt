-- The bytes of a text, and that they lie within the body.
use Rattle.std.specs.Prelude.{ℕ, ◌+◌, ◌≤◌, List, length, take, drop}
use Rattle.wire_layouts.specs.declared.Text.{Text}

abbrev pub bytes_at : List ℕ → Text → List ℕ
bytes_at b t = take t.len (drop t.start b)

abbrev pub Within : List ℕ → Text → Type 0
Within b t = t.start + t.len ≤ length b
