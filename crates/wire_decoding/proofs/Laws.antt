-- A text that a scan kept, and the types that say how a body is scanned. Assumes nothing.
use Prim.Native.Nat.{ℕ, ◌+◌, ◌≤◌}
use mathlib.Core.Bool.{Bool, true, false}
use mathlib.Core.Path.{◌≡◌, sym}
use mathlib.Core.List.{List, map}
use lib.ListN.{length}
use Rattle.std.specs.Prelude.{Option, Some}
use Rattle.xdr.specs.Choose.{choose}
use Rattle.wire_layouts.specs.Layout.{Field}
use Rattle.wire_layouts.specs.Scans.{scanned, field_of}
use Rattle.wire_layouts.specs.declared.Field as code
use Rattle.wire_layouts.specs.declared.Scan.{Scan}
use Rattle.wire_layouts.proofs.Within.{texts_in}
use Rattle.wire_requests.specs.Bodies.{text_of}

-- a text that a scan kept lies within the body
pub kept_within : (fs : List Field) (b : List ℕ) (k : Scan) (i : ℕ) → Some k ≡ scanned fs b → (text_of k i).start + (text_of k i).len ≤ length b
kept_within fs b k i h = texts_in fs b k (sym h) i

-- a body with an address is scanned by the layout for its type
pub by_type : (F : Bool → List Field) (far near : List code.Field) → map field_of far ≡ F true → map field_of near ≡ F false
    → (b : List ℕ) (t : Bool) {k : Option Scan} → k ≡ scanned (map field_of (choose t far near)) b → k ≡ scanned (F t) b
unfolding choose
by_type F far near p q b true h = rw (← p) h
by_type F far near p q b false h = rw (← q) h
