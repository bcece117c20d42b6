-- "two sound images of one n answer the same call alike if the entries passed agree in kind" (paper 02, No. 4): what spacing gives hangs on the number of
-- entries and on the kinds of those that it passes, and on nothing else of the image.
use Rattle.std.specs.Prelude.{ℕ, ◌≤◌, ◌<◌, List, Bool, true, false, ◌≡◌, eqb}
use Rattle.tape_image.specs.Image.{count, entry_len}
use Rattle.tape_image.specs.Sound.{Placed}
use Rattle.tape_spacing.specs.Spacing.{goes_forward, spacing}

-- "the entries passed" by a walk that begins at p and ends at q, forward or back: those between. Where it ends by 13, all up to that end
abbrev pub Passed : Bool → ℕ → ℕ → ℕ → Type 0
Passed true p q i = (p ≤ i) × (i < q)
Passed false p q i = (q ≤ i) × (i < p)

-- an entry's kind: "length (0 is a mark, else 1 to 32,768)"
abbrev pub is_mark : List ℕ → ℕ → Bool
is_mark l i = eqb (entry_len l i) 0

-- the entries passed from p to q agree in kind
abbrev pub AgreeInKind : Bool → ℕ → ℕ → List ℕ → List ℕ → Type 0
AgreeInKind forward p q l m = (i : ℕ) → Passed forward p q i → is_mark l i ≡ is_mark m i

-- error, position and residue are the same
abbrev pub SpacingAlike : Type 0
SpacingAlike =
    (l m : List ℕ) (op p times : ℕ) → Placed l p → Placed m p → count l ≡ count m
    → AgreeInKind (goes_forward op) p (spacing l op p times).position l m
    → spacing l op p times ≡ spacing m op p times
