-- The slot list (02 No. 7): what it names, and what a move leaves of it.
use Rattle.std.specs.Prelude.{ℕ, zero, suc, ◌+◌, Bool, true, false, not, List, [], ◌∷◌, eqb, get_or, set}
use Rattle.xdr.specs.Choose.{choose}
use Rattle.changer_elements.specs.Elements.{places}

-- whether a number is named in the k places from place i on
unfoldable pub named : ℕ → ℕ → List ℕ → ℕ → Bool
named zero i l v = false
named (suc k) i l v = choose (eqb (get_or l i 0) v) true (named k (i + 1) l v)

-- whether the cartridge in place i is named again in the k places behind it; 0 is no cartridge and may stand often
unfoldable pub is_again : ℕ → ℕ → List ℕ → Bool
is_again k i l = choose (eqb (get_or l i 0) 0) false (named k (i + 1) l (get_or l i 0))

-- whether one of the k places from place i on has a cartridge that is named again behind it
unfoldable pub some_again : ℕ → ℕ → List ℕ → Bool
some_again zero i l = false
some_again (suc k) i l = choose (is_again k i l) true (some_again k (i + 1) l)

-- "from one that names none twice"
unfoldable pub names_none_twice : List ℕ → Bool
names_none_twice l = not (some_again places 0 l)

-- the list after a move from one place to another: the cartridge is in the second, and the first is empty
unfoldable pub moved : ℕ → ℕ → List ℕ → List ℕ
moved from to l = set (set l to (get_or l from 0)) from 0

-- the cartridge in the drive, whose place is the first, or 0
abbrev pub in_drive : List ℕ → ℕ
in_drive slots = get_or slots 0 0

-- how often a number is named
unfoldable pub times : ℕ → List ℕ → ℕ
times v [] = 0
times v (x ∷ xs) = choose (eqb x v) (suc (times v xs)) (times v xs)
