-- What an operation on the cartridge gives and leaves, and what it is for code to do so.
use Rattle.std.specs.Prelude.{ℕ, List, ◌≡◌}

-- what is given, and the image after it
pub record Step (A : Type 0) : Type 0 where
  pub gives : A
  pub image : List ℕ

-- the image stays as it was
abbrev pub keeping : {A : Type 0} → List ℕ → A → Step A
keeping l r = record { gives = r; image = l }

-- the code gave r and left the image l', and that is what the step says
pub record Told {A : Type 0} (st : Step A) (r : A) (l' : List ℕ) : Type 0 where
  pub is : r ≡ st.gives
  pub image : l' ≡ st.image
