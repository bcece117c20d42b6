-- The layouts as words: the header, a page's header and a descriptor are written as big-endian words of four bytes. Assumes nothing.
use Prim.Native.Nat.{ℕ, ◌+◌, ◌*◌, ◌/◌, ◌%◌, ◌≤◌, ◌<◌, min}
use mathlib.Core.List.{List, [], ◌∷◌, ◌++◌}
use mathlib.Core.Path.{◌≡◌, refl, ap, ◌∙◌}
use native.Mathlib.Omega.{arith}
use lib.Dec.{ltb}
use lib.ListN.{length, length-append, length-take}
use borrow.Author.Tests.{ltb-true, ltb-false}
use Rattle.std.specs.Prelude.{Ok, Result}
use Rattle.changer_elements.specs.declared.Sense.{Sense}
use Rattle.xdr.specs.Choose.{least}
use Rattle.xdr.proofs.Tests.{by_test}
use Rattle.xdr.specs.Xdr.{be32, be32s}
use Rattle.changer_elements.specs.declared.Asked.{Asked}
use Rattle.changer_elements.specs.Status.{reported, of_type, page, status_data}
use Rattle.changer_elements.specs.Status.{be16, be24, flags_of, descriptor, descriptors, page_of, pages, first_of, status_of}
use Rattle.changer_elements.proofs.Lists.{reported_types}

-- the four bytes of a word, where they are known
word_is : (v a b c d : ℕ) → v / 16777216 % 256 ≡ a → v / 65536 % 256 ≡ b → v / 256 % 256 ≡ c → v % 256 ≡ d → be32 v ≡ a ∷ b ∷ c ∷ d ∷ []
unfolding be32
word_is v a b c d h k m n = cc

-- two fields of two bytes
module _ (a b : ℕ) (small : b < 65536) where
  halves_1 : (a * 65536 + b) / 16777216 % 256 ≡ a / 256 % 256
  halves_1 = omega arith

  halves_2 : (a * 65536 + b) / 65536 % 256 ≡ a % 256
  halves_2 = omega arith

  halves_3 : (a * 65536 + b) / 256 % 256 ≡ b / 256 % 256
  halves_3 = omega arith

  halves_4 : (a * 65536 + b) % 256 ≡ b % 256
  halves_4 = omega arith

  pub be32_halves : be32 (a * 65536 + b) ≡ be16 a ++ be16 b
  unfolding be16
  be32_halves = word_is (a * 65536 + b) _ _ _ _ halves_1 halves_2 halves_3 halves_4

-- a byte that is zero and a field of three bytes
pub be32_three : (n : ℕ) → n < 16777216 → be32 n ≡ 0 ∷ be24 n
unfolding be24
be32_three n h = word_is n _ _ _ _ (let z : n / 16777216 % 256 ≡ 0 = omega arith in z) refl refl refl

-- a type code, no flags, a descriptor's length
pub be32_page : (k : ℕ) → k < 256 → be32 (k * 16777216 + 12) ≡ k ∷ 0 ∷ be16 12
unfolding be16
be32_page k h =
    word_is (k * 16777216 + 12) _ _ _ _
    (let z : (k * 16777216 + 12) / 16777216 % 256 ≡ k = omega arith in z)
    (let z : (k * 16777216 + 12) / 65536 % 256 ≡ 0 = omega arith in z)
    (let z : (k * 16777216 + 12) / 256 % 256 ≡ 0 = omega arith in z)
    (let z : (k * 16777216 + 12) % 256 ≡ 12 = omega arith in z)

pub descriptor_is : (slots : List ℕ) (e flags : ℕ) → flags ≡ flags_of slots e → flags < 256 →
    be32s ((e * 65536 + flags * 256) ∷ 0 ∷ 0 ∷ []) ≡ descriptor slots e
unfolding be32s be16 be24 descriptor
descriptor_is slots e flags h k =
    let small : flags * 256 < 65536 = omega arith in
    let high : flags * 256 / 256 % 256 ≡ flags = omega arith in
    let low : flags * 256 % 256 ≡ 0 = omega arith in
    rw (be32_halves e (flags * 256) small, high, low, h, be32_three 0 (omega arith))

pub descriptors_length : (slots es : List ℕ) → length (descriptors slots es) ≡ 12 * length es
unfolding descriptors descriptor be16
descriptors_length slots [] = refl
descriptors_length slots (e ∷ es) = let h = descriptors_length slots es in omega arith

pub descriptors_append : (slots a b : List ℕ) → descriptors slots (a ++ b) ≡ descriptors slots a ++ descriptors slots b
unfolding descriptors descriptor be16
descriptors_append slots [] b = refl
descriptors_append slots (e ∷ es) b = ap (λ (l : List ℕ). descriptor slots e ++ l) (descriptors_append slots es b)

pub page_none : (slots es : List ℕ) (k : ℕ) → es ≡ [] → page_of slots k es ≡ []
unfolding page_of
page_none slots es k h = rw h

pub page_some : (slots es : List ℕ) (k : ℕ) → (es ≡ [] → ⊥) → k < 256 → length (descriptors slots es) < 16777216 →
    page_of slots k es ≡ be32s ((k * 16777216 + 12) ∷ length (descriptors slots es) ∷ []) ++ descriptors slots es
unfolding page_of be32s be16 be24
page_some slots [] k n s h = absurd (n refl)
page_some slots (e ∷ es) k n s h = rw (be32_page k s, be32_three (length (descriptors slots (e ∷ es))) h)

pub page_length : (slots es : List ℕ) (k : ℕ) → length (page_of slots k es) ≤ 8 + 12 * length es
unfolding page_of be16 be24
page_length slots [] k = omega arith
page_length slots (e ∷ es) k = omega (arith, descriptors_length slots (e ∷ es))

pub status_is : (slots es : List ℕ) → first_of es < 65536 → length es < 65536 → length (pages slots es) < 16777216 →
    status_of slots es ≡ be32s ((first_of es * 65536 + length es) ∷ length (pages slots es) ∷ []) ++ pages slots es
unfolding status_of be32s be16 be24
status_is slots es f n h = rw (be32_halves (first_of es) (length es) n, be32_three (length (pages slots es)) h)

pub status_length : (slots es : List ℕ) → length (status_of slots es) ≡ 8 + length (pages slots es)
unfolding status_of be16 be24
status_length slots es = omega arith

pub pages_most : (slots es : List ℕ) → length (of_type 1 es) + length (of_type 4 es) + length (of_type 2 es) ≤ 10 →
    length (pages slots es) ≤ 144
unfolding pages
pages_most slots es few =
    let a : List ℕ = page slots 1 es in
    let b : List ℕ = page slots 4 es in
    let c : List ℕ = page slots 2 es in
    omega (
      arith,
      length-append a (b ++ c),
      length-append b c,
      page_length slots (of_type 1 es) 1,
      page_length slots (of_type 4 es) 4,
      page_length slots (of_type 2 es) 2,
    )

pub status_most : (a : Asked) (slots : List ℕ) → length (status_of slots (reported a)) ≤ 152
status_most a slots = omega (arith, status_length slots (reported a), pages_most slots (reported a) (reported_types a))

-- ---- what is asked, and what is handed over
pub asked_is : {kind kind' start start' number number' cut cut' : ℕ} → kind ≡ kind' → start ≡ start' → number ≡ number' → cut ≡ cut' →
    ◌≡◌ {A = Result Asked Sense} (Ok (record { kind = kind; start = start; number = number; cut = cut }))
    (Ok (record { kind = kind'; start = start'; number = number'; cut = cut' }))
asked_is h k m n = cc

pub least_min : (a b : ℕ) → min a b ≡ least a b
unfolding least
least_min a b = by_test (λ (k : ℕ). min a b ≡ k) (ltb a b) a b (λ h. let z = ltb-true a b h in omega arith) (λ h. let z = ltb-false a b h in omega arith)

pub cut_length : (a : Asked) (slots : List ℕ) → length (status_data a slots) ≡ least a.cut (length (status_of slots (reported a)))
unfolding status_data
cut_length a slots = length-take a.cut (status_of slots (reported a)) ∙ least_min a.cut (length (status_of slots (reported a)))
