-- What is read lies in the image. Assumes nothing.
use Prim.Native.Nat.{ℕ, zero, suc, ◌+◌, ◌≤◌}
use mathlib.Core.List.{List, [], ◌∷◌}
use mathlib.Core.Path.{◌≡◌, refl, ap, ◌∙◌}
use native.Mathlib.Omega.{arith}
use lib.ListN.{length, take, drop}
use lib.Seq.{take-take, drop-drop}
use lib.Dec.{eqb, ltb}
use borrow.Author.Tests.{ltb-false, eqb-false}
use Rattle.codes.specs.Codes.{longest_record}
use Rattle.xdr.proofs.Tests.{by_test, least_left, least_right}
use Rattle.tape_image.specs.Image.{count, entry_len, entry_start, entry_bytes, body_at, faulty}
use Rattle.tape_image.specs.Sound.{Placed}
use Rattle.tape_image.proofs.Laws.{placed, sum_next, sum_used}
use Rattle.tape_ops.specs.declared.Part.{Part}
use Rattle.tape_ops.specs.Operations.{entry_part, read_part}

-- the bytes of an entry lie in the body
pub entry_within : (l : List ℕ) (p : ℕ) → Placed l p → (p ≡ count l → ⊥) → body_at l + (entry_start l p + entry_len l p) ≤ length l
entry_within l p at h =
    let w = at.within in
    let b = at.ok.header.bytes in
    let t = at.ok.header.table in
    let s = (at.ok.entry p (omega arith)).start in
    let n = sum_next l p in
    let u = sum_used l (p + 1) at.ok (omega arith) in
    omega arith

-- a part of the first k is a part of the whole
part_of_take : (n j k : ℕ) (l : List ℕ) → j + n ≤ k → take n (drop j (take k l)) ≡ take n (drop j l)
part_of_take n zero k l h = take-take n k l (omega arith)
part_of_take n (suc j) zero l h = absurd (omega arith)
part_of_take n (suc j) (suc k) [] h = refl
part_of_take n (suc j) (suc k) (x ∷ xs) h = part_of_take n j k xs (omega arith)

-- a part of an entry's bytes, by its place in the image
pub entry_part_lem : (l : List ℕ) (i j n : ℕ) → j + n ≤ entry_len l i
    → take n (drop j (entry_bytes l i)) ≡ take n (drop (body_at l + entry_start l i + j) l)
unfolding entry_bytes
entry_part_lem l i j n h =
    let s = body_at l + entry_start l i in
    part_of_take n j (entry_len l i) (drop s l) h ∙ ap (λ (k : List ℕ). take n k) (drop-drop j s l)

-- what is read lies in the image and is short, also where nothing is
unfoldable pub Copied : List ℕ → Part → Type 0
Copied l r = (r.start + r.len ≤ length l) × (r.len ≤ longest_record)

pub read_copies : (l : List ℕ) (p times : ℕ) → Copied l (read_part l p times)
unfolding read_part entry_part Copied
read_copies l p times =
    by_test (Copied l) (ltb longest_record times) _ _ (λ _. (omega arith, omega arith))
    (λ few. by_test (Copied l) (faulty l p) _ _ (λ _. (omega arith, omega arith))
    (λ f. by_test (Copied l) (eqb times 0) _ _ (λ _. (omega arith, omega arith))
    (λ _. by_test (Copied l) (eqb p (count l)) _ _ (λ _. (omega arith, omega arith))
    (λ h. by_test (Copied l) (eqb (entry_len l p) 0) _ _ (λ _. (omega arith, omega arith))
    (λ _. let e = entry_within l p (placed l p f) (eqb-false p (count l) h) in
    let j = least_left times (entry_len l p) in
    let k = least_right times (entry_len l p) in
    let t = ltb-false longest_record times few in
    (omega arith, omega arith))))))
