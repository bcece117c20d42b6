-- Laws of the definitions of MD5.
-- Assumes nothing.
use Rattle.std.proofs.Common.{◌≡◌, ℕ, zero, suc, ◌+◌, ◌-◌, ◌*◌, ◌/◌, ◌%◌, ◌<◌, ◌≤◌, Bool, ltb, List, [], ◌∷◌, ◌++◌, length, get_or, take, drop, set, replicate, sym, refl, ap, ◌∙◌, ⊎_elim, append_assoc, add-zero, suc-add, zero-add, arith, ltb→lt, length-append, length-drop, drop-drop, take_at, drop_at}
use Rattle.std.specs.Int.{w32, w64, rotate_left, to_le_bytes}
use lib.ListN.{length-replicate, replicate-append-replicate}
use lib.Seq.{get_or-take, get_or-drop, take-append-le, drop-append-le, take-append-add}
use native.Mathlib.Nat.{div-div-eq-div-mul, mul_comm}
use Rattle.xdr.specs.Xdr.{overlay}
use Rattle.xdr.proofs.Laws.{store_next, more, length_overlay, overlay_whole}
use Rattle.md5_digest.specs.Md5.{plus, rotated, auxiliary_of, index_of, table, le_word}
use Rattle.md5_digest.specs.Md5.{shifts, shift_of, stepped, operations, compressed, processed, initial, md5_registers, md5}
use Rattle.md5_digest.specs.Md5.{le32, zeros, bits, padding, Padded, PaddedEnd}
use Rattle.md5_digest.specs.declared.Registers.{Registers}
use Rattle.md5_digest.proofs.Table.{at}

abbrev above : ℕ → ℕ → Bool
above k x = ltb 0 x

abbrev below : ℕ → ℕ → Bool
below k x = ltb x 32

pub shift_some : (i : ℕ) → i < 16 → 0 < get_or shifts i 0
shift_some i h = ltb→lt 0 (get_or shifts i 0) (at above shifts tt i h)

pub shift_small : (i : ℕ) → i < 16 → get_or shifts i 0 < 32
shift_small i h = ltb→lt (get_or shifts i 0) 32 (at below shifts tt i h)

-- an operation's amount, among those of its round, and what the library's rotation gives by it
pub amount_there : (round i : ℕ) (l : List ℕ) → 16 * round ≤ i → i < 16 * round + 16 → round < 4 → l ≡ take 4 (drop (round * 4) shifts)
    → get_or l (i % 4) 0 ≡ shift_of i
unfolding shift_of
amount_there round i l a b r e =
    let h : i % 4 < 4 = omega arith in
    let k : i / 16 ≡ round = omega arith in
    rw (e, get_or-take 4 (drop (round * 4) shifts) (i % 4) 0 h, get_or-drop (round * 4) shifts (i % 4) 0, k)

pub turned : (i x : ℕ) → i < 64 → rotate_left w32 x (shift_of i) ≡ rotated (shift_of i) x
unfolding shift_of rotated
turned i x h =
    let k : i / 16 * 4 + i % 4 < 16 = omega arith in
    let s : ℕ = get_or shifts (i / 16 * 4 + i % 4) 0 in
    let some : 0 < s = shift_some (i / 16 * 4 + i % 4) k in
    let small : s < 32 = shift_small (i / 16 * 4 + i % 4) k in
    let a : s % 32 ≡ s = omega arith in
    let b : (32 - s) % 32 ≡ 32 - s = omega arith in
    rw (a, b)

-- an operation, from what its parts give
pub stepped_is : (round i k f w y : ℕ) (x : List ℕ) (q : Registers) → round ≡ i / 16
    → f ≡ auxiliary_of round q.b q.c q.d → k ≡ index_of round i → w ≡ le_word x (4 * k)
    → y ≡ rotated (shift_of i) (plus (plus q.a f) (plus w (get_or table i 0)))
    → record { a = q.d; b = plus q.b y; c = q.b; d = q.c } ≡ stepped i x q
unfolding stepped
stepped_is round i k f w y x q o ef ek ew ey = rw (ey, ew, ek, ef, o)

-- one operation more of those that are left
pub operations_next : (n i : ℕ) (x : List ℕ) (q r : Registers) → i < n → r ≡ stepped i x q
    → operations (n - i) i x q ≡ operations (n - (i + 1)) (i + 1) x r
unfolding operations
operations_next n i x q r h e =
    let k : n - i ≡ suc (n - (i + 1)) = omega arith in
    rw (k, e)

pub operations_done : (n i : ℕ) (x : List ℕ) (q : Registers) → n ≤ i → q ≡ operations (n - i) i x q
unfolding operations
operations_done n i x q h =
    let k : n - i ≡ 0 = omega arith in
    rw k

-- operations, and then those behind them
operations_more : (m n i : ℕ) (x : List ℕ) (q : Registers) → operations (m + n) i x q ≡ operations n (i + m) x (operations m i x q)
unfolding operations
operations_more zero n i x q = rw (zero-add, add-zero)
operations_more (suc m) n i x q =
    let e : i + 1 + m ≡ i + suc m = omega arith in
    rw (suc-add, operations_more m n (i + 1) x (stepped i x q), e)

-- four rounds
pub operations_rounds : (x : List ℕ) (q a b c d : Registers) → a ≡ operations 16 0 x q → b ≡ operations 16 16 x a → c ≡ operations 16 32 x b
    → d ≡ operations 16 48 x c → d ≡ operations 64 0 x q
operations_rounds x q a b c d e f g h =
    rw (operations_more 16 48 0 x q, ← e, operations_more 16 32 16 x a, ← f, operations_more 16 16 32 x b, ← g) h

-- one block more of those that are left
processed_suc : (n : ℕ) (l : List ℕ) (q : Registers)
    → processed (suc n) l q ≡ processed n (drop 64 l) (compressed (take 64 l) q)
unfolding processed
processed_suc n l q = refl

pub processed_next : (n k : ℕ) (m : List ℕ) (q r : Registers) → k < n → r ≡ compressed (take 64 (drop (64 * k) m)) q
    → processed (n - k) (drop (64 * k) m) q ≡ processed (n - (k + 1)) (drop (64 * (k + 1)) m) r
processed_next n k m q r h e =
    let s : n - k ≡ suc (n - (k + 1)) = omega arith in
    let d : 64 * k + 64 ≡ 64 * (k + 1) = omega arith in
    ap (λ (j : ℕ). processed j (drop (64 * k) m) q) s ∙ processed_suc (n - (k + 1)) (drop (64 * k) m) q ∙ rw (drop-drop, d, e)

pub processed_done : (n k : ℕ) (l : List ℕ) (q : Registers) → n ≤ k → q ≡ processed (n - k) l q
unfolding processed
processed_done n k l q h =
    let s : n - k ≡ 0 = omega arith in
    rw s

-- blocks of a message, and then those of what is left of it with more behind
pub processed_more : (k j : ℕ) (m t : List ℕ) (q : Registers) → k * 64 ≤ length m
    → processed (k + j) (m ++ t) q ≡ processed j (drop (k * 64) m ++ t) (processed k m q)
unfolding processed
processed_more zero j m t q h = rw (zero-add j)
processed_more (suc k) j m t q h =
    let s : suc k * 64 ≡ 64 + k * 64 = omega arith in
    let h₁ : 64 ≤ length m = omega arith in
    let h₂ : k * 64 ≤ length (drop 64 m) = simp length-drop (omega arith) in
    let d : drop (k * 64) (drop 64 m) ≡ drop (suc k * 64) m = rw (drop-drop, s) in
    ap (λ (n : ℕ). processed n (m ++ t) q) (suc-add k j) ∙ processed_suc (k + j) (m ++ t) q
    ∙ ap (λ (l : List ℕ). processed (k + j) l (compressed (take 64 (m ++ t)) q)) (drop-append-le 64 m t h₁)
    ∙ ap (λ (l : List ℕ). processed (k + j) (drop 64 m ++ t) (compressed l q)) (take-append-le 64 m t h₁)
    ∙ processed_more k j (drop 64 m) t (compressed (take 64 m) q) h₂
    ∙ ap (λ (l : List ℕ). processed j (l ++ t) (processed k (drop 64 m) (compressed (take 64 m) q))) d
    ∙ ap (λ (x : Registers). processed j (drop (suc k * 64) m ++ t) x) (sym (processed_suc k m q))

-- ---- the padding
-- typed, so that its zeros are numbers
abbrev pub none : ℕ → List ℕ
none n = replicate n 0

zero_front : (k n : ℕ) → k ≤ n → take k (none n) ≡ none k
zero_front k n h =
    let e : n ≡ k + (n - k) = omega arith in
    ap (λ (x : ℕ). take k (none x)) e ∙ ap (take k) (sym (replicate-append-replicate k (n - k) 0))
    ∙ take_at (none k) (none (n - k)) k (length-replicate k 0)

zero_rest : (k n : ℕ) → k ≤ n → drop k (none n) ≡ none (n - k)
zero_rest k n h =
    let e : n ≡ k + (n - k) = omega arith in
    ap (λ (x : ℕ). drop k (none x)) e ∙ ap (drop k) (sym (replicate-append-replicate k (n - k) 0))
    ∙ drop_at (none k) (none (n - k)) k (length-replicate k 0)

-- a run of bytes at the front of zeros, up to e
front_zeros : (e n : ℕ) (a : List ℕ) → length a ≤ e → e ≤ n → take e (overlay 0 a (none n)) ≡ a ++ none (e - length a)
unfolding overlay
front_zeros e n a h k =
    let s : e ≡ length a + (e - length a) = omega arith in
    let h₁ : length a ≤ n = omega arith in
    let h₂ : e - length a ≤ n - length a = omega arith in
    ap (λ (x : ℕ). take e (a ++ drop x (none n))) (zero-add (length a))
    ∙ ap (λ (l : List ℕ). take e (a ++ l)) (zero_rest (length a) n h₁)
    ∙ ap (λ (x : ℕ). take x (a ++ none (n - length a))) s
    ∙ take-append-add a (none (n - length a)) (e - length a)
    ∙ ap (λ (l : List ℕ). a ++ l) (zero_front (e - length a) (n - length a) h₂)

-- and bytes behind it
pub padded_front : (e r : ℕ) (a w l : List ℕ) → l ≡ overlay e w (overlay 0 a (none 128)) → length a ≤ e → e + length w ≡ r → r ≤ 128
    → take r l ≡ a ++ (none (e - length a) ++ w)
unfolding overlay
padded_front e r a w l is h s k =
    let X : List ℕ = overlay 0 a (none 128) in
    let h₁ : e ≤ 128 = omega arith in
    let f : take e X ≡ a ++ none (e - length a) = front_zeros e 128 a h h₁ in
    let g : length (none (e - length a)) ≡ e - length a = length-replicate {A = ℕ} (e - length a) 0 in
    let n : length (take e X ++ w) ≡ r =
    simp (length-append) (omega (arith, ap length f, length-append a (none (e - length a)), g)) in
    ap (take r) (is ∙ sym (append_assoc (take e X) w (drop (e + length w) X)))
    ∙ take_at (take e X ++ w) (drop (e + length w) X) r n
    ∙ ap (λ (x : List ℕ). x ++ w) f
    ∙ append_assoc a (none (e - length a)) w

length_le32 : (v : ℕ) → length (le32 v) ≡ 4
unfolding le32
length_le32 v = refl

length_padding : (n : ℕ) → length (padding n) ≡ 9 + zeros n
unfolding padding le32
length_padding n = simp (length-append, length-replicate) (omega arith)

-- the library's bytes of the length in bits, as its two words
two_words : (v : ℕ) → to_le_bytes w64 v ≡ le32 (v % 4294967296) ++ le32 (v / 4294967296)
unfolding le32
two_words v =
    let a : v % 4294967296 / 16777216 % 256 ≡ v / 16777216 % 256 = omega arith in
    let b : v % 4294967296 / 65536 % 256 ≡ v / 65536 % 256 = omega arith in
    let d : v % 4294967296 / 256 % 256 ≡ v / 256 % 256 = omega arith in
    let e : v % 4294967296 % 256 ≡ v % 256 = omega arith in
    rw (div-div-eq-div-mul v 4294967296 256, div-div-eq-div-mul v 4294967296 65536, div-div-eq-div-mul v 4294967296 16777216, a, b, d, e)

gap : (n k e : ℕ) → k ≡ n % 64 → e ≡ k + (9 + zeros k) → (e - 8) - (k + 1) ≡ zeros n
gap n k e h i = omega arith

end_is : (rest : List ℕ) (n e : ℕ) → length rest ≡ n % 64 → e ≡ length rest + (9 + zeros (length rest))
    → e ≡ length (rest ++ padding n)
end_is rest n e h i =
    let s : zeros (length rest) ≡ zeros n = omega arith in
    sym (length-append rest (padding n) ∙ rw (length_padding n, ← s, i))

-- the writes of `pad`, one after the other
module _ (rest l₀ l₁ l₂ : List ℕ) (n e : ℕ) where
  pub pad_told : length rest ≡ n % 64 → l₀ ≡ none 128 → l₁ ≡ overlay 0 rest l₀ → PaddedEnd (length rest) e
      → l₂ ≡ overlay (e - 8) (to_le_bytes w64 (n * 8 % 18446744073709551616)) (set l₁ (length rest) 128) → Padded rest n e l₂
  unfolding padding
  pad_told few blank copied ends counted =
      let a : List ℕ = rest ++ (128 ∷ []) in
      let w : List ℕ = to_le_bytes w64 (bits n) in
      let most : e ≤ 128 = ⊎_elim (λ h. omega arith) (λ h. omega arith) ends.blocks in
      let copied' : l₁ ≡ overlay 0 rest (none 128) = copied ∙ ap (overlay 0 rest) blank in
      let long₀ : length (none 128) ≡ 128 = length-replicate {A = ℕ} 128 0 in
      let fits : 0 + length rest ≤ length (none 128) = omega (arith, ends.room) in
      let long₁ : length l₁ ≡ 128 = ap length copied' ∙ length_overlay 0 rest (none 128) fits ∙ long₀ in
      let marked : set l₁ (length rest) 128 ≡ overlay 0 a (none 128) =
      store_next 0 (length rest) 128 rest (none 128) l₁ copied' (zero-add (length rest)) (omega (arith, ends.room)) in
      let long-a : length a ≡ length rest + 1 = length-append rest (128 ∷ []) in
      let told : l₂ ≡ overlay (e - 8) w (overlay 0 a (none 128)) =
      counted ∙ ap (λ (k : ℕ). overlay (e - 8) (to_le_bytes w64 (k % 18446744073709551616)) (set l₁ (length rest) 128)) (mul_comm n 8)
      ∙ ap (overlay (e - 8) w) marked in
      let long-x : length (overlay 0 a (none 128)) ≡ 128 = length_overlay 0 a (none 128) (omega (arith, ends.room)) ∙ long₀ in
      let k : (e - 8) - length a ≡ zeros n = ap (λ (x : ℕ). (e - 8) - x) long-a ∙ gap n (length rest) e few ends.is in
      record {
        end = end_is rest n e few ends.is;
        whole = ⊎_elim (λ h. omega arith) (λ h. omega arith) ends.blocks;
        most = most;
        long = ap length told ∙ length_overlay (e - 8) w (overlay 0 a (none 128)) (omega (arith, ends.room)) ∙ long-x;
        bytes =
            padded_front (e - 8) e a w l₂ told (omega (arith, ends.room)) (omega (arith, ends.room)) most
            ∙ append_assoc rest (128 ∷ []) (none ((e - 8) - length a) ++ w)
            ∙ rw (k, two_words (bits n));
      }

-- ---- the whole digest
pub registers_told : (m b : List ℕ) (e : ℕ) (q r : Registers) → q ≡ processed (length m / 64) m initial
    → Padded (drop (length m / 64 * 64) m) (length m) e b
    → r ≡ processed (e / 64) (take e b) q → r ≡ md5_registers m
unfolding md5_registers
registers_told m b e q r first padded last =
    let h : length m / 64 * 64 ≤ length m = omega arith in
    let n : length (drop (length m / 64 * 64) m) ≡ length m - length m / 64 * 64 = length-drop (length m / 64 * 64) m in
    let s : length (m ++ padding (length m)) / 64 ≡ length m / 64 + e / 64 =
    simp length-append (omega (arith, padded.end, padded.whole, length-append (drop (length m / 64 * 64) m) (padding (length m)))) in
    last ∙ ap (λ (l : List ℕ). processed (e / 64) l q) padded.bytes
    ∙ ap (λ (x : Registers). processed (e / 64) (drop (length m / 64 * 64) m ++ padding (length m)) x) first
    ∙ sym (ap (λ (x : ℕ). processed x (m ++ padding (length m)) initial) s
    ∙ processed_more (length m / 64) (e / 64) m (padding (length m)) initial h)

-- the four words of it, written one after the other
pub digest_told : (m l l₁ l₂ l₃ l₄ : List ℕ) (q : Registers) → q ≡ md5_registers m
    → l₁ ≡ overlay 0 (le32 q.a) l → l₂ ≡ overlay 4 (le32 q.b) l₁
    → l₃ ≡ overlay 8 (le32 q.c) l₂ → l₄ ≡ overlay 12 (le32 q.d) l₃ → l₄ ≡ overlay 0 (md5 m) l
unfolding md5
digest_told m l l₁ l₂ l₃ l₄ q is a b c d =
    let A : List ℕ = le32 q.a in
    let B : List ℕ = le32 q.b in
    let C : List ℕ = le32 q.c in
    let D : List ℕ = le32 q.d in
    let h₁ : 0 + length A ≡ 4 = omega (arith, length_le32 q.a) in
    let h₂ : 0 + length (A ++ B) ≡ 8 = omega (arith, length-append A B, length_le32 q.a, length_le32 q.b) in
    let h₃ : 0 + length ((A ++ B) ++ C) ≡ 12 = omega (arith, length-append (A ++ B) C, h₂, length_le32 q.c) in
    let e : l₄ ≡ overlay 0 (((A ++ B) ++ C) ++ D) l =
    more 0 12 ((A ++ B) ++ C) D l l₃ l₄ (more 0 8 (A ++ B) C l l₂ l₃ (more 0 4 A B l l₁ l₂ a b h₁) c h₂) d h₃ in
    e ∙ ap (λ (x : List ℕ). overlay 0 x l) (simp append_assoc)
    ∙ ap (λ (x : Registers). overlay 0 (le32 x.a ++ (le32 x.b ++ (le32 x.c ++ le32 x.d))) l) is

pub length_md5 : (m : List ℕ) → length (md5 m) ≡ 16
unfolding md5
length_md5 m = simp (length-append, length_le32)

-- sixteen bytes written over by a digest are the digest
pub digest_whole : (m l r : List ℕ) → r ≡ overlay 0 (md5 m) l → length l ≤ 16 → r ≡ md5 m
digest_whole m l r e h = overlay_whole (md5 m) l r e (rw (length_md5 m) h)

-- ---- the two sentences on the padding's length
pub padding_congruent : (n : ℕ) → 8 * (n + 1 + zeros n) % 512 ≡ 448
padding_congruent n = omega arith

pub padding_most : (n : ℕ) → 8 * (1 + zeros n) ≤ 512
padding_most n = omega arith

pub padding_whole : (n : ℕ) → 8 * (n + length (padding n)) % 512 ≡ 0
padding_whole n = let e : 8 * (n + (9 + zeros n)) % 512 ≡ 0 = omega arith in rw (length_padding n) e
