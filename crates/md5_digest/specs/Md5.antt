-- MD5 as RFC 1321 defines it, in our words; its sections stand in brackets.
use Rattle.std.specs.Prelude.{◌≡◌, ℕ, zero, suc, ◌+◌, ◌-◌, ◌*◌, ◌/◌, ◌%◌, ◌^◌, ◌<◌, ◌≤◌, ◌⊎◌, List, [], ◌∷◌, ◌++◌, length, take, drop, replicate, ◌==◌, bit_and, bit_or, bit_xor, slice_index}
use Rattle.xdr.specs.Choose.{choose}
use Rattle.md5_digest.specs.declared.Registers.{Registers}

-- the sum of two words, modulo 2^32 (2)
abbrev pub plus : ℕ → ℕ → ℕ
plus a b = (a + b) % 4294967296

-- a word rotated left by s bits: those that leave it above come in below (2)
unfoldable pub rotated : ℕ → ℕ → ℕ
rotated s x = bit_or (x * 2 ^ s % 4294967296) (x / 2 ^ (32 - s))

-- each bit of a word the other way (2)
abbrev pub complement : ℕ → ℕ
complement x = 4294967295 - x

-- the auxiliary functions F, G, H and I, one a round (3.4): F takes y where x has ones and z elsewhere, G takes x where z has ones
-- and y elsewhere, H is the exclusive or of all three, I that of y with x or not z
unfoldable pub auxiliary_of : ℕ → ℕ → ℕ → ℕ → ℕ
auxiliary_of round x y z =
    choose (round == 0) (bit_or (bit_and x y) (bit_and (complement x) z))
    (choose (round == 1) (bit_or (bit_and x z) (bit_and y (complement z)))
    (choose (round == 2) (bit_xor (bit_xor x y) z)
    (bit_xor y (bit_or x (complement z)))))

-- k of operation i (3.4): in order, then from 1 by 5, from 5 by 3, from 0 by 7, round the 16 words of a block
unfoldable pub index_of : ℕ → ℕ → ℕ
index_of round i =
    choose (round == 0) (i % 16)
    (choose (round == 1) ((5 * i + 1) % 16)
    (choose (round == 2) ((3 * i + 5) % 16)
    (7 * i % 16)))

pub record Index (round i r : ℕ) : Type 0 where
  pub is : r ≡ index_of round i
  pub small : r < 16

-- s (3.4): four amounts a round, which come again with every four operations
abbrev pub shifts : List ℕ
shifts = 7 ∷ 12 ∷ 17 ∷ 22 ∷ 5 ∷ 9 ∷ 14 ∷ 20 ∷ 4 ∷ 11 ∷ 16 ∷ 23 ∷ 6 ∷ 10 ∷ 15 ∷ 21 ∷ []

unfoldable pub shift_of : ℕ → ℕ
shift_of i = slice_index shifts (i / 16 * 4 + i % 4)

-- the table T (3.4): entry i is the integer part of 2^32 times the absolute value of the sine of i radians. RFC 1321 counts i
-- from 1, the list from 0.
abbrev pub table : List ℕ
table =
    0xd76a_a478 ∷ 0xe8c7_b756 ∷ 0x2420_70db ∷ 0xc1bd_ceee ∷ 0xf57c_0faf ∷ 0x4787_c62a ∷ 0xa830_4613 ∷ 0xfd46_9501
    ∷ 0x6980_98d8 ∷ 0x8b44_f7af ∷ 0xffff_5bb1 ∷ 0x895c_d7be ∷ 0x6b90_1122 ∷ 0xfd98_7193 ∷ 0xa679_438e ∷ 0x49b4_0821
    ∷ 0xf61e_2562 ∷ 0xc040_b340 ∷ 0x265e_5a51 ∷ 0xe9b6_c7aa ∷ 0xd62f_105d ∷ 0x0244_1453 ∷ 0xd8a1_e681 ∷ 0xe7d3_fbc8
    ∷ 0x21e1_cde6 ∷ 0xc337_07d6 ∷ 0xf4d5_0d87 ∷ 0x455a_14ed ∷ 0xa9e3_e905 ∷ 0xfcef_a3f8 ∷ 0x676f_02d9 ∷ 0x8d2a_4c8a
    ∷ 0xfffa_3942 ∷ 0x8771_f681 ∷ 0x6d9d_6122 ∷ 0xfde5_380c ∷ 0xa4be_ea44 ∷ 0x4bde_cfa9 ∷ 0xf6bb_4b60 ∷ 0xbebf_bc70
    ∷ 0x289b_7ec6 ∷ 0xeaa1_27fa ∷ 0xd4ef_3085 ∷ 0x0488_1d05 ∷ 0xd9d4_d039 ∷ 0xe6db_99e5 ∷ 0x1fa2_7cf8 ∷ 0xc4ac_5665
    ∷ 0xf429_2244 ∷ 0x432a_ff97 ∷ 0xab94_23a7 ∷ 0xfc93_a039 ∷ 0x655b_59c3 ∷ 0x8f0c_cc92 ∷ 0xffef_f47d ∷ 0x8584_5dd1
    ∷ 0x6fa8_7e4f ∷ 0xfe2c_e6e0 ∷ 0xa301_4314 ∷ 0x4e08_11a1 ∷ 0xf753_7e82 ∷ 0xbd3a_f235 ∷ 0x2ad7_d2bb ∷ 0xeb86_d391 ∷ []

-- what a round has of its own: four amounts, the auxiliary function and the order of the words, each by what a call of it may give
pub record RoundOwn (round : ℕ) (amounts : List ℕ) (Mixes : ℕ → ℕ → ℕ → ℕ → Type 0) (Orders : ℕ → ℕ → Type 0) : Type 0 where
  pub one : round < 4
  pub rotates : amounts ≡ take 4 (drop (round * 4) shifts)
  pub mixes : (x y z r : ℕ) → Mixes x y z r → r ≡ auxiliary_of round x y z
  pub orders : (i r : ℕ) → i < 64 → Orders i r → Index round i r

-- the word that four bytes are, the low byte first (2)
unfoldable pub le_word : List ℕ → ℕ → ℕ
le_word l at = slice_index l at + slice_index l (at + 1) * 256 + slice_index l (at + 2) * 65536 + slice_index l (at + 3) * 16777216

-- operation i, with k and s of its own (3.4): to a are added the auxiliary function of b, c and d, word k of the block and entry i
-- of the table; that is rotated by s, and b added. The next operation does it for d, then for c, for b and for a again: so the
-- registers move on by one.
unfoldable pub stepped : ℕ → List ℕ → Registers → Registers
stepped i x q =
    record {
      a = q.d;
      b =
          plus q.b (rotated (shift_of i)
          (plus (plus q.a (auxiliary_of (i / 16) q.b q.c q.d)) (plus (le_word x (4 * index_of (i / 16) i)) (slice_index table i))));
      c = q.b;
      d = q.c;
    }

-- n operations from operation i on; a block takes 64 (3.4: four rounds of 16)
unfoldable pub operations : ℕ → ℕ → List ℕ → Registers → Registers
operations zero i x q = q
operations (suc n) i x q = operations n (i + 1) x (stepped i x q)

-- to each register is added what it held before the block (3.4)
abbrev pub summed : Registers → Registers → Registers
summed p q = record { a = plus p.a q.a; b = plus p.b q.b; c = plus p.c q.c; d = plus p.d q.d }

-- one block of 16 words
unfoldable pub compressed : List ℕ → Registers → Registers
compressed x q = summed q (operations 64 0 x q)

-- one block after the other (3.4): n of them, from the front of the message
unfoldable pub processed : ℕ → List ℕ → Registers → Registers
processed zero l q = q
processed (suc n) l q = processed n (drop 64 l) (compressed (take 64 l) q)

-- what the registers start with (3.3): their bytes, the low ones first, are 01 23 45 67, 89 ab cd ef, fe dc ba 98 and 76 54 32 10
abbrev pub initial : Registers
initial = record { a = 0x6745_2301; b = 0xefcd_ab89; c = 0x98ba_dcfe; d = 0x1032_5476 }

-- a word as four bytes, the low one first
unfoldable pub le32 : ℕ → List ℕ
le32 v = (v % 256) ∷ (v / 256 % 256) ∷ (v / 65536 % 256) ∷ (v / 16777216 % 256) ∷ []

-- the padding (3.1): a one bit, and then as few zero bits as make the length in bits 448 modulo 512; 1 to 512 bits in all. The one
-- bit and seven of the zeros are the byte 0x80; so many bytes of zeros follow it.
abbrev pub zeros : ℕ → ℕ
zeros n = (119 - n % 64) % 64

-- the length of the message in bits, without the padding; of a longer one than 2^64 bits the low 64 bits count (3.2)
abbrev pub bits : ℕ → ℕ
bits n = 8 * n % 18446744073709551616

-- what is appended to a message of n bytes: the padding, and the length as two words, the low one first (3.2)
unfoldable pub padding : ℕ → List ℕ
padding n = 0x80 ∷ (replicate (zeros n) 0 ++ (le32 (bits n % 4294967296) ++ le32 (bits n / 4294967296)))

-- What 3.1 says of the length: after the zeros it is 448 modulo 512, in bits, and with the two words a multiple of 512;
-- 1 to 512 bits are appended before the words, so no shorter padding does.
pub record PaddingHolds : Type 0 where
  pub congruent : (n : ℕ) → 8 * (n + 1 + zeros n) % 512 ≡ 448
  pub most : (n : ℕ) → 8 * (1 + zeros n) ≤ 512
  pub whole : (n : ℕ) → 8 * (n + length (padding n)) % 512 ≡ 0

-- where the padding of a message's last bytes ends
pub record PaddedEnd (len r : ℕ) : Type 0 where
  pub is : r ≡ len + (9 + zeros len)
  pub blocks : (r ≡ 64) ⊎ (r ≡ 128)
  pub room : len + 9 ≤ r

-- a buffer of zeros, and the last bytes of a message of n bytes
pub record Blank (rest : List ℕ) (n : ℕ) (l : List ℕ) : Type 0 where
  pub rests : length rest ≡ n % 64
  pub zeroed : l ≡ replicate 128 0

-- what the last, unfilled block becomes: at its front the buffer has the message's last bytes and the padding
pub record Padded (rest : List ℕ) (n r : ℕ) (l : List ℕ) : Type 0 where
  pub end : r ≡ length (rest ++ padding n)
  pub whole : r % 64 ≡ 0
  pub most : r ≤ 128
  pub long : length l ≡ 128
  pub bytes : take r l ≡ rest ++ padding n

-- the registers after the last block of the padded message
unfoldable pub md5_registers : List ℕ → Registers
md5_registers m = processed (length (m ++ padding (length m)) / 64) (m ++ padding (length m)) initial

-- the digest: the registers A, B, C and D, each with its low byte first (3.5)
unfoldable pub md5 : List ℕ → List ℕ
md5 m = let q = md5_registers m in le32 q.a ++ (le32 q.b ++ (le32 q.c ++ le32 q.d))
