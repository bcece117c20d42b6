-- What RFC 1321 lists, written out, and what the definitions give, computed. They keep the definitions to what MD5 is.
use Rattle.std.specs.Prelude.{◌≡◌, ℕ, zero, suc, ◌+◌, ◌/◌, ◌≤◌, List, [], ◌∷◌, ◌++◌, map, length}
use Rattle.codes.specs.Codes.{longest_password, challenge_length}
use Rattle.md5_digest.specs.Md5.{index_of, shift_of, md5}
use Rattle.md5_digest.specs.Login.{login_string, login_digest}

-- the numbers from i on
abbrev pub numbers_from : ℕ → ℕ → List ℕ
numbers_from zero i = []
numbers_from (suc n) i = i ∷ numbers_from n (i + 1)

-- k of [abcd k s i], the four rounds as 3.4 lists them
abbrev pub listed_indices : List ℕ
listed_indices =
    0 ∷ 1 ∷ 2 ∷ 3 ∷ 4 ∷ 5 ∷ 6 ∷ 7 ∷ 8 ∷ 9 ∷ 10 ∷ 11 ∷ 12 ∷ 13 ∷ 14 ∷ 15
    ∷ 1 ∷ 6 ∷ 11 ∷ 0 ∷ 5 ∷ 10 ∷ 15 ∷ 4 ∷ 9 ∷ 14 ∷ 3 ∷ 8 ∷ 13 ∷ 2 ∷ 7 ∷ 12
    ∷ 5 ∷ 8 ∷ 11 ∷ 14 ∷ 1 ∷ 4 ∷ 7 ∷ 10 ∷ 13 ∷ 0 ∷ 3 ∷ 6 ∷ 9 ∷ 12 ∷ 15 ∷ 2
    ∷ 0 ∷ 7 ∷ 14 ∷ 5 ∷ 12 ∷ 3 ∷ 10 ∷ 1 ∷ 8 ∷ 15 ∷ 6 ∷ 13 ∷ 4 ∷ 11 ∷ 2 ∷ 9 ∷ []

-- s of [abcd k s i]
abbrev pub listed_shifts : List ℕ
listed_shifts =
    7 ∷ 12 ∷ 17 ∷ 22 ∷ 7 ∷ 12 ∷ 17 ∷ 22 ∷ 7 ∷ 12 ∷ 17 ∷ 22 ∷ 7 ∷ 12 ∷ 17 ∷ 22
    ∷ 5 ∷ 9 ∷ 14 ∷ 20 ∷ 5 ∷ 9 ∷ 14 ∷ 20 ∷ 5 ∷ 9 ∷ 14 ∷ 20 ∷ 5 ∷ 9 ∷ 14 ∷ 20
    ∷ 4 ∷ 11 ∷ 16 ∷ 23 ∷ 4 ∷ 11 ∷ 16 ∷ 23 ∷ 4 ∷ 11 ∷ 16 ∷ 23 ∷ 4 ∷ 11 ∷ 16 ∷ 23
    ∷ 6 ∷ 10 ∷ 15 ∷ 21 ∷ 6 ∷ 10 ∷ 15 ∷ 21 ∷ 6 ∷ 10 ∷ 15 ∷ 21 ∷ 6 ∷ 10 ∷ 15 ∷ 21 ∷ []

pub record Md5Cases : Type 0 where
  pub indices : map (λ (i : ℕ). index_of (i / 16) i) (numbers_from 64 0) ≡ listed_indices
  pub shifts : map shift_of (numbers_from 64 0) ≡ listed_shifts
  -- MD5 ("") = d41d8cd98f00b204e9800998ecf8427e (A.5)
  pub none : md5 [] ≡
      0xd4 ∷ 0x1d ∷ 0x8c ∷ 0xd9 ∷ 0x8f ∷ 0x00 ∷ 0xb2 ∷ 0x04 ∷
      0xe9 ∷ 0x80 ∷ 0x09 ∷ 0x98 ∷ 0xec ∷ 0xf8 ∷ 0x42 ∷ 0x7e ∷ []
  -- MD5 ("a") = 0cc175b9c0f1b6a831c399e269772661
  pub a : md5 (97 ∷ []) ≡
      0x0c ∷ 0xc1 ∷ 0x75 ∷ 0xb9 ∷ 0xc0 ∷ 0xf1 ∷ 0xb6 ∷ 0xa8 ∷
      0x31 ∷ 0xc3 ∷ 0x99 ∷ 0xe2 ∷ 0x69 ∷ 0x77 ∷ 0x26 ∷ 0x61 ∷ []
  -- MD5 ("abc") = 900150983cd24fb0d6963f7d28e17f72
  pub abc : md5 (97 ∷ 98 ∷ 99 ∷ []) ≡
      0x90 ∷ 0x01 ∷ 0x50 ∷ 0x98 ∷ 0x3c ∷ 0xd2 ∷ 0x4f ∷ 0xb0 ∷
      0xd6 ∷ 0x96 ∷ 0x3f ∷ 0x7d ∷ 0x28 ∷ 0xe1 ∷ 0x7f ∷ 0x72 ∷ []

-- "moss"
abbrev pub short_password : List ℕ
short_password = 109 ∷ 111 ∷ 115 ∷ 115 ∷ []

-- a challenge whose bytes are told from each other and from those of the passwords
abbrev pub challenge : List ℕ
challenge = numbers_from 64 128

-- "moss", 56 zeros, the challenge, "moss"
abbrev pub short_string : List ℕ
short_string =
    109 ∷ 111 ∷ 115 ∷ 115 ∷ 0 ∷ 0 ∷ 0 ∷ 0 ∷ 0 ∷ 0 ∷ 0 ∷ 0 ∷ 0 ∷ 0 ∷ 0 ∷ 0
    ∷ 0 ∷ 0 ∷ 0 ∷ 0 ∷ 0 ∷ 0 ∷ 0 ∷ 0 ∷ 0 ∷ 0 ∷ 0 ∷ 0 ∷ 0 ∷ 0 ∷ 0 ∷ 0
    ∷ 0 ∷ 0 ∷ 0 ∷ 0 ∷ 0 ∷ 0 ∷ 0 ∷ 0 ∷ 0 ∷ 0 ∷ 0 ∷ 0 ∷ 0 ∷ 0 ∷ 0 ∷ 0
    ∷ 0 ∷ 0 ∷ 0 ∷ 0 ∷ 0 ∷ 0 ∷ 0 ∷ 0 ∷ 0 ∷ 0 ∷ 0 ∷ 0 ∷ 128 ∷ 129 ∷ 130 ∷ 131
    ∷ 132 ∷ 133 ∷ 134 ∷ 135 ∷ 136 ∷ 137 ∷ 138 ∷ 139 ∷ 140 ∷ 141 ∷ 142 ∷ 143 ∷ 144 ∷ 145 ∷ 146 ∷ 147
    ∷ 148 ∷ 149 ∷ 150 ∷ 151 ∷ 152 ∷ 153 ∷ 154 ∷ 155 ∷ 156 ∷ 157 ∷ 158 ∷ 159 ∷ 160 ∷ 161 ∷ 162 ∷ 163
    ∷ 164 ∷ 165 ∷ 166 ∷ 167 ∷ 168 ∷ 169 ∷ 170 ∷ 171 ∷ 172 ∷ 173 ∷ 174 ∷ 175 ∷ 176 ∷ 177 ∷ 178 ∷ 179
    ∷ 180 ∷ 181 ∷ 182 ∷ 183 ∷ 184 ∷ 185 ∷ 186 ∷ 187 ∷ 188 ∷ 189 ∷ 190 ∷ 191 ∷ 109 ∷ 111 ∷ 115 ∷ 115 ∷ []

-- the longest password, which leaves no room for zeros
abbrev pub long_password : List ℕ
long_password = numbers_from 32 1

pub record LoginCases : Type 0 where
  pub short : login_string short_password challenge ≡ short_string
  pub long : login_string long_password challenge ≡ long_password ++ (challenge ++ long_password)
  pub whole : (p c : List ℕ) → length p ≤ longest_password → length c ≡ challenge_length → length (login_string p c) ≡ 128
  pub digest : login_digest short_password challenge ≡
      0xea ∷ 0x6a ∷ 0x74 ∷ 0x2b ∷ 0x95 ∷ 0x5d ∷ 0xe8 ∷ 0xa3 ∷
      0xdd ∷ 0x31 ∷ 0x9a ∷ 0x0d ∷ 0x5a ∷ 0xc8 ∷ 0xf9 ∷ 0x34 ∷ []
