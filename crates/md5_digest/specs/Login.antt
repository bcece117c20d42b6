-- The string whose digest a login by MD5 sends (NDMP draft, 3.1.2; its challenge comes from 3.2.4's reply).
use Rattle.std.specs.Prelude.{◌≡◌, ℕ, ◌-◌, ◌*◌, ◌≤◌, List, ◌++◌, length, replicate}
use Rattle.codes.specs.Codes.{longest_password, challenge_length}
use Rattle.md5_digest.specs.Md5.{md5}

-- "concatenating the 1 to 32 byte password, 0 to 62 bytes of null (0x00) padding, the 64 byte random challenge string
-- obtained from the server, and the 1 to 32 byte password again"; "the padding field length is computed as
-- 64-2*(password length)"
unfoldable pub login_string : List ℕ → List ℕ → List ℕ
login_string password challenge = password ++ (replicate (64 - 2 * length password) 0 ++ (challenge ++ password))

-- "The output of the MD5 message digest processing is a unique 16 byte auth_digest."
unfoldable pub login_digest : List ℕ → List ℕ → List ℕ
login_digest password challenge = md5 (login_string password challenge)

-- a password that is not too long, a whole challenge, and a string of zeros to write them into
pub record LoginBlank (password challenge l : List ℕ) : Type 0 where
  pub short : length password ≤ longest_password
  pub given : length challenge ≡ challenge_length
  pub zeroed : l ≡ replicate 128 0
