-- The session that the cases begin from is one that calls give: opening, CONNECT open, 0x103 of MD5 and CLIENT AUTH by MD5 (paper 02, No. 2 and No. 10). All
-- that is sent is compared, byte for byte, and all that is passed on.
use Rattle.std.specs.Prelude.{List, [], ◌∷◌, ◌≡◌, ℕ}
use Rattle.rules.specs.Answer.{held}
use Rattle.rules.specs.Calls.{opening}
use Rattle.rules_moves.specs.Cases.{CaseLine, Ask, tell, World, showing, shows, lending, known_challenge, no_variables, run_case, kept_after, fresh_session, known_session, begins}
use Rattle.rules_moves.specs.Cases.{one_cartridge, notices, wanted_from, says}

-- MD5 of the password `pw`, 60 zeros, the challenge and the password again
abbrev pub known_digest : List ℕ
known_digest = 0x9733_4DE0 ∷ 0x287B_B2B9 ∷ 0x0F66_90EF ∷ 0x6316_5FD9 ∷ []

-- CONNECT open with version 4; 0x103 of type 2, which gives the challenge that is lent; auth of type 2 with the id `v`
abbrev pub login_lines : List CaseLine
login_lines =
    says 0x900 (4 ∷ []) 0
    ∷ Ask 0x103 (2 ∷ []) (0 ∷ 2 ∷ known_challenge) []
    ∷ says 0x901 (2 ∷ 1 ∷ 0x7600_0000 ∷ known_digest) 0 ∷ []

-- with any cartridge
abbrev pub fresh : List ℕ → World
fresh image = begins fresh_session image no_variables []

pub record KnownSessionHolds : Type 0 where
  -- "Opening a session sends connection status (connected 0, version 4, empty text) as number 1."
  pub opened : showing (opening one_cartridge lending.time lending.room) 0 [] ≡ shows (notices 1 (tell 0x502 (0 ∷ 4 ∷ 0 ∷ []) ∷ [])) 0 []
  pub sent : (image : List ℕ) → run_case (fresh image) login_lines ≡ wanted_from 2 login_lines image 0
  pub left : (image : List ℕ) → kept_after (fresh image) login_lines ≡ held known_session image no_variables
