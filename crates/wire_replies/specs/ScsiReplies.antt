-- The replies to execute CDB, with their bodies written out after 004's structure (error, status, data-out length, data in,
-- extended sense) and the sense of paper 01, which with 02 No. 7 has a qualifier. A sense whose key, code or qualifier
-- stands at another byte, or a status told as the sense, is seen here.
use Rattle.std.specs.Prelude.{ℕ, ◌≡◌, List, [], ◌∷◌, ◌++◌}
use Rattle.wire_replies.specs.declared.Reply.{Reply}
use Rattle.wire_replies.specs.declared.Reply.TheVariants.{Cdb, Sense, Check, Elements}
use Rattle.wire_replies.specs.Replies.{body_bytes, shape_of}
use Rattle.wire_replies.specs.Addresses.{small}

-- the body of a reply which is shown these bytes
abbrev body_shown : Reply → List ℕ → List ℕ
body_shown r shown = body_bytes (shape_of r shown)

-- "the sense `70 00 05 00 00 00 00 0A 00 00 00 00 20 00 00 00 00 00`", and with none pending
abbrev unknown_code : List ℕ
unknown_code = 0x70 ∷ 0 ∷ 5 ∷ 0 ∷ 0 ∷ 0 ∷ 0 ∷ 0x0A ∷ 0 ∷ 0 ∷ 0 ∷ 0 ∷ 0x20 ∷ 0 ∷ 0 ∷ 0 ∷ 0 ∷ 0 ∷ []

abbrev none_pending : List ℕ
none_pending = 0x70 ∷ 0 ∷ 0 ∷ 0 ∷ 0 ∷ 0 ∷ 0 ∷ 0x0A ∷ 0 ∷ 0 ∷ 0 ∷ 0 ∷ 0 ∷ 0 ∷ 0 ∷ 0 ∷ 0 ∷ 0 ∷ []

-- 05h/3Bh/0Dh
abbrev full_element : List ℕ
full_element = 0x70 ∷ 0 ∷ 5 ∷ 0 ∷ 0 ∷ 0 ∷ 0 ∷ 0x0A ∷ 0 ∷ 0 ∷ 0 ∷ 0 ∷ 0x3B ∷ 0x0D ∷ 0 ∷ 0 ∷ 0 ∷ 0 ∷ []

pub record ScsiReplies : Type 0 where
  pub nothing : body_shown Cdb [] ≡ small 0 ++ small 0 ++ small 0 ++ small 0 ++ small 0
  pub refused : body_shown (Check 5 0x20 0) [] ≡ small 0 ++ small 2 ++ small 0 ++ small 0 ++ small 18 ++ unknown_code ++ (0 ∷ 0 ∷ [])
  pub qualified : body_shown (Check 5 0x3B 0x0D) [] ≡ small 0 ++ small 2 ++ small 0 ++ small 0 ++ small 18 ++ full_element ++ (0 ∷ 0 ∷ [])
  pub told : body_shown (Sense 18 5 0x20 0) [] ≡ small 0 ++ small 0 ++ small 0 ++ small 18 ++ unknown_code ++ (0 ∷ 0 ∷ []) ++ small 0
  pub untold : body_shown (Sense 18 0 0 0) [] ≡ small 0 ++ small 0 ++ small 0 ++ small 18 ++ none_pending ++ (0 ∷ 0 ∷ []) ++ small 0
  pub cut : body_shown (Sense 3 5 0x3B 0x0D) [] ≡ small 0 ++ small 0 ++ small 0 ++ small 3 ++ (0x70 ∷ 0 ∷ 5 ∷ 0 ∷ []) ++ small 0
  pub none_of_it : body_shown (Sense 0 5 0x20 0) [] ≡ small 0 ++ small 0 ++ small 0 ++ small 0 ++ small 0
  -- what is shown is the data in, with its length and fill
  pub elements : (a b c d e : ℕ) → body_shown Elements (a ∷ b ∷ c ∷ d ∷ e ∷ []) ≡ small 0 ++ small 0 ++ small 0 ++ small 5 ++ (a ∷ b ∷ c ∷ d ∷ e ∷ 0 ∷ 0 ∷ 0 ∷ []) ++ small 0
