-- The replies that tell of auth types, with their bodies written out after 004's structures (Appendix C) and 02 No. 2
-- and No. 10. They keep the layouts to the papers: a length before the challenge, or a type that is listed and should
-- not be, is seen here.
use Rattle.std.specs.Prelude.{ℕ, true, false, ◌≡◌, List, [], ◌∷◌, ◌++◌}
use Rattle.wire_replies.specs.declared.Reply.{Reply}
use Rattle.wire_replies.specs.declared.Reply.TheVariants.{Refused, Challenge, ServerInfo}
use Rattle.wire_replies.specs.Replies.{body_bytes, shape_of}
use Rattle.wire_replies.specs.Addresses.{small}

-- the body of a reply which is shown these bytes
abbrev body_of : Reply → List ℕ → List ℕ
body_of r shown = body_bytes (shape_of r shown)

-- vault, tape, 1 as strings
abbrev told : List ℕ
told =
    small 5 ++ (0x76 ∷ 0x61 ∷ 0x75 ∷ 0x6C ∷ 0x74 ∷ 0 ∷ 0 ∷ 0 ∷ []) ++ small 4 ++ (0x74 ∷ 0x61 ∷ 0x70 ∷ 0x65 ∷ [])
    ++ small 1 ++ (0x31 ∷ 0 ∷ 0 ∷ 0 ∷ [])

pub record AuthReplies : Type 0 where
  -- error, the type, and the challenge as it was lent, whatever it is
  pub challenge : (c : List ℕ) → body_of Challenge c ≡ small 0 ++ small 2 ++ c
  -- 9, and the type NONE
  pub refused : body_of (Refused 0 9 1) [] ≡ small 9 ++ small 0
  -- ndmp_config_get_server_info_reply: error, vendor, product, revision, auth types: type 1 "leaves the server info list"
  pub info : body_of (ServerInfo true) [] ≡ small 0 ++ told ++ small 1 ++ small 2
  pub stranger : body_of (ServerInfo false) [] ≡ small 0 ++ small 0 ++ small 0 ++ small 0 ++ small 1 ++ small 2
