-- The number of a reply, as a client reads it from what is sent; and that the other fields of a refusal are zero or empty.
use Rattle.std.specs.Prelude.{ℕ, ◌+◌, ◌*◌, ◌^◌, ◌<◌, ◌≡◌, List, [], ◌++◌, map, drop, replicate, eqb}
use Rattle.xdr.specs.Choose.{choose}
use Rattle.xdr.specs.Xdr.{word, be32}
use Rattle.wire_frame.specs.Messages.{row_of}
use Rattle.wire_replies.specs.declared.Reply.{Reply}
use Rattle.wire_replies.specs.declared.Reply.TheVariants.{Header, Refused, Plain, Listening, ListeningTcp, ConnectionTypes, Challenge, ServerInfo, ScsiState, Cdb}
use Rattle.wire_replies.specs.declared.Reply.TheVariants.{Sense, Check, Elements, TapeState, Mtio, Wrote, Read, DataState, Environment, MoverState}
use Rattle.wire_replies.specs.Replies.{number_of, reply_bytes}
use Rattle.wire_replies.specs.Refusals.{Blank, blank, blanks}

-- how many words stand before the number in a reply's body: the states of the tape and of the data end begin with what is not supported
unfoldable pub place_of : Reply → ℕ
place_of (Header e) = 0
place_of (Refused b e a) = b
place_of Plain = 0
place_of Listening = 0
place_of ListeningTcp = 0
place_of ConnectionTypes = 0
place_of Challenge = 0
place_of (ServerInfo known) = 0
place_of ScsiState = 0
place_of Cdb = 0
place_of (Sense n key code qualifier) = 0
place_of (Check key code qualifier) = 0
place_of Elements = 0
place_of (TapeState file block) = 1
place_of (Mtio e residue) = 0
place_of (Wrote e count) = 0
place_of (Read e start len) = 0
place_of (DataState v) = 1
place_of Environment = 0
place_of (MoverState v) = 0

-- "An unknown message's 1, and 18, stand in the header with no body; all others in the body, header error 0": the number of a reply
-- that was sent is its header's error, or, where that is 0, the word of its body that so many words stand before
unfoldable pub number_in : ℕ → List ℕ → ℕ
number_in before sent = choose (eqb (word sent 24) 0) (word sent (28 + 4 * before)) (word sent 24)

-- the body of what was sent
abbrev pub body_in : List ℕ → List ℕ
body_in sent = drop 28 sent

-- a body of a number and nothing else: so many zero words before it, and so many after it
abbrev pub bare : ℕ → ℕ → ℕ → List ℕ
bare before e after = replicate (4 * before) 0 ++ (be32 e ++ replicate (4 * after) 0)

abbrev accepted_place : Blank → ℕ
accepted_place (blank n r k) = place_of r

abbrev refused_place : Blank → ℕ
refused_place (blank n r k) = (row_of n).before

pub record NumbersTold : Type 0 where
  -- the error word of what is sent is the reply's number, for every reply
  pub told : (sequence time message echo : ℕ) (r : Reply) (image : List ℕ) → number_of r < 2 ^ 32
      → number_in (place_of r) (reply_bytes sequence time message echo r image) ≡ number_of r
  -- "other reply fields are zero or empty, except the residue at 12 and 13"
  pub headed : (sequence time message echo e : ℕ) (image : List ℕ) → body_in (reply_bytes sequence time message echo (Header e) image) ≡ []
  pub refused : (sequence time message echo b e a : ℕ) (image : List ℕ)
      → body_in (reply_bytes sequence time message echo (Refused b e a) image) ≡ bare b e a
  pub wrote : (sequence time message echo e : ℕ) (image : List ℕ)
      → body_in (reply_bytes sequence time message echo (Wrote e 0) image) ≡ bare 0 e 1
  pub read : (sequence time message echo e start : ℕ) (image : List ℕ)
      → body_in (reply_bytes sequence time message echo (Read e start 0) image) ≡ bare 0 e 1
  pub spaced : (sequence time message echo e residue : ℕ) (image : List ℕ)
      → body_in (reply_bytes sequence time message echo (Mtio e residue) image) ≡ be32 e ++ be32 residue
  -- the number of a message's refusal stands where that of its accepted reply does
  pub in_place : map accepted_place blanks ≡ map refused_place blanks
