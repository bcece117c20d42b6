-- What can be sent, and that it fits.
use Rattle.std.specs.Prelude.{ℕ, ◌+◌, ◌*◌, ◌≤◌, ◌<◌, Bool, true, List, [], ◌∷◌, ◌++◌, ◌≡◌, length}
use Rattle.codes.specs.Codes.{largest_message, longest_record, sense_bytes, most_status, most_listed, most_lent, store_length, challenge_length}
use Rattle.wire_pairs.specs.Store.{is_laid, environment_of}
use Rattle.wire_replies.specs.declared.Reply.{Reply}
use Rattle.wire_replies.specs.declared.Reply.TheVariants.{Header, Refused, Plain, Listening, ListeningTcp, ConnectionTypes, Challenge, ServerInfo, ScsiState, Cdb, Sense, Check, Elements, TapeState, Mtio, Wrote, Read, DataState, Environment, MoverState}
use Rattle.wire_replies.specs.declared.Notice.{Notice}
use Rattle.wire_replies.specs.Replies.{reply_bytes, notice_bytes}

-- what a reply copies is there: the bytes of a read lie in the image and are at most 32,768, those of a list of
-- addresses at most 16,384, those of a challenge at most 64, those of the sense at most 18, those of a status at most 152; the pairs lie in a store of
-- at most 16,384 bytes that is laid out so; and a refusal has at most 17 zero words, as every row of frame's table has
abbrev pub Sending : Reply → List ℕ → Type 0
Sending (Header e) image = Unit
Sending (Refused b e a) image = b + a ≤ 17
Sending Plain image = Unit
Sending Listening image = Unit
Sending ListeningTcp image = length image ≤ most_lent
Sending ConnectionTypes image = Unit
Sending Challenge image = length image ≤ challenge_length
Sending (ServerInfo known) image = Unit
Sending ScsiState image = Unit
Sending Cdb image = Unit
Sending (Sense n key code qualifier) image = n ≤ sense_bytes
Sending (Check key code qualifier) image = Unit
Sending Elements image = length image ≤ most_status
Sending (TapeState file block) image = Unit
Sending (Mtio e residue) image = Unit
Sending (Wrote e count) image = Unit
Sending (Read e start len) image = (start + len ≤ length image) × (len ≤ longest_record)
Sending (DataState v) image = Unit
Sending Environment image = (is_laid image ≡ true) × (length image ≤ store_length)
Sending (MoverState v) image = Unit

-- the same, shut, so that a law over it is applied with its arguments found
unfoldable pub Sendable : Reply → List ℕ → Type 0
Sendable r image = Sending r image

-- the largest answer with two notices fits an output of 36,864 bytes
abbrev pub AnswersFit : Type 0
AnswersFit =
    (s t m e s' t' s'' t'' : ℕ) (r : Reply) (image : List ℕ) (a b : Notice) → Sendable r image
    → length (reply_bytes s t m e r image ++ (notice_bytes s' t' a ++ notice_bytes s'' t'' b)) ≤ largest_message

-- the largest environment: at most 65 pairs, those of a store and the separator's, and at most 16,448 bytes with the header
abbrev pub EnvironmentFits : Type 0
EnvironmentFits =
    (s t m e : ℕ) (store : List ℕ) → Sendable Environment store
    → (length (environment_of store) ≤ most_listed + 1) × (length (reply_bytes s t m e Environment store) ≤ store_length + 64)
