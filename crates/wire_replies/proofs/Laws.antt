-- How long bodies and records are, and that a refusal is as long as its message's reply. Assumes nothing.
use Prim.Native.Nat.{ℕ, ◌+◌, ◌*◌, ◌≤◌}
use mathlib.Core.Bool.{Bool, true, false}
use mathlib.Core.Path.{◌≡◌, refl, ap}
use mathlib.Core.List.{List, [], ◌∷◌, ◌++◌, append-nil}
use native.Mathlib.Omega.{arith}
use lib.Dec.{eqb}
use lib.ListN.{length, take, length-append, length-take, length-replicate}
use Rattle.codes.specs.Codes.{tcp_address}
use Rattle.xdr.specs.Choose.{choose}
use Rattle.xdr.specs.Xdr.{be32, be32s, word, same_bytes}
use Rattle.xdr.proofs.Laws.{length_be32s}
use Rattle.xdr.proofs.Tests.{by_test}
use Rattle.xdr_opaque.specs.Put.{opaque}
use Rattle.xdr_opaque.proofs.Laws.{length_opaque_filled}
use Rattle.wire_pairs.specs.Pairs.{Pair, texts_of, pair_bytes, separator_name, separator, is_named, with_separator}
use Rattle.wire_pairs.specs.Store.{is_laid, laid_from, kept_from, kept_pairs, environment_of}
use Rattle.wire_pairs.proofs.Sizes.{most_pairs, environment_size}
use Rattle.wire_frame.specs.Messages.{look, row_of}
use Rattle.wire_frame.proofs.Laws.{length_record}
use Rattle.wire_replies.specs.declared.Reply.{Reply}
use Rattle.wire_replies.specs.declared.Reply.TheVariants.{Header, Refused, Plain, Listening, ListeningTcp, ConnectionTypes, Challenge, ServerInfo, ScsiState}
use Rattle.wire_replies.specs.declared.Reply.TheVariants.{Cdb, Sense, Check, Elements, TapeState, Mtio, Wrote, Read, DataState, Environment, MoverState}
use Rattle.wire_replies.specs.declared.Notice.{Notice}
use Rattle.wire_replies.specs.declared.Notice.TheVariants.{DataHalted, Connected, MoverHalted, MoverPaused}
use Rattle.wire_replies.specs.Replies.{Body, opaques, body_bytes, words_only, sense, server_texts, address_words, shape_of, is_showing, reply_bytes, notice_words, notice_bytes}
use Rattle.wire_replies.specs.Fit.{Sendable, AnswersFit, EnvironmentFits}
use Rattle.wire_replies.specs.Refusals.{RefusalsAsLong}
use Rattle.wire_replies.specs.Addresses.{AddressReplies, small}
use Rattle.wire_replies.specs.AuthReplies.{AuthReplies}
use Rattle.wire_replies.specs.ScsiReplies.{ScsiReplies}
use Rattle.wire_replies.specs.EnvironmentReplies.{EnvironmentReplies}

pub length_sense : (key code qualifier : ℕ) → length (sense key code qualifier) ≡ 18
unfolding sense
length_sense key code qualifier = refl

-- ---- only a read, a listen by TCP, a challenge, an environment and a status of elements show lent bytes
pub shows_nothing : (r : Reply) (l m : List ℕ) → is_showing r ≡ false → shape_of r l ≡ shape_of r m
unfolding is_showing shape_of
shows_nothing (Header e) l m h = refl
shows_nothing (Refused b e a) l m h = refl
shows_nothing Plain l m h = refl
shows_nothing Listening l m h = refl
shows_nothing ListeningTcp l m h = let z : ◌≡◌ {A = ℕ} 0 1 = cc in absurd (omega arith)
shows_nothing ConnectionTypes l m h = refl
shows_nothing Challenge l m h = let z : ◌≡◌ {A = ℕ} 0 1 = cc in absurd (omega arith)
shows_nothing (ServerInfo known) l m h = refl
shows_nothing ScsiState l m h = refl
shows_nothing Cdb l m h = refl
shows_nothing (Sense n key code qualifier) l m h = refl
shows_nothing (Check key code qualifier) l m h = refl
shows_nothing Elements l m h = let z : ◌≡◌ {A = ℕ} 0 1 = cc in absurd (omega arith)
shows_nothing (TapeState file block) l m h = refl
shows_nothing (Mtio e residue) l m h = refl
shows_nothing (Wrote e count) l m h = refl
shows_nothing (Read e start len) l m h = let z : ◌≡◌ {A = ℕ} 0 1 = cc in absurd (omega arith)
shows_nothing (DataState v) l m h = refl
shows_nothing Environment l m h = let z : ◌≡◌ {A = ℕ} 0 1 = cc in absurd (omega arith)
shows_nothing (MoverState v) l m h = refl

-- ---- how long a body is
pub length_body : (b : Body)
    → length (body_bytes b) ≡ 4 * length b.words + (length b.raw + (length (opaques b.texts) + 4 * length b.tail))
unfolding body_bytes
length_body b = simp (length-append, length_be32s)

-- words alone
few : (ws : List ℕ) → length ws ≤ 19 → length (body_bytes (words_only ws)) ≤ 32776
unfolding opaques
few ws h = rw length_body (omega arith)

-- words and lent bytes
lent : (ws r : List ℕ) → length ws ≤ 19 → length r ≤ 16384
    → length (body_bytes (record { words = ws; raw = r; texts = []; tail = [] })) ≤ 32776
unfolding opaques
lent ws r h k = rw length_body (omega arith)

-- words and one text, or two short ones
one_text_lem : (ws t : List ℕ) → length ws ≤ 1 → length t ≤ 32768
    → length (body_bytes (record { words = ws; raw = []; texts = t ∷ []; tail = [] })) ≤ 32776
unfolding opaques
one_text_lem ws t h k = simp (length_body, length-append, length_opaque_filled) (omega arith)

two_texts : (ws t u : List ℕ) → length ws ≤ 3 → length t ≤ 152 → length u ≤ 18
    → length (body_bytes (record { words = ws; raw = []; texts = t ∷ u ∷ []; tail = [] })) ≤ 32776
unfolding opaques
two_texts ws t u h j k = simp (length_body, length-append, length_opaque_filled) (omega arith)

server_small : (known : Bool) (tail : List ℕ) → length tail ≤ 19
    → length (body_bytes (record { words = 0 ∷ []; raw = []; texts = server_texts known; tail = tail })) ≤ 32776
unfolding server_texts opaques
server_small true tail h = simp (length_body, length-append, length_opaque_filled) (omega arith)
server_small false tail h = simp (length_body, length-append, length_opaque_filled) (omega arith)

-- the texts of pairs are their bytes
pub opaques_texts : (ps : List Pair) → opaques (texts_of ps) ≡ pair_bytes ps
unfolding opaques texts_of pair_bytes
opaques_texts [] = refl
opaques_texts (p ∷ ps) = ap (λ (r : List ℕ). opaque p.name ++ (opaque p.value ++ r)) (opaques_texts ps)

-- error, count, and the pairs of a store
pub length_environment : (store : List ℕ) → length (body_bytes (shape_of Environment store)) ≡ 8 + length (pair_bytes (environment_of store))
unfolding shape_of
length_environment store = rw (length_body, opaques_texts) (omega arith)

pairs_small : (store : List ℕ) → is_laid store ≡ true → length store ≤ 16384 → length (body_bytes (shape_of Environment store)) ≤ 32776
pairs_small store h k = rw length_environment (omega (arith, environment_size store h))

-- an address without its list has at most two words
pub address_short : (address : ℕ) → length (address_words address) ≤ 2
unfolding address_words
address_short address =
    by_test (λ (ws : List ℕ). length ws ≤ 2) (eqb address tcp_address) _ _ (λ _. omega arith) (λ _. omega arith)

pub body_small : (r : Reply) (image : List ℕ) → Sendable r image → length (body_bytes (shape_of r image)) ≤ 32776
unfolding shape_of Sendable
body_small (Header e) image s = few _ (omega arith)
body_small (Refused b e a) image s = few _ (simp (length-append, length-replicate) (omega (arith, s)))
body_small Plain image s = few _ (omega arith)
body_small Listening image s = few _ (omega arith)
body_small ListeningTcp image s = lent _ image (omega arith) s
body_small ConnectionTypes image s = few _ (omega arith)
body_small Challenge image s = lent _ image (omega arith) (omega (arith, s))
body_small (ServerInfo known) image s = server_small known _ (omega arith)
body_small ScsiState image s = few _ (omega arith)
body_small Cdb image s = two_texts _ [] [] (omega arith) (omega arith) (omega arith)
body_small (Sense n key code qualifier) image s = two_texts _ _ [] (omega arith) (simp length-take (omega (arith, s))) (omega arith)
body_small (Check key code qualifier) image s = two_texts _ [] _ (omega arith) (omega arith) (omega (arith, length_sense key code qualifier))
body_small Elements image s = two_texts _ image [] (omega arith) (omega (arith, s)) (omega arith)
body_small (TapeState file block) image s = few _ (omega arith)
body_small (Mtio e residue) image s = few _ (omega arith)
body_small (Wrote e count) image s = few _ (omega arith)
body_small (Read e start len) image s = one_text_lem _ _ (omega arith) (simp length-take (omega (arith, s.1)))
body_small (DataState v) image s = few _ (simp length-append (omega (arith, address_short v.address)))
body_small Environment image s = pairs_small image s.0 s.1
body_small (MoverState v) image s = few _ (omega (arith, address_short v.address))

-- "An unknown message's 1, and 18, stand in the header with no body": nothing of the image is sent
pub header_bare : (s t m e err : ℕ) (image : List ℕ) → reply_bytes s t m e (Header err) image ≡ reply_bytes s t m e (Header err) []
unfolding reply_bytes shape_of
header_bare s t m e err image = refl

-- ---- the largest answer with two notices
pub notice_short : (a : Notice) → length (notice_words a) ≤ 3
unfolding notice_words
notice_short (DataHalted reason) = omega arith
notice_short Connected = omega arith
notice_short (MoverHalted reason) = omega arith
notice_short (MoverPaused reason seek) = omega arith

notice_small : (s t : ℕ) (a : Notice) → length (notice_bytes s t a) ≤ 40
unfolding notice_bytes
notice_small s t a = simp (length_record, length_be32s) (omega (arith, notice_short a))

reply_small : (s t m e : ℕ) (r : Reply) (image : List ℕ) → Sendable r image → length (reply_bytes s t m e r image) ≤ 32804
unfolding reply_bytes
reply_small s t m e r image h = rw length_record (omega (arith, body_small r image h))

pub fit : AnswersFit
fit s t m e s' t' s'' t'' r image a b h =
    simp length-append (omega (arith, reply_small s t m e r image h, notice_small s' t' a, notice_small s'' t'' b))

pub environment_fits : EnvironmentFits
unfolding reply_bytes Sendable
environment_fits s t m e store h =
    (most_pairs store h.0, rw (length_record, length_environment) (omega (arith, environment_size store h.0, h.1)))

-- ---- refusals and accepted replies, message by message: both lists are computed
pub as_long : RefusalsAsLong
unfolding shape_of body_bytes opaques server_texts address_words be32s be32 opaque row_of look choose
    environment_of with_separator kept_pairs kept_from is_named separator_name separator texts_of word
as_long = record { every = refl; as_long = refl }

-- ---- what is told of addresses, byte for byte
pub addresses : AddressReplies
unfolding shape_of body_bytes opaques address_words be32s be32 choose
addresses =
    record {
      local_listening = refl;
      tcp_listening = refl;
      types = refl;
      local_data = refl;
      tcp_data = refl;
      local_mover = refl;
      tcp_mover = refl;
    }

-- ---- what is told of auth types, byte for byte; a challenge is what was lent, with nothing behind it
pub auth_types : AuthReplies
unfolding shape_of body_bytes opaques opaque server_texts be32s be32
auth_types =
    record {
      challenge = λ c. ap (λ (r : List ℕ). small 0 ++ small 2 ++ r) (append-nil c);
      refused = refl;
      info = refl;
      stranger = refl;
    }

-- ---- what execute CDB is answered, byte for byte
pub scsi_bodies : ScsiReplies
unfolding shape_of body_bytes opaques opaque sense be32s be32
scsi_bodies =
    record {
      nothing = refl;
      refused = refl;
      qualified = refl;
      told = refl;
      untold = refl;
      cut = refl;
      none_of_it = refl;
      elements = λ a b c d e. refl;
    }

-- ---- what is given of stores, byte for byte
pub environments : EnvironmentReplies
unfolding shape_of body_bytes opaques opaque be32s be32 choose word same_bytes is_laid laid_from environment_of with_separator kept_pairs kept_from is_named separator_name separator texts_of
environments =
    record {
      laid = refl;
      none_kept = refl;
      one_kept = refl;
      given = refl;
      cut_not_given = refl;
      long_not_given = refl;
      empty_kept = refl;
      two_kept = refl;
    }
