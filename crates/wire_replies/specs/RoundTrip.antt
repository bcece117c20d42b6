-- What is sent is read back: a body's words and texts, a record's frame and header, and so every reply and every notice.
use Rattle.std.specs.Prelude.{ℕ, ◌+◌, ◌*◌, ◌^◌, ◌≤◌, ◌<◌, true, ◌≡◌, List, [], ◌∷◌, length, take, drop, get_or, Some}
use Rattle.codes.specs.Codes.{largest_message}
use Rattle.xdr.specs.Xdr.{word, be32s}
use Rattle.xdr_opaque.specs.Put.{opaque}
use Rattle.xdr_opaque.specs.Opaque.{opaque_at}
use Rattle.wire_frame.specs.Frame.{well_framed, record_bytes}
use Rattle.wire_replies.specs.declared.Reply.{Reply}
use Rattle.wire_replies.specs.declared.Notice.{Notice}
use Rattle.wire_replies.specs.Replies.{Body, body_bytes, shape_of, header_error, reply_bytes, notice_number, notice_words, notice_bytes}
use Rattle.wire_replies.specs.Fit.{Sendable}

-- each of the numbers fits a word, and so does each text's length
unfoldable pub Words32 : List ℕ → Type 0
Words32 [] = Unit
Words32 (w ∷ ws) = (w < 2 ^ 32) × Words32 ws

unfoldable pub Texts32 : List (List ℕ) → Type 0
Texts32 [] = Unit
Texts32 (t ∷ ts) = (length t < 2 ^ 32) × Texts32 ts

-- the words that stand one after another from an offset on
abbrev pub WordsAt : List ℕ → ℕ → List ℕ → Type 0
WordsAt l at ws = (i : ℕ) → i < length ws → word l (at + 4 * i) ≡ get_or ws i 0

-- a text as the reader finds it at an offset, whole and with its end; and its bytes
pub record TextAt (l : List ℕ) (at : ℕ) (t : List ℕ) (next : ℕ) : Type 0 where
  pub found : Some (record { start = at + 4; len = length t; next = next }) ≡ opaque_at l at
  pub bytes : take (length t) (drop (at + 4) l) ≡ t

-- texts that are found one after another, each where the one before it ends, and words after the last
unfoldable pub TextsAt : List ℕ → ℕ → List (List ℕ) → List ℕ → Type 0
TextsAt l at [] tail = WordsAt l at tail
TextsAt l at (t ∷ ts) tail = TextAt l at t (at + length (opaque t)) × TextsAt l (at + length (opaque t)) ts tail

-- a body as it is read from its front: its words, then its lent bytes, then its texts, then the words after them
pub record BodyAt (l : List ℕ) (b : Body) : Type 0 where
  pub words : WordsAt l 0 b.words
  pub raw : take (length b.raw) (drop (4 * length b.words) l) ≡ b.raw
  pub rest : TextsAt l (4 * length b.words + length b.raw) b.texts b.tail

-- a record as it is read: its frame is whole, its six header words are these, and what follows byte 28 is this
pub record RecordAt (l : List ℕ) (sequence time kind message echo error : ℕ) (body : List ℕ) : Type 0 where
  pub framed : well_framed l ≡ true
  pub sequence_back : word l 4 ≡ sequence
  pub time_back : word l 8 ≡ time
  pub kind_back : word l 12 ≡ kind
  pub message_back : word l 16 ≡ message
  pub echo_back : word l 20 ≡ echo
  pub error_back : word l 24 ≡ error
  pub body_back : drop 28 l ≡ body

-- any body and any record whose numbers fit their words; and so each reply that can be sent, and each notice
pub record RepliesBack : Type 0 where
  pub bodies : (b : Body) → Words32 b.words → Texts32 b.texts → Words32 b.tail → BodyAt (body_bytes b) b
  pub records : (sequence time kind message echo error : ℕ) (body : List ℕ)
      → Words32 (sequence ∷ time ∷ kind ∷ message ∷ echo ∷ error ∷ []) → 24 + length body ≤ largest_message
      → RecordAt (record_bytes sequence time kind message echo error body) sequence time kind message echo error body
  pub replies : (sequence time message echo : ℕ) (r : Reply) (image : List ℕ) → Sendable r image
      → Words32 (sequence ∷ time ∷ 1 ∷ message ∷ echo ∷ header_error r ∷ []) → Words32 (shape_of r image).words → Words32 (shape_of r image).tail
      → RecordAt (reply_bytes sequence time message echo r image) sequence time 1 message echo (header_error r) (body_bytes (shape_of r image))
      × BodyAt (body_bytes (shape_of r image)) (shape_of r image)
  pub notices : (sequence time : ℕ) (n : Notice) → Words32 (sequence ∷ time ∷ []) → Words32 (notice_words n)
      → RecordAt (notice_bytes sequence time n) sequence time 0 (notice_number n) 0 0 (be32s (notice_words n))
      × WordsAt (be32s (notice_words n)) 0 (notice_words n)
