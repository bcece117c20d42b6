-- Two cartridges that answer a spacing call alike (paper 02, No. 4), of the whole call: what is sent, and what is passed on. It is said by the session's
-- position before and after the call, and not by the definitions of spacing, so that these are held against it.
use Rattle.std.specs.Prelude.{ℕ, List, ◌≡◌}
use Rattle.codes.specs.Codes.{write_marks}
use Rattle.tape_image.specs.Image.{count}
use Rattle.tape_image.specs.Sound.{Sound}
use Rattle.tape_spacing.specs.Spacing.{goes_forward}
use Rattle.tape_spacing.specs.Alike.{AgreeInKind}
use Rattle.wire_requests.specs.declared.TapeRequest.TheVariants as TapeRequest
use Rattle.wire_requests.specs.declared.Request.TheVariants as Request
use Rattle.rules_parts.specs.declared.types.Session.{Session}
use Rattle.rules.specs.Answer.{Lent, held, Answered, answered, request_in}

-- the same is told and the same session is passed on; each cartridge is as it was, and the store
pub record SameAnswer (l m v : List ℕ) (a b : Answered) : Type 0 where
  pub code : a.code ≡ b.code
  pub reply : a.reply ≡ b.reply
  pub notices : a.notices ≡ b.notices
  pub session : a.next.session ≡ b.next.session
  pub first_image : a.next.image ≡ l
  pub second_image : b.next.image ≡ m
  pub stores : (a.next.variables ≡ v) × (b.next.variables ≡ v)

-- "two sound images of one n answer the same call alike if the entries passed agree in kind": every MTIO but that of
-- marks; REW and 6 pass none. Any session, any record that is such a request, well framed or not, and whatever is lent: a
-- call that is refused passes no entry, and then nothing is asked of them
abbrev pub SpacesAlike : Type 0
SpacesAlike =
    (s : Session) (l m v : List ℕ) (lent : Lent) (r : List ℕ) (op times : ℕ) → Sound l → Sound m → count l ≡ count m
    → request_in r ≡ Request.Tape (TapeRequest.Mtio op times) → (op ≡ write_marks → ⊥)
    → AgreeInKind (goes_forward op) s.tape.position (answered (held s l v) lent r).next.session.tape.position l m
    → SameAnswer l m v (answered (held s l v) lent r) (answered (held s m v) lent r)
