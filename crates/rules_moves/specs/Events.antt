-- The calls without a request ("events" in paper 01): a move to tape, a move from tape, the method's end, a connection made and one lost. What each gives,
-- for any session.
use Rattle.std.specs.Prelude.{ℕ, Bool, false, List, []}
use Rattle.wire_replies.specs.declared.Notice.TheVariants as Notice
use Rattle.rules_parts.specs.Parts.{with_parts}
use Rattle.rules.specs.Answer.{Kept, Lent, held, Answered, silent, guarded, halting, noticed}
use Rattle.rules_moves.specs.declared.Move.{Move}
use Rattle.rules_moves.specs.Moves.{to_tape, from_tape, method_end, made_at, lost_at}

-- what is lent with these calls: a time stamp and the length of the output. No accounts, challenge, list or store is lent with a move, and none is looked
-- at: the store stays
abbrev pub stamped : ℕ → ℕ → Lent
stamped time room = record { accounts = []; challenge = []; time = time; room = room; addresses = []; made = false }

-- the code, the notices and what is passed on; the bytes taken or handed over; the destination
pub record Moving : Type 0 where
  pub answer : Answered
  pub count : ℕ
  pub dest : List ℕ

-- nothing is sent and nothing changes
abbrev pub idling : ℕ → Kept → List ℕ → Moving
idling code k dest = record { answer = silent code k; count = 0; dest = dest }

-- a move's parts put back, with the image after it. "Every halt and pause sends its notice, in moves too; mover paused carries the kept seek
-- position." "data first, mover second"
abbrev pub announced : Kept → Lent → Move → List ℕ → Answered
announced k l mv image =
    let s = k.session in
    noticed l.time mv.pause (Notice.MoverPaused mv.pause mv.mover.seek)
    (halting l.time mv.dwhy mv.mwhy (silent 0 (held (with_parts s s.login mv.source mv.mover mv.tape s.changer) image k.variables)))

abbrev pub moved : Kept → Lent → Move → List ℕ → List ℕ → Moving
moved k l mv image dest = record { answer = announced k l mv image; count = mv.count; dest = dest }

-- a move to tape that is not refused. There is no destination.
abbrev pub feeding : Kept → Lent → List ℕ → Bool → Moving
feeding k l stream last =
    let s = k.session in
    let st = to_tape s.source s.mover s.tape k.image stream last in
    moved k l st.gives st.image []

-- a move from tape that is not refused: the image is only read
abbrev pub handing : Kept → Lent → List ℕ → Moving
handing k l dest =
    let s = k.session in
    let st = from_tape s.source s.mover s.tape k.image dest in
    moved k l st.move k.image st.dest

-- a method's end that is not refused: it is handed no image, and leaves it
abbrev pub finishing : Kept → Lent → Bool → Answered
finishing k l ok =
    let s = k.session in
    announced k l (method_end ok s.source s.mover s.tape) k.image

-- the calls: what is passed on, what is lent, and the stream part and whether it is the last, or the destination, or whether the method ended well
unfoldable pub moved_to_tape : Kept → Lent → List ℕ → Bool → Moving
moved_to_tape k l stream last = guarded k.session l.room (λ code. idling code k []) (feeding k l stream last)

unfoldable pub moved_from_tape : Kept → Lent → List ℕ → Moving
moved_from_tape k l dest = guarded k.session l.room (λ code. idling code k dest) (handing k l dest)

unfoldable pub method_ended : Kept → Lent → Bool → Answered
method_ended k l ok = guarded k.session l.room (λ code. silent code k) (finishing k l ok)

-- a connection that was made or lost, of the mover or else of the data end; no image is handed to these
abbrev pub joining : Kept → Lent → Bool → Answered
joining k l mover =
    let s = k.session in
    announced k l (made_at mover s.source s.mover s.tape) k.image

abbrev pub losing : Kept → Lent → Bool → Answered
losing k l mover =
    let s = k.session in
    announced k l (lost_at mover s.source s.mover s.tape) k.image

unfoldable pub connection_made : Kept → Lent → Bool → Answered
connection_made k l mover = guarded k.session l.room (λ code. silent code k) (joining k l mover)

unfoldable pub connection_lost : Kept → Lent → Bool → Answered
connection_lost k l mover = guarded k.session l.room (λ code. silent code k) (losing k l mover)
