-- What holds over any sequence of calls (demand 2): requests, moves, the method's end, connections made and lost, in any order, with any image and any store handed to any of them,
-- and the number of the next message set to any between them, and the slot list to one that a host may set.
-- What is seen of each call is a value; a register, which is replayed from what was seen and from nothing else, says which window is in
-- force, what the counts are and what is read next from where; and each thing seen must fit the register.
use Rattle.std.specs.Prelude.{ℕ, ◌+◌, ◌-◌, ◌/◌, ◌%◌, ◌≤◌, ◌<◌, Bool, true, false, not, List, [], ◌∷◌, ◌≡◌, length, take, drop, eqb}
use Rattle.codes.specs.Codes.{local_address, tcp_address}
use Rattle.xdr.specs.Choose.{choose}
use Rattle.xdr.specs.Xdr.{overlay}
use Rattle.tape_image.specs.Image.{count, entry_len, entry_bytes}
use Rattle.tape_writing.specs.Writing.{written, fill_to}
use Rattle.wire_frame.specs.Frame.{well_framed, kind_of}
use Rattle.wire_requests.specs.declared.DataRequest.{DataRequest}
use Rattle.wire_requests.specs.declared.DataRequest.TheVariants as DataRequest
use Rattle.wire_requests.specs.declared.MoverRequest.{MoverRequest}
use Rattle.wire_requests.specs.declared.MoverRequest.TheVariants as MoverRequest
use Rattle.wire_requests.specs.declared.JointRequest.{JointRequest}
use Rattle.wire_requests.specs.declared.JointRequest.TheVariants as JointRequest
use Rattle.wire_requests.specs.declared.Request.{Request}
use Rattle.wire_requests.specs.declared.Request.TheVariants as Request
use Rattle.rules_parts.specs.declared.types.Data.{Data}
use Rattle.rules_parts.specs.declared.types.Mover.{Mover}
use Rattle.rules_parts.specs.declared.types.Session.{Session}
use Rattle.rules_parts.specs.Names.{mover_active, mover_paused}
use Rattle.rules.specs.Judge.{is_accepted}
use Rattle.rules_parts.specs.Parts.{changer_holds, with_parts, wrapped, window_end}
use Rattle.changer_elements.specs.Slots.{names_none_twice, in_drive}
use Rattle.rules.specs.Relation.{keeps, Legal}
use Rattle.rules.specs.Answer.{Kept, Lent, held, guarded, room_of, verdict, answered, request_in}
use Rattle.rules.specs.Order.{Call}
use Rattle.rules_moves.specs.Events.{Moving, moved_to_tape, moved_from_tape, method_ended, connection_made, connection_lost}

-- ---- the calls
pub data Event : Type 0 where
  Asked : Call → Event
  -- what is lent, and a stream part and whether it is the last; a destination; whether the method ended well
  ToTape : Lent → List ℕ → Bool → Event
  FromTape : Lent → List ℕ → Event
  Ended : Lent → Bool → Event
  -- 02 No. 14: what is lent; of the mover, or else of the data end, a connection was made, or lost
  Made : Lent → Bool → Event
  Lost : Lent → Bool → Event
  -- another image is handed to the calls that follow
  Inserted : List ℕ → Event
  -- the host sets the number of the next message, which is its own to set (include/mossgoblin.h)
  Renumbered : ℕ → Event
  -- another store is lent to the requests that follow
  StoreLent : List ℕ → Event
  -- the host sets the slot list, to what a call of another session left: "The slot list is one record, used by one session at a time"
  SlotsLent : List ℕ → Event

abbrev pub renumbered : ℕ → Session → Session
renumbered n s =
    record { closed = s.closed; first = s.first; login = s.login; sequence = n; source = s.source; mover = s.mover; tape = s.tape; changer = s.changer }

-- a list that a host may set: it names none twice, and while the tape is open the drive has the same cartridge. It sets no other (include/mossgoblin.h)
unfoldable pub may_lend : List ℕ → Session → Bool
may_lend slots s =
    choose (not (names_none_twice slots)) false
    (choose s.tape.opened (eqb (in_drive slots) (in_drive s.changer.slots))
    true)

unfoldable pub list_for : List ℕ → Session → List ℕ
list_for slots s = choose (may_lend slots s) slots s.changer.slots

abbrev pub with_list : List ℕ → Session → Session
with_list slots s = with_parts s s.login s.source s.mover s.tape (changer_holds (list_for slots s) s.changer)

unfoldable pub step : Event → Kept → Kept
step (Asked c) w = (answered w c.lent c.ask.request).next
step (ToTape l stream last) w = (moved_to_tape w l stream last).answer.next
step (FromTape l dest) w = (moved_from_tape w l dest).answer.next
step (Ended l ok) w = (method_ended w l ok).next
step (Made l mover) w = (connection_made w l mover).next
step (Lost l mover) w = (connection_lost w l mover).next
step (Inserted image) w = held w.session image w.variables
step (Renumbered n) w = held (renumbered n w.session) w.image w.variables
step (StoreLent variables) w = held w.session w.image variables
step (SlotsLent slots) w = held (with_list slots w.session) w.image w.variables

unfoldable pub runs : Kept → List Event → Kept
runs w [] = w
runs w (e ∷ es) = runs (step e w) es

-- ---- what is seen of a call
pub data Seen : Type 0 where
  -- set record size, set window, mover read, mover stop and data stop were accepted
  Sized : ℕ → Seen
  Windowed : ℕ → ℕ → Seen
  Sought : ℕ → ℕ → Seen
  MoverStopped : Seen
  DataStopped : Seen
  -- mover listen was accepted, by an address of a type
  Listened : ℕ → Seen
  -- mover connect was accepted, by an address of a type, with the tape at a position
  Joined : ℕ → ℕ → Seen
  -- the mover became ACTIVE, with the tape at a position: data connect by LOCAL or continue was accepted, or its connection was made
  Began : ℕ → Seen
  Paused : Seen
  -- a record of so many bytes was written, so many of them the stream's
  Wrote : ℕ → ℕ → Seen
  -- so many bytes were handed over
  Handed : ℕ → Seen
  Nothing : Seen

-- a request that is judged
unfoldable pub is_heard : Kept → Lent → List ℕ → Bool
is_heard k l r = guarded k.session (room_of k l) (λ _. false) (choose (well_framed r) (eqb (kind_of r) 0) false)

-- what an accepted request shows, with the tape at a position
unfoldable pub mover_asked : ℕ → MoverRequest → Seen
mover_asked position (MoverRequest.Size size) = Sized size
mover_asked position (MoverRequest.Window offset length) = Windowed offset length
mover_asked position (MoverRequest.Read offset length) = Sought offset length
mover_asked position MoverRequest.Continue = Began position
mover_asked position MoverRequest.Stop = MoverStopped
mover_asked position MoverRequest.State = Nothing
mover_asked position (MoverRequest.Listen mode address) = Listened address

unfoldable pub data_asked : DataRequest → Seen
data_asked DataRequest.Stop = DataStopped
data_asked DataRequest.State = Nothing
data_asked (DataRequest.Backup method pairs) = Nothing
data_asked (DataRequest.Recover method pairs) = Nothing
data_asked DataRequest.Environment = Nothing
data_asked (DataRequest.Listen address) = Nothing

unfoldable pub joint_asked : ℕ → JointRequest → Seen
joint_asked position (JointRequest.DataConnect address count) = choose (eqb address tcp_address) Nothing (Began position)
joint_asked position (JointRequest.MoverConnect mode address count) = Joined address position
joint_asked position JointRequest.DataAbort = Nothing
joint_asked position JointRequest.MoverAbort = Nothing
joint_asked position JointRequest.MoverClose = Nothing

unfoldable pub asked : Kept → Request → Seen
asked w (Request.Mover q) = mover_asked w.session.tape.position q
asked w (Request.Data q) = data_asked q
asked w (Request.Joint q) = joint_asked w.session.tape.position q
asked w (Request.Connect q) = Nothing
asked w (Request.Config q) = Nothing
asked w (Request.Scsi q) = Nothing
asked w (Request.Tape q) = Nothing
asked w Request.Unknown = Nothing
asked w Request.Bad = Nothing

-- a move: bytes, or a pause of a mover that was ACTIVE
unfoldable pub move_shown : Mover → Mover → ℕ → Seen → Seen
move_shown m next count what =
    choose (not (eqb count 0)) what
    (choose (not (eqb m.state mover_active)) Nothing
    (choose (eqb next.state mover_paused) Paused Nothing))

-- a connection that was made: a mover that was not ACTIVE and is
unfoldable pub made_shown : Mover → Mover → ℕ → Seen
made_shown m next position = choose (eqb m.state mover_active) Nothing (choose (eqb next.state mover_active) (Began position) Nothing)

abbrev pub to_tape_shown : Mover → Moving → Seen
to_tape_shown m e = move_shown m e.answer.next.session.mover e.count (Wrote m.size e.count)

abbrev pub from_tape_shown : Mover → Moving → Seen
from_tape_shown m e = move_shown m e.answer.next.session.mover e.count (Handed e.count)

unfoldable pub seen : Event → Kept → Seen
seen (Asked c) w =
    let r = c.ask.request in
    let q = request_in r in
    choose (is_heard w c.lent r) (choose (is_accepted (verdict w c.lent r q)) (asked w q) Nothing) Nothing
seen (ToTape l stream last) w = to_tape_shown w.session.mover (moved_to_tape w l stream last)
seen (FromTape l dest) w = from_tape_shown w.session.mover (moved_from_tape w l dest)
seen (Ended l ok) w = Nothing
seen (Made l mover) w = made_shown w.session.mover (connection_made w l mover).next.session.mover w.session.tape.position
seen (Lost l mover) w = Nothing
seen (Inserted image) w = Nothing
seen (Renumbered n) w = Nothing
seen (StoreLent variables) w = Nothing
seen (SlotsLent slots) w = Nothing

-- ---- the register: the record size, the window in force (of length 0 there is none), bytes moved and processed; the seek position and the
-- bytes left to read; the origin, the tape position that stands for the window's offset; and the type of the mover's address
pub record Register : Type 0 where
  pub size : ℕ
  pub address : ℕ
  pub offset : ℕ
  pub length : ℕ
  pub moved : ℕ
  pub processed : ℕ
  pub seek : ℕ
  pub left : ℕ
  pub origin : ℕ

abbrev pub parts_register : Data → Mover → Register
parts_register d m =
    record {
      size = m.size;
      address = m.address;
      offset = m.offset;
      length = m.length;
      moved = m.moved;
      processed = d.processed;
      seek = m.seek;
      left = m.left;
      origin = m.origin;
    }

abbrev pub register_of : Session → Register
register_of s = parts_register s.source s.mover

-- the register with another size; another window; other counts; another seek position and bytes left; another origin
abbrev pub with_size : ℕ → Register → Register
with_size n r =
    record { size = n; address = r.address; offset = r.offset; length = r.length; moved = r.moved; processed = r.processed; seek = r.seek; left = r.left; origin = r.origin }

abbrev pub with_window : ℕ → ℕ → Register → Register
with_window o n r =
    record { size = r.size; address = r.address; offset = o; length = n; moved = r.moved; processed = r.processed; seek = r.seek; left = r.left; origin = r.origin }

abbrev pub with_counts : ℕ → ℕ → Register → Register
with_counts moved processed r =
    record { size = r.size; address = r.address; offset = r.offset; length = r.length; moved = moved; processed = processed; seek = r.seek; left = r.left; origin = r.origin }

abbrev pub with_seek : ℕ → ℕ → Register → Register
with_seek seek left r =
    record { size = r.size; address = r.address; offset = r.offset; length = r.length; moved = r.moved; processed = r.processed; seek = seek; left = left; origin = r.origin }

abbrev pub with_origin : ℕ → Register → Register
with_origin position r =
    record { size = r.size; address = r.address; offset = r.offset; length = r.length; moved = r.moved; processed = r.processed; seek = r.seek; left = r.left; origin = position }

abbrev pub with_address : ℕ → Register → Register
with_address address r =
    record { size = r.size; address = address; offset = r.offset; length = r.length; moved = r.moved; processed = r.processed; seek = r.seek; left = r.left; origin = r.origin }

-- what the data end has processed after k bytes more of the stream: a mover joined by TCP has no data end
unfoldable pub processed_by : ℕ → ℕ → ℕ → ℕ
processed_by address processed k = choose (eqb address tcp_address) processed (wrapped (processed + k))

-- No window outlives a change of record size, a pause or a stop; only an accepted set window puts one in force. An accepted mover read sets
-- seek position and bytes left; bytes handed over are "added to seek position, taken off bytes left". "The tape position when the mover became
-- ACTIVE stands for the window's offset." "Bytes moved counts whole records to tape, bytes handed over from tape; the joined data end's
-- processed count is the same, but to tape it leaves the fill out." The address has the type of the accepted listen or connect, until stop.
unfoldable pub after : Register → Seen → Register
after r (Sized n) = with_window 0 0 (with_size n r)
after r (Windowed o n) = with_window o n r
after r (Sought o n) = with_seek o n r
after r MoverStopped = with_window 0 0 (with_counts 0 r.processed (with_seek 0 0 (with_origin 0 (with_address local_address r))))
after r DataStopped = with_counts r.moved 0 r
after r (Listened address) = with_address address r
after r (Joined address position) = with_address address (with_origin position r)
after r (Began position) = with_origin position r
after r Paused = with_window 0 0 r
after r (Wrote n k) = with_counts (wrapped (r.moved + n)) (processed_by r.address r.processed k) r
after r (Handed k) = with_counts (wrapped (r.moved + k)) (processed_by r.address r.processed k) (with_seek (r.seek + k) (r.left - k) r)
after r Nothing = r

-- ---- what is allowed
-- A record is written: there is a window; the record has the size in force, and some of its bytes are the stream's; its bytes, which stand on
-- the stream from the bytes moved on, lie in the window.
pub record WroteInside (r : Register) (n k : ℕ) : Type 0 where
  pub window : r.length ≡ 0 → ⊥
  pub exact : n ≡ r.size
  pub some : 1 ≤ k
  pub part : k ≤ n
  pub from : r.offset ≤ r.moved
  pub to : r.moved + n ≤ window_end r.offset r.length

-- the record that the seek position is in: so many entries after the one at the origin; and the place in it
abbrev pub entry_sought : Register → ℕ
entry_sought r = r.origin + (r.seek - r.offset) / r.size

abbrev pub place_sought : Register → ℕ
place_sought r = (r.seek - r.offset) % r.size

-- Bytes are handed over, from the seek position on: they are asked for, there is a window, they lie in it, and in one of its records.
pub record HandedInside (r : Register) (k : ℕ) : Type 0 where
  pub window : r.length ≡ 0 → ⊥
  pub some : 1 ≤ k
  pub asked : k ≤ r.left
  pub part : place_sought r + k ≤ r.size
  pub from : r.offset ≤ r.seek
  pub to : r.seek + k ≤ window_end r.offset r.length

abbrev pub FitsRegister : Register → Seen → Type 0
FitsRegister r (Wrote n k) = WroteInside r n k
FitsRegister r (Handed k) = HandedInside r k
FitsRegister r (Sized n) = Unit {0}
FitsRegister r (Windowed o n) = Unit {0}
FitsRegister r (Sought o n) = Unit {0}
FitsRegister r MoverStopped = Unit {0}
FitsRegister r DataStopped = Unit {0}
FitsRegister r (Listened address) = Unit {0}
FitsRegister r (Joined address position) = Unit {0}
FitsRegister r (Began position) = Unit {0}
FitsRegister r Paused = Unit {0}
FitsRegister r Nothing = Unit {0}

-- a window in force is one that set window accepts for the record size in force: its offset is a multiple of it, and so is its length unless
-- that is all ones
abbrev pub Legitimate : Register → Type 0
Legitimate r = (r.length ≡ 0 → ⊥) → Legal r.size r.offset r.length

-- ---- what a move leaves, and a number that is set: nothing but what was seen of it
unfoldable pub image_after : Seen → List ℕ → ℕ → List ℕ → List ℕ
image_after (Wrote n k) l position stream = written l position (fill_to (take k stream) n)
image_after (Handed k) l position stream = l
image_after (Sized n) l position stream = l
image_after (Windowed o n) l position stream = l
image_after (Sought o n) l position stream = l
image_after MoverStopped l position stream = l
image_after DataStopped l position stream = l
image_after (Listened address) l position stream = l
image_after (Joined address at) l position stream = l
image_after (Began at) l position stream = l
image_after Paused l position stream = l
image_after Nothing l position stream = l

unfoldable pub dest_after : Seen → Register → List ℕ → List ℕ → List ℕ
dest_after (Handed k) r l b = overlay 0 (take k (drop (place_sought r) (entry_bytes l (entry_sought r)))) b
dest_after (Wrote n k) r l b = b
dest_after (Sized n) r l b = b
dest_after (Windowed o n) r l b = b
dest_after (Sought o n) r l b = b
dest_after MoverStopped r l b = b
dest_after DataStopped r l b = b
dest_after (Listened address) r l b = b
dest_after (Joined address position) r l b = b
dest_after (Began position) r l b = b
dest_after Paused r l b = b
dest_after Nothing r l b = b

unfoldable pub count_of : Seen → ℕ
count_of (Wrote n k) = k
count_of (Handed k) = k
count_of (Sized n) = 0
count_of (Windowed o n) = 0
count_of (Sought o n) = 0
count_of MoverStopped = 0
count_of DataStopped = 0
count_of (Listened address) = 0
count_of (Joined address position) = 0
count_of (Began position) = 0
count_of Paused = 0
count_of Nothing = 0

pub record ToTapeLeaves (w : Kept) (stream : List ℕ) (e : Moving) : Type 0 where
  pub image : e.answer.next.image ≡ image_after (to_tape_shown w.session.mover e) w.image w.session.tape.position stream
  pub taken : e.count ≡ count_of (to_tape_shown w.session.mover e)
  pub there : e.count ≤ length stream

-- what is handed over is of one of the n entries, a record that has the record size; and the tape stands after it
pub record HandedFrom (r : Register) (l : List ℕ) (position : ℕ) : Type 0 where
  pub below : entry_sought r < count l
  pub exact : entry_len l (entry_sought r) ≡ r.size
  pub stands : position ≡ entry_sought r + 1

pub record FromTapeLeaves (r : Register) (w : Kept) (dest : List ℕ) (e : Moving) : Type 0 where
  pub dest_end : e.dest ≡ dest_after (from_tape_shown w.session.mover e) r w.image dest
  pub handed : e.count ≡ count_of (from_tape_shown w.session.mover e)
  pub room : e.count ≤ length dest
  pub source : (e.count ≡ 0 → ⊥) → HandedFrom r w.image e.answer.next.session.tape.position
  pub image : e.answer.next.image ≡ w.image

-- the next message has that number, and all else is as it was
pub record RenumberedLeaves (n : ℕ) (w v : Kept) : Type 0 where
  pub number : v.session.sequence ≡ n
  pub closed : v.session.closed ≡ w.session.closed
  pub first : v.session.first ≡ w.session.first
  pub login : v.session.login ≡ w.session.login
  pub source : v.session.source ≡ w.session.source
  pub mover : v.session.mover ≡ w.session.mover
  pub tape : v.session.tape ≡ w.session.tape
  pub changer : v.session.changer ≡ w.session.changer
  pub image : v.image ≡ w.image
  pub variables : v.variables ≡ w.variables

-- the slot list is that one, where it may be set, and all else is as it was
pub record LentLeaves (slots : List ℕ) (w v : Kept) : Type 0 where
  pub set : names_none_twice slots ≡ true → (w.session.tape.opened ≡ true → in_drive slots ≡ in_drive w.session.changer.slots)
      → v.session.changer.slots ≡ slots
  pub twice : names_none_twice slots ≡ false → v.session.changer.slots ≡ w.session.changer.slots
  pub drive : w.session.tape.opened ≡ true → (in_drive slots ≡ in_drive w.session.changer.slots → ⊥)
      → v.session.changer.slots ≡ w.session.changer.slots
  pub closed : v.session.closed ≡ w.session.closed
  pub first : v.session.first ≡ w.session.first
  pub login : v.session.login ≡ w.session.login
  pub number : v.session.sequence ≡ w.session.sequence
  pub source : v.session.source ≡ w.session.source
  pub mover : v.session.mover ≡ w.session.mover
  pub tape : v.session.tape ≡ w.session.tape
  pub opened : v.session.changer.opened ≡ w.session.changer.opened
  pub pending : (v.session.changer.key ≡ w.session.changer.key) × (v.session.changer.code ≡ w.session.changer.code)
      × (v.session.changer.qualifier ≡ w.session.changer.qualifier)
  pub image : v.image ≡ w.image
  pub variables : v.variables ≡ w.variables

abbrev pub Leaves : Register → Kept → Event → Type 0
Leaves r w (ToTape l stream last) = ToTapeLeaves w stream (moved_to_tape w l stream last)
Leaves r w (FromTape l dest) = FromTapeLeaves r w dest (moved_from_tape w l dest)
Leaves r w (Ended l ok) = (method_ended w l ok).next.image ≡ w.image
Leaves r w (Made l mover) = (connection_made w l mover).next.image ≡ w.image
Leaves r w (Lost l mover) = (connection_lost w l mover).next.image ≡ w.image
Leaves r w (Asked c) = Unit {0}
Leaves r w (Inserted image) = Unit {0}
Leaves r w (Renumbered n) = RenumberedLeaves n w (step (Renumbered n) w)
Leaves r w (StoreLent variables) = Unit {0}
Leaves r w (SlotsLent slots) = LentLeaves slots w (step (SlotsLent slots) w)

-- ---- the theorem: at every call of the list the register is the session's, its window is legitimate, and what is seen fits it and is all
-- that the call did
pub record At (r : Register) (w : Kept) (e : Event) : Type 0 where
  pub register : register_of w.session ≡ r
  pub window : Legitimate r
  pub fits : FitsRegister r (seen e w)
  pub leaves : Leaves r w e

pub data Inside : Register → Kept → List Event → Type 0 where
  finished : {r : Register} {w : Kept} → register_of w.session ≡ r → Inside r w []
  more : {r : Register} {w : Kept} {e : Event} {es : List Event} → At r w e → Inside (after r (seen e w)) (step e w) es → Inside r w (e ∷ es)

abbrev pub WindowHolds : Type 0
WindowHolds = (w : Kept) → keeps w.session ≡ true → (es : List Event) → Inside (register_of w.session) w es
