-- A first record size (paper 02, No. 9): "The first value becomes 10,240 and a window may follow at once." "26 for record size 0 is never given
-- afterwards, which the team proves for any sequence from a fresh session; a size 0 handed in still gets it." It is said by the bytes of the
-- reply, and of the session by its fields.
use Rattle.std.specs.Prelude.{ℕ, ◌≤◌, true, false, List, [], ◌∷◌, ◌≡◌}
use Rattle.codes.specs.Codes.{precondition, broken_session}
use Rattle.wire_frame.specs.Frame.{message_word}
use Rattle.wire_requests.specs.declared.MoverRequest.TheVariants as MoverRequest
use Rattle.wire_requests.specs.declared.JointRequest.TheVariants as JointRequest
use Rattle.wire_requests.specs.declared.Request.{Request}
use Rattle.wire_requests.specs.declared.Request.TheVariants as Request
use Rattle.wire_replies.specs.Numbers.{number_in}
use Rattle.rules_parts.specs.declared.types.Mover.{Mover}
use Rattle.rules_parts.specs.declared.types.Session.{Session}
use Rattle.rules_parts.specs.Names.{mover_idle, to_tape_mode, largest_size}
use Rattle.rules_parts.specs.Parts.{with_parts, mover_size, unwritable}
use Rattle.rules.specs.MoverService.{busy}
use Rattle.rules.specs.Relation.{keeps}
use Rattle.rules.specs.Answer.{Kept, Lent, held, Answered, answered, replying, request_in, refused_in}
use Rattle.rules.specs.Order.{is_one_of}
use Rattle.rules.specs.Calls.{opening, Heard}
use Rattle.rules.specs.Login.{authorized}
use Rattle.rules_moves.specs.Sequence.{Event, runs}

-- ---- from a fresh session
-- what is passed on after `open`, whatever it is lent, and any calls, with any image and store handed in first
abbrev pub after_open : List ℕ → ℕ → ℕ → List ℕ → List ℕ → List Event → Kept
after_open slots time room image variables es = runs (held (opening slots time room).next.session image variables) es

-- mover listen, continue, set window and mover connect: the requests of which a reply can have the number 26
abbrev pub asking_window : List ℕ
asking_window = 0xA01 ∷ 0xA02 ∷ 0xA05 ∷ 0xA09 ∷ []

-- the error word of a reply whose body begins with it
abbrev pub error_told : Answered → ℕ
error_told a = number_in 0 a.reply

-- what 26 at listen and connect says, other than that there is no record size: "26 if .. window is unset, or mode 0 with offset not 0"
pub data Unready (m : Mover) (mode : ℕ) : Type 0 where
  no_window : m.length ≡ 0 → Unready m mode
  inside : mode ≡ to_tape_mode → (m.offset ≡ 0 → ⊥) → Unready m mode

-- the causes of 26 that are left. Set window has none
pub data Cause (m : Mover) : Request → Type 0 where
  at_listen : (mode address : ℕ) → Unready m mode → Cause m (Request.Mover (MoverRequest.Listen mode address))
  at_connect : (mode address count : ℕ) → Unready m mode → Cause m (Request.Joint (JointRequest.MoverConnect mode address count))
  at_continue : m.length ≡ 0 → Cause m (Request.Mover MoverRequest.Continue)

-- ---- a record size 0 that is handed in
-- the session with it, and so with no window
abbrev pub unsized : Session → Session
unsized s = with_parts s s.login s.source (mover_size 0 s.mover) s.tape s.changer

-- a request on it, of a client that has logged in
pub record Unsized (k : Kept) (l : Lent) (r : List ℕ) : Type 0 where
  pub heard : Heard k l r
  pub known : authorized k ≡ true
  pub size : k.session.mover.size ≡ 0

-- what listen and connect ask before the record size: an open tape, the mover in IDLE, and not mode 0 with a tape that is open read-only
pub record MayJoin (s : Session) (mode : ℕ) : Type 0 where
  pub opened : s.tape.opened ≡ true
  pub idle : s.mover.state ≡ mover_idle
  pub writes : unwritable mode s.tape.writable ≡ false

-- 26, and nothing else changes than at any refusal
abbrev pub Gets26 : Kept → Lent → List ℕ → Type 0
Gets26 k l r = answered k l r ≡ replying r l.time (refused_in r precondition) [] k

pub record HandedIn : Type 0 where
  -- it keeps the relation in IDLE, so that no call is refused with 1002
  pub kept : (s : Session) → keeps s ≡ true → s.mover.state ≡ mover_idle → keeps (unsized s) ≡ true
  pub never : (s : Session) → keeps s ≡ true → s.mover.state ≡ mover_idle → (image variables : List ℕ) (l : Lent) (r : List ℕ)
      → (answered (held (unsized s) image variables) l r).code ≡ broken_session → ⊥
  pub window : (k : Kept) (l : Lent) (r : List ℕ) (offset length : ℕ) → Unsized k l r → request_in r ≡ Request.Mover (MoverRequest.Window offset length)
      → busy k.session.mover.state ≡ false → Gets26 k l r
  pub listen : (k : Kept) (l : Lent) (r : List ℕ) (mode address : ℕ) → Unsized k l r → request_in r ≡ Request.Mover (MoverRequest.Listen mode address)
      → MayJoin k.session mode → Gets26 k l r
  pub connect : (k : Kept) (l : Lent) (r : List ℕ) (mode address count : ℕ) → Unsized k l r
      → request_in r ≡ Request.Joint (JointRequest.MoverConnect mode address count) → MayJoin k.session mode → Gets26 k l r

pub record FirstSize : Type 0 where
  pub first : (slots : List ℕ) (time room : ℕ) → (opening slots time room).next.session.mover.size ≡ 10240
  -- after any calls the record size is one that set record size accepts
  pub some : (slots : List ℕ) (time room : ℕ) (image variables : List ℕ) (es : List Event) → 1 ≤ (after_open slots time room image variables es).session.mover.size
  pub most : (slots : List ℕ) (time room : ℕ) (image variables : List ℕ) (es : List Event) → (after_open slots time room image variables es).session.mover.size ≤ largest_size
  -- and where a reply to one of those requests has the number 26, there is another cause
  pub causes : (slots : List ℕ) (time room : ℕ) (image variables : List ℕ) (es : List Event) (l : Lent) (r : List ℕ) → is_one_of asking_window (message_word r) ≡ true
      → let k = after_open slots time room image variables es in error_told (answered k l r) ≡ precondition → Cause k.session.mover (request_in r)
  -- so that no set window has it
  pub windows : (slots : List ℕ) (time room : ℕ) (image variables : List ℕ) (es : List Event) (l : Lent) (r : List ℕ) → message_word r ≡ 0xA05
      → error_told (answered (after_open slots time room image variables es) l r) ≡ precondition → ⊥
  pub handed_in : HandedIn
