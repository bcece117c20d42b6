-- The relation of a session (docs/RELATION.md): what every call keeps, and a call refuses with 1002 where it is broken.
use Rattle.std.specs.Prelude.{ℕ, ◌+◌, ◌%◌, ◌≤◌, Bool, true, false, not, List, ◌≡◌, eqb, ltb}
use Rattle.xdr.specs.Choose.{choose}
use Rattle.changer_elements.specs.Slots.{names_none_twice, in_drive}
use Rattle.rules_parts.specs.declared.types.Data.{Data}
use Rattle.rules_parts.specs.declared.types.Mover.{Mover}
use Rattle.rules_parts.specs.declared.types.Tape.{Tape}
use Rattle.rules_parts.specs.declared.types.Session.{Session}
use Rattle.rules_parts.specs.Names.{data_idle, data_connected, mover_idle, mover_listening, mover_active, mover_paused, mover_halted, to_tape_mode, largest_size, top, endless}
use Rattle.rules_parts.specs.Parts.{data_partnered, mover_partnered, address_wrong, holds_tape, unwritable, is_past_top, window_end, length_wrong}

-- ---- each is true where something is wrong
-- a state that is none; an address type that is none, or TCP in IDLE
unfoldable pub data_wrong : Data → Bool
data_wrong d = choose (ltb data_connected d.state) true (address_wrong d.address (eqb d.state data_idle))

-- numbers of the mover that no rule can use: a state, a record size, an address type, a seek position whose bytes left pass 2^64 - 1
unfoldable pub numbers_wrong : Mover → Bool
numbers_wrong m =
    choose (ltb mover_halted m.state) true
    (choose (ltb largest_size m.size) true
    (choose (address_wrong m.address (eqb m.state mover_idle)) true
    (is_past_top m.seek m.left)))

-- a window in force that set window would not have accepted
unfoldable pub window_wrong : ℕ → ℕ → ℕ → Bool
window_wrong size offset length =
    choose (eqb length 0) false
    (choose (eqb size 0) true
    (choose (not (eqb (offset % size) 0)) true
    (length_wrong size offset length)))

-- before the first byte nothing has been moved: IDLE and LISTEN
unfoldable pub start_wrong : Mover → Bool
start_wrong m = choose (ltb mover_listening m.state) false (not (eqb m.moved 0))

-- LISTEN and ACTIVE: a window is in force, and the tape is open, for writing where the mode is 0
unfoldable pub hold_wrong : Mover → Tape → Bool
hold_wrong m t =
    choose (holds_tape m.state)
    (choose (eqb m.length 0) true
    (choose (not t.opened) true
    (unwritable m.mode t.writable)))
    false

-- where mode 0 is on the stream: LISTEN begins at 0, ACTIVE is at a record's bound within the window, PAUSED is at the start of the
-- window that was set since, if one was
unfoldable pub strays : ℕ → ℕ → ℕ → ℕ → Bool
strays size offset length moved =
    choose (eqb size 0) true
    (choose (ltb moved offset) true
    (choose (ltb (window_end offset length) moved) true
    (not (eqb (moved % size) 0))))

unfoldable pub resume_wrong : ℕ → ℕ → ℕ → Bool
resume_wrong length offset moved = choose (eqb length 0) false (not (eqb offset moved))

unfoldable pub place_wrong : Mover → Bool
place_wrong m =
    choose (not (eqb m.mode to_tape_mode)) false
    (choose (eqb m.state mover_listening) (not (eqb m.offset 0))
    (choose (eqb m.state mover_active) (strays m.size m.offset m.length m.moved)
    (choose (eqb m.state mover_paused) (resume_wrong m.length m.offset m.moved)
    false)))

-- ACTIVE: the tape stands where it did when the mover became ACTIVE, or after it
unfoldable pub origin_wrong : Mover → Tape → Bool
origin_wrong m t = choose (eqb m.state mover_active) (ltb t.position m.origin) false

unfoldable pub mover_wrong : Mover → Tape → Bool
mover_wrong m t =
    choose (numbers_wrong m) true
    (choose (window_wrong m.size m.offset m.length) true
    (choose (start_wrong m) true
    (choose (hold_wrong m t) true
    (choose (place_wrong m) true
    (origin_wrong m t)))))

-- "Data is CONNECTED or ACTIVE exactly when the mover is ACTIVE or PAUSED": of ends that are so by LOCAL
unfoldable pub same_flag : Bool → Bool → Bool
same_flag true b = b
same_flag false b = not b

-- 02 No. 7: a tape that is open has a cartridge in the drive
unfoldable pub drive_wrong : ℕ → Tape → Bool
drive_wrong drive t = choose t.opened (eqb drive 0) false

-- and a slot list "names none twice (else 1002)"
unfoldable pub slots_wrong : List ℕ → Tape → Bool
slots_wrong slots t = choose (drive_wrong (in_drive slots) t) true (not (names_none_twice slots))

unfoldable pub keeps : Session → Bool
keeps s =
    choose (data_wrong s.source) false
    (choose (mover_wrong s.mover s.tape) false
    (choose (slots_wrong s.changer.slots s.tape) false
    (same_flag (data_partnered s.source) (mover_partnered s.mover))))

-- ---- the same in words, as facts: what `mover_wrong m t ≡ false` says
pub record Legal (size offset length : ℕ) : Type 0 where
  pub some : 1 ≤ size
  pub offsets : offset % size ≡ 0
  pub lengths : (length ≡ endless → ⊥) → length % size ≡ 0
  pub starts : offset ≤ window_end offset length
  pub fits : window_end offset length ≤ top

pub record Held (m : Mover) (t : Tape) : Type 0 where
  pub window : m.length ≡ 0 → ⊥
  pub opened : t.opened ≡ true
  pub writes : m.mode ≡ to_tape_mode → t.writable ≡ true

pub record InWindow (size offset length moved : ℕ) : Type 0 where
  pub some : 1 ≤ size
  pub from : offset ≤ moved
  pub to : moved ≤ window_end offset length
  pub records : moved % size ≡ 0

pub record MoverKept (m : Mover) (t : Tape) : Type 0 where
  pub states : m.state ≤ mover_halted
  pub sizes : m.size ≤ largest_size
  pub types : address_wrong m.address (eqb m.state mover_idle) ≡ false
  pub seeks : m.seek + m.left ≤ top
  pub window : (m.length ≡ 0 → ⊥) → Legal m.size m.offset m.length
  pub start : m.state ≤ mover_listening → m.moved ≡ 0
  pub hold : holds_tape m.state ≡ true → Held m t
  pub listens : m.mode ≡ to_tape_mode → m.state ≡ mover_listening → m.offset ≡ 0
  pub runs : m.mode ≡ to_tape_mode → m.state ≡ mover_active → InWindow m.size m.offset m.length m.moved
  pub resumes : m.mode ≡ to_tape_mode → m.state ≡ mover_paused → (m.length ≡ 0 → ⊥) → m.offset ≡ m.moved
  pub origins : m.state ≡ mover_active → m.origin ≤ t.position
