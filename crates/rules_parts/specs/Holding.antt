-- What a change of a part leaves of it. The promises of requests (`Promises` of rules) are over these.
use Rattle.std.specs.Prelude.{◌≡◌, ℕ, ◌+◌, ◌-◌, ◌<◌, ◌≤◌, Bool, true, false, List, ◌≢◌}
use Rattle.codes.specs.Codes.{local_address, tcp_address}
use Rattle.rules_parts.specs.declared.types.Data.{Data}
use Rattle.rules_parts.specs.declared.types.Mover.{Mover}
use Rattle.rules_parts.specs.declared.types.Changer.{Changer}
use Rattle.rules_parts.specs.declared.types.Login.{Login}
use Rattle.rules_parts.specs.Names.{top, endless}
use Rattle.rules_parts.specs.Parts.{new_session, clear_changer, changer_refused, changer_holds, logged_in, challenged_by, rest_data, data_to, data_starts, data_halts, data_fed, rest_mover, mover_listens, mover_runs, mover_pauses, mover_halts, mover_window}
use Rattle.rules_parts.specs.Parts.{mover_size, mover_seeks, mover_records, mover_hands, window_end, length_wrong, data_joined, mover_joined, data_partnered, mover_partnered, address_wrong}

-- what has a type of address, and what keeps it
pub record SourceTypes : Type 0 where
  pub rests : rest_data.address ≡ local_address
  pub goes : (state address : ℕ) (d : Data) → (data_to state address d).address ≡ address
  pub starts : (operation : ℕ) (d : Data) → (data_starts operation d).address ≡ d.address
  pub halts : (why : ℕ) (d : Data) → (data_halts why d).address ≡ d.address
  pub fed : (n : ℕ) (d : Data) → (data_fed n d).address ≡ d.address

pub record MoverTypes : Type 0 where
  pub rests : (size : ℕ) → (rest_mover size).address ≡ local_address
  pub listens : (mode address : ℕ) (m : Mover) → (mover_listens mode address m).address ≡ address
  pub runs : (mode address position : ℕ) (m : Mover) → (mover_runs mode address position m).address ≡ address
  pub pauses : (why : ℕ) (m : Mover) → (mover_pauses why m).address ≡ m.address
  pub halts : (why : ℕ) (m : Mover) → (mover_halts why m).address ≡ m.address
  pub windowed : (offset length : ℕ) (m : Mover) → (mover_window offset length m).address ≡ m.address
  pub sized : (size : ℕ) (m : Mover) → (mover_size size m).address ≡ m.address
  pub seeks : (seek left : ℕ) (m : Mover) → (mover_seeks seek left m).address ≡ m.address
  pub records : (m : Mover) → (mover_records m).address ≡ m.address
  pub hands : (n : ℕ) (m : Mover) → (mover_hands n m).address ≡ m.address

-- 02 No. 7: what keeps the slot list, and what changes nothing else: "Both keep the pending sense when they succeed"
pub record ChangerKeeps : Type 0 where
  pub begun : (closed : Bool) (n : ℕ) (slots : List ℕ) → (new_session closed n slots).changer.slots ≡ slots
  pub cleared : (opened : Bool) (c : Changer) → (clear_changer opened c).slots ≡ c.slots
  pub refused : (key code qualifier : ℕ) (c : Changer) → (changer_refused key code qualifier c).slots ≡ c.slots
  pub held : (slots : List ℕ) (c : Changer) → (changer_holds slots c).slots ≡ slots
  pub pending : (slots : List ℕ) (c : Changer) →
      ((changer_holds slots c).key ≡ c.key) × ((changer_holds slots c).code ≡ c.code) × ((changer_holds slots c).qualifier ≡ c.qualifier)
  pub opened : (slots : List ℕ) (c : Changer) → (changer_holds slots c).opened ≡ c.opened

pub record PartsHold : Type 0 where
  -- "A pause voids the window."
  pub paused : (why : ℕ) (m : Mover) → ((mover_pauses why m).offset ≡ 0) × ((mover_pauses why m).length ≡ 0)
  -- "an accepted call voids the window, also with the same size"
  pub resized : (size : ℕ) (m : Mover) → ((mover_size size m).size ≡ size) × ((mover_size size m).offset ≡ 0) × ((mover_size size m).length ≡ 0)
  -- "all variables of its own end reset but the record size"
  pub stopped : (size : ℕ) → (rest_mover size).size ≡ size
  -- "It sets seek position and bytes left."
  pub sought : (seek left : ℕ) (m : Mover) → ((mover_seeks seek left m).seek ≡ seek) × ((mover_seeks seek left m).left ≡ left)
  -- "handed over, added to seek position, taken off bytes left"
  pub handed : (n : ℕ) (m : Mover) → ((mover_hands n m).seek ≡ m.seek + n) × ((mover_hands n m).left ≡ m.left - n)
  -- "the tape position when the mover became ACTIVE stands for the window's offset"
  pub began : (mode address position : ℕ) (m : Mover) → (mover_runs mode address position m).origin ≡ position
  -- 02 No. 14: an end has a type by its listen or connect, "until stop"
  pub source_types : SourceTypes
  pub mover_types : MoverTypes
  -- the types are 0 and 1
  pub addresses : (useless : Bool)
      → (address_wrong 0 useless ≡ false) × (address_wrong 1 useless ≡ useless) × ((n : ℕ) → 1 < n → address_wrong n useless ≡ true)
  -- 02 No. 14: "01's rules on joined ends .. hold for LOCAL only"
  pub source_alone_lem : (d : Data) → d.address ≡ tcp_address → data_partnered d ≡ false
  pub mover_alone_lem : (m : Mover) → m.address ≡ tcp_address → mover_partnered m ≡ false
  pub source_joined : (d : Data) → d.address ≡ local_address → data_partnered d ≡ data_joined d.state
  pub mover_joined_lem : (m : Mover) → m.address ≡ local_address → mover_partnered m ≡ mover_joined m.state
  -- 02 No. 1: "a window from the offset up to stream position 2^64 - 1, itself outside, whatever the record size"; every other as before
  pub ends : (offset : ℕ) → window_end offset endless ≡ top
  pub others : (offset length : ℕ) → (length ≢ endless) → window_end offset length ≡ offset + length
  -- 02 No. 2: "4 if no challenge was given": a new session is nobody's, and holds none; a login keeps the challenge, and a challenge the login
  pub begun : (closed : Bool) (n : ℕ) (slots : List ℕ) → ((new_session closed n slots).login.authorized ≡ false) × ((new_session closed n slots).login.challenged ≡ false)
  pub entered : (g : Login) → ((logged_in g).authorized ≡ true) × ((logged_in g).challenged ≡ g.challenged) × ((logged_in g).challenge ≡ g.challenge)
  pub given : (c : List ℕ) (g : Login)
      → ((challenged_by c g).authorized ≡ g.authorized) × ((challenged_by c g).challenged ≡ true) × ((challenged_by c g).challenge ≡ c)
  pub changer : ChangerKeeps
  -- "9 no longer tests this length or its sum"
  pub untested : (size offset : ℕ) → offset ≤ top → length_wrong size offset endless ≡ false
