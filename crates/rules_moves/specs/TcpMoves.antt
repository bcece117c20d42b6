-- 02 No. 14: what the moves and the events come to, of an end by TCP; said by what is given, for any ends, tape and cartridge.
use Rattle.std.specs.Prelude.{ℕ, Bool, true, false, List, ◌≡◌, length}
use Rattle.codes.specs.Codes.{tcp_address}
use Rattle.tape_image.specs.Image.{entry_len, faulty}
use Rattle.rules_parts.specs.declared.types.Data.{Data}
use Rattle.rules_parts.specs.declared.types.Mover.{Mover}
use Rattle.rules_parts.specs.declared.types.Tape.{Tape}
use Rattle.rules_parts.specs.Names.{data_active, data_listening, mover_active, mover_listening, to_tape_mode, from_tape_mode}
use Rattle.rules_parts.specs.Names.{data_successful, data_internal_error, data_connect_error, mover_connect_closed, mover_media_error}
use Rattle.rules_parts.specs.Parts.{data_halts, data_joined, mover_halts, mover_joined}
use Rattle.rules.specs.Joint.{source_joined, mover_joins}
use Rattle.rules_moves.specs.declared.Move.{Move}
use Rattle.rules_moves.specs.Moves.{still, stream_ends, to_tape, reading, from_tape, method_end, made_at, lost_at}

-- no bytes, no pause
pub record Quiet (r : Move) : Type 0 where
  pub count : r.count ≡ 0
  pub pause : r.pause ≡ 0

-- one end is halted for a reason, and tells it; the other is as it was, and has no notice
pub record MoverDown (why : ℕ) (d : Data) (m : Mover) (t : Tape) (r : Move) : Type 0 where
  pub source : r.source ≡ d
  pub mover : r.mover ≡ mover_halts why m
  pub tape : r.tape ≡ t
  pub mwhy : r.mwhy ≡ why
  pub dwhy : r.dwhy ≡ 0
  pub quiet : Quiet r

pub record SourceDown (why : ℕ) (d : Data) (m : Mover) (t : Tape) (r : Move) : Type 0 where
  pub source : r.source ≡ data_halts why d
  pub mover : r.mover ≡ m
  pub tape : r.tape ≡ t
  pub dwhy : r.dwhy ≡ why
  pub mwhy : r.mwhy ≡ 0
  pub quiet : Quiet r

-- both ends, and no notice
pub record NowAre (d : Data) (m : Mover) (t : Tape) (r : Move) : Type 0 where
  pub source : r.source ≡ d
  pub mover : r.mover ≡ m
  pub tape : r.tape ≡ t
  pub dwhy : r.dwhy ≡ 0
  pub mwhy : r.mwhy ≡ 0
  pub quiet : Quiet r

-- two moves that differ at most in the data end
pub record SameMove (r q : Move) : Type 0 where
  pub mover : r.mover ≡ q.mover
  pub tape : r.tape ≡ q.tape
  pub count : r.count ≡ q.count
  pub pause : r.pause ≡ q.pause
  pub mwhy : r.mwhy ≡ q.mwhy
  pub dwhy : r.dwhy ≡ q.dwhy

-- "a move asks only that the mover be ACTIVE in its mode", and "any halt is of one end"
pub record TcpMoving : Type 0 where
  -- whatever the data end is, the move is the same
  pub to_asks : (d c : Data) (m : Mover) (t : Tape) (l s : List ℕ) (last : Bool) → m.address ≡ tcp_address
      → SameMove (to_tape d m t l s last).gives (to_tape c m t l s last).gives × ((to_tape d m t l s last).image ≡ (to_tape c m t l s last).image)
  pub from_asks : (d c : Data) (m : Mover) (t : Tape) (l b : List ℕ) → m.address ≡ tcp_address
      → SameMove (from_tape d m t l b).move (from_tape c m t l b).move × ((from_tape d m t l b).dest ≡ (from_tape c m t l b).dest)
  -- a fault of the cartridge, the end of the stream, a record of another length
  pub to_faults : (d : Data) (m : Mover) (t : Tape) (l s : List ℕ) (last : Bool) → m.address ≡ tcp_address → m.state ≡ mover_active
      → m.mode ≡ to_tape_mode → faulty l t.position ≡ true → MoverDown mover_media_error d m t (to_tape d m t l s last).gives
  pub to_ends : (d : Data) (m : Mover) (t : Tape) (l s : List ℕ) (last : Bool) → m.address ≡ tcp_address → m.state ≡ mover_active
      → m.mode ≡ to_tape_mode → faulty l t.position ≡ false → stream_ends last (length s) ≡ true
      → MoverDown mover_connect_closed d m t (to_tape d m t l s last).gives
  pub from_faults : (d : Data) (m : Mover) (t : Tape) (l b : List ℕ) → m.address ≡ tcp_address → m.state ≡ mover_active
      → m.mode ≡ from_tape_mode → faulty l t.position ≡ true → MoverDown mover_media_error d m t (from_tape d m t l b).move
  pub other_length : (i : ℕ) (d : Data) (m : Mover) (t : Tape) (l b : List ℕ) → m.address ≡ tcp_address → (entry_len l i ≡ m.size → ⊥)
      → MoverDown mover_media_error d m t (reading i d m t l b).move
  -- the method's end, of a data end by TCP
  pub succeeds : (d : Data) (m : Mover) (t : Tape) → d.address ≡ tcp_address → d.state ≡ data_active
      → SourceDown data_successful d m t (method_end true d m t)
  pub fails : (d : Data) (m : Mover) (t : Tape) → d.address ≡ tcp_address → d.state ≡ data_active
      → SourceDown data_internal_error d m t (method_end false d m t)

-- "events naming an end report made where it listens by TCP, lost where it is joined so; elsewhere they do nothing. Made joins as a connect does, lost
-- halts as the partner's abort"
pub record TcpEvents : Type 0 where
  pub mover_made : (d : Data) (m : Mover) (t : Tape) → m.address ≡ tcp_address → m.state ≡ mover_listening
      → NowAre d (mover_joins d m m.mode t.position).mover t (made_at true d m t)
  pub source_made : (d : Data) (m : Mover) (t : Tape) → d.address ≡ tcp_address → d.state ≡ data_listening
      → NowAre (source_joined d m).source m t (made_at false d m t)
  pub mover_unmade : (d : Data) (m : Mover) (t : Tape) → (m.address ≡ tcp_address → m.state ≡ mover_listening → ⊥) → made_at true d m t ≡ still d m t
  pub source_unmade : (d : Data) (m : Mover) (t : Tape) → (d.address ≡ tcp_address → d.state ≡ data_listening → ⊥) → made_at false d m t ≡ still d m t
  pub mover_lost : (d : Data) (m : Mover) (t : Tape) → m.address ≡ tcp_address → mover_joined m.state ≡ true
      → MoverDown mover_connect_closed d m t (lost_at true d m t)
  pub source_lost : (d : Data) (m : Mover) (t : Tape) → d.address ≡ tcp_address → data_joined d.state ≡ true
      → SourceDown data_connect_error d m t (lost_at false d m t)
  pub mover_unlost : (d : Data) (m : Mover) (t : Tape) → (m.address ≡ tcp_address → mover_joined m.state ≡ true → ⊥) → lost_at true d m t ≡ still d m t
  pub source_unlost : (d : Data) (m : Mover) (t : Tape) → (d.address ≡ tcp_address → data_joined d.state ≡ true → ⊥) → lost_at false d m t ≡ still d m t

pub record TcpMoves : Type 0 where
  pub moving : TcpMoving
  pub events : TcpEvents
