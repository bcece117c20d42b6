-- What holds of every request, for any session.
use Rattle.std.specs.Prelude.{ℕ, ◌+◌, ◌-◌, Bool, true, false, List, ◌≡◌}
use Rattle.codes.specs.Codes.{local_address}
use Rattle.wire_requests.specs.declared.DataRequest.{DataRequest}
use Rattle.wire_requests.specs.declared.MoverRequest.{MoverRequest}
use Rattle.wire_requests.specs.declared.TapeRequest.{TapeRequest}
use Rattle.wire_requests.specs.declared.JointRequest.{JointRequest}
use Rattle.rules_parts.specs.declared.types.Data.{Data}
use Rattle.rules_parts.specs.declared.types.Mover.{Mover}
use Rattle.rules_parts.specs.declared.types.Tape.{Tape}
use Rattle.rules_parts.specs.Names.{mover_idle, no_mode}
use Rattle.rules.specs.Judge.{Accepts}
use Rattle.rules_parts.specs.Parts.{data_partnered, mover_partnered, mover_pauses, mover_hands}
use Rattle.rules.specs.DataService.{data_step}
use Rattle.rules.specs.MoverService.{mover_continue, mover_stop, mover_read, set_size}
use Rattle.rules.specs.TapeService.{TapePart, tape_step, mover_part_step}
use Rattle.rules.specs.declared.Ends.{Ends}
use Rattle.rules.specs.Joint.{data_connect, mover_connect, joint_step}
use Rattle.rules.specs.Relation.{data_wrong, mover_wrong, same_flag, Legal}
use Rattle.rules.specs.Endless.{EndlessRules}
use Rattle.rules.specs.Tcp.{TcpRules}
use Rattle.rules.specs.Environment.{EnvironmentRules}
use Rattle.rules.specs.Changer.{ChangerRules}

-- a step keeps what its part owes by itself, and what the other parts see of it
pub record Keeps {A : Type 0} (wrong side : A → Bool) (p : A) (next : A) : Type 0 where
  pub good : wrong p ≡ false → wrong next ≡ false
  pub sides : side next ≡ side p

abbrev pub data_side : Data → Bool
data_side d = data_partnered d

abbrev pub part_wrong : TapePart → Bool
part_wrong p = mover_wrong p.mover p.tape

abbrev pub part_side : TapePart → Bool
part_side p = mover_partnered p.mover

pub record JointKeeps (t : Tape) (next : Ends) : Type 0 where
  pub source : data_wrong next.source ≡ false
  pub mover : mover_wrong next.mover t ≡ false
  pub joined : same_flag (data_partnered next.source) (mover_partnered next.mover) ≡ true

-- every accepted request keeps the relation; a refused one leaves its part, by type
pub record RelationKept : Type 0 where
  pub source : (d : Data) (q : DataRequest) (body list variables : List ℕ)
      → Accepts (λ _ next. Keeps data_wrong data_side d next) (data_step d q body list variables)
  pub tape : (drive : ℕ) (p : TapePart) (q : TapeRequest) (body : List ℕ) → Accepts (λ _ next. Keeps part_wrong part_side p next) (tape_step drive p q body)
  pub mover : (p : TapePart) (q : MoverRequest) (list : List ℕ) → Accepts (λ _ next. Keeps part_wrong part_side p next) (mover_part_step p q list)
  pub joint : (d : Data) (m : Mover) (t : Tape) → data_wrong d ≡ false → mover_wrong m t ≡ false
      → same_flag (data_partnered d) (mover_partnered m) ≡ true → (q : JointRequest) (made : Bool) → Accepts (λ _ next. JointKeeps t next) (joint_step d m t q made)

-- "Stop: HALTED to IDLE, all variables of its own end reset but the record size."
pub record Stopped (m next : Mover) : Type 0 where
  pub idle : next.state ≡ mover_idle
  pub size : next.size ≡ m.size
  pub mode : next.mode ≡ no_mode
  pub window : (next.offset ≡ 0) × (next.length ≡ 0)
  pub moved : next.moved ≡ 0
  pub reads : (next.seek ≡ 0) × (next.left ≡ 0) × (next.origin ≡ 0)
  pub reasons : (next.pause ≡ 0) × (next.halt ≡ 0)

-- no window outlives a change of record size or a pause; stop keeps the record size and resets the rest; a window in force is a
-- multiple of the record size in offset and, but for the length all ones, in length, and ends at 2^64 - 1 at the most
pub record WindowRules : Type 0 where
  pub resized : (m : Mover) (size : ℕ) → Accepts (λ _ next. (next.length ≡ 0) × (next.offset ≡ 0) × (next.size ≡ size)) (set_size m size)
  pub paused : (why : ℕ) (m : Mover) → ((mover_pauses why m).length ≡ 0) × ((mover_pauses why m).offset ≡ 0)
  pub stopped : (m : Mover) → Accepts (λ _ next. Stopped m next) (mover_stop m)
  pub legal : (m : Mover) (t : Tape) → mover_wrong m t ≡ false → (m.length ≡ 0 → ⊥) → Legal m.size m.offset m.length

-- what a recover goes by. "It sets seek position and bytes left"; what is handed over is "added to seek position, taken off bytes left"; "the tape
-- position when the mover became ACTIVE stands for the window's offset"
pub record ReadRules : Type 0 where
  pub sought : (m : Mover) (offset length : ℕ) → Accepts (λ _ next. (next.seek ≡ offset) × (next.left ≡ length)) (mover_read m offset length)
  pub handed : (n : ℕ) (m : Mover) → ((mover_hands n m).seek ≡ m.seek + n) × ((mover_hands n m).left ≡ m.left - n)
  pub continued : (m : Mover) (t : Tape) → Accepts (λ _ next. next.origin ≡ t.position) (mover_continue m t)
  -- by LOCAL; a data connect by TCP leaves the mover, see `TcpRules`
  pub source_connected : (d : Data) (m : Mover) (t : Tape) (count : ℕ) (made : Bool)
      → Accepts (λ _ next. next.mover.origin ≡ t.position) (data_connect d m t local_address count made)
  pub mover_connected : (d : Data) (m : Mover) (t : Tape) (mode address count : ℕ) (made : Bool)
      → Accepts (λ _ next. next.mover.origin ≡ t.position) (mover_connect d m t mode address count made)

pub record Promises : Type 0 where
  pub relation : RelationKept
  pub windows : WindowRules
  pub reads : ReadRules
  pub endless : EndlessRules
  pub tcp : TcpRules
  pub environment : EnvironmentRules
  pub changer : ChangerRules
