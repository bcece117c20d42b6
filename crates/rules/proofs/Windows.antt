-- The rules of windows, and what holds of every request. Assumes nothing.
use Prim.Native.Nat.{ℕ}
use mathlib.Core.Bool.{Bool}
use mathlib.Core.Path.{◌≡◌, refl}
use lib.Dec.{eqb}
use Rattle.xdr.specs.Choose.{choose}
use Rattle.xdr.proofs.Tests.{by_test}
use Rattle.rules_parts.specs.declared.types.Data.{Data}
use Rattle.rules_parts.specs.declared.types.Mover.{Mover}
use Rattle.rules_parts.specs.declared.types.Tape.{Tape}
use Rattle.rules.specs.declared.Ends.{Ends}
use Rattle.rules.specs.Judge.{Accepts}
use Rattle.rules_parts.specs.Parts.{rest_mover, mover_runs, mover_size, mover_seeks}
use Rattle.rules.specs.MoverService.{mover_continue, mover_stop, mover_read, set_size}
use Rattle.rules.specs.Joint.{joined, data_connect, mover_connect}
use Rattle.rules.specs.Promises.{Stopped, Promises}
use Rattle.rules.proofs.JudgeLaws.{accepts}
use Rattle.rules.proofs.Endless.{endless_rules}
use Rattle.rules.proofs.Tcp.{tcp_rules}
use Rattle.rules.proofs.Environment.{environment_rules}
use Rattle.rules.proofs.ChangerRules.{changer_rules}
use Rattle.rules.proofs.Kept.{mover_kept}
use Rattle.rules.proofs.Keeping.{data_keeps, tape_keeps, mover_part_keeps, joint_keeps}

resized : (m : Mover) (size : ℕ) → Accepts (λ _ next. (next.length ≡ 0) × (next.offset ≡ 0) × (next.size ≡ size)) (set_size m size)
unfolding set_size
resized m size = accepts (λ _ (next : Mover). (next.length ≡ 0) × (next.offset ≡ 0) × (next.size ≡ size)) _ _ (mover_size size m) (λ _. (refl, refl, refl))

-- a mover at rest with its record size is what a stop leaves
rests : (m : Mover) → Stopped m (rest_mover m.size)
rests m =
    record {
      idle = refl;
      size = refl;
      mode = refl;
      window = (refl, refl);
      moved = refl;
      reads = (refl, refl, refl);
      reasons = (refl, refl);
    }

stopped : (m : Mover) → Accepts (λ _ next. Stopped m next) (mover_stop m)
unfolding mover_stop
stopped m = accepts (λ _ (next : Mover). Stopped m next) _ _ (rest_mover m.size) (λ _. rests m)

-- ---- what a recover goes by
sought : (m : Mover) (offset length : ℕ) → Accepts (λ _ next. (next.seek ≡ offset) × (next.left ≡ length)) (mover_read m offset length)
unfolding mover_read
sought m offset length = accepts (λ _ (next : Mover). (next.seek ≡ offset) × (next.left ≡ length)) _ _ (mover_seeks offset length m) (λ _. (refl, refl))

continued : (m : Mover) (t : Tape) → Accepts (λ _ next. next.origin ≡ t.position) (mover_continue m t)
unfolding mover_continue
continued m t = accepts (λ _ (next : Mover). next.origin ≡ t.position) _ _ (mover_runs m.mode m.address t.position m) (λ _. refl)

module _ (d : Data) (m : Mover) (t : Tape) where
  source_connected : (count : ℕ) (made : Bool) → Accepts (λ _ next. next.mover.origin ≡ t.position) (data_connect d m t 0 count made)
  unfolding data_connect choose
  source_connected count made = accepts (λ _ (next : Ends). next.mover.origin ≡ t.position) _ _ (joined d m m.mode t.position) (λ _. refl)

  mover_connected : (mode address count : ℕ) (made : Bool) → Accepts (λ _ next. next.mover.origin ≡ t.position) (mover_connect d m t mode address count made)
  unfolding mover_connect
  mover_connected mode address count made =
      accepts (λ _ (next : Ends). next.mover.origin ≡ t.position) _ _ _
      (λ _. by_test (λ (next : Ends). next.mover.origin ≡ t.position) (eqb address 1) _ _ (λ _. refl) (λ _. refl))

pub promises : Promises
promises =
    record {
      relation = record { source = data_keeps; tape = tape_keeps; mover = mover_part_keeps; joint = joint_keeps };
      windows = record { resized = resized; paused = λ why m. (refl, refl); stopped = stopped; legal = λ m t h. (mover_kept m t h).window };
      reads = record {
        sought = sought;
        handed = λ n m. (refl, refl);
        continued = continued;
        source_connected = source_connected;
        mover_connected = mover_connected;
      };
      endless = endless_rules;
      tcp = tcp_rules;
      environment = environment_rules;
      changer = changer_rules;
    }
