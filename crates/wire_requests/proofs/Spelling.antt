-- A body that decodes to its end is what its fields are written as, or it stands apart. Assumes nothing.
use Prim.Native.Nat.{ℕ}
use mathlib.Core.Bool.{Bool, true, false}
use mathlib.Core.Path.{◌≡◌, refl, sym, ap, ◌∙◌}
use mathlib.Core.List.{List}
use mathlib.Core.Logic.{⊎_elim}
use lib.Dec.{eqb}
use borrow.Author.Tests.{eqb-true, eqb-false}
use Rattle.codes.specs.Codes.{local_address, tcp_address}
use Rattle.xdr.specs.Xdr as xdr
use Rattle.wire_frame.specs.declared.ConnectKind.TheVariants as ConnectKind
use Rattle.wire_frame.specs.declared.ConfigKind.TheVariants as ConfigKind
use Rattle.wire_frame.specs.declared.ScsiKind.TheVariants as ScsiKind
use Rattle.wire_frame.specs.declared.TapeKind.TheVariants as TapeKind
use Rattle.wire_frame.specs.declared.DataKind.TheVariants as DataKind
use Rattle.wire_frame.specs.declared.MoverKind.TheVariants as MoverKind
use Rattle.wire_frame.specs.declared.JointKind.TheVariants as JointKind
use Rattle.wire_frame.specs.declared.Message.{Message}
use Rattle.wire_layouts.specs.Layout.{Read, whole, before, broken, read_fields}
use Rattle.wire_layouts.specs.Laws.{Bytes, Stops}
use Rattle.wire_layouts.specs.AddressLists.{is_tcp}
use Rattle.wire_layouts.proofs.AddressTypes.{type_judged}
use Rattle.wire_layouts.proofs.Spelling.{spelled}
use Rattle.wire_layouts.proofs.Unread.{unread_rests}
use Rattle.wire_layouts.proofs.Within.{broken_kept}
use Rattle.wire_requests.specs.Bodies.{listen_fields, connect_fields, layout_of, request_of, or_bad, decoded}
use Rattle.wire_requests.specs.RoundTrip.{Known, NoType, Apart, Spelling, to_its_end, rest_unread, RequestsOneSpelling}
use Rattle.wire_requests.specs.declared.Request.TheVariants.{Bad}
use Rattle.wire_requests.proofs.Laws.{by_layout}

-- a body that stops at the tag of its address: TCP's tag is of a word that is TCP's, and is passed; of LOCAL's the word is neither
module _ (b : List ℕ) (at : ℕ) where
  by_type : (t : Bool) → is_tcp b at ≡ t → eqb (xdr.word b at) tcp_address ≡ t
  by_type t e = sym (type_judged b at) ∙ e

  never_tcp : is_tcp b at ≡ true → (xdr.word b at ≡ tcp_address → ⊥) → NoType (xdr.word b at)
  never_tcp e h = absurd (h (eqb-true _ _ (by_type true e)))

  neither : is_tcp b at ≡ false → (xdr.word b at ≡ local_address → ⊥) → NoType (xdr.word b at)
  neither e h = (h, eqb-false _ _ (by_type false e))

  listen_apart : (t : Bool) → is_tcp b at ≡ t → Stops (listen_fields t) b at → NoType (xdr.word b at)
  listen_apart true e s = ⊎_elim (never_tcp e) absurd s
  listen_apart false e s = ⊎_elim (neither e) absurd s

  connect_apart : (t : Bool) → is_tcp b at ≡ t → Stops (connect_fields t) b at → NoType (xdr.word b at)
  connect_apart true e s = ⊎_elim (never_tcp e) absurd s
  connect_apart false e s = ⊎_elim (neither e) absurd s

-- the messages that have a rest which may be unread
apart : (m : Message) (b : List ℕ) → Stops (layout_of m b) b 0 → Apart m b
apart (Message.Connect ConnectKind.Open) b s = absurd s
apart (Message.Connect ConnectKind.Auth) b s = ⊎_elim (λ h. h) absurd s
apart (Message.Connect ConnectKind.Close) b s = absurd s
apart (Message.Config ConfigKind.ConnectionType) b s = absurd s
apart (Message.Config ConfigKind.AuthAttributes) b s = ⊎_elim (λ h. h) absurd s
apart (Message.Config ConfigKind.ServerInfo) b s = absurd s
apart (Message.Scsi ScsiKind.Open) b s = absurd s
apart (Message.Scsi ScsiKind.Close) b s = absurd s
apart (Message.Scsi ScsiKind.State) b s = absurd s
apart (Message.Scsi ScsiKind.Reset) b s = absurd s
apart (Message.Scsi ScsiKind.Cdb) b s = absurd s
apart (Message.Tape TapeKind.Open) b s = absurd s
apart (Message.Tape TapeKind.Close) b s = absurd s
apart (Message.Tape TapeKind.State) b s = absurd s
apart (Message.Tape TapeKind.Mtio) b s = absurd s
apart (Message.Tape TapeKind.Write) b s = absurd s
apart (Message.Tape TapeKind.Read) b s = absurd s
apart (Message.Data DataKind.State) b s = absurd s
apart (Message.Data DataKind.Backup) b s = absurd s
apart (Message.Data DataKind.Recover) b s = absurd s
apart (Message.Data DataKind.Environment) b s = absurd s
apart (Message.Data DataKind.Stop) b s = absurd s
apart (Message.Data DataKind.Listen) b s = listen_apart b 0 (is_tcp b 0) refl s
apart (Message.Mover MoverKind.State) b s = absurd s
apart (Message.Mover MoverKind.Listen) b s = listen_apart b 4 (is_tcp b 4) refl s
apart (Message.Mover MoverKind.Continue) b s = absurd s
apart (Message.Mover MoverKind.Stop) b s = absurd s
apart (Message.Mover MoverKind.Window) b s = absurd s
apart (Message.Mover MoverKind.Read) b s = absurd s
apart (Message.Mover MoverKind.Size) b s = absurd s
apart (Message.Joint JointKind.DataAbort) b s = absurd s
apart (Message.Joint JointKind.DataConnect) b s = connect_apart b 0 (is_tcp b 0) refl s
apart (Message.Joint JointKind.MoverAbort) b s = absurd s
apart (Message.Joint JointKind.MoverClose) b s = absurd s
apart (Message.Joint JointKind.MoverConnect) b s = connect_apart b 4 (is_tcp b 4) refl s
apart Message.Unknown b s = absurd s

spelling : (m : Message) (b : List ℕ) → Known m → Bytes b → (decoded m b ≡ Bad → ⊥) → (r : Read) → read_fields (layout_of m b) b 0 ≡ r → Spelling m b
spelling m b h k n (whole ws) e = to_its_end ws e (spelled (layout_of m b) b ws k e)
spelling m b h k n (before ws) e = rest_unread (apart m b (unread_rests (layout_of m b) b ws e))
spelling m b h k n broken e = absurd (n (by_layout m b h ∙ ap (or_bad (request_of m)) (broken_kept (layout_of m b) b e)))

pub requests_spelled : RequestsOneSpelling
requests_spelled m h b k n = spelling m b h k n (read_fields (layout_of m b) b 0) refl
