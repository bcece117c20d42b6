-- Which service a message number belongs to: by the table of messages, row by row, and by the ranges. Assumes nothing.
use Prim.Native.Nat.{ℕ, ◌+◌, ◌*◌, ◌/◌, ◌≤◌}
use mathlib.Core.Bool.{Bool, true, false}
use mathlib.Core.List.{List, [], ◌∷◌}
use mathlib.Core.Path.{◌≡◌, refl, sym, ap, ◌∙◌}
use native.Mathlib.Omega.{arith}
use lib.Dec.{eqb, leb}
use borrow.Author.Tests.{eqb-true, eqb-false, le-leb, lt-leb, leb-true}
use Rattle.xdr.specs.Choose.{choose}
use Rattle.xdr.proofs.Tests.{by_test}
use Rattle.xdr_opaque.specs.Put.{Each}
use Rattle.wire_frame.specs.Messages.{Line, is, look, table, row_of, message_of}
use Rattle.wire_frame.specs.declared.Row.{Row}
use Rattle.wire_frame.specs.Frame.{message_word, body_of}
use Rattle.wire_requests.specs.declared.ScsiRequest.TheVariants as ScsiRequest
use Rattle.wire_requests.specs.declared.Request.{Request}
use Rattle.wire_requests.specs.declared.Request.TheVariants as Request
use Rattle.rules.specs.ScsiService.{moves_medium}
use Rattle.rules.specs.Answer.{request_in}
use Rattle.rules.specs.Order.{Service, DataService, TapeService, ScsiService, JointService, ControlService, range_of, service_of}
use Rattle.rules.specs.Order.{service_number, same_service, joint_numbers, is_one_of, within, service_by, is_move, route_of, IsMoveMedium, ServicesAre}

-- ---- a range by its bounds is a range by its high byte
module _ (n k : ℕ) where
  in_range : (b : Bool) → eqb (n / 256) k ≡ b → within (k * 256) (k * 256 + 255) n ≡ b
  unfolding within choose
  in_range true h =
      let z : n / 256 ≡ k = eqb-true (n / 256) k h in
      let low : k * 256 ≤ n = omega arith in
      let high : n ≤ k * 256 + 255 = omega arith in
      rw (le-leb (k * 256) n low, le-leb n (k * 256 + 255) high)
  in_range false h =
      let z : n / 256 ≡ k → ⊥ = eqb-false (n / 256) k h in
      by_test (λ (b : Bool). b ≡ false) (leb (k * 256) n) _ _ (λ e. beyond z (leb-true (k * 256) n e)) (λ _. refl)
    where
      beyond : (n / 256 ≡ k → ⊥) → k * 256 ≤ n → leb n (k * 256 + 255) ≡ false
      beyond z low = lt-leb n (k * 256 + 255) (omega arith)

  range_is : within (k * 256) (k * 256 + 255) n ≡ eqb (n / 256) k
  range_is = in_range (eqb (n / 256) k) refl

-- ---- a service by its number
service_at : ℕ → Service
service_at n = choose (eqb n 0) DataService (choose (eqb n 1) TapeService (choose (eqb n 2) ScsiService (choose (eqb n 3) JointService ControlService)))

service_back : (d : Service) → service_at (service_number d) ≡ d
unfolding service_at service_number choose
service_back DataService = refl
service_back TapeService = refl
service_back ScsiService = refl
service_back JointService = refl
service_back ControlService = refl

same_service_lem : (d e : Service) → same_service d e ≡ true → d ≡ e
unfolding same_service
same_service_lem d e h = sym (service_back d) ∙ ap service_at (eqb-true (service_number d) (service_number e) h) ∙ service_back e

-- ---- the table: every row that is not joint belongs to its range, computed
abbrev right_line : Line → Bool
right_line (is k m b a) = choose (is_one_of joint_numbers k) true (same_service (service_of m k) (range_of k))

abbrev right_lines : List Line → Bool
right_lines [] = true
right_lines (x ∷ t) = choose (right_line x) (right_lines t) false

table_right : right_lines table ≡ true
unfolding is_one_of service_of range_of same_service service_number choose
table_right = refl

none : {A : Type 0} → false ≡ true → A
none h = absurd (let z : ◌≡◌ {A = ℕ} 0 1 = cc in omega arith)

both : (a b : Bool) → choose a b false ≡ true → (a ≡ true) × (b ≡ true)
unfolding choose
both true b h = (refl, h)
both false b h = none h

row_right : (j s : Bool) → choose j true s ≡ true → j ≡ false → s ≡ true
unfolding choose
row_right true s h e = none (sym e)
row_right false s h e = h

looked : (t : List Line) → right_lines t ≡ true → (n : ℕ) → is_one_of joint_numbers n ≡ false → service_of (look t n).kind n ≡ range_of n
unfolding look service_of
looked [] h n j = refl
looked (is k m b a ∷ t) h n j =
    let g = both (right_line (is k m b a)) (right_lines t) h in
    by_test (λ (r : Row). service_of r.kind n ≡ range_of n) (eqb n k) _ _
    (λ e. let z = eqb-true n k e in rw z (same_service_lem (service_of m k) (range_of k) (row_right (is_one_of joint_numbers k) _ g.0 (rw z at j))))
    (λ _. looked t g.1 n j)

-- what holds of each of a list holds of one of them
pub one_of : (P : ℕ → Type 0) (ks : List ℕ) → Each P ks → (n : ℕ) → is_one_of ks n ≡ true → P n
unfolding is_one_of
one_of P [] h n e = none e
one_of P (k ∷ ks) h n e =
    by_test (λ (x : Bool). x ≡ true → P n) (eqb n k) true (is_one_of ks n) (λ z _. rw (eqb-true n k z) h.0) (λ _ z. one_of P ks h.1 n z) e

joint_is : (n : ℕ) → is_one_of joint_numbers n ≡ true → service_of (message_of n) n ≡ JointService
unfolding row_of look service_of choose
joint_is = one_of (λ (n : ℕ). service_of (message_of n) n ≡ JointService) joint_numbers (refl, (refl, (refl, (refl, (refl, tt)))))

ranged : (n : ℕ)
    → range_of n
    ≡ choose (within 0x400 0x4FF n) DataService
    (choose (within 0x300 0x3FF n) TapeService (choose (within 0xA00 0xAFF n) TapeService (choose (within 0x200 0x2FF n) ScsiService ControlService)))
unfolding range_of
ranged n = rw (range_is n 4, range_is n 3, range_is n 10, range_is n 2)

numbers : (n : ℕ) → service_of (message_of n) n ≡ service_by n
unfolding service_by row_of
numbers n =
    by_test (λ (s : Service). service_of (message_of n) n ≡ s) (is_one_of joint_numbers n) _ _ (joint_is n) (λ j. looked table table_right n j ∙ ranged n)

-- ---- MOVE MEDIUM
aside : (r : List ℕ) → IsMoveMedium r → route_of r ≡ JointService
unfolding route_of is_move moves_medium choose
aside r m =
    let b : is_move (request_in r) (body_of r) ≡ true = rw (m.request, m.opcode) refl in
    rw (route_of, b)

-- and no other record is set aside so
is_move_lem : (q : Request) (r : List ℕ) → request_in r ≡ q → is_move q (body_of r) ≡ true → IsMoveMedium r
unfolding is_move moves_medium
is_move_lem Request.Unknown r e h = none h
is_move_lem Request.Bad r e h = none h
is_move_lem (Request.Connect q) r e h = none h
is_move_lem (Request.Config q) r e h = none h
is_move_lem (Request.Scsi (ScsiRequest.Open name)) r e h = none h
is_move_lem (Request.Scsi ScsiRequest.Close) r e h = none h
is_move_lem (Request.Scsi ScsiRequest.State) r e h = none h
is_move_lem (Request.Scsi ScsiRequest.Reset) r e h = none h
is_move_lem (Request.Scsi (ScsiRequest.Cdb cdb room)) r e h = record { cdb = cdb; room = room; request = e; opcode = eqb-true _ 0xA5 h }
is_move_lem (Request.Tape q) r e h = none h
is_move_lem (Request.Data q) r e h = none h
is_move_lem (Request.Mover q) r e h = none h
is_move_lem (Request.Joint q) r e h = none h

others : (r : List ℕ) → (IsMoveMedium r → ⊥) → route_of r ≡ service_by (message_word r)
unfolding route_of
others r n =
    by_test (λ (s : Service). s ≡ service_by (message_word r)) (is_move (request_in r) (body_of r)) _ _
    (λ h. absurd (n (is_move_lem (request_in r) r refl h))) (λ _. numbers (message_word r))

pub services_are : ServicesAre
services_are = record { numbers = numbers; aside = aside; others = others }
