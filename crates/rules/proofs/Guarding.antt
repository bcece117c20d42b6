-- What comes before any call: 1001, 1002 and a closed session. Assumes nothing.
use Prim.Native.Nat.{ℕ, ◌≤◌}
use mathlib.Core.Bool.{Bool, true, false, not}
use Rattle.std.specs.Prelude.{Option, Some, None}
use mathlib.Core.Path.{◌≡◌, refl, sym, ap}
use native.Mathlib.Omega.{arith}
use lib.Dec.{eqb, ltb}
use lib.ListN.{length}
use borrow.Author.Tests.{ltb-false, le-ltb, eq-eqb, eqb-true}
use Rattle.codes.specs.Codes.{store_length}
use Rattle.xdr.specs.Choose.{choose}
use Rattle.xdr.proofs.Tests.{by_test, yes}
use Rattle.rules_parts.specs.declared.types.Session.{Session}
use Rattle.rules_parts.specs.Names.{least_room}
use Rattle.rules.specs.Relation.{keeps}
use Rattle.rules.specs.Answer.{Kept, Lent, guarded, room_of}

-- a call that is not stopped: there is room, the relation holds, and the session is open
pub record Goes (s : Session) (room : ℕ) : Type 0 where
  pub roomy : least_room ≤ room
  pub valid : keeps s ≡ true
  pub opened : s.closed ≡ false

-- what holds of a call that is stopped, whatever the code, and of one that goes on, holds of the call
pub by_guard : {A : Type 0} (P : A → Type 0) (s : Session) (room : ℕ) (idle : ℕ → A) (x : A) → ((code : ℕ) → P (idle code)) → (Goes s room → P x)
    → P (guarded s room idle x)
unfolding guarded
by_guard P s room idle x still go =
    by_test P (ltb room least_room) _ _ (λ _. still _)
    (λ e. by_test P (not (keeps s)) _ _ (λ _. still _)
    (λ f. by_test P s.closed _ _ (λ _. still _) (λ g. go (record { roomy = ltb-false room least_room e; valid = yes f; opened = g }))))

pub goes_on : {A : Type 0} (s : Session) (room : ℕ) (idle : ℕ → A) (x : A) → Goes s room → guarded s room idle x ≡ x
unfolding guarded choose
goes_on s room idle x g = rw (guarded, le-ltb room least_room g.roomy, g.valid, g.opened)

-- ---- the room of a request call: it has the output's where the store is as long as it must be, and else none
module _ (k : Kept) (l : Lent) where
  pub room_stored : length k.variables ≡ store_length → room_of k l ≡ l.room
  unfolding room_of choose
  room_stored h = rw (room_of, eq-eqb (length k.variables) store_length h)

  pub room_unstored : eqb (length k.variables) store_length ≡ false → room_of k l ≡ 0
  unfolding room_of choose
  room_unstored h = rw (room_of, h)

  pub stored : least_room ≤ room_of k l → length k.variables ≡ store_length
  unfolding room_of
  stored =
      by_test (λ (n : ℕ). least_room ≤ n → length k.variables ≡ store_length) (eqb (length k.variables) store_length) _ _
      (λ e _. eqb-true (length k.variables) store_length e) (λ _ h. absurd (omega arith))

  pub roomy : least_room ≤ room_of k l → least_room ≤ l.room
  roomy h = rw (room_stored (stored h)) at h

  pub lent_well : least_room ≤ l.room → length k.variables ≡ store_length → least_room ≤ room_of k l
  lent_well h e = rw (room_stored e) h

-- ---- from what the code of the guard found: the code of a call that is stopped, or none
stopped : {A : Type 0} (a b c : Bool) (code : ℕ) (idle : ℕ → A) (x : A)
    → Some code ≡ choose a (Some 1001) (choose (not b) (Some 1002) (choose c (Some 0) None))
    → choose a (idle 1001) (choose (not b) (idle 1002) (choose c (idle 0) x)) ≡ idle code
unfolding choose
stopped true b c code idle x e = let z : code ≡ 1001 = cc in ap idle (sym z)
stopped false false c code idle x e = let z : code ≡ 1002 = cc in ap idle (sym z)
stopped false true true code idle x e = let z : code ≡ 0 = cc in ap idle (sym z)
stopped false true false code idle x e = absurd (let z : ◌≡◌ {A = ℕ} 0 1 = cc in omega arith)

gone : (a b c : Bool) → ◌≡◌ {A = Option ℕ} None (choose a (Some 1001) (choose (not b) (Some 1002) (choose c (Some 0) None))) → (a ≡ false) × (b ≡ true) × (c ≡ false)
unfolding choose
gone true b c e = absurd (let z : ◌≡◌ {A = ℕ} 0 1 = cc in omega arith)
gone false false c e = absurd (let z : ◌≡◌ {A = ℕ} 0 1 = cc in omega arith)
gone false true true e = absurd (let z : ◌≡◌ {A = ℕ} 0 1 = cc in omega arith)
gone false true false e = (refl, refl, refl)

pub guard_stops : {A : Type 0} (s : Session) (room code : ℕ) (idle : ℕ → A) (x : A) → Some code ≡ guarded s room Some None
    → guarded s room idle x ≡ idle code
unfolding guarded
guard_stops s room code idle x e = stopped (ltb room least_room) (keeps s) s.closed code idle x e

pub guard_goes : (s : Session) (room : ℕ) → ◌≡◌ {A = Option ℕ} None (guarded s room Some None) → Goes s room
unfolding guarded
guard_goes s room e =
    let h = gone (ltb room least_room) (keeps s) s.closed e in
    record { roomy = ltb-false room least_room h.0; valid = h.1; opened = h.2 }

pub when_stopped : {A : Type 0} (P : A → Type 0) (s : Session) (room code : ℕ) (idle : ℕ → A) (x : A) → Some code ≡ guarded s room Some None
    → P (idle code) → P (guarded s room idle x)
when_stopped P s room code idle x e h = rw (guard_stops s room code idle x e) h

pub when_goes : {A : Type 0} (P : A → Type 0) (s : Session) (room : ℕ) (idle : ℕ → A) (x : A) → ◌≡◌ {A = Option ℕ} None (guarded s room Some None) → P x
    → P (guarded s room idle x)
when_goes P s room idle x e h = rw (goes_on s room idle x (guard_goes s room e)) h
