-- A move, the method's end and a connection made or lost leave whether the tape is open, and for what: of the tape they change the position at most.
-- Assumes nothing.
use Prim.Native.Nat.{ℕ}
use mathlib.Core.Bool.{Bool, true, false, not}
use mathlib.Core.List.{List}
use mathlib.Core.Path.{◌≡◌, refl}
use lib.Dec.{eqb}
use lib.ListN.{length}
use Rattle.xdr.proofs.Tests.{by_test}
use Rattle.tape_image.specs.Image.{entry_len, faulty}
use Rattle.tape_writing.specs.Writing.{room_for}
use Rattle.tape_ops.specs.Step.{Step}
use Rattle.rules_parts.specs.declared.types.Data.{Data}
use Rattle.rules_parts.specs.declared.types.Mover.{Mover}
use Rattle.rules_parts.specs.declared.types.Tape.{Tape}
use Rattle.rules_parts.specs.Parts.{data_joined, mover_joined}
use Rattle.rules_moves.specs.declared.Move.{Move}
use Rattle.rules_moves.specs.declared.Found.{Found}
use Rattle.rules_moves.specs.Moves.{by_tcp, halts_with, idle, stream_ends, scant, window_used, filling, to_tape, outside, sought, Handing, reading, on_found, seeking, from_tape, method_end, at_tcp, made_at, lost_at}

pub record SameOpen (t : Tape) (mv : Move) : Type 0 where
  pub opened : mv.tape.opened ≡ t.opened
  pub writable : mv.tape.writable ≡ t.writable

module _ (d : Data) (m : Mover) (t : Tape) where
  of_step : Step Move → Type 0
  of_step st = SameOpen t st.gives

  of_handing : Handing → Type 0
  of_handing h = SameOpen t h.move

  halts_open : (dwhy mwhy : ℕ) → SameOpen t (halts_with dwhy mwhy d m t)
  unfolding halts_with
  halts_open dwhy mwhy = by_test (SameOpen t) (by_tcp m.address) _ _ (λ _. record { opened = refl; writable = refl }) (λ _. record { opened = refl; writable = refl })

  filling_open : (l s : List ℕ) (last : Bool) → of_step (filling d m t l s last)
  unfolding filling of_step
  filling_open l s last =
      by_test of_step (window_used m.size m.offset m.length m.moved) _ _ (λ _. record { opened = refl; writable = refl })
      (λ _. by_test of_step (scant last (length s) m.size) _ _ (λ _. record { opened = refl; writable = refl })
      (λ _. by_test of_step (not (room_for l t.position m.size)) _ _ (λ _. record { opened = refl; writable = refl })
      (λ _. record { opened = refl; writable = refl })))

  pub to_open : (l s : List ℕ) (last : Bool) → SameOpen t (to_tape d m t l s last).gives
  unfolding to_tape of_step
  to_open l s last =
      by_test of_step (idle 0 1 d m) _ _ (λ _. record { opened = refl; writable = refl })
      (λ _. by_test of_step (faulty l t.position) _ _ (λ _. halts_open 4 5)
      (λ _. by_test of_step (stream_ends last (length s)) _ _ (λ _. halts_open 1 1) (λ _. filling_open l s last)))

  reading_open : (i : ℕ) (l b : List ℕ) → of_handing (reading i d m t l b)
  unfolding reading of_handing
  reading_open i l b = by_test of_handing (not (eqb (entry_len l i) m.size)) _ _ (λ _. halts_open 4 5) (λ _. record { opened = refl; writable = refl })

  found_open : (f : Found) (l b : List ℕ) → of_handing (on_found f d m t l b)
  unfolding on_found of_handing
  found_open (Found.Target i) l b = reading_open i l b
  found_open (Found.Mark j) l b = record { opened = refl; writable = refl }
  found_open Found.End l b = record { opened = refl; writable = refl }

  seeking_open : (l b : List ℕ) → of_handing (seeking d m t l b)
  unfolding seeking of_handing
  seeking_open l b =
      by_test of_handing (outside m.seek m.offset m.length) _ _ (λ _. record { opened = refl; writable = refl }) (λ _. found_open (sought m l) l b)

  pub from_open : (l b : List ℕ) → SameOpen t (from_tape d m t l b).move
  unfolding from_tape of_handing
  from_open l b =
      by_test of_handing (idle 1 2 d m) _ _ (λ _. record { opened = refl; writable = refl })
      (λ _. by_test of_handing (faulty l t.position) _ _ (λ _. halts_open 4 5)
      (λ _. by_test of_handing (eqb m.left 0) _ _ (λ _. record { opened = refl; writable = refl })
      (λ _. by_test of_handing (eqb (length b) 0) _ _ (λ _. record { opened = refl; writable = refl }) (λ _. seeking_open l b))))

  pub end_open : (ok : Bool) → SameOpen t (method_end ok d m t)
  unfolding method_end
  end_open ok =
      by_test (SameOpen t) (eqb d.state 1) _ _
      (λ _. by_test (SameOpen t) (by_tcp d.address) _ _ (λ _. record { opened = refl; writable = refl }) (λ _. record { opened = refl; writable = refl }))
      (λ _. record { opened = refl; writable = refl })

  pub made_open : (mover : Bool) → SameOpen t (made_at mover d m t)
  unfolding made_at
  made_open true =
      by_test (SameOpen t) (at_tcp m.address (eqb m.state 1)) _ _ (λ _. record { opened = refl; writable = refl }) (λ _. record { opened = refl; writable = refl })
  made_open false =
      by_test (SameOpen t) (at_tcp d.address (eqb d.state 3)) _ _ (λ _. record { opened = refl; writable = refl }) (λ _. record { opened = refl; writable = refl })

  pub lost_open : (mover : Bool) → SameOpen t (lost_at mover d m t)
  unfolding lost_at
  lost_open true =
      by_test (SameOpen t) (at_tcp m.address (mover_joined m.state)) _ _ (λ _. record { opened = refl; writable = refl }) (λ _. record { opened = refl; writable = refl })
  lost_open false =
      by_test (SameOpen t) (at_tcp d.address (data_joined d.state)) _ _ (λ _. record { opened = refl; writable = refl }) (λ _. record { opened = refl; writable = refl })
