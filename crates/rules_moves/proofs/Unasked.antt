-- A move, the method's end and a connection made or lost leave what is kept as it was, or as a move that is announced leaves it, which leaves whether the
-- tape is open. Assumes nothing.
use Prim.Native.Nat.{ℕ}
use mathlib.Core.Bool.{Bool}
use mathlib.Core.List.{List}
use Rattle.rules.specs.Answer.{Kept, Lent, Answered}
use Rattle.rules.proofs.Guarding.{by_guard}
use Rattle.rules_moves.specs.declared.Move.{Move}
use Rattle.rules_moves.specs.Moves.{to_tape, from_tape, method_end, made_at, lost_at}
use Rattle.rules_moves.proofs.Opened.{SameOpen, to_open, from_open, end_open, made_open, lost_open}
use Rattle.rules_moves.specs.Events.{Moving, announced, moved_to_tape, moved_from_tape, method_ended, connection_made, connection_lost}

module _ (Q : Kept → Type 0) (k : Kept) (stays : Q k) (moves : (l : Lent) (mv : Move) (image : List ℕ) → SameOpen k.session.tape mv → Q (announced k l mv image).next) where
  abbrev Next : Answered → Type 0
  Next a = Q a.next

  pub to_tape_holds : (l : Lent) (stream : List ℕ) (last : Bool) → Q (moved_to_tape k l stream last).answer.next
  unfolding moved_to_tape
  to_tape_holds l stream last =
      let s = k.session in
      let st = to_tape s.source s.mover s.tape k.image stream last in
      by_guard (λ (a : Moving). Q a.answer.next) s l.room _ _ (λ _. stays) (λ _. moves l st.gives st.image (to_open s.source s.mover s.tape k.image stream last))

  pub from_tape_holds : (l : Lent) (dest : List ℕ) → Q (moved_from_tape k l dest).answer.next
  unfolding moved_from_tape
  from_tape_holds l dest =
      let s = k.session in
      let st = from_tape s.source s.mover s.tape k.image dest in
      by_guard (λ (a : Moving). Q a.answer.next) s l.room _ _ (λ _. stays) (λ _. moves l st.move k.image (from_open s.source s.mover s.tape k.image dest))

  pub ended_holds : (l : Lent) (ok : Bool) → Next (method_ended k l ok)
  unfolding method_ended
  ended_holds l ok =
      let s = k.session in
      by_guard Next s l.room _ _ (λ _. stays) (λ _. moves l (method_end ok s.source s.mover s.tape) k.image (end_open s.source s.mover s.tape ok))

  pub made_holds : (l : Lent) (mover : Bool) → Next (connection_made k l mover)
  unfolding connection_made
  made_holds l mover =
      let s = k.session in
      by_guard Next s l.room _ _ (λ _. stays) (λ _. moves l (made_at mover s.source s.mover s.tape) k.image (made_open s.source s.mover s.tape mover))

  pub lost_holds : (l : Lent) (mover : Bool) → Next (connection_lost k l mover)
  unfolding connection_lost
  lost_holds l mover =
      let s = k.session in
      by_guard Next s l.room _ _ (λ _. stays) (λ _. moves l (lost_at mover s.source s.mover s.tape) k.image (lost_open s.source s.mover s.tape mover))
