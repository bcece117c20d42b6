-- One call, from one move (`Moving`) or one request (`Asking`) behind the guard; then any sequence of calls, by induction. Assumes nothing.
use Prim.Native.Nat.{ℕ}
use mathlib.Core.Bool.{Bool, true, false, not}
use mathlib.Core.List.{List, [], ◌∷◌}
use mathlib.Core.Path.{◌≡◌, refl, sym, ap, ◌∙◌}
use native.Mathlib.Omega.{arith}
use lib.Dec.{eqb, ltb}
use Rattle.xdr.specs.Choose.{choose}
use borrow.Author.Tests.{eqb-true, eq-eqb, ne_eqb}
use Rattle.xdr.proofs.Tests.{by_test, when, if_so, pick_if, pick_else, yes_not}
use Rattle.changer_elements.specs.Slots.{names_none_twice, in_drive}
use Rattle.xdr_opaque.specs.Put.{Each}
use Rattle.tape_image.specs.Image.{is_sound}
use Rattle.tape_ops.specs.Step.{Step}
use Rattle.wire_replies.specs.declared.Notice.{Notice}
use Rattle.rules_parts.specs.declared.types.Tape.{Tape}
use Rattle.rules_parts.specs.declared.types.Session.{Session}
use Rattle.rules_parts.specs.Names.{least_room}
use Rattle.rules.specs.Relation.{drive_wrong, keeps}
use Rattle.rules.specs.Answer.{Kept, Lent, Answered, guarded, noticed, silent}
use Rattle.rules.specs.Calls.{Unmoved}
use Rattle.rules.proofs.Kept.{mover_kept}
use Rattle.rules.proofs.Keeping.{clash}
use Rattle.rules.proofs.Guarding.{by_guard}
use Rattle.rules.proofs.Calls.{kept_facts, facts_kept, calls_keep}
use Rattle.rules_moves.specs.declared.Move.{Move}
use Rattle.rules_moves.specs.Moves.{Handing, to_tape, from_tape, method_end, made_at, lost_at}
use Rattle.rules_moves.specs.Events.{Moving, idling, announced, moved, moved_to_tape, moved_from_tape, method_ended, connection_made, connection_lost}
use Rattle.rules_moves.specs.Sequence.{Event, Asked, ToTape, FromTape, Ended, Made, Lost, Inserted, Renumbered, StoreLent, SlotsLent, renumbered, may_lend, list_for, with_list, step, runs, Wrote, Handed, register_of, after, FitsRegister, Legitimate}
use Rattle.rules_moves.specs.Sequence.{made_shown, to_tape_shown, from_tape_shown, seen, image_after, dest_after, count_of, ToTapeLeaves, FromTapeLeaves, Leaves, Inside, finished, more, WindowHolds}
use Rattle.rules_moves.specs.Keeping.{Idle, Guards, Sounds, MovesKeep}
use Rattle.rules_moves.specs.SessionLeft.{SameRest}
use Rattle.rules_moves.proofs.Asking.{asked_left}
use Rattle.rules_moves.proofs.Opened.{to_open, from_open, end_open, made_open, lost_open}
use Rattle.rules_moves.proofs.SessionLeft.{announced_left}
use Rattle.rules_moves.proofs.Moving.{PartsKept, shown_still, ToTurn, to_turn, FromTurn, from_turn, end_turn, shown_same, made_turn, lost_turn}

-- ---- an answer that carries a move's parts
pub record Carries (mv : Move) (image : List ℕ) (a : Answered) : Type 0 where
  pub source : a.next.session.source ≡ mv.source
  pub mover : a.next.session.mover ≡ mv.mover
  pub tape : a.next.session.tape ≡ mv.tape
  pub image_end : a.next.image ≡ image
  pub code : a.code ≡ 0

noticed_carries : (mv : Move) (image : List ℕ) (time why : ℕ) (n : Notice) (a : Answered) → Carries mv image a → Carries mv image (noticed time why n a)
unfolding noticed
noticed_carries mv image time why n a c =
    by_test (Carries mv image) (eqb why 0) _ _ (λ _. c)
    (λ _. record { source = c.source; mover = c.mover; tape = c.tape; image_end = c.image_end; code = c.code })

pub announced_carries : (k : Kept) (l : Lent) (mv : Move) (image : List ℕ) → Carries mv image (announced k l mv image)
announced_carries k l mv image =
    let told = noticed_carries mv image l.time in
    told _ _ _ (told _ _ _ (told _ _ _ (record { source = refl; mover = refl; tape = refl; image_end = refl; code = refl })))

-- ---- what is refused: of any call whose stopped forms tell their code and leave everything
module _ {A : Type 0} (code : A → ℕ) (Left : A → Type 0) (k : Kept) (l : Lent) (idle : ℕ → A) (x : A)
    (told : (c : ℕ) → code (idle c) ≡ c) (left : (c : ℕ) → Left (idle c)) (good : code x ≡ 0) where
  coded_by : (short valid shut : Bool)
      → code (choose short (idle 1001) (choose (not valid) (idle 1002) (choose shut (idle 0) x))) ≡ choose short 1001 (choose valid 0 1002)
  unfolding choose
  coded_by true valid shut = told 1001
  coded_by false false shut = told 1002
  coded_by false true true = told 0
  coded_by false true false = good

  coded : code (guarded k.session l.room idle x) ≡ choose (ltb l.room least_room) 1001 (choose (keeps k.session) 0 1002)
  unfolding guarded
  coded = coded_by (ltb l.room least_room) (keeps k.session) k.session.closed

  Refused : A → Type 0
  Refused e = (code e ≡ 0 → ⊥) → Left e

  guards : Guards k l (code (guarded k.session l.room idle x)) (Left (guarded k.session l.room idle x))
  unfolding Refused
  guards =
      record {
        code = coded;
        refused = by_guard Refused k.session l.room idle x (λ c _. left c) (λ _ n. absurd (n good));
        over = λ o. by_guard Left k.session l.room idle x left (λ g. clash k.session.closed g.opened o);
      }

-- ---- a move to tape, as a call
record ToCall (w : Kept) (stream : List ℕ) (e : Moving) : Type 0 where
  fits : FitsRegister (register_of w.session) (to_tape_shown w.session.mover e)
  register : register_of e.answer.next.session ≡ after (register_of w.session) (to_tape_shown w.session.mover e)
  leaves : ToTapeLeaves w stream e
  kept : keeps e.answer.next.session ≡ true
  sound : is_sound w.image ≡ true → is_sound e.answer.next.image ≡ true

pub parts_kept : (s : Session) → keeps s ≡ true → PartsKept s.source s.mover s.tape
parts_kept s h = let f = kept_facts s h in record { source = f.source; mover = f.mover; joined = f.joined }

drive_same : (drive : ℕ) (t n : Tape) → n.opened ≡ t.opened → drive_wrong drive t ≡ false → drive_wrong drive n ≡ false
unfolding drive_wrong
drive_same drive t n e h = rw e h

carried_kept : (w : Kept) → keeps w.session ≡ true → (mv : Move) (image : List ℕ) (a : Answered) → Carries mv image a → SameRest w a.next
    → PartsKept mv.source mv.mover mv.tape → keeps a.next.session ≡ true
carried_kept w h mv image a c r k =
    let f = kept_facts w.session h in
    facts_kept a.next.session
    (record {
      source = rw c.source k.source;
      mover = rw (c.mover, c.tape) k.mover;
      drive = rw r.changer (drive_same _ w.session.tape a.next.session.tape r.opened f.drive);
      names = rw r.changer f.names;
      joined = rw (c.source, c.mover) k.joined;
    })

module _ (w : Kept) (stream : List ℕ) (h : keeps w.session ≡ true) where
  to_idle : (code : ℕ) → ToCall w stream (idling code w [])
  unfolding after image_after count_of
  to_idle code =
      let e = shown_still w.session.mover (Wrote w.session.mover.size 0) in
      record { fits = rw e tt; register = rw e refl; leaves = record { image = rw e refl; taken = rw e refl; there = omega arith }; kept = h; sound = λ k. k }

  to_moved : (st : Step Move) (a : Answered) → Carries st.gives st.image a → SameRest w a.next
      → ToTurn w.session.source w.session.mover w.session.tape w.image stream st
      → ToCall w stream (record { answer = a; count = st.gives.count; dest = [] })
  to_moved st a c rest t =
      record {
        fits = rw c.mover t.turn.fits;
        register = rw (c.source, c.mover) t.turn.register;
        leaves = record { image = rw c.mover (c.image_end ∙ t.image); taken = rw c.mover t.turn.taken; there = t.there };
        kept = carried_kept w h st.gives st.image a c rest t.kept;
        sound = λ k. rw c.image_end (t.sound k);
      }

  to_call : (l : Lent) (last : Bool) → ToCall w stream (moved_to_tape w l stream last)
  unfolding moved_to_tape
  to_call l last =
      let s = w.session in
      let st = to_tape s.source s.mover s.tape w.image stream last in
      by_guard (ToCall w stream) s l.room _ _ to_idle
      (λ _. to_moved st (announced w l st.gives st.image) (announced_carries w l st.gives st.image)
      (announced_left w l st.gives st.image (to_open s.source s.mover s.tape w.image stream last))
      (to_turn s.source s.mover s.tape w.image stream (parts_kept s h) last))

-- ---- a move from tape, as a call
record FromCall (w : Kept) (dest : List ℕ) (e : Moving) : Type 0 where
  fits : FitsRegister (register_of w.session) (from_tape_shown w.session.mover e)
  register : register_of e.answer.next.session ≡ after (register_of w.session) (from_tape_shown w.session.mover e)
  leaves : FromTapeLeaves (register_of w.session) w dest e
  kept : keeps e.answer.next.session ≡ true

module _ (w : Kept) (dest : List ℕ) (h : keeps w.session ≡ true) where
  from_idle : (code : ℕ) → FromCall w dest (idling code w dest)
  unfolding after dest_after count_of
  from_idle code =
      let e = shown_still w.session.mover (Handed 0) in
      record {
        fits = rw e tt;
        register = rw e refl;
        leaves = record { dest_end = rw e refl; handed = rw e refl; room = omega arith; source = λ z. absurd (z refl); image = refl };
        kept = h;
      }

  from_moved : (st : Handing) (a : Answered) → Carries st.move w.image a → SameRest w a.next
      → FromTurn w.session.source w.session.mover w.session.tape w.image dest st
      → FromCall w dest (record { answer = a; count = st.move.count; dest = st.dest })
  from_moved st a c rest t =
      record {
        fits = rw c.mover t.turn.fits;
        register = rw (c.source, c.mover) t.turn.register;
        leaves = record {
          dest_end = rw c.mover t.dest_end;
          handed = rw c.mover t.turn.taken;
          room = t.room;
          source = λ z. rw c.tape (t.source z);
          image = c.image_end;
        };
        kept = carried_kept w h st.move w.image a c rest t.kept;
      }

  from_call : (l : Lent) → FromCall w dest (moved_from_tape w l dest)
  unfolding moved_from_tape
  from_call l =
      let s = w.session in
      let st = from_tape s.source s.mover s.tape w.image dest in
      by_guard (FromCall w dest) s l.room _ _ from_idle
      (λ _. from_moved st (announced w l st.move w.image) (announced_carries w l st.move w.image)
      (announced_left w l st.move w.image (from_open s.source s.mover s.tape w.image dest))
      (from_turn s.source s.mover s.tape w.image dest (parts_kept s h)))

-- ---- the method's end, as a call
record EndCall (w : Kept) (a : Answered) : Type 0 where
  register : register_of a.next.session ≡ register_of w.session
  image_end : a.next.image ≡ w.image
  kept : keeps a.next.session ≡ true

end_call : (w : Kept) → keeps w.session ≡ true → (l : Lent) (ok : Bool) → EndCall w (method_ended w l ok)
unfolding method_ended
end_call w h l ok =
    let s = w.session in
    let mv = method_end ok s.source s.mover s.tape in
    let c = announced_carries w l mv w.image in
    let rest = announced_left w l mv w.image (end_open s.source s.mover s.tape ok) in
    let t = end_turn ok s.source s.mover s.tape (parts_kept s h) in
    by_guard (EndCall w) s l.room _ _ (λ _. record { register = refl; image_end = refl; kept = h })
    (λ _. record { register = rw (c.source, c.mover) t.register; image_end = c.image_end; kept = carried_kept w h mv w.image _ c rest t.kept })

-- ---- a connection that was made or lost, as a call
record MadeCall (w : Kept) (a : Answered) : Type 0 where
  register : register_of a.next.session ≡ after (register_of w.session) (made_shown w.session.mover a.next.session.mover w.session.tape.position)
  fits : FitsRegister (register_of w.session) (made_shown w.session.mover a.next.session.mover w.session.tape.position)
  image_end : a.next.image ≡ w.image
  kept : keeps a.next.session ≡ true

made_call : (w : Kept) → keeps w.session ≡ true → (l : Lent) (mover : Bool) → MadeCall w (connection_made w l mover)
unfolding connection_made after
made_call w h l mover =
    let s = w.session in
    let mv = made_at mover s.source s.mover s.tape in
    let c = announced_carries w l mv w.image in
    let rest = announced_left w l mv w.image (made_open s.source s.mover s.tape mover) in
    let t = made_turn s.source s.mover s.tape (parts_kept s h) mover in
    let e = shown_same s.source s.mover s.tape (parts_kept s h) in
    by_guard (MadeCall w) s l.room _ _ (λ _. record { register = rw e refl; fits = rw e tt; image_end = refl; kept = h })
    (λ _. record {
      register = rw (c.source, c.mover) t.register;
      fits = rw c.mover t.fits;
      image_end = c.image_end;
      kept = carried_kept w h mv w.image _ c rest t.kept;
    })

lost_call : (w : Kept) → keeps w.session ≡ true → (l : Lent) (mover : Bool) → EndCall w (connection_lost w l mover)
unfolding connection_lost
lost_call w h l mover =
    let s = w.session in
    let mv = lost_at mover s.source s.mover s.tape in
    let c = announced_carries w l mv w.image in
    let rest = announced_left w l mv w.image (lost_open s.source s.mover s.tape mover) in
    let t = lost_turn s.source s.mover s.tape (parts_kept s h) mover in
    by_guard (EndCall w) s l.room _ _ (λ _. record { register = refl; image_end = refl; kept = h })
    (λ _. record { register = rw (c.source, c.mover) t.register; image_end = c.image_end; kept = carried_kept w h mv w.image _ c rest t.kept })

-- ---- the number of the next message set: the relation does not look at it
renumbered_kept : (n : ℕ) (s : Session) → keeps s ≡ true → keeps (renumbered n s) ≡ true
unfolding keeps
renumbered_kept n s h = h

-- ---- the slot list set, to one that may be
may_lend_lem : (o x : Bool) → (o ≡ true → x ≡ true) → choose o x true ≡ true
unfolding choose
may_lend_lem true x f = f refl
may_lend_lem false x f = refl

may_be : (slots : List ℕ) (s : Session) → names_none_twice slots ≡ true
    → (s.tape.opened ≡ true → in_drive slots ≡ in_drive s.changer.slots) → may_lend slots s ≡ true
unfolding may_lend
may_be slots s n d = sym (pick_else _ (yes_not n) (sym (may_lend_lem s.tape.opened _ (λ o. eq-eqb _ _ (d o)))))

list_set : (slots : List ℕ) (s : Session) → names_none_twice slots ≡ true
    → (s.tape.opened ≡ true → in_drive slots ≡ in_drive s.changer.slots) → list_for slots s ≡ slots
unfolding list_for
list_set slots s n d = sym (pick_if _ (may_be slots s n d) refl)

list_twice : (slots : List ℕ) (s : Session) → names_none_twice slots ≡ false → list_for slots s ≡ s.changer.slots
unfolding list_for may_lend
list_twice slots s n = sym (pick_else _ (sym (pick_if _ (ap not n) refl)) refl)

not_drive : (b o x : Bool) → o ≡ true → x ≡ false → choose (not b) false (choose o x true) ≡ false
unfolding choose
not_drive true true x o h = h
not_drive true false x o h = clash false refl o
not_drive false o x e h = refl

list_drive : (slots : List ℕ) (s : Session) → s.tape.opened ≡ true → (in_drive slots ≡ in_drive s.changer.slots → ⊥) → list_for slots s ≡ s.changer.slots
unfolding list_for may_lend
list_drive slots s o d = sym (pick_else _ (not_drive (names_none_twice slots) s.tape.opened _ o (ne_eqb _ _ d)) refl)

may_names : (b x : Bool) → choose (not b) false x ≡ true → b ≡ true
unfolding choose
may_names true x h = refl
may_names false x h = clash false refl h

may_drive : (b o x : Bool) → choose (not b) false (choose o x true) ≡ true → o ≡ true → x ≡ true
unfolding choose
may_drive true true x h e = h
may_drive true false x h e = clash false refl e
may_drive false o x h e = clash false refl h

-- what holds of the list as it was, and of one that may be set, holds afterwards
pub by_list : (P : List ℕ → Type 0) (slots : List ℕ) (s : Session) → P s.changer.slots
    → (names_none_twice slots ≡ true → (s.tape.opened ≡ true → in_drive slots ≡ in_drive s.changer.slots) → P slots) → P (list_for slots s)
unfolding list_for may_lend
by_list P slots s stays lent =
    by_test P (may_lend slots s) slots s.changer.slots
    (λ h. lent (may_names (names_none_twice slots) _ h) (λ o. eqb-true _ _ (may_drive (names_none_twice slots) s.tape.opened _ h o))) (λ _. stays)

drive_lent : (slots : List ℕ) (s : Session) → drive_wrong (in_drive s.changer.slots) s.tape ≡ false → drive_wrong (in_drive (list_for slots s)) s.tape ≡ false
unfolding drive_wrong
drive_lent slots s h =
    by_list (λ (l : List ℕ). drive_wrong (in_drive l) s.tape ≡ false) slots s h
    (λ _ same. if_so s.tape.opened (λ o. rw (same o) (when s.tape.opened _ h o)))

lent_kept : (slots : List ℕ) (s : Session) → keeps s ≡ true → keeps (with_list slots s) ≡ true
lent_kept slots s h =
    let f = kept_facts s h in
    facts_kept (with_list slots s)
    (record {
      source = f.source;
      mover = f.mover;
      drive = drive_lent slots s f.drive;
      names = by_list (λ (l : List ℕ). names_none_twice l ≡ true) slots s f.names (λ n _. n);
      joined = f.joined;
    })

-- ---- any call
pub record Stepped (w : Kept) (e : Event) : Type 0 where
  pub fits : FitsRegister (register_of w.session) (seen e w)
  pub register : register_of (step e w).session ≡ after (register_of w.session) (seen e w)
  pub leaves : Leaves (register_of w.session) w e
  pub kept : keeps (step e w).session ≡ true
  pub sound : is_sound w.image ≡ true → Sounds e → is_sound (step e w).image ≡ true

pub stepped : (w : Kept) → keeps w.session ≡ true → (e : Event) → Stepped w e
unfolding seen step after
stepped w h (Asked c) =
    let r = c.ask.request in
    let a = asked_left w c.lent r in
    record {
      fits = a.1;
      register = a.0;
      leaves = tt;
      kept = calls_keep.kept w c.lent r h;
      sound = λ k _. calls_keep.sound w c.lent r k;
    }
stepped w h (ToTape l stream last) =
    let t = to_call w stream h l last in
    record { fits = t.fits; register = t.register; leaves = t.leaves; kept = t.kept; sound = λ k _. t.sound k }
stepped w h (FromTape l dest) =
    let t = from_call w dest h l in
    record { fits = t.fits; register = t.register; leaves = t.leaves; kept = t.kept; sound = λ k _. rw t.leaves.image k }
stepped w h (Ended l ok) =
    let t = end_call w h l ok in
    record { fits = tt; register = t.register; leaves = t.image_end; kept = t.kept; sound = λ k _. rw t.image_end k }
stepped w h (Made l mover) =
    let t = made_call w h l mover in
    record { fits = t.fits; register = t.register; leaves = t.image_end; kept = t.kept; sound = λ k _. rw t.image_end k }
stepped w h (Lost l mover) =
    let t = lost_call w h l mover in
    record { fits = tt; register = t.register; leaves = t.image_end; kept = t.kept; sound = λ k _. rw t.image_end k }
stepped w h (Inserted image) = record { fits = tt; register = refl; leaves = tt; kept = h; sound = λ _ k. k }
stepped w h (StoreLent variables) = record { fits = tt; register = refl; leaves = tt; kept = h; sound = λ k _. k }
stepped w h (Renumbered n) =
    record {
      fits = tt;
      register = refl;
      leaves = record { number = refl; closed = refl; first = refl; login = refl; source = refl; mover = refl; tape = refl; changer = refl; image = refl; variables = refl };
      kept = renumbered_kept n w.session h;
      sound = λ k _. k;
    }
stepped w h (SlotsLent slots) =
    record {
      fits = tt;
      register = refl;
      leaves = record {
        set = list_set slots w.session;
        twice = list_twice slots w.session;
        drive = list_drive slots w.session;
        closed = refl;
        first = refl;
        login = refl;
        number = refl;
        source = refl;
        mover = refl;
        tape = refl;
        opened = refl;
        pending = (refl, refl, refl);
        image = refl;
        variables = refl;
      };
      kept = lent_kept slots w.session h;
      sound = λ k _. k;
    }

pub legitimate : (s : Session) → keeps s ≡ true → Legitimate (register_of s)
legitimate s h = (mover_kept s.mover s.tape (kept_facts s h).mover).window

pub window_holds : WindowHolds
window_holds w h [] = finished refl
window_holds w h (e ∷ es) =
    let g = stepped w h e in
    let rest : Inside (after (register_of w.session) (seen e w)) (step e w) es = rw g.register at (window_holds (step e w) g.kept es) in
    more (record { register = refl; window = legitimate w.session h; fits = g.fits; leaves = g.leaves }) rest

runs_kept : (w : Kept) (es : List Event) → keeps w.session ≡ true → keeps (runs w es).session ≡ true
unfolding runs
runs_kept w [] h = h
runs_kept w (e ∷ es) h = runs_kept (step e w) es (stepped w h e).kept

runs_sound : (w : Kept) (es : List Event) → keeps w.session ≡ true → is_sound w.image ≡ true → Each Sounds es → is_sound (runs w es).image ≡ true
unfolding runs
runs_sound w [] h k a = k
runs_sound w (e ∷ es) h k a = runs_sound (step e w) es (stepped w h e).kept ((stepped w h e).sound k a.0) a.1

unmoved : (code : ℕ) (k : Kept) → Unmoved k (silent code k)
unmoved code k = record { reply = refl; notices = refl; next = refl }

pub idles : (code : ℕ) (k : Kept) (dest : List ℕ) → Idle k dest (idling code k dest)
idles code k dest = record { answer = unmoved code k; none = refl; dest_end = refl }

moved_guards : (k : Kept) (l : Lent) (dest : List ℕ) (mv : Move) (image dest' : List ℕ)
    → let e = guarded k.session l.room (λ code. idling code k dest) (moved k l mv image dest') in Guards k l e.answer.code (Idle k dest e)
moved_guards k l dest mv image dest' =
    guards (λ (e : Moving). e.answer.code) (Idle k dest) k l _ _ (λ _. refl) (λ code. idles code k dest) (announced_carries k l mv image).code

pub moves_keep : MovesKeep
unfolding moved_to_tape moved_from_tape method_ended connection_made connection_lost
moves_keep =
    record {
      to_tape_lem = λ k l stream last.
          let s = k.session in
          let st = to_tape s.source s.mover s.tape k.image stream last in
          moved_guards k l [] st.gives st.image [];
      from_tape_lem = λ k l dest.
          let s = k.session in
          let st = from_tape s.source s.mover s.tape k.image dest in
          moved_guards k l dest st.move k.image st.dest;
      method = λ k l ok.
          let s = k.session in
          let c = announced_carries k l (method_end ok s.source s.mover s.tape) k.image in
          guards (λ (a : Answered). a.code) (Unmoved k) k l _ _ (λ _. refl) (λ code. unmoved code k) c.code;
      made = λ k l mover.
          let s = k.session in
          let c = announced_carries k l (made_at mover s.source s.mover s.tape) k.image in
          guards (λ (a : Answered). a.code) (Unmoved k) k l _ _ (λ _. refl) (λ code. unmoved code k) c.code;
      lost = λ k l mover.
          let s = k.session in
          let c = announced_carries k l (lost_at mover s.source s.mover s.tape) k.image in
          guards (λ (a : Answered). a.code) (Unmoved k) k l _ _ (λ _. refl) (λ code. unmoved code k) c.code;
      kept = runs_kept;
      sound = runs_sound;
    }
