-- A call leaves the slot list, or does one move, judged with the tape as it is: so what changer_elements says of lists of moves holds of all calls. Assumes
-- nothing.
use Prim.Native.Nat.{ℕ}
use mathlib.Core.Bool.{Bool, true, false, not}
use mathlib.Core.List.{List, [], ◌∷◌, ◌++◌}
use mathlib.Core.Path.{◌≡◌, refl, sym, ap, ◌∙◌, subst}
use native.Mathlib.Omega.{arith}
use lib.Dec.{eqb}
use lib.ListN.{length, get_or}
use borrow.Author.Tests.{eq-eqb}
use Rattle.xdr.specs.Choose.{choose}
use Rattle.changer_elements.specs.Slots.{moved, names_none_twice, in_drive, times}
use Rattle.changer_elements.specs.Move.{from_to, move_medium, slots_after}
use Rattle.changer_elements.specs.MovesHold.{InOnePlace, MoveCall, after_move, after_moves}
use Rattle.changer_elements.proofs.MovesHold.{elements_hold}
use Rattle.changer_elements.proofs.Staying.{none_twice_after, drive_after}
use Rattle.wire_requests.specs.declared.Request.{Request}
use Rattle.wire_requests.specs.declared.Request.TheVariants as Request
use Rattle.rules_parts.specs.declared.types.Tape.{Tape}
use Rattle.rules_parts.specs.declared.types.Changer.{Changer}
use Rattle.wire_frame.specs.Frame.{body_of}
use Rattle.rules.specs.Judge.{Outcome, onto, Accepts}
use Rattle.rules.specs.Relation.{keeps, drive_wrong}
use Rattle.rules.specs.Answer.{Kept, Lent, Answered, Done, held, answered, outcome, request_in, tape_part, with_data, with_part, with_tape, with_changer, with_login, with_ends}
use Rattle.rules.specs.Order.{Call}
use Rattle.rules.specs.Calls.{opened_session, opening}
use Rattle.rules.proofs.JudgeLaws.{accepts_any, refusal_says, carried}
use Rattle.rules.proofs.Changer.{by_slots}
use Rattle.rules.proofs.Calls.{call_holds, kept_facts, by_opening}
use Rattle.rules_moves.specs.Sequence.{Event, Asked, ToTape, FromTape, Ended, Made, Lost, Inserted, Renumbered, StoreLent, SlotsLent, list_for, step, runs}
use Rattle.rules_moves.specs.SessionLeft.{IsUnasked}
use Rattle.rules_moves.specs.FirstSize.{after_open}
use Rattle.rules_moves.proofs.SessionLeft.{session_left, by_asked}
use Rattle.rules_moves.proofs.Sequence.{by_list, moves_keep}
use Rattle.rules_changer.specs.Along.{slots_in, OpenAlong, open_end, open_on, IsOwn, OneSession, SlotsAlong}

-- ---- one call
-- what the list is after a call: as it was, or after a move with the tape as it is
module _ (P : List ℕ → Type 0) (k : Kept) (stays : P (slots_in k))
    (moves : (cdb : List ℕ) (from to : ℕ) → move_medium cdb (slots_in k) k.session.tape.opened ≡ from_to from to → P (moved from to (slots_in k)))
  where
    abbrev Next : Kept → Type 0
    Next n = P (slots_in n)

    -- of the services that the changer is not in
    aside : {A : Type 0} (put : A → Done) → ((p : A) → P (slots_in (put p).kept)) → (o : Outcome A) → Accepts (λ _ (d : Done). Next d.kept) (onto put o)
    aside put f o = carried (λ _ (d : Done). Next d.kept) put o (accepts_any (λ _ p. Next (put p).kept) (λ _ p. f p) o)

    outcome_slots : (l : Lent) (r : List ℕ) (q : Request) → Accepts (λ _ (d : Done). Next d.kept) (outcome k l r q)
    unfolding outcome
    outcome_slots l r Request.Unknown = refusal_says (λ _ (d : Done). Next d.kept) _
    outcome_slots l r Request.Bad = refusal_says (λ _ (d : Done). Next d.kept) _
    outcome_slots l r (Request.Connect q) = aside (with_login k _) (λ _. stays) _
    outcome_slots l r (Request.Config q) = aside (with_login k _) (λ _. stays) _
    outcome_slots l r (Request.Scsi q) =
        carried (λ _ (d : Done). Next d.kept) (with_changer k _) _
        (by_slots P k.session.tape.opened k.session.changer q (body_of r) stays (λ cdb from to _ m. moves cdb from to m))
    outcome_slots l r (Request.Tape q) = aside (with_tape k) (λ _. stays) _
    outcome_slots l r (Request.Data q) = aside (with_data k q _ _) (λ _. stays) _
    outcome_slots l r (Request.Mover q) = aside (with_part k _) (λ _. stays) _
    outcome_slots l r (Request.Joint q) = aside (with_ends k) (λ _. stays) _

    request_slots : (l : Lent) (r : List ℕ) → Next (answered k l r).next
    request_slots l r = call_holds Next (λ x _ h. h) (λ x h. h) k l r stays (outcome_slots l r (request_in r))

    step_slots : ((slots : List ℕ) → P (list_for slots k.session)) → (e : Event) → Next (step e k)
    unfolding step
    step_slots lent e =
        by_asked (λ (x : Event). Next (step x k)) (λ c. request_slots c.lent c.ask.request) lent
        (λ x o. subst (λ (c : Changer). P c.slots) (sym (session_left k x o).changer) stays) e

-- ---- lists of calls are lists of moves
record MovesOf (k : Kept) (l : List ℕ) : Type 0 where
  moves : List MoveCall
  is : l ≡ after_moves (slots_in k) moves

-- a list that is set is not one that moves gave
not_lent : (P : Event → Type 0) → ((c : Call) → P (Asked c)) → ((e : Event) → IsUnasked e → P e) → (e : Event) → IsOwn e → P e
not_lent P asked rest =
    by_asked (λ (e : Event). IsOwn e → P e) (λ c _. asked c) (λ slots o. absurd o) (λ e u _. rest e u)

one_move : (k : Kept) (e : Event) → IsOwn e → MovesOf k (slots_in (step e k))
unfolding after_moves slots_after step
one_move k =
    let stays : MovesOf k (slots_in k) = record { moves = []; is = refl } in
    not_lent (λ (e : Event). MovesOf k (slots_in (step e k)))
    (λ c. request_slots (MovesOf k) k stays
    (λ cdb from to m.
    record { moves = record { cdb = cdb; opened = k.session.tape.opened } ∷ []; is = ap (slots_after (slots_in k)) (sym m) })
    c.lent c.ask.request)
    (λ e u. subst (λ (c : Changer). MovesOf k c.slots) (sym (session_left k e u).changer) stays)

moves_append : (slots : List ℕ) (a b : List MoveCall) → after_moves slots (a ++ b) ≡ after_moves (after_moves slots a) b
unfolding after_moves
moves_append slots [] b = refl
moves_append slots (m ∷ ms) b = moves_append (after_move slots m) ms b

all_moves : (k : Kept) (es : List Event) → OneSession es → MovesOf k (slots_in (runs k es))
unfolding runs after_moves
all_moves k [] o = record { moves = []; is = refl }
all_moves k (e ∷ es) o =
    let a = one_move k e o.0 in
    let b = all_moves (step e k) es o.1 in
    record {
      moves = a.moves ++ b.moves;
      is = b.is ∙ ap (λ (l : List ℕ). after_moves l b.moves) a.is ∙ sym (moves_append (slots_in k) a.moves b.moves);
    }

module _ (k : Kept) (es : List Event) (o : OneSession es) where
  abbrev ms : List MoveCall
  ms = (all_moves k es o).moves

  same : slots_in (runs k es) ≡ after_moves (slots_in k) ms
  same = (all_moves k es o).is

  long : length (slots_in (runs k es)) ≡ length (slots_in k)
  long = ap length same ∙ elements_hold.lists.long (slots_in k) ms

  same_times : length (slots_in k) ≡ 9 → (v : ℕ) → (v ≡ 0 → ⊥) → times v (slots_in (runs k es)) ≡ times v (slots_in k)
  same_times n v z = ap (times v) same ∙ elements_hold.lists.same_times (slots_in k) ms n v z

  in_one : length (slots_in k) ≡ 9 → names_none_twice (slots_in k) ≡ true → (v : ℕ) → (v ≡ 0 → ⊥) → (i : ℕ) → get_or (slots_in k) i 0 ≡ v
      → InOnePlace v (slots_in (runs k es))
  in_one n h v z i e = rw same (elements_hold.lists.in_one (slots_in k) ms n h v z i e)

-- ---- none twice, with any list set that may be
twice_once : (k : Kept) (e : Event) → names_none_twice (slots_in k) ≡ true → names_none_twice (slots_in (step e k)) ≡ true
unfolding slots_after
twice_once k e h =
    step_slots (λ (l : List ℕ). names_none_twice l ≡ true) k h
    (λ cdb from to m. ap names_none_twice (ap (slots_after (slots_in k)) (sym m)) ∙ none_twice_after cdb (slots_in k) k.session.tape.opened h)
    (λ slots. by_list (λ (l : List ℕ). names_none_twice l ≡ true) slots k.session h (λ n _. n)) e

none_twice : (k : Kept) (es : List Event) → names_none_twice (slots_in k) ≡ true → names_none_twice (slots_in (runs k es)) ≡ true
unfolding runs
none_twice k [] h = h
none_twice k (e ∷ es) h = none_twice (step e k) es (twice_once k e h)

-- ---- from open on
from_open : (slots : List ℕ) (time room : ℕ) (image variables : List ℕ) (es : List Event) → OneSession es → length slots ≡ 9 → (opening slots time room).code ≡ 0
    → (v : ℕ) → (v ≡ 0 → ⊥) → (i : ℕ) → get_or slots i 0 ≡ v → InOnePlace v (slots_in (after_open slots time room image variables es))
from_open slots time room image variables es o n c v z i e =
    by_opening
    (λ (a : Answered). a.code ≡ 0 → InOnePlace v (slots_in (runs (held a.next.session image variables) es)))
    slots time room (λ _ n h. absurd (n h)) (λ h _. in_one (held (opened_session slots) image variables) es o n h v z i e) c

-- ---- the drive while the tape is open
drive_once : (k : Kept) (e : Event) → k.session.tape.opened ≡ true → in_drive (slots_in (step e k)) ≡ in_drive (slots_in k)
unfolding slots_after
drive_once k e o =
    step_slots (λ (l : List ℕ). in_drive l ≡ in_drive (slots_in k)) k refl
    (λ cdb from to m.
    let open-move = rw o at m in
    ap in_drive (ap (slots_after (slots_in k)) (sym open-move)) ∙ drive_after cdb (slots_in k))
    (λ slots. by_list (λ (l : List ℕ). in_drive l ≡ in_drive (slots_in k)) slots k.session refl (λ _ same. same o))
    e

drive_stays : (k : Kept) (es : List Event) → OpenAlong k es → in_drive (slots_in (runs k es)) ≡ in_drive (slots_in k)
unfolding runs
drive_stays k [] open_end = refl
drive_stays k (e ∷ es) (open_on o rest) = drive_stays (step e k) es rest ∙ drive_once k e o

-- ---- a tape that is open has a cartridge
drive_full : (drive : ℕ) (t : Tape) → drive_wrong drive t ≡ false → t.opened ≡ true → drive ≡ 0 → ⊥
unfolding drive_wrong choose
drive_full drive t h o e =
    let g = rw (o, eq-eqb drive 0 e) at h in
    absurd (let z : ◌≡◌ {A = ℕ} 0 1 = cc in omega arith)

loaded : (k : Kept) (es : List Event) → keeps k.session ≡ true → (runs k es).session.tape.opened ≡ true → in_drive (slots_in (runs k es)) ≡ 0 → ⊥
loaded k es h o e =
    let s = (runs k es).session in
    drive_full (in_drive s.changer.slots) s.tape (kept_facts s (moves_keep.kept k es h)).drive o e

pub slots_along : SlotsAlong
slots_along =
    record {
      long = long;
      same_times = same_times;
      none_twice = none_twice;
      in_one = in_one;
      from_open = from_open;
      drive_stays = drive_stays;
      loaded = loaded;
    }
