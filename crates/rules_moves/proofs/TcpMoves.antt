-- Moves and events of an end by TCP, each by its chain of tests. Assumes nothing.
use Prim.Native.Nat.{ℕ}
use mathlib.Core.Bool.{Bool, true, false, not}
use mathlib.Core.List.{List}
use mathlib.Core.Path.{◌≡◌, refl, sym, ap, ◌∙◌}
use lib.ListN.{length}
use lib.Dec.{eqb}
use borrow.Author.Tests.{eq-eqb, ne_eqb, eqb-true}
use Rattle.xdr.specs.Choose.{choose}
use Rattle.tape_image.specs.Image.{entry_len, faulty}
use Rattle.tape_ops.specs.Step.{Step, keeping}
use Rattle.rules_parts.specs.declared.types.Data.{Data}
use Rattle.rules_parts.specs.declared.types.Mover.{Mover}
use Rattle.rules_parts.specs.declared.types.Tape.{Tape}
use Rattle.rules_parts.specs.Parts.{data_to, data_joined, mover_joined, mover_runs}
use Rattle.rules.specs.Joint.{source_joined, mover_joins}
use Rattle.rules_moves.specs.declared.Move.{Move}
use Rattle.rules_moves.specs.declared.Found.{Found}
use Rattle.rules_moves.specs.Moves.{idle, halts_with, fed_with, stream_ends, filling, to_tape, Handing, reading, on_found, sought, seeking, from_tape, method_end, at_tcp, made_at, lost_at, still}
use Rattle.rules_moves.specs.TcpMoves.{Quiet, MoverDown, SourceDown, NowAre, SameMove, TcpMoving, TcpEvents, TcpMoves}

-- the same test on both sides
both : {A B : Type 0} (P : A → B → Type 0) (b : Bool) (x y : A) (p q : B) → P x p → P y q → P (choose b x y) (choose b p q)
unfolding choose
both P true x y p q f g = f
both P false x y p q f g = g

-- ---- moves
module _ (m : Mover) (t : Tape) (a : m.address ≡ 1) where
  down : (d : Data) (dwhy mwhy : ℕ) → MoverDown mwhy d m t (halts_with dwhy mwhy d m t)
  unfolding halts_with choose
  down d dwhy mwhy =
      rw (eq-eqb m.address 1 a)
      (record { source = refl; mover = refl; tape = refl; mwhy = refl; dwhy = refl; quiet = record { count = refl; pause = refl } })

  module _ (d c : Data) where
    alike : (r q : Move) → r.mover ≡ q.mover → r.tape ≡ q.tape → r.count ≡ q.count → r.pause ≡ q.pause → r.mwhy ≡ q.mwhy → r.dwhy ≡ q.dwhy → SameMove r q
    alike r q e1 e2 e3 e4 e5 e6 = record { mover = e1; tape = e2; count = e3; pause = e4; mwhy = e5; dwhy = e6 }

    halts_alike : (dwhy mwhy : ℕ) → SameMove (halts_with dwhy mwhy d m t) (halts_with dwhy mwhy c m t)
    halts_alike dwhy mwhy =
        let p = down d dwhy mwhy in
        let q = down c dwhy mwhy in
        alike _ _ (p.mover ∙ sym q.mover) (p.tape ∙ sym q.tape) (p.quiet.count ∙ sym q.quiet.count) (p.quiet.pause ∙ sym q.quiet.pause)
        (p.mwhy ∙ sym q.mwhy) (p.dwhy ∙ sym q.dwhy)

    idle_alike : (mode operation : ℕ) → idle mode operation d m ≡ idle mode operation c m
    unfolding idle choose
    idle_alike mode operation = rw (eq-eqb m.address 1 a) refl

    Steps : Step Move → Step Move → Type 0
    Steps x y = SameMove x.gives y.gives × (x.image ≡ y.image)

    to_alike : (l s : List ℕ) (last : Bool) → Steps (to_tape d m t l s last) (to_tape c m t l s last)
    unfolding to_tape filling Steps
    to_alike l s last =
        rw (idle_alike 0 1)
        (both Steps _ _ _ _ _ (alike _ _ refl refl refl refl refl refl, refl)
        (both Steps _ _ _ _ _ (halts_alike 4 5, refl)
        (both Steps _ _ _ _ _ (halts_alike 1 1, refl)
        (both Steps _ _ _ _ _ (alike _ _ refl refl refl refl refl refl, refl)
        (both Steps _ _ _ _ _ (alike _ _ refl refl refl refl refl refl, refl)
        (both Steps _ _ _ _ _ (alike _ _ refl refl refl refl refl refl, refl) (alike _ _ refl refl refl refl refl refl, refl)))))))

    Hands : Handing → Handing → Type 0
    Hands x y = SameMove x.move y.move × (x.dest ≡ y.dest)

    found_alike : (f : Found) (l b : List ℕ) → Hands (on_found f d m t l b) (on_found f c m t l b)
    unfolding on_found reading Hands
    found_alike (Found.Target i) l b = both Hands _ _ _ _ _ (halts_alike 4 5, refl) (alike _ _ refl refl refl refl refl refl, refl)
    found_alike (Found.Mark j) l b = (alike _ _ refl refl refl refl refl refl, refl)
    found_alike Found.End l b = (alike _ _ refl refl refl refl refl refl, refl)

    from_alike : (l b : List ℕ) → Hands (from_tape d m t l b) (from_tape c m t l b)
    unfolding from_tape seeking Hands
    from_alike l b =
        rw (idle_alike 1 2)
        (both Hands _ _ _ _ _ (alike _ _ refl refl refl refl refl refl, refl)
        (both Hands _ _ _ _ _ (halts_alike 4 5, refl)
        (both Hands _ _ _ _ _ (alike _ _ refl refl refl refl refl refl, refl)
        (both Hands _ _ _ _ _ (alike _ _ refl refl refl refl refl refl, refl)
        (both Hands _ _ _ _ _ (alike _ _ refl refl refl refl refl refl, refl) (found_alike (sought m l) l b))))))

  module _ (d : Data) (s : m.state ≡ 2) (mode operation : ℕ) (e : m.mode ≡ mode) where
    runs_now : idle mode operation d m ≡ false
    unfolding idle choose
    runs_now = rw (eq-eqb m.state 2 s, eq-eqb m.mode mode e, eq-eqb m.address 1 a) refl

to_faults : (d : Data) (m : Mover) (t : Tape) (l s : List ℕ) (last : Bool) → m.address ≡ 1 → m.state ≡ 2 → m.mode ≡ 0 → faulty l t.position ≡ true
    → MoverDown 5 d m t (to_tape d m t l s last).gives
unfolding to_tape choose
to_faults d m t l s last a e o f = rw (runs_now m t a d e 0 1 o, f) (down m t a d 4 5)

to_ends : (d : Data) (m : Mover) (t : Tape) (l s : List ℕ) (last : Bool) → m.address ≡ 1 → m.state ≡ 2 → m.mode ≡ 0 → faulty l t.position ≡ false
    → stream_ends last (length s) ≡ true → MoverDown 1 d m t (to_tape d m t l s last).gives
unfolding to_tape choose
to_ends d m t l s last a e o f n = rw (runs_now m t a d e 0 1 o, f, n) (down m t a d 1 1)

from_faults : (d : Data) (m : Mover) (t : Tape) (l b : List ℕ) → m.address ≡ 1 → m.state ≡ 2 → m.mode ≡ 1 → faulty l t.position ≡ true
    → MoverDown 5 d m t (from_tape d m t l b).move
unfolding from_tape choose
from_faults d m t l b a e o f = rw (runs_now m t a d e 1 2 o, f) (down m t a d 4 5)

other_length : (i : ℕ) (d : Data) (m : Mover) (t : Tape) (l b : List ℕ) → m.address ≡ 1 → (entry_len l i ≡ m.size → ⊥)
    → MoverDown 5 d m t (reading i d m t l b).move
unfolding reading choose
other_length i d m t l b a n = rw (ne_eqb (entry_len l i) m.size n) (down m t a d 4 5)

method_ends : (ok : Bool) (d : Data) (m : Mover) (t : Tape) → d.address ≡ 1 → d.state ≡ 1 → SourceDown (choose ok 1 3) d m t (method_end ok d m t)
unfolding method_end choose
method_ends ok d m t a s =
    rw (eq-eqb d.state 1 s, eq-eqb d.address 1 a)
    (record { source = refl; mover = refl; tape = refl; dwhy = refl; mwhy = refl; quiet = record { count = refl; pause = refl } })

succeeds : (d : Data) (m : Mover) (t : Tape) → d.address ≡ 1 → d.state ≡ 1 → SourceDown 1 d m t (method_end true d m t)
unfolding choose
succeeds = method_ends true

fails : (d : Data) (m : Mover) (t : Tape) → d.address ≡ 1 → d.state ≡ 1 → SourceDown 3 d m t (method_end false d m t)
unfolding choose
fails = method_ends false

moving : TcpMoving
unfolding Steps Hands
moving =
    record {
      to_asks = λ d c m t l s last a. to_alike m t a d c l s last;
      from_asks = λ d c m t l b a. from_alike m t a d c l b;
      to_faults = to_faults;
      to_ends = to_ends;
      from_faults = from_faults;
      other_length = other_length;
      succeeds = succeeds;
      fails = fails;
    }

-- ---- events
-- an end that is not by TCP, or not in the state
away : (address : ℕ) (there : Bool) → (address ≡ 1 → there ≡ true → ⊥) → at_tcp address there ≡ false
unfolding at_tcp choose
away address true n = rw (ne_eqb address 1 (λ e. n e refl)) refl
away address false n = flat (eqb address 1)
  where
    flat : (b : Bool) → choose b false false ≡ false
    flat true = refl
    flat false = refl

here : (address : ℕ) (there : Bool) → address ≡ 1 → there ≡ true → at_tcp address there ≡ true
unfolding at_tcp choose
here address there a e = rw (eq-eqb address 1 a) e

events : TcpEvents
unfolding made_at lost_at choose
events =
    record {
      mover_made = λ d m t a s.
          rw (here m.address (eqb m.state 1) a (eq-eqb m.state 1 s), a)
          (record { source = refl; mover = refl; tape = refl; dwhy = refl; mwhy = refl; quiet = record { count = refl; pause = refl } });
      source_made = λ d m t a s.
          rw (here d.address (eqb d.state 3) a (eq-eqb d.state 3 s), a)
          (record { source = refl; mover = refl; tape = refl; dwhy = refl; mwhy = refl; quiet = record { count = refl; pause = refl } });
      mover_unmade = λ d m t n. rw (away m.address (eqb m.state 1) (λ a e. n a (eqb-true m.state 1 e))) refl;
      source_unmade = λ d m t n. rw (away d.address (eqb d.state 3) (λ a e. n a (eqb-true d.state 3 e))) refl;
      mover_lost = λ d m t a s.
          rw (here m.address (mover_joined m.state) a s)
          (record { source = refl; mover = refl; tape = refl; mwhy = refl; dwhy = refl; quiet = record { count = refl; pause = refl } });
      source_lost = λ d m t a s.
          rw (here d.address (data_joined d.state) a s)
          (record { source = refl; mover = refl; tape = refl; dwhy = refl; mwhy = refl; quiet = record { count = refl; pause = refl } });
      mover_unlost = λ d m t n. rw (away m.address (mover_joined m.state) n) refl;
      source_unlost = λ d m t n. rw (away d.address (data_joined d.state) n) refl;
    }

pub tcp_moves : TcpMoves
tcp_moves = record { moving = moving; events = events }
