-- What went in comes out: the backup, the rewind, the calls between, the recover. Assumes nothing.
use Rattle.rules_moves.specs.Events.{moved_to_tape}
use lib.ListN.{drop}
use Prim.Native.Nat.{ℕ, ◌*◌, ◌≤◌}
use mathlib.Core.Bool.{Bool, true, false}
use mathlib.Core.List.{List, [], ◌∷◌, ◌++◌}
use mathlib.Core.Path.{◌≡◌, refl, sym, ap, ◌∙◌}
use native.Mathlib.Omega.{arith}
use native.Mathlib.Nat.{zero-mul}
use Rattle.tape_image.specs.Image.{count, faulty}
use Rattle.tape_image.specs.Sound.{Placed}
use Rattle.tape_image.proofs.Laws.{placed}
use Rattle.rules_parts.specs.declared.types.Mover.{Mover}
use Rattle.rules_parts.specs.Parts.{rest_mover, mover_window, window_end}
use Rattle.rules.specs.Relation.{keeps}
use Rattle.rules.specs.Answer.{Kept}
use Rattle.rules.specs.Order.{Call}
use Rattle.rules.proofs.Keeping.{clash}
use Rattle.rules_moves.specs.Sequence.{Event, Asked, ToTape, FromTape, Ended, Made, Lost, Inserted, Renumbered, StoreLent, SlotsLent, step, runs}
use Rattle.rules_moves.proofs.Sequence.{stepped}
use Rattle.rules_annex.specs.Aside.{Untouched, Aside, Asides}
use Rattle.rules_annex.specs.RoundTrip.{filled_up, Backs, handed_by, handed_over, ComesOut}
use Rattle.rules_annex.proofs.Calls.{aside_stays}
use Rattle.rules_annex.proofs.Records.{holds_none, pad_whole}
use Rattle.rules_annex.proofs.Backup.{Backed, taped, stuck}
use Rattle.rules_annex.proofs.Rewind.{rewound}
use Rattle.rules_annex.proofs.Along.{Along}
use Rattle.rules_annex.proofs.Recover.{holds_in, recovered}

-- ---- before the backup nothing is taken
fill_empty : (size : ℕ) → [] ≡ filled_up size []
unfolding filled_up
fill_empty size = rw (pad_whole size 0 0 (sym (zero-mul size))) refl

none_backed : (size : ℕ) (stream l : List ℕ) (p : ℕ) → Placed l p → count l ≡ 0 → Backed size stream [] stream l p
none_backed size stream l p at e =
    let w = at.within in
    let z : p ≡ 0 = omega arith in
    record {
      joins = refl;
      holds = rw (← fill_empty size) (holds_none size l p at (e ∙ sym z) z);
      level = λ _. rw z (sym (zero-mul size));
    }

-- a tape that was rewound after the backup was sound before it, and stood at a place of its own
was_fine : (size : ℕ) (stream : List ℕ) (w : Kept) (es : List Event) → keeps w.session ≡ true → Backs size stream w es
    → faulty (runs w es).image (runs w es).session.tape.position ≡ false → (b : Bool) → faulty w.image w.session.tape.position ≡ b
    → Placed w.image w.session.tape.position
was_fine size stream w es h b f true e = clash _ f (stuck size stream w es h e b)
was_fine size stream w es h b f false e = placed w.image w.session.tape.position e

-- ---- between the rewind and the recover
record Stood (w v : Kept) : Type 0 where
  kept : keeps v.session ≡ true
  image : v.image ≡ w.image
  position : v.session.tape.position ≡ w.session.tape.position

stood_more : (w u v : Kept) → Untouched w u → Stood u v → Stood w v
stood_more w u v a b = record { kept = b.kept; image = b.image ∙ a.image; position = b.position ∙ a.position }

asides : (w : Kept) (es : List Event) → keeps w.session ≡ true → Asides w es → Stood w (runs w es)
unfolding runs
asides w [] h a = record { kept = h; image = refl; position = refl }
asides w (e ∷ es) h a = stood_more w (step e w) _ (aside_stays w h e a.0) (asides (step e w) es (stepped w h e).kept a.1)

-- ---- the recover's start
rest_along : (size first : ℕ) (m : Mover) (p : ℕ) → 1 ≤ size → m ≡ mover_window 0 first (rest_mover size) → p ≡ 0 → Along size 0 (window_end 0 first) 0 m p
rest_along size first m p some e z =
    let q : p * size ≡ 0 = rw z (zero-mul size) in
    rw e
    (record {
      sized = refl;
      seeks = refl;
      lefts = refl;
      low = omega arith;
      high = omega arith;
      window = λ _. record { ends = refl; from = omega arith; to = omega arith };
      fresh = λ _ _ _. refl;
      origin = λ s. absurd (omega arith);
    })

-- ---- only the recover hands anything over
aside_hands : (e : Event) (w : Kept) → Aside e w → handed_by e w ≡ []
aside_hands (Asked c) w a = refl
aside_hands (Ended l ok) w a = refl
aside_hands (Made l mover) w a = refl
aside_hands (Lost l mover) w a = refl
aside_hands (ToTape l part last) w a = refl
aside_hands (FromTape l dest) w a = rw a.0 refl
aside_hands (Inserted image) w a = refl
aside_hands (Renumbered n) w a = refl
aside_hands (StoreLent variables) w a = refl
aside_hands (SlotsLent slots) w a = refl

more_hands : (e : Event) (w : Kept) (es : List Event) → Aside e w → handed_over w (e ∷ es) ≡ handed_over (step e w) es
unfolding handed_over
more_hands e w es a = ap (λ (b : List ℕ). b ++ handed_over (step e w) es) (aside_hands e w a)

backs_hands : (size : ℕ) (rest : List ℕ) (w : Kept) (es fs : List Event) → Backs size rest w es → handed_over w (es ++ fs) ≡ handed_over (runs w es) fs
unfolding runs handed_over
backs_hands size rest w [] fs b = refl
backs_hands size rest w (ToTape l part last ∷ es) fs b = backs_hands size (drop (moved_to_tape w l part last).count rest) (step (ToTape l part last) w) es fs b.3
backs_hands size rest w (Asked c ∷ es) fs b = backs_hands size rest (step (Asked c) w) es fs b.1
backs_hands size rest w (Ended l ok ∷ es) fs b = backs_hands size rest (step (Ended l ok) w) es fs b.1
backs_hands size rest w (Made l mover ∷ es) fs b = backs_hands size rest (step (Made l mover) w) es fs b.1
backs_hands size rest w (Lost l mover ∷ es) fs b = backs_hands size rest (step (Lost l mover) w) es fs b.1
backs_hands size rest w (FromTape l dest ∷ es) fs b =
    more_hands (FromTape l dest) w (es ++ fs) b.0 ∙ backs_hands size rest (step (FromTape l dest) w) es fs b.1
backs_hands size rest w (Inserted image ∷ es) fs b = backs_hands size rest (step (Inserted image) w) es fs b.1
backs_hands size rest w (Renumbered n ∷ es) fs b = backs_hands size rest (step (Renumbered n) w) es fs b.1
backs_hands size rest w (StoreLent variables ∷ es) fs b = backs_hands size rest (step (StoreLent variables) w) es fs b.1
backs_hands size rest w (SlotsLent slots ∷ es) fs b = backs_hands size rest (step (SlotsLent slots) w) es fs b.1

asides_hand : (w : Kept) (es fs : List Event) → Asides w es → handed_over w (es ++ fs) ≡ handed_over (runs w es) fs
unfolding runs
asides_hand w [] fs a = refl
asides_hand w (e ∷ es) fs a = more_hands e w (es ++ fs) a.0 ∙ asides_hand (step e w) es fs a.1

asked_hands : (w : Kept) (c : Call) (es : List Event) → handed_over w (Asked c ∷ es) ≡ handed_over (step (Asked c) w) es
unfolding handed_over
asked_hands w c es = refl

pub comes_out : ComesOut
comes_out w size stream backup rewind times between first recover trip =
    let u = runs w backup in
    let v = step (Asked rewind) u in
    let x = runs v between in
    let r = rewound u rewind times trip.rewinds in
    let at = was_fine size stream w backup trip.session trip.backs r.2 (faulty w.image w.session.tape.position) refl in
    let b = taped size stream [] stream w backup trip.session (none_backed size stream w.image w.session.tape.position at trip.empty) trip.backs in
    let s = asides v between (stepped u b.kept (Asked rewind)).kept trip.aside in
    backs_hands size stream w backup (Asked rewind ∷ (between ++ recover)) trip.backs
    ∙ asked_hands u rewind (between ++ recover)
    ∙ asides_hand v between recover trip.aside
    ∙ recovered size (filled_up size stream) u.session.tape.position trip.some 0 (window_end 0 first) 0 x recover s.kept
    (holds_in size u.image x.image u.session.tape.position (filled_up size stream) (s.image ∙ r.0) b.holds)
    (rest_along size first x.session.mover x.session.tape.position trip.some trip.rests (s.position ∙ r.1))
    trip.recovers
