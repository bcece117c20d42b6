-- The premises decided by a computed test, and that the test tells right: for an instance that is computed. Assumes nothing.
use Prim.Native.Nat.{ℕ, ◌+◌}
use mathlib.Core.Bool.{Bool, true, false}
use mathlib.Core.List.{List, [], ◌∷◌}
use mathlib.Core.Path.{◌≡◌, refl}
use native.Mathlib.Omega.{arith}
use lib.ListN.{length, take, drop}
use lib.Dec.{eqb}
use borrow.Author.Tests.{eqb-true, ne_eqb}
use Rattle.xdr.specs.Choose.{choose}
use Rattle.xdr.specs.Xdr.{same_bytes}
use Rattle.xdr.proofs.Comparing.{same_is}
use Rattle.wire_requests.specs.declared.Request.{Request}
use Rattle.wire_requests.specs.declared.Request.TheVariants as Request
use Rattle.rules.specs.Answer.{Kept, request_in}
use Rattle.rules_moves.specs.Events.{Moving, moved_to_tape, moved_from_tape}
use Rattle.rules_moves.specs.Sequence.{Event, Asked, ToTape, FromTape, Ended, Made, Lost, Inserted, Renumbered, StoreLent, SlotsLent, step}
use Rattle.rules_annex.specs.Aside.{Untouched, AsideRequest, Aside, Asides, AtSize}
use Rattle.rules_annex.specs.Used.{Feeds}
use Rattle.rules_annex.specs.RoundTrip.{Backs, Noted, Window, Read, Reset, Other, noted, InTurn, asked_after, end_after, Recovers}

no : {A : Type 0} → false ≡ true → A
no e = absurd (let z : ◌≡◌ {A = ℕ} 0 1 = cc in omega arith)

both : (t : Bool) {r : Bool} → choose t r false ≡ true → (t ≡ true) × (r ≡ true)
unfolding choose
both true h = (refl, h)
both false h = no h

-- ---- calls that leave the tape alone
unfoldable pub untouched : Kept → Kept → Bool
untouched w v = choose (eqb v.session.tape.position w.session.tape.position) (same_bytes v.image w.image) false

is_untouched : (w v : Kept) → untouched w v ≡ true → Untouched w v
unfolding untouched
is_untouched w v h =
    let b = both (eqb v.session.tape.position w.session.tape.position) h in
    record { position = eqb-true _ _ b.0; image = same_is v.image w.image b.1 }

unfoldable pub aside_request : Request → Kept → Kept → Bool
aside_request (Request.Tape q) w v = untouched w v
aside_request (Request.Connect q) w v = true
aside_request (Request.Config q) w v = true
aside_request (Request.Scsi q) w v = true
aside_request (Request.Data q) w v = true
aside_request (Request.Mover q) w v = true
aside_request (Request.Joint q) w v = true
aside_request Request.Unknown w v = true
aside_request Request.Bad w v = true

request_aside : (q : Request) (w v : Kept) → aside_request q w v ≡ true → AsideRequest q w v
unfolding aside_request
request_aside (Request.Tape q) w v h = is_untouched w v h
request_aside (Request.Connect q) w v h = tt
request_aside (Request.Config q) w v h = tt
request_aside (Request.Scsi q) w v h = tt
request_aside (Request.Data q) w v h = tt
request_aside (Request.Mover q) w v h = tt
request_aside (Request.Joint q) w v h = tt
request_aside Request.Unknown w v h = tt
request_aside Request.Bad w v h = tt

unfoldable pub aside : Event → Kept → Bool
aside (Asked c) w = aside_request (request_in c.ask.request) w (step (Asked c) w)
aside (Ended l ok) w = true
aside (Made l mover) w = true
aside (Lost l mover) w = true
aside (ToTape l part last) w = eqb (moved_to_tape w l part last).count 0
aside (FromTape l dest) w = choose (eqb (moved_from_tape w l dest).count 0) (untouched w (step (FromTape l dest) w)) false
aside (Inserted image) w = same_bytes image w.image
aside (Renumbered n) w = true
aside (StoreLent variables) w = true
aside (SlotsLent slots) w = true

is_aside : (e : Event) (w : Kept) → aside e w ≡ true → Aside e w
unfolding aside
is_aside (Asked c) w h = request_aside (request_in c.ask.request) w (step (Asked c) w) h
is_aside (Ended l ok) w h = tt
is_aside (Made l mover) w h = tt
is_aside (Lost l mover) w h = tt
is_aside (ToTape l part last) w h = eqb-true (moved_to_tape w l part last).count 0 h
is_aside (FromTape l dest) w h =
    let b = both (eqb (moved_from_tape w l dest).count 0) h in
    (eqb-true (moved_from_tape w l dest).count 0 b.0, is_untouched w (step (FromTape l dest) w) b.1)
is_aside (Inserted image) w h = same_is image w.image h
is_aside (Renumbered n) w h = tt
is_aside (StoreLent variables) w h = tt
is_aside (SlotsLent slots) w h = tt

unfoldable pub asides : Kept → List Event → Bool
asides w [] = true
asides w (e ∷ es) = choose (aside e w) (asides (step e w) es) false

pub asides_hold : (w : Kept) (es : List Event) → asides w es ≡ true → Asides w es
unfolding asides
asides_hold w [] h = tt
asides_hold w (e ∷ es) h = let b = both (aside e w) h in (is_aside e w b.0, asides_hold (step e w) es b.1)

-- ---- the backup
unfoldable pub is_at_size : ℕ → Kept → Moving → Bool
is_at_size size w e = choose (eqb e.count 0) true (eqb w.session.mover.size size)

sized : (a b : Bool) → choose a true b ≡ true → a ≡ false → b ≡ true
unfolding choose
sized true b h e = no (rw e refl)
sized false b h e = h

unfoldable pub lasts : Bool → List ℕ → List ℕ → Bool
lasts true part rest = same_bytes part rest
lasts false part rest = true

marked : (last : Bool) (part rest : List ℕ) → lasts last part rest ≡ true → last ≡ true → part ≡ rest
unfolding lasts
marked true part rest h e = same_is part rest h
marked false part rest h e = no e

unfoldable pub backs : ℕ → List ℕ → Kept → List Event → Bool
backs size rest w [] = same_bytes rest []
backs size rest w (ToTape l part last ∷ es) =
    choose (same_bytes part (take (length part) rest))
    (choose (lasts last part rest)
    (choose (is_at_size size w (moved_to_tape w l part last))
    (backs size (drop (moved_to_tape w l part last).count rest) (step (ToTape l part last) w) es)
    false) false) false
backs size rest w (Asked c ∷ es) = choose (aside (Asked c) w) (backs size rest (step (Asked c) w) es) false
backs size rest w (Ended l ok ∷ es) = choose (aside (Ended l ok) w) (backs size rest (step (Ended l ok) w) es) false
backs size rest w (Made l mover ∷ es) = choose (aside (Made l mover) w) (backs size rest (step (Made l mover) w) es) false
backs size rest w (Lost l mover ∷ es) = choose (aside (Lost l mover) w) (backs size rest (step (Lost l mover) w) es) false
backs size rest w (FromTape l dest ∷ es) = choose (aside (FromTape l dest) w) (backs size rest (step (FromTape l dest) w) es) false
backs size rest w (Inserted image ∷ es) = choose (aside (Inserted image) w) (backs size rest (step (Inserted image) w) es) false
backs size rest w (Renumbered n ∷ es) = choose (aside (Renumbered n) w) (backs size rest (step (Renumbered n) w) es) false
backs size rest w (StoreLent variables ∷ es) = choose (aside (StoreLent variables) w) (backs size rest (step (StoreLent variables) w) es) false
backs size rest w (SlotsLent slots ∷ es) = choose (aside (SlotsLent slots) w) (backs size rest (step (SlotsLent slots) w) es) false

at_size : (size : ℕ) (w : Kept) (e : Moving) → is_at_size size w e ≡ true → AtSize size w e
unfolding is_at_size
at_size size w e h n = eqb-true w.session.mover.size size (sized (eqb e.count 0) _ h (ne_eqb e.count 0 n))

pub backs_hold : (size : ℕ) (rest : List ℕ) (w : Kept) (es : List Event) → backs size rest w es ≡ true → Backs size rest w es
unfolding backs
backs_hold size rest w [] h = same_is rest [] h
backs_hold size rest w (ToTape l part last ∷ es) h =
    let a = both (same_bytes part (take (length part) rest)) h in
    let b = both (lasts last part rest) a.1 in
    let c = both (is_at_size size w (moved_to_tape w l part last)) b.1 in (
      same_is part (take (length part) rest) a.0,
      marked last part rest b.0,
      at_size size w (moved_to_tape w l part last) c.0,
      backs_hold size (drop (moved_to_tape w l part last).count rest) (step (ToTape l part last) w) es c.1,
    )
backs_hold size rest w (Asked c ∷ es) h = let b = both (aside (Asked c) w) h in (is_aside (Asked c) w b.0, backs_hold size rest (step (Asked c) w) es b.1)
backs_hold size rest w (Ended l ok ∷ es) h = let b = both (aside (Ended l ok) w) h in (is_aside (Ended l ok) w b.0, backs_hold size rest (step (Ended l ok) w) es b.1)
backs_hold size rest w (Made l mover ∷ es) h = let b = both (aside (Made l mover) w) h in (is_aside (Made l mover) w b.0, backs_hold size rest (step (Made l mover) w) es b.1)
backs_hold size rest w (Lost l mover ∷ es) h = let b = both (aside (Lost l mover) w) h in (is_aside (Lost l mover) w b.0, backs_hold size rest (step (Lost l mover) w) es b.1)
backs_hold size rest w (FromTape l dest ∷ es) h =
    let b = both (aside (FromTape l dest) w) h in
    (is_aside (FromTape l dest) w b.0, backs_hold size rest (step (FromTape l dest) w) es b.1)
backs_hold size rest w (Inserted image ∷ es) h =
    let b = both (aside (Inserted image) w) h in
    (is_aside (Inserted image) w b.0, backs_hold size rest (step (Inserted image) w) es b.1)
backs_hold size rest w (Renumbered n ∷ es) h =
    let b = both (aside (Renumbered n) w) h in
    (is_aside (Renumbered n) w b.0, backs_hold size rest (step (Renumbered n) w) es b.1)
backs_hold size rest w (StoreLent variables ∷ es) h =
    let b = both (aside (StoreLent variables) w) h in
    (is_aside (StoreLent variables) w b.0, backs_hold size rest (step (StoreLent variables) w) es b.1)
backs_hold size rest w (SlotsLent slots ∷ es) h =
    let b = both (aside (SlotsLent slots) w) h in
    (is_aside (SlotsLent slots) w b.0, backs_hold size rest (step (SlotsLent slots) w) es b.1)

-- a backup feeds the tape
pub backs_feed : (size : ℕ) (rest : List ℕ) (w : Kept) (es : List Event) → Backs size rest w es → Feeds size w es
backs_feed size rest w [] b = tt
backs_feed size rest w (ToTape l part last ∷ es) b = (b.2, backs_feed size (drop (moved_to_tape w l part last).count rest) (step (ToTape l part last) w) es b.3)
backs_feed size rest w (Asked c ∷ es) b = (b.0, backs_feed size rest (step (Asked c) w) es b.1)
backs_feed size rest w (Ended l ok ∷ es) b = (b.0, backs_feed size rest (step (Ended l ok) w) es b.1)
backs_feed size rest w (Made l mover ∷ es) b = (b.0, backs_feed size rest (step (Made l mover) w) es b.1)
backs_feed size rest w (Lost l mover ∷ es) b = (b.0, backs_feed size rest (step (Lost l mover) w) es b.1)
backs_feed size rest w (FromTape l dest ∷ es) b = (b.0, backs_feed size rest (step (FromTape l dest) w) es b.1)
backs_feed size rest w (Inserted image ∷ es) b = (b.0, backs_feed size rest (step (Inserted image) w) es b.1)
backs_feed size rest w (Renumbered n ∷ es) b = (b.0, backs_feed size rest (step (Renumbered n) w) es b.1)
backs_feed size rest w (StoreLent variables ∷ es) b = (b.0, backs_feed size rest (step (StoreLent variables) w) es b.1)
backs_feed size rest w (SlotsLent slots ∷ es) b = (b.0, backs_feed size rest (step (SlotsLent slots) w) es b.1)

-- ---- the recover
unfoldable pub in_turn : ℕ → ℕ → ℕ → Noted → Bool
in_turn asked end given (Window offset length) = choose (eqb offset end) (eqb end given) false
in_turn asked end given (Read offset length) = eqb offset asked
in_turn asked end given Reset = false
in_turn asked end given Other = true

in_turn_lem : (asked end given : ℕ) (x : Noted) → in_turn asked end given x ≡ true → InTurn asked end given x
unfolding in_turn
in_turn_lem asked end given (Window offset length) h = let b = both (eqb offset end) h in (eqb-true offset end b.0, eqb-true end given b.1)
in_turn_lem asked end given (Read offset length) h = eqb-true offset asked h
in_turn_lem asked end given Reset h = no h
in_turn_lem asked end given Other h = tt

unfoldable pub recovers : ℕ → ℕ → ℕ → ℕ → Kept → List Event → Bool
recovers total asked end given w [] = choose (eqb asked total) (eqb w.session.mover.left 0) false
recovers total asked end given w (FromTape l dest ∷ es) = recovers total asked end (given + (moved_from_tape w l dest).count) (step (FromTape l dest) w) es
recovers total asked end given w (Asked c ∷ es) =
    choose (aside (Asked c) w)
    (choose (in_turn asked end given (noted w c))
    (recovers total (asked_after asked (noted w c)) (end_after end (noted w c)) given (step (Asked c) w) es)
    false) false
recovers total asked end given w (Ended l ok ∷ es) = choose (aside (Ended l ok) w) (recovers total asked end given (step (Ended l ok) w) es) false
recovers total asked end given w (Made l mover ∷ es) = choose (aside (Made l mover) w) (recovers total asked end given (step (Made l mover) w) es) false
recovers total asked end given w (Lost l mover ∷ es) = choose (aside (Lost l mover) w) (recovers total asked end given (step (Lost l mover) w) es) false
recovers total asked end given w (ToTape l part last ∷ es) = choose (aside (ToTape l part last) w) (recovers total asked end given (step (ToTape l part last) w) es) false
recovers total asked end given w (Inserted image ∷ es) = choose (aside (Inserted image) w) (recovers total asked end given (step (Inserted image) w) es) false
recovers total asked end given w (Renumbered n ∷ es) = choose (aside (Renumbered n) w) (recovers total asked end given (step (Renumbered n) w) es) false
recovers total asked end given w (StoreLent variables ∷ es) = choose (aside (StoreLent variables) w) (recovers total asked end given (step (StoreLent variables) w) es) false
recovers total asked end given w (SlotsLent slots ∷ es) = choose (aside (SlotsLent slots) w) (recovers total asked end given (step (SlotsLent slots) w) es) false

pub recovers_hold : (total asked end given : ℕ) (w : Kept) (es : List Event) → recovers total asked end given w es ≡ true → Recovers total asked end given w es
unfolding recovers
recovers_hold total asked end given w [] h = let b = both (eqb asked total) h in (eqb-true asked total b.0, eqb-true w.session.mover.left 0 b.1)
recovers_hold total asked end given w (FromTape l dest ∷ es) h = recovers_hold total asked end (given + (moved_from_tape w l dest).count) (step (FromTape l dest) w) es h
recovers_hold total asked end given w (Asked c ∷ es) h =
    let a = both (aside (Asked c) w) h in
    let b = both (in_turn asked end given (noted w c)) a.1 in
    (is_aside (Asked c) w a.0, in_turn_lem asked end given (noted w c) b.0, recovers_hold total (asked_after asked (noted w c)) (end_after end (noted w c)) given (step (Asked c) w) es b.1)
recovers_hold total asked end given w (Ended l ok ∷ es) h =
    let b = both (aside (Ended l ok) w) h in
    (is_aside (Ended l ok) w b.0, recovers_hold total asked end given (step (Ended l ok) w) es b.1)
recovers_hold total asked end given w (Made l mover ∷ es) h =
    let b = both (aside (Made l mover) w) h in
    (is_aside (Made l mover) w b.0, recovers_hold total asked end given (step (Made l mover) w) es b.1)
recovers_hold total asked end given w (Lost l mover ∷ es) h =
    let b = both (aside (Lost l mover) w) h in
    (is_aside (Lost l mover) w b.0, recovers_hold total asked end given (step (Lost l mover) w) es b.1)
recovers_hold total asked end given w (ToTape l part last ∷ es) h =
    let b = both (aside (ToTape l part last) w) h in
    (is_aside (ToTape l part last) w b.0, recovers_hold total asked end given (step (ToTape l part last) w) es b.1)
recovers_hold total asked end given w (Inserted image ∷ es) h =
    let b = both (aside (Inserted image) w) h in
    (is_aside (Inserted image) w b.0, recovers_hold total asked end given (step (Inserted image) w) es b.1)
recovers_hold total asked end given w (Renumbered n ∷ es) h =
    let b = both (aside (Renumbered n) w) h in
    (is_aside (Renumbered n) w b.0, recovers_hold total asked end given (step (Renumbered n) w) es b.1)
recovers_hold total asked end given w (StoreLent variables ∷ es) h =
    let b = both (aside (StoreLent variables) w) h in
    (is_aside (StoreLent variables) w b.0, recovers_hold total asked end given (step (StoreLent variables) w) es b.1)
recovers_hold total asked end given w (SlotsLent slots ∷ es) h =
    let b = both (aside (SlotsLent slots) w) h in
    (is_aside (SlotsLent slots) w b.0, recovers_hold total asked end given (step (SlotsLent slots) w) es b.1)
