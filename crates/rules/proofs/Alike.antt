-- A spacing call on two sound cartridges of one n: no test of the call tells them apart, and behind the tests it is the promise of the tape. What the outcomes
-- are is compared first, then what is made of them. Assumes nothing.
use Prim.Native.Nat.{ℕ, ◌<◌}
use mathlib.Core.Bool.{Bool, true, false, not}
use mathlib.Core.List.{List, [], ◌∷◌}
use mathlib.Core.Path.{◌≡◌, refl, sym}
use native.Mathlib.Omega.{arith}
use lib.ListN.{length}
use lib.Dec.{eqb, ltb}
use Rattle.codes.specs.Codes.{store_length}
use Rattle.xdr.specs.Choose.{choose}
use Rattle.xdr.proofs.Tests.{by_test, by_both}
use Rattle.tape_image.specs.Image.{count}
use Rattle.tape_image.specs.Sound.{Sound}
use Rattle.tape_spacing.specs.declared.Spaced.{Spaced}
use Rattle.tape_spacing.specs.Spacing.{goes_forward}
use Rattle.tape_spacing.specs.Alike.{Passed, AgreeInKind}
use Rattle.tape_ops.specs.Operations.{mtio_step}
use Rattle.tape_ops.proofs.Promises as cartridge
use Rattle.wire_frame.specs.Frame.{well_framed, kind_of}
use Rattle.wire_requests.specs.declared.TapeRequest.TheVariants as TapeRequest
use Rattle.wire_requests.specs.declared.Request.{Request}
use Rattle.wire_requests.specs.declared.Request.TheVariants as Request
use Rattle.wire_replies.specs.declared.Reply.TheVariants as Reply
use Rattle.wire_replies.specs.Replies.{reply_bytes, shape_of}
use Rattle.rules_parts.specs.declared.types.Tape.{Tape}
use Rattle.rules_parts.specs.declared.types.Session.{Session}
use Rattle.rules_parts.specs.Names.{least_room}
use Rattle.rules.specs.Judge.{test, Outcome, refuse, accept, judge, onto}
use Rattle.rules_parts.specs.Parts.{holds_tape}
use Rattle.tape_ops.specs.Answers.{is_refusal}
use Rattle.rules.specs.TapeService.{Loaded, loaded, after_mtio, protects, tape_mtio, device_step, with_loaded, tape_step}
use Rattle.rules.specs.Relation.{keeps}
use Rattle.rules.specs.Answer.{Lent, held, Answered, guarded, room_of, answered, requested, judged, is_close, settled, verdict, is_locked, outcome}
use Rattle.rules.specs.Answer.{noticed, silent, closing, tape_part, with_tape, request_in}
use Rattle.rules.specs.Alike.{SameAnswer, SpacesAlike}
use Rattle.rules.proofs.Numbers.{refusal_facts, after_at}

-- nothing is passed from a position to itself
none_passed : (f : Bool) (p i : ℕ) → Passed f p p i → ⊥
none_passed true p i h = let a = h.0 in let b = h.1 in omega arith
none_passed false p i h = let a = h.0 in let b = h.1 in omega arith

-- where an outcome leaves the tape
abbrev left_at : ℕ → Outcome Loaded → ℕ
left_at p (refuse e) = p
left_at p (accept r n) = n.tape.position

-- one refusal, or one reply of MTIO and one tape, each with its own cartridge
data SameOutcome (l m : List ℕ) : Outcome Loaded → Outcome Loaded → Type 0 where
  refused : (e : ℕ) → SameOutcome l m (refuse e) (refuse e)
  accepted : (e n : ℕ) (t : Tape) → SameOutcome l m (accept (Reply.Mtio e n) (loaded t l)) (accept (Reply.Mtio e n) (loaded t m))

-- ---- the tape's outcome
-- behind the other tests: what was given, judged
abbrev given : Tape → ℕ → List ℕ → Spaced → Outcome Loaded
given t op image g =
    choose (is_refusal g.error) (refuse g.error) (accept (Reply.Mtio g.error g.residue) (loaded (after_mtio op g.position t) image))

given_same : (l m : List ℕ) (t : Tape) (op : ℕ) (g : Spaced) → SameOutcome l m (given t op l g) (given t op m g)
given_same l m t op g =
    by_both (SameOutcome l m) (is_refusal g.error) _ _ _ _ (λ _. refused g.error) (λ _. accepted g.error g.residue (after_mtio op g.position t))

module _ (l m : List ℕ) (a : Sound l) (b : Sound m) (one : count l ≡ count m) (t : Tape) (op times : ℕ) (other : op ≡ 5 → ⊥) where
  abbrev Agree : ℕ → Type 0
  Agree q = AgreeInKind (goes_forward op) t.position q l m

  Alike : Outcome Loaded → Outcome Loaded → Type 0
  Alike o o' = Agree (left_at t.position o) → SameOutcome l m o o'

  -- a refusal passes nothing
  agree_given : Agree (left_at t.position (given t op l (mtio_step l op t.position times).gives)) → Agree (mtio_step l op t.position times).gives.position
  agree_given =
      let g = (mtio_step l op t.position times).gives in
      by_test (λ (o : Outcome Loaded). Agree (left_at t.position o) → Agree g.position) (is_refusal g.error) _ _
      (λ e _ i. rw (((cartridge.promises).stand l t.position).mtio op times (refusal_facts _ e)) (λ h. absurd (none_passed (goes_forward op) t.position i h)))
      (λ e h. rw (after_at l op t.position times t e) at h)

  given_alike : Alike (given t op (mtio_step l op t.position times).image (mtio_step l op t.position times).gives)
      (given t op (mtio_step m op t.position times).image (mtio_step m op t.position times).gives)
  unfolding Alike
  given_alike =
      let p = t.position in
      rw (((cartridge.promises).leave l p).spacing op times other, ((cartridge.promises).leave m p).spacing op times other)
      (λ agree. rw (sym ((cartridge.promises).alike l m a b one op p times other (agree_given agree))) (given_same l m t op (mtio_step l op p times).gives))

  mtio_alike : (mover : ℕ) → Alike (tape_mtio mover t l op times) (tape_mtio mover t m op times)
  unfolding tape_mtio judge Alike
  mtio_alike mover =
      by_both Alike (not t.opened) _ _ _ _ (λ _ _. refused _)
      (λ _. by_both Alike (holds_tape mover) _ _ _ _ (λ _ _. refused _)
      (λ _. by_both Alike (protects op t.writable) _ _ _ _ (λ _ _. refused _) (λ _. given_alike)))

-- ---- the answer
module _ (s : Session) (l m v : List ℕ) (lent : Lent) (r : List ℕ) (q : Request) where
  -- what is made of the tape's outcome
  abbrev made : List ℕ → Outcome Loaded → Answered
  made image o = settled (held s image v) lent.time r q (onto (with_tape (held s image v)) (onto (with_loaded (tape_part (held s image v))) o))

  made_same : (o o' : Outcome Loaded) → SameOutcome l m o o' → SameAnswer l m v (made l o) (made m o')
  unfolding settled onto noticed choose reply_bytes shape_of
  made_same _ _ (refused e) =
      record { code = refl; reply = refl; notices = refl; session = refl; first_image = refl; second_image = refl; stores = (refl, refl) }
  made_same _ _ (accepted e n t) =
      record { code = refl; reply = refl; notices = refl; session = refl; first_image = refl; second_image = refl; stores = (refl, refl) }

  made_at : (o : Outcome Loaded) → (made l o).next.session.tape.position ≡ left_at s.tape.position o
  unfolding settled onto noticed choose
  made_at (refuse e) = refl
  made_at (accept reply n) = refl

module _ (s : Session) (l m v : List ℕ) (lent : Lent) (r : List ℕ) (op times : ℕ) (a : Sound l) (b : Sound m) (one : count l ≡ count m) (other : op ≡ 5 → ⊥) where
  -- what is shown of the two calls
  Answers : Answered → Answered → Type 0
  Answers x y = AgreeInKind (goes_forward op) s.tape.position x.next.session.tape.position l m → SameAnswer l m v x y

  abbrev q : Request
  q = Request.Tape (TapeRequest.Mtio op times)

  abbrev of_tape : List ℕ → Outcome Loaded
  of_tape image = tape_mtio s.mover.state s.tape image op times

  -- behind the login test
  served : Answers (made s l m v lent r q l (of_tape l)) (made s l m v lent r q m (of_tape m))
  unfolding Answers Alike
  served agree =
      made_same s l m v lent r q _ _ (mtio_alike l m a b one s.tape op times other s.mover.state (rw (made_at s l m v lent r q (of_tape l)) at agree))

  -- nothing done, and closing
  still : (code : ℕ) → Answers (silent code (held s l v)) (silent code (held s m v))
  unfolding Answers
  still code _ = record { code = refl; reply = refl; notices = refl; session = refl; first_image = refl; second_image = refl; stores = (refl, refl) }

  closes : Answers (closing (held s l v)) (closing (held s m v))
  unfolding Answers
  closes _ = record { code = refl; reply = refl; notices = refl; session = refl; first_image = refl; second_image = refl; stores = (refl, refl) }

  -- the login test
  behind_login : (locked : Bool)
      → Answers (settled (held s l v) lent.time r q (judge (test locked 4 ∷ []) (outcome (held s l v) lent r q)))
      (settled (held s m v) lent.time r q (judge (test locked 4 ∷ []) (outcome (held s m v) lent r q)))
  unfolding Answers judge choose outcome onto tape_step device_step
  behind_login true = λ _. made_same s l m v lent r q _ _ (refused 4)
  behind_login false = served

  judges : Answers (judged (held s l v) lent r q) (judged (held s m v) lent r q)
  unfolding judged is_close choose verdict
  judges = behind_login (is_locked s.login q)

  calls : request_in r ≡ q → Answers (answered (held s l v) lent r) (answered (held s m v) lent r)
  unfolding answered guarded room_of requested
  calls e =
      by_both Answers (ltb (choose (eqb (length v) store_length) lent.room 0) least_room) _ _ _ _ (λ _. still _)
      (λ _. by_both Answers (not (keeps s)) _ _ _ _ (λ _. still _)
      (λ _. by_both Answers s.closed _ _ _ _ (λ _. still _)
      (λ _. by_both Answers (well_framed r) _ _ _ _
      (λ _. by_both Answers (not (eqb (kind_of r) 0)) _ _ _ _ (λ _. still _) (λ _. rw e judges))
      (λ _. closes))))

pub spaces_alike : SpacesAlike
unfolding Answers
spaces_alike s l m v lent r op times a b one e other = calls s l m v lent r op times a b one other e
