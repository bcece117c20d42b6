-- A case that is run with the session's number read after each line comes to the same. Computed cases are run so: else antt computes the number anew wherever
-- it stands, each time from the first line on (nine requests took 11 s, and so 0.1 s). Assumes nothing.
use Prim.Native.Nat.{ℕ, zero, suc}
use mathlib.Core.List.{List, [], ◌∷◌}
use mathlib.Core.Path.{◌≡◌, refl, sym, ap, ◌∙◌}
use Rattle.rules.specs.Answer.{held}
use Rattle.rules_moves.specs.Sequence.{renumbered}
use Rattle.rules_moves.specs.Cases.{CaseLine, Case, Final, World, run_line, run_case, no_variables, known_session, begins, played, all_played}

-- a number is read, and handed on
unfoldable pub on_number : {A : Type 0} → ℕ → (ℕ → A) → A
on_number zero f = f zero
on_number (suc n) f = f (suc n)

pub on_number_lem : {A : Type 0} (n : ℕ) (f : ℕ → A) → on_number n f ≡ f n
unfolding on_number
on_number_lem zero f = refl
on_number_lem (suc n) f = refl

abbrev pub with_number : World → ℕ → World
with_number w n = record { kept = held (renumbered n w.kept.session) w.kept.image w.kept.variables; stream = w.stream }

unfoldable pub run_numbered : World → List CaseLine → Final
run_numbered w [] = record { shown = []; image = w.kept.image; position = w.kept.session.tape.position }
run_numbered w (l ∷ ls) =
    let n = run_line w l in
    let r = on_number n.world.kept.session.sequence (λ q. run_numbered (with_number n.world q) ls) in
    record { shown = n.shown ∷ r.shown; image = r.image; position = r.position }

pub run_numbered_lem : (w : World) (ls : List CaseLine) → run_case w ls ≡ run_numbered w ls
unfolding run_case run_numbered
run_numbered_lem w [] = refl
run_numbered_lem w (l ∷ ls) =
    let n = run_line w l in
    ap (λ r. record { shown = n.shown ∷ r.shown; image = r.image; position = r.position })
    (run_numbered_lem n.world ls ∙ sym (on_number_lem n.world.kept.session.sequence (λ q. run_numbered (with_number n.world q) ls)))

abbrev pub played_numbered : Case → Final
played_numbered c = run_numbered (begins known_session c.image no_variables c.stream) c.lines

abbrev pub all_numbered : List Case → List Final
all_numbered [] = []
all_numbered (c ∷ cs) = played_numbered c ∷ all_numbered cs

pub all_numbered_lem : (cs : List Case) → all_played cs ≡ all_numbered cs
all_numbered_lem [] = refl
all_numbered_lem (c ∷ cs) =
    ap (λ f. f ∷ all_played cs) (run_numbered_lem (begins known_session c.image no_variables c.stream) c.lines) ∙ ap (λ fs. played_numbered c ∷ fs) (all_numbered_lem cs)
