-- 02 No. 1, windows with no end: what set window accepts, where they end, and what get state tells of them.
use Rattle.std.specs.Prelude.{ℕ, ◌+◌, ◌%◌, ◌≤◌, not, [], ◌∷◌, ◌≡◌, eqb}
use Rattle.codes.specs.Codes.{illegal_arguments, illegal_state, precondition}
use Rattle.wire_replies.specs.declared.Reply.TheVariants.{Plain}
use Rattle.rules_parts.specs.declared.types.Mover.{Mover}
use Rattle.rules_parts.specs.Names.{top, endless}
use Rattle.rules.specs.Judge.{test, accept, judge}
use Rattle.rules_parts.specs.Parts.{rest_mover, mover_pauses, mover_window, mover_size, window_end, is_past_top}
use Rattle.rules.specs.MoverService.{mover_view, busy, elsewhere, set_window}

-- what get state tells of the window
pub record TellsWindow (offset length : ℕ) (m : Mover) : Type 0 where
  pub offsets : (mover_view m).offset ≡ offset
  pub lengths : (mover_view m).length ≡ length

pub record EndlessRules : Type 0 where
  -- "from the offset up to stream position 2^64 - 1, itself outside, whatever the record size"; every other as before
  pub ends : (offset : ℕ) → window_end offset endless ≡ top
  pub others : (offset length : ℕ) → (length ≡ endless → ⊥) → window_end offset length ≡ offset + length
  -- "the offset must still be a multiple"; "9 no longer tests this length or its sum". The offset is a hyper
  pub offset_alone : (m : Mover) (offset : ℕ) → offset ≤ top
      → set_window m offset endless
      ≡ judge
      (test (busy m.state) illegal_state
      ∷ test (eqb m.size 0) precondition
      ∷ test (not (eqb (offset % m.size) 0)) illegal_arguments
      ∷ test (elsewhere m.state m.mode m.moved offset) illegal_arguments
      ∷ [])
      (accept Plain (mover_window offset endless m))
  -- every other length is tested as it was
  pub length_too : (m : Mover) (offset length : ℕ) → (length ≡ endless → ⊥)
      → set_window m offset length
      ≡ judge
      (test (busy m.state) illegal_state
      ∷ test (eqb m.size 0) precondition
      ∷ test (eqb length 0) illegal_arguments
      ∷ test (not (eqb (offset % m.size) 0)) illegal_arguments
      ∷ test (not (eqb (length % m.size) 0)) illegal_arguments
      ∷ test (is_past_top offset length) illegal_arguments
      ∷ test (elsewhere m.state m.mode m.moved offset) illegal_arguments
      ∷ [])
      (accept Plain (mover_window offset length m))
  -- "Get state gives the length as sent", and 0, 0 of a void window
  pub told : (m : Mover) (offset length : ℕ) → TellsWindow offset length (mover_window offset length m)
  pub paused : (m : Mover) (why : ℕ) → TellsWindow 0 0 (mover_pauses why m)
  pub resized : (m : Mover) (size : ℕ) → TellsWindow 0 0 (mover_size size m)
  pub stopped : (size : ℕ) → TellsWindow 0 0 (rest_mover size)
