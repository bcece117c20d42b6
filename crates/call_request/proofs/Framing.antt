-- What a record was found to be, and its body. Assumes nothing.
use Prim.Native.Nat.{ℕ, ◌-◌}
use mathlib.Core.Bool.{Bool, true, false, not}
use mathlib.Core.List.{List}
use mathlib.Core.Path.{◌≡◌, refl, ap}
use native.Mathlib.Omega.{arith}
use lib.ListN.{length, take, drop}
use lib.Dec.{eqb}
use Rattle.xdr.specs.Choose.{choose}
use Rattle.xdr.specs.Xdr.{word}
use Rattle.xdr.proofs.Laws.{rest}
use Rattle.wire_frame.specs.Frame.{well_framed, kind_of, framed}
use Rattle.std.specs.declared.result.Result.TheVariants.{Ok, Err}
use Rattle.wire_frame.specs.declared.Frame.{Frame}
use Rattle.wire_frame.specs.declared.Unframed.TheVariants.{Broken, NotRequest}

-- the body of a record, as the part of it that is lent
pub body_is : (r : List ℕ) → take (length r - 28) (drop 28 r) ≡ drop 28 r
body_is r = rest 28 r

-- what a record was found to be
broken_by : (w k : Bool) (f : Frame) → Err Broken ≡ choose w (choose k (Ok f) (Err NotRequest)) (Err Broken) → w ≡ false
unfolding choose
broken_by true true f e = absurd (let z : ◌≡◌ {A = ℕ} 0 1 = cc in omega arith)
broken_by true false f e = absurd (let z : ◌≡◌ {A = ℕ} 0 1 = cc in omega arith)
broken_by false k f e = refl

other_by : (w k : Bool) (f : Frame) → Err NotRequest ≡ choose w (choose k (Ok f) (Err NotRequest)) (Err Broken) → (w ≡ true) × (not k ≡ true)
unfolding choose
other_by true true f e = absurd (let z : ◌≡◌ {A = ℕ} 0 1 = cc in omega arith)
other_by true false f e = (refl, refl)
other_by false k f e = absurd (let z : ◌≡◌ {A = ℕ} 0 1 = cc in omega arith)

request_by : (w k : Bool) (f f' : Frame) → Ok f' ≡ choose w (choose k (Ok f) (Err NotRequest)) (Err Broken) → (w ≡ true) × (not k ≡ false) × (f' ≡ f)
unfolding choose
request_by true true f f' e = (refl, refl, cc)
request_by true false f f' e = absurd (let z : ◌≡◌ {A = ℕ} 0 1 = cc in omega arith)
request_by false k f f' e = absurd (let z : ◌≡◌ {A = ℕ} 0 1 = cc in omega arith)

module _ (r : List ℕ) where
  pub frame_broken : Err Broken ≡ framed r → well_framed r ≡ false
  unfolding framed
  frame_broken e = broken_by (well_framed r) (eqb (kind_of r) 0) _ e

  pub frame_other : Err NotRequest ≡ framed r → (well_framed r ≡ true) × (not (eqb (kind_of r) 0) ≡ true)
  unfolding framed
  frame_other e = other_by (well_framed r) (eqb (kind_of r) 0) _ e

  pub frame_request : (f : Frame) → Ok f ≡ framed r → (well_framed r ≡ true) × (not (eqb (kind_of r) 0) ≡ false) × (f.message ≡ word r 16)
  unfolding framed
  frame_request f e =
      let t = request_by (well_framed r) (eqb (kind_of r) 0) _ f e in
      (t.0, t.1, ap (λ (f : Frame). f.message) t.2)
