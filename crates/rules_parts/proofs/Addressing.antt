-- Types of addresses: which are wrong, and which ends have a partner. Assumes nothing.
use Rattle.std.proofs.Common.{◌≡◌, ℕ, ◌<◌, Bool, true, false, eqb, refl, arith, ne_eqb}
use Rattle.codes.specs.Codes.{local_address, tcp_address}
use Rattle.xdr.specs.Choose.{choose}
use Rattle.xdr.proofs.Tests.{by_test, unless}
use Rattle.rules_parts.specs.declared.types.Data.{Data}
use Rattle.rules_parts.specs.declared.types.Mover.{Mover}
use Rattle.rules_parts.specs.Parts.{data_joined, mover_joined, data_partnered, mover_partnered, address_wrong}

pub local_right : (useless : Bool) → address_wrong local_address useless ≡ false
unfolding address_wrong choose
local_right useless = refl

pub tcp_right : (useless : Bool) → address_wrong tcp_address useless ≡ useless
unfolding address_wrong choose
tcp_right useless = refl

pub other_wrong : (n : ℕ) (useless : Bool) → tcp_address < n → address_wrong n useless ≡ true
unfolding address_wrong choose
other_wrong n useless h = rw (ne_eqb n local_address (λ e. omega arith), ne_eqb n tcp_address (λ e. omega arith))

pub source_alone_lem : (d : Data) → d.address ≡ tcp_address → data_partnered d ≡ false
unfolding data_partnered choose
source_alone_lem d e = rw e

pub mover_alone_lem : (m : Mover) → m.address ≡ tcp_address → mover_partnered m ≡ false
unfolding mover_partnered choose
mover_alone_lem m e = rw e

pub source_joined : (d : Data) → d.address ≡ local_address → data_partnered d ≡ data_joined d.state
unfolding data_partnered choose
source_joined d e = rw e

pub mover_joined_lem : (m : Mover) → m.address ≡ local_address → mover_partnered m ≡ mover_joined m.state
unfolding mover_partnered choose
mover_joined_lem m e = rw e

-- a type that is right anywhere is right where TCP is of use
pub right_busy : (address : ℕ) (useless : Bool) → address_wrong address useless ≡ false → address_wrong address false ≡ false
unfolding address_wrong
right_busy address useless h =
    by_test (λ (b : Bool). b ≡ false) (eqb address local_address) _ _ (λ _. refl)
    (λ e. by_test (λ (b : Bool). b ≡ false) (eqb address tcp_address) _ _ (λ _. refl)
    (λ f. unless (eqb address tcp_address) _ (unless (eqb address local_address) _ h e) f))

-- an end that is not joined has no partner
pub source_none : (d : Data) → data_joined d.state ≡ false → data_partnered d ≡ false
unfolding data_partnered
source_none d h = by_test (λ (b : Bool). b ≡ false) (eqb d.address local_address) _ _ (λ _. h) (λ _. refl)

pub mover_none : (m : Mover) → mover_joined m.state ≡ false → mover_partnered m ≡ false
unfolding mover_partnered
mover_none m h = by_test (λ (b : Bool). b ≡ false) (eqb m.address local_address) _ _ (λ _. h) (λ _. refl)

-- an end that is joined as before, by the same type, has a partner as before
pub source_same : (d n : Data) → n.address ≡ d.address → data_joined n.state ≡ data_joined d.state → data_partnered n ≡ data_partnered d
unfolding data_partnered
source_same d n e j = rw (e, j)

pub mover_same : (m n : Mover) → n.address ≡ m.address → mover_joined n.state ≡ mover_joined m.state → mover_partnered n ≡ mover_partnered m
unfolding mover_partnered
mover_same m n e j = rw (e, j)
