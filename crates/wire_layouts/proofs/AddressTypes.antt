-- The type of an address, by the word at its offset. A word that is cut short has zero for its last byte, and is not TCP's. Assumes nothing.
use Prim.Native.Nat.{ℕ, ◌+◌, ◌^◌, ◌<◌}
use mathlib.Core.Bool.{false}
use mathlib.Core.Path.{◌≡◌, refl, sym, ap, ◌∙◌}
use mathlib.Core.List.{List, ◌++◌}
use native.Mathlib.Omega.{arith}
use lib.ListN.{length, get_or, get_or-eq_default}
use lib.Dec.{eqb, leb}
use borrow.Author.Tests.{leb-false, ne_eqb}
use Rattle.codes.specs.Codes.{tcp_address}
use Rattle.xdr.specs.Xdr as xdr
use Rattle.xdr.proofs.Tests.{by_test}
use Rattle.std.specs.Prelude.{Some, None}
use Rattle.xdr_opaque.specs.Opaque as o
use Rattle.xdr_opaque.proofs.Fields.{From, word_is}
use Rattle.xdr_opaque.proofs.Laws.{word_within, word_missing}
use Rattle.wire_layouts.specs.AddressLists.{is_tcp}

-- a word that is cut short is 256 times its other bytes
cut_short : (b : List ℕ) (at : ℕ) → length b < at + 4 → false ≡ eqb (xdr.word b at) tcp_address
unfolding xdr.word
cut_short b at h =
    let z : get_or b (at + 3) 0 ≡ 0 = get_or-eq_default b 0 (omega arith) in
    sym (ne_eqb (xdr.word b at) tcp_address (λ e. omega arith))

module _ (b : List ℕ) (at : ℕ) where
  pub type_judged : is_tcp b at ≡ eqb (xdr.word b at) tcp_address
  unfolding is_tcp
  type_judged =
      by_test (λ t. t ≡ eqb (xdr.word b at) tcp_address) (leb (at + 4) (length b)) (eqb (xdr.word b at) tcp_address) false (λ e. refl)
      (λ e. cut_short b at (leb-false _ _ e))

  pub type_found : (v : ℕ) → Some v ≡ o.word_at b at → eqb v tcp_address ≡ is_tcp b at
  type_found v e = sym (type_judged ∙ ap (λ (w : ℕ). eqb w tcp_address) (sym (word_within b at v e).1))

  pub type_missing : None ≡ o.word_at b at → false ≡ is_tcp b at
  type_missing e = cut_short b at (word_missing b at e) ∙ sym type_judged

-- of a body that was written
pub type_written : {b : List ℕ} {at : ℕ} (q : List ℕ) (v : ℕ) → From b at (xdr.be32 v ++ q) → v < 2 ^ 32 → is_tcp b at ≡ eqb v tcp_address
type_written {b} {at} q v f h = type_judged b at ∙ ap (λ (w : ℕ). eqb w tcp_address) (sym (word_is q v f h))
