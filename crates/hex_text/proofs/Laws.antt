-- The laws of `hex_held`: what the reader knows at a place of the text (`Reading`), and what each turn makes of it. Assumes nothing.
use Prim.Native.Nat.{ℕ, ◌+◌, ◌-◌, ◌*◌, ◌≤◌, ◌<◌}
use native.Mathlib.Numerals.{add-one}
use native.Mathlib.Omega.{arith}
use mathlib.Core.Bool.{true, false}
use mathlib.Core.List.{List, [], ◌∷◌, ◌++◌, append_assoc, append-nil}
use mathlib.Core.Path.{◌≡◌, refl, sym, ap, ◌∙◌}
use lib.ListN.{length, take, drop, get_or, set, length-set, drop_of_length-le}
use lib.Seq.{drop-cons, take-suc-set}
use borrow.Author.Tests.{eq-eqb, ne_eqb}
use Rattle.std.specs.Prelude.{Some, None, Result, Ok, Err}
use Rattle.xdr.specs.Choose.{choose}
use Rattle.xdr.proofs.Tests.{leb_yes, leb_no, ltb_yes, ltb_no, pick_if, pick_else}
use Rattle.hex_text.specs.Hex.{digit_of, joined, pair_of, blank_of, put_before, held_first, hex_held, said_of, Reads}
use Rattle.hex_text.specs.declared.HexError.{HexError}
use Rattle.hex_text.specs.declared.HexError.TheVariants.{NotHex, NoRoom}

-- ---- digits, pairs of them, and blanks, by what is known of their values
pub digit_low : (c : ℕ) → 48 ≤ c → c ≤ 57 → Some (c - 48) ≡ digit_of c
unfolding digit_of
digit_low c h k = pick_else _ (ltb_no h) (pick_if _ (leb_yes k) refl)

pub digit_high : (c : ℕ) → 97 ≤ c → c ≤ 102 → Some (c - 97 + 10) ≡ digit_of c
unfolding digit_of
digit_high c h k =
    let e : c - 97 + 10 ≡ c - 87 = omega arith in
    let a : 48 ≤ c = omega arith in
    let b : 57 < c = omega arith in
    rw e (pick_else _ (ltb_no a) (pick_else _ (leb_no b) (pick_else _ (ltb_no h) (pick_if _ (leb_yes k) refl))))

pub digit_before : (c : ℕ) → c < 48 → None ≡ digit_of c
unfolding digit_of
digit_before c h = pick_if _ (ltb_yes h) refl

pub digit_between : (c : ℕ) → 57 < c → c < 97 → None ≡ digit_of c
unfolding digit_of
digit_between c h k =
    let a : 48 ≤ c = omega arith in
    pick_else _ (ltb_no a) (pick_else _ (leb_no h) (pick_if _ (ltb_yes k) refl))

pub digit_after : (c : ℕ) → 102 < c → None ≡ digit_of c
unfolding digit_of
digit_after c h =
    let a : 48 ≤ c = omega arith in
    let b : 57 < c = omega arith in
    let d : 97 ≤ c = omega arith in
    pick_else _ (ltb_no a) (pick_else _ (leb_no b) (pick_else _ (ltb_no d) (pick_else _ (leb_no h) refl)))

pub ruleset digits = (digit_low, digit_high, digit_before, digit_between, digit_after)

pub pair_no_high : (a b : ℕ) → digit_of a ≡ None → pair_of a b ≡ None
unfolding pair_of joined
pair_no_high a b e = rw e

pub pair_no_low : (a b v : ℕ) → digit_of a ≡ Some v → digit_of b ≡ None → pair_of a b ≡ None
unfolding pair_of joined
pair_no_low a b v e f = rw (e, f)

pub pair_both : (a b v w : ℕ) → digit_of a ≡ Some v → digit_of b ≡ Some w → pair_of a b ≡ Some (v * 16 + w)
unfolding pair_of joined
pair_both a b v w e f = rw (e, f)

pub ruleset pairs = (pair_no_high, pair_no_low, pair_both)

pub blank_space : (c : ℕ) → c ≡ 32 → blank_of c ≡ true
unfolding blank_of choose
blank_space c e = rw e

pub blank_line : (c : ℕ) → c ≡ 10 → blank_of c ≡ true
unfolding blank_of choose
blank_line c e = rw e

pub blank_not : (c : ℕ) → (c ≡ 32 → ⊥) → (c ≡ 10 → ⊥) → blank_of c ≡ false
unfolding blank_of choose
blank_not c e f = rw (ne_eqb c 32 e) (ne_eqb c 10 f)

pub ruleset blanks = (blank_space, blank_line, blank_not)

empty : (l : List ℕ) → length l ≡ 0 → l ≡ []
empty [] h = refl
empty (x ∷ l) h = absurd (omega arith)

after_none : (h : Result (List ℕ) HexError) → h ≡ put_before [] h
unfolding put_before
after_none (Ok m) = refl
after_none (Err e) = refl

after_both : (l m : List ℕ) (h : Result (List ℕ) HexError) → put_before l (put_before m h) ≡ put_before (l ++ m) h
unfolding put_before
after_both l m (Ok k) = ap Ok (sym (append_assoc l m k))
after_both l m (Err e) = refl

-- ---- what a text holds, by what stands first in it
blank_first : (room a : ℕ) (l : List ℕ) → blank_of a ≡ true → hex_held room (a ∷ l) ≡ hex_held room l
unfolding hex_held choose
blank_first room a [] e = rw e
blank_first room a (b ∷ l) e = rw e

half_first : (room a : ℕ) → blank_of a ≡ false → hex_held room (a ∷ []) ≡ Err NotHex
unfolding hex_held choose
half_first room a e = rw e

module _ (room a b : ℕ) (l : List ℕ) (e : blank_of a ≡ false) where
  other_first : pair_of a b ≡ None → hex_held room (a ∷ b ∷ l) ≡ Err NotHex
  unfolding hex_held choose held_first
  other_first p = rw (e, p)

  more_first : (v : ℕ) → pair_of a b ≡ Some v → room ≡ 0 → hex_held room (a ∷ b ∷ l) ≡ Err NoRoom
  unfolding hex_held choose held_first
  more_first v p z = rw (e, p, eq-eqb room 0 z)

  byte_first : (v : ℕ) → pair_of a b ≡ Some v → 0 < room → hex_held room (a ∷ b ∷ l) ≡ put_before (v ∷ []) (hex_held (room - 1) l)
  unfolding hex_held choose held_first
  byte_first v p z =
      let n : room ≡ 0 → ⊥ = λ q. omega arith in
      rw (e, p, ne_eqb room 0 n)

-- ---- what the reader knows before each turn: n bytes in front of the output, and what is left of the text, in the room that is left
pub record Reading (text : List ℕ) (room : ℕ) (out left : List ℕ) (n : ℕ) : Type 0 where
  pub fits : n ≤ room
  pub size : length out ≡ room
  pub so : hex_held room text ≡ put_before (take n out) (hex_held (room - n) left)

pub start : (text out : List ℕ) → Reading text (length out) out text 0
start text out =
    let z : length out - 0 ≡ length out = omega arith in
    record { fits = omega arith; size = refl; so = rw z (after_none (hex_held (length out) text)) }

module _ {text out left : List ℕ} {n room : ℕ} (r : Reading text room out left n) where
  pub all_read : length left ≡ 0 → Reads text room out (Ok n)
  unfolding said_of hex_held put_before
  all_read h =
      let d : put_before (take n out) (hex_held (room - n) left) ≡ Ok (take n out) = rw (empty left h, append-nil) in
      record { same = sym (r.so ∙ d); within = r.fits }

  module _ (a : ℕ) (l : List ℕ) (is : left ≡ a ∷ l) where
    pub blank_read : blank_of a ≡ true → Reading text room out l n
    blank_read b =
        record { fits = r.fits; size = r.size; so = r.so ∙ ap (put_before (take n out)) (ap (hex_held (room - n)) is ∙ blank_first (room - n) a l b) }

    -- what the whole holds, where the rest holds a refusal
    refused : (e : HexError) → hex_held (room - n) (a ∷ l) ≡ Err e → Reads text room out (Err e)
    unfolding said_of put_before
    refused e h = record { same = sym (r.so ∙ ap (put_before (take n out)) (ap (hex_held (room - n)) is ∙ h)); within = tt }

    pub half_read : blank_of a ≡ false → length l ≡ 0 → Reads text room out (Err NotHex)
    half_read b h = refused NotHex (ap (λ (m : List ℕ). hex_held (room - n) (a ∷ m)) (empty l h) ∙ half_first (room - n) a b)

    module _ (b : ℕ) (m : List ℕ) (two : l ≡ b ∷ m) (e : blank_of a ≡ false) where
      at_two : (h : Result (List ℕ) HexError) → hex_held (room - n) (a ∷ b ∷ m) ≡ h → hex_held (room - n) (a ∷ l) ≡ h
      at_two h p = ap (λ (k : List ℕ). hex_held (room - n) (a ∷ k)) two ∙ p

      pub other_read : pair_of a b ≡ None → Reads text room out (Err NotHex)
      other_read p = refused NotHex (at_two _ (other_first (room - n) a b m e p))

      module _ (v : ℕ) (p : pair_of a b ≡ Some v) where
        pub no_room : length out ≤ n → Reads text room out (Err NoRoom)
        no_room h = refused NoRoom (at_two _ (more_first (room - n) a b m e v p (omega (arith, r.size))))

        pub byte_read : n < length out → Reading text room (set out n v) m (n + 1)
        byte_read h =
            let z : room - (n + 1) ≡ room - n - 1 = omega arith in
            let o : 0 < room - n = omega (arith, r.size) in
            record {
              fits = omega (arith, r.size);
              size = simp length-set r.size;
              so =
                  r.so ∙ ap (put_before (take n out)) (ap (hex_held (room - n)) is ∙ at_two _ (byte_first (room - n) a b m e v p o))
                  ∙ after_both (take n out) (v ∷ []) (hex_held (room - n - 1) m) ∙ rw (z, add-one, take-suc-set out n v h);
            }

-- ---- what is left of a text from a place on
pub at_place : (text : List ℕ) (i : ℕ) → i < length text → drop i text ≡ get_or text i 0 ∷ drop (i + 1) text
at_place text i h = rw add-one (drop-cons text i 0 h)

pub at_next : (text : List ℕ) (i : ℕ) → i + 1 < length text → drop (i + 1) text ≡ get_or text (i + 1) 0 ∷ drop (i + 2) text
at_next text i h =
    let e : i + 2 ≡ i + 1 + 1 = omega arith in
    rw e (at_place text (i + 1) h)

pub none_left : (text : List ℕ) (i : ℕ) → length text ≤ i → length (drop i text) ≡ 0
none_left text i h = rw (drop_of_length-le text h)

-- the bytes that are handed on lie in the output
pub reads_within : {text out : List ℕ} {room : ℕ} {r : Result ℕ HexError} (n : ℕ) → Reads text room out r → r ≡ Ok n → n ≤ room
reads_within n s e = rw e at s.within
