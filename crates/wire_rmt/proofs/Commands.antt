-- The statements on commands, of specs/Holds.antt. Assumes nothing.
use Prim.Native.Nat.{ℕ, suc, ◌+◌, ◌-◌, ◌≤◌, ◌<◌}
use mathlib.Core.Bool.{Bool, true, false}
use mathlib.Core.List.{List, [], ◌∷◌, ◌++◌, append_assoc}
use mathlib.Core.Path.{◌≡◌, refl, sym, ap, ◌∙◌}
use native.Mathlib.Omega.{arith}
use native.Mathlib.Numerals.{add-one}
use lib.Dec.{eqb, leb}
use lib.ListN.{length, take, drop, length-append, length-drop}
use lib.Seq.{drop_at, take_at, drop-length}
use borrow.Author.Tests.{leb-true, eqb-true, eqb-false}
use Rattle.xdr.specs.Choose.{choose}
use Rattle.std.specs.Prelude.{Option, Some, None}
use Rattle.wire_rmt.specs.declared.Number.{Number}
use Rattle.wire_rmt.specs.declared.Command.{Command}
use Rattle.wire_rmt.specs.Numbers.{number, number_at, value_of}
use Rattle.wire_rmt.specs.Commands.{
  last_operation,
  open_letter,
  close_letter,
  read_letter,
  write_letter,
  operate_letter,
  path_length,
  at_end,
  last_number,
  opened,
  open_behind,
  open_in,
  close_behind,
  close_in,
  reading,
  read_in,
  writing,
  write_in,
  operating,
  operation,
  operate_in,
  rmt_command,
}
use Rattle.wire_rmt.specs.Sent.{
  Sent,
  open_path,
  close_path,
  read_count,
  write_data,
  operate_count,
  command_bytes,
  OneLine,
  Fits,
  meaning,
}
use Rattle.wire_rmt.specs.Holds.{NumberThere, Spelled, CommandsHold}
use Rattle.wire_rmt.proofs.Laws.{by_cases}
use Rattle.wire_rmt.proofs.Numbers as Numbers
use Rattle.wire_rmt.proofs.Lines.{
  line_length,
  path_there,
  path_says,
  line_feed_lem,
  line_more,
  last_whole,
  open_whole,
  close_whole,
  read_whole,
  write_whole,
  operate_whole,
  is_open,
  is_close,
  is_read,
  is_write,
  is_operate,
}

-- ---- lines
line_back : (name r : List ℕ) → OneLine name → line_length (name ++ (10 ∷ r)) ≡ length name
line_back [] r h = refl
line_back (x ∷ name) r h = line_more x (name ++ (10 ∷ r)) h.0 ∙ ap (λ (n : ℕ). n + 1) (line_back name r h.1) ∙ add-one (length name)

-- behind a letter, a line and its line feed
pub behind : (x : ℕ) (a r : List ℕ) → drop (1 + length a + 1) (x ∷ (a ++ (10 ∷ r))) ≡ r
behind x a r =
    let n : 1 + length a + 1 ≡ suc (length a + 1) = omega arith in
    let m : length (a ++ (10 ∷ [])) ≡ length a + 1 = rw length-append in
    ap (λ (k : ℕ). drop k (x ∷ (a ++ (10 ∷ r)))) n
    ∙ ap (λ (k : List ℕ). drop (length a + 1) k) (sym (append_assoc a (10 ∷ []) r)) ∙ drop_at (a ++ (10 ∷ [])) r (length a + 1) m

pub size_of : (x : ℕ) (a r : List ℕ) → length (x ∷ (a ++ (10 ∷ r))) ≡ 1 + length a + 1 + length r
size_of x a r = let e = length-append a (10 ∷ r) in omega arith

-- ---- what is sent is read back
back : (s : Sent) → Fits s → rmt_command (command_bytes s) ≡ Some (meaning s)
unfolding Fits command_bytes meaning
back (open_path name mode) f =
    let l : List ℕ = 79 ∷ (name ++ (10 ∷ (mode ++ (10 ∷ [])))) in
    let e = line_back name (mode ++ (10 ∷ [])) f.0 in
    let k = length-append name (10 ∷ (mode ++ (10 ∷ []))) in
    let a : Some (length name) ≡ path_length l = rw e at (path_there 79 (name ++ (10 ∷ (mode ++ (10 ∷ [])))) (omega (arith, e, k))) in
    let m = Numbers.back l (1 + length name + 1) mode [] (behind 79 name (mode ++ (10 ∷ []))) f.1 in
    let s = size_of 79 name (mode ++ (10 ∷ [])) in
    let t = length-append mode (10 ∷ []) in
    let u = last_whole l (1 + length name + 1) (value_of mode) (1 + length name + 1 + length mode + 1) (sym m) (omega arith) in
    let p : 1 + length name + 1 ≡ length name + 2 = omega arith in
    sym (is_open l 79 refl _ refl (open_whole l (length name) a (value_of mode) (rw p at u)))
back (close_path name) f =
    let l : List ℕ = 67 ∷ (name ++ (10 ∷ [])) in
    let e = line_back name [] f in
    let k = length-append name (10 ∷ []) in
    let a : Some (length name) ≡ path_length l = rw e at (path_there 67 (name ++ (10 ∷ [])) (omega (arith, e, k))) in
    let s = size_of 67 name [] in
    sym (is_close l 67 refl _ refl (close_whole l (length name) a (omega arith)))
back (read_count count) f =
    let l : List ℕ = 82 ∷ (count ++ (10 ∷ [])) in
    let m = Numbers.back l 1 count [] refl f in
    let s = size_of 82 count [] in
    sym (is_read l 82 refl _ refl (read_whole l (value_of count) (last_whole l 1 (value_of count) (1 + length count + 1) (sym m) (omega arith))))
back (write_data count bytes) f =
    let l : List ℕ = 87 ∷ (count ++ (10 ∷ bytes)) in
    let m = Numbers.back l 1 count bytes refl f.0 in
    let s = size_of 87 count bytes in
    sym (is_write l 87 refl _ refl (write_whole l (value_of count) (1 + length count + 1) (sym m) (omega (arith, f.1))))
back (operate_count op count) f =
    let l : List ℕ = 73 ∷ (op ++ (10 ∷ (count ++ (10 ∷ [])))) in
    let m = Numbers.back l 1 op (count ++ (10 ∷ [])) refl f.0 in
    let k = Numbers.back l (1 + length op + 1) count [] (behind 73 op (count ++ (10 ∷ []))) f.1 in
    let s = size_of 73 op (count ++ (10 ∷ [])) in
    let t = length-append count (10 ∷ []) in
    sym (is_operate l 73 refl _ refl
    (operate_whole l (value_of op) (1 + length op + 1) (sym m) f.2 (value_of count)
    (last_whole l (1 + length op + 1) (value_of count) (1 + length op + 1 + length count + 1) (sym k) (omega arith))))

path : (name mode : List ℕ) → take (length name) (drop 1 (command_bytes (open_path name mode))) ≡ name
unfolding command_bytes
path name mode = take_at name (10 ∷ (mode ++ (10 ∷ []))) (length name) refl

bytes : (count b : List ℕ) → drop (1 + length count + 1) (command_bytes (write_data count b)) ≡ b
unfolding command_bytes
bytes count b = behind 87 count b

-- ---- nothing else is read
held : {A : Type 0} (b : Bool) (q : Option A) → (choose b q None ≡ None → ⊥) → (b ≡ true) × (q ≡ None → ⊥)
unfolding choose
held true q f = (refl, f)
held false q f = absurd (f refl)

-- a path whose line feed was found
record Found (o : Option ℕ) : Type 0 where
  len : ℕ
  is : o ≡ Some len

found : (o : Option ℕ) → (o ≡ None → ⊥) → Found o
found (Some n) f = record { len = n; is = refl }
found None f = absurd (f refl)

-- a number that ends the command
record Ends (n : Option Number) (size : ℕ) : Type 0 where
  v : ℕ
  is : n ≡ Some (number v size)

at_end_says : (size : ℕ) (n : Option Number) → (at_end size n ≡ None → ⊥) → Ends n size
unfolding at_end
at_end_says size (Some n) f = record { v = n.value; is = ap (λ (k : ℕ). Some (number n.value k)) (eqb-true _ _ (held (eqb n.next size) _ f).0) }
at_end_says size None f = absurd (f refl)

last_says : (l : List ℕ) (at : ℕ) → (last_number l at ≡ None → ⊥) → Ends (number_at l at) (length l)
unfolding last_number
last_says l at f = at_end_says (length l) (number_at l at) f

-- a number with as many bytes behind it
record Counts (n : Option Number) (size : ℕ) : Type 0 where
  v : ℕ
  x : ℕ
  is : n ≡ Some (number v x)
  left : size - x ≡ v

writing_counts : (size : ℕ) (n : Option Number) → (writing size n ≡ None → ⊥) → Counts n size
unfolding writing
writing_counts size (Some n) f = record { v = n.value; x = n.next; is = refl; left = eqb-true _ _ (held (eqb (size - n.next) n.value) _ f).0 }
writing_counts size None f = absurd (f refl)

-- an operation, and a number that ends the command
record Operates (l : List ℕ) (n : Option Number) : Type 0 where
  v : ℕ
  x : ℕ
  is : n ≡ Some (number v x)
  low : v ≤ 5
  count : Ends (number_at l x) (length l)

operation_says : (l : List ℕ) (n : Option Number) → (operation l n ≡ None → ⊥) → Operates l n
unfolding operation operating
operation_says l (Some n) f =
    let h = held (leb n.value last_operation) _ f in
    record {
      v = n.value;
      x = n.next;
      is = refl;
      low = leb-true _ _ h.0;
      count = last_says l n.next (λ e. h.1 (ap (operating n.value) e));
    }
operation_says l None f = absurd (f refl)

-- a line that ends within the list
record Line (l : List ℕ) : Type 0 where
  name : List ℕ
  one : OneLine name
  rest : List ℕ
  is : l ≡ name ++ (10 ∷ rest)
  len : line_length l ≡ length name

line_on : (x : ℕ) (l : List ℕ) → (x ≡ 10 → ⊥) → Line l → Line (x ∷ l)
line_on x l h r =
    record {
      name = x ∷ r.name;
      one = (h, r.one);
      rest = r.rest;
      is = ap (λ (y : List ℕ). x ∷ y) r.is;
      len = line_more x l h ∙ ap (λ (n : ℕ). n + 1) r.len ∙ add-one (length r.name);
    }

line_of : (l : List ℕ) → line_length l < length l → Line l
line_of [] h = absurd (omega arith)
line_of (x ∷ l) h =
    by_cases (eqb x 10)
    (λ (t : eqb x 10 ≡ true).
    let e : x ≡ 10 = eqb-true _ _ t in
    record { name = []; one = tt; rest = l; is = ap (λ (y : ℕ). y ∷ l) e; len = line_feed_lem x l e })
    (λ (t : eqb x 10 ≡ false).
    let e = eqb-false x 10 t in
    let m = line_more x l e in
    line_on x l e (line_of l (omega arith)))

none_left : (l : List ℕ) → length l ≡ 0 → l ≡ []
none_left [] e = refl
none_left (x ∷ l) e = absurd (omega arith)

-- digits that end the command
ended : (l : List ℕ) (at v : ℕ) (t : NumberThere l at v (length l)) → drop at l ≡ t.digits ++ (10 ∷ [])
ended l at v t = t.there ∙ ap (λ (k : List ℕ). t.digits ++ (10 ∷ k)) (drop-length l)

module _ (x : ℕ) (r : List ℕ) where
  abbrev l : List ℕ
  l = x ∷ r

  open_spelled : x ≡ 79 → (open_in l ≡ None → ⊥) → Spelled l
  unfolding open_in open_behind opened Fits command_bytes
  open_spelled e f =
      let p = found (path_length l) (λ z. f (ap (open_behind l) z)) in
      let q = path_says x r p.len p.is in
      let n = line_of r (omega (arith, q.0, q.1)) in
      let m = last_says l (p.len + 2) (λ z. f (ap (open_behind l) p.is ∙ ap (opened p.len) z)) in
      let t = Numbers.says l (p.len + 2) m.v (length l) m.is in
      let a : 1 + length n.name + 1 ≡ p.len + 2 = omega (arith, n.len, q.0) in
      let b : n.rest ≡ t.digits ++ (10 ∷ []) =
      sym (behind x n.name n.rest) ∙ ap (λ (y : List ℕ). drop (1 + length n.name + 1) (x ∷ y)) (sym n.is)
      ∙ ap (λ (y : ℕ). drop y l) a ∙ ended l (p.len + 2) m.v t in
      record {
        sent = open_path n.name t.digits;
        fits = (n.one, t.numeral);
        bytes = ap (λ (y : ℕ). y ∷ r) e ∙ ap (λ (y : List ℕ). 79 ∷ y) n.is ∙ ap (λ (y : List ℕ). 79 ∷ (n.name ++ (10 ∷ y))) b;
      }

  close_spelled : x ≡ 67 → (close_in l ≡ None → ⊥) → Spelled l
  unfolding close_in close_behind Fits command_bytes
  close_spelled e f =
      let p = found (path_length l) (λ z. f (ap (close_behind l) z)) in
      let q = path_says x r p.len p.is in
      let n = line_of r (omega (arith, q.0, q.1)) in
      let m : p.len + 2 ≡ suc (length r) = eqb-true _ _ (held (eqb (p.len + 2) (length l)) _ (λ z. f (ap (close_behind l) p.is ∙ z))).0 in
      let a = ap (λ (y : List ℕ). length y) n.is ∙ length-append n.name (10 ∷ n.rest) in
      let b : n.rest ≡ [] = none_left n.rest (omega (arith, a, n.len, q.0)) in
      record {
        sent = close_path n.name;
        fits = n.one;
        bytes = ap (λ (y : ℕ). y ∷ r) e ∙ ap (λ (y : List ℕ). 67 ∷ y) n.is ∙ ap (λ (y : List ℕ). 67 ∷ (n.name ++ (10 ∷ y))) b;
      }

  read_spelled : x ≡ 82 → (read_in l ≡ None → ⊥) → Spelled l
  unfolding read_in reading Fits command_bytes
  read_spelled e f =
      let m = last_says l 1 (λ e. f (ap reading e)) in
      let t = Numbers.says l 1 m.v (length l) m.is in
      record {
        sent = read_count t.digits;
        fits = t.numeral;
        bytes = ap (λ (y : ℕ). y ∷ r) e ∙ ap (λ (y : List ℕ). 82 ∷ y) (ended l 1 m.v t);
      }

  write_spelled : x ≡ 87 → (write_in l ≡ None → ⊥) → Spelled l
  unfolding write_in Fits command_bytes
  write_spelled e f =
      let m = writing_counts (length l) (number_at l 1) f in
      let t = Numbers.says l 1 m.v m.x m.is in
      record {
        sent = write_data t.digits (drop m.x l);
        fits = (t.numeral, length-drop m.x l ∙ m.left ∙ t.value);
        bytes = ap (λ (y : ℕ). y ∷ r) e ∙ ap (λ (y : List ℕ). 87 ∷ y) t.there;
      }

  operate_spelled : x ≡ 73 → (operate_in l ≡ None → ⊥) → Spelled l
  unfolding operate_in Fits command_bytes
  operate_spelled e f =
      let m = operation_says l (number_at l 1) f in
      let t = Numbers.says l 1 m.v m.x m.is in
      let u = Numbers.says l m.x m.count.v (length l) m.count.is in
      record {
        sent = operate_count t.digits u.digits;
        fits = (t.numeral, u.numeral, omega (arith, t.value, m.low));
        bytes =
            ap (λ (y : ℕ). y ∷ r) e ∙ ap (λ (y : List ℕ). 73 ∷ y) t.there
            ∙ ap (λ (y : List ℕ). 73 ∷ (t.digits ++ (10 ∷ y))) (ended l m.x m.count.v u);
      }

-- the test of one letter, and what is left where it fails
letter : (x n : ℕ) (a b : Option Command) (A : Type 0) → (choose (eqb x n) a b ≡ None → ⊥)
    → (x ≡ n → (a ≡ None → ⊥) → A) → ((b ≡ None → ⊥) → A) → A
unfolding choose
letter x n a b A f g h =
    by_cases (eqb x n)
    (λ (t : eqb x n ≡ true). g (eqb-true _ _ t) (λ (e : a ≡ None). f (rw t e)))
    (λ (t : eqb x n ≡ false). h (λ (e : b ≡ None). f (rw t e)))

by_letter : (x : ℕ) (r : List ℕ) → (rmt_command (x ∷ r) ≡ None → ⊥) → Spelled (x ∷ r)
unfolding rmt_command
by_letter x r f =
    letter x open_letter _ _ (Spelled (x ∷ r)) f (open_spelled x r)
    (λ g. letter x close_letter _ _ (Spelled (x ∷ r)) g (close_spelled x r)
    (λ h. letter x read_letter _ _ (Spelled (x ∷ r)) h (read_spelled x r)
    (λ i. letter x write_letter _ _ (Spelled (x ∷ r)) i (write_spelled x r)
    (λ j. letter x operate_letter _ _ (Spelled (x ∷ r)) j (operate_spelled x r)
    (λ k. absurd (k refl))))))

spelled : (l : List ℕ) → (rmt_command l ≡ None → ⊥) → Spelled l
unfolding rmt_command choose
spelled [] f = absurd (f refl)
spelled (x ∷ r) f = by_letter x r f

pub commands : CommandsHold
commands = record { back = back; path = path; bytes = bytes; spelled = spelled }
