-- The addresses that the host is given are those that the decoder reads: what each result of the reader says of them. Assumes nothing.
use Prim.Native.Nat.{ℕ, zero, suc, ◌+◌, ◌-◌, ◌*◌, ◌≤◌, ◌<◌}
use mathlib.Core.Bool.{true}
use mathlib.Core.Path.{◌≡◌, refl, sym, ap, ◌∙◌}
use mathlib.Core.List.{List, [], ◌∷◌, ◌++◌}
use Rattle.std.specs.Prelude.{Some, None}
use native.Mathlib.Omega.{arith}
use native.Mathlib.Nat.{not-suc-le-zero}
use native.Mathlib.Numerals.{add-one}
use lib.ListN.{length, set, replicate, length-append}
use lib.Dec.{leb}
use borrow.Author.Tests.{leb-true}
use Rattle.codes.specs.Codes.{most_listed, most_addresses, most_port}
use Rattle.xdr.specs.Xdr as xdr
use Rattle.xdr.proofs.Tests.{by_test}
use Rattle.wire_layouts.specs.Layout.{text, port, Item, four, eight, bytes, fixed, Piece, piece, short, part_at, Got, got, cut, prepend, and_part, and_got, parts_at, times_at}
use Rattle.wire_layouts.specs.Layout.{FieldGot, field_got, stop, bad, counted, list_at, items_of, element_at, field_at}
use Rattle.wire_layouts.specs.Scans.{addresses, address_parts, pair_parts, address_at, forget, field_seen}
use Rattle.wire_layouts.specs.AddressLists.{empty_addresses, keep, count_seen, and_address, addresses_from, listed, addresses_at}
use Rattle.wire_layouts.specs.AddressLists.{AddressItems, no_address, address_on, Given, AddressesGiven}
use Rattle.wire_layouts.specs.declared.Text.{Text}
use Rattle.wire_layouts.specs.declared.Addresses.{Addresses}

-- ---- addresses that are kept from number i on
keeps : ℕ → List ℕ → List ℕ → Addresses → Addresses
keeps i [] ps k = k
keeps i (h ∷ hs) [] k = k
keeps i (h ∷ hs) (p ∷ ps) k = keeps (suc i) hs ps (keep i h p k)

sets : ℕ → List ℕ → List ℕ → List ℕ
sets i [] l = l
sets i (v ∷ vs) l = sets (suc i) vs (set l i v)

sets_on : (i v : ℕ) (vs l : List ℕ) → sets (suc i) vs (v ∷ l) ≡ v ∷ sets i vs l
unfolding sets
sets_on i v [] l = refl
sets_on i v (w ∷ vs) l = sets_on (suc i) v vs (set l i w)

sets_all : (m : ℕ) (vs : List ℕ) → length vs ≤ m → sets 0 vs (replicate m 0) ≡ vs ++ replicate (m - length vs) 0
unfolding sets
sets_all m [] h = let d : m ≡ m - 0 = omega arith in ap (λ (j : ℕ). replicate {A = ℕ} j 0) d
sets_all zero (v ∷ vs) h = absurd (not-suc-le-zero h)
sets_all (suc m) (v ∷ vs) h =
    let d : suc m - suc (length vs) ≡ m - length vs = omega arith in
    sets_on 0 v vs (replicate m 0) ∙ rw d (ap (λ (l : List ℕ). v ∷ l) (sets_all m vs (omega arith)))

keeps_count : (i : ℕ) (hs ps : List ℕ) (k : Addresses) → (keeps i hs ps k).count ≡ k.count
unfolding keeps keep
keeps_count i [] ps k = refl
keeps_count i (h ∷ hs) [] k = refl
keeps_count i (h ∷ hs) (p ∷ ps) k = keeps_count (suc i) hs ps (keep i h p k)

keeps_hosts : (i : ℕ) (hs ps : List ℕ) (k : Addresses) → length hs ≡ length ps → (keeps i hs ps k).hosts ≡ sets i hs k.hosts
unfolding keeps keep sets
keeps_hosts i [] ps k e = refl
keeps_hosts i (h ∷ hs) [] k e = absurd (omega arith)
keeps_hosts i (h ∷ hs) (p ∷ ps) k e = keeps_hosts (suc i) hs ps (keep i h p k) (omega arith)

keeps_ports : (i : ℕ) (hs ps : List ℕ) (k : Addresses) → length hs ≡ length ps → (keeps i hs ps k).ports ≡ sets i ps k.ports
unfolding keeps keep sets
keeps_ports i [] [] k e = refl
keeps_ports i [] (p ∷ ps) k e = absurd (omega arith)
keeps_ports i (h ∷ hs) [] k e = absurd (omega arith)
keeps_ports i (h ∷ hs) (p ∷ ps) k e = keeps_ports (suc i) hs ps (keep i h p k) (omega arith)

module _ (b : List ℕ) where
  -- ---- an element: its host and its port, the count of its pairs, and two texts a pair
  Long : ℕ → Got → Type 0
  Long m (got is x) = length is ≡ m
  Long m cut = Unit

  prepend_long : (m n : ℕ) (is : List (Item Text)) (g : Got) → length is ≡ m → Long n g → Long (m + n) (prepend is g)
  unfolding Long prepend
  prepend_long m n is (got js x) e f = length-append is js ∙ rw (e, f)
  prepend_long m n is cut e f = tt

  part_long : (n : ℕ) (r : Piece) (f : ℕ → Got) → ((x : ℕ) → Long n (f x)) → Long (1 + n) (and_part r f)
  unfolding Long and_part
  part_long n (piece i x) f k = prepend_long 1 n (i ∷ []) (f x) refl (k x)
  part_long n short f k = tt

  got_long : (m n : ℕ) (g : Got) (f : ℕ → Got) → Long m g → ((x : ℕ) → Long n (f x)) → Long (m + n) (and_got g f)
  unfolding Long and_got
  got_long m n (got is x) f e k = prepend_long m n is (f x) e (k x)
  got_long m n cut f e k = tt

  pair_long : (at : ℕ) → Long 2 (parts_at pair_parts b at)
  unfolding parts_at Long
  pair_long at = part_long 1 (part_at text b at) (parts_at (text ∷ []) b) (λ x. part_long 0 (part_at text b x) (parts_at [] b) (λ y. refl))

  pairs_long : (n at : ℕ) → Long (n * 2) (times_at (parts_at pair_parts b) n at)
  unfolding times_at Long
  pairs_long zero at = refl
  pairs_long (suc n) at =
      let e : 2 + n * 2 ≡ suc n * 2 = omega arith in
      rw (← e) (got_long 2 (n * 2) (parts_at pair_parts b at) (times_at (parts_at pair_parts b) n) (pair_long at) (pairs_long n))

  record PairsAre (is : List (Item Text)) : Type 0 where
    pairs : ℕ
    texts : List (Item Text)
    shape : is ≡ four pairs ∷ texts
    long : length texts ≡ pairs * 2

  Pairs : Got → Type 0
  Pairs (got is x) = PairsAre is
  Pairs cut = Unit

  counted_pairs : (n : ℕ) (g : Got) → Long (n * 2) g → Pairs (items_of (counted n g))
  unfolding Pairs Long items_of counted
  counted_pairs n (got is x) e = record { pairs = n; texts = is; shape = refl; long = e }
  counted_pairs n cut e = tt

  pairs_are : (at : ℕ) → Pairs (items_of (list_at most_listed (parts_at pair_parts b) b at))
  unfolding Pairs items_of
  pairs_are at =
      let P : FieldGot → Type 0 = λ g. Pairs (items_of g) in
      by_test P (leb (at + 4) (length b)) _ _
      (λ _. by_test P (leb (xdr.word b at) most_listed) _ _
      (λ _. counted_pairs (xdr.word b at) (times_at (parts_at pair_parts b) (xdr.word b at) (at + 4)) (pairs_long (xdr.word b at) (at + 4))) (λ _. tt))
      (λ _. tt)

  record HeadIs (at : ℕ) (is : List (Item Text)) : Type 0 where
    shape : is ≡ four (xdr.word b at) ∷ four (xdr.word b (at + 4)) ∷ []
    within : at + 8 ≤ length b

  Head : ℕ → Got → Type 0
  Head at (got is x) = HeadIs at is
  Head at cut = Unit

  head_is : (at : ℕ) → Head at (parts_at address_parts b at)
  unfolding Head parts_at part_at and_part prepend
  head_is at =
      let P : Piece → Type 0 = λ r. Head at (and_part r (parts_at (port ∷ []) b)) in
      let Q : Piece → Type 0 = λ q. Head at (prepend (four (xdr.word b at) ∷ []) (and_part q (parts_at [] b))) in
      by_test P (leb (at + 4) (length b)) _ _
      (λ _. by_test Q (leb (at + 4 + 4) (length b)) _ _
      (λ (e : leb (at + 4 + 4) (length b) ≡ true). by_test Q (leb (xdr.word b (at + 4)) most_port) _ _
      (λ _. record { shape = refl; within = omega (arith, leb-true (at + 4 + 4) (length b) e) }) (λ _. tt))
      (λ _. tt))
      (λ _. tt)

  record ElementIs (at : ℕ) (is : List (Item Text)) : Type 0 where
    pairs : ℕ
    texts : List (Item Text)
    shape : is ≡ four (xdr.word b at) ∷ four (xdr.word b (at + 4)) ∷ four pairs ∷ texts
    long : length texts ≡ pairs * 2
    within : at + 8 ≤ length b

  Element : ℕ → Got → Type 0
  Element at (got is x) = ElementIs at is
  Element at cut = Unit

  head_pairs : (at : ℕ) (is : List (Item Text)) (g : Got) → HeadIs at is → Pairs g → Element at (prepend is g)
  unfolding Pairs Element prepend
  head_pairs at is (got js x) h p = record { pairs = p.pairs; texts = p.texts; shape = rw (h.shape, p.shape); long = p.long; within = h.within }
  head_pairs at is cut h p = tt

  head_then : (at : ℕ) (g : Got) (f : ℕ → Got) → Head at g → ((x : ℕ) → Pairs (f x)) → Element at (and_got g f)
  unfolding Head Element and_got
  head_then at (got is x) f h k = head_pairs at is (f x) h (k x)
  head_then at cut f h k = tt

  element_is : (at : ℕ) → Element at (address_at b at)
  unfolding element_at
  element_is at = head_then at (parts_at address_parts b at) (λ (x : ℕ). items_of (list_at most_listed (parts_at pair_parts b) b x)) (head_is at) pairs_are

  -- ---- one address more
  within_of : (at x : ℕ) (g : Got) → Element at g → Some x ≡ forget g → at + 8 ≤ length b
  unfolding Element forget
  within_of at x (got is y) h e = h.within
  within_of at x cut h e = let z : ◌≡◌ {A = ℕ} 0 1 = cc in absurd (omega arith)

  pub address_within : (at x : ℕ) → Some x ≡ forget (address_at b at) → at + 8 ≤ length b
  address_within at x e = within_of at x (address_at b at) (element_is at) e

  and_next : (x : ℕ) (g : Got) (f : ℕ → Addresses) → Some x ≡ forget g → and_address g f ≡ f x
  unfolding and_address forget
  and_next x (got is y) f e = let q : x ≡ y = cc in ap f (sym q)
  and_next x cut f e = let z : ◌≡◌ {A = ℕ} 0 1 = cc in absurd (omega arith)

  and_short : (g : Got) (f : ℕ → Addresses) → None ≡ forget g → and_address g f ≡ empty_addresses 0
  unfolding and_address forget
  and_short (got is y) f e = let z : ◌≡◌ {A = ℕ} 0 1 = cc in absurd (omega arith)
  and_short cut f e = refl

  module _ (at i : ℕ) (k : Addresses) where
    pub from_more : (n m x h p : ℕ) → n ≡ m + 1 → Some x ≡ forget (address_at b at) → h ≡ xdr.word b at → p ≡ xdr.word b (at + 4)
        → addresses_from n i b at k ≡ addresses_from m (i + 1) b x (keep i h p k)
    unfolding addresses_from
    from_more n m x h p d e f g =
        let d₁ : n ≡ suc m = d ∙ add-one m in
        rw (d₁, add-one i, f, g) (and_next x (address_at b at) (λ (y : ℕ). addresses_from m (suc i) b y (keep i (xdr.word b at) (xdr.word b (at + 4)) k)) e)

    pub from_short : (n : ℕ) → 0 < n → None ≡ forget (address_at b at) → addresses_from n i b at k ≡ empty_addresses 0
    unfolding addresses_from
    from_short zero h e = absurd (not-suc-le-zero h)
    from_short (suc n) h e = and_short (address_at b at) (λ (y : ℕ). addresses_from n (suc i) b y (keep i (xdr.word b at) (xdr.word b (at + 4)) k)) e

    pub from_none : (n : ℕ) → n ≤ 0 → addresses_from n i b at k ≡ k
    unfolding addresses_from
    from_none zero h = refl
    from_none (suc n) h = absurd (not-suc-le-zero h)

  -- ---- the list: as many addresses as its count says
  record TimesAre (n at : ℕ) (is : List (Item Text)) : Type 0 where
    hosts : List ℕ
    ports : List ℕ
    items : AddressItems is hosts ports
    hosts_long : length hosts ≡ n
    ports_long : length ports ≡ n
    runs : (i : ℕ) (k : Addresses) → addresses_from n i b at k ≡ keeps i hosts ports k

  Times : ℕ → ℕ → Got → Type 0
  Times n at (got is x) = TimesAre n at is
  Times n at cut = Unit

  prepend_times : (n at x : ℕ) (is : List (Item Text)) (r : Got) → address_at b at ≡ got is x → ElementIs at is → Times n x r → Times (suc n) at (prepend is r)
  unfolding Times prepend addresses_from and_address keeps
  prepend_times n at x is (got js y) e h t =
      record {
        hosts = xdr.word b at ∷ t.hosts;
        ports = xdr.word b (at + 4) ∷ t.ports;
        items = rw h.shape (address_on h.texts h.long t.items);
        hosts_long = ap suc t.hosts_long;
        ports_long = ap suc t.ports_long;
        runs = λ i k. rw e (t.runs (suc i) (keep i (xdr.word b at) (xdr.word b (at + 4)) k));
      }
  prepend_times n at x is cut e h t = tt

  and_times : (n at : ℕ) (g : Got) → address_at b at ≡ g → Element at g → ((x : ℕ) → Times n x (times_at (address_at b) n x))
      → Times (suc n) at (and_got g (times_at (address_at b) n))
  unfolding Times Element and_got
  and_times n at (got is x) e h k = prepend_times n at x is (times_at (address_at b) n x) e h (k x)
  and_times n at cut e h k = tt

  times_are : (n at : ℕ) → Times n at (times_at (address_at b) n at)
  unfolding Times times_at addresses_from keeps
  times_are zero at = record { hosts = []; ports = []; items = no_address; hosts_long = refl; ports_long = refl; runs = λ i k. refl }
  times_are (suc n) at = and_times n at (address_at b at) refl (element_is at) (times_are n)

  record FieldIs (at : ℕ) (i : Item Text) (is : List (Item Text)) : Type 0 where
    n : ℕ
    first : i ≡ four n
    few : n ≤ most_addresses
    here : at + 4 ≤ length b
    times : TimesAre n (at + 4) is

  Fielded : ℕ → FieldGot → Type 0
  Fielded at (field_got i is x) = FieldIs at i is
  Fielded at (stop v) = ⊥
  Fielded at bad = Unit

  counted_fielded : (at n : ℕ) (g : Got) → n ≤ most_addresses → at + 4 ≤ length b → Times n (at + 4) g → Fielded at (counted n g)
  unfolding Times Fielded counted
  counted_fielded at n (got is x) f h t = record { n = n; first = refl; few = f; here = h; times = t }
  counted_fielded at n cut f h t = tt

  fielded : (at : ℕ) → Fielded at (field_at addresses b at)
  unfolding Fielded field_at
  fielded at =
      by_test (Fielded at) (leb (at + 4) (length b)) _ _
      (λ h. by_test (Fielded at) (leb (xdr.word b at) most_addresses) _ _
      (λ f. counted_fielded at (xdr.word b at) (times_at (address_at b) (xdr.word b at) (at + 4)) (leb-true (xdr.word b at) most_addresses f)
      (leb-true (at + 4) (length b) h)
      (times_are (xdr.word b at) (at + 4)))
      (λ f. tt))
      (λ h. tt)

  -- the count that the code sees
  record Seeable (at n : ℕ) : Type 0 where
    few : n ≤ most_addresses
    here : 0 < n → at + 4 ≤ length b

  seeable : (at : ℕ) (g : FieldGot) → Fielded at g → Seeable at (count_seen (field_seen g))
  unfolding Fielded count_seen field_seen
  seeable at (field_got (four v) is x) h = let e : v ≡ h.n = cc h.first in record { few = rw e h.few; here = λ _. h.here }
  seeable at (field_got (eight v) is x) h = record { few = omega arith; here = λ m. absurd (not-suc-le-zero m) }
  seeable at (field_got (bytes t) is x) h = record { few = omega arith; here = λ m. absurd (not-suc-le-zero m) }
  seeable at (field_got (fixed t) is x) h = record { few = omega arith; here = λ m. absurd (not-suc-le-zero m) }
  seeable at (stop v) h = absurd h
  seeable at bad h = record { few = omega arith; here = λ m. absurd (not-suc-le-zero m) }

  module _ (at n : ℕ) (e : n ≡ count_seen (field_seen (field_at addresses b at))) where
    pub few_addresses : n ≤ most_addresses
    few_addresses = rw e (seeable at (field_at addresses b at) (fielded at)).few

    pub some_addresses : 0 < n → at + 4 ≤ length b
    some_addresses h = (seeable at (field_at addresses b at) (fielded at)).here (rw e at h)

    pub first_of : addresses_at b at ≡ addresses_from n 0 b (at + 4) (empty_addresses n)
    unfolding addresses_at listed
    first_of = rw e

    pub starts_with : (k : Addresses) → k ≡ empty_addresses n → addresses_at b at ≡ addresses_from (n - 0) 0 b (at + 4) k
    starts_with k f = let z : n - 0 ≡ n = omega arith in rw (z, f) first_of

  kept_all : (at n : ℕ) (is : List (Item Text)) → n ≤ most_addresses → TimesAre n (at + 4) is → Given n is (listed b at n)
  unfolding listed
  kept_all at n is f t =
      let e : length t.hosts ≡ length t.ports = t.hosts_long ∙ sym t.ports_long in
      let r = t.runs 0 (empty_addresses n) in
      let z = keeps 0 t.hosts t.ports (empty_addresses n) in
      let m : length t.hosts ≤ most_addresses = rw t.hosts_long f in
      let q : length t.ports ≤ most_addresses = rw t.ports_long f in
      record {
        hosts = t.hosts;
        ports = t.ports;
        items = t.items;
        counted = t.hosts_long;
        counts = ap (λ (k : Addresses). k.count) r ∙ keeps_count 0 t.hosts t.ports (empty_addresses n);
        hosts_are = ap (λ (k : Addresses). k.hosts) r ∙ keeps_hosts 0 t.hosts t.ports (empty_addresses n) e ∙ sets_all most_addresses t.hosts m
            ∙ ap (λ (j : ℕ). t.hosts ++ replicate (most_addresses - j) 0) t.hosts_long;
        ports_are = ap (λ (k : Addresses). k.ports) r ∙ keeps_ports 0 t.hosts t.ports (empty_addresses n) e ∙ sets_all most_addresses t.ports q
            ∙ ap (λ (j : ℕ). t.ports ++ replicate (most_addresses - j) 0) t.ports_long;
      }

  given : (at n : ℕ) (is : List (Item Text)) (x : ℕ) → field_at addresses b at ≡ field_got (four n) is x → Given n is (addresses_at b at)
  unfolding addresses_at count_seen field_seen Fielded
  given at n is x e =
      let h : FieldIs at (four n) is = rw e at (fielded at) in
      let d : h.n ≡ n = cc h.first in
      rw e (kept_all at n is (rw d at h.few) (rw d at h.times))

  none_given : (at : ℕ) → field_at addresses b at ≡ bad → addresses_at b at ≡ empty_addresses 0
  unfolding addresses_at listed count_seen field_seen addresses_from
  none_given at e = rw e

pub addresses_given : AddressesGiven
addresses_given = record { decoded = given; undecoded = none_given }
