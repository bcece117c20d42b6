-- Each body of `Sent` is what its message's layout writes of the same fields, so it is read back; and the places that were read are put at
-- the fields' numbers, so a request's row finds them there. Assumes nothing.
use Prim.Native.Nat.{ℕ, suc, ◌^◌, ◌<◌}
use mathlib.Core.Path.{◌≡◌, refl, ap, ap₂, ◌∙◌}
use mathlib.Core.List.{List, [], ◌∷◌, ◌++◌, map, flat_map, append_assoc, append-nil}
use native.Mathlib.Omega.{arith}
use lib.ListN.{length}
use Rattle.codes.specs.Codes.{most_listed, most_addresses}
use Rattle.xdr.specs.Xdr.{be32, be64}
use Rattle.xdr_opaque.specs.Put.{opaque, Each}
use Rattle.wire_pairs.specs.Pairs.{Pair}
use Rattle.wire_layouts.specs.Layout.{Field, one, tag, Item, four, eight, bytes, fixed, Value, value, item_bytes, value_bytes, write_as}
use Rattle.wire_layouts.specs.declared.Part.TheVariants.{Word as word, Hyper as hyper, Text as text, Digest as digest}
use Rattle.wire_layouts.specs.Laws.{content, contents, is_word, is_hyper, is_text, is_port, is_digest, PartsFit, no_part, part_on, TimesFit, no_time, time_on, FieldFits, is_one}
use Rattle.wire_layouts.specs.Laws.{ElementFits, is_element, is_many, is_lists, is_list, is_tag, FieldsFit, no_field, field_on}
use Rattle.wire_layouts.specs.Scans.{put, puts, pair_parts, pairs, name_parts, names, address_parts, addresses}
use Rattle.wire_layouts.specs.declared.Scan.{Scan}
use Rattle.wire_layouts.specs.declared.Text.{Text}
use Rattle.wire_layouts.proofs.Back.{bytes_append}
use Rattle.wire_requests.specs.Within.{bytes_at}
use Rattle.wire_requests.specs.Sent.{pval_bytes, PvalFits, Name, name_bytes, NameFits, TcpAddr, tcp_addr_bytes, TcpAddrFits}
use Rattle.wire_requests.specs.Sent.{Arg, ulong, uquad, octets, sixteen, pvals, name_list, tcp_addrs, union, arg_bytes, ArgFits}

-- ---- the field of a layout that an argument is, and its value there
abbrev pval_items : Pair → List (Item (List ℕ))
pval_items p = bytes p.name ∷ bytes p.value ∷ []

abbrev name_items : Name → List (Item (List ℕ))
name_items n = bytes n.original ∷ bytes n.destination ∷ bytes n.name ∷ bytes n.other ∷ eight n.node ∷ eight n.info ∷ []

abbrev addr_items : TcpAddr → List (Item (List ℕ))
addr_items a = four a.ip ∷ four a.port ∷ four (length a.env) ∷ flat_map pval_items a.env

abbrev pub field_for : Arg → Field
field_for (ulong v) = one word
field_for (uquad v) = one hyper
field_for (octets s) = one text
field_for (sixteen s) = one digest
field_for (pvals ps) = pairs
field_for (name_list ns) = names
field_for (tcp_addrs addrs) = addresses
field_for (union k) = tag k

abbrev pub value_for : Arg → Value (List ℕ)
value_for (ulong v) = value (four v) []
value_for (uquad v) = value (eight v) []
value_for (octets s) = value (bytes s) []
value_for (sixteen s) = value (fixed s) []
value_for (pvals ps) = value (four (length ps)) (flat_map pval_items ps)
value_for (name_list ns) = value (four (length ns)) (flat_map name_items ns)
value_for (tcp_addrs addrs) = value (four (length addrs)) (flat_map addr_items addrs)
value_for (union k) = value (four k) []

-- ---- the values fit
pvals_fit : (ps : List Pair) → Each PvalFits ps → TimesFit (PartsFit (text ∷ text ∷ [])) (length ps) (flat_map pval_items ps)
unfolding flat_map
pvals_fit [] h = no_time
pvals_fit (p ∷ ps) h = time_on (part_on (is_text h.0.0) (part_on (is_text h.0.1) no_part)) (pvals_fit ps h.1)

names_fit : (ns : List Name) → Each NameFits ns → TimesFit (PartsFit name_parts) (length ns) (flat_map name_items ns)
unfolding flat_map
names_fit [] h = no_time
names_fit (n ∷ ns) ((o, d, m, e, v, w), h) =
    time_on
    (part_on (is_text o) (part_on (is_text d) (part_on (is_text m) (part_on (is_text e) (part_on (is_hyper v) (part_on (is_hyper w) no_part))))))
    (names_fit ns h)

few : most_listed < 2 ^ 32
few = omega arith

addr_fits : (a : TcpAddr) → TcpAddrFits a → ElementFits address_parts most_listed pair_parts (addr_items a)
addr_fits a (i, p, n, h) =
    is_element {is = four a.ip ∷ four a.port ∷ []} {v = value (four (length a.env)) (flat_map pval_items a.env)}
    (part_on (is_word i) (part_on (is_port p) no_part)) (is_list few n (pvals_fit a.env h))

addrs_fit : (addrs : List TcpAddr) → Each TcpAddrFits addrs → TimesFit (ElementFits address_parts most_listed pair_parts) (length addrs) (flat_map addr_items addrs)
unfolding flat_map
addrs_fit [] h = no_time
addrs_fit (a ∷ addrs) h = time_on (addr_fits a h.0) (addrs_fit addrs h.1)

not_many : most_addresses < 2 ^ 32
not_many = omega arith

arg_fits : (a : Arg) → ArgFits a → FieldFits (field_for a) (value_for a)
arg_fits (ulong v) h = is_one (is_word h)
arg_fits (uquad v) h = is_one (is_hyper h)
arg_fits (octets s) h = is_one (is_text h)
arg_fits (sixteen s) h = is_one (is_digest h)
arg_fits (pvals ps) h = is_many (is_list few h.0 (pvals_fit ps h.1))
arg_fits (name_list ns) h = is_many (is_list few h.0 (names_fit ns h.1))
arg_fits (tcp_addrs addrs) h = is_lists (is_list not_many h.0 (addrs_fit addrs h.1))
arg_fits (union k) h = is_tag h

pub args_fit : (xs : List Arg) → Each ArgFits xs → FieldsFit (map field_for xs) (map value_for xs)
args_fit [] h = no_field
args_fit (a ∷ xs) h = field_on (arg_fits a h.0) (args_fit xs h.1)

-- ---- and are written as the arguments are
pvals_written : (ps : List Pair) → flat_map item_bytes (flat_map pval_items ps) ≡ flat_map pval_bytes ps
unfolding flat_map
pvals_written [] = refl
pvals_written (p ∷ ps) = rw (append_assoc, ← pvals_written ps)

names_written : (ns : List Name) → flat_map item_bytes (flat_map name_items ns) ≡ flat_map name_bytes ns
unfolding flat_map
names_written [] = refl
names_written (n ∷ ns) = rw (append_assoc, append_assoc, append_assoc, append_assoc, append_assoc, ← names_written ns)

addr_written : (a : TcpAddr) → flat_map item_bytes (addr_items a) ≡ tcp_addr_bytes a
unfolding flat_map
addr_written a = ap (λ (r : List ℕ). be32 a.ip ++ (be32 a.port ++ (be32 (length a.env) ++ r))) (pvals_written a.env)

addrs_written : (addrs : List TcpAddr) → flat_map item_bytes (flat_map addr_items addrs) ≡ flat_map tcp_addr_bytes addrs
unfolding flat_map
addrs_written [] = refl
addrs_written (a ∷ addrs) = bytes_append (addr_items a) (flat_map addr_items addrs) ∙ ap₂ ◌++◌ (addr_written a) (addrs_written addrs)

arg_written : (a : Arg) → value_bytes (value_for a) ≡ arg_bytes a
unfolding flat_map
arg_written (ulong v) = append-nil (be32 v)
arg_written (uquad v) = append-nil (be64 v)
arg_written (octets s) = append-nil (opaque s)
arg_written (sixteen s) = append-nil s
arg_written (pvals ps) = ap (λ (r : List ℕ). be32 (length ps) ++ r) (pvals_written ps)
arg_written (name_list ns) = ap (λ (r : List ℕ). be32 (length ns) ++ r) (names_written ns)
arg_written (tcp_addrs addrs) = ap (λ (r : List ℕ). be32 (length addrs) ++ r) (addrs_written addrs)
arg_written (union k) = append-nil (be32 k)

pub args_written : (xs : List Arg) → write_as (map value_for xs) ≡ flat_map arg_bytes xs
unfolding write_as flat_map
args_written [] = refl
args_written (a ∷ xs) = rw (arg_written a, args_written xs)

-- ---- what holds of the scan of any places that hold such values: P of numbers as they are, and of texts wherever they stand
abbrev AnyItem : List ℕ → Item (List ℕ) → (Item Text → Type 0) → Type 0
AnyItem b (four v) P = P (four v)
AnyItem b (eight v) P = P (eight v)
AnyItem b (bytes s) P = (t : Text) → bytes_at b t ≡ s → P (bytes t)
AnyItem b (fixed s) P = (t : Text) → bytes_at b t ≡ s → P (fixed t)

abbrev pub AnyPlaces : List ℕ → List (Value (List ℕ)) → ℕ → Scan → (Scan → Type 0) → Type 0
AnyPlaces b [] i k P = P k
AnyPlaces b (v ∷ vs) i k P = AnyItem b v.first (λ j. AnyPlaces b vs (suc i) (put i j k) P)

of_item : (b : List ℕ) (j : Item Text) (P : Item Text → Type 0) → AnyItem b (content b j) P → P j
of_item b (four v) P h = h
of_item b (eight v) P h = h
of_item b (bytes t) P h = h t refl
of_item b (fixed t) P h = h t refl

pub of_places : (b : List ℕ) (ws : List (Value Text)) (i : ℕ) (k : Scan) (P : Scan → Type 0) → AnyPlaces b (map (contents b) ws) i k P → P (puts i ws k)
unfolding puts
of_places b [] i k P h = h
of_places b (w ∷ ws) i k P h =
    of_places b ws (suc i) (put i w.first k) P
    (of_item b w.first (λ j. AnyPlaces b (map (contents b) ws) (suc i) (put i j k) P) h)
