use Prim.Native.Nat.{ℕ, suc, ◌^◌, ◌≤◌, ◌<◌}
use mathlib.Core.Path.{refl}
use mathlib.Core.List.{List, [], ◌∷◌, flat_map}
use native.Mathlib.Omega.{arith}
use lib.ListN.{length}
use Rattle.codes.specs.Codes.{most_listed, most_addresses, most_port}
use Rattle.xdr.specs.Choose.{choose}
use Rattle.xdr.specs.Xdr.{be32, word}
use Rattle.xdr_opaque.specs.Put.{opaque}
use Rattle.xdr_opaque.specs.Opaque.{all_zero, opaque_at}
use Rattle.wire_layouts.specs.Layout.{piece_of, part_at, prepend, and_part, and_got, parts_at, times_at, counted, items_of, element_at, field_at, and_value, and_read, read_fields}
use Rattle.wire_layouts.specs.Layout.{Item, four, bytes, value, write_as}
use Rattle.wire_layouts.specs.Laws.{is_word, is_text, is_port, PartsFit, no_part, part_on, TimesFit, no_time, time_on, ListFits, is_list, ElementFits, is_element}
use Rattle.wire_layouts.specs.Laws.{is_lists, FieldsFit, no_field, field_on}
use Rattle.wire_layouts.specs.Scans.{pair_parts, address_parts, addresses, put, puts, summed, scanned, field_seen}
use Rattle.wire_layouts.specs.AddressLists.{keep, count_seen, and_address, addresses_from, listed, addresses_at, is_tcp, lendable}
use Rattle.wire_layouts.specs.AddressCases.{times, two_value}
use Rattle.wire_layouts.proofs.address_cases.Goals as goal

-- Each list is read by computing: the definitions that it meets unfold, and both sides are one term.
-- a pair, and an address with its pairs, fit
pair : {n : ℕ} {is : List (Item (List ℕ))} (s t : List ℕ) → length s < 2 ^ 32 → length t < 2 ^ 32 → TimesFit (PartsFit pair_parts) n is
    → TimesFit (PartsFit pair_parts) (suc n) (bytes s ∷ bytes t ∷ is)
pair s t h k f = time_on {is = bytes s ∷ bytes t ∷ []} (part_on (is_text h) (part_on (is_text k) no_part)) f

address : {n : ℕ} {is : List (Item (List ℕ))} (h p : ℕ) → h < 2 ^ 32 → p ≤ most_port → n ≤ most_listed → TimesFit (PartsFit pair_parts) n is
    → ElementFits address_parts most_listed pair_parts (four h ∷ four p ∷ four n ∷ is)
address {n = n} {is = is} h p k m l f =
    is_element {is = four h ∷ four p ∷ []} {v = value (four n) is} (part_on (is_word k) (part_on (is_port m) no_part)) (is_list (omega arith) l f)

two_fits : FieldsFit (addresses ∷ []) (two_value ∷ [])
two_fits =
    let near = address 167772161 10000 (omega arith) (omega arith) (omega arith) (pair (65 ∷ []) (49 ∷ []) (omega arith) (omega arith) no_time) in
    let far =
    address 3232235777 65535 (omega arith) (omega arith) (omega arith)
    (pair (65 ∷ 66 ∷ 67 ∷ 68 ∷ 69 ∷ []) [] (omega arith) (omega arith) (pair [] (1 ∷ 2 ∷ 3 ∷ 4 ∷ []) (omega arith) (omega arith) no_time)) in
    let all : ListFits most_addresses (ElementFits address_parts most_listed pair_parts) two_value =
    is_list {n = 2} (omega arith) (omega arith) (time_on near (time_on far no_time)) in
    field_on (is_lists all) no_field

pub returns : goal.returns
unfolding
    choose word all_zero opaque_at piece_of part_at prepend and_part and_got parts_at times_at counted items_of element_at field_at and_value and_read read_fields
    put puts summed scanned field_seen keep count_seen and_address addresses_from listed addresses_at is_tcp lendable times write_as flat_map be32 opaque
returns c = record {
  none = refl;
  one = refl;
  both = refl;
  sixteen = refl;
  seventeen = refl;
  port_of_two_bytes = refl;
  port_above = refl;
  pairs_64 = refl;
  pairs_65 = refl;
  fill_not_zero = refl;
  cut_in_a_pair = refl;
  cut_in_the_count = refl;
  written_two = refl;
  fits_two = two_fits;
  scanned_two = refl;
  left_over = refl;
  given_two = refl;
  given_sixteen = refl;
  lent_two = refl;
  lent_empty = refl;
  lent_nothing = refl;
  lent_left_over = refl;
  lent_seventeen = refl;
  lent_longest = refl;
  lent_too_long = refl;
  type_tcp = refl;
  type_local = refl;
  type_cut = refl;
  given_none = refl;
}
