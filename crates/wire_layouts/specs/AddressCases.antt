-- Lists of addresses with their bytes written out after 004's ndmp_tcp_addr, and what each is read as. They keep the layout to 004 and to 02:
-- a limit that is another, or a list of pairs that is not passed over, is seen here.
use Rattle.std.specs.Prelude.{ℕ, zero, suc, true, false, ◌≡◌, List, [], ◌∷◌, ◌++◌, map, take, replicate, Some, None}
use Rattle.codes.specs.Codes.{tcp_address}
use Rattle.xdr.specs.Xdr.{be32}
use Rattle.wire_layouts.specs.Layout.{four, bytes, place, Value, value, write_as, FieldGot, field_got, bad, field_at}
use Rattle.wire_layouts.specs.Laws.{FieldsFit}
use Rattle.wire_layouts.specs.Scans.{no_items, no_texts, scanned, addresses, field_of, field_seen}
use Rattle.wire_layouts.specs.AddressLists.{addresses_at, is_tcp, lendable}
use Rattle.wire_layouts.specs.declared.Field.TheVariants as Code
use Rattle.wire_layouts.specs.declared.Seen.TheVariants as Seen

-- ---- the bytes: a word below 256, a text of one byte, and n times the same
abbrev pub small : ℕ → List ℕ
small n = 0 ∷ 0 ∷ 0 ∷ n ∷ []

abbrev pub letter : ℕ → List ℕ
letter c = 0 ∷ 0 ∷ 0 ∷ 1 ∷ c ∷ 0 ∷ 0 ∷ 0 ∷ []

unfoldable pub times : ℕ → List ℕ → List ℕ
times zero l = []
times (suc n) l = l ++ times n l

-- 10.0.0.1 and port 10,000, and 192.168.1.1 and port 65,535
abbrev pub near : List ℕ
near = 10 ∷ 0 ∷ 0 ∷ 1 ∷ 0 ∷ 0 ∷ 39 ∷ 16 ∷ []

abbrev pub far : List ℕ
far = 192 ∷ 168 ∷ 1 ∷ 1 ∷ 0 ∷ 0 ∷ 255 ∷ 255 ∷ []

-- the pair of A and 1; and the pairs of ABCDE and nothing, and of nothing and four bytes
abbrev pub two : List ℕ
two =
    small 2 ++ near ++ small 1 ++ letter 65 ++ letter 49 ++ far ++ small 2 ++ small 5 ++ (65 ∷ 66 ∷ 67 ∷ 68 ∷ 69 ∷ 0 ∷ 0 ∷ 0 ∷ []) ++ small 0 ++ small 0 ++ small 4
    ++ (1 ∷ 2 ∷ 3 ∷ 4 ∷ [])

-- what it is written from
abbrev pub two_value : Value (List ℕ)
two_value =
    value (four 2)
    (four 167772161 ∷ four 10000 ∷ four 1 ∷ bytes (65 ∷ []) ∷ bytes (49 ∷ []) ∷ four 3232235777 ∷ four 65535 ∷ four 2
    ∷ bytes (65 ∷ 66 ∷ 67 ∷ 68 ∷ 69 ∷ []) ∷ bytes [] ∷ bytes [] ∷ bytes (1 ∷ 2 ∷ 3 ∷ 4 ∷ []) ∷ [])

abbrev pub plain : ℕ → List ℕ
plain n = small n ++ times n (near ++ small 0)

abbrev pub with_pairs : ℕ → List ℕ
with_pairs n = small 1 ++ near ++ small n ++ times n (small 0 ++ small 0)

abbrev pub with_port : List ℕ → List ℕ
with_port p = small 1 ++ (10 ∷ 0 ∷ 0 ∷ 1 ∷ []) ++ p ++ small 0

-- one address with one pair: no name, and a value of n zeros, which the word says
abbrev pub longest : ℕ → List ℕ
longest n = small 1 ++ near ++ small 1 ++ small 0 ++ be32 n ++ replicate n 0

abbrev pub read_list : List ℕ → FieldGot
read_list b = field_at addresses b 0

pub record AddressCases : Type 0 where
  pub none : read_list (small 0) ≡ field_got (four 0) [] 4
  pub one : read_list (plain 1) ≡ field_got (four 1) (four 167772161 ∷ four 10000 ∷ four 0 ∷ []) 16
  pub both :
      read_list two ≡ field_got (four 2)
      (four 167772161 ∷ four 10000 ∷ four 1 ∷ bytes (place 20 1) ∷ bytes (place 28 1) ∷ four 3232235777 ∷ four 65535 ∷ four 2 ∷ bytes (place 48 5)
      ∷ bytes (place 60 0) ∷ bytes (place 64 0) ∷ bytes (place 68 4) ∷ [])
      72
  pub sixteen : field_seen (read_list (plain 16)) ≡ Some (Seen.Word 16 196)
  pub seventeen : read_list (plain 17) ≡ bad
  pub port_of_two_bytes : field_seen (read_list (with_port (0 ∷ 0 ∷ 255 ∷ 255 ∷ []))) ≡ Some (Seen.Word 1 16)
  pub port_above : read_list (with_port (0 ∷ 1 ∷ 0 ∷ 0 ∷ [])) ≡ bad
  pub pairs_64 : field_seen (read_list (with_pairs 64)) ≡ Some (Seen.Word 1 528)
  pub pairs_65 : read_list (with_pairs 65) ≡ bad
  pub fill_not_zero : read_list (small 1 ++ near ++ small 1 ++ small 0 ++ (0 ∷ 0 ∷ 0 ∷ 1 ∷ 65 ∷ 0 ∷ 0 ∷ 1 ∷ [])) ≡ bad
  pub cut_in_a_pair : read_list (take 71 two) ≡ bad
  pub cut_in_the_count : read_list (take 3 two) ≡ bad
  -- the laws speak of it
  pub written_two : write_as (two_value ∷ []) ≡ two
  pub fits_two : FieldsFit (addresses ∷ []) (two_value ∷ [])
  -- behind the word of its type, as the code names the two, and with a word left over
  pub scanned_two : scanned (map field_of (Code.Tag tcp_address ∷ Code.Addresses ∷ [])) (small 1 ++ two)
      ≡ Some (record { words = 1 ∷ 2 ∷ 0 ∷ 0 ∷ 0 ∷ []; hypers = no_items; texts = no_texts })
  pub left_over : scanned (map field_of (Code.Tag tcp_address ∷ Code.Addresses ∷ [])) (small 1 ++ two ++ small 0) ≡ None
  -- the host is given them
  pub given_two : addresses_at (small 1 ++ two) 4
      ≡ record { count = 2; hosts = 167772161 ∷ 3232235777 ∷ replicate 14 0; ports = 10000 ∷ 65535 ∷ replicate 14 0 }
  pub given_sixteen : addresses_at (plain 16) 0 ≡ record { count = 16; hosts = replicate 16 167772161; ports = replicate 16 10000 }
  -- lists that a listen is lent: the longest is 16,384 bytes, one address with a pair whose value fills it
  pub lent_two : lendable two ≡ true
  pub lent_empty : lendable (small 0) ≡ false
  pub lent_nothing : lendable [] ≡ false
  pub lent_left_over : lendable (two ++ (0 ∷ [])) ≡ false
  pub lent_seventeen : lendable (plain 17) ≡ false
  pub lent_longest : lendable (longest 16360) ≡ true
  pub lent_too_long : lendable (longest 16364) ≡ false
  pub type_tcp : is_tcp (small 7 ++ small 1) 4 ≡ true
  pub type_local : is_tcp (small 1 ++ small 0) 4 ≡ false
  pub type_cut : is_tcp (0 ∷ 0 ∷ 0 ∷ []) 0 ≡ false
  pub given_none : addresses_at (plain 17) 0 ≡ record { count = 0; hosts = replicate 16 0; ports = replicate 16 0 }
