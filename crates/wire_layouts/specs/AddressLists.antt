-- The addresses of a list, as the host is given them: read where the decoder reads them.
use Rattle.std.specs.Prelude.{ℕ, zero, suc, ◌+◌, ◌-◌, ◌*◌, ◌≡◌, Bool, false, not, List, [], ◌∷◌, ◌++◌, eqb, leb, ltb, length, get_or, set, replicate, Option, Some, None}
use Rattle.codes.specs.Codes.{tcp_address, most_addresses, most_lent}
use Rattle.xdr.specs.Choose.{choose}
use Rattle.xdr.specs.Xdr as xdr
use Rattle.wire_layouts.specs.Layout.{Item, four, Got, got, cut, field_got, bad, field_at}
use Rattle.wire_layouts.specs.Scans.{scanned, addresses, address_at, field_seen}
use Rattle.wire_layouts.specs.declared.Text.{Text}
use Rattle.wire_layouts.specs.declared.Scan.{Scan}
use Rattle.wire_layouts.specs.declared.Seen.{Seen}
use Rattle.wire_layouts.specs.declared.Addresses.{Addresses}

abbrev pub no_hosts : List ℕ
no_hosts = replicate most_addresses 0

-- so many addresses, of which none is kept yet
abbrev pub empty_addresses : ℕ → Addresses
empty_addresses n = record { count = n; hosts = no_hosts; ports = no_hosts }

unfoldable pub keep : ℕ → ℕ → ℕ → Addresses → Addresses
keep i host port k = record { count = k.count; hosts = set k.hosts i host; ports = set k.ports i port }

-- the count of a list that was seen
unfoldable pub count_seen : Option Seen → ℕ
count_seen (Some (Seen.Word v x)) = v
count_seen (Some (Seen.Hyper v x)) = 0
count_seen (Some (Seen.Place t x)) = 0
count_seen (Some (Seen.Stop v)) = 0
count_seen None = 0

unfoldable pub and_address : Got → (ℕ → Addresses) → Addresses
and_address (got is x) f = f x
and_address cut f = empty_addresses 0

-- n addresses from an offset on, kept from number i on: each is a host and a port, and the next begins where it ends
unfoldable pub addresses_from : ℕ → ℕ → List ℕ → ℕ → Addresses → Addresses
addresses_from zero i b at k = k
addresses_from (suc n) i b at k = and_address (address_at b at) (λ (x : ℕ). addresses_from n (suc i) b x (keep i (xdr.word b at) (xdr.word b (at + 4)) k))

-- those of the list at an offset; none where it does not decode
unfoldable pub listed : List ℕ → ℕ → ℕ → Addresses
listed b at n = addresses_from n 0 b (at + 4) (empty_addresses n)

unfoldable pub addresses_at : List ℕ → ℕ → Addresses
addresses_at b at = listed b at (count_seen (field_seen (field_at addresses b at)))

-- ---- the type of an address, and the list that a listen is lent
-- whether the word at an offset is there, and is the type TCP
unfoldable pub is_tcp : List ℕ → ℕ → Bool
is_tcp b at = choose (leb (at + 4) (length b)) (eqb (xdr.word b at) tcp_address) false

-- a list that decoded, of one address or more
abbrev pub some_listed : Option Scan → Bool
some_listed (Some k) = not (eqb (get_or k.words 0 0) 0)
some_listed None = false

-- "9 for an empty list, and for a lent one that does not decode or is above 16,384 bytes"
unfoldable pub lendable : List ℕ → Bool
lendable l = choose (ltb most_lent (length l)) false (some_listed (scanned (addresses ∷ []) l))

-- ---- they are what the decoder reads: of the items of a list, the first two of each element, behind which stand the count of its pairs
-- and two texts a pair
pub data AddressItems : List (Item Text) → List ℕ → List ℕ → Type 0 where
  no_address : AddressItems [] [] []
  address_on : {host port pairs : ℕ} (texts : List (Item Text)) {is : List (Item Text)} {hosts ports : List ℕ} → length texts ≡ pairs * 2 → AddressItems is hosts ports
      → AddressItems (four host ∷ four port ∷ four pairs ∷ (texts ++ is)) (host ∷ hosts) (port ∷ ports)

pub record Given (n : ℕ) (is : List (Item Text)) (k : Addresses) : Type 0 where
  pub hosts : List ℕ
  pub ports : List ℕ
  pub items : AddressItems is hosts ports
  pub counted : length hosts ≡ n
  pub counts : k.count ≡ n
  pub hosts_are : k.hosts ≡ hosts ++ replicate (most_addresses - n) 0
  pub ports_are : k.ports ≡ ports ++ replicate (most_addresses - n) 0

pub record AddressesGiven : Type 0 where
  pub decoded : (b : List ℕ) (at n : ℕ) (is : List (Item Text)) (x : ℕ) → field_at addresses b at ≡ field_got (four n) is x → Given n is (addresses_at b at)
  pub undecoded : (b : List ℕ) (at : ℕ) → field_at addresses b at ≡ bad → addresses_at b at ≡ empty_addresses 0
