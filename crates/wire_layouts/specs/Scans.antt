-- What a scan of a body keeps: of each field its first item, at the field's number; and the fields, as the code names them.
use Rattle.std.specs.Prelude.{ℕ, suc, List, [], ◌∷◌, set, replicate, Option, Some, None}
use Rattle.codes.specs.Codes.{most_listed, most_addresses}
use Rattle.wire_layouts.specs.Layout.{Part, word, hyper, text, port, Field, one, many, lists, tag, Item, four, eight, bytes, fixed, Value, place, Piece, piece, short, Got, got, cut}
use Rattle.wire_layouts.specs.Layout.{FieldGot, field_got, stop, bad, element_at, Read, whole, before, broken, read_fields}
use Rattle.wire_layouts.specs.declared.Text.{Text}
use Rattle.wire_layouts.specs.declared.Field as code
use Rattle.wire_layouts.specs.declared.Field.TheVariants as Code
use Rattle.wire_layouts.specs.declared.Scan.{Scan}
use Rattle.wire_layouts.specs.declared.Seen.{Seen}

-- ---- what is kept: of each field its first item, at the field's number
abbrev pub no_items : List ℕ
no_items = replicate 5 0

abbrev pub no_texts : List Text
no_texts = replicate 5 (place 0 0)

abbrev pub empty_scan : Scan
empty_scan = record { words = no_items; hypers = no_items; texts = no_texts }

unfoldable pub put : ℕ → Item Text → Scan → Scan
put i (four v) k = record { words = set k.words i v; hypers = k.hypers; texts = k.texts }
put i (eight v) k = record { words = k.words; hypers = set k.hypers i v; texts = k.texts }
put i (bytes t) k = record { words = k.words; hypers = k.hypers; texts = set k.texts i t }
put i (fixed t) k = record { words = k.words; hypers = k.hypers; texts = set k.texts i t }

unfoldable pub puts : ℕ → List (Value Text) → Scan → Scan
puts i [] k = k
puts i (v ∷ vs) k = puts (suc i) vs (put i v.first k)

-- none of a body that does not decode
unfoldable pub summed : ℕ → Scan → Read → Option Scan
summed i k (whole vs) = Some (puts i vs k)
summed i k (before vs) = Some (puts i vs k)
summed i k broken = None

unfoldable pub scanned : List Field → List ℕ → Option Scan
scanned fs b = summed 0 empty_scan (read_fields fs b 0)

-- ---- the fields, as the code names them
abbrev pub pair_parts : List Part
pair_parts = text ∷ text ∷ []

abbrev pub pairs : Field
pairs = many most_listed pair_parts

-- ndmp_name: four strings and two hypers
abbrev pub name_parts : List Part
name_parts = text ∷ text ∷ text ∷ text ∷ hyper ∷ hyper ∷ []

abbrev pub names : Field
names = many most_listed name_parts

-- ndmp_tcp_addr: a host and a port, and behind them the pairs of its environment
abbrev pub address_parts : List Part
address_parts = word ∷ port ∷ []

-- "lists of up to 16 addresses, each with up to 64 environment pairs"
abbrev pub addresses : Field
addresses = lists most_addresses address_parts most_listed pair_parts

-- one address
abbrev pub address_at : List ℕ → ℕ → Got
address_at b at = element_at address_parts most_listed pair_parts b at

abbrev pub field_of : code.Field → Field
field_of (Code.One p) = one p
field_of Code.Pairs = pairs
field_of Code.Names = names
field_of Code.Addresses = addresses
field_of (Code.Tag k) = tag k

-- passing over what was read: the offset after it
unfoldable pub past : Piece → Option ℕ
past (piece i x) = Some x
past short = None

unfoldable pub forget : Got → Option ℕ
forget (got is x) = Some x
forget cut = None

-- what the code sees of a field
abbrev pub seen : Item Text → ℕ → Seen
seen (four v) x = Seen.Word v x
seen (eight v) x = Seen.Hyper v x
seen (bytes t) x = Seen.Place t x
seen (fixed t) x = Seen.Place t x

unfoldable pub field_seen : FieldGot → Option Seen
field_seen (field_got i is x) = Some (seen i x)
field_seen (stop v) = Some (Seen.Stop v)
field_seen bad = None

-- the offset after a field that was seen
unfoldable pub after_seen : Seen → Option ℕ
after_seen (Seen.Word v x) = Some x
after_seen (Seen.Hyper v x) = Some x
after_seen (Seen.Place t x) = Some x
after_seen (Seen.Stop v) = None
