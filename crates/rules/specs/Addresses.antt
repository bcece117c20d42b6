-- The addresses of listens and connects (paper 02, No. 14).
use Rattle.std.specs.Prelude.{ℕ, Bool, not, List, eqb}
use Rattle.codes.specs.Codes.{tcp_address}
use Rattle.xdr.specs.Choose.{choose}
use Rattle.wire_layouts.specs.AddressLists.{lendable}
use Rattle.wire_replies.specs.declared.Reply.{Reply}
use Rattle.wire_replies.specs.declared.Reply.TheVariants.{Listening, ListeningTcp}
use Rattle.rules_parts.specs.Parts.{address_wrong}

-- "9 no longer for type 1; 9 for an empty list, and for a lent one that does not decode or is above 16,384 bytes": of a listen the lent list, of a
-- connect how many addresses its own has
abbrev pub listen_wrong : ℕ → List ℕ → Bool
listen_wrong address list = address_wrong address (not (lendable list))

abbrev pub connect_wrong : ℕ → ℕ → Bool
connect_wrong address count = address_wrong address (eqb count 0)

-- "A listen by TCP answers the XDR list that the host lends with its call"
unfoldable pub listening : ℕ → Reply
listening address = choose (eqb address tcp_address) ListeningTcp Listening

-- "23 when failed is lent, or a LOCAL connect finds the other end listening by TCP"; "23: the other end is not in LISTEN". Awaited is whether the other
-- end is in LISTEN by LOCAL; a connect by TCP does not ask it
unfoldable pub unmet : ℕ → Bool → Bool → Bool
unmet address awaited made = choose (eqb address tcp_address) (not made) (not awaited)
