-- The replies that tell of addresses, with their bodies written out after 004's structures (Appendix C) and 02 No. 14.
-- They keep the layouts to the papers: no list behind type TCP, a list behind LOCAL, or a type that is not listed, is
-- seen here.
use Rattle.std.specs.Prelude.{ℕ, ◌≡◌, List, [], ◌∷◌, ◌++◌, replicate}
use Rattle.wire_replies.specs.declared.DataView.{DataView}
use Rattle.wire_replies.specs.declared.MoverView.{MoverView}
use Rattle.wire_replies.specs.declared.Reply.{Reply}
use Rattle.wire_replies.specs.declared.Reply.TheVariants.{Listening, ListeningTcp, ConnectionTypes, DataState, MoverState}
use Rattle.wire_replies.specs.Replies.{body_bytes, shape_of}

-- a word below 256
abbrev pub small : ℕ → List ℕ
small n = 0 ∷ 0 ∷ 0 ∷ n ∷ []

-- what a host lends: one address, 10.0.0.1 and port 10,000, with no pairs
abbrev one : List ℕ
one = 0 ∷ 0 ∷ 0 ∷ 1 ∷ 10 ∷ 0 ∷ 0 ∷ 1 ∷ 0 ∷ 0 ∷ 39 ∷ 16 ∷ 0 ∷ 0 ∷ 0 ∷ 0 ∷ []

-- a body of the reply, which is shown that list
abbrev body_of : Reply → List ℕ
body_of r = body_bytes (shape_of r one)

-- the states of both ends, with no two numbers alike
abbrev data_of : ℕ → DataView
data_of address = record { operation = 2; state = 1; reason = 4; address = address; processed = 0x1112131415161718 }

abbrev mover_of : ℕ → MoverView
mover_of address =
    record {
      mode = 1;
      state = 3;
      pause = 5;
      halt = 2;
      size = 32768;
      address = address;
      number = 0x87654321;
      moved = 0x1112131415161718;
      seek = 0x2122232425262728;
      left = 0x3132333435363738;
      offset = 0x4142434445464748;
      length = 0x5152535455565758;
    }

-- ndmp_data_get_state_reply up to its address, and what is behind it
abbrev data_front : List ℕ
data_front =
    small 3 ++ small 0 ++ small 2 ++ small 1 ++ small 4 ++ (0x11 ∷ 0x12 ∷ 0x13 ∷ 0x14 ∷ 0x15 ∷ 0x16 ∷ 0x17 ∷ 0x18 ∷ [])
    ++ replicate 8 0 ++ small 0

abbrev data_back : List ℕ
data_back = replicate 8 0 ++ replicate 8 0

-- ndmp_mover_get_state_reply up to its address, which is last
abbrev mover_front : List ℕ
mover_front =
    small 0 ++ small 1 ++ small 3 ++ small 5 ++ small 2 ++ (0 ∷ 0 ∷ 0x80 ∷ 0 ∷ []) ++ (0x87 ∷ 0x65 ∷ 0x43 ∷ 0x21 ∷ [])
    ++ (0x11 ∷ 0x12 ∷ 0x13 ∷ 0x14 ∷ 0x15 ∷ 0x16 ∷ 0x17 ∷ 0x18 ∷ [])
    ++ (0x21 ∷ 0x22 ∷ 0x23 ∷ 0x24 ∷ 0x25 ∷ 0x26 ∷ 0x27 ∷ 0x28 ∷ [])
    ++ (0x31 ∷ 0x32 ∷ 0x33 ∷ 0x34 ∷ 0x35 ∷ 0x36 ∷ 0x37 ∷ 0x38 ∷ [])
    ++ (0x41 ∷ 0x42 ∷ 0x43 ∷ 0x44 ∷ 0x45 ∷ 0x46 ∷ 0x47 ∷ 0x48 ∷ [])
    ++ (0x51 ∷ 0x52 ∷ 0x53 ∷ 0x54 ∷ 0x55 ∷ 0x56 ∷ 0x57 ∷ 0x58 ∷ [])

pub record AddressReplies : Type 0 where
  -- ndmp_data_listen_reply, ndmp_mover_listen_reply: error, and ndmp_addr: type 0 and nothing, or type 1 and the list
  pub local_listening : body_of Listening ≡ small 0 ++ small 0
  pub tcp_listening : body_of ListeningTcp
      ≡ small 0 ++ small 1 ++ small 1 ++ (10 ∷ 0 ∷ 0 ∷ 1 ∷ []) ++ (0 ∷ 0 ∷ 39 ∷ 16 ∷ []) ++ small 0
  -- ndmp_config_get_connection_type_reply: error, and a list of two types: "Connection types lists 0 and 1"
  pub types : body_of ConnectionTypes ≡ small 0 ++ small 2 ++ small 0 ++ small 1
  -- "get state gives the type, until stop, with no addresses": behind type 1 the list is empty
  pub local_data : body_of (DataState (data_of 0)) ≡ data_front ++ small 0 ++ data_back
  pub tcp_data : body_of (DataState (data_of 1)) ≡ data_front ++ small 1 ++ small 0 ++ data_back
  pub local_mover : body_of (MoverState (mover_of 0)) ≡ mover_front ++ small 0
  pub tcp_mover : body_of (MoverState (mover_of 1)) ≡ mover_front ++ small 1 ++ small 0
