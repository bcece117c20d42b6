-- Two records, their bytes written out after 004: a data connect by TCP, and a data listen by TCP.
use Rattle.std.specs.Prelude.{ℕ, List, [], ◌∷◌, ◌++◌}

abbrev pub small : ℕ → List ℕ
small n = 0 ∷ 0 ∷ 0 ∷ n ∷ []

-- the mark and the length, below 256, then sequence 7, time 9, type 0, the message's low two bytes, reply sequence and error
abbrev pub request_header : ℕ → ℕ → ℕ → List ℕ
request_header length high low = (128 ∷ 0 ∷ 0 ∷ length ∷ []) ++ small 7 ++ small 9 ++ small 0 ++ (0 ∷ 0 ∷ high ∷ low ∷ []) ++ small 0 ++ small 0

-- 10.0.0.1, port 10,000, with no pair; and 192.168.1.1, port 65,535, with the pair of A and 1
abbrev pub near : List ℕ
near = (10 ∷ 0 ∷ 0 ∷ 1 ∷ 0 ∷ 0 ∷ 39 ∷ 16 ∷ []) ++ small 0

abbrev pub far : List ℕ
far = (192 ∷ 168 ∷ 1 ∷ 1 ∷ 0 ∷ 0 ∷ 255 ∷ 255 ∷ []) ++ small 1 ++ small 1 ++ (65 ∷ 0 ∷ 0 ∷ 0 ∷ []) ++ small 1 ++ (49 ∷ 0 ∷ 0 ∷ 0 ∷ [])

-- NDMP_DATA_CONNECT, 0x40A: type TCP and two addresses
abbrev pub connect_two : List ℕ
connect_two = request_header 72 4 10 ++ small 1 ++ small 2 ++ near ++ far

-- NDMP_DATA_LISTEN, 0x409, of type TCP
abbrev pub listen_tcp : List ℕ
listen_tcp = request_header 28 4 9 ++ small 1
