-- Each body of `Sent` is read as the request that it says, and a body whose rest is not read as the words before it. Assumes nothing.
use Prim.Native.Nat.{ℕ, ◌+◌, ◌^◌, ◌≤◌, ◌<◌}
use mathlib.Core.Bool.{Bool, true, false}
use mathlib.Core.Path.{◌≡◌, refl, sym, ap, ◌∙◌}
use Rattle.std.specs.Prelude.{Some}
use mathlib.Core.List.{List, [], ◌∷◌, ◌++◌, map, flat_map}
use native.Mathlib.Omega.{arith}
use lib.Dec.{eqb}
use lib.ListN.{length, length-append}
use borrow.Author.Tests.{le-leb, ne_eqb}
use Rattle.codes.specs.Codes.{local_address, tcp_address, md5_auth}
use Rattle.xdr.specs.Choose.{choose}
use Rattle.xdr.specs.Xdr.{be32}
use Rattle.xdr.proofs.Laws.{length_be32}
use Rattle.xdr.proofs.Tests.{pick_else}
use Rattle.xdr_opaque.specs.Opaque.{filled}
use Rattle.xdr_opaque.specs.Put.{opaque}
use Rattle.xdr_opaque.proofs.Fields.{From, all_of, from_length, past, word_is, opaque_bytes}
use Rattle.wire_pairs.specs.Pairs.{Pair, pairs_from}
use Rattle.wire_frame.specs.declared.ConnectKind.TheVariants as ConnectKind
use Rattle.wire_frame.specs.declared.ConfigKind.TheVariants as ConfigKind
use Rattle.wire_frame.specs.declared.ScsiKind.TheVariants as ScsiKind
use Rattle.wire_frame.specs.declared.TapeKind.TheVariants as TapeKind
use Rattle.wire_frame.specs.declared.DataKind.TheVariants as DataKind
use Rattle.wire_frame.specs.declared.MoverKind.TheVariants as MoverKind
use Rattle.wire_frame.specs.declared.JointKind.TheVariants as JointKind
use Rattle.wire_frame.specs.declared.Message.{Message}
use Rattle.wire_layouts.specs.Layout.{Field, one, tag, four, bytes, Value, value, place, write_as, part_at, single, field_at, whole, before, and_value, and_read, read_fields}
use Rattle.wire_layouts.specs.declared.Part.TheVariants.{Word as word, Text as text, Digest as digest}
use Rattle.wire_layouts.specs.Laws.{contents, FieldsFit}
use Rattle.wire_layouts.specs.Scans.{pairs, empty_scan, put, puts, summed, scanned}
use Rattle.wire_layouts.specs.AddressLists.{is_tcp}
use Rattle.wire_layouts.specs.declared.Text.{Text}
use Rattle.wire_layouts.proofs.Back.{round_trip}
use Rattle.wire_layouts.proofs.Within.{whole_kept}
use Rattle.wire_layouts.proofs.AddressTypes.{type_written}
use Rattle.wire_requests.specs.Bodies.{behind_text, pairs_at, listen_fields, connect_fields}
use Rattle.wire_requests.specs.Bodies.{layout_of, request_of, or_bad, read_by, decoded}
use Rattle.wire_requests.specs.Within.{bytes_at}
use Rattle.wire_requests.specs.Sent.{Name, Addr, local, tcp, Arg, ulong, octets, pvals, tcp_addrs, union, arg_bytes}
use Rattle.wire_requests.specs.Sent.{Sent, args_of, sent_bytes, SentFits, AtPlace, AtPairs, Means}
use Rattle.wire_requests.specs.Sent.{connect_open, client_auth, connect_close, connection_type, auth_attr, server_info}
use Rattle.wire_requests.specs.Sent.{scsi_open, scsi_close, scsi_state, scsi_reset, execute_cdb}
use Rattle.wire_requests.specs.Sent.{tape_open, tape_close, tape_state, tape_mtio, tape_write, tape_read, data_state, start_backup, start_recover, data_get_env, data_stop, data_listen}
use Rattle.wire_requests.specs.Sent.{mover_state, mover_listen, mover_continue, mover_stop, set_window, mover_read, set_record_size}
use Rattle.wire_requests.specs.Sent.{data_abort, data_connect_lem, mover_abort, mover_close, mover_connect_lem}
use Rattle.wire_requests.specs.RoundTrip.{Known, OtherThan, OtherType, RequestsBack}
use Rattle.wire_requests.specs.declared.Pairs.{Pairs}
use Rattle.wire_requests.specs.declared.ConnectRequest.TheVariants as ConnectRequest
use Rattle.wire_requests.specs.declared.ConfigRequest.TheVariants as ConfigRequest
use Rattle.wire_requests.specs.declared.Request.{Request}
use Rattle.wire_requests.specs.declared.Request.TheVariants.{Connect, Config}
use Rattle.wire_requests.proofs.Laws.{by_layout}
use Rattle.wire_requests.proofs.Sent.{field_for, value_for, args_fit, args_written, AnyPlaces, of_places}
use Rattle.wire_requests.proofs.Starts.{listed_back, behind_text_lem, After, first_text}

read_whole : (m : Message) (b : List ℕ) (ws : List (Value Text)) → read_fields (layout_of m b) b 0 ≡ whole ws
    → read_by m b ≡ request_of m (puts 0 ws empty_scan)
read_whole m b ws e = ap (or_bad (request_of m)) (whole_kept (layout_of m b) b ws e)

-- ---- each body of `Sent`, written by its layout, is read back
read_any : (m : Message) → Known m → (vs : List (Value (List ℕ))) → FieldsFit (layout_of m (write_as vs)) vs → (P : Request → Type 0)
    → AnyPlaces (write_as vs) vs 0 empty_scan (λ k. P (request_of m k)) → P (decoded m (write_as vs))
read_any m h vs f P a =
    let b = write_as vs in
    let r = round_trip (layout_of m b) vs f in
    let e : decoded m b ≡ request_of m (puts 0 r.places empty_scan) = by_layout m b h ∙ read_whole m b r.places r.reads in
    rw e (of_places b r.places 0 empty_scan (λ k. P (request_of m k)) (rw r.same a))

-- the same where it is known what was read of the first field
read_first : (m : Message) → Known m → (v : Value (List ℕ)) (us : List (Value (List ℕ))) → FieldsFit (layout_of m (write_as (v ∷ us))) (v ∷ us) → (w : Value Text)
    → ((ws : List (Value Text)) → read_fields (layout_of m (write_as (v ∷ us))) (write_as (v ∷ us)) 0 ≡ whole ws → After w ws) → (P : Request → Type 0)
    → AnyPlaces (write_as (v ∷ us)) us 1 (put 0 w.first empty_scan) (λ k. P (request_of m k)) → P (decoded m (write_as (v ∷ us)))
unfolding puts
read_first m h v us f w known P a =
    let b = write_as (v ∷ us) in
    let r = round_trip (layout_of m b) (v ∷ us) f in
    let n = known r.places r.reads in
    let e : decoded m b ≡ request_of m (puts 1 n.others (put 0 w.first empty_scan)) =
    by_layout m b h ∙ read_whole m b r.places r.reads ∙ ap (λ (ws : List (Value Text)). request_of m (puts 0 ws empty_scan)) n.same in
    let s : contents b w ∷ map (contents b) n.others ≡ v ∷ us = rw n.same at r.same in
    let t : map (contents b) n.others ≡ us = cc in
    rw e (of_places b n.others 1 (put 0 w.first empty_scan) (λ k. P (request_of m k)) (rw t a))

by_args : {m : Message} (s : Sent m) → Known m → map field_for (args_of s) ≡ layout_of m (sent_bytes s) → SentFits s
    → AnyPlaces (sent_bytes s) (map value_for (args_of s)) 0 empty_scan (λ k. Means s (sent_bytes s) (request_of m k))
    → Means s (sent_bytes s) (decoded m (sent_bytes s))
unfolding sent_bytes
by_args {m} s h l f a =
    let e = args_written (args_of s) in
    let g : FieldsFit (layout_of m (write_as (map value_for (args_of s)))) (map value_for (args_of s)) = rw (e, ← l) (args_fit (args_of s) f) in
    rw (← e) (read_any m h (map value_for (args_of s)) g (Means s (write_as (map value_for (args_of s)))) (rw e a))

-- the type of an address that is the first field, or stands behind a word: it says which layout is read
first_type : {m : Message} (s : Sent m) (v : ℕ) (xs : List Arg) → args_of s ≡ union v ∷ xs → v < 2 ^ 32 → is_tcp (sent_bytes s) 0 ≡ eqb v tcp_address
unfolding sent_bytes flat_map
first_type s v xs e h = rw e (type_written (flat_map arg_bytes xs) v (all_of (be32 v ++ flat_map arg_bytes xs)) h)

behind_word : (w : ℕ) (q : List ℕ) → From (be32 w ++ q) 4 q
behind_word w q = rw length_be32 at (past (be32 w) (all_of (be32 w ++ q)))

second_type : {m : Message} (s : Sent m) (w v : ℕ) (xs : List Arg) → args_of s ≡ ulong w ∷ union v ∷ xs → v < 2 ^ 32 → is_tcp (sent_bytes s) 4 ≡ eqb v tcp_address
unfolding sent_bytes flat_map
second_type s w v xs e h = rw e (type_written (flat_map arg_bytes xs) v (behind_word w (be32 v ++ flat_map arg_bytes xs)) h)

data_listen_row : (by_tcp : Bool) → map field_for (args_of (data_listen by_tcp)) ≡ listen_fields (is_tcp (sent_bytes (data_listen by_tcp)) 0)
data_listen_row true = sym (ap listen_fields (first_type (data_listen true) tcp_address [] refl (omega arith)))
data_listen_row false = sym (ap listen_fields (first_type (data_listen false) local_address [] refl (omega arith)))

mover_listen_row : (mode : ℕ) (by_tcp : Bool) → map field_for (args_of (mover_listen mode by_tcp)) ≡ one word ∷ listen_fields (is_tcp (sent_bytes (mover_listen mode by_tcp)) 4)
mover_listen_row mode true = sym (ap (λ (t : Bool). one word ∷ listen_fields t) (second_type (mover_listen mode true) mode tcp_address [] refl (omega arith)))
mover_listen_row mode false = sym (ap (λ (t : Bool). one word ∷ listen_fields t) (second_type (mover_listen mode false) mode local_address [] refl (omega arith)))

data_connect_row : (addr : Addr) → map field_for (args_of (data_connect_lem addr)) ≡ connect_fields (is_tcp (sent_bytes (data_connect_lem addr)) 0)
data_connect_row local = sym (ap connect_fields (first_type (data_connect_lem local) local_address [] refl (omega arith)))
data_connect_row (tcp addrs) = sym (ap connect_fields (first_type (data_connect_lem (tcp addrs)) tcp_address (tcp_addrs addrs ∷ []) refl (omega arith)))

mover_connect_row : (mode : ℕ) (addr : Addr) → map field_for (args_of (mover_connect_lem mode addr)) ≡ one word ∷ connect_fields (is_tcp (sent_bytes (mover_connect_lem mode addr)) 4)
mover_connect_row mode local = sym (ap (λ (t : Bool). one word ∷ connect_fields t) (second_type (mover_connect_lem mode local) mode local_address [] refl (omega arith)))
mover_connect_row mode (tcp addrs) =
    sym (ap (λ (t : Bool). one word ∷ connect_fields t) (second_type (mover_connect_lem mode (tcp addrs)) mode tcp_address (tcp_addrs addrs ∷ []) refl (omega arith)))

at_place : {b s : List ℕ} {P : Text → Type 0} (t : Text) → bytes_at b t ≡ s → P t → AtPlace b s P
at_place t e p = record { stands = t; holds = e; so = p }

at_pairs : {b : List ℕ} {env : List Pair} {P : Pairs → Type 0} (ps : Pairs) → pairs_from b ps.count ps.start ≡ env → P ps → AtPairs b env P
at_pairs ps e p = record { stand = ps; hold = e; so = p }

-- ---- start requests: the pairs of a recover begin behind the first word, those of a backup behind its method, whose place is known
recover_pairs : (env : List Pair) (list : List Name) (butype : List ℕ) → SentFits (start_recover env list butype)
    → pairs_from (sent_bytes (start_recover env list butype)) (length env) 4 ≡ env
unfolding sent_bytes flat_map
recover_pairs env list butype f = listed_back env _ (all_of (flat_map arg_bytes (args_of (start_recover env list butype)))) f.0.1

module _ (butype : List ℕ) (env : List Pair) (f : SentFits (start_backup butype env)) where
  from_method : From (sent_bytes (start_backup butype env)) 0 (opaque butype ++ (arg_bytes (pvals env) ++ []))
  unfolding sent_bytes flat_map
  from_method = all_of (sent_bytes (start_backup butype env))

  backup_pairs : pairs_from (sent_bytes (start_backup butype env)) (length env) (4 + filled (length butype) + 4) ≡ env
  backup_pairs = listed_back env [] (behind_text_lem butype _ from_method) f.1.0.1

  backup_back : Means (start_backup butype env) (sent_bytes (start_backup butype env)) (decoded (Message.Data DataKind.Backup) (sent_bytes (start_backup butype env)))
  unfolding put sent_bytes
  backup_back =
      let s = start_backup butype env in
      let e = args_written (args_of s) in
      let b = write_as (map value_for (args_of s)) in
      let p = place 4 (length butype) in
      let from : From b 0 (opaque butype ++ (arg_bytes (pvals env) ++ [])) = rw e from_method in
      let pairs-there : pairs_from b (length env) (4 + filled (length butype) + 4) ≡ env = rw e backup_pairs in
      rw (← e)
      (read_first (Message.Data DataKind.Backup) tt (value_for (octets butype)) (value_for (pvals env) ∷ []) (args_fit (args_of s) f) (value (bytes p) [])
      (λ ws r. first_text butype _ (pairs ∷ []) ws from f.0 r) (Means s b)
      (at_place p (opaque_bytes _ butype from f.0) (at_pairs (pairs_at (behind_text p) (length env)) pairs-there refl)))

sent_back : {m : Message} (s : Sent m) → SentFits s → Means s (sent_bytes s) (decoded m (sent_bytes s))
unfolding put choose
sent_back (connect_open version) f = by_args (connect_open version) tt refl f refl
sent_back (client_auth id secret) f = by_args (client_auth id secret) tt refl f (λ i e d g. at_place i e (at_place d g refl))
sent_back connect_close f = by_args connect_close tt refl f refl
sent_back connection_type f = by_args connection_type tt refl f refl
sent_back auth_attr f = by_args auth_attr tt refl f refl
sent_back server_info f = by_args server_info tt refl f refl
sent_back (scsi_open device) f = by_args (scsi_open device) tt refl f (λ t e. at_place t e refl)
sent_back scsi_close f = by_args scsi_close tt refl f refl
sent_back scsi_state f = by_args scsi_state tt refl f refl
sent_back scsi_reset f = by_args scsi_reset tt refl f refl
sent_back (execute_cdb flags timeout datainLen cdb dataout) f = by_args (execute_cdb flags timeout datainLen cdb dataout) tt refl f (λ t e u g. at_place t e refl)
sent_back (tape_open device mode) f = by_args (tape_open device mode) tt refl f (λ t e. at_place t e refl)
sent_back tape_close f = by_args tape_close tt refl f refl
sent_back tape_state f = by_args tape_state tt refl f refl
sent_back (tape_mtio op count) f = by_args (tape_mtio op count) tt refl f refl
sent_back (tape_write dataOut) f = by_args (tape_write dataOut) tt refl f (λ t e. at_place t e refl)
sent_back (tape_read count) f = by_args (tape_read count) tt refl f refl
sent_back data_state f = by_args data_state tt refl f refl
sent_back (start_backup butype env) f = backup_back butype env f
sent_back (start_recover env list butype) f =
    by_args (start_recover env list butype) tt refl f (λ t e. at_place t e (at_pairs (pairs_at 0 (length env)) (recover_pairs env list butype f) refl))
sent_back data_get_env f = by_args data_get_env tt refl f refl
sent_back data_stop f = by_args data_stop tt refl f refl
sent_back (data_listen by_tcp) f = by_args (data_listen by_tcp) tt (data_listen_row by_tcp) f refl
sent_back mover_state f = by_args mover_state tt refl f refl
sent_back (mover_listen mode by_tcp) f = by_args (mover_listen mode by_tcp) tt (mover_listen_row mode by_tcp) f refl
sent_back mover_continue f = by_args mover_continue tt refl f refl
sent_back mover_stop f = by_args mover_stop tt refl f refl
sent_back (set_window offset len) f = by_args (set_window offset len) tt refl f refl
sent_back (mover_read offset len) f = by_args (mover_read offset len) tt refl f refl
sent_back (set_record_size len) f = by_args (set_record_size len) tt refl f refl
sent_back data_abort f = by_args data_abort tt refl f refl
sent_back (data_connect_lem local) f = by_args (data_connect_lem local) tt (data_connect_row local) f refl
sent_back (data_connect_lem (tcp addrs)) f = by_args (data_connect_lem (tcp addrs)) tt (data_connect_row (tcp addrs)) f refl
sent_back mover_abort f = by_args mover_abort tt refl f refl
sent_back mover_close f = by_args mover_close tt refl f refl
sent_back (mover_connect_lem mode local) f = by_args (mover_connect_lem mode local) tt (mover_connect_row mode local) f refl
sent_back (mover_connect_lem mode (tcp addrs)) f = by_args (mover_connect_lem mode (tcp addrs)) tt (mover_connect_row mode (tcp addrs)) f refl

-- no message is left out
every : (m : Message) → Known m → Sent m
every (Message.Connect ConnectKind.Open) h = connect_open 0
every (Message.Connect ConnectKind.Auth) h = client_auth [] []
every (Message.Connect ConnectKind.Close) h = connect_close
every (Message.Config ConfigKind.ConnectionType) h = connection_type
every (Message.Config ConfigKind.AuthAttributes) h = auth_attr
every (Message.Config ConfigKind.ServerInfo) h = server_info
every (Message.Scsi ScsiKind.Open) h = scsi_open []
every (Message.Scsi ScsiKind.Close) h = scsi_close
every (Message.Scsi ScsiKind.State) h = scsi_state
every (Message.Scsi ScsiKind.Reset) h = scsi_reset
every (Message.Scsi ScsiKind.Cdb) h = execute_cdb 0 0 0 [] []
every (Message.Tape TapeKind.Open) h = tape_open [] 0
every (Message.Tape TapeKind.Close) h = tape_close
every (Message.Tape TapeKind.State) h = tape_state
every (Message.Tape TapeKind.Mtio) h = tape_mtio 0 0
every (Message.Tape TapeKind.Write) h = tape_write []
every (Message.Tape TapeKind.Read) h = tape_read 0
every (Message.Data DataKind.State) h = data_state
every (Message.Data DataKind.Backup) h = start_backup [] []
every (Message.Data DataKind.Recover) h = start_recover [] [] []
every (Message.Data DataKind.Environment) h = data_get_env
every (Message.Data DataKind.Stop) h = data_stop
every (Message.Data DataKind.Listen) h = data_listen false
every (Message.Mover MoverKind.State) h = mover_state
every (Message.Mover MoverKind.Listen) h = mover_listen 0 false
every (Message.Mover MoverKind.Continue) h = mover_continue
every (Message.Mover MoverKind.Stop) h = mover_stop
every (Message.Mover MoverKind.Window) h = set_window 0 0
every (Message.Mover MoverKind.Read) h = mover_read 0 0
every (Message.Mover MoverKind.Size) h = set_record_size 0
every (Message.Joint JointKind.DataAbort) h = data_abort
every (Message.Joint JointKind.DataConnect) h = data_connect_lem local
every (Message.Joint JointKind.MoverAbort) h = mover_abort
every (Message.Joint JointKind.MoverClose) h = mover_close
every (Message.Joint JointKind.MoverConnect) h = mover_connect_lem 0 local
every Message.Unknown h = absurd h

-- ---- a word that is another type than the tag's: the rest is not read
stops : (k v : ℕ) (fs : List Field) (b q : List ℕ) (at : ℕ) → From b at (be32 v ++ q) → OtherThan k v
    → read_fields (tag k ∷ fs) b at ≡ before (value (four v) [] ∷ [])
unfolding read_fields field_at and_read choose
stops k v fs b q at f (h, n) =
    let l : at + 4 ≤ length b = rw (from_length f, length-append, length_be32) (omega arith) in
    rw (le-leb (at + 4) (length b) l, ← word_is q v f h, ne_eqb v k n)

-- the word before it
passes : (v : ℕ) (fs : List Field) (b q : List ℕ) → From b 0 (be32 v ++ q) → v < 2 ^ 32
    → read_fields (one word ∷ fs) b 0 ≡ and_value (value (four v) []) (read_fields fs b 4)
unfolding read_fields field_at and_read choose single part_at
passes v fs b q f h =
    let l : 4 ≤ length b = rw (from_length f, length-append, length_be32) (omega arith) in
    rw (le-leb 4 (length b) l, ← word_is q v f h)

-- a request whose rest was not read, by the words before it
read_before : (m : Message) → Known m → (b : List ℕ) (ws : List (Value Text)) → read_fields (layout_of m b) b 0 ≡ before ws
    → decoded m b ≡ request_of m (puts 0 ws empty_scan)
unfolding scanned summed
read_before m h b ws e =
    let k : scanned (layout_of m b) b ≡ Some (puts 0 ws empty_scan) = rw e in
    by_layout m b h ∙ ap (or_bad (request_of m)) k

other_first : (m : Message) → Known m → (k : ℕ) (fs : List Field) (v : ℕ) (rest : List ℕ) → layout_of m (be32 v ++ rest) ≡ tag k ∷ fs → OtherThan k v
    → decoded m (be32 v ++ rest) ≡ request_of m (put 0 (four v) empty_scan)
unfolding puts put
other_first m h k fs v rest l o =
    let b = be32 v ++ rest in
    read_before m h b (value (four v) [] ∷ []) (rw l (stops k v fs b rest 0 (all_of b) o))

other_second : (m : Message) → Known m → (k : ℕ) (fs : List Field) (w v : ℕ) (rest : List ℕ)
    → layout_of m (be32 w ++ (be32 v ++ rest)) ≡ one word ∷ tag k ∷ fs → w < 2 ^ 32 → OtherThan k v
    → decoded m (be32 w ++ (be32 v ++ rest)) ≡ request_of m (put 1 (four v) (put 0 (four w) empty_scan))
unfolding puts put and_value
other_second m h k fs w v rest l u o =
    let q = be32 v ++ rest in
    let b = be32 w ++ q in
    let e = passes w (tag k ∷ fs) b q (all_of b) u ∙ ap (and_value (value (four w) [])) (stops k v fs b rest 4 (behind_word w q) o) in
    read_before m h b (value (four w) [] ∷ value (four v) [] ∷ []) (rw l e)

-- an auth of another type stops MD5's layout
other_auth : (v : ℕ) (rest : List ℕ) → OtherThan md5_auth v
    → decoded (Message.Connect ConnectKind.Auth) (be32 v ++ rest) ≡ Connect ConnectRequest.OtherAuth
unfolding put
other_auth v rest o =
    other_first (Message.Connect ConnectKind.Auth) tt md5_auth (one text ∷ one digest ∷ []) v rest refl o
    ∙ ap Connect (sym (pick_else _ (ne_eqb v md5_auth o.1) refl))

other_attributes : (v : ℕ) (rest : List ℕ) → OtherThan md5_auth v
    → decoded (Message.Config ConfigKind.AuthAttributes) (be32 v ++ rest) ≡ Config (ConfigRequest.AuthAttributes v)
unfolding put
other_attributes v rest o = other_first (Message.Config ConfigKind.AuthAttributes) tt md5_auth [] v rest refl o

-- an address of another type is read by LOCAL's layout, and stops it
address_first : (m : Message) → Known m → ((b : List ℕ) → is_tcp b 0 ≡ false → layout_of m b ≡ tag local_address ∷ [])
    → (v : ℕ) (rest : List ℕ) → OtherType v → decoded m (be32 v ++ rest) ≡ request_of m (put 0 (four v) empty_scan)
address_first m h l v rest ((k, n), t) =
    let b = be32 v ++ rest in
    other_first m h local_address [] v rest (l b (type_written rest v (all_of b) k ∙ ne_eqb v tcp_address t)) (k, n)

address_second : (m : Message) → Known m → ((b : List ℕ) → is_tcp b 4 ≡ false → layout_of m b ≡ one word ∷ tag local_address ∷ [])
    → (w v : ℕ) (rest : List ℕ) → w < 2 ^ 32 → OtherType v
    → decoded m (be32 w ++ (be32 v ++ rest)) ≡ request_of m (put 1 (four v) (put 0 (four w) empty_scan))
address_second m h l w v rest u ((k, n), t) =
    let q = be32 v ++ rest in
    other_second m h local_address [] w v rest (l (be32 w ++ q) (type_written rest v (behind_word w q) k ∙ ne_eqb v tcp_address t)) u (k, n)

pub requests_back : RequestsBack
unfolding put
requests_back =
    record {
      every = every;
      sent = sent_back;
      other_auth = other_auth;
      other_attributes = other_attributes;
      other_data_listen = address_first (Message.Data DataKind.Listen) tt (λ b e. ap listen_fields e);
      other_mover_listen = address_second (Message.Mover MoverKind.Listen) tt (λ b e. ap (λ (t : Bool). one word ∷ listen_fields t) e);
      other_data_connect = address_first (Message.Joint JointKind.DataConnect) tt (λ b e. ap connect_fields e);
      other_mover_connect = address_second (Message.Joint JointKind.MoverConnect) tt (λ b e. ap (λ (t : Bool). one word ∷ connect_fields t) e);
    }
