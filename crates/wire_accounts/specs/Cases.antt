-- Buffers with their bytes written out, and what each is; and logins, and whom they let in. They keep the definitions to the
-- layout and to the words of 02 No. 2 and No. 10.
use Rattle.std.specs.Prelude.{ℕ, true, false, List, [], ◌∷◌, ◌++◌, ◌≡◌, replicate}
use Rattle.wire_accounts.specs.Accounts.{AccountEntry, these, broken, accounts_in, entries_in, md5_matches, any_of}

-- a word below 256
abbrev pub small : ℕ → List ℕ
small n = 0 ∷ 0 ∷ 0 ∷ n ∷ []

abbrev pub account : ℕ → List ℕ → List ℕ → AccountEntry
account kind id password = record { kind = kind; id = id; password = password }

-- the id "moss" and the passwords "fern" and "ivy", as strings
abbrev pub moss : List ℕ
moss = 109 ∷ 111 ∷ 115 ∷ 115 ∷ []

abbrev pub fern : List ℕ
fern = 102 ∷ 101 ∷ 114 ∷ 110 ∷ []

abbrev pub ivy : List ℕ
ivy = 105 ∷ 118 ∷ 121 ∷ []

abbrev pub moss_string : List ℕ
moss_string = small 4 ++ moss

abbrev pub fern_string : List ℕ
fern_string = small 4 ++ fern

abbrev pub ivy_string : List ℕ
ivy_string = small 3 ++ ivy ++ (0 ∷ [])

-- moss, with the password ivy: by text, and by MD5
abbrev pub one_text : List ℕ
one_text = small 1 ++ small 1 ++ moss_string ++ ivy_string

abbrev pub one_md5 : List ℕ
one_md5 = small 1 ++ small 2 ++ moss_string ++ ivy_string

-- accounts whose id and password are empty
abbrev pub bare_text : List ℕ
bare_text = small 1 ++ small 0 ++ small 0

abbrev pub bare_md5 : List ℕ
bare_md5 = small 2 ++ small 0 ++ small 0

abbrev pub eight : List ℕ
eight = bare_text ++ bare_md5 ++ bare_text ++ bare_md5 ++ bare_text ++ bare_md5 ++ bare_text ++ bare_md5

pub record LaidCases : Type 0 where
  pub no_account : accounts_in (small 0) ≡ these []
  pub one_text_lem : accounts_in one_text ≡ these (account 1 moss ivy ∷ [])
  pub one_md5_lem : accounts_in one_md5 ≡ these (account 2 moss ivy ∷ [])
  -- "The accounts grow to eight"
  pub eight_accounts : accounts_in (small 8 ++ eight) ≡
      these
      (account 1 [] [] ∷ account 2 [] [] ∷ account 1 [] [] ∷ account 2 [] []
      ∷ account 1 [] [] ∷ account 2 [] [] ∷ account 1 [] [] ∷ account 2 [] [] ∷ [])
  -- an id stands twice, and as both kinds
  pub twice : accounts_in (small 3 ++ small 1 ++ moss_string ++ ivy_string ++ small 1 ++ moss_string ++ fern_string ++ small 2 ++ moss_string ++ fern_string) ≡
      these (account 1 moss ivy ∷ account 1 moss fern ∷ account 2 moss fern ∷ [])

pub record BrokenCases : Type 0 where
  pub no_byte : accounts_in [] ≡ broken
  pub no_count : accounts_in (0 ∷ 0 ∷ 0 ∷ []) ≡ broken
  pub nine : accounts_in (small 9 ++ eight ++ bare_text) ≡ broken
  pub far_more : accounts_in (255 ∷ 0 ∷ 0 ∷ 1 ∷ bare_text) ≡ broken
  -- "each marked text or MD5"
  pub kind_zero : accounts_in (small 1 ++ small 0 ++ moss_string ++ ivy_string) ≡ broken
  pub kind_three : accounts_in (small 1 ++ small 3 ++ moss_string ++ ivy_string) ≡ broken
  pub kind_high : accounts_in (small 1 ++ (1 ∷ 0 ∷ 0 ∷ 1 ∷ moss_string) ++ ivy_string) ≡ broken
  pub second_kind : accounts_in (small 2 ++ bare_text ++ small 3 ++ small 0 ++ small 0) ≡ broken
  -- it ends with its last account
  pub byte_more : accounts_in (one_text ++ (0 ∷ [])) ≡ broken
  pub word_more : accounts_in (one_text ++ small 0) ≡ broken
  pub account_more : accounts_in (small 1 ++ bare_text ++ bare_text) ≡ broken
  pub after_none : accounts_in (small 0 ++ bare_text) ≡ broken
  -- fill is zero
  pub id_fill : accounts_in (small 1 ++ small 1 ++ small 3 ++ ivy ++ (1 ∷ fern_string)) ≡ broken
  pub password_fill : accounts_in (small 1 ++ small 1 ++ moss_string ++ small 3 ++ ivy ++ (1 ∷ [])) ≡ broken
  -- short
  pub no_kind : accounts_in (small 1) ≡ broken
  pub no_id : accounts_in (small 1 ++ small 1) ≡ broken
  pub no_password : accounts_in (small 1 ++ small 1 ++ moss_string) ≡ broken
  pub no_fill : accounts_in (small 1 ++ small 1 ++ moss_string ++ small 3 ++ ivy) ≡ broken
  pub one_missing : accounts_in (small 2 ++ bare_text) ≡ broken

-- a login that ndmjob made: the id and the password "ndmp", the challenge that it was given, the digest that it sent
abbrev pub ndmp : List ℕ
ndmp = 110 ∷ 100 ∷ 109 ∷ 112 ∷ []

abbrev pub given_challenge : List ℕ
given_challenge =
    0x2e ∷ 0xed ∷ 0x00 ∷ 0xe8 ∷ 0xd2 ∷ 0x95 ∷ 0x7f ∷ 0x8e ∷ 0xd9 ∷ 0x5a ∷ 0xb2 ∷ 0x5e ∷ 0xe6 ∷ 0x4e ∷ 0xa7 ∷ 0x8a
    ∷ 0x79 ∷ 0xa4 ∷ 0x17 ∷ 0x13 ∷ 0xde ∷ 0x18 ∷ 0xe9 ∷ 0xf9 ∷ 0x6d ∷ 0xeb ∷ 0x0b ∷ 0x69 ∷ 0x16 ∷ 0xd6 ∷ 0x02 ∷ 0x43
    ∷ 0xa9 ∷ 0x6c ∷ 0x5d ∷ 0x5d ∷ 0x70 ∷ 0xf8 ∷ 0xc0 ∷ 0x63 ∷ 0x72 ∷ 0x56 ∷ 0xa9 ∷ 0xa0 ∷ 0xab ∷ 0x69 ∷ 0x72 ∷ 0x6e
    ∷ 0x80 ∷ 0xe6 ∷ 0x64 ∷ 0x7e ∷ 0x2f ∷ 0x90 ∷ 0xaa ∷ 0x14 ∷ 0xe7 ∷ 0x62 ∷ 0x10 ∷ 0x9a ∷ 0x23 ∷ 0xce ∷ 0x7e ∷ 0xf2 ∷ []

abbrev pub sent_digest : List ℕ
sent_digest = 0x5d ∷ 0xa7 ∷ 0xac ∷ 0x73 ∷ 0x24 ∷ 0xb9 ∷ 0x7c ∷ 0xaf ∷ 0x77 ∷ 0x4d ∷ 0x6e ∷ 0xa4 ∷ 0x92 ∷ 0x7f ∷ 0x57 ∷ 0xd0 ∷ []

-- its last byte changed
abbrev pub other_digest : List ℕ
other_digest = 0x5d ∷ 0xa7 ∷ 0xac ∷ 0x73 ∷ 0x24 ∷ 0xb9 ∷ 0x7c ∷ 0xaf ∷ 0x77 ∷ 0x4d ∷ 0x6e ∷ 0xa4 ∷ 0x92 ∷ 0x7f ∷ 0x57 ∷ 0xd1 ∷ []

-- the shortest password and the longest, with that challenge: `a`, and 32 times `a`
abbrev pub shortest : List ℕ
shortest = 97 ∷ []

abbrev pub shortest_digest : List ℕ
shortest_digest = 0x5a ∷ 0x40 ∷ 0xa9 ∷ 0xd0 ∷ 0xe5 ∷ 0x82 ∷ 0x70 ∷ 0xdb ∷ 0xd1 ∷ 0x5a ∷ 0xbc ∷ 0x5f ∷ 0xf6 ∷ 0x5c ∷ 0x25 ∷ 0x2c ∷ []

abbrev pub longest : List ℕ
longest = replicate 32 97

abbrev pub longest_digest : List ℕ
longest_digest = 0xc1 ∷ 0xd8 ∷ 0xc5 ∷ 0x54 ∷ 0x01 ∷ 0xfe ∷ 0x09 ∷ 0xb1 ∷ 0x3f ∷ 0x86 ∷ 0xa9 ∷ 0xf4 ∷ 0x68 ∷ 0x32 ∷ 0xbb ∷ 0x51 ∷ []

abbrev pub ndmp_md5 : List ℕ
ndmp_md5 = small 1 ++ small 2 ++ small 4 ++ ndmp ++ small 4 ++ ndmp

abbrev pub ndmp_text : List ℕ
ndmp_text = small 1 ++ small 1 ++ small 4 ++ ndmp ++ small 4 ++ ndmp

pub record Md5Logins : Type 0 where
  pub lets_in : any_of (md5_matches ndmp given_challenge sent_digest) (entries_in ndmp_md5) ≡ true
  pub last_byte : any_of (md5_matches ndmp given_challenge other_digest) (entries_in ndmp_md5) ≡ false
  pub wrong_id : any_of (md5_matches moss given_challenge sent_digest) (entries_in ndmp_md5) ≡ false
  -- "where an id stands twice any entry may match"
  pub first_of_two : any_of (md5_matches ndmp given_challenge sent_digest) (account 2 ndmp ndmp ∷ account 2 ndmp [] ∷ []) ≡ true
  pub second_of_two : any_of (md5_matches ndmp given_challenge sent_digest) (account 2 ndmp [] ∷ account 2 ndmp ndmp ∷ []) ≡ true
  -- "login by the other kind is a wrong password"
  pub other_kind : any_of (md5_matches ndmp given_challenge sent_digest) (entries_in ndmp_text) ≡ false
  -- the password itself is no digest
  pub password : any_of (md5_matches ndmp given_challenge ndmp) (entries_in ndmp_md5) ≡ false
  -- a password has 1 to 32 bytes
  pub one_byte : any_of (md5_matches moss given_challenge shortest_digest) (account 2 moss shortest ∷ []) ≡ true
  pub all_bytes : any_of (md5_matches moss given_challenge longest_digest) (account 2 moss longest ∷ []) ≡ true
  pub byte_more : any_of (md5_matches moss given_challenge longest_digest) (account 2 moss (replicate 33 97) ∷ []) ≡ false
  -- an empty password never lets in, nor one of 33 bytes
  pub empty : (c d : List ℕ) → any_of (md5_matches [] c d) (entries_in (small 1 ++ bare_md5)) ≡ false
  pub long : (c d : List ℕ) → any_of (md5_matches moss c d) (account 2 moss (replicate 33 97) ∷ []) ≡ false

-- "such an entry never lets anyone in"
pub record WithdrawnLogins : Type 0 where
  pub password : any_of (md5_matches ndmp given_challenge ndmp) (entries_in ndmp_text) ≡ false
  pub anything : (c d : List ℕ) → any_of (md5_matches ndmp c d) (entries_in ndmp_text) ≡ false
  pub empty : (c d : List ℕ) → any_of (md5_matches [] c d) (entries_in (small 1 ++ bare_text)) ≡ false
  -- an id that stands as both kinds: the entry by MD5 lets in, before and behind the other, and by its own password alone
  pub md5_behind : any_of (md5_matches ndmp given_challenge sent_digest) (account 1 ndmp moss ∷ account 2 ndmp ndmp ∷ []) ≡ true
  pub md5_before : any_of (md5_matches ndmp given_challenge sent_digest) (account 2 ndmp ndmp ∷ account 1 ndmp moss ∷ []) ≡ true
  pub own_password : any_of (md5_matches ndmp given_challenge sent_digest) (account 1 ndmp ndmp ∷ account 2 ndmp [] ∷ []) ≡ false

pub record AccountCases : Type 0 where
  pub laid : LaidCases
  pub not_laid : BrokenCases
  pub md5 : Md5Logins
  pub withdrawn : WithdrawnLogins
