-- Cases of logins (paper 02, No. 2 and No. 10), as those of paper 01: each a list of requests on a new session, each request with the accounts and the challenge that are
-- lent with it. All that is sent is compared, byte for byte, and whether the client is logged in at the end. Bodies are words, after 004's structures.
use Rattle.std.specs.Prelude.{ℕ, ◌+◌, Bool, true, false, List, [], ◌∷◌, ◌++◌, ◌≡◌}
use Rattle.rules.specs.Answer.{Kept, Lent, held, Answered, answered}
use Rattle.rules.specs.Calls.{opening}
use Rattle.rules_moves.specs.Cases.{words_bytes, wire, Shown, showing, shows, stamp, echoed, no_variables, one_cartridge}
use Rattle.rules_cases.specs.Examples.{blank}

-- ---- a line: what goes in, and what comes of it
-- the words of a reply's body, with nothing in the header; or a number in the header, and no body
pub data Told : Type 0 where
  tells : List ℕ → Told
  heads : ℕ → Told

-- a request: the accounts that are lent, and the challenge, which is words; its number and the words of its body; its reply
pub data LoginLine : Type 0 where
  asks : List ℕ → List ℕ → ℕ → List ℕ → Told → LoginLine

pub record LoginCase : Type 0 where
  pub lines : List LoginLine
  -- whether the client is logged in at the end
  pub known : Bool

pub record LoginFinal : Type 0 where
  pub shown : List Shown
  pub known : Bool

-- ---- what the definitions give
abbrev pub lent_at : List ℕ → List ℕ → Lent
lent_at accounts challenge =
    record { accounts = accounts; challenge = words_bytes challenge; time = stamp; room = 36864; addresses = []; made = false }

pub record LoginRan : Type 0 where
  pub shown : Shown
  pub kept : Kept

abbrev pub ran_by : Answered → LoginRan
ran_by a = record { shown = showing a 0 []; kept = a.next }

unfoldable pub run_login : Kept → LoginLine → LoginRan
run_login k (asks accounts challenge message body told) = ran_by (answered k (lent_at accounts challenge) (wire echoed 5 0 message 0 body))

unfoldable pub run_logins : Kept → List LoginLine → LoginFinal
run_logins k [] = record { shown = []; known = k.session.login.authorized }
run_logins k (l ∷ ls) =
    let n = run_login k l in
    let f = run_logins n.kept ls in
    record { shown = n.shown ∷ f.shown; known = f.known }

abbrev pub login_played : LoginCase → LoginFinal
login_played c = run_logins (held (opening one_cartridge stamp 36864).next.session blank no_variables) c.lines

-- ---- what they should give. "An unknown message's 1, and 18, stand in the header with no body"
unfoldable pub replied : ℕ → ℕ → Told → List ℕ
replied n message (tells body) = wire n stamp 1 message echoed body
replied n message (heads e) = words_bytes (0x8000_0018 ∷ n ∷ stamp ∷ 1 ∷ message ∷ echoed ∷ e ∷ [])

unfoldable pub expect_logins : ℕ → List LoginLine → List Shown
expect_logins n [] = []
expect_logins n (asks accounts challenge message body told ∷ ls) = shows (replied n message told) 0 [] ∷ expect_logins (n + 1) ls

-- opening sent number 1
abbrev pub login_wanted : LoginCase → LoginFinal
login_wanted c = record { shown = expect_logins 2 c.lines; known = c.known }

-- ---- a login that was seen: the challenge that a client was given, and the digest that it sent; its id and its password are `ndmp`
abbrev pub ndmp : ℕ
ndmp = 0x6E64_6D70

abbrev pub seen_challenge : List ℕ
seen_challenge =
    0x2EED_00E8 ∷ 0xD295_7F8E ∷ 0xD95A_B25E ∷ 0xE64E_A78A ∷ 0x79A4_1713 ∷ 0xDE18_E9F9 ∷ 0x6DEB_0B69 ∷ 0x16D6_0243
    ∷ 0xA96C_5D5D ∷ 0x70F8_C063 ∷ 0x7256_A9A0 ∷ 0xAB69_726E ∷ 0x80E6_647E ∷ 0x2F90_AA14 ∷ 0xE762_109A ∷ 0x23CE_7EF2 ∷ []

abbrev pub seen_digest : List ℕ
seen_digest = 0x5DA7_AC73 ∷ 0x24B9_7CAF ∷ 0x774D_6EA4 ∷ 0x927F_57D0 ∷ []

-- its last bit is another
abbrev pub wrong_digest : List ℕ
wrong_digest = 0x5DA7_AC73 ∷ 0x24B9_7CAF ∷ 0x774D_6EA4 ∷ 0x927F_57D1 ∷ []

-- another challenge, the bytes 1 to 64, and the digest of that password with it
abbrev pub other_challenge : List ℕ
other_challenge =
    0x0102_0304 ∷ 0x0506_0708 ∷ 0x090A_0B0C ∷ 0x0D0E_0F10 ∷ 0x1112_1314 ∷ 0x1516_1718 ∷ 0x191A_1B1C ∷ 0x1D1E_1F20
    ∷ 0x2122_2324 ∷ 0x2526_2728 ∷ 0x292A_2B2C ∷ 0x2D2E_2F30 ∷ 0x3132_3334 ∷ 0x3536_3738 ∷ 0x393A_3B3C ∷ 0x3D3E_3F40 ∷ []

abbrev pub other_digest : List ℕ
other_digest = 0x4709_2BB7 ∷ 0x0F8C_6D56 ∷ 0x6D8B_35CF ∷ 0x7783_1090 ∷ []

-- the digest of that password with 64 zeros, which a session holds where no challenge was given
abbrev pub zeros_digest : List ℕ
zeros_digest = 0xCC24_DB21 ∷ 0x16BB_8396 ∷ 0x8F6A_32C1 ∷ 0x4226_AC36 ∷ []

-- ---- what is lent: "each marked text or MD5": a count, and of each account its kind, id and password
abbrev pub by_md5 : List ℕ
by_md5 = words_bytes (1 ∷ 2 ∷ 4 ∷ ndmp ∷ 4 ∷ ndmp ∷ [])

abbrev pub by_text : List ℕ
by_text = words_bytes (1 ∷ 1 ∷ 4 ∷ ndmp ∷ 4 ∷ ndmp ∷ [])

-- the id twice, by text with the password `noon`
abbrev pub noon : ℕ
noon = 0x6E6F_6F6E

abbrev pub both : List ℕ
both = words_bytes (2 ∷ 1 ∷ 4 ∷ ndmp ∷ 4 ∷ noon ∷ 2 ∷ 4 ∷ ndmp ∷ 4 ∷ ndmp ∷ [])

-- the two with one password, and a byte left over
abbrev pub damaged : List ℕ
damaged = words_bytes (2 ∷ 1 ∷ 4 ∷ ndmp ∷ 4 ∷ ndmp ∷ 2 ∷ 4 ∷ ndmp ∷ 4 ∷ ndmp ∷ []) ++ (0 ∷ [])

-- ---- lines, by what is lent
-- 0x103 of the type that gives the challenge, or of text, "9 for type 1, at 0x103 too"; one whose body has more behind the type
abbrev pub challenged : List ℕ → LoginLine
challenged challenge = asks by_md5 challenge 0x103 (2 ∷ []) (tells (0 ∷ 2 ∷ challenge))

abbrev pub asked_text : List ℕ → LoginLine
asked_text challenge = asks by_md5 challenge 0x103 (1 ∷ []) (tells (9 ∷ 0 ∷ []))

abbrev pub asked_type : List ℕ → List ℕ → Told → LoginLine
asked_type challenge body told = asks by_md5 challenge 0x103 body told

-- CLIENT AUTH: of MD5 with a digest; of text with a password, which is 9 whatever is lent; any other body. The error word is the reply
abbrev pub md5_login : List ℕ → List ℕ → List ℕ → ℕ → LoginLine
md5_login accounts challenge digest e = asks accounts challenge 0x901 (2 ∷ 4 ∷ ndmp ∷ digest) (tells (e ∷ []))

abbrev pub text_login : List ℕ → ℕ → LoginLine
text_login accounts password = asks accounts seen_challenge 0x901 (1 ∷ 4 ∷ ndmp ∷ 4 ∷ password ∷ []) (tells (9 ∷ []))

abbrev pub auth_of : List ℕ → Told → LoginLine
auth_of body told = asks by_md5 seen_challenge 0x901 body told

-- CONNECT open of version 4; connection types, which need a login: LOCAL 0 and TCP 1
abbrev pub opens : ℕ → LoginLine
opens e = asks by_md5 seen_challenge 0x900 (4 ∷ []) (tells (e ∷ []))

abbrev pub served : LoginLine
served = asks by_md5 other_challenge 0x102 [] (tells (0 ∷ 2 ∷ 0 ∷ 1 ∷ []))

abbrev pub unserved : LoginLine
unserved = asks by_md5 other_challenge 0x102 [] (tells (4 ∷ 0 ∷ []))

-- server info: vendor, product and revision, empty before auth, then `vault`, `tape`, `1`; type 1 "leaves the server info list"
abbrev pub info_is : List ℕ → LoginLine
info_is texts = asks by_md5 other_challenge 0x108 [] (tells (0 ∷ texts ++ (1 ∷ 2 ∷ [])))

abbrev pub no_texts : List ℕ
no_texts = 0 ∷ 0 ∷ 0 ∷ []

abbrev pub vault_texts : List ℕ
vault_texts = 5 ∷ 0x7661_756C ∷ 0x7400_0000 ∷ 4 ∷ 0x7461_7065 ∷ 1 ∷ 0x3100_0000 ∷ []

-- ---- the cases
-- the login that was seen, with another challenge lent by then; then a request that needs a login
abbrev pub seen_login : LoginCase
seen_login =
    record {
      lines = opens 0 ∷ unserved ∷ info_is no_texts ∷ challenged seen_challenge ∷ md5_login by_md5 other_challenge seen_digest 0 ∷ served ∷ info_is vault_texts ∷ [];
      known = true;
    }

-- "4 if no challenge was given": the digest of zeros, and that of the challenge that is lent, before 0x103, and after a refused one, of type 1 or another
abbrev pub ungiven : LoginCase
ungiven =
    record {
      lines = md5_login by_md5 seen_challenge zeros_digest 4 ∷ md5_login by_md5 seen_challenge seen_digest 4
          ∷ asked_text seen_challenge ∷ md5_login by_md5 seen_challenge seen_digest 4
          ∷ asked_type seen_challenge (7 ∷ 2 ∷ []) (tells (9 ∷ 0 ∷ [])) ∷ md5_login by_md5 seen_challenge seen_digest 4 ∷ unserved ∷ [];
      known = false;
    }

-- "The newest challenge is the one judged."
abbrev pub newest_counts : LoginCase
newest_counts =
    record {
      lines = challenged seen_challenge ∷ challenged other_challenge ∷ md5_login by_md5 seen_challenge seen_digest 4 ∷ unserved
          ∷ md5_login by_md5 seen_challenge other_digest 0 ∷ served ∷ [];
      known = true;
    }

-- no login uses it up, wrong or right; and a wrong one does not log out. Who is logged in is judged no less, and by the newest too
abbrev pub not_used_up : LoginCase
not_used_up =
    record {
      lines = challenged seen_challenge ∷ md5_login by_md5 seen_challenge wrong_digest 4 ∷ md5_login by_md5 seen_challenge seen_digest 0
          ∷ md5_login by_md5 seen_challenge seen_digest 0 ∷ text_login by_md5 ndmp ∷ md5_login by_md5 seen_challenge wrong_digest 4
          ∷ challenged other_challenge ∷ md5_login by_md5 seen_challenge seen_digest 4 ∷ md5_login by_md5 seen_challenge other_digest 0 ∷ served ∷ [];
      known = true;
    }

-- a challenge that is lent with the login itself, or with a refused 0x103, is not judged
abbrev pub lent_only : LoginCase
lent_only =
    record {
      lines = challenged seen_challenge ∷ asked_text other_challenge ∷ asked_type other_challenge (3 ∷ []) (tells (9 ∷ 0 ∷ []))
          ∷ asked_type other_challenge (2 ∷ 0 ∷ []) (heads 18) ∷ md5_login by_md5 other_challenge other_digest 4 ∷ unserved ∷ [];
      known = false;
    }

-- "Text login is withdrawn": with the right password of a text entry too, which "never lets anyone in", by its digest neither; and who is logged in stays so
abbrev pub withdrawn : LoginCase
withdrawn =
    record {
      lines = text_login by_text ndmp ∷ challenged seen_challenge ∷ md5_login by_text seen_challenge seen_digest 4 ∷ unserved
          ∷ md5_login by_md5 seen_challenge seen_digest 0 ∷ text_login by_text ndmp ∷ served ∷ [];
      known = true;
    }

-- "where an id stands twice any entry may match": beside a text entry of the same id the MD5 entry lets in, and the text entry's password does not
abbrev pub two_of_one_id : LoginCase
two_of_one_id =
    record {
      lines = challenged seen_challenge ∷ text_login both noon ∷ unserved ∷ md5_login both seen_challenge seen_digest 0 ∷ text_login both noon ∷ served ∷ [];
      known = true;
    }

-- the digest has no length before it: 18, also where no challenge was given; nor is it shorter or longer. "9 for a type other than 1 and 2, its rest unread",
-- and for type 1: with nothing behind it, and with more than a login
abbrev pub login_bodies : LoginCase
login_bodies =
    record {
      lines = auth_of (2 ∷ 4 ∷ ndmp ∷ 16 ∷ seen_digest) (heads 18) ∷ challenged seen_challenge ∷ auth_of (2 ∷ 4 ∷ ndmp ∷ 16 ∷ seen_digest) (heads 18)
          ∷ auth_of (2 ∷ 4 ∷ ndmp ∷ 0x5DA7_AC73 ∷ 0x24B9_7CAF ∷ 0x774D_6EA4 ∷ []) (heads 18)
          ∷ auth_of (3 ∷ 4 ∷ ndmp ∷ 16 ∷ seen_digest) (tells (9 ∷ [])) ∷ auth_of (0 ∷ []) (tells (9 ∷ []))
          ∷ auth_of (1 ∷ []) (tells (9 ∷ [])) ∷ auth_of (1 ∷ 4 ∷ ndmp ∷ 4 ∷ ndmp ∷ 7 ∷ []) (tells (9 ∷ [])) ∷ unserved ∷ [];
      known = false;
    }

-- the same of 0x103, whose body is the type alone
abbrev pub asked_bodies : LoginCase
asked_bodies =
    record {
      lines = asked_type seen_challenge [] (heads 18) ∷ asked_type seen_challenge (1 ∷ 0 ∷ []) (tells (9 ∷ 0 ∷ [])) ∷ asked_type seen_challenge (2 ∷ 0 ∷ []) (heads 18)
          ∷ asked_type seen_challenge (0 ∷ 1 ∷ []) (tells (9 ∷ 0 ∷ [])) ∷ asked_type seen_challenge (3 ∷ []) (tells (9 ∷ 0 ∷ [])) ∷ unserved ∷ [];
      known = false;
    }

-- "Open is legal as the first answered request only (else 19)": 0x103 is answered before auth too, with 9 or
abbrev pub asked_first : LoginCase
asked_first = record { lines = asked_text seen_challenge ∷ opens 19 ∷ info_is no_texts ∷ []; known = false }

-- with a challenge
abbrev pub challenged_first : LoginCase
challenged_first = record { lines = challenged seen_challenge ∷ opens 19 ∷ info_is no_texts ∷ []; known = false }

-- accounts that are not laid out so let nobody in
abbrev pub broken_accounts : LoginCase
broken_accounts =
    record {
      lines = challenged seen_challenge ∷ md5_login damaged seen_challenge seen_digest 4 ∷ text_login damaged ndmp ∷ md5_login [] seen_challenge seen_digest 4
          ∷ text_login [] ndmp ∷ unserved ∷ [];
      known = false;
    }

pub record LoginCasesHold : Type 0 where
  pub seen_login_lem : login_played seen_login ≡ login_wanted seen_login
  pub ungiven : login_played ungiven ≡ login_wanted ungiven
  pub newest_counts_lem : login_played newest_counts ≡ login_wanted newest_counts
  pub not_used_up_lem : login_played not_used_up ≡ login_wanted not_used_up
  pub lent_only_lem : login_played lent_only ≡ login_wanted lent_only
  pub withdrawn : login_played withdrawn ≡ login_wanted withdrawn
  pub two_of_one_id_lem : login_played two_of_one_id ≡ login_wanted two_of_one_id
  pub login_bodies_lem : login_played login_bodies ≡ login_wanted login_bodies
  pub asked_bodies_lem : login_played asked_bodies ≡ login_wanted asked_bodies
  pub asked_first_lem : login_played asked_first ≡ login_wanted asked_first
  pub challenged_first_lem : login_played challenged_first ≡ login_wanted challenged_first
  pub broken_accounts_lem : login_played broken_accounts ≡ login_wanted broken_accounts
