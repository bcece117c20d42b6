-- Buffers with their bytes written out, and their listings; and outputs, and what becomes of them.
use Rattle.std.specs.Prelude.{ℕ, List, [], ◌∷◌, ◌++◌, ◌≡◌, replicate}
use Rattle.wire_accounts.specs.Cases.{small, moss_string, ivy_string, one_text, one_md5, bare_text, bare_md5, eight}
use Rattle.call_accounts.specs.Listing.{listing, told, listed, listed_out}

-- the lines of a digit: ` md5` and ` withdrawn`, each with its line feed
abbrev pub md5_line : ℕ → List ℕ
md5_line digit = digit ∷ 32 ∷ 109 ∷ 100 ∷ 53 ∷ 10 ∷ []

abbrev pub withdrawn_line : ℕ → List ℕ
withdrawn_line digit = digit ∷ 32 ∷ 119 ∷ 105 ∷ 116 ∷ 104 ∷ 100 ∷ 114 ∷ 97 ∷ 119 ∷ 110 ∷ 10 ∷ []

-- an account by MD5 whose password has 33 bytes, and eight by text
abbrev pub long_md5 : List ℕ
long_md5 = small 1 ++ small 2 ++ moss_string ++ small 33 ++ replicate 33 97 ++ replicate 3 0

abbrev pub eight_texts : List ℕ
eight_texts = bare_text ++ bare_text ++ bare_text ++ bare_text ++ bare_text ++ bare_text ++ bare_text ++ bare_text

abbrev pub eight_lines : List ℕ
eight_lines =
    withdrawn_line 48 ++ withdrawn_line 49 ++ withdrawn_line 50 ++ withdrawn_line 51
    ++ withdrawn_line 52 ++ withdrawn_line 53 ++ withdrawn_line 54 ++ withdrawn_line 55

pub record LineCases : Type 0 where
  pub no_account : listing (small 0) ≡ []
  pub one_md5_lem : listing one_md5 ≡ md5_line 48
  pub one_text_lem : listing one_text ≡ withdrawn_line 48
  -- an account that never lets in, as its password is empty or above 32 bytes, has its kind all the same
  pub empty_md5 : listing (small 1 ++ bare_md5) ≡ md5_line 48
  pub long_md5_lem : listing long_md5 ≡ md5_line 48
  pub bare_text_lem : listing (small 1 ++ bare_text) ≡ withdrawn_line 48
  -- numbers count the text entries too, and an id that stands twice
  pub text_first : listing (small 2 ++ small 1 ++ moss_string ++ ivy_string ++ small 2 ++ moss_string ++ ivy_string) ≡ withdrawn_line 48 ++ md5_line 49
  pub twice : listing (small 2 ++ small 2 ++ moss_string ++ ivy_string ++ small 2 ++ moss_string ++ ivy_string) ≡ md5_line 48 ++ md5_line 49
  pub mixed : listing (small 8 ++ eight) ≡
      withdrawn_line 48 ++ md5_line 49 ++ withdrawn_line 50 ++ md5_line 51 ++ withdrawn_line 52 ++ md5_line 53 ++ withdrawn_line 54 ++ md5_line 55
  pub all_text : listing (small 8 ++ eight_texts) ≡ eight_lines
  -- no line of a buffer that is not laid out as accounts
  pub no_byte : listing [] ≡ []
  pub nine : listing (small 9 ++ eight ++ bare_md5) ≡ []
  pub other_kind : listing (small 2 ++ bare_md5 ++ small 3 ++ small 0 ++ small 0) ≡ []
  pub byte_more : listing (one_md5 ++ (0 ∷ [])) ≡ []
  pub one_missing : listing (small 2 ++ bare_md5) ≡ []

-- outputs of sevens
abbrev pub sevens : ℕ → List ℕ
sevens n = replicate n 7

pub record OutputCases : Type 0 where
  -- "1001 under 96 bytes", also where less is needed, or nothing
  pub no_output : listed one_md5 [] ≡ told 1001 0
  pub short : listed one_md5 (sevens 95) ≡ told 1001 0
  pub short_stays : listed_out one_md5 (sevens 95) ≡ sevens 95
  pub short_none : listed (small 0) (sevens 95) ≡ told 1001 0
  pub short_broken : listed [] (sevens 95) ≡ told 1001 0
  pub enough : listed one_md5 (sevens 96) ≡ told 0 6
  pub enough_stays : listed_out one_md5 (sevens 96) ≡ md5_line 48 ++ sevens 90
  pub none : listed [] (sevens 96) ≡ told 0 0
  pub none_stays : listed_out [] (sevens 96) ≡ sevens 96
  pub full : listed (small 8 ++ eight_texts) (sevens 96) ≡ told 0 96
  pub full_stays : listed_out (small 8 ++ eight_texts) (sevens 96) ≡ eight_lines
  pub more : listed (small 8 ++ eight_texts) (sevens 100) ≡ told 0 96
  pub more_stays : listed_out (small 8 ++ eight_texts) (sevens 100) ≡ eight_lines ++ sevens 4

pub record ListingCases : Type 0 where
  pub lines : LineCases
  pub outputs : OutputCases
