-- READ ELEMENT STATUS with its bytes written out: what CDBs ask for, and what is told. They keep the definitions to SMC's layouts
-- and to 02 No. 7's words.
use Rattle.std.specs.Prelude.{ℕ, List, [], ◌∷◌, ◌++◌, ◌≡◌, take, length, Ok, Err}
use Rattle.changer_elements.specs.declared.Asked.{Asked}
use Rattle.changer_elements.specs.Status.{read_status, reported, status_data}

-- ---- CDBs
-- twelve bytes: type code, start and number below 256
abbrev pub status_cdb : ℕ → ℕ → ℕ → List ℕ
status_cdb kind start number = 0xB8 ∷ kind ∷ 0 ∷ start ∷ 0 ∷ number ∷ 0 ∷ 0 ∷ 1 ∷ 0 ∷ 0 ∷ 0 ∷ []

abbrev pub asking : ℕ → ℕ → ℕ → ℕ → Asked
asking kind start number cut = record { kind = kind; start = start; number = number; cut = cut }

pub record CdbCases : Type 0 where
  pub one_byte : read_status (0xB8 ∷ []) 512 ≡ Err (record { key = 5; code = 0x24; qualifier = 0 })
  pub eleven : read_status (take 11 (status_cdb 0 0 10)) 512 ≡ Err (record { key = 5; code = 0x24; qualifier = 0 })
  pub twelve : read_status (status_cdb 2 16 8) 512 ≡ Ok (asking 2 16 8 256)
  pub sixteen : read_status (status_cdb 4 1 1 ++ (255 ∷ 255 ∷ 255 ∷ 255 ∷ [])) 512 ≡ Ok (asking 4 1 1 256)
  -- two bytes, and three
  pub wide : read_status (0xB8 ∷ 0 ∷ 1 ∷ 2 ∷ 3 ∷ 4 ∷ 0 ∷ 5 ∷ 6 ∷ 7 ∷ 0 ∷ 0 ∷ []) 4294967295 ≡ Ok (asking 0 258 772 329223)
  pub largest : read_status (0xB8 ∷ 0 ∷ 255 ∷ 255 ∷ 255 ∷ 255 ∷ 0 ∷ 255 ∷ 255 ∷ 255 ∷ 0 ∷ 0 ∷ []) 4294967295 ≡ Ok (asking 0 65535 65535 16777215)
  -- "ignore flag and reserved bits": LUN and VolTag, CURDATA and DVCID, byte 10 and control
  pub flags : read_status (0xB8 ∷ 0xF2 ∷ 0 ∷ 16 ∷ 0 ∷ 8 ∷ 255 ∷ 0 ∷ 1 ∷ 0 ∷ 255 ∷ 255 ∷ []) 512 ≡ Ok (asking 2 16 8 256)
  -- "cut to allocation and data-in length": the lesser
  pub by_room : read_status (status_cdb 0 0 10) 100 ≡ Ok (asking 0 0 10 100)
  pub no_room : read_status (status_cdb 0 0 10) 0 ≡ Ok (asking 0 0 10 0)
  pub no_allocation : read_status (0xB8 ∷ 0 ∷ 0 ∷ 0 ∷ 0 ∷ 10 ∷ 0 ∷ 0 ∷ 0 ∷ 0 ∷ 0 ∷ 0 ∷ []) 512 ≡ Ok (asking 0 0 10 0)

-- ---- which elements
abbrev pub slots8 : List ℕ
slots8 = 16 ∷ 17 ∷ 18 ∷ 19 ∷ 20 ∷ 21 ∷ 22 ∷ 23 ∷ []

pub record ReportedCases : Type 0 where
  -- all types, from every kind of start
  pub all : reported (asking 0 0 10 0) ≡ 0 ∷ 1 ∷ slots8
  pub from_drive : reported (asking 0 1 65535 0) ≡ 1 ∷ slots8
  pub from_two : reported (asking 0 2 65535 0) ≡ slots8
  pub from_first_slot : reported (asking 0 16 65535 0) ≡ slots8
  pub from_twenty : reported (asking 0 20 65535 0) ≡ 20 ∷ 21 ∷ 22 ∷ 23 ∷ []
  pub from_last : reported (asking 0 23 65535 0) ≡ 23 ∷ []
  pub from_beyond : reported (asking 0 24 65535 0) ≡ []
  pub from_highest : reported (asking 0 65535 65535 0) ≡ []
  -- as many as the number says
  pub none : reported (asking 0 0 0 0) ≡ []
  pub one : reported (asking 0 0 1 0) ≡ 0 ∷ []
  pub two : reported (asking 0 0 2 0) ≡ 0 ∷ 1 ∷ []
  pub two_of_drive : reported (asking 0 1 2 0) ≡ 1 ∷ 16 ∷ []
  pub two_of_slots : reported (asking 0 20 2 0) ≡ 20 ∷ 21 ∷ []
  pub nine : reported (asking 0 0 9 0) ≡ 0 ∷ 1 ∷ 16 ∷ 17 ∷ 18 ∷ 19 ∷ 20 ∷ 21 ∷ 22 ∷ []
  -- each type
  pub transports : reported (asking 1 0 65535 0) ≡ 0 ∷ []
  pub transports_behind : reported (asking 1 1 65535 0) ≡ []
  pub drives : reported (asking 4 0 65535 0) ≡ 1 ∷ []
  pub drives_at : reported (asking 4 1 1 0) ≡ 1 ∷ []
  pub drives_behind : reported (asking 4 2 65535 0) ≡ []
  pub storage : reported (asking 2 0 65535 0) ≡ slots8
  pub storage_two : reported (asking 2 0 2 0) ≡ 16 ∷ 17 ∷ []
  pub storage_from : reported (asking 2 22 10 0) ≡ 22 ∷ 23 ∷ []
  pub storage_none : reported (asking 2 0 0 0) ≡ []
  -- "unknown types have no elements"
  pub import_export : reported (asking 3 0 65535 0) ≡ []
  pub five : reported (asking 5 0 65535 0) ≡ []
  pub eight : reported (asking 8 0 65535 0) ≡ []
  pub fifteen : reported (asking 15 0 65535 0) ≡ []

-- ---- the bytes
-- the header, a page's header and a descriptor, where no number is above 255
abbrev pub header : ℕ → ℕ → ℕ → List ℕ
header first number bytes = 0 ∷ first ∷ 0 ∷ number ∷ 0 ∷ 0 ∷ 0 ∷ bytes ∷ []

abbrev pub page_header : ℕ → ℕ → List ℕ
page_header kind bytes = kind ∷ 0 ∷ 0 ∷ 12 ∷ 0 ∷ 0 ∷ 0 ∷ bytes ∷ []

abbrev pub told : ℕ → ℕ → List ℕ
told e flags = 0 ∷ e ∷ flags ∷ 0 ∷ 0 ∷ 0 ∷ 0 ∷ 0 ∷ 0 ∷ 0 ∷ 0 ∷ 0 ∷ []

-- the cartridge 7 in the drive, 8 in slot 16 and 256 in slot 23; and nothing anywhere
abbrev pub shelf : List ℕ
shelf = 7 ∷ 8 ∷ 0 ∷ 0 ∷ 0 ∷ 0 ∷ 0 ∷ 0 ∷ 256 ∷ []

abbrev pub bare : List ℕ
bare = 0 ∷ 0 ∷ 0 ∷ 0 ∷ 0 ∷ 0 ∷ 0 ∷ 0 ∷ 0 ∷ []

abbrev pub whole_shelf : List ℕ
whole_shelf =
    header 0 10 144 ++ page_header 1 12 ++ told 0 0 ++ page_header 4 12 ++ told 1 9 ++ page_header 2 96 ++ told 16 9 ++ told 17 8 ++ told 18 8
    ++ told 19 8 ++ told 20 8 ++ told 21 8 ++ told 22 8 ++ told 23 9

pub record BytesCases : Type 0 where
  pub all : status_data (asking 0 0 10 65536) shelf ≡ whole_shelf
  pub all_long : length whole_shelf ≡ 152
  pub none : status_data (asking 0 0 0 65536) shelf ≡ header 0 0 0
  pub unknown : status_data (asking 3 0 65535 65536) shelf ≡ header 0 0 0
  pub beyond : status_data (asking 0 24 65535 65536) shelf ≡ header 0 0 0
  pub transports : status_data (asking 1 0 65535 65536) shelf ≡ header 0 1 20 ++ page_header 1 12 ++ told 0 0
  pub full_drive : status_data (asking 4 0 65535 65536) shelf ≡ header 1 1 20 ++ page_header 4 12 ++ told 1 9
  pub empty_drive : status_data (asking 4 0 65535 65536) bare ≡ header 1 1 20 ++ page_header 4 12 ++ told 1 8
  -- a type with nothing to tell of has no page, and the header's address is the first that is told
  pub from_two : status_data (asking 0 2 2 65536) shelf ≡ header 16 2 32 ++ page_header 2 24 ++ told 16 9 ++ told 17 8
  pub two_pages : status_data (asking 0 1 2 65536) bare ≡ header 1 2 40 ++ page_header 4 12 ++ told 1 8 ++ page_header 2 12 ++ told 16 8
  pub last_slot : status_data (asking 2 23 10 65536) shelf ≡ header 23 1 20 ++ page_header 2 12 ++ told 23 9
  -- cut to the byte; the header counts what is cut too
  pub cut_none : status_data (asking 0 0 10 0) shelf ≡ []
  pub cut_one : status_data (asking 0 0 10 1) shelf ≡ 0 ∷ []
  pub cut_in_header : status_data (asking 0 0 10 7) shelf ≡ take 7 (header 0 10 144)
  pub cut_header : status_data (asking 0 0 10 8) shelf ≡ header 0 10 144
  pub cut_in_page : status_data (asking 0 0 10 12) shelf ≡ header 0 10 144 ++ (1 ∷ 0 ∷ 0 ∷ 12 ∷ [])
  pub cut_in_told : status_data (asking 2 16 10 19) shelf ≡ header 16 8 104 ++ page_header 2 96 ++ (0 ∷ 16 ∷ 9 ∷ [])
  pub cut_last : status_data (asking 0 0 10 151) shelf ≡ take 151 whole_shelf
  pub cut_at_end : status_data (asking 0 0 10 152) shelf ≡ whole_shelf

pub record StatusCases : Type 0 where
  pub cdbs : CdbCases
  pub which : ReportedCases
  pub bytes : BytesCases
