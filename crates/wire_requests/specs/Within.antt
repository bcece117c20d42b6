-- What a decoded request is, and that its texts lie within the body.
use Rattle.std.specs.Prelude.{ℕ, ◌≡◌, List, [], ◌∷◌}
use Rattle.wire_frame.specs.declared.Message.{Message}
use Rattle.wire_requests.specs.Bodies.{decoded}
use Rattle.wire_layouts.specs.declared.Text.{Text}
use Rattle.wire_layouts.specs.Texts as texts
use Rattle.wire_requests.specs.declared.ConnectRequest.TheVariants as ConnectRequest
use Rattle.wire_requests.specs.declared.ScsiRequest.TheVariants as ScsiRequest
use Rattle.wire_requests.specs.declared.TapeRequest.TheVariants as TapeRequest
use Rattle.wire_requests.specs.declared.DataRequest.TheVariants as DataRequest
use Rattle.wire_requests.specs.declared.Request.{Request}
use Rattle.wire_requests.specs.declared.Request.TheVariants.{Connect, Config, Scsi, Tape, Data, Mover, Joint, Unknown, Bad}

-- the texts that a request holds, in order
abbrev pub texts_of : Request → List Text
texts_of (Connect (ConnectRequest.Open version)) = []
texts_of (Connect (ConnectRequest.Md5Auth id digest)) = id ∷ digest ∷ []
texts_of (Connect ConnectRequest.OtherAuth) = []
texts_of (Connect ConnectRequest.Close) = []
texts_of (Config r) = []
texts_of (Scsi (ScsiRequest.Open name)) = name ∷ []
texts_of (Scsi ScsiRequest.Close) = []
texts_of (Scsi ScsiRequest.State) = []
texts_of (Scsi ScsiRequest.Reset) = []
texts_of (Scsi (ScsiRequest.Cdb cdb room)) = cdb ∷ []
texts_of (Tape (TapeRequest.Open name mode)) = name ∷ []
texts_of (Tape TapeRequest.Close) = []
texts_of (Tape TapeRequest.State) = []
texts_of (Tape (TapeRequest.Mtio op count)) = []
texts_of (Tape (TapeRequest.Write bytes)) = bytes ∷ []
texts_of (Tape (TapeRequest.Read count)) = []
texts_of (Data DataRequest.State) = []
texts_of (Data (DataRequest.Backup method pairs)) = method ∷ []
texts_of (Data (DataRequest.Recover method pairs)) = method ∷ []
texts_of (Data DataRequest.Environment) = []
texts_of (Data DataRequest.Stop) = []
texts_of (Data (DataRequest.Listen address)) = []
texts_of (Mover r) = []
texts_of (Joint r) = []
texts_of Unknown = []
texts_of Bad = []

-- the bytes of a text, and that they lie within the body
abbrev pub bytes_at : List ℕ → Text → List ℕ
bytes_at = texts.bytes_at

abbrev pub Within : List ℕ → Text → Type 0
Within = texts.Within

abbrev pub all_within : List ℕ → List Text → Type 0
all_within b [] = Unit
all_within b (t ∷ []) = Within b t
all_within b (t ∷ (u ∷ us)) = Within b t × all_within b (u ∷ us)

-- each text of a request lies within the body
unfoldable pub texts_within : List ℕ → Request → Type 0
texts_within b r = all_within b (texts_of r)

pub record Decoded (m : Message) (b : List ℕ) (r : Request) : Type 0 where
  pub is : r ≡ decoded m b
  pub within : texts_within b r
