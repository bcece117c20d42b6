use Rattle.std.proofs.Common.{refl, arith}
use Rattle.rules_parts.specs.Names.{endless}
use Rattle.rules_parts.proofs.Addressing.{local_right, tcp_right, other_wrong, source_alone_lem, mover_alone_lem, source_joined, mover_joined_lem}
use Rattle.rules_parts.proofs.Ending.{end_endless, end_other, right_length}
use Rattle.rules_parts.proofs.parts_hold.Goals as goal

-- Changes by computing: a change is a record, written out. Ends of windows by their laws.
pub returns : goal.returns
returns c = record {
  paused = λ why m. (refl, refl);
  resized = λ size m. (refl, refl, refl);
  stopped = λ size. refl;
  sought = λ seek left m. (refl, refl);
  handed = λ n m. (refl, refl);
  began = λ mode address position m. refl;
  source_types = record { rests = refl; goes = λ state address d. refl; starts = λ operation d. refl; halts = λ why d. refl; fed = λ n d. refl };
  mover_types = record {
    rests = λ size. refl;
    listens = λ mode address m. refl;
    runs = λ mode address position m. refl;
    pauses = λ why m. refl;
    halts = λ why m. refl;
    windowed = λ offset length m. refl;
    sized = λ size m. refl;
    seeks = λ seek left m. refl;
    records = λ m. refl;
    hands = λ n m. refl;
  };
  addresses = λ useless. (local_right useless, tcp_right useless, λ n. other_wrong n useless);
  source_alone_lem = source_alone_lem;
  mover_alone_lem = mover_alone_lem;
  source_joined = source_joined;
  mover_joined_lem = mover_joined_lem;
  ends = λ offset. end_endless offset endless refl;
  others = end_other;
  begun = λ closed n slots. (refl, refl);
  entered = λ g. (refl, refl, refl);
  given = λ c g. (refl, refl, refl);
  changer = record {
    begun = λ closed n slots. refl;
    cleared = λ opened c. refl;
    refused = λ key code qualifier c. refl;
    held = λ slots c. refl;
    pending = λ slots c. (refl, refl, refl);
    opened = λ slots c. refl;
  };
  untested = λ size offset h. right_length size offset endless (record { whole = λ n. absurd (n refl); starts = rw (end_endless offset endless refl) h; fits = rw (end_endless offset endless refl) (omega arith) });
}
