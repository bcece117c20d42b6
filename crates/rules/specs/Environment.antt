-- 02 No. 3: what holds of starts, of 0x404 and of the store. It is said by the state, the method's bytes and the pairs, so that the definitions of requests
-- are held against it.
use Rattle.std.specs.Prelude.{ℕ, true, false, List, [], ◌∷◌, ◌≡◌}
use Rattle.codes.specs.Codes.{io_error, illegal_arguments, illegal_state, no_memory}
use Rattle.wire_pairs.specs.Pairs.{pairs_from}
use Rattle.wire_pairs.specs.Store.{fits, storing, emptied, is_laid}
use Rattle.wire_layouts.specs.declared.Text.{Text}
use Rattle.wire_requests.specs.Within.{bytes_at}
use Rattle.wire_requests.specs.declared.Pairs.{Pairs}
use Rattle.wire_requests.specs.declared.DataRequest.{DataRequest}
use Rattle.wire_requests.specs.declared.DataRequest.TheVariants as DataRequest
use Rattle.wire_replies.specs.declared.Reply.TheVariants as Reply
use Rattle.rules_parts.specs.declared.types.Data.{Data}
use Rattle.rules_parts.specs.Names.{data_active, data_halted, data_connected}
use Rattle.rules.specs.Judge.{refuse, accept, is_accepted}
use Rattle.rules.specs.DataService.{data_step, variables_after}

-- `dump`, the method's name
abbrev pub dump_bytes : List ℕ
dump_bytes = 100 ∷ 117 ∷ 109 ∷ 112 ∷ []

-- both starts, with their method and their pairs
pub data Starts : DataRequest → Text → Pairs → Type 0 where
  backup : (method : Text) (place : Pairs) → Starts (DataRequest.Backup method place) method place
  recover : (method : Text) (place : Pairs) → Starts (DataRequest.Recover method place) method place

pub record StartRules (q : DataRequest) (method : Text) (place : Pairs) (d : Data) (body list variables : List ℕ) : Type 0 where
  -- 19, then 9 and then "22 if the pairs do not fit, after 9"
  pub busy : (d.state ≡ data_connected → ⊥) → data_step d q body list variables ≡ refuse illegal_state
  pub unknown : d.state ≡ data_connected → (bytes_at body method ≡ dump_bytes → ⊥) → data_step d q body list variables ≡ refuse illegal_arguments
  pub large : d.state ≡ data_connected → bytes_at body method ≡ dump_bytes → fits (pairs_from body place.count place.start) ≡ false
      → data_step d q body list variables ≡ refuse no_memory
  pub fitting : d.state ≡ data_connected → bytes_at body method ≡ dump_bytes → fits (pairs_from body place.count place.start) ≡ true
      → is_accepted (data_step d q body list variables) ≡ true
  -- "Keep the pairs of an accepted start request, in order"
  pub keeps_pairs : variables_after q body variables ≡ storing (pairs_from body place.count place.start) variables

-- 0x404 in a state in which it is answered
pub data Answering (d : Data) : Type 0 where
  active : d.state ≡ data_active → Answering d
  halted : d.state ≡ data_halted → Answering d

pub record EnvironmentRules : Type 0 where
  pub starts : (q : DataRequest) (method : Text) (place : Pairs) → Starts q method place → (d : Data) (body list variables : List ℕ)
      → StartRules q method place d body list variables
  -- "19 in other states", before "7 at 0x404 for a store not laid out so"
  pub early : (d : Data) (body list variables : List ℕ) → (Answering d → ⊥)
      → data_step d DataRequest.Environment body list variables ≡ refuse illegal_state
  pub unlaid : (d : Data) (body list variables : List ℕ) → Answering d → is_laid variables ≡ false
      → data_step d DataRequest.Environment body list variables ≡ refuse io_error
  pub given : (d : Data) (body list variables : List ℕ) → Answering d → is_laid variables ≡ true
      → data_step d DataRequest.Environment body list variables ≡ accept Reply.Environment d
  -- no other request of the data interface looks at the store
  pub others : (d : Data) (q : DataRequest) (body list variables other : List ℕ) → (q ≡ DataRequest.Environment → ⊥)
      → data_step d q body list variables ≡ data_step d q body list other
  -- "data stop makes the count 0", with no look at the layout; 0x404 and the others leave the store
  pub stops : (body variables : List ℕ) → variables_after DataRequest.Stop body variables ≡ emptied variables
  pub leaves : (body variables : List ℕ) (address : ℕ)
      → (variables_after DataRequest.State body variables ≡ variables)
      × (variables_after DataRequest.Environment body variables ≡ variables)
      × (variables_after (DataRequest.Listen address) body variables ≡ variables)
