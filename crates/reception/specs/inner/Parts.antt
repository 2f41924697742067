-- The parts of 01's Receive: its last refusals, a code block's part of a room, which has its circle, and what each part may take for granted.
-- Assumes nothing.
use Rattle.std.specs.Prelude.{◌≡◌, Bool, false, cond, List, [], ◌∷◌, ℕ, ◌+◌, ◌*◌, ◌≤◌, eqb, length, take}
use Rattle.laws.specs.Bits.{AreBits}
use Rattle.std.specs.declared.result.Result.{Result}
use Rattle.std.specs.declared.result.Result.TheVariants.{Ok, Err}
use Rattle.refusals.specs.declared.Refusal.{Refusal}
use Rattle.refusals.specs.Refusals.{Rule, rule, number_of, first_of}
use Rattle.segmentation.specs.Segmentation.{blocks}
use Rattle.segmentation.specs.Sizes.{bad_size}
use Rattle.rate_matching.specs.SubBlocks.{rows}
use Rattle.rate_matching.specs.Circle.{start_in}
use Rattle.rate_matching.specs.Walk.{sent_places}
use Rattle.rate_matching.specs.Shape.{shape}
use Rattle.codeword.specs.declared.Grant.{Grant}
use Rattle.codeword.specs.Build.{bad_allocation, version_rule}
use Rattle.codeword.specs.Codeword.{block_rows}
use Rattle.slots.specs.declared.Head.{Head}
use Rattle.slots.specs.State.{per_block, room_length, room_start}
use Rattle.slots.specs.Putting.{put_along}
use Rattle.slots.specs.Outcome.{Answer}
use Rattle.slots.specs.Outcome.{StillLacking, Refused}
use Rattle.slots.specs.Room.{agreeing, room_at, with_room}
use Rattle.slots.specs.Reception.{received}
use Rattle.slots.specs.Reading.{lacking}
use Rattle.slots.specs.Calls.{allocation_rule}
use Rattle.packing.specs.Store.{places_in, in_form}

-- 3, 4, 2: what is asked of a grant for a block of A bits, and of its bits, among which a byte is no bit or not
unfoldable pub grant_rules : ℕ → Grant → Bool → List Rule
grant_rules A g bad = allocation_rule (blocks (A + 24)) g.modulation g.layers g.bits ∷ version_rule g.version ∷ rule bad 2 ∷ []

-- the places that a store keeps after a reception in a slot that has this head and room for M code blocks
unfoldable pub places_by : Head → ℕ → ℕ → Grant → List ℕ → List ℕ → List ℕ
places_by head M slot g bits places =
    with_room M slot (received agreeing head.share head.size g bits (room_at M slot places)) places

-- Receive by what the owner's rules gave: the answer, and the bytes of the store in its form
unfoldable pub answer_by : Result Head Refusal → Bool → ℕ → ℕ → Grant → List ℕ → List ℕ → Answer
answer_by (Err refusal) bad M slot g bits places = Refused (number_of refusal)
answer_by (Ok head) bad M slot g bits places =
    cond (eqb (first_of (grant_rules head.size g bad)) 0)
    (StillLacking (lacking head.size (room_at M slot (places_by head M slot g bits places))))
    (Refused (first_of (grant_rules head.size g bad)))

unfoldable pub store_by : Bool → Result Head Refusal → Bool → ℕ → ℕ → Grant → List ℕ → List ℕ → List ℕ
store_by four (Err refusal) bad M slot g bits store = store
store_by four (Ok head) bad M slot g bits store =
    cond (eqb (first_of (grant_rules head.size g bad)) 0) (in_form four (places_by head M slot g bits (places_in four store))) store

-- how many bytes a row of a circle has, one place a byte or four
unfoldable pub bytes_a_row : Bool → ℕ
bytes_a_row four = cond four 24 96

-- the part of a room for a code block with D places a stream and F filler bits, its circle cut at N_cb, after bits of version v
unfoldable pub part_after : ℕ → ℕ → ℕ → ℕ → List ℕ → List ℕ → List ℕ
part_after D F Ncb v bits part = put_along agreeing (sent_places (take Ncb (shape D F)) (start_in Ncb (rows D) v) (length bits)) bits part

-- an accepted reception of a grant's bits for a block of A bits, a share `soft` that is long enough for its code blocks, and a room of n bytes for them
pub record Accepted (A soft : ℕ) (g : Grant) (bits : List ℕ) (n : ℕ) : Type 0 where
  pub size : bad_size A ≡ false
  pub wide : (r : ℕ) → 32 * block_rows (A + 24) r ≤ soft
  pub allocation : bad_allocation (blocks (A + 24)) g.modulation g.layers g.bits ≡ false
  pub version : g.version ≤ 3
  pub whole : length bits ≡ g.bits
  pub given : AreBits bits
  pub fits : blocks (A + 24) * per_block ≤ n

-- one for a slot with room for M code blocks, which lies in a store that keeps `long` places
pub record InSlot (M slot A soft : ℕ) (g : Grant) (bits : List ℕ) (long : ℕ) : Type 0 where
  pub slots_few : slot ≤ 8
  pub blocks_few : M ≤ 5
  pub accepted : Accepted A soft g bits (room_length M)
  pub within : room_start M slot + room_length M ≤ long
