-- A reception, 01 'Receive': the bits are put in arrival order at the places the build would have taken them from (clauses 5.1.4.1.2 and 5.1.5).
-- Assumes nothing.
use Rattle.std.specs.Prelude.{List, ℕ, zero, suc, ◌+◌, take, drop}
use Rattle.segmentation.specs.Segmentation.{blocks, size_of, filler_of}
use Rattle.rate_matching.specs.Circle.{start_in}
use Rattle.rate_matching.specs.Walk.{sent_places}
use Rattle.rate_matching.specs.Shape.{shape}
use Rattle.codeword.specs.declared.Grant.{Grant}
use Rattle.codeword.specs.Shares.{granted, granted_before}
use Rattle.codeword.specs.Codeword.{block_rows, block_cut}
use Rattle.slots.specs.Putting.{Keeping, put_along}
use Rattle.slots.specs.Room.{circle_at, with_circle}

-- the places that a grant sends of code block r, in sending order, for a sequence of B bits, each code block having a share `soft` of the soft buffer
unfoldable pub block_places : ℕ → ℕ → Grant → ℕ → List ℕ
block_places soft B g r =
    sent_places
    (take (block_cut soft B r) (shape (size_of B r + 4) (filler_of B r)))
    (start_in (block_cut soft B r) (block_rows B r) g.version)
    (granted (blocks B) g r)

-- of a transmission's values those for code block r, in sending order
unfoldable pub block_values : {Y : Type 0} → ℕ → Grant → List Y → ℕ → List Y
block_values B g values r = drop (granted_before (blocks B) g r) values

-- the circle of code block r after a transmission's values
unfoldable pub put_on : {X Y : Type 0} → Keeping X Y → ℕ → ℕ → Grant → List Y → ℕ → List X → List X
put_on how soft B g values r circle = put_along how (block_places soft B g r) (block_values B g values r) circle

-- the room after those of n code blocks from r on
unfoldable pub put_blocks : {X Y : Type 0} → Keeping X Y → ℕ → ℕ → Grant → List Y → ℕ → ℕ → List X → List X
put_blocks how soft B g values r zero room = room
put_blocks how soft B g values r (suc n) room =
    put_blocks how soft B g values (suc r) n (with_circle r (put_on how soft B g values r (circle_at r room)) room)

-- the room after a reception for a block of A bits
unfoldable pub received : {X Y : Type 0} → Keeping X Y → ℕ → ℕ → Grant → List Y → List X → List X
received how soft A g values room = put_blocks how soft (A + 24) g values 0 (blocks (A + 24)) room
