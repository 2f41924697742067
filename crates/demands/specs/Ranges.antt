-- The ranges of 01, 'Sizes and numbers' and 'Slots', and of 02, E3, E5 and E6, as the papers say them.
-- Assumes nothing.
use Rattle.std.specs.Prelude.{◌≡◌, ◌⊎◌, true, ℕ, ◌+◌, ◌*◌, ◌/◌, ◌%◌, ◌≤◌, ◌<◌}
use Rattle.segmentation.specs.Segmentation.{blocks}
use Rattle.rate_matching.specs.Circle.{cut_at}
use Rattle.rate_matching.specs.SoftBuffer.{soft_share}
use Rattle.codeword.specs.declared.Grant.{Grant}
use Rattle.codeword.specs.Codeword.{block_rows}
use Rattle.slots.specs.declared.Head.{Head}
use Rattle.slots.specs.declared.State.{State}
use Rattle.slots.specs.State.{head_at}

-- a number from `least` to `most`
pub record Within (least most n : ℕ) : Type 0 where
  pub low : least ≤ n
  pub high : n ≤ most

-- ---- a block and a grant

-- A: 1 to 30,576
abbrev pub Size : ℕ → Type 0
Size A = Within 1 30576 A

-- Q: 2, 4 or 6; N: 1 to 4
pub record Symbol (Q N : ℕ) : Type 0 where
  pub modulation : (Q ≡ 2) ⊎ ((Q ≡ 4) ⊎ (Q ≡ 6))
  pub layers : Within 1 4 N

-- G: at most 172,800, a multiple of N·Q, and G / (N·Q) at least C, the number of code blocks
pub record Length (C Q N G : ℕ) : Type 0 where
  pub most : G ≤ 172800
  pub multiple : G % (N * Q) ≡ 0
  pub enough : C ≤ G / (N * Q)

-- a grant for C code blocks: Q and N, G, and a redundancy version of 0 to 3
pub record Allowed (C : ℕ) (g : Grant) : Type 0 where
  pub symbol : Symbol g.modulation g.layers
  pub carried : Length C g.modulation g.layers g.bits
  pub version : g.version ≤ 3

-- a downlink's receiver (02, E6): Release 8 or 11, K_MIMO 1 or 2, some processes, and N_cb of each code block of a sequence of B bits at least 32·R
pub record Receiver (B release k_mimo processes Nsoft layers : ℕ) : Type 0 where
  pub known : (release ≡ 8) ⊎ (release ≡ 11)
  pub streams : (k_mimo ≡ 1) ⊎ (k_mimo ≡ 2)
  pub running : 1 ≤ processes
  pub enough : (r : ℕ) → r < blocks B → 32 * block_rows B r ≤ cut_at (soft_share (blocks B) release k_mimo processes Nsoft layers) (block_rows B r)

-- ---- a report and a control message

-- control bits a layer (02, E3): a positive multiple of Q, at most 4,096
pub record Control (Q control : ℕ) : Type 0 where
  pub some : 1 ≤ control
  pub most : control ≤ 4096
  pub multiple : control % Q ≡ 0

-- ---- a state

-- S: 1 to 8, M: 1 to 5
pub record Shape (S M : ℕ) : Type 0 where
  pub slots : Within 1 8 S
  pub blocks : Within 1 5 M

-- an open head that is not broken: its A is in range and needs at most M code blocks, and its share is at least 32·R for each of them (02, E6)
pub record Whole (M : ℕ) (h : Head) : Type 0 where
  pub size : Size h.size
  pub few : blocks (h.size + 24) ≤ M
  pub wide : (r : ℕ) → r < blocks (h.size + 24) → 32 * block_rows (h.size + 24) r ≤ h.share

-- a state that 13 does not refuse: S and M in range, and no broken head, which is one that is open, below S and not whole
pub record Sound (state : State) : Type 0 where
  pub shape : Shape state.slots state.blocks
  pub heads : (i : ℕ) → i < state.slots → (head_at state i).opened ≡ true → Whole state.blocks (head_at state i)
