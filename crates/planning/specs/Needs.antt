-- What the code blocks need of a transmission so that repeats surely bring the block, request E8 of 02: 24·R bits each of three, or all that the circle holds of one.
-- Assumes nothing.
use Rattle.std.specs.Prelude.{ℕ, ◌+◌, ◌-◌, ◌*◌, ◌≤◌, ◌<◌}
use Rattle.segmentation.specs.Segmentation.{size_of, filler_of}
use Rattle.rate_matching.specs.SubBlocks.{rows}
use Rattle.codeword.specs.Shares.{share}

-- 24·R of a code block of K bits, D = K + 4: a quarter of its circle
unfoldable pub quarter : ℕ → ℕ
quarter K = 24 * rows (K + 4)

-- 3·D − 2·F of a code block of K bits with F filler bits: all that its circle holds
unfoldable pub whole : ℕ → ℕ → ℕ
whole K F = 3 * (K + 4) - 2 * F

-- the bits that code block r of a block of A bits needs of each of three transmissions, versions 0, 1 and 3
unfoldable pub need_of_three : ℕ → ℕ → ℕ
need_of_three A r = quarter (size_of (A + 24) r)

-- and of one alone: 3·D − 2·F for code block 0, 3·D for each other
unfoldable pub need_of_one : ℕ → ℕ → ℕ
need_of_one A r = whole (size_of (A + 24) r) (filler_of (A + 24) r)

-- a transmission of G bits gives each of C code blocks at least the bits that it needs
abbrev pub Gives : (ℕ → ℕ) → ℕ → ℕ → ℕ → ℕ → Type 0
Gives need C Q N G = (r : ℕ) → r < C → need r ≤ share C Q N G r
