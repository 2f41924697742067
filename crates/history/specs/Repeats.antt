-- Repeats that surely bring a block, requests E8 and E6 of 02: what a reception gives the code blocks, and that one of the receptions gives so much.
-- Assumes nothing.
use Rattle.std.specs.Prelude.{◌≡◌, ◌⊎◌, List, [], ◌∷◌, ℕ, ◌+◌, ◌*◌, ◌≤◌, length}
use Rattle.segmentation.specs.Segmentation.{blocks}
use Rattle.codeword.specs.Codeword.{block_cut}
use Rattle.planning.specs.Needs.{need_of_three, need_of_one, Gives}
use Rattle.planning.specs.Worst.{least_of_three, least_of_one}
use Rattle.history.specs.Calls.{Reception}

-- one of the receptions is such
abbrev pub Some : (Reception → Type 0) → List Reception → Type 0
Some such [] = ⊥
Some such (x ∷ xs) = such x ⊎ Some such xs

-- of redundancy version v, and every code block of a block of A bits has at least 24·R bits of its own R
pub record Repeat (A v : ℕ) (x : Reception) : Type 0 where
  pub version : x.version ≡ v
  pub gives : Gives (need_of_three A) (blocks (A + 24)) x.Q x.N (length x.bits)

-- one of each of versions 0, 1 and 3 is such
pub record OfThree (such : ℕ → Reception → Type 0) (xs : List Reception) : Type 0 where
  pub version_0 : Some (such 0) xs
  pub version_1 : Some (such 1) xs
  pub version_3 : Some (such 3) xs

-- of any version, and code block 0 has at least 3·D − 2·F bits, every other 3·D
abbrev pub Whole : ℕ → Reception → Type 0
Whole A x = Gives (need_of_one A) (blocks (A + 24)) x.Q x.N (length x.bits)

-- the same in a planner's terms: at least as many bits as the least G for its own Q and N
pub record PlannedRepeat (A v : ℕ) (x : Reception) : Type 0 where
  pub version : x.version ≡ v
  pub enough : least_of_three A x.Q x.N ≤ length x.bits

abbrev pub PlannedWhole : ℕ → Reception → Type 0
PlannedWhole A x = least_of_one A x.Q x.N ≤ length x.bits

-- of any version, each code block having a share `soft` of the soft buffer: every code block has at least as many bits as its circle, cut, has places
abbrev pub WholeTurn : ℕ → ℕ → Reception → Type 0
WholeTurn soft A x = Gives (block_cut soft (A + 24)) (blocks (A + 24)) x.Q x.N (length x.bits)

-- a G that does it for a block of A bits with every share, Q and N
unfoldable pub turn_bits : ℕ → ℕ
turn_bits A = 18576 * blocks (A + 24)

-- enough was heard: any one of these
pub data Enough (A : ℕ) (xs : List Reception) : Type 0 where
  three : OfThree (Repeat A) xs → Enough A xs
  one : Some (Whole A) xs → Enough A xs
  three_planned : OfThree (PlannedRepeat A) xs → Enough A xs
  one_planned : Some (PlannedWhole A) xs → Enough A xs
