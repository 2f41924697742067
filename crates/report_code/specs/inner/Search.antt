-- What the search goes by: the distance of a message's word by the planes, and what changes of a word when the message counts up.
-- Assumes nothing.
use Rattle.std.specs.Prelude.{List, ℕ, suc, ◌-◌, ◌^◌}
use Rattle.report_code.specs.Words.{word_of}
use Rattle.report_code.specs.inner.Counts.{plane_distance}

-- the distance of message number m by the planes
unfoldable pub word_distance : List ℕ → List ℕ → ℕ → ℕ → ℕ
word_distance onesPlanes zerosPlanes count m = plane_distance (word_of m) onesPlanes zerosPlanes count 0

-- the word of the message whose k + 1 lowest bits are set
unfoldable pub step_word : ℕ → ℕ
step_word k = word_of (2 ^ suc k - 1)
