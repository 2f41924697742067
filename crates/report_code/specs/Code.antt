-- The (32, O) code of clause 5.2.2.6.4 and its circular repetition; a report is the list of its bits, o_0 first.
-- Assumes nothing.
use Rattle.std.specs.Prelude.{List, [], ◌∷◌, ℕ, ◌+◌, ◌*◌, ◌%◌, get_or}
use Rattle.laws.specs.Lists.{tab}
use Rattle.report_code.specs.Basis.{row}

-- Σ x_n·y_n, over the places that both lists have
unfoldable pub shared : List ℕ → List ℕ → ℕ
shared [] ys = 0
shared (x ∷ xs) [] = 0
shared (x ∷ xs) (y ∷ ys) = x * y + shared xs ys

-- b_i = Σ o_n·M_i,n mod 2
unfoldable pub coded_bit : List ℕ → ℕ → ℕ
coded_bit o i = shared o (row i) % 2

-- b_0, .., b_31: B = 32
unfoldable pub block : List ℕ → List ℕ
block o = tab 32 (coded_bit o)

-- b_(i mod B)
unfoldable pub circular : List ℕ → ℕ → ℕ
circular b i = get_or b (i % 32) 0

-- a block of 32 bits repeated circularly to n bits
unfoldable pub repeated : List ℕ → ℕ → List ℕ
repeated b n = tab n (circular b)

-- q_0, .., q_(n − 1): the n control bits of a report
unfoldable pub control_bits : List ℕ → ℕ → List ℕ
control_bits o n = repeated (block o) n
