-- The sub-block interleavers of clause 5.1.4.1.1: a matrix of 32 columns, written row by row with the dummies in front, read column by column.
-- Assumes nothing.
use Rattle.std.specs.Prelude.{List, ◌++◌, ℕ, ◌+◌, ◌-◌, ◌*◌, ◌/◌, ◌%◌, length, get_or, replicate}
use Rattle.laws.specs.Lists.{tab}
use Rattle.turbo.specs.Streams.{NULL}
use Rattle.rate_matching.specs.Columns.{column}

-- (2) R, the minimum number of rows with D ≤ 32·R
unfoldable pub rows : ℕ → ℕ
rows D = (D + 31) / 32

-- (3) N_D = 32·R − D, the number of dummies
unfoldable pub dummies : ℕ → ℕ
dummies D = 32 * rows D - D

-- (3) y: the dummies, then the stream
unfoldable pub padded : List ℕ → List ℕ
padded d = replicate {A = ℕ} (dummies (length d)) NULL ++ d

-- (4), (5) with the column numbers P: v_k is the y of column P(k / R), row k mod R
abbrev pub read_columns : (ℕ → ℕ) → ℕ → ℕ → ℕ
read_columns P R k = P (k / R) + 32 * (k % R)

-- (4), (5) for d(0) and d(1)
unfoldable pub read_plain : ℕ → ℕ → ℕ
read_plain R k = read_columns column R k

-- (4) for d(2): π(k), one further, modulo 32·R
unfoldable pub read_shifted : ℕ → ℕ → ℕ
read_shifted R k = (column (k / R) + 32 * (k % R) + 1) % (32 * R)

-- the y that an interleaver with the reading rule gives at k
unfoldable pub y_at : (ℕ → ℕ → ℕ) → List ℕ → ℕ → ℕ
y_at reading d k = get_or (padded d) (reading (rows (length d)) k) 0

-- v(0) or v(1) of a stream
unfoldable pub plain : List ℕ → List ℕ
plain d = tab (32 * rows (length d)) (y_at read_plain d)

-- v(2) of a stream
unfoldable pub shifted : List ℕ → List ℕ
shifted d = tab (32 * rows (length d)) (y_at read_shifted d)

-- how many of the places u, u + 32, u + 64, .. lie before place i: the rows of a column that are above it
unfoldable pub rows_before : ℕ → ℕ → ℕ
rows_before i u = (i - u + 31) / 32
