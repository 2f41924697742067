-- What the circle of one code block keeps, 01 'Read' and 'Streams' and 02 E1: for the places of its streams, how many data places lack a bit, the code block
-- that was heard and the three streams. D = K + 4 places a stream; F of them are filler in streams 0 and 1.
-- Assumes nothing.
use Rattle.std.specs.Prelude.{cond, ◌&&◌, List, ◌++◌, ℕ, zero, suc, ◌+◌, ◌-◌, ltb, get_or, replicate}
use Rattle.laws.specs.Lists.{tab, tab_from}
use Rattle.rate_matching.specs.Places.{place_number}
use Rattle.slots.specs.Room.{is_decided}

-- what is kept for place i of stream s, of streams of D places
unfoldable pub kept_on : List ℕ → ℕ → ℕ → ℕ → ℕ
kept_on circle D s i = get_or circle (place_number D s i) 0

-- 1 where a place with this value lacks a bit
unfoldable pub missing : ℕ → ℕ
missing x = cond (is_decided x) 0 1

-- 1 where place i of stream 0 lacks a bit
unfoldable pub missing_on : List ℕ → ℕ → ℕ → ℕ
missing_on circle D i = missing (kept_on circle D 0 i)

-- f i + f (i + 1) + .., n terms
unfoldable pub sum_from : (ℕ → ℕ) → ℕ → ℕ → ℕ
sum_from f i zero = 0
sum_from f i (suc n) = f i + sum_from f (suc i) n

-- how many data places of a code block of K bits lack a bit: those of stream 0 below K, filler left out
unfoldable pub lacking_on : List ℕ → ℕ → ℕ → ℕ
lacking_on circle K F = sum_from (missing_on circle (K + 4)) F (K - F)

-- n bits of the code block as they were heard, filler left out
unfoldable pub heard_on : List ℕ → ℕ → ℕ → ℕ → List ℕ
heard_on circle K F n = tab_from F n (kept_on circle (K + 4) 0)

-- the code block as it was heard, its check bits among it; filler counts as 0
unfoldable pub code_block_on : List ℕ → ℕ → ℕ → List ℕ
code_block_on circle K F = replicate {A = ℕ} F 0 ++ heard_on circle K F (K - F)

-- what Streams shows of a place with this value: the bit where it is decided, else 2
unfoldable pub shown : ℕ → ℕ
shown x = cond (is_decided x) x 2

-- what Streams gives for place i of stream s: 0 for absent filler
unfoldable pub stream_on : List ℕ → ℕ → ℕ → ℕ → ℕ → ℕ
stream_on circle D F s i = cond (ltb s 2 && ltb i F) 0 (shown (kept_on circle D s i))

-- the three runs of D bytes, one a stream
unfoldable pub streams_on : List ℕ → ℕ → ℕ → List ℕ
streams_on circle D F =
    tab D (stream_on circle D F 0) ++ (tab D (stream_on circle D F 1) ++ tab D (stream_on circle D F 2))
