-- Places in a stream and places on the circle, clauses 5.1.4.1.1 and 5.1.4.1.2 read place by place: which stream place a circle place holds, and where a stream place lies.
-- Assumes nothing.
use Rattle.std.specs.Prelude.{cond, List, ℕ, zero, suc, ◌+◌, ◌-◌, ◌*◌, ◌/◌, ◌%◌, ◌<◌, ltb, eqb, get_or}
use Rattle.turbo.specs.Streams.{NULL}
use Rattle.rate_matching.specs.declared.StreamPlace.{StreamPlace}
use Rattle.rate_matching.specs.declared.CirclePlace.{CirclePlace}
use Rattle.rate_matching.specs.Columns.{column}
use Rattle.rate_matching.specs.SubBlocks.{rows, dummies, read_plain, read_shifted}
use Rattle.rate_matching.specs.Circle.{circle_length}

-- what a place on the circle holds: a place of a stream, or a dummy
pub data Held : Type 0 where
  Bit : StreamPlace → Held
  Dummy : Held

-- what y place p of stream s is: a dummy, or the stream's place p − N_D
unfoldable pub held_y : ℕ → ℕ → ℕ → Held
held_y D s p = cond (ltb p (dummies D)) Dummy (Bit (s, p - dummies D))

-- what place q of the part where streams 1 and 2 stand by turns holds
unfoldable pub held_by_turns : ℕ → ℕ → Held
held_by_turns D q =
    cond (eqb (q % 2) 0) (held_y D 1 (read_plain (rows D) (q / 2))) (held_y D 2 (read_shifted (rows D) (q / 2)))

-- what a circle place holds, for streams of D places
unfoldable pub held_at : ℕ → CirclePlace → Held
held_at D j =
    cond (ltb j.0 (32 * rows D)) (held_y D 0 (read_plain (rows D) j.0)) (held_by_turns D (j.0 - 32 * rows D))

-- where y place p is read by the plain rule: column P(p mod 32), row p / 32
unfoldable pub plain_place : ℕ → ℕ → ℕ
plain_place R p = column (p % 32) * R + p / 32

-- where y place p is read by the shifted rule: where the one before it is read by the plain rule, modulo 32·R
unfoldable pub shifted_place : ℕ → ℕ → ℕ
shifted_place R p = plain_place R ((p + (32 * R - 1)) % (32 * R))

-- the number of the circle place of place i of stream s
unfoldable pub place_number : ℕ → ℕ → ℕ → ℕ
place_number D s i =
    cond (eqb s 0)
    (plain_place (rows D) (dummies D + i))
    (cond (eqb s 1)
    (32 * rows D + 2 * plain_place (rows D) (dummies D + i))
    (32 * rows D + 2 * shifted_place (rows D) (dummies D + i) + 1))

-- the circle place that holds a stream place
unfoldable pub place_of : ℕ → StreamPlace → CirclePlace
place_of D p = record { 0 = place_number D p.0 p.1 }

-- the place of the circle with a number
abbrev pub circle_place : ℕ → CirclePlace
circle_place j = record { 0 = j }

-- no code block's streams are longer: D = K + 4 for K = 6,144
abbrev pub longest : ℕ
longest = 6148

-- the three streams of D places have the place p
pub record InStreams (D : ℕ) (p : StreamPlace) : Type 0 where
  pub stream : p.0 < 3
  pub place : p.1 < D

-- the circle of streams of D places has the place j
abbrev pub OnCircle : ℕ → CirclePlace → Type 0
OnCircle D j = j.0 < circle_length (rows D)

-- d(s)
unfoldable pub stream_of : List ℕ → List ℕ → List ℕ → ℕ → List ℕ
stream_of d0 d1 d2 zero = d0
stream_of d0 d1 d2 (suc zero) = d1
stream_of d0 d1 d2 (suc (suc s)) = d2

-- the entry that stands where a circle place holds so: the stream's own, or <NULL> for a dummy
unfoldable pub entry_of : List ℕ → List ℕ → List ℕ → Held → ℕ
entry_of d0 d1 d2 (Bit p) = get_or (stream_of d0 d1 d2 p.0) p.1 0
entry_of d0 d1 d2 Dummy = NULL
