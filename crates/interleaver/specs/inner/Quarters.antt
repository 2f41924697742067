-- The quarters of a code block, as the interleaver takes them on bits: the bits of a place and of those one, two and three quarters on as one number.
-- Assumes nothing.
use Rattle.std.specs.Prelude.{cond, List, ◌≡◌, ℕ, ◌+◌, ◌-◌, ◌*◌, ◌/◌, ◌%◌, ◌^◌, ◌≤◌, ◌<◌, ltb, length, get_or}
use Rattle.laws.specs.Bits.{AreBits}
use Rattle.laws.specs.Lists.{tab}
use Rattle.interleaver.specs.declared.fours.Counter.{Counter}
use Rattle.interleaver.specs.declared.fours.Doubled.{Doubled}
use Rattle.interleaver.specs.declared.fours.Start.{Start}
use Rattle.interleaver.specs.Place.{quadratic}

-- entry i of c from a, b, d and e on as one number, that of a lowest
unfoldable pub joined : List ℕ → ℕ → ℕ → ℕ → ℕ → ℕ → ℕ
joined c a b d e i = get_or c (a + i) 0 + 2 * get_or c (b + i) 0 + 4 * get_or c (d + i) 0 + 8 * get_or c (e + i) 0

-- n entries from each of the four places on
pub record Joinable (c : List ℕ) (a b d e n : ℕ) : Type 0 where
  pub bits : AreBits c
  pub first : a + n ≤ length c
  pub second : b + n ≤ length c
  pub third : d + n ≤ length c
  pub fourth : e + n ≤ length c

-- the place u quarters on from j, among K
unfoldable pub on_from : ℕ → ℕ → ℕ → ℕ
on_from K j u = (j + u * (K / 4)) % K

-- the bits at place j and one, two and three quarters on
unfoldable pub four : List ℕ → ℕ → ℕ
four c j = joined c (on_from (length c) j 0) (on_from (length c) j 1) (on_from (length c) j 2) (on_from (length c) j 3) 0

unfoldable pub fours : List ℕ → List ℕ
fours c = tab (length c) (four c)

-- x less y, modulo K
unfoldable pub less : ℕ → ℕ → ℕ → ℕ
less K x y = cond (ltb x y) (x + K - y) (x - y)

-- 4, 8, 16 and 32 times f2, modulo K
unfoldable pub doubled : ℕ → ℕ → Doubled
doubled K f2 = record { four = 4 * f2 % K; eight = 8 * f2 % K; sixteen = 16 * f2 % K; step = 32 * f2 % K }

-- how far Π(i + 4) is ahead of Π(i)
unfoldable pub ahead : ℕ → ℕ → ℕ → ℕ
ahead f1 f2 i = 4 * f1 + f2 * (8 * i + 16)

-- what takes Π(i) back to Π(i + 4), modulo K
unfoldable pub back_from : ℕ → ℕ → ℕ → ℕ → ℕ
back_from K f1 f2 i = K - ahead f1 f2 i % K

-- the counter at Π(i), and a counter four places on, where the step is 32·f2 modulo K
unfoldable pub counter : ℕ → ℕ → ℕ → ℕ → Counter
counter K f1 f2 i = record { place = quadratic K f1 f2 i; back = back_from K f1 f2 i }

unfoldable pub counter_on : ℕ → ℕ → Counter → Counter
counter_on K step c = record { place = less K c.place c.back; back = less K c.back step }

-- the counters of the first four places, and by how much what takes them back shrinks a turn
unfoldable pub first_four : ℕ → ℕ → ℕ → Start
first_four K f1 f2 = record {
  zeroth = counter K f1 f2 0;
  first = counter K f1 f2 1;
  second = counter K f1 f2 2;
  third = counter K f1 f2 3;
  step = (doubled K f2).step;
}

-- bit number s of entry i
unfoldable pub digit : List ℕ → ℕ → ℕ → ℕ
digit y s i = get_or y i 0 / 2 ^ s % 2

-- entry n of four quarters: quarter u has bit u·f1 mod 4 of each entry of y
unfoldable pub spread_over : ℕ → List ℕ → ℕ → ℕ
spread_over f1 y n = digit y (n / length y * f1 % 4) (n % length y)

-- a code block of bits, and a room of its length
pub record Quartered (c out : List ℕ) : Type 0 where
  pub bits : AreBits c
  pub eights : length c % 8 ≡ 0
  pub some : 0 < length c
  pub most : length c ≤ 6144
  pub room : length out ≡ length c

-- what the counters lean on
pub record Countable (K f1 f2 : ℕ) : Type 0 where
  pub f1_below : f1 < K
  pub f2_below : f2 < K
  pub f2_even : f2 % 2 ≡ 0
  pub most : K ≤ 6144
