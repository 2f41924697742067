-- Laws of the segmentation of B bits, clause 5.1.2, for each B that 01 admits: K+ and K− are what the clause says, the sizes add up,
-- and the filler is short. Of table 5.1.3-3 they take that its sizes rise by at most 64, and its first and last size.
-- Assumes nothing.
use mathlib.Core.Path.{◌≡◌, refl, sym, ◌∙◌, ap}
use mathlib.Core.Bool.{Bool, true, false, ◌||◌, false≢true}
use Prim.Native.Nat.{ℕ, ◌+◌, ◌-◌, ◌*◌, ◌/◌, ◌%◌, ◌≤◌, ◌<◌}
use native.Mathlib.Nat.{div-add-mod', mod-lt, mul-le-mul_left, mul-le-mul_right}
use native.Mathlib.Decide.{dec_le, dec_lt, ℕ_discrete}
use native.Mathlib.Omega.{arith}
use lib.Dec.{ltb, eqb}
use borrow.Author.Tests.{le-leb, lt-leb, ne_eqb, lt-ltb, le-ltb, eqb-false, ltb-false}
use Rattle.interleaver.specs.Table.{size_at, size_table, row_count}
use Rattle.interleaver.proofs.Rows.{row_keeps, rising, gap}
use Rattle.segmentation.specs.Segmentation.{check_length, blocks, with_checks, long_row, long, short, shorts, longs, filler, size_of, row_of}
use Rattle.segmentation.specs.Sizes.{bad_size}
use Rattle.segmentation.specs.Wording.{Minimum, MaximumBelow}
use Rattle.segmentation.proofs.FirstRow.{before_first, first_serves}

-- ---- the table

first_size : size_at 0 ≡ 40
unfolding size_at size_table
first_size = refl

last_size : size_at 187 ≡ 6144
unfolding size_at size_table
last_size = refl

-- a row with a smaller size comes before
row_before : (i j : ℕ) → j < row_count → i < row_count → size_at i < size_at j → i < j
row_before i j hj hi h = elim (dec_lt i j) [
  | yes l ↦ l
  | no g ↦ elim (ℕ_discrete j i) [
    | yes same ↦ absurd (let e : size_at i < size_at i = rw same at h in omega arith)
    | no other ↦ absurd (omega (arith, rising j i (omega arith) hi))
  ]
]

-- an earlier row, or the same, has no larger size
no_later : (i j : ℕ) → j < row_count → i ≤ j → size_at i ≤ size_at j
no_later i j hj h = elim (ℕ_discrete i j) [
  | yes same ↦ rw same (omega arith)
  | no other ↦ omega (arith, rising i j (omega arith) hj)
]

-- ---- the range of A

pub in_range : (A : ℕ) → bad_size A ≡ false → (1 ≤ A) × (A ≤ 30576)
unfolding bad_size
in_range A e = go (eqb A 0) refl (ltb 30576 A) refl e
  where
    go : (z : Bool) → eqb A 0 ≡ z → (t : Bool) → ltb 30576 A ≡ t → (z || t) ≡ false → (1 ≤ A) × (A ≤ 30576)
    go false p false q r = (omega (arith, eqb-false A 0 p), omega (arith, ltb-false 30576 A q))
    go true p t q r = absurd (false≢true (sym r))
    go false p true q r = absurd (false≢true (sym r))

pub good_size : (A : ℕ) → 1 ≤ A → A ≤ 30576 → bad_size A ≡ false
unfolding bad_size
good_size A h l = rw (ne_eqb A 0 (λ e. omega arith), le-ltb 30576 A l)

-- ---- how many code blocks

-- B ≤ Z
pub single : (B : ℕ) → B ≤ 6144 → (blocks B ≡ 1) × (check_length B ≡ 0)
unfolding blocks check_length
single B h = (rw (le-leb B 6144 h), rw (le-leb B 6144 h))

-- B > Z
pub several : (B : ℕ) → 6144 < B → (blocks B ≡ (B + 6119) / 6120) × (check_length B ≡ 24)
unfolding blocks check_length
several B h = (rw (lt-leb B 6144 h), rw (lt-leb B 6144 h))

-- C > 1 is B > Z
pub large_of : (B : ℕ) → 1 < blocks B → 6144 < B
large_of B h = elim (dec_lt 6144 B) [ yes l ↦ l | no g ↦ absurd (let small : B ≤ 6144 = omega arith in omega (arith, (single B small).0)) ]

pub need_single : (B : ℕ) → B ≤ 6144 → with_checks B ≡ B
unfolding with_checks
need_single B h = rw (single B h).1 (omega arith)

pub no_shorts : (B : ℕ) → B ≤ 6144 → (short B ≡ 0) × (shorts B ≡ 0)
unfolding short shorts
no_shorts B h = (rw (single B h).0, rw (single B h).0)

pub some_shorts : (B : ℕ) → 6144 < B → (short B ≡ size_at (long_row B - 1)) × (shorts B ≡ (blocks B * long B - with_checks B) / (long B - short B))
unfolding short shorts
some_shorts B h = (rw (ne_eqb (blocks B) 1 other), rw (ne_eqb (blocks B) 1 other))
  where
    other : blocks B ≡ 1 → ⊥
    other e = omega (arith, (several B h).0)

-- C − C− long blocks and C− short ones make up B' and a short rest, the filler
record Split (C need K k s : ℕ) : Type 0 where
  pub fewer : s < C
  pub total : need ≤ (C - s) * K + s * k
  pub rest : (C - s) * K + s * k < need + 64

split : (C need K k : ℕ) → k < K → K ≤ k + 64 → need ≤ C * K → C * k < need → Split C need K k ((C * K - need) / (K - k))
split C need K k below near enough little =
    made (K - k) ((C * K - need) / (K - k)) ((C * K - need) % (K - k)) (omega arith) (div-add-mod' _ _) (mod-lt _ (omega arith))
  where
    sum : (d q m l : ℕ) → q * d + m + need ≡ (l + q) * (k + d) → l * (k + d) + q * k ≡ need + m
    sum d q m l e = omega arith

    made : (d q m : ℕ) → K ≡ k + d → q * d + m ≡ C * K - need → m < d → Split C need K k q
    made d q m K-is e less = record { fewer = fewer; total = omega (arith, whole); rest = omega (arith, whole) }
      where
        wide : C * K ≡ C * k + C * d
        wide = rw K-is (omega arith)

        fewer : q < C
        fewer = elim (dec_lt q C) [ yes l ↦ l | no g ↦ absurd (let n : C ≤ q = omega arith in omega (arith, wide, mul-le-mul_right d n)) ]

        parts : C ≡ C - q + q
        parts = omega (arith, fewer)

        whole : (C - q) * K + q * k ≡ need + m
        whole = rw K-is (sum d q m (C - q) (rw (← parts, ← K-is) (omega arith)))

module _ (B : ℕ) (high : B ≤ 30600) where
  pub blocks_least : 1 ≤ blocks B
  blocks_least = elim (dec_le B 6144) [ yes h ↦ omega (arith, (single B h).0) | no h ↦ omega (arith, (several B (omega arith)).0) ]

  pub blocks_most : blocks B ≤ 5
  blocks_most = elim (dec_le B 6144) [ yes h ↦ omega (arith, (single B h).0) | no h ↦ omega (arith, (several B (omega arith)).0) ]

  -- the largest size of the table serves
  last_serves : with_checks B ≤ blocks B * size_at 187
  unfolding with_checks
  last_serves = rw last_size (elim (dec_le B 6144) [
    | yes h ↦ rw ((single B h).0, (single B h).1) (omega arith)
    | no h ↦ let m : 6144 < B = omega arith in rw (several B m).1 (omega (arith, (several B m).0))
  ])

  pub long_row_lem : long_row B < row_count
  unfolding long_row
  long_row_lem = omega (arith, (first_serves (blocks B) (with_checks B) 0 row_count 187 (omega arith) (omega arith) last_serves).0)

  pub long_is : Minimum (blocks B) (with_checks B) (long B)
  unfolding long long_row
  long_is = record {
    listed = (long_row B, long_row_lem, refl);
    enough = (first_serves (blocks B) (with_checks B) 0 row_count 187 (omega arith) (omega arith) last_serves).1;
    least = least;
  }
    where
      least : (row : ℕ) → row < row_count → with_checks B ≤ blocks B * size_at row → long B ≤ size_at row
      least row h e = elim (dec_le (long B) (size_at row)) [
        | yes l ↦ l
        | no g ↦ absurd (let early : row < long_row B = row_before row (long_row B) long_row_lem h (omega arith) in
            omega (arith, before_first (blocks B) (with_checks B) 0 row_count row (omega arith) early))
      ]

  -- the row before, where there is one: it does not serve, and its size is at most 64 less
  row_before_fails : 1 ≤ long_row B → blocks B * size_at (long_row B - 1) < with_checks B
  unfolding long_row
  row_before_fails h = before_first (blocks B) (with_checks B) 0 row_count (long_row B - 1) (omega arith) (omega arith)

  row_before_near : 1 ≤ long_row B → long B ≤ size_at (long_row B - 1) + 64
  unfolding long
  row_before_near h = let e : long_row B - 1 + 1 ≡ long_row B = omega arith in rw e at (gap (long_row B - 1) (omega (arith, long_row_lem)))

  first_row_lem : long_row B ≡ 0 → long B ≡ 40
  unfolding long
  first_row_lem e = ap size_at e ∙ first_size

  -- C > 1
  module _ (large : 6144 < B) where
    -- the long size is more than half of 6120
    pub long_large : 3085 ≤ long B
    unfolding with_checks
    long_large = elim (dec_le 3085 (long B)) [
      | yes h ↦ h
      | no h ↦ absurd (let small : long B ≤ 3084 = omega arith in
          let enough : B + blocks B * 24 ≤ blocks B * long B = rw (several B large).1 at long_is.enough in
          omega (arith, mul-le-mul_left (blocks B) small, (several B large).0))
    ]

    pub short_row : 1 ≤ long_row B
    short_row = elim (dec_lt 0 (long_row B)) [
      | yes h ↦ h
      | no h ↦ absurd (let first : long_row B ≡ 0 = omega arith in omega (arith, long_large, first_row_lem first))
    ]

    pub short_is : MaximumBelow (long B) (short B)
    unfolding long
    short_is = rw (some_shorts B large).0 (record {
      listed = (long_row B - 1, omega (arith, long_row_lem), refl);
      below = rising (long_row B - 1) (long_row B) (omega (arith, short_row)) long_row_lem;
      most = λ row h l. no_later row (long_row B - 1) (omega (arith, long_row_lem)) (omega (arith, row_before row (long_row B) long_row_lem h l));
    })

    short_near : long B ≤ short B + 64
    short_near = rw (some_shorts B large).0 (row_before_near short_row)

    pub short_large : 3021 ≤ short B
    short_large = omega (arith, long_large, short_near)

    large_split : Split (blocks B) (with_checks B) (long B) (short B) (shorts B)
    large_split = rw (some_shorts B large).1
        (split (blocks B) (with_checks B) (long B) (short B) short_is.below short_near long_is.enough (rw (some_shorts B large).0 (row_before_fails short_row)))

  -- C = 1
  module _ (small : B ≤ 6144) where
    long_near : long B < B + 64
    long_near = elim (dec_le 1 (long_row B)) [
      | yes h ↦ let fails : blocks B * size_at (long_row B - 1) < with_checks B = row_before_fails h in
          omega (arith, (rw ((single B small).0, need_single B small) at fails), row_before_near h)
      | no h ↦ let first : long_row B ≡ 0 = omega arith in omega (arith, first_row_lem first)
    ]

    small_split : Split (blocks B) (with_checks B) (long B) (short B) (shorts B)
    small_split = rw ((single B small).0, need_single B small, (no_shorts B small).0, (no_shorts B small).1)
        (record { fewer = omega arith; total = omega (arith, serves); rest = omega (arith, long_near) })
      where
        serves : B ≤ 1 * long B
        serves = rw ((single B small).0, need_single B small) at long_is.enough

  parts : Split (blocks B) (with_checks B) (long B) (short B) (shorts B)
  parts = elim (dec_le B 6144) [ yes h ↦ small_split h | no h ↦ large_split (omega arith) ]

  -- ---- the sizes together

  pub shorts_fewer : shorts B < blocks B
  shorts_fewer = parts.fewer

  pub blocks_both : blocks B ≡ shorts B + longs B
  unfolding longs
  blocks_both = omega (arith, parts.fewer)

  -- C+·K+ + C−·K− = B' + F
  pub sizes_add_up : longs B * long B + shorts B * short B ≡ with_checks B + filler B
  unfolding filler longs
  sizes_add_up = omega (arith, parts.total)

  pub filler_most : filler B ≤ 63
  unfolding filler longs
  filler_most = omega (arith, parts.total, parts.rest)

  -- the sum of the sizes is no less than B'
  pub total_enough : with_checks B ≤ (blocks B - shorts B) * long B + shorts B * short B
  total_enough = parts.total

  pub long_most : long B ≤ 6144
  unfolding long
  long_most = (row_keeps (long_row B) long_row_lem).most

  -- ---- each code block

  pub size_short : (r : ℕ) → r < shorts B → size_of B r ≡ short B
  unfolding size_of
  size_short r h = rw (lt-ltb r (shorts B) h)

  pub size_long : (r : ℕ) → shorts B ≤ r → size_of B r ≡ long B
  unfolding size_of
  size_long r h = rw (le-ltb r (shorts B) h)

  -- only C > 1 has short blocks
  short_large_only : (r : ℕ) → r < shorts B → 6144 < B
  short_large_only r h = large_of B (omega (arith, shorts_fewer))

  -- K_r is the size of its row, and the row is one of the table's
  pub size_row : (r : ℕ) → size_of B r ≡ size_at (row_of B r)
  unfolding row_of long
  size_row r = elim (dec_lt r (shorts B)) [
    | yes h ↦ size_short r h ∙ rw (lt-ltb r (shorts B) h) (some_shorts B (short_large_only r h)).0
    | no h ↦ let g : shorts B ≤ r = omega arith in size_long r g ∙ rw (le-ltb r (shorts B) g)
  ]

  pub row_below : (r : ℕ) → row_of B r < row_count
  unfolding row_of
  row_below r = elim (dec_lt r (shorts B)) [
    | yes h ↦ rw (lt-ltb r (shorts B) h) (omega (arith, long_row_lem))
    | no h ↦ let g : shorts B ≤ r = omega arith in rw (le-ltb r (shorts B) g) long_row_lem
  ]

  -- no code block of C > 1 is small
  pub size_large : 6144 < B → (r : ℕ) → 3021 ≤ size_of B r
  size_large large r = elim (dec_lt r (shorts B)) [
    | yes h ↦ rw (size_short r h) (short_large large)
    | no h ↦ rw (size_long r (omega arith)) (omega (arith, long_large large))
  ]

  -- the check bits fit: L ≤ K−, and L + 24 ≤ K_r, so that the transport check lies in the payload of the last code block
  pub short_checks : check_length B ≤ short B
  short_checks = elim (dec_le B 6144) [
    | yes h ↦ omega (arith, (single B h).1)
    | no h ↦ let large : 6144 < B = omega arith in omega (arith, (several B large).1, short_large large)
  ]

  pub size_checks : (r : ℕ) → check_length B + 24 ≤ size_of B r
  size_checks r = elim (dec_le B 6144) [
    | yes h ↦ rw ((single B h).1, size_row r) (omega (arith, (row_keeps (row_of B r) (row_below r)).least))
    | no h ↦ let large : 6144 < B = omega arith in omega (arith, (several B large).1, size_large large r)
  ]

  pub long_checks : check_length B + 24 ≤ long B
  long_checks = rw (size_long (shorts B) (omega arith)) at (size_checks (shorts B))

  pub size_most : (r : ℕ) → size_of B r ≤ 6144
  size_most r = rw (size_row r) (row_keeps (row_of B r) (row_below r)).most
