-- The search for K+ in table 5.1.3-3: it finds the first row that serves, and that of several code blocks is that of one.
-- Assumes nothing.
use mathlib.Core.Path.{◌≡◌, refl, sym, ◌∙◌, ap, ap₂}
use mathlib.Core.Bool.{Bool, true, false, cond}
use mathlib.Core.List.{List, [], ◌∷◌}
use Prim.Native.Nat.{ℕ, zero, suc, ◌+◌, ◌*◌, ◌≤◌, ◌<◌}
use native.Mathlib.Nat.{zero-add, add-zero, mul-le-mul}
use native.Mathlib.Decide.{ℕ_discrete, dec_le, dec_lt}
use native.Mathlib.Omega.{arith}
use lib.Dec.{leb}
use lib.ListN.{length, get_or}
use borrow.Author.Tests.{le-leb, lt-leb, leb-true, leb-false, lt-ltb}
use Rattle.std.specs.Prelude.{Option, Some, IsSome}
use Rattle.std.specs.Int.{div_ceil}
use Rattle.std.proofs.lemmas.Grind.{div_ceil_times}
use Rattle.interleaver.specs.declared.table.Found.{Found}
use Rattle.interleaver.specs.Table.{size_table, size_at, row_count, first_at_least, row_for, found_for}
use Rattle.segmentation.specs.Segmentation.{first_row}

-- ---- the row that is found

-- no row before it serves
pub before_first : (C need i n k : ℕ) → i ≤ k → k < first_row C need i n → C * size_at k < need
unfolding first_row
before_first C need i zero k h l = absurd (omega arith)
before_first C need i (suc n) k h l = go (leb need (C * size_at i)) refl l (before_first C need (suc i) n k)
  where
    go : (t : Bool) → leb need (C * size_at i) ≡ t → k < elim t [ true ↦ i | false ↦ first_row C need (suc i) n ]
        → (suc i ≤ k → k < first_row C need (suc i) n → C * size_at k < need) → C * size_at k < need
    go true e m later = absurd (omega arith)
    go false e m later = elim (ℕ_discrete i k) [
      | yes same ↦ rw (sym same) (leb-false _ _ e)
      | no other ↦ later (omega arith) m
    ]

-- where some row serves, it serves and is no later than that row
pub first_serves : (C need i n j : ℕ) → i ≤ j → j < i + n → need ≤ C * size_at j → (first_row C need i n ≤ j) × (need ≤ C * size_at (first_row C need i n))
unfolding first_row
first_serves C need i zero j h l e = absurd (omega arith)
first_serves C need i (suc n) j h l e = go (leb need (C * size_at i)) refl (λ m. first_serves C need (suc i) n j m (omega arith) e)
  where
    serves : ℕ → Type 0
    serves row = (row ≤ j) × (need ≤ C * size_at row)

    go : (t : Bool) → leb need (C * size_at i) ≡ t → (suc i ≤ j → serves (first_row C need (suc i) n))
        → serves (elim t [ true ↦ i | false ↦ first_row C need (suc i) n ])
    go true p later = (h, leb-true _ _ p)
    go false p later = elim (ℕ_discrete i j) [
      | yes same ↦ absurd (let q : C * size_at j < need = rw (sym same) (leb-false _ _ p) in omega arith)
      | no other ↦ later (omega arith)
    ]

-- ---- one code block in the place of several

-- blocks·K ≥ need says the same as K ≥ the ceiling of need / blocks
enough_alike : (C need x : ℕ) → 0 < C → leb need (C * x) ≡ leb (div_ceil need C) (1 * x)
enough_alike C need x some = elim (dec_le need (C * x)) [
  | yes h ↦ le-leb need (C * x) h ∙ sym (le-leb (div_ceil need C) (1 * x) (omega (arith, within h)))
  | no h ↦ lt-leb need (C * x) (omega arith) ∙ sym (lt-leb (div_ceil need C) (1 * x) (omega (arith, above (omega arith))))
]
  where
    ceil : (need ≤ div_ceil need C * C) × (div_ceil need C * C < need + C)
    ceil = div_ceil_times need C some

    within : need ≤ C * x → div_ceil need C < x + 1
    within h = elim (dec_lt (div_ceil need C) (x + 1)) [
      | yes l ↦ l
      | no l ↦ let more : (x + 1) * C ≤ div_ceil need C * C = mul-le-mul (omega arith) (omega arith) in omega (arith, more, ceil.1)
    ]

    above : C * x < need → x < div_ceil need C
    above h = elim (dec_lt x (div_ceil need C)) [
      | yes l ↦ l
      | no l ↦ let less : div_ceil need C * C ≤ x * C = mul-le-mul (omega arith) (omega arith) in omega (arith, less, ceil.0)
    ]

first_row_alike : (C need i n : ℕ) → 0 < C → first_row C need i n ≡ first_row 1 (div_ceil need C) i n
unfolding first_row
first_row_alike C need i zero some = refl
first_row_alike C need i (suc n) some =
    ap₂ (λ (t : Bool) (row : ℕ). elim t [ true ↦ i | false ↦ row ]) (enough_alike C need (size_at i) some) (first_row_alike C need (suc i) n some)

-- ---- the search in the table is the search in its rows

search_table : (least : ℕ) (ks : List ℕ) (i : ℕ) → ((j : ℕ) → j < length ks → size_at (i + j) ≡ get_or ks j 0) → first_row 1 least i (length ks) ≡ i + first_at_least least ks
unfolding first_row first_at_least
search_table least [] i h = omega arith
search_table least (k ∷ ks) i h = go (leb least k) refl (search_table least ks (suc i) (λ j l. ap size_at (on j) ∙ h (suc j) (omega arith)))
  where
    on : (j : ℕ) → suc i + j ≡ i + suc j
    on j = omega arith

    here : 1 * size_at i ≡ k
    here = omega (arith, h 0 (omega arith), ap size_at (add-zero i))

    go : (t : Bool) → leb least k ≡ t → first_row 1 least (suc i) (length ks) ≡ suc i + first_at_least least ks
        → elim (leb least (1 * size_at i)) [ true ↦ i | false ↦ first_row 1 least (suc i) (length ks) ] ≡ i + cond (leb least k) 0 (suc (first_at_least least ks))
    go true e later = rw (here, e) (omega arith)
    go false e later = rw (here, e) (omega arith)

all_rows : length size_table ≡ row_count
unfolding size_table
all_rows = refl

-- the row found for one code block is that for C
found_for_lem : (C need row : ℕ) → 0 < C → row ≡ row_for (div_ceil need C) → row ≡ first_row C need 0 row_count
unfolding row_for size_at
found_for_lem C need row some e =
    e
    ∙ sym (zero-add (first_at_least (div_ceil need C) size_table))
    ∙ sym (search_table (div_ceil need C) size_table 0 (λ j l. ap size_at (zero-add j)))
    ∙ ap (first_row 1 (div_ceil need C) 0) all_rows
    ∙ sym (first_row_alike C need 0 row_count some)

alone : (need : ℕ) → div_ceil need 1 ≡ need
alone need = omega arith

-- where the last row serves, a row is found
last : size_at 187 ≡ 6144
unfolding size_at size_table
last = refl

row_within : (C need : ℕ) → 0 < C → need ≤ C * 6144 → row_for (div_ceil need C) < row_count
row_within C need some h =
    let first = found_for_lem C need _ some refl in
    let serves = first_serves C need 0 row_count 187 (omega arith) (omega arith) (rw last h) in
    omega (arith, first, serves.0)

-- the row that is found, with its K
pub found_told : (C need : ℕ) {r : Found} → 0 < C → need ≤ C * 6144 → found_for (div_ceil need C) ≡ Some r → (r.row ≡ first_row C need 0 row_count) × (r.size ≡ size_at r.row)
unfolding found_for
found_told C need {r} some h e = go _ (found_for_lem C need _ some refl) (rw (lt-ltb _ _ (row_within C need some h)) at e)
  where
    go : (row : ℕ) → row ≡ first_row C need 0 row_count → ◌≡◌ {A = Option Found} (Some (record { row = row; size = size_at row })) (Some r)
        → (r.row ≡ first_row C need 0 row_count) × (r.size ≡ size_at r.row)
    go row told e = let same : ◌≡◌ {A = Found} (record { row = row; size = size_at row }) r = cc in rw (← same) (told, refl)

pub found_some : (C need : ℕ) → 0 < C → need ≤ C * 6144 → IsSome (found_for (div_ceil need C))
unfolding found_for
found_some C need some h = rw (lt-ltb _ _ (row_within C need some h)) refl

-- the same for one code block
pub found_one : (need : ℕ) {r : Found} → need ≤ 6144 → found_for need ≡ Some r → (r.row ≡ first_row 1 need 0 row_count) × (r.size ≡ size_at r.row)
found_one need h e = found_told 1 need (omega arith) (omega arith) (ap found_for (alone need) ∙ e)

pub one_some : (need : ℕ) → need ≤ 6144 → IsSome (found_for need)
one_some need h = rw (alone need) at (found_some 1 need (omega arith) (omega arith))
