-- The loops of the change of form: the bytes passed are packed, or the places of the bytes passed unpacked, and the rest as it was.
-- Assumes nothing.
use mathlib.Core.Path.{◌≡◌, sym, ◌∙◌, ap}
use mathlib.Core.List.{List, ◌∷◌}
use Prim.Native.Nat.{ℕ, ◌+◌, ◌-◌, ◌*◌, ◌≤◌, ◌<◌}
use native.Mathlib.Nat.{add-zero}
use native.Mathlib.Omega.{arith}
use lib.ListN.{length, get_or, set, length-set}
use Rattle.laws.specs.Lists.{tab, tab_from}
use Rattle.laws.proofs.Tab.{tab_rest, rest_more, rest_none}
use Rattle.laws.proofs.Writing.{Writing, start, same, push, finish}
use Rattle.packing.specs.Packing.{four_in, packed_at, packed, packed_over, standing_at, place_in, unpacked, unpacked_over}
use Rattle.packing.proofs.Places.{place_at}

-- ---- places into bytes

-- i of n bytes are written
pub record Packing (from to₀ : List ℕ) (n : ℕ) (to : List ℕ) (i : ℕ) : Type 0 where
  pub passed : i ≤ n
  pub enough : 4 * n ≤ length from
  pub room : n ≤ length to₀
  pub wrote : Writing to₀ to i (tab_from i (n - i) (packed_at from)) (tab n (packed_at from))

pub packing_start : (from to : List ℕ) (n : ℕ) → 4 * n ≤ length from → n ≤ length to → Packing from to n to 0
packing_start from to n h g = record { passed = omega arith; enough = h; room = g; wrote = same (sym (tab_rest n (packed_at from))) start }

module _ {from to₀ : List ℕ} {n : ℕ} {to : List ℕ} {i : ℕ} (w : Packing from to₀ n to i) where
  pub packing_next : {x : ℕ} → i < n → x ≡ four_in (get_or from (4 * i) 0) (get_or from (4 * i + 1) 0) (get_or from (4 * i + 2) 0) (get_or from (4 * i + 3) 0)
      → Packing from to₀ n (set to i x) (i + 1)
  unfolding packed_at
  packing_next {x} h e = record {
    passed = omega arith;
    enough = w.enough;
    room = w.room;
    wrote = push (omega (arith, w.wrote.long, w.room)) (same (rest_more i n (packed_at from) h ∙ rw e) w.wrote);
  }

  pub packing_finish : n ≤ i → to ≡ packed_over n from to₀
  unfolding packed_over packed
  packing_finish h = rw (all n i w.passed h) at (finish (rest_none i n (packed_at from) h) w.wrote)
    where
      all : (n i : ℕ) → i ≤ n → n ≤ i → i ≡ n
      all n i a b = omega arith

-- ---- bytes into places

-- the places of i of n bytes are written
pub record Unpacking (from to₀ : List ℕ) (n : ℕ) (to : List ℕ) (i : ℕ) : Type 0 where
  pub passed : i ≤ n
  pub enough : n ≤ length from
  pub room : 4 * n ≤ length to₀
  pub wrote : Writing to₀ to (4 * i) (tab_from (4 * i) (4 * n - 4 * i) (place_in from)) (tab (4 * n) (place_in from))

pub unpacking_start : (from to : List ℕ) (n : ℕ) → n ≤ length from → 4 * n ≤ length to → Unpacking from to n to 0
unpacking_start from to n h g = record { passed = omega arith; enough = h; room = g; wrote = same (sym (tab_rest (4 * n) (place_in from))) start }

-- `out[i] = x`, and the next place by another name
push_to : {out₀ out : List ℕ} {i x : ℕ} {future total : List ℕ} (next : ℕ) → i + 1 ≡ next → i < length out → Writing out₀ out i (x ∷ future) total → Writing out₀ (set out i x) next future total
push_to next e h w = rw e at (push h w)

-- four entries more
four_more : (j n : ℕ) (f : ℕ → ℕ) → j + 3 < n → tab_from j (n - j) f ≡ f j ∷ f (j + 1) ∷ f (j + 2) ∷ f (j + 3) ∷ tab_from (j + 4) (n - (j + 4)) f
four_more j n f h =
    rest_more j n f (omega arith)
    ∙ ap (λ (l : List ℕ). f j ∷ l) (more 1 (omega arith))
    ∙ ap (λ (l : List ℕ). f j ∷ f (j + 1) ∷ l) (more 2 (omega arith))
    ∙ ap (λ (l : List ℕ). f j ∷ f (j + 1) ∷ f (j + 2) ∷ l) (more 3 (omega arith))
  where
    more : (k : ℕ) → k ≤ 3 → tab_from (j + k) (n - (j + k)) f ≡ f (j + k) ∷ tab_from (j + (k + 1)) (n - (j + (k + 1))) f
    more k l = rest_more (j + k) n f (omega arith) ∙ ap (λ (m : ℕ). f (j + k) ∷ tab_from m (n - m) f) (sum j k)
      where
        sum : (j k : ℕ) → j + k + 1 ≡ j + (k + 1)
        sum j k = omega arith

module _ {from to₀ : List ℕ} {n : ℕ} {to : List ℕ} {i : ℕ} (w : Unpacking from to₀ n to i) where
  fits : i < n → 4 * i + 3 < length to
  fits h = omega (arith, w.wrote.long, w.room)

  -- place k of byte i
  is : (k : ℕ) → k < 4 → place_in from (4 * i + k) ≡ standing_at k (get_or from i 0)
  is k h = place_at from i k h

  pub unpacking_next : i < n → {a b c d : ℕ} → a ≡ standing_at 0 (get_or from i 0) → b ≡ standing_at 1 (get_or from i 0) → c ≡ standing_at 2 (get_or from i 0) → d ≡ standing_at 3 (get_or from i 0)
      → Unpacking from to₀ n (set (set (set (set to (4 * i) a) (4 * i + 1) b) (4 * i + 2) c) (4 * i + 3) d) (i + 1)
  unpacking_next h {a} {b} {c} {d} ea eb ec ed = record {
    passed = omega arith;
    enough = w.enough;
    room = w.room;
    wrote = fourth;
  }
    where
      future : List ℕ
      future = tab_from (4 * i + 4) (4 * n - (4 * i + 4)) (place_in from)

      zeroth : Writing to₀ to (4 * i) (a ∷ b ∷ c ∷ d ∷ future) (tab (4 * n) (place_in from))
      zeroth = same (four_more (4 * i) (4 * n) (place_in from) (omega arith) ∙ rw (ea, eb, ec, ed) (rw (← is 0 (omega arith), ← is 1 (omega arith), ← is 2 (omega arith), ← is 3 (omega arith)) (ap (λ (m : ℕ). place_in from m ∷ place_in from (4 * i + 1) ∷ place_in from (4 * i + 2) ∷ place_in from (4 * i + 3) ∷ future) (sym (add-zero (4 * i)))))) w.wrote

      four_on : (j : ℕ) → 4 * i + 4 ≡ j → Writing to₀ (set (set (set (set to (4 * i) a) (4 * i + 1) b) (4 * i + 2) c) (4 * i + 3) d) j (tab_from j (4 * n - j) (place_in from)) (tab (4 * n) (place_in from))
      four_on j e = rw (← e)
          (push_to (4 * i + 4) (omega arith) (simp length-set (fits h))
          (push_to (4 * i + 3) (omega arith) (simp length-set (omega (arith, fits h)))
          (push_to (4 * i + 2) (omega arith) (simp length-set (omega (arith, fits h)))
          (push (omega (arith, fits h)) zeroth))))

      fourth : Writing to₀ (set (set (set (set to (4 * i) a) (4 * i + 1) b) (4 * i + 2) c) (4 * i + 3) d) (4 * (i + 1)) (tab_from (4 * (i + 1)) (4 * n - 4 * (i + 1)) (place_in from)) (tab (4 * n) (place_in from))
      fourth = four_on (4 * (i + 1)) (omega arith)

  pub unpacking_finish : n ≤ i → to ≡ unpacked_over n from to₀
  unfolding unpacked_over unpacked
  unpacking_finish h = rw (all n i w.passed h) at (finish (rest_none (4 * i) (4 * n) (place_in from) (omega arith)) w.wrote)
    where
      all : (n i : ℕ) → i ≤ n → n ≤ i → 4 * i ≡ 4 * n
      all n i a b = omega arith
