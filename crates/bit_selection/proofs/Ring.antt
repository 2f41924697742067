-- Laws of the matcher's loops and of its ring: the bits of columns and of units put into it one after another, until there are as many as are sent.
-- Assumes nothing.
use mathlib.Core.Path.{◌≡◌, refl, sym, ◌∙◌, ap, ap₂, subst}
use mathlib.Core.Bool.{Bool, true, false, cond}
use mathlib.Core.Logic.{⊎_elim}
use mathlib.Core.List.{List, ◌∷◌, ◌++◌, append-nil, append_assoc}
use Prim.Native.Nat.{ℕ, zero, suc, ◌+◌, ◌-◌, ◌*◌, ◌/◌, ◌%◌, ◌≤◌, ◌<◌}
use native.Mathlib.Nat.{add-sub_cancel_left, add-zero, zero-add, eq-zero-or-pos, mod-eq_of_lt}
use native.Mathlib.Numerals.{add-one}
use native.Mathlib.Omega.{arith}
use lib.ListN.{length, get_or, take, drop, set, length-append, length-set, length-take}
use lib.Seq.{take_all, take_at, take-append-le, length-take-le, get_or-take}
use lib.Dec.{eqb, ltb}
use borrow.Author.Tests.{eq-eqb, ne_eqb, ltb-true, ltb-false}
use borrow.Rule.Slice.PartMut.{mid_of, put_mid, same_len_mid}
use Rattle.laws.specs.Lists.{tab, tab_from}
use Rattle.laws.proofs.Parts.{length_mid, put_is}
use Rattle.laws.proofs.Tab.{length_tab, tab_ext, tab_rest, rest_more}
use Rattle.laws.proofs.Writing.{Writing, start, same, push}
use Rattle.rate_matching.specs.Walk.{turn_after_turn}
use Rattle.rate_matching.specs.declared.Unit.{Unit}
use Rattle.rate_matching.specs.SubBlocks.{rows}
use Rattle.rate_matching.specs.Places.{longest}
use Rattle.rate_matching.specs.Units.{unit_at, alone_count, both_count, unit_start, Lies}
use Rattle.bit_selection.specs.inner.Bits.{every_row, pair_row, column_bits, pair_bits, bits_of, unit_bits, units_from, Reads}
use Rattle.bit_selection.specs.inner.Ring.{Holds, Put, PutTo}
use Rattle.rate_matching.proofs.Units.{low_next, high_next, starts_rise}
use Rattle.bit_selection.proofs.UnitBits.{unit_few}

-- ---- a column: row q is so far below the first

pub column_next : (y : List ℕ) (from : ℕ) {part₀ part : List ℕ} {below q : ℕ} → below ≡ 32 * q → q < length part → length part ≡ length part₀
    → Writing part₀ part q (tab_from q (length part₀ - q) (every_row y from)) (tab (length part₀) (every_row y from))
    → Writing part₀ (set part q (get_or y (from + below) 0)) (q + 1) (tab_from (q + 1) (length part₀ - (q + 1)) (every_row y from)) (tab (length part₀) (every_row y from))
unfolding every_row
column_next y from {part₀} {part} {below} {q} e h l w =
    push h (same (rest_more q (length part₀) (every_row y from) (omega arith) ∙ ap (λ (a : ℕ). get_or y (from + a) 0 ∷ tab_from (q + 1) (length part₀ - (q + 1)) (every_row y from)) (sym e)) w)

-- ---- two columns by turns: k entries are written, k even

pair_first : (d1 d2 : List ℕ) (from k : ℕ) → k % 2 ≡ 0 → pair_row d1 d2 from k ≡ get_or d1 (from + 16 * k) 0
unfolding pair_row every_row
pair_first d1 d2 from k e =
    let i : from + 32 * (k / 2) ≡ from + 16 * k = omega arith in
    simp (eq-eqb (k % 2) 0 e) (ap (λ (n : ℕ). get_or d1 n 0) i)

pair_second : (d1 d2 : List ℕ) (from k : ℕ) → k % 2 ≡ 0 → pair_row d1 d2 from (k + 1) ≡ get_or d2 (from + 16 * k + 1) 0
unfolding pair_row every_row
pair_second d1 d2 from k e =
    let i : from + 1 + 32 * ((k + 1) / 2) ≡ from + 16 * k + 1 = omega arith in
    simp (ne_eqb ((k + 1) % 2) 0 (λ z. omega arith)) (ap (λ (n : ℕ). get_or d2 n 0) i)

pub record Pairing (d1 d2 : List ℕ) (from : ℕ) (part₀ part : List ℕ) (below k : ℕ) : Type 0 where
  pub even : k % 2 ≡ 0
  pub place : below ≡ 16 * k
  pub within : k ≤ length part₀
  pub wrote : Writing part₀ part k (tab_from k (length part₀ - k) (pair_row d1 d2 from)) (tab (length part₀) (pair_row d1 d2 from))

pub pairing_start : {d1 d2 : List ℕ} {from : ℕ} {part : List ℕ} → Pairing d1 d2 from part part 0 0
pairing_start {d1} {d2} {from} {part} = record { even = refl; place = omega arith; within = omega arith; wrote = same (sym (tab_rest (length part) (pair_row d1 d2 from))) start }

module _ {d1 d2 : List ℕ} {from : ℕ} {part₀ part : List ℕ} {below k : ℕ} (p : Pairing d1 d2 from part₀ part below k) where
  -- `part[k] = d1[from.1 + below]`
  pub pair_one : k < length part → Writing part₀ (set part k (get_or d1 (from + below) 0)) (k + 1) (tab_from (k + 1) (length part₀ - (k + 1)) (pair_row d1 d2 from)) (tab (length part₀) (pair_row d1 d2 from))
  pair_one h = push h (same (rest_more k (length part₀) (pair_row d1 d2 from) (omega (arith, p.wrote.long)) ∙ ap (λ (x : ℕ). x ∷ tab_from (k + 1) (length part₀ - (k + 1)) (pair_row d1 d2 from)) entry) p.wrote)
    where
      entry : pair_row d1 d2 from k ≡ get_or d1 (from + below) 0
      entry = pair_first d1 d2 from k p.even ∙ ap (λ (n : ℕ). get_or d1 (from + n) 0) (sym p.place)

  -- `part[k + 1] = d2[from.1 + below + 1]; below += 32; k += 2` after it
  pub pair_next : k + 1 < length part → Pairing d1 d2 from part₀ (set (set part k (get_or d1 (from + below) 0)) (k + 1) (get_or d2 (from + below + 1) 0)) (below + 32) (k + 2)
  pair_next h = record {
    even = omega (arith, p.even);
    place = omega (arith, p.place);
    within = omega (arith, p.wrote.long);
    wrote = rw two (push (rw length-set h) (same (rest_more (k + 1) (length part₀) (pair_row d1 d2 from) (omega (arith, p.wrote.long)) ∙ ap (λ (x : ℕ). x ∷ tab_from (k + 1 + 1) (length part₀ - (k + 1 + 1)) (pair_row d1 d2 from)) entry) (pair_one (omega arith))));
  }
    where
      two : k + 2 ≡ k + 1 + 1
      two = omega arith

      entry : pair_row d1 d2 from (k + 1) ≡ get_or d2 (from + below + 1) 0
      entry = pair_second d1 d2 from k p.even ∙ ap (λ (n : ℕ). get_or d2 (from + n + 1) 0) (sym p.place)

-- ---- a part of the ring

-- the part from a to b was lent and came back as the callee says
put_part : (a b : ℕ) (ring : List ℕ) (m : ℕ) (f : ℕ → ℕ) {part : List ℕ} → b ≡ a + m → b ≤ length ring
    → part ≡ tab (length (mid_of a (b - a) ring)) f → Put (tab m f) ring a (put_mid a (b - a) ring part) b
put_part a b ring m f {part} e h s = record {
  ends = e ∙ ap (λ (n : ℕ). a + n) (sym (length_tab m f));
  told = ap (take b) (put_is a b ring part (omega arith) ∙ sym (append_assoc (take a ring) part (drop b ring)))
      ∙ take_at (take a ring ++ part) (drop b ring) b counted
      ∙ ap (λ (l : List ℕ). take a ring ++ l) said;
}
  where
    size : length (mid_of a (b - a) ring) ≡ m
    size = omega (arith, length_mid a b ring h)

    said : part ≡ tab m f
    said = s ∙ ap (λ (n : ℕ). tab n f) size

    counted : length (take a ring ++ part) ≡ b
    counted = omega (arith, length-append (take a ring) part, length-take-le a ring (omega arith), ap length said, length_tab m f)

-- one part after another
put_join : {xs ys ring₀ ring₁ ring₂ : List ℕ} {n m r : ℕ} → Put xs ring₀ n ring₁ m → Put ys ring₁ m ring₂ r → Put (xs ++ ys) ring₀ n ring₂ r
put_join {xs} {ys} {ring₀} {n = n} p q = record {
  ends = omega (arith, p.ends, q.ends, length-append xs ys);
  told = q.told ∙ ap (λ (l : List ℕ). l ++ ys) p.told ∙ append_assoc (take n ring₀) xs ys;
}

-- ---- a unit

-- a ring with room for all of it
module _ {U : Unit} (l : Lies U) (n : ℕ) (ring : List ℕ) (room : n + (alone_count U + both_count U) ≤ length ring) where
  abbrev mid : ℕ
  mid = n + (U.both.0 + 1 - U.alone.0) / 2

  abbrev end : ℕ
  end = mid + (U.end.0 - U.both.0)

  -- a column of stream 0
  pub column_lent : length (mid_of n (n + (U.end.0 - U.both.0) - n) ring) ≡ both_count U
  unfolding both_count
  column_lent = length_mid n (n + (U.end.0 - U.both.0)) ring (omega arith) ∙ add-sub_cancel_left n (U.end.0 - U.both.0)

  pub put_column : (d0 part : List ℕ) → part ≡ tab (length (mid_of n (n + (U.end.0 - U.both.0) - n) ring)) (every_row d0 U.first.1)
      → Put (column_bits d0 U) ring n (put_mid n (n + (U.end.0 - U.both.0) - n) ring part) (n + (U.end.0 - U.both.0))
  unfolding both_count
  put_column d0 part s = put_part n (n + (U.end.0 - U.both.0)) ring (U.end.0 - U.both.0) (every_row d0 U.first.1) refl (omega arith) s

  -- stream 2 alone
  pub alone_within : mid ≤ length ring
  unfolding alone_count
  alone_within = omega arith

  pub alone_lent : length (mid_of n (mid - n) ring) ≡ alone_count U
  unfolding alone_count
  alone_lent = length_mid n mid ring alone_within ∙ add-sub_cancel_left n ((U.both.0 + 1 - U.alone.0) / 2)

  pub end_within : end ≤ length ring
  unfolding alone_count both_count
  end_within = omega arith

  -- that part came back
  module _ (part : List ℕ) (k : length part ≡ length (mid_of n (mid - n) ring)) where
    pub both_within : end ≤ length (put_mid n (mid - n) ring part)
    both_within = rw (same_len_mid n (mid - n) ring part k) end_within

    both_lent : length (mid_of mid (end - mid) (put_mid n (mid - n) ring part)) ≡ both_count U
    unfolding both_count
    both_lent = length_mid mid end (put_mid n (mid - n) ring part) both_within ∙ add-sub_cancel_left mid (U.end.0 - U.both.0)

    pub both_ask : {D D1 D2 : ℕ} → D1 ≡ D → D2 ≡ D → Reads D U → (U.first.0 ≡ 0 → ⊥)
        → (U.first.1 + 32 * ((length (mid_of mid (end - mid) (put_mid n (mid - n) ring part)) + 1) / 2) ≤ D1 + 31)
        × (U.first.1 + 32 * (length (mid_of mid (end - mid) (put_mid n (mid - n) ring part)) / 2) ≤ D2 + 30)
    both_ask a b r z = rw (both_lent, a, b) (r.first z, r.second z)

    -- then both by turns
    pub put_pairs : (d1 d2 pairs : List ℕ) → part ≡ tab (length (mid_of n (mid - n) ring)) (every_row d2 U.early.1)
        → pairs ≡ tab (length (mid_of mid (end - mid) (put_mid n (mid - n) ring part))) (pair_row d1 d2 U.first.1)
        → Put (pair_bits d1 d2 U) ring n (put_mid mid (end - mid) (put_mid n (mid - n) ring part) pairs) end
    unfolding alone_count both_count
    put_pairs d1 d2 pairs s t =
        put_join (put_part n mid ring ((U.both.0 + 1 - U.alone.0) / 2) (every_row d2 U.early.1) refl alone_within s)
        (put_part mid end (put_mid n (mid - n) ring part) (U.end.0 - U.both.0) (pair_row d1 d2 U.first.1) refl both_within t)

-- the bits of either kind of unit
pub bits_column : (d0 d1 d2 : List ℕ) (U : Unit) → U.first.0 ≡ 0 → column_bits d0 U ≡ bits_of d0 d1 d2 U
unfolding bits_of
bits_column d0 d1 d2 U z = rw (eq-eqb U.first.0 0 z)

pub bits_pair : (d0 d1 d2 : List ℕ) (U : Unit) → (U.first.0 ≡ 0 → ⊥) → pair_bits d1 d2 U ≡ bits_of d0 d1 d2 U
unfolding bits_of
bits_pair d0 d1 d2 U z = rw (ne_eqb U.first.0 0 z)

-- how many bits it has
length_bits : (d0 d1 d2 : List ℕ) (U : Unit) → length (bits_of d0 d1 d2 U) ≤ alone_count U + both_count U
unfolding bits_of
length_bits d0 d1 d2 U = go (eqb U.first.0 0)
  where
    go : (b : Bool) → length (cond b (tab (both_count U) (every_row d0 U.first.1)) (tab (alone_count U) (every_row d2 U.early.1) ++ tab (both_count U) (pair_row d1 d2 U.first.1))) ≤ alone_count U + both_count U
    go true = omega (arith, length_tab (both_count U) (every_row d0 U.first.1))
    go false = omega (arith, length-append (tab (alone_count U) (every_row d2 U.early.1)) (tab (both_count U) (pair_row d1 d2 U.first.1)), length_tab (alone_count U) (every_row d2 U.early.1), length_tab (both_count U) (pair_row d1 d2 U.first.1))

pub unit_long : {D F : ℕ} (d0 d1 d2 : List ℕ) (u : ℕ) → D ≤ longest → F < D → u < 64 → length (unit_bits D d0 d1 d2 F u) ≤ unit_start (rows D) (u + 1) - unit_start (rows D) u
unfolding unit_bits
unit_long {D} {F} d0 d1 d2 u most few l = omega (arith, length_bits d0 d1 d2 (unit_at D F u), unit_few {D = D} {F = F} u most few refl l)

-- as the unit that was found
unit_put : (D F u : ℕ) (d0 d1 d2 : List ℕ) {U : Unit} {ring : List ℕ} {n : ℕ} {ring' : List ℕ} {r : ℕ} → U ≡ unit_at D F u → Put (bits_of d0 d1 d2 U) ring n ring' r
    → Put (unit_bits D d0 d1 d2 F u) ring n ring' r
unfolding unit_bits
unit_put D F u d0 d1 d2 {U} {ring} {n} {ring'} {r} is p = subst (λ (x : Unit). Put (bits_of d0 d1 d2 x) ring n ring' r) is p

pub column_unit_put : (D F u : ℕ) (d0 d1 d2 : List ℕ) {U : Unit} {ring : List ℕ} {n : ℕ} {ring' : List ℕ} {r : ℕ} → U ≡ unit_at D F u → U.first.0 ≡ 0
    → Put (column_bits d0 U) ring n ring' r → Put (unit_bits D d0 d1 d2 F u) ring n ring' r
column_unit_put D F u d0 d1 d2 {U} {ring} {n} {ring'} {r} is z p = unit_put D F u d0 d1 d2 is (subst (λ (l : List ℕ). Put l ring n ring' r) (bits_column d0 d1 d2 U z) p)

pub pair_unit_put : (D F u : ℕ) (d0 d1 d2 : List ℕ) {U : Unit} {ring : List ℕ} {n : ℕ} {ring' : List ℕ} {r : ℕ} → U ≡ unit_at D F u → (U.first.0 ≡ 0 → ⊥)
    → Put (pair_bits d1 d2 U) ring n ring' r → Put (unit_bits D d0 d1 d2 F u) ring n ring' r
pair_unit_put D F u d0 d1 d2 {U} {ring} {n} {ring'} {r} is z p = unit_put D F u d0 d1 d2 is (subst (λ (l : List ℕ). Put l ring n ring' r) (bits_pair d0 d1 d2 U z) p)

unit_most : (R u : ℕ) → unit_start R (u + 1) - unit_start R u ≤ 2 * R
unit_most R u = go (ltb u 32) refl
  where
    go : (t : Bool) → ltb u 32 ≡ t → unit_start R (u + 1) - unit_start R u ≤ 2 * R
    go true t = omega (arith, low_next R u (ltb-true u 32 t))
    go false t = omega (arith, high_next R u (ltb-false u 32 t))

-- ---- unit after unit

-- the units from `from` to u are put, up to place end
pub record Filling (D : ℕ) (d0 d1 d2 : List ℕ) (F from to : ℕ) (ring₀ : List ℕ) (n : ℕ) (ring : List ℕ) (end u : ℕ) : Type 0 where
  pub long : length ring ≡ length ring₀
  pub passed : (from ≤ u) × (u ≤ to)
  pub within : end + unit_start (rows D) from ≤ n + unit_start (rows D) u
  pub inside : end ≤ length ring
  pub told : take end ring ++ units_from D d0 d1 d2 F u (to - u) ≡ take n ring₀ ++ units_from D d0 d1 d2 F from (to - from)

module _ {D : ℕ} {d0 d1 d2 : List ℕ} {F from to : ℕ} {ring₀ : List ℕ} {n : ℕ} where
  pub filling_start : from ≤ to → n ≤ length ring₀ → Filling D d0 d1 d2 F from to ring₀ n ring₀ n from
  filling_start h l = record { long = refl; passed = (omega arith, h); within = omega arith; inside = l; told = refl }

  module _ {ring : List ℕ} {end u : ℕ} (f : Filling D d0 d1 d2 F from to ring₀ n ring end u) where
    -- there is room for the next unit
    pub filling_room : {most : ℕ} → u < to → end < most → Holds (rows D) most (n + (unit_start (rows D) to - unit_start (rows D) from)) (length ring₀)
        → end + (unit_start (rows D) (u + 1) - unit_start (rows D) u) ≤ length ring
    filling_room {most} h below r = go (ltb (length ring₀) (most + 2 * rows D)) refl
      where
        go : (t : Bool) → ltb (length ring₀) (most + 2 * rows D) ≡ t → end + (unit_start (rows D) (u + 1) - unit_start (rows D) u) ≤ length ring
        go true t =
            omega (
              arith,
              r.fits (ltb-true (length ring₀) (most + 2 * rows D) t),
              f.within,
              f.long,
              starts_rise (rows D) u (u + 1) (omega arith),
              starts_rise (rows D) (u + 1) to (omega arith),
              starts_rise (rows D) from u f.passed.0,
            )
        go false t = omega (arith, ltb-false (length ring₀) (most + 2 * rows D) t, f.long, unit_most (rows D) u)

    pub filling_next : {ring' : List ℕ} {r : ℕ} → u < to → length (unit_bits D d0 d1 d2 F u) ≤ unit_start (rows D) (u + 1) - unit_start (rows D) u
        → end + (unit_start (rows D) (u + 1) - unit_start (rows D) u) ≤ length ring → length ring' ≡ length ring → Put (unit_bits D d0 d1 d2 F u) ring end ring' r → Filling D d0 d1 d2 F from to ring₀ n ring' r (u + 1)
    unfolding units_from
    filling_next {ring'} {r} h few room l p = record {
      long = l ∙ f.long;
      passed = (omega (arith, f.passed.0), omega arith);
      within = omega (arith, f.within, p.ends, starts_rise (rows D) u (u + 1) (omega arith));
      inside = omega (arith, p.ends);
      told = ap (λ (x : List ℕ). x ++ units_from D d0 d1 d2 F (u + 1) (to - (u + 1))) p.told
          ∙ append_assoc (take end ring) (unit_bits D d0 d1 d2 F u) (units_from D d0 d1 d2 F (u + 1) (to - (u + 1)))
          ∙ ap (λ (x : List ℕ). take end ring ++ x) (sym next)
          ∙ f.told;
    }
      where
        next : units_from D d0 d1 d2 F u (to - u) ≡ unit_bits D d0 d1 d2 F u ++ units_from D d0 d1 d2 F (u + 1) (to - (u + 1))
        next =
            let one : to - u ≡ suc (to - (u + 1)) = omega arith in
            ap (units_from D d0 d1 d2 F u) one ∙ ap (λ (k : ℕ). unit_bits D d0 d1 d2 F u ++ units_from D d0 d1 d2 F k (to - (u + 1))) (sym (add-one u))

    reached : end ≤ n + (unit_start (rows D) to - unit_start (rows D) from)
    reached = omega (arith, f.within, starts_rise (rows D) u to f.passed.1, starts_rise (rows D) from u f.passed.0)

    -- all units are put, or enough of them
    pub filling_all : (most : ℕ) → to ≤ u
        → PutTo most (units_from D d0 d1 d2 F from (to - from)) (unit_start (rows D) to - unit_start (rows D) from) ring₀ n ring end
    unfolding units_from
    filling_all most h = record {
      within = reached;
      inside = f.inside;
      told = ap (take most) (sym (append-nil (take end ring)) ∙ ap (λ (k : ℕ). take end ring ++ units_from D d0 d1 d2 F u k) none ∙ f.told);
    }
      where
        none : 0 ≡ to - u
        none = omega arith

    pub filling_enough : (most : ℕ) → most ≤ end
        → PutTo most (units_from D d0 d1 d2 F from (to - from)) (unit_start (rows D) to - unit_start (rows D) from) ring₀ n ring end
    filling_enough most h = record {
      within = reached;
      inside = f.inside;
      told = sym (take-append-le most (take end ring) (units_from D d0 d1 d2 F u (to - u)) (omega (arith, length-take-le end ring f.inside))) ∙ ap (take most) f.told;
    }

-- ---- as many as are sent

-- a list cut after m entries, then continued and cut again
cut_join : (m : ℕ) (a b : List ℕ) → take m (take m a ++ b) ≡ take m (a ++ b)
cut_join m a b = ⊎_elim (λ z. long (omega arith)) (λ p. short (omega arith)) (eq-zero-or-pos (m - length a))
  where
    short : length a < m → take m (take m a ++ b) ≡ take m (a ++ b)
    short h = ap (λ (l : List ℕ). take m (l ++ b)) (take_all m a (omega arith))

    long : m ≤ length a → take m (take m a ++ b) ≡ take m (a ++ b)
    long h = take_at (take m a) b m (length-take-le m a h) ∙ sym (take-append-le m a b h)

-- of a ring, the first m entries are enough to send m
cut_ring : (m : ℕ) (l : List ℕ) → tab m (turn_after_turn (take m l)) ≡ tab m (turn_after_turn l)
unfolding turn_after_turn
cut_ring m l = ⊎_elim (λ z. long (omega arith)) (λ p. short (omega arith)) (eq-zero-or-pos (m - length l))
  where
    short : length l < m → tab m (turn_after_turn (take m l)) ≡ tab m (turn_after_turn l)
    short h = ap (λ (r : List ℕ). tab m (turn_after_turn r)) (take_all m l (omega arith))

    long : m ≤ length l → tab m (turn_after_turn (take m l)) ≡ tab m (turn_after_turn l)
    long h = tab_ext m (turn_after_turn (take m l)) (turn_after_turn l) (λ k b.
        let c : k < length (take m l) = omega (arith, length-take-le m l h) in
        let d : k < length l = omega arith in
        ap (λ (j : ℕ). get_or (take m l) j 0) (mod-eq_of_lt c) ∙ get_or-take m l k 0 b ∙ ap (λ (j : ℕ). get_or l j 0) (sym (mod-eq_of_lt d)))

-- one run of units after another
pub put_to_join : {most size₁ size₂ : ℕ} {xs ys ring₀ ring₁ ring₂ : List ℕ} {n m r : ℕ} → PutTo most xs size₁ ring₀ n ring₁ m → PutTo most ys size₂ ring₁ m ring₂ r
    → PutTo most (xs ++ ys) (size₁ + size₂) ring₀ n ring₂ r
put_to_join {most} {xs = xs} {ys = ys} {ring₀} {ring₁} {n = n} {m = m} p q = record {
  within = omega (arith, p.within, q.within);
  inside = q.inside;
  told = q.told
      ∙ sym (cut_join most (take m ring₁) ys)
      ∙ ap (λ (l : List ℕ). take most (l ++ ys)) p.told
      ∙ cut_join most (take n ring₀ ++ xs) ys
      ∙ ap (take most) (append_assoc (take n ring₀) xs ys);
}

-- columns, and then pairs
units_split : (D : ℕ) (d0 d1 d2 : List ℕ) (F u a b : ℕ) → units_from D d0 d1 d2 F u (a + b) ≡ units_from D d0 d1 d2 F u a ++ units_from D d0 d1 d2 F (u + a) b
unfolding units_from
units_split D d0 d1 d2 F u zero b = ap₂ (units_from D d0 d1 d2 F) (sym (add-zero u)) (zero-add b)
units_split D d0 d1 d2 F u (suc a) b =
    let one : suc a + b ≡ suc (a + b) = omega arith in
    let on : suc u + a ≡ u + suc a = omega arith in
    ap (units_from D d0 d1 d2 F u) one
    ∙ ap (λ (l : List ℕ). unit_bits D d0 d1 d2 F u ++ l) (units_split D d0 d1 d2 F (suc u) a b ∙ ap (λ (k : ℕ). units_from D d0 d1 d2 F (suc u) a ++ units_from D d0 d1 d2 F k b) on)
    ∙ sym (append_assoc (unit_bits D d0 d1 d2 F u) (units_from D d0 d1 d2 F (suc u) a) (units_from D d0 d1 d2 F (u + suc a) b))

module _ {R most from to : ℕ} (n : ℕ) {room : ℕ} (low : from ≤ 32) (high : 32 ≤ to) (h : Holds R most (n + (unit_start R to - unit_start R from)) room) where
  pub columns_room : Holds R most (n + (unit_start R 32 - unit_start R from)) room
  columns_room = record { fits = λ g. omega (arith, h.fits g, starts_rise R from 32 low, starts_rise R 32 to high) }

  pub pairs_room : {m k : ℕ} → m ≤ n + (unit_start R 32 - unit_start R from) → k ≡ room → Holds R most (m + (unit_start R to - unit_start R 32)) k
  pairs_room p e = rw e record { fits = λ g. omega (arith, h.fits g, p, starts_rise R from 32 low, starts_rise R 32 to high) }

pub columns_pairs : (D : ℕ) (d0 d1 d2 : List ℕ) (F from to : ℕ) {most n m r : ℕ} {ring₀ ring₁ ring₂ : List ℕ} → from ≤ 32 → 32 ≤ to
    → PutTo most (units_from D d0 d1 d2 F from (32 - from)) (unit_start (rows D) 32 - unit_start (rows D) from) ring₀ n ring₁ m
    → PutTo most (units_from D d0 d1 d2 F 32 (to - 32)) (unit_start (rows D) to - unit_start (rows D) 32) ring₁ m ring₂ r
    → PutTo most (units_from D d0 d1 d2 F from (to - from)) (unit_start (rows D) to - unit_start (rows D) from) ring₀ n ring₂ r
columns_pairs D d0 d1 d2 F from to {most} {n} {r = r} {ring₀} {ring₂ = ring₂} low high p q =
    subst (λ (k : ℕ). PutTo most (units_from D d0 d1 d2 F from (to - from)) k ring₀ n ring₂ r) sizes
    (subst (λ (l : List ℕ). PutTo most l (unit_start (rows D) 32 - unit_start (rows D) from + (unit_start (rows D) to - unit_start (rows D) 32)) ring₀ n ring₂ r) bits (put_to_join p q))
  where
    sizes : unit_start (rows D) 32 - unit_start (rows D) from + (unit_start (rows D) to - unit_start (rows D) 32) ≡ unit_start (rows D) to - unit_start (rows D) from
    sizes = omega (arith, starts_rise (rows D) from 32 low, starts_rise (rows D) 32 to high)

    bits : units_from D d0 d1 d2 F from (32 - from) ++ units_from D d0 d1 d2 F 32 (to - 32) ≡ units_from D d0 d1 d2 F from (to - from)
    bits =
        let count : 32 - from + (to - 32) ≡ to - from = omega arith in
        let on : from + (32 - from) ≡ 32 = omega arith in
        ap (λ (k : ℕ). units_from D d0 d1 d2 F from (32 - from) ++ units_from D d0 d1 d2 F k (to - 32)) (sym on)
        ∙ sym (units_split D d0 d1 d2 F from (32 - from) (to - 32))
        ∙ ap (units_from D d0 d1 d2 F from) count

-- the units from the start on are put, then those before it
module _ {most size₁ size₂ : ℕ} {xs ys ring₀ ring₁ ring₂ : List ℕ} {n r : ℕ} (p : PutTo most xs size₁ ring₀ 0 ring₁ n) (q : PutTo most ys size₂ ring₁ n ring₂ r) where
  both_told : take most (take r ring₂) ≡ take most (xs ++ ys)
  both_told = (put_to_join p q).told

  pub ring_turn : tab most (turn_after_turn (take r ring₂)) ≡ tab most (turn_after_turn (xs ++ ys))
  ring_turn = sym (cut_ring most (take r ring₂)) ∙ ap (λ (l : List ℕ). tab most (turn_after_turn l)) both_told ∙ cut_ring most (xs ++ ys)

  pub ring_some : 0 < most → 0 < length (xs ++ ys) → 0 < r
  ring_some h l = ⊎_elim (λ z. absurd (none z)) (λ p. p) (eq-zero-or-pos r)
    where
      none : r ≡ 0 → ⊥
      none z = omega (arith, ap length both_told, length-take most (take r ring₂), length-take r ring₂, length-take most (xs ++ ys))
