-- The circle as a list, clause 5.1.4.1.2: its length, what it holds at each place, and the start of each redundancy version.
-- Assumes nothing.
use mathlib.Core.Path.{◌≡◌, refl, sym, ◌∙◌, ap, subst}
use mathlib.Core.Bool.{Bool, true, false}
use mathlib.Core.List.{List, [], ◌∷◌}
use Prim.Native.Nat.{ℕ, zero, suc, ◌+◌, ◌-◌, ◌*◌, ◌/◌, ◌%◌, ◌≤◌, ◌<◌}
use native.Mathlib.Nat.{suc-add, div-eq_of_lt-le, div-add-mod', mod-lt, mul-le-mul_left}
use native.Mathlib.Decide.{dec_lt}
use native.Mathlib.Omega.{arith}
use lib.Dec.{ltb, eqb}
use lib.ListN.{length, get_or, replicate, length-append, length-replicate, get_or-replicate, get_or-append}
use lib.Seq.{get_or-append-add}
use borrow.Author.Tests.{ltb-true, ltb-false}
use Rattle.laws.specs.Lists.{tab}
use Rattle.laws.proofs.Tab.{length_tab, get_or_tab}
use Rattle.turbo.specs.Streams.{NULL}
use Rattle.rate_matching.specs.SubBlocks.{rows, dummies, padded, y_at, plain, shifted}
use Rattle.rate_matching.specs.Circle.{by_turns, circle, circle_length, Cut, start_in, start_of}
use Rattle.rate_matching.specs.Walk.{on_circle}
use Rattle.rate_matching.specs.Places.{held_y, held_at, stream_of, entry_of}
use Rattle.rate_matching.proofs.Places.{read_by, at, by_stream, held_at_lem, held_y_dummy, held_y_bit}

-- ---- two lists by turns

twice : (k : ℕ) → 2 * suc k ≡ suc (suc (2 * k))
twice k = omega arith

pub length_by_turns : (xs ys : List ℕ) → length xs ≡ length ys → length (by_turns xs ys) ≡ 2 * length xs
unfolding by_turns
length_by_turns [] ys e = refl
length_by_turns (x ∷ xs) [] e = absurd (omega arith)
length_by_turns (x ∷ xs) (y ∷ ys) e = omega (arith, length_by_turns xs ys (omega arith))

pub by_turns_first : (xs ys : List ℕ) → length xs ≡ length ys → (k : ℕ) → get_or (by_turns xs ys) (2 * k) 0 ≡ get_or xs k 0
unfolding by_turns
by_turns_first [] ys e k = refl
by_turns_first (x ∷ xs) [] e k = absurd (omega arith)
by_turns_first (x ∷ xs) (y ∷ ys) e zero = refl
by_turns_first (x ∷ xs) (y ∷ ys) e (suc k) = rw (twice k) (by_turns_first xs ys (omega arith) k)

pub by_turns_second : (xs ys : List ℕ) → length xs ≡ length ys → (k : ℕ) → get_or (by_turns xs ys) (2 * k + 1) 0 ≡ get_or ys k 0
unfolding by_turns
by_turns_second [] [] e k = refl
by_turns_second [] (y ∷ ys) e k = absurd (omega arith)
by_turns_second (x ∷ xs) [] e k = absurd (omega arith)
by_turns_second (x ∷ xs) (y ∷ ys) e zero = refl
by_turns_second (x ∷ xs) (y ∷ ys) e (suc k) = rw (twice k, suc-add, suc-add) (by_turns_second xs ys (omega arith) k)

-- ---- a stream of D places: its y places, and what comes out of its interleaver, plain or shifted

abbrev out_by : Bool → List ℕ → List ℕ
out_by b d = tab (32 * rows (length d)) (y_at (read_by b) d)

module _ (D : ℕ) (d : List ℕ) (l : length d ≡ D) where
  length_out : (b : Bool) → length (out_by b d) ≡ 32 * rows D
  length_out b = length_tab (32 * rows (length d)) (y_at (read_by b) d) ∙ ap (λ (n : ℕ). 32 * rows n) l

  out_at : (b : Bool) (x : ℕ) → x < 32 * rows D → get_or (out_by b d) x 0 ≡ get_or (padded d) (read_by b (rows D) x) 0
  unfolding y_at
  out_at b x h =
      get_or_tab (32 * rows (length d)) (y_at (read_by b) d) x 0 (rw l h)
      ∙ ap (λ (n : ℕ). get_or (padded d) (read_by b (rows n) x) 0) l

  dummies_long : length (replicate {A = ℕ} (dummies (length d)) NULL) ≡ dummies D
  dummies_long = length-replicate {A = ℕ} (dummies (length d)) NULL ∙ ap dummies l

  pub padded_dummy : (y : ℕ) → y < dummies D → get_or (padded d) y 0 ≡ NULL
  unfolding padded
  padded_dummy y h =
      get_or-append (replicate {A = ℕ} (dummies (length d)) NULL) d 0 y (rw dummies_long h)
      ∙ get_or-replicate {A = ℕ} (dummies (length d)) y NULL 0 (rw l h)

  pub padded_bit : (i : ℕ) → get_or (padded d) (dummies D + i) 0 ≡ get_or d i 0
  unfolding padded
  padded_bit i =
      ap (λ (n : ℕ). get_or (padded d) (n + i) 0) (sym dummies_long)
      ∙ get_or-append-add (replicate {A = ℕ} (dummies (length d)) NULL) d i 0

module _ (D : ℕ) (d0 d1 d2 : List ℕ) (l0 : length d0 ≡ D) (l1 : length d1 ≡ D) (l2 : length d2 ≡ D) where
  as_long : length (plain d1) ≡ length (shifted d2)
  unfolding plain shifted
  as_long = length_out D d1 l1 false ∙ sym (length_out D d2 l2 true)

  pub length_circle : length (circle d0 d1 d2) ≡ circle_length (rows D)
  unfolding circle plain shifted circle_length
  length_circle =
      simp (length-append, length_by_turns (plain d1) (shifted d2) as_long, length_out D d0 l0 false, length_out D d1 l1 false)
      (omega arith)

  length_stream : (s : ℕ) → length (stream_of d0 d1 d2 s) ≡ D
  unfolding stream_of
  length_stream zero = l0
  length_stream (suc zero) = l1
  length_stream (suc (suc s)) = l2

  past_first : (q : ℕ) → on_circle (circle d0 d1 d2) (32 * rows D + q) ≡ get_or (by_turns (plain d1) (shifted d2)) q 0
  unfolding circle plain on_circle
  past_first q =
      ap (λ (n : ℕ). get_or (circle d0 d1 d2) (n + q) 0) (sym (length_out D d0 l0 false))
      ∙ get_or-append-add (plain d0) (by_turns (plain d1) (shifted d2)) q 0

  pub circle_at_lem : (s x : ℕ) → s < 3 → x < 32 * rows D
      → on_circle (circle d0 d1 d2) (at (rows D) s x) ≡ get_or (padded (stream_of d0 d1 d2 s)) (read_by (eqb s 2) (rows D) x) 0
  unfolding circle plain shifted on_circle stream_of
  circle_at_lem zero x u h =
      get_or-append (plain d0) (by_turns (plain d1) (shifted d2)) 0 x (rw (length_out D d0 l0 false) h) ∙ out_at D d0 l0 false x h
  circle_at_lem (suc zero) x u h = past_first (2 * x) ∙ by_turns_first (plain d1) (shifted d2) as_long x ∙ out_at D d1 l1 false x h
  circle_at_lem (suc (suc zero)) x u h = past_first (2 * x + 1) ∙ by_turns_second (plain d1) (shifted d2) as_long x ∙ out_at D d2 l2 true x h
  circle_at_lem (suc (suc (suc s))) x u h = absurd (omega arith)

  y_entry : (s y : ℕ) → get_or (padded (stream_of d0 d1 d2 s)) y 0 ≡ entry_of d0 d1 d2 (held_y D s y)
  unfolding entry_of
  y_entry s y = go (ltb y (dummies D)) refl
    where
      go : (b : Bool) → ltb y (dummies D) ≡ b → get_or (padded (stream_of d0 d1 d2 s)) y 0 ≡ entry_of d0 d1 d2 (held_y D s y)
      go true t =
          let h : y < dummies D = ltb-true y (dummies D) t in
          rw (held_y_dummy D s y h) (padded_dummy D (stream_of d0 d1 d2 s) (length_stream s) y h)
      go false t =
          let e : y ≡ dummies D + (y - dummies D) = omega (arith, ltb-false y (dummies D) t) in
          subst (λ (n : ℕ). get_or (padded (stream_of d0 d1 d2 s)) n 0 ≡ entry_of d0 d1 d2 (held_y D s n)) (sym e)
          (rw (held_y_bit D s (y - dummies D)) (padded_bit D (stream_of d0 d1 d2 s) (length_stream s) (y - dummies D)))

  -- the list holds what the places say
  pub circle_holds : (j : ℕ) → j < circle_length (rows D) → on_circle (circle d0 d1 d2) j ≡ entry_of d0 d1 d2 (held_at D (record { 0 = j }))
  circle_holds j h =
      by_stream (rows D) (λ (n : ℕ). on_circle (circle d0 d1 d2) n ≡ entry_of d0 d1 d2 (held_at D (record { 0 = n })))
      (λ s x u l. circle_at_lem s x u l ∙ y_entry s (read_by (eqb s 2) (rows D) x) ∙ ap (entry_of d0 d1 d2) (sym (held_at_lem D s x u l)))
      j h

-- ---- the start, for any accepted N_cb

-- c = ⌈N_cb / 8R⌉
abbrev pub eighths : ℕ → ℕ → ℕ
eighths Ncb R = (Ncb + (8 * R - 1)) / (8 * R)

module _ {Ncb R : ℕ} (cut : Cut Ncb R) where
  times : (a b : ℕ) → a ≤ b → a * R ≤ b * R
  times a b h = omega (arith, mul-le-mul_left R h)

  -- c is 4 to 12, and N_cb is above 8R·(c − 1) and at most 8R·c
  pub record Eighths (c : ℕ) : Type 0 where
    pub above : 8 * (c * R) < Ncb + 8 * R
    pub within : Ncb ≤ 8 * (c * R)
    pub low : 4 ≤ c
    pub high : c ≤ 12

  pub eighths_told : Eighths (eighths Ncb R)
  unfolding circle_length
  eighths_told = record { above = above; within = within; low = low; high = high }
    where
      c : ℕ
      c = eighths Ncb R

      sum : c * (8 * R) + (Ncb + (8 * R - 1)) % (8 * R) ≡ Ncb + (8 * R - 1)
      sum = div-add-mod' (Ncb + (8 * R - 1)) (8 * R)

      rest : (Ncb + (8 * R - 1)) % (8 * R) < 8 * R
      rest = mod-lt (Ncb + (8 * R - 1)) (omega (arith, cut.some))

      above : 8 * (c * R) < Ncb + 8 * R
      above = omega (arith, sum, cut.some)

      within : Ncb ≤ 8 * (c * R)
      within = omega (arith, sum, rest)

      low : 4 ≤ c
      low = elim (dec_lt c 4) [
        | yes l ↦ absurd (omega (arith, within, cut.least, cut.some, times c 3 (omega arith)))
        | no l ↦ omega arith
      ]

      high : c ≤ 12
      high = elim (dec_lt 12 c) [
        | yes l ↦ absurd (omega (arith, above, cut.most, cut.some, times 13 c (omega arith)))
        | no l ↦ omega arith
      ]

  -- k0 is below N_cb
  pub start_below : (v : ℕ) → v ≤ 3 → start_in Ncb R v < Ncb
  unfolding start_in
  start_below v h = go (eighths Ncb R) eighths_told
    where
      go : (c : ℕ) → Eighths c → R * (2 * c * v + 2) < Ncb
      go c e =
          let most : R * (2 * c * v + 2) ≤ 6 * (c * R) + 2 * R = omega (arith, mul-le-mul_left (c * R) h) in
          elim (dec_lt c 5) [
            | yes l ↦ omega (arith, most, cut.some, cut.least, times c 4 (omega arith))
            | no l ↦ omega (arith, most, e.above, times 5 c (omega arith))
          ]

-- ---- the start of an uplink

pub eighths_all : (R : ℕ) → 0 < R → eighths (circle_length R) R ≡ 12
unfolding circle_length
eighths_all R h = div-eq_of_lt-le {k = 12} (8 * R) (omega arith) (omega arith)

-- k0 = R·(24·v + 2)
pub start_is : (R v : ℕ) → 0 < R → start_of R v ≡ R * (24 * v + 2)
unfolding start_of start_in
start_is R v h = ap (λ (n : ℕ). R * (2 * n * v + 2)) (eighths_all R h)

pub start_lt : (R v : ℕ) → 0 < R → v ≤ 3 → start_of R v < circle_length R
unfolding start_of circle_length
start_lt R v h l = start_below (record { some = h; least = omega arith; most = omega arith }) v l
