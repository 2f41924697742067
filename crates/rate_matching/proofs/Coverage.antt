-- Which places E bits from any start are sure to take, clause 5.1.4.1.2: they pass at least E places, and each of these that holds a bit is taken.
-- From that, the places of a version's first 24·R, a quarter of the circle. And as many bits as a turn has take every place that holds one.
-- Assumes nothing.
use mathlib.Core.Path.{◌≡◌, ◌∙◌, ap}
use mathlib.Core.Bool.{true}
use mathlib.Core.List.{List}
use Prim.Native.Nat.{ℕ, ◌+◌, ◌-◌, ◌*◌, ◌/◌, ◌%◌, ◌≤◌, ◌<◌}
use native.Mathlib.Nat.{mod-lt, mod-eq_of_lt, add-mod-mod, div-add-mod', div-lt_iff_lt-mul}
use native.Mathlib.Decide.{dec_lt}
use native.Mathlib.Omega.{arith}
use lib.ListN.{length, get_or}
use Rattle.laws.proofs.Tab.{length_tab, get_or_tab}
use Rattle.rate_matching.specs.Circle.{start_of}
use Rattle.rate_matching.specs.Walk.{holds_bit, round, turn, turn_after_turn, sent_places, Among}
use Rattle.rate_matching.proofs.Places.{once_round}
use Rattle.rate_matching.proofs.Circle.{start_is}
use Rattle.rate_matching.proofs.Kept.{Within, keep_finds}
use Rattle.rate_matching.proofs.Walk.{passed, length_round, round_at, turn_finds}

-- ---- any circle, any start

module _ (w : List ℕ) (k0 : ℕ) (h : k0 < length w) where
  -- the places of the first turn come first
  first_turn : (E k : ℕ) → k < E → k < length (turn w k0) → get_or (sent_places w k0 E) k 0 ≡ get_or (turn w k0) k 0
  unfolding sent_places turn_after_turn
  first_turn E k l m = get_or_tab E (turn_after_turn (turn w k0)) k 0 l ∙ ap (λ (n : ℕ). get_or (turn w k0) n 0) (mod-eq_of_lt m)

  sent_early : (E : ℕ) {j : ℕ} (f : Among j (turn w k0)) → f.0 < E → Among j (sent_places w k0 E)
  unfolding sent_places
  sent_early E f l = (f.0, rw (length_tab E (turn_after_turn (turn w k0))) l, first_turn E f.0 l f.1 ∙ f.2)

  -- a place that holds a bit and lies i places on from the start is in the turn, at index i or before
  turn_within : (i : ℕ) → i < length w → holds_bit w (passed (length w) k0 i) ≡ true → Within (passed (length w) k0 i) i (turn w k0)
  unfolding turn
  turn_within i l t =
      let e : get_or (round (length w) k0) i 0 ≡ passed (length w) k0 i = round_at (length w) k0 h i l in
      rw e at (keep_finds (holds_bit w) (round (length w) k0) i (rw (length_round (length w) k0 h) l) (rw e t))

  -- so more than i bits take it
  pub passed_sent : (E i : ℕ) → i < length w → i < E → holds_bit w (passed (length w) k0 i) ≡ true → Among (passed (length w) k0 i) (sent_places w k0 E)
  passed_sent E i l m t = let f = turn_within i l t in sent_early E f.0 (omega (arith, f.1))

  -- as many bits as a turn has take every place that holds a bit
  pub turn_sent : (E : ℕ) → length (turn w k0) ≤ E → (j : ℕ) → j < length w → holds_bit w j ≡ true → Among j (sent_places w k0 E)
  turn_sent E m j l t = let f = turn_finds w k0 h j l t in sent_early E f (omega (arith, f.1))

-- ---- the quarters of the circle: 24·R places from each version's start

-- how far circle place j lies from the start of version 0
abbrev pub far_of : ℕ → ℕ → ℕ
far_of R j = (j + 94 * R) % (96 * R)

-- the version in whose quarter it lies
unfoldable pub quarter_of : ℕ → ℕ → ℕ
quarter_of R j = far_of R j / (24 * R)

-- and how far from that version's start
abbrev pub into_of : ℕ → ℕ → ℕ
into_of R j = far_of R j % (24 * R)

module _ (R : ℕ) (pos : 0 < R) (j : ℕ) (on : j < 96 * R) where
  pub into_lt : into_of R j < 24 * R
  into_lt = mod-lt (far_of R j) (omega arith)

  pub quarter_lt : quarter_of R j < 4
  unfolding quarter_of
  quarter_lt =
      let far : far_of R j < 96 * R = mod-lt (j + 94 * R) (omega arith) in
      (div-lt_iff_lt-mul {k = 24 * R} {x = far_of R j} (omega arith)).1 (omega arith)

  parts : quarter_of R j * (24 * R) + into_of R j ≡ far_of R j
  unfolding quarter_of
  parts = div-add-mod' (far_of R j) (24 * R)

  -- the walk of that version passes j after so many places
  pub quarter_passes : passed (96 * R) (start_of R (quarter_of R j)) (into_of R j) ≡ j
  quarter_passes =
      let there : R * (24 * quarter_of R j + 2) + into_of R j ≡ 2 * R + far_of R j = omega (arith, parts) in
      ap (λ (k : ℕ). (k + into_of R j) % (96 * R)) (start_is R (quarter_of R j) pos)
      ∙ ap (λ (k : ℕ). k % (96 * R)) there
      ∙ add-mod-mod (2 * R) (j + 94 * R) (96 * R)
      ∙ once_round (96 * R) j (2 * R + (j + 94 * R)) on (omega arith)

  -- stream 0, the first third of the circle, has no place in the quarter of version 2
  pub never_2 : j < 32 * R → quarter_of R j ≡ 2 → ⊥
  never_2 l e =
      let two : 2 * (24 * R) + into_of R j ≡ far_of R j = rw e at parts in
      elim (dec_lt j (2 * R)) [
        | yes s ↦ let f : far_of R j ≡ j + 94 * R = mod-eq_of_lt (omega arith) in omega (arith, into_lt)
        | no s ↦ let f : far_of R j ≡ j - 2 * R = once_round (96 * R) (j - 2 * R) (j + 94 * R) (omega arith) (omega arith) in omega (arith, into_lt)
      ]
