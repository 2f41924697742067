-- A list sent turn after turn, clause 5.1.4.1.2: where a turn begins, the list comes from its begin on.
-- Assumes nothing.
use mathlib.Core.Path.{◌≡◌, sym, ◌∙◌, ap}
use mathlib.Core.List.{List, ◌++◌}
use Prim.Native.Nat.{ℕ, ◌+◌, ◌-◌, ◌%◌, ◌≤◌, ◌<◌}
use native.Mathlib.Nat.{zero-add, mod-eq_of_lt, mod-add-mod}
use native.Mathlib.Omega.{arith}
use lib.ListN.{length, get_or, take}
use lib.Seq.{ext_get_or, length-take-le, take-length, get_or-take}
use Rattle.laws.specs.Lists.{tab_from}
use Rattle.laws.proofs.Tab.{length_tab_from, get_or_tab_from, tab_from_split}
use Rattle.rate_matching.specs.Walk.{turn_after_turn}

module _ (ring : List ℕ) (i : ℕ) (some : 0 < length ring) (whole : i % length ring ≡ 0) where
  -- from a turn's begin on, the ring from its begin on
  pub turn_front : (m : ℕ) → m ≤ length ring → tab_from i m (turn_after_turn ring) ≡ take m ring
  unfolding turn_after_turn
  turn_front m h = ext_get_or 0 (tab_from i m (turn_after_turn ring)) (take m ring) (length_tab_from i m (turn_after_turn ring) ∙ sym (length-take-le m ring h)) each
    where
      within : (k : ℕ) → k < m → (i + k) % length ring ≡ k
      within k l =
          sym (mod-add-mod i (length ring) k)
          ∙ ap (λ (r : ℕ). (r + k) % length ring) whole
          ∙ ap (λ (r : ℕ). r % length ring) (zero-add k)
          ∙ mod-eq_of_lt (omega arith)

      each : (k : ℕ) → k < length (tab_from i m (turn_after_turn ring)) → get_or (tab_from i m (turn_after_turn ring)) k 0 ≡ get_or (take m ring) k 0
      each k l =
          let b : k < m = omega (arith, length_tab_from i m (turn_after_turn ring)) in
          get_or_tab_from i m (turn_after_turn ring) k 0 b ∙ ap (λ (j : ℕ). get_or ring j 0) (within k b) ∙ sym (get_or-take m ring k 0 b)

  -- one turn more
  pub turn_next : (E : ℕ) → i + length ring ≤ E
      → tab_from i (E - i) (turn_after_turn ring) ≡ ring ++ tab_from (i + length ring) (E - (i + length ring)) (turn_after_turn ring)
  turn_next E h =
      ap (λ (k : ℕ). tab_from i k (turn_after_turn ring)) sum
      ∙ tab_from_split i (length ring) (E - (i + length ring)) (turn_after_turn ring)
      ∙ ap (λ (l : List ℕ). l ++ tab_from (i + length ring) (E - (i + length ring)) (turn_after_turn ring)) (turn_front (length ring) (omega arith) ∙ take-length ring)
    where
      sum : E - i ≡ length ring + (E - (i + length ring))
      sum = omega arith
