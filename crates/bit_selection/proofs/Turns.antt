-- Laws of the matcher's last stage: a ring copied turn after turn, one or many at once.
-- Assumes nothing.
use mathlib.Core.Path.{◌≡◌, refl, sym, ◌∙◌, ap}
use mathlib.Core.List.{List, [], ◌++◌, append-nil}
use Prim.Native.Nat.{ℕ, ◌+◌, ◌-◌, ◌*◌, ◌/◌, ◌%◌, ◌≤◌, ◌<◌}
use native.Mathlib.Nat.{zero-mul, mul-le-mul_right, mul-mod_left, mod-lt, mod-mod_of_dvd, dvd-mul_left, div-mul-le_self, div-add-mod'}
use native.Mathlib.Omega.{arith}
use lib.ListN.{length, get_or, take}
use lib.Seq.{length-take-le}
use borrow.Rule.Slice.PartMut.{put_mid}
use Rattle.laws.specs.Lists.{tab, tab_from}
use Rattle.laws.proofs.Tab.{length_tab, get_or_tab, tab_ext, tab_rest}
use Rattle.laws.proofs.Parts.{length_put}
use Rattle.laws.proofs.Writing.{Writing, start, same, push_part, finish_all}
use Rattle.rate_matching.specs.Walk.{turn_after_turn}
use Rattle.rate_matching.proofs.WholeTurns.{turn_front, turn_next}

-- so many turns are written
pub record Turning (ring out₀ out : List ℕ) (turn : ℕ) : Type 0 where
  pub wrote : Writing out₀ out (turn * length ring) (tab_from (turn * length ring) (length out₀ - turn * length ring) (turn_after_turn ring)) (tab (length out₀) (turn_after_turn ring))

-- a turn more ends in `out`
pub turn_within : (turn whole n long : ℕ) → whole ≡ long / n → turn < whole → turn * n + n ≤ long
turn_within turn whole n long e h = omega (arith, mul-le-mul_right n h, ap (λ (k : ℕ). k * n) e, div-mul-le_self long n)

module _ {ring out₀ : List ℕ} where
  pub turning_start : Turning ring out₀ out₀ 0
  turning_start = record { wrote = rw (zero-mul (length ring)) (same (sym (tab_rest (length out₀) (turn_after_turn ring))) start) }

  module _ {out : List ℕ} {turn : ℕ} (t : Turning ring out₀ out turn) where
    abbrev i : ℕ
    i = turn * length ring

    whole : turn * length ring % length ring ≡ 0
    whole = mul-mod_left turn (length ring)

    pub turning_next : {part : List ℕ} → 0 < length ring → i + length ring ≤ length out → part ≡ ring
        → Turning ring out₀ (put_mid i (i + length ring - i) out part) (turn + 1)
    turning_next some h s = record {
      wrote = rw more (push_part s (omega arith) h (omega (arith, ap length s)) (same (turn_next ring i some whole (length out₀) (omega (arith, t.wrote.long, h))) t.wrote));
    }
      where
        more : (turn + 1) * length ring ≡ i + length ring
        more = omega arith

    pub turning_last : {part : List ℕ} → 0 < length ring → i ≤ length out → length out - i < length ring → part ≡ take (length out - i) ring
        → put_mid i (length out - i) out part ≡ tab (length out₀) (turn_after_turn ring)
    turning_last {part} some h few s = finish_all full refl (push_part s (omega arith) (omega arith) fits (same future t.wrote))
      where
        fits : length part ≡ length out - i
        fits = omega (arith, ap length s, length-take-le (length out - i) ring (omega arith))

        full : length (put_mid i (length out - i) out part) ≤ length out
        full = omega (arith, length_put i (length out) out part (omega arith) fits)

        future : tab_from i (length out₀ - i) (turn_after_turn ring) ≡ take (length out - i) ring ++ []
        future =
            ap (λ (n : ℕ). tab_from i (n - i) (turn_after_turn ring)) (sym t.wrote.long)
            ∙ turn_front ring i some whole (length out - i) (omega arith)
            ∙ sym (append-nil (take (length out - i) ring))

-- ---- many turns at once

-- as many turns of L entries as fit into M
pub turns_fit : (M L : ℕ) → M / L * L ≤ M
turns_fit M L = div-mul-le_self M L

pub turns_some : (M L : ℕ) → 0 < L → L ≤ M → 0 < M / L * L
turns_some M L h l = omega (arith, div-add-mod' M L, mod-lt M h)

-- a list of whole turns, repeated, is the turn repeated
pub many_turns : (ring : List ℕ) (m E : ℕ) → 0 < m * length ring → tab E (turn_after_turn (tab (m * length ring) (turn_after_turn ring))) ≡ tab E (turn_after_turn ring)
unfolding turn_after_turn
many_turns ring m E h = tab_ext E (turn_after_turn (tab (m * length ring) (turn_after_turn ring))) (turn_after_turn ring) (λ k b.
    ap (λ (n : ℕ). get_or (tab (m * length ring) (turn_after_turn ring)) (k % n) 0) (length_tab (m * length ring) (turn_after_turn ring))
    ∙ get_or_tab (m * length ring) (turn_after_turn ring) (k % (m * length ring)) 0 (mod-lt k h)
    ∙ ap (λ (i : ℕ). get_or ring i 0) (mod-mod_of_dvd (length ring) k (dvd-mul_left (length ring) m)))
