-- The control bits written turn after turn, each turn a copy of the coded block or, at the end, of its front.
-- Assumes nothing.
use mathlib.Core.Path.{◌≡◌, refl, sym, ◌∙◌, ap}
use mathlib.Core.List.{List, ◌++◌}
use Prim.Native.Nat.{ℕ, ◌+◌, ◌-◌, ◌%◌, ◌≤◌, ◌<◌}
use native.Mathlib.Omega.{arith}
use lib.ListN.{length, take}
use lib.Seq.{length-take-le}
use borrow.Rule.Slice.PartMut.{put_mid}
use Rattle.laws.specs.Lists.{tab_from}
use Rattle.laws.proofs.Tab.{tab_from_split, tab_rest, rest_none}
use Rattle.laws.proofs.Writing as writing
use Rattle.report_code.specs.Code.{circular, repeated}
use Rattle.report_code.proofs.Folding.{turn_is}

-- the first `at` control bits of the block b are written
pub record Repeating (b out₀ out : List ℕ) (at : ℕ) : Type 0 where
  pub block_long : length b ≡ 32
  pub within : at ≤ length out₀
  pub whole : at < length out₀ → at % 32 ≡ 0
  pub written : writing.Writing out₀ out at (tab_from at (length out₀ - at) (circular b)) (repeated b (length out₀))

pub start : {b out : List ℕ} → length b ≡ 32 → Repeating b out out 0
unfolding repeated
start {b} {out} l = record { block_long = l; within = omega arith; whole = λ h. refl; written = writing.same (sym (tab_rest (length out) (circular b))) writing.start }

module _ {b out₀ out : List ℕ} {at end : ℕ} (w : Repeating b out₀ out at) (more : at < length out) (forth : at < end) (fits : end ≤ length out)
    (turn_fits : end ≤ at + 32) (turn_full : end < length out → end ≡ at + 32) where
  pub next : {bits part : List ℕ} → bits ≡ b
      → part ≡ take (end - at) bits
      → Repeating b out₀ (put_mid at (end - at) out part) end
  next {bits} {part} e said = record {
    block_long = w.block_long;
    within = omega (arith, w.written.long);
    whole = λ h. let z : at % 32 ≡ 0 = w.whole (omega (arith, w.written.long)) in omega (arith, turn_full (omega (arith, w.written.long)));
    written = writing.push_part copied (omega arith) fits (ap length copied ∙ length-take-le (end - at) b (omega (arith, w.block_long))) (writing.same one_turn_lem w.written);
  }
    where
      copied : part ≡ take (end - at) b
      copied = said ∙ ap (take (end - at)) e

      sum : length out₀ - at ≡ end - at + (length out₀ - end)
      sum = omega (arith, w.written.long)

      place : at + (end - at) ≡ end
      place = omega arith

      one_turn_lem : tab_from at (length out₀ - at) (circular b) ≡ take (end - at) b ++ tab_from end (length out₀ - end) (circular b)
      one_turn_lem =
          ap (λ (n : ℕ). tab_from at n (circular b)) sum
          ∙ tab_from_split at (end - at) (length out₀ - end) (circular b)
          ∙ ap (λ (l : List ℕ). l ++ tab_from (at + (end - at)) (length out₀ - end) (circular b))
          (turn_is b at (end - at) w.block_long (w.whole (omega (arith, w.written.long))) (omega arith))
          ∙ ap (λ (n : ℕ). take (end - at) b ++ tab_from n (length out₀ - end) (circular b)) place

pub finish : {b out₀ out : List ℕ} {at : ℕ} → Repeating b out₀ out at → length out ≤ at → out ≡ repeated b (length out₀)
finish {b} {out₀} {out} {at} w h =
    writing.finish_all h (rest_none at (length out₀) (circular b) (omega (arith, w.written.long))) w.written
