-- The law for a loop that fills a slice with f 0, f 1, .., one entry a turn.
-- In a loop over i: the invariant has `Tabbing f n l.initial.out l.out l.i`; `loop-i-init` is `start`, `loop-i-preserved` is `next`, `returns` is `finish`.
-- Assumes nothing.
use mathlib.Core.Path.{◌≡◌, sym, ◌∙◌, ap}
use mathlib.Core.List.{List, ◌∷◌}
use Prim.Native.Nat.{ℕ, ◌+◌, ◌-◌, ◌≤◌, ◌<◌}
use native.Mathlib.Omega.{arith}
use lib.ListN.{length, set}
use Rattle.laws.specs.Lists.{tab, tab_from}
use Rattle.laws.proofs.Tab.{tab_rest, rest_more, rest_none}
use Rattle.laws.proofs.Writing as writing
use Rattle.laws.proofs.Writing.{Writing}

-- out is out₀, of n entries, after i of them were written
pub record Tabbing (f : ℕ → ℕ) (n : ℕ) (out₀ out : List ℕ) (i : ℕ) : Type 0 where
  pub within : i ≤ n
  pub room : length out ≡ n
  pub told : Writing out₀ out i (tab_from i (n - i) f) (tab n f)

module _ {f : ℕ → ℕ} {n : ℕ} {out₀ : List ℕ} where
  pub start : length out₀ ≡ n → Tabbing f n out₀ out₀ 0
  start e = record { within = omega arith; room = e; told = writing.same (sym (tab_rest n f)) writing.start }

  pub next : {out : List ℕ} {i x : ℕ} → x ≡ f i → i < n → Tabbing f n out₀ out i → Tabbing f n out₀ (set out i x) (i + 1)
  next {out} {i} {x} e h w = record { within = omega arith; room = pushed.long ∙ sym w.told.long ∙ w.room; told = pushed }
    where
      pushed : Writing out₀ (set out i x) (i + 1) (tab_from (i + 1) (n - (i + 1)) f) (tab n f)
      pushed =
          writing.push (omega (arith, w.room))
          (writing.same (rest_more i n f h ∙ ap (λ (y : ℕ). y ∷ tab_from (i + 1) (n - (i + 1)) f) (sym e)) w.told)

  pub finish : {out : List ℕ} {i : ℕ} → n ≤ i → Tabbing f n out₀ out i → out ≡ tab n f
  finish {out} {i} h w = writing.finish_all (omega (arith, w.room)) (rest_none i n f h) w.told
