-- A loop that fills a slice by a rule on the index: the entries from place i on are still to come.
-- Assumes nothing.
use mathlib.Core.Path.{◌≡◌, sym, ◌∙◌, ap}
use mathlib.Core.List.{List, ◌∷◌, ◌++◌}
use Prim.Native.Nat.{ℕ, ◌+◌, ◌-◌, ◌≤◌, ◌<◌}
use native.Mathlib.Nat.{add-zero}
use native.Mathlib.Omega.{arith}
use lib.ListN.{length, set}
use borrow.Rule.Slice.PartMut.{put_mid}
use Rattle.laws.specs.Lists.{tab, tab_from}
use Rattle.laws.proofs.Writing as W
use Rattle.laws.proofs.Writing.{Writing}
use Rattle.laws.proofs.Tab.{tab_rest, rest_more, rest_none, tab_from_split, tab_from_shift}

-- out₀ has become out, of which i entries of the n by the rule f are written
pub record Filling (n : ℕ) (f : ℕ → ℕ) (out₀ out : List ℕ) (i : ℕ) : Type 0 where
  pub room : length out₀ ≡ n
  pub writing : Writing out₀ out i (tab_from i (n - i) f) (tab n f)

module _ {n : ℕ} {f : ℕ → ℕ} where
  pub start : {out : List ℕ} → length out ≡ n → Filling n f out out 0
  start e = record { room = e; writing = W.same (sym (tab_rest n f)) W.start }

  -- one entry more
  pub next : {out₀ out : List ℕ} {i x : ℕ} → i < n → x ≡ f i → Filling n f out₀ out i → Filling n f out₀ (set out i x) (i + 1)
  next {i = i} {x = x} h s w = record { room = w.room; writing = W.push (omega (arith, w.writing.long, w.room)) (W.same one w.writing) }
    where
      one : tab_from i (n - i) f ≡ x ∷ tab_from (i + 1) (n - (i + 1)) f
      one = rw s (rest_more i n f h)

  -- a part more, from i to e
  pub next_part : {out₀ out part : List ℕ} {i e : ℕ} → i ≤ e → e ≤ n → length part ≡ e - i → part ≡ tab (e - i) (λ (k : ℕ). f (i + k))
      → Filling n f out₀ out i → Filling n f out₀ (put_mid i (e - i) out part) e
  unfolding tab
  next_part {i = i} {e = e} h l count s w = record { room = w.room; writing = W.push_part s h (omega (arith, w.writing.long, w.room)) count (W.same many w.writing) }
    where
      more : n - i ≡ e - i + (n - e)
      more = omega arith

      ends : i + (e - i) ≡ e
      ends = omega arith

      first : tab_from i (e - i) f ≡ tab (e - i) (λ (k : ℕ). f (i + k))
      first = ap (λ (j : ℕ). tab_from j (e - i) f) (sym (add-zero i)) ∙ tab_from_shift i 0 (e - i) f

      many : tab_from i (n - i) f ≡ tab (e - i) (λ (k : ℕ). f (i + k)) ++ tab_from e (n - e) f
      many =
          ap (λ (m : ℕ). tab_from i m f) more
          ∙ tab_from_split i (e - i) (n - e) f
          ∙ ap (λ (j : ℕ). tab_from i (e - i) f ++ tab_from j (n - e) f) ends
          ∙ ap (λ (l : List ℕ). l ++ tab_from e (n - e) f) first

  -- the place said in another way
  pub moved : {out₀ out : List ℕ} {i j : ℕ} → i ≡ j → Filling n f out₀ out i → Filling n f out₀ out j
  moved e w = rw e at w

  pub finish : {out₀ out : List ℕ} {i : ℕ} → n ≤ i → Filling n f out₀ out i → out ≡ tab n f
  finish {i = i} h w = W.finish_all (omega (arith, w.writing.long, w.room)) (rest_none i n f h) w.writing
