-- A loop that writes f i at place i: one entry more, and what an array of zeros holds when the first m entries are written.
-- Assumes nothing.
use mathlib.Core.Path.{◌≡◌, sym, ◌∙◌, ap}
use mathlib.Core.List.{List, ◌∷◌, ◌++◌}
use Prim.Native.Nat.{ℕ, zero, suc, ◌+◌, ◌-◌, ◌≤◌, ◌<◌}
use native.Mathlib.Nat.{sub-zero, zero-sub, suc-sub-suc}
use native.Mathlib.Omega.{arith}
use lib.ListN.{length, get_or, drop, set, replicate, get_or-append}
use Rattle.laws.specs.Lists.{tab, tab_from}
use Rattle.laws.proofs.Tab.{length_tab, get_or_tab, rest_more, rest_none}
use Rattle.laws.proofs.Writing.{Writing, same, push, finish}

pub entry_next : {out₀ out total : List ℕ} {i v : ℕ} (m : ℕ) (f : ℕ → ℕ) → i < m → i < length out → v ≡ f i
    → Writing out₀ out i (tab_from i (m - i) f) total → Writing out₀ (set out i v) (i + 1) (tab_from (i + 1) (m - (i + 1)) f) total
entry_next {i = i} {v = v} m f h l e w =
    push l (same (rest_more i m f h ∙ ap (λ (b : ℕ). b ∷ tab_from (i + 1) (m - (i + 1)) f) (sym e)) w)

drop_zeros : (k n : ℕ) → drop k (replicate {A = ℕ} n 0) ≡ replicate {A = ℕ} (n - k) 0
drop_zeros zero n = ap (λ (j : ℕ). replicate {A = ℕ} j 0) (sym (sub-zero n))
drop_zeros (suc k) zero = ap (λ (j : ℕ). replicate {A = ℕ} j 0) (sym (zero-sub (suc k)))
drop_zeros (suc k) (suc n) = drop_zeros k n ∙ ap (λ (j : ℕ). replicate {A = ℕ} j 0) (sym (suc-sub-suc n k))

pub entries_kept : {out : List ℕ} {i : ℕ} (n m : ℕ) (f : ℕ → ℕ) → m ≤ i → i ≤ m
    → Writing (replicate {A = ℕ} n 0) out i (tab_from i (m - i) f) (tab m f) → out ≡ tab m f ++ replicate {A = ℕ} (n - m) 0
entries_kept {i = i} n m f h l w =
    finish (rest_none i m f h) w
    ∙ ap (λ (r : List ℕ). tab m f ++ r) (ap (λ (k : ℕ). drop k (replicate {A = ℕ} n 0)) all ∙ drop_zeros m n)
  where
    all : i ≡ m
    all = omega arith

-- an entry that is kept
pub kept : (f : ℕ → ℕ) (n m p : ℕ) → p < n → get_or (tab n f ++ replicate {A = ℕ} m 0) p 0 ≡ f p
kept f n m p h = get_or-append (tab n f) (replicate {A = ℕ} m 0) 0 p (rw (length_tab n f) h) ∙ get_or_tab n f p 0 h
