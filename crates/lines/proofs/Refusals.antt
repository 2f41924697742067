-- Laws of the row of a refusal: how its bytes are put, and the room that it takes.
-- Assumes nothing.
use mathlib.Core.Path.{◌≡◌, sym}
use mathlib.Core.List.{List, [], ◌∷◌, ◌++◌, append-nil}
use Prim.Native.Nat.{ℕ, ◌+◌, ◌^◌, ◌≤◌, ◌<◌}
use native.Mathlib.Omega.{arith}
use lib.ListN.{length, take}
use Rattle.laws.proofs.Writing.{Writing, start_at, same}
use Rattle.lines.specs.Put.{put_over, put_at, end_at}
use Rattle.lines.specs.Row.{tab, newline, decimal_of, end_of, row_of, refused}
use Rattle.lines.proofs.Decimal.{decimal_length}
use Rattle.lines.proofs.Putting.{wrote, put, looked, over_room, all_put}

-- what follows the first field
abbrev pub refusal : ℕ → List ℕ
refusal n = tab ∷ row_of (refused ∷ decimal_of n ∷ [])

-- `refused` between tabs
abbrev pub word : List ℕ
word = tab ∷ refused ++ (tab ∷ [])

-- the three runs of bytes are put one after another
pub refusal_put : (at n : ℕ) (out₀ : List ℕ) {out₁ out₂ out₃ : List ℕ} {i j r : ℕ} → n < 2 ^ 64 → at + 30 ≤ length out₀
    → (i ≡ end_at at word out₀) × (out₁ ≡ put_at at word out₀)
    → (j ≡ end_at i (decimal_of n) out₁) × (out₂ ≡ put_at i (decimal_of n) out₁)
    → (r ≡ end_at j (newline ∷ []) out₂) × (out₃ ≡ put_at j (newline ∷ []) out₂)
    → (r ≡ at + length (refusal n)) × (out₃ ≡ put_over at (refusal n) out₀)
unfolding row_of end_of
refusal_put at n out₀ {out₁} {out₂} {out₃} {i} {j} {r} small h e f g = all_put (refusal n) (omega arith) (omega (arith, (looked j (newline ∷ []) out₂ third g).0, third, w₃.long, w₂.long)) w₃
  where
    first : at + length word ≤ length out₀
    first = omega arith

    w₁ : Writing out₀ out₁ i (decimal_of n ++ (newline ∷ [])) (take at out₀ ++ refusal n)
    w₁ = put word first (start_at at) e

    second : i + length (decimal_of n) < length out₁
    second = omega (arith, (looked at word out₀ first e).0, decimal_length n small, w₁.long, h)

    w₂ : Writing out₀ out₂ j (newline ∷ []) (take at out₀ ++ refusal n)
    w₂ = put (decimal_of n) (omega (arith, second)) w₁ f

    third : j + 1 ≤ length out₂
    third = omega (arith, (looked i (decimal_of n) out₁ (omega (arith, second)) f).0, second, w₁.long, w₂.long)

    w₃ : Writing out₀ out₃ r [] (take at out₀ ++ refusal n)
    w₃ = put (newline ∷ []) third w₂ g

-- the first field is put, then the rest of the row
pub row_put : (at : ℕ) (first : List ℕ) (n : ℕ) (out₀ : List ℕ) {out out' : List ℕ} {i r : ℕ} → at + length first ≤ length out₀
    → (i ≡ end_at at first out₀) × (out ≡ put_at at first out₀) → (r ≡ i + length (refusal n)) × (out' ≡ put_over i (refusal n) out) → length out' ≡ length out
    → (r ≡ at + length (row_of (first ∷ refused ∷ decimal_of n ∷ []))) × (out' ≡ put_over at (row_of (first ∷ refused ∷ decimal_of n ∷ [])) out₀)
unfolding row_of end_of
row_put at first n out₀ {out} {out'} {i} {r} h e f k = all_put (first ++ refusal n) (omega arith) (omega (arith, f.0, room, k)) put_both
  where
    put_first_lem : Writing out₀ out i (refusal n) (take at out₀ ++ (first ++ refusal n))
    put_first_lem = put first h (start_at at) e

    room : i + length (refusal n) ≤ length out
    room = over_room i (refusal n) out (omega (arith, h, (looked at first out₀ h e).0, put_first_lem.long)) f.1 k

    put_both : Writing out₀ out' r [] (take at out₀ ++ (first ++ refusal n))
    put_both = wrote (refusal n) room (same (sym (append-nil (refusal n))) put_first_lem) f
