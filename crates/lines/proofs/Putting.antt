-- Laws of bytes put into an output one run after another (`put_at`, `put_over`): where there is room for all of them, what was put is the whole.
-- `put` follows a call that looks for its room, `wrote` one that asks for it; `all_put` ends a row.
-- Assumes nothing.
use mathlib.Core.Path.{◌≡◌, refl, ◌∙◌, ap}
use mathlib.Core.Bool.{Bool, true, false, cond}
use mathlib.Core.List.{List, [], ◌++◌, append_assoc}
use Prim.Native.Nat.{ℕ, ◌+◌, ◌-◌, ◌≤◌, ◌<◌}
use native.Mathlib.Omega.{arith}
use lib.Dec.{leb}
use lib.ListN.{length, take, drop, length-append}
use lib.Seq.{length-take-le}
use borrow.Rule.Slice.PartMut.{put_mid}
use borrow.Author.Tests.{le-leb, lt-leb, leb-true}
use Rattle.laws.proofs.Writing.{Writing, push_part, finish, count}
use Rattle.laws.proofs.Parts.{put_is}
use Rattle.lines.specs.Put.{put_over, fits, put_at, end_at}

module _ (at : ℕ) (w out : List ℕ) where
  pub put_fits : at + length w ≤ length out → put_at at w out ≡ put_over at w out
  unfolding put_at fits
  put_fits h = simp (le-leb _ _ h)

  pub end_fits : at + length w ≤ length out → end_at at w out ≡ at + length w
  unfolding end_at fits
  end_fits h = simp (le-leb _ _ h)

  pub put_none : length out < at + length w → put_at at w out ≡ out
  unfolding put_at fits
  put_none h = simp (lt-leb _ _ h)

  pub end_none : length out < at + length w → end_at at w out ≡ at
  unfolding end_at fits
  end_none h = simp (lt-leb _ _ h)

-- a put ends within the output
pub end_within : (at : ℕ) (w out : List ℕ) → at ≤ length out → end_at at w out ≤ length out
unfolding end_at fits
end_within at w out h = go (leb (at + length w) (length out)) refl
  where
    go : (b : Bool) → leb (at + length w) (length out) ≡ b → cond b (at + length w) at ≤ length out
    go true e = leb-true _ _ e
    go false e = h

-- a call that asks for its room has put w
pub wrote : {out₀ out out' : List ℕ} {i r : ℕ} (w : List ℕ) {future total : List ℕ} → i + length w ≤ length out → Writing out₀ out i (w ++ future) total
    → (r ≡ i + length w) × (out' ≡ put_over i w out) → Writing out₀ out' r future total
unfolding put_over
wrote {out₀} {out} {out'} {i} {r} w {future} {total} h p e = rw (e.0, e.1) (rw (put_is i (i + length w) out w (omega arith)) at there)
  where
    there : Writing out₀ (put_mid i (i + length w - i) out w) (i + length w) future total
    there = push_part {part = w} refl (omega arith) h (omega arith) p

-- an output that kept its length had room
pub over_room : (i : ℕ) (w out : List ℕ) {out' : List ℕ} → i ≤ length out → out' ≡ put_over i w out → length out' ≡ length out → i + length w ≤ length out
unfolding put_over
over_room i w out h e k =
    omega (arith, ap length e, length-append (take i out) (w ++ drop (i + length w) out), length-append w (drop (i + length w) out), length-take-le i out h)

-- a call that looks for its room has put w
pub looked : (i : ℕ) (w out : List ℕ) {out' : List ℕ} {r : ℕ} → i + length w ≤ length out → (r ≡ end_at i w out) × (out' ≡ put_at i w out) → (r ≡ i + length w) × (out' ≡ put_over i w out)
looked i w out h e = (e.0 ∙ end_fits i w out h, e.1 ∙ put_fits i w out h)

pub put : {out₀ out out' : List ℕ} {i r : ℕ} (w : List ℕ) {future total : List ℕ} → i + length w ≤ length out → Writing out₀ out i (w ++ future) total
    → (r ≡ end_at i w out) × (out' ≡ put_at i w out) → Writing out₀ out' r future total
put {out = out} {i = i} w h p e = wrote w h p (looked i w out h e)

-- all is put
pub all_put : {out₀ out : List ℕ} {at i : ℕ} (w : List ℕ) → at ≤ length out₀ → i ≤ length out → Writing out₀ out i [] (take at out₀ ++ w) → (i ≡ at + length w) × (out ≡ put_over at w out₀)
unfolding put_over
all_put {out₀} {out} {at} {i} w h g p = (ends, finish refl p ∙ append_assoc (take at out₀) w (drop i out₀) ∙ ap (λ (k : ℕ). take at out₀ ++ (w ++ drop k out₀)) ends)
  where
    ends : i ≡ at + length w
    ends = omega (arith, count g p, length-append (take at out₀) w, length-take-le at out₀ h)
