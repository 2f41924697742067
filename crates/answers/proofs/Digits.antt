-- Laws of bits put as digits, one after another (`digits_of`).
-- Assumes nothing.
use mathlib.Core.Path.{◌≡◌, sym, ◌∙◌}
use mathlib.Core.List.{List, [], ◌∷◌, ◌++◌}
use Prim.Native.Nat.{ℕ, ◌+◌, ◌%◌, ◌≤◌, ◌<◌}
use native.Mathlib.Nat.{add-zero, add_assoc}
use native.Mathlib.Omega.{arith}
use lib.ListN.{length, get_or, take, drop, set, length-set, length-map, drop_of_length-le}
use Rattle.laws.proofs.Writing.{Writing, start_at, same, push, drop_next}
use Rattle.lines.specs.Put.{put_over, put_at, end_at}
use Rattle.lines.proofs.Putting.{put_fits, end_fits, all_put}
use Rattle.answers.specs.Rows.{digit_of, digits_of}

pub digits_length : (bits : List ℕ) → length (digits_of bits) ≡ length bits
unfolding digits_of
digits_length bits = length-map bits digit_of

-- after i of the bits
pub record Spelt (bits : List ℕ) (at : ℕ) (out₀ out : List ℕ) (i : ℕ) : Type 0 where
  pub within : i ≤ length bits
  pub room : at + length bits ≤ length out
  pub writing : Writing out₀ out (at + i) (digits_of (drop i bits)) (take at out₀ ++ digits_of bits)

rest_is : (bits : List ℕ) (i : ℕ) → i < length bits → digits_of (drop i bits) ≡ digit_of (get_or bits i 0) ∷ digits_of (drop (i + 1) bits)
unfolding digits_of
rest_is bits i h = rw (drop_next bits i h)

rest_none : (bits : List ℕ) (i : ℕ) → length bits ≤ i → digits_of (drop i bits) ≡ []
unfolding digits_of
rest_none bits i h = rw (drop_of_length-le bits h)

pub start : (bits : List ℕ) (at : ℕ) (out : List ℕ) → at + length bits ≤ length out → Spelt bits at out out 0
start bits at out h = record { within = omega arith; room = h; writing = rw (add-zero at) (start_at at) }

pub next : {bits : List ℕ} {at : ℕ} {out₀ out : List ℕ} {i : ℕ} → i < length bits → Spelt bits at out₀ out i
    → Spelt bits at out₀ (set out (at + i) (48 + get_or bits i 0 % 10)) (i + 1)
unfolding digit_of
next {bits} {at} {out₀} {out} {i} h s = record {
  within = omega arith;
  room = rw length-set s.room;
  writing = rw (← add_assoc at i 1) (push (omega (arith, s.room)) (same (rest_is bits i h) s.writing));
}

pub finish : {bits : List ℕ} {at : ℕ} {out₀ out : List ℕ} {i : ℕ} → length bits ≤ i → Spelt bits at out₀ out i
    → (at + length bits ≡ end_at at (digits_of bits) out₀) × (out ≡ put_at at (digits_of bits) out₀)
finish {bits} {at} {out₀} {out} {i} h s = (omega (arith, end_fits at (digits_of bits) out₀ fit, digits_length bits), is_put.1 ∙ sym (put_fits at (digits_of bits) out₀ fit))
  where
    fit : at + length (digits_of bits) ≤ length out₀
    fit = omega (arith, digits_length bits, s.room, s.writing.long)

    is_put : (at + i ≡ at + length (digits_of bits)) × (out ≡ put_over at (digits_of bits) out₀)
    is_put = all_put (digits_of bits) (omega (arith, fit)) (omega (arith, s.within, s.room)) (same (rest_none bits i h) s.writing)
