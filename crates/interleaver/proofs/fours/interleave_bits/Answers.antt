-- `fours::interleave_bits` meets its contract: either room has at least a quarter's length in fours, and `by_fours` does the rest.
-- Assumes nothing.
use mathlib.Core.Path.{◌≡◌}
use Prim.Native.Nat.{ℕ, ◌+◌, ◌*◌, ◌/◌, ◌%◌, ◌≤◌}
use native.Mathlib.Omega.{arith}
use Rattle.laws.proofs.Parts.{fresh_count}
use Rattle.interleaver.proofs.fours.interleave_bits.Goals as goal

-- the room that is lent: a quarter's length, rounded up to fours
lent : (K : ℕ) {n : ℕ} → K % 8 ≡ 0 → K ≤ 6144 → (K / 4 + 3) / 4 * 4 ≡ n → (K ≤ 4 * n) × (n % 4 ≡ 0) × (n ≤ 1536)
lent K h most e = (omega arith, omega arith, omega arith)

pub slice_bounds-by_fours-end : goal.slice_bounds-by_fours-end
slice_bounds-by_fours-end c = fresh_count {A = ℕ} 0 64 _ c.if-n-le64.true

pub by_fours-requires : goal.by_fours-requires
by_fours-requires c =
    let room = lent _ c.requires.0.eights c.requires.0.most (fresh_count {A = ℕ} 0 64 _ c.if-n-le64.true) in
    (c.requires.0, c.requires.1, room.0, room.1, room.2)

pub slice_bounds-by_fours-end-else-n-le64 : goal.slice_bounds-by_fours-end-else-n-le64
slice_bounds-by_fours-end-else-n-le64 c = fresh_count {A = ℕ} 0 1536 _ (omega arith)

pub by_fours-requires-else-n-le64 : goal.by_fours-requires-else-n-le64
by_fours-requires-else-n-le64 c =
    let room = lent _ c.requires.0.eights c.requires.0.most (fresh_count {A = ℕ} 0 1536 _ (omega (arith, c.requires.0.most))) in
    (c.requires.0, c.requires.1, room.0, room.1, room.2)
