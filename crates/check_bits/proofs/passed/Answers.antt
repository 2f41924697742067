-- An entry of a row that is lent by itself is an entry of the table.
use mathlib.Core.Path.{◌≡◌, ◌∙◌}
use mathlib.Core.List.{List}
use Prim.Native.Nat.{ℕ, ◌+◌, ◌-◌, ◌/◌, ◌%◌, ◌^◌, ◌≤◌}
use native.Mathlib.Omega.{arith}
use lib.ListN.{length, get_or}
use borrow.Rule.Slice.PartMut.{mid_of}
use Rattle.laws.proofs.Parts.{get_or_mid}
use Rattle.check_bits.proofs.passed.Goals as goal

-- the entry for four bits in the table from place a on
in_row : (t : List ℕ) (a x : ℕ) → a + 16 ≤ length t → get_or (mid_of a (length t - a) t) (x % 16) 0 ≡ get_or t (a + x % 16) 0
in_row t a x h = get_or_mid a (length t - a) t (x % 16) 0 (omega arith)

pub returns : goal.returns
returns c =
    let t = c.args.table.now in
    let s = c.args.s in
    rw (
      c.entry-a.ensures,
      c.entry-b.ensures ∙ in_row t 16 (s / 2 ^ 4) (omega arith),
      c.entry-c.ensures ∙ in_row t 32 (s / 2 ^ 8) (omega arith),
      c.entry-d.ensures ∙ in_row t 48 (s / 2 ^ 12) (omega arith),
      c.entry-e.ensures ∙ in_row t 64 (s / 2 ^ 16) (omega arith),
      c.entry-f.ensures ∙ in_row t 80 (s / 2 ^ 20) (omega arith),
    )
