-- The test of a call's arguments and the facts that it stands for, and the code block at the front of stream 0's room.
-- Assumes nothing.
use mathlib.Core.Bool.{Bool, true, false, ◌&&◌, and-eq-true_iff}
use mathlib.Core.Path.{◌≡◌, refl}
use mathlib.Core.List.{List, ◌++◌}
use Prim.Native.Nat.{ℕ, ◌+◌, ◌-◌, ◌≤◌, ◌<◌}
use borrow.Author.Tests.{ltb-true, leb-true, eqb-true, lt-ltb, le-leb, eq-eqb}
use native.Mathlib.Omega.{arith}
use lib.Dec.{eqb, leb}
use lib.ListN.{length, drop, length-append, length-drop}
use lib.Seq.{take_at}
use Rattle.interleaver.specs.Table.{size_at, has_size}
use Rattle.interleaver.proofs.Search.{alike}
use Rattle.interleaver.proofs.Into.{sized, has_size_lem}
use Rattle.turbo.specs.Encode.{block_in, encodable, Encodable}

module _ (row F D0 D1 D2 : ℕ) where
  pub encodable_true : encodable row F D0 D1 D2 ≡ true → Encodable row F D0 D1 D2
  unfolding encodable
  encodable_true e =
      let all = (and-eq-true_iff _ _).0 e in
      let to2 = (and-eq-true_iff _ _).0 all.1 in
      let to1 = (and-eq-true_iff _ _).0 to2.0 in
      let to0 = (and-eq-true_iff _ _).0 to1.0 in
      record {
        below = ltb-true _ _ all.0;
        filler = leb-true _ _ to0.0;
        long0 = eqb-true _ _ to0.1;
        long1 = eqb-true _ _ to1.1;
        long2 = eqb-true _ _ to2.1;
      }

  pub true_encodable : Encodable row F D0 D1 D2 → encodable row F D0 D1 D2 ≡ true
  unfolding encodable
  true_encodable h = simp (lt-ltb _ _ h.below, le-leb _ _ h.filler, eq-eqb _ _ h.long0, eq-eqb _ _ h.long1, eq-eqb _ _ h.long2)

  -- the size is that of the room less the tail: the same tests from there
  pub by_size : 4 ≤ D0 → (has_size row (D0 - 4) && leb F (D0 - 4) && eqb D1 D0 && eqb D2 D0) ≡ encodable row F D0 D1 D2
  by_size room = alike _ _ (λ e. true_encodable (to e)) (λ e. from (encodable_true e))
    where
      to : (has_size row (D0 - 4) && leb F (D0 - 4) && eqb D1 D0 && eqb D2 D0) ≡ true → Encodable row F D0 D1 D2
      to e =
          let to2 = (and-eq-true_iff _ _).0 e in
          let to1 = (and-eq-true_iff _ _).0 to2.0 in
          let to0 = (and-eq-true_iff _ _).0 to1.0 in
          let size = sized to0.0 in
          let filled = leb-true F (D0 - 4) to0.1 in
          let same1 = eqb-true D1 D0 to1.1 in
          let same2 = eqb-true D2 D0 to2.1 in
          record {
            below = size.0;
            filler = omega (arith, size.1);
            long0 = omega (arith, size.1);
            long1 = omega (arith, size.1);
            long2 = omega (arith, size.1);
          }

      from : Encodable row F D0 D1 D2 → (has_size row (D0 - 4) && leb F (D0 - 4) && eqb D1 D0 && eqb D2 D0) ≡ true
      from h =
          let size : D0 - 4 ≡ size_at row = omega (arith, h.long0) in
          simp (has_size_lem h.below size, le-leb F (D0 - 4) (omega (arith, h.filler)), eq-eqb D1 D0 (omega (arith, h.long0, h.long1)), eq-eqb D2 D0 (omega (arith, h.long0, h.long2)))

  -- a room that has no places for the tail
  pub no_tail : D0 < 4 → encodable row F D0 D1 D2 ≡ false
  no_tail few = go (encodable row F D0 D1 D2) refl
    where
      go : (t : Bool) → encodable row F D0 D1 D2 ≡ t → t ≡ false
      go true e = absurd (omega (arith, (encodable_true e).long0))
      go false e = refl

-- a code block that was written over the front of stream 0's room
pub block_put : (c d0 : List ℕ) → length d0 ≡ length c + 4 → block_in (c ++ drop (length c) d0) ≡ c
unfolding block_in
block_put c d0 long = take_at c (drop (length c) d0) (length (c ++ drop (length c) d0) - 4) count
  where
    count : length c ≡ length (c ++ drop (length c) d0) - 4
    count = omega (arith, length-append c (drop (length c) d0), length-drop (length c) d0)
