-- Which coded bits a message sends, clause 5.1.4.2.2: every bit of the three streams lies on the circle once, and 3·D bits or more send each of them.
-- Assumes nothing.
use mathlib.Core.Path.{◌≡◌, sym, ◌∙◌, ap}
use mathlib.Core.List.{List, ◌++◌}
use Prim.Native.Nat.{ℕ, zero, suc, ◌+◌, ◌*◌, ◌≤◌, ◌<◌}
use native.Mathlib.Nat.{mod-eq_of_lt}
use native.Mathlib.Omega.{arith}
use lib.ListN.{length, get_or, length-append, length-map, get_or-append}
use lib.Seq.{get_or-append-add}
use borrow.Author.Tests.{lt-ltb}
use Rattle.laws.specs.Bits.{AreBits}
use Rattle.laws.proofs.Tab.{length_tab, get_or_tab}
use Rattle.rate_matching.specs.SubBlocks.{rows, dummies, padded, y_at}
use Rattle.rate_matching.specs.Places.{stream_of}
use Rattle.rate_matching.specs.Walk.{on_circle, is_bit, holds_bit, turn, turn_after_turn, sent_places, Among}
use Rattle.rate_matching.proofs.Places.{dummies_add, lie_columns, columns_place_lt, columns_read_place}
use Rattle.rate_matching.proofs.Circle.{padded_bit}
use Rattle.rate_matching.proofs.Walk.{turn_finds}
use Rattle.control_messages.specs.RateMatching.{control_column, read_control, interleaved, control_circle, lies_at}
use Rattle.control_messages.specs.Working.{Sized}
use Rattle.control_messages.proofs.Columns.{control_place, control_permuted}
use Rattle.control_messages.proofs.Interleaving.{length_in_columns}
use Rattle.control_messages.proofs.Matched.{circle_bits, turn_bits_lem}

-- where place i of a stream comes out of the interleaver
abbrev comes_out : ℕ → ℕ → ℕ
comes_out D i = lie_columns control_place (rows D) (dummies D + i)

module _ (D i : ℕ) (h : i < D) where
  y_lt : dummies D + i < 32 * rows D
  y_lt = omega (arith, dummies_add D)

  out_lt : comes_out D i < 32 * rows D
  out_lt = columns_place_lt control_column control_place control_permuted (rows D) (dummies D + i) y_lt

  out_is : (d : List ℕ) → length d ≡ D → get_or (interleaved d) (comes_out D i) 0 ≡ get_or d i 0
  unfolding interleaved y_at read_control
  out_is d l =
      get_or_tab (32 * rows (length d)) (y_at read_control d) (comes_out D i) 0 (rw l out_lt)
      ∙ ap (λ (n : ℕ). get_or (padded d) (read_control (rows n) (comes_out D i)) 0) l
      ∙ ap (λ (y : ℕ). get_or (padded d) y 0) (columns_read_place control_column control_place control_permuted (rows D) (dummies D + i) y_lt)
      ∙ padded_bit D d l i

length_interleaved : (D : ℕ) (d : List ℕ) → length d ≡ D → length (interleaved d) ≡ 32 * rows D
unfolding interleaved
length_interleaved D d l = length_tab (32 * rows (length d)) (y_at read_control d) ∙ ap (λ (n : ℕ). 32 * rows n) l

module _ (D : ℕ) (d0 d1 d2 : List ℕ) (l0 : length d0 ≡ D) (l1 : length d1 ≡ D) (l2 : length d2 ≡ D) where
  length_circle : length (control_circle d0 d1 d2) ≡ 3 * (32 * rows D)
  unfolding control_circle
  length_circle =
      simp (length-append, length_interleaved D d0 l0, length_interleaved D d1 l1, length_interleaved D d2 l2) (omega arith)

  -- what the circle holds where a stream's place lies
  pub lies_there : (s i : ℕ) → s < 3 → i < D → on_circle (control_circle d0 d1 d2) (lies_at D s i) ≡ get_or (stream_of d0 d1 d2 s) i 0
  unfolding lies_at control_circle on_circle stream_of
  lies_there zero i u h =
      let e : 0 * (32 * rows D) + comes_out D i ≡ comes_out D i = omega arith in
      ap (λ (j : ℕ). get_or (interleaved d0 ++ (interleaved d1 ++ interleaved d2)) j 0) e
      ∙ get_or-append (interleaved d0) (interleaved d1 ++ interleaved d2) 0 (comes_out D i) (rw (length_interleaved D d0 l0) (out_lt D i h))
      ∙ out_is D i h d0 l0
  lies_there (suc zero) i u h =
      let e : 1 * (32 * rows D) + comes_out D i ≡ length (interleaved d0) + comes_out D i = omega (arith, length_interleaved D d0 l0) in
      ap (λ (j : ℕ). get_or (interleaved d0 ++ (interleaved d1 ++ interleaved d2)) j 0) e
      ∙ get_or-append-add (interleaved d0) (interleaved d1 ++ interleaved d2) (comes_out D i) 0
      ∙ get_or-append (interleaved d1) (interleaved d2) 0 (comes_out D i) (rw (length_interleaved D d1 l1) (out_lt D i h))
      ∙ out_is D i h d1 l1
  lies_there (suc (suc zero)) i u h =
      let e : 2 * (32 * rows D) + comes_out D i ≡ length (interleaved d0) + (length (interleaved d1) + comes_out D i) = omega (arith, length_interleaved D d0 l0, length_interleaved D d1 l1) in
      ap (λ (j : ℕ). get_or (interleaved d0 ++ (interleaved d1 ++ interleaved d2)) j 0) e
      ∙ get_or-append-add (interleaved d0) (interleaved d1 ++ interleaved d2) (length (interleaved d1) + comes_out D i) 0
      ∙ get_or-append-add (interleaved d1) (interleaved d2) (comes_out D i) 0
      ∙ out_is D i h d2 l2
  lies_there (suc (suc (suc s))) i u h = absurd (omega arith)

  pub lies_lt : (s i : ℕ) → s < 3 → i < D → lies_at D s i < length (control_circle d0 d1 d2)
  unfolding lies_at
  lies_lt zero i u h = omega (arith, length_circle, out_lt D i h)
  lies_lt (suc zero) i u h = omega (arith, length_circle, out_lt D i h)
  lies_lt (suc (suc zero)) i u h = omega (arith, length_circle, out_lt D i h)
  lies_lt (suc (suc (suc s))) i u h = absurd (omega arith)

  module _ (z : Sized D) (h0 : AreBits d0) (h1 : AreBits d1) (h2 : AreBits d2) where
    stream_bits : (s : ℕ) → AreBits (stream_of d0 d1 d2 s)
    unfolding stream_of
    stream_bits zero = h0
    stream_bits (suc zero) = h1
    stream_bits (suc (suc s)) = h2

    -- one turn passes 3·D places
    pub length_turn : length (turn (control_circle d0 d1 d2) 0) ≡ 3 * D
    length_turn =
        sym (length-map (turn (control_circle d0 d1 d2) 0) (on_circle (control_circle d0 d1 d2)))
        ∙ ap length (turn_bits_lem (control_circle d0 d1 d2) ∙ circle_bits z d0 d1 d2 l0 l1 l2 h0 h1 h2)
        ∙ simp (length-append, length_in_columns d0 z, length_in_columns d1 z, length_in_columns d2 z) (omega arith)

    -- with 3·D bits or more each place of a stream is sent
    pub sent_once : (E s i : ℕ) → 3 * D ≤ E → s < 3 → i < D → Among (lies_at D s i) (sent_places (control_circle d0 d1 d2) 0 E)
    unfolding sent_places turn_after_turn holds_bit is_bit
    sent_once E s i enough u h =
        let w : List ℕ = control_circle d0 d1 d2 in
        let f = turn_finds w 0 (omega (arith, lies_lt s i u h)) (lies_at D s i) (lies_lt s i u h) (rw (lies_there s i u h) (lt-ltb _ _ (stream_bits s i))) in
        let early : f.0 < E = omega (arith, f.1, length_turn) in (
          f.0,
          rw length_tab early,
          get_or_tab E (turn_after_turn (turn w 0)) f.0 0 early ∙ ap (λ (k : ℕ). get_or (turn w 0) k 0) (mod-eq_of_lt f.1) ∙ f.2,
        )
