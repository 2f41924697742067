-- Rate matching of clause 5.1.4.2: the bits on the circle are those of the three streams in the order of the columns, and what is sent is these over and over.
-- Assumes nothing.
use mathlib.Core.Path.{◌≡◌, refl, sym, ◌∙◌, ap, ap₂}
use mathlib.Core.Bool.{Bool, true, false}
use mathlib.Core.List.{List, ◌++◌, map, append-nil}
use Prim.Native.Nat.{ℕ, ◌+◌, ◌-◌, ◌*◌, ◌/◌, ◌%◌, ◌^◌, ◌≤◌, ◌<◌}
use native.Mathlib.Omega.{arith}
use lib.Dec.{leb, ltb}
use lib.ListN.{length, get_or, length-map}
use borrow.Author.Tests.{leb-true, leb-false, lt-ltb}
use Rattle.laws.specs.Bits.{AreBits}
use Rattle.laws.specs.Lists.{tab, tab_from, keep}
use Rattle.laws.proofs.Keep.{keep_append, keep_ext, keep_passes}
use Rattle.laws.proofs.Tab.{length_tab, get_or_tab, map_tab, tab_of, tab_rest}
use Rattle.turbo.specs.Streams.{NULL}
use Rattle.rate_matching.specs.SubBlocks.{rows, dummies, padded, y_at}
use Rattle.rate_matching.specs.Walk.{on_circle, is_bit, holds_bit, itself, round, turn, turn_after_turn, sent_places, selected}
use Rattle.rate_matching.proofs.Places.{dummies_add, columns_read_lt}
use Rattle.rate_matching.proofs.Circle.{padded_dummy, padded_bit}
use Rattle.rate_matching.proofs.Walk.{get_or_map, sent_map}
use Rattle.rate_matching.proofs.Kept.{keep_from}
use Rattle.control_messages.specs.RateMatching.{control_column, read_control, interleaved, control_circle, matched}
use Rattle.control_messages.specs.Working.{Sized, past_dummies, entry_at, in_columns, bit_at, one_turn}
use Rattle.control_messages.proofs.Maps.{map_ext, keep_map}
use Rattle.control_messages.proofs.Columns.{control_permuted, control_place}
use Rattle.control_messages.proofs.Interleaving.{places_read, length_places_read, length_in_columns}
use Rattle.control_messages.proofs.Turn.{length_one_turn}

-- ---- which places are read

pub read_below : (R k : ℕ) → k < 32 * R → read_control R k < 32 * R
unfolding read_control
read_below R k h = columns_read_lt control_column control_place control_permuted R k h

-- each is a y place past the dummies
module _ (D i : ℕ) (h : i < length (places_read D)) where
  pub read_past : dummies D ≤ get_or (places_read D) i 0
  unfolding past_dummies
  read_past = leb-true _ _ (keep_passes (past_dummies D) (tab (32 * rows D) (read_control (rows D))) i 0 h)

  read_within : get_or (places_read D) i 0 < 32 * rows D
  read_within =
      let f = keep_from (past_dummies D) (tab (32 * rows D) (read_control (rows D))) i h in
      let l : f.0 < 32 * rows D = rw length_tab at f.1 in
      rw (← f.2, get_or_tab (32 * rows D) (read_control (rows D)) f.0 0 l) (read_below (rows D) f.0 l)

  pub read_place_lt : get_or (places_read D) i 0 - dummies D < D
  read_place_lt = omega (arith, read_past, read_within, dummies_add D)

-- ---- one stream of D bits

module _ (D : ℕ) (d : List ℕ) (l : length d ≡ D) (h : AreBits d) where
  -- the entry at a y place
  abbrev y_of : ℕ → ℕ
  y_of y = get_or (padded d) y 0

  y_bit : (y : ℕ) → dummies D ≤ y → y_of y ≡ entry_at D d y
  unfolding entry_at
  y_bit y g = let e : y ≡ dummies D + (y - dummies D) = omega arith in ap y_of e ∙ padded_bit D d l (y - dummies D)

  -- it is a bit past the dummies, and <NULL> before
  y_holds : (y : ℕ) → is_bit (y_of y) ≡ past_dummies D y
  unfolding is_bit past_dummies entry_at
  y_holds y = go (leb (dummies D) y) refl
    where
      go : (b : Bool) → leb (dummies D) y ≡ b → ltb (y_of y) NULL ≡ b
      go true t = rw (y_bit y (leb-true _ _ t)) (lt-ltb _ _ (h (y - dummies D)))
      go false t = rw (padded_dummy D d l y (leb-false (dummies D) y t))

  pub interleaved_bits : keep is_bit (interleaved d) ≡ in_columns D d
  unfolding interleaved y_at in_columns
  interleaved_bits =
      ap (λ (n : ℕ). keep is_bit (tab (32 * rows n) (λ (k : ℕ). y_of (read_control (rows n) k)))) l
      ∙ ap (keep is_bit) (sym (map_tab (32 * rows D) (read_control (rows D)) y_of))
      ∙ keep_map is_bit y_of (tab (32 * rows D) (read_control (rows D)))
      ∙ ap (map y_of) (keep_ext (λ (y : ℕ). is_bit (y_of y)) (past_dummies D) (tab (32 * rows D) (read_control (rows D))) (λ i k. y_holds _))
      ∙ map_ext y_of (entry_at D d) (places_read D) (λ i k. y_bit _ (read_past D i k))

-- ---- the walk from place 0 over any circle

-- the bits of one turn are the circle's bits in their order
pub turn_bits_lem : (w : List ℕ) → map (on_circle w) (turn w 0) ≡ keep is_bit w
unfolding turn round holds_bit on_circle itself tab tab_from
turn_bits_lem w =
    ap (λ (ps : List ℕ). map (on_circle w) (keep (holds_bit w) ps)) (append-nil (tab_from 0 (length w - 0) itself) ∙ tab_rest (length w) itself)
    ∙ sym (keep_map is_bit (on_circle w) (tab (length w) itself))
    ∙ ap (keep is_bit) (map_tab (length w) itself (on_circle w) ∙ sym (tab_of w (length w) (on_circle w) refl (λ i k. refl)))

pub selected_bits : (w : List ℕ) (E : ℕ) → 0 < length (keep is_bit w) → selected w 0 E ≡ tab E (turn_after_turn (keep is_bit w))
unfolding selected sent_places
selected_bits w E h =
    sent_map (on_circle w) (turn w 0) E (rw (← length-map (turn w 0) (on_circle w), turn_bits_lem w) h)
    ∙ ap (λ (ps : List ℕ). tab E (turn_after_turn ps)) (turn_bits_lem w)

-- ---- the circle of three streams

module _ {D : ℕ} (z : Sized D) (d0 d1 d2 : List ℕ) (l0 : length d0 ≡ D) (l1 : length d1 ≡ D) (l2 : length d2 ≡ D)
    (h0 : AreBits d0) (h1 : AreBits d1) (h2 : AreBits d2) where
  pub circle_bits : keep is_bit (control_circle d0 d1 d2) ≡ in_columns D d0 ++ (in_columns D d1 ++ in_columns D d2)
  unfolding control_circle
  circle_bits =
      keep_append is_bit (interleaved d0) (interleaved d1 ++ interleaved d2)
      ∙ ap₂ ◌++◌ (interleaved_bits D d0 l0 h0) (keep_append is_bit (interleaved d1) (interleaved d2) ∙ ap₂ ◌++◌ (interleaved_bits D d1 l1 h1) (interleaved_bits D d2 l2 h2))

  -- the streams as the bits of bytes x
  module _ (x : List ℕ) (b0 : (k : ℕ) → k < D → bit_at x 0 k ≡ get_or d0 k 0) (b1 : (k : ℕ) → k < D → bit_at x 1 k ≡ get_or d1 k 0)
      (b2 : (k : ℕ) → k < D → bit_at x 2 k ≡ get_or d2 k 0) where
    one_stream : (s : ℕ) (d : List ℕ) → ((k : ℕ) → k < D → bit_at x s k ≡ get_or d k 0) → in_columns D d ≡ tab D (bit_at (in_columns D x) s)
    unfolding in_columns bit_at entry_at
    one_stream s d b =
        tab_of (in_columns D d) D (bit_at (in_columns D x) s) (length_in_columns d z)
        (λ i k.
        let p : i < length (places_read D) = rw (length_places_read z) k in
        get_or_map (entry_at D d) (places_read D) i p
        ∙ sym (b (get_or (places_read D) i 0 - dummies D) (read_place_lt D i p))
        ∙ ap (λ (y : ℕ). y / 2 ^ s % 2) (sym (get_or_map (entry_at D x) (places_read D) i p)))

    circle_turn : keep is_bit (control_circle d0 d1 d2) ≡ one_turn D (in_columns D x)
    unfolding one_turn
    circle_turn = circle_bits ∙ ap₂ ◌++◌ (one_stream 0 d0 b0) (ap₂ ◌++◌ (one_stream 1 d1 b1) (one_stream 2 d2 b2))

    pub matched_is : (E : ℕ) → matched d0 d1 d2 E ≡ tab E (turn_after_turn (one_turn D (in_columns D x)))
    unfolding matched
    matched_is E =
        let some : 0 < length (keep is_bit (control_circle d0 d1 d2)) = rw (circle_turn, length_one_turn) (omega (arith, z.least)) in
        selected_bits (control_circle d0 d1 d2) E some ∙ ap (λ (ps : List ℕ). tab E (turn_after_turn ps)) circle_turn
