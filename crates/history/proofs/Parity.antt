-- A transmission that sends parity alone, 01 'Small sums': A = 16, Q = 2, N = 1, version 2 and G = 64, whatever its bits.
-- Assumes nothing.
use mathlib.Core.Path.{◌≡◌, refl}
use mathlib.Core.Bool.{Bool, true, false, not, ◌||◌}
use mathlib.Core.List.{List, [], ◌∷◌}
use Prim.Native.Nat.{ℕ, zero, suc}
use native.Mathlib.Omega.{arith}
use lib.Dec.{T}
use lib.ListN.{length}
use Rattle.laws.specs.inner.Computed.{all_below}
use Rattle.laws.proofs.Computed.{all_below_at}
use Rattle.laws.specs.Bits.{bits_of}
use Rattle.laws.specs.Lists.{tab, tab_from, keep}
use Rattle.interleaver.specs.Table.{size_table, size_at}
use Rattle.segmentation.specs.Segmentation.{check_length, blocks, with_checks, first_row, long_row, long, short, shorts, longs, filler, size_of, filler_of}
use Rattle.turbo.specs.Streams.{without_filler}
use Rattle.rate_matching.specs.Columns.{number_of, turned_round, column}
use Rattle.rate_matching.specs.SubBlocks.{rows, dummies, padded, read_plain, read_shifted, y_at, plain, shifted}
use Rattle.rate_matching.specs.Circle.{by_turns, circle, circle_length, cut_at, start_in}
use Rattle.rate_matching.specs.SoftBuffer.{whole_share}
use Rattle.rate_matching.specs.Places.{plain_place, place_number}
use Rattle.rate_matching.specs.Walk.{on_circle, is_bit, holds_bit, itself, round, turn, turn_after_turn, sent_places}
use Rattle.codeword.specs.Shares.{symbols, share, grant}
use Rattle.codeword.specs.Codeword.{block_rows, block_cut}
use Rattle.rate_matching.specs.Shape.{blank, shape}
use Rattle.slots.specs.Reception.{block_places}
use Rattle.history.specs.Sent.{among, sent, NoneSent}

-- data place i of the one code block is not among those sent
abbrev unsent_at : ℕ → Bool
unsent_at i = not (among (place_number 44 0 i) (block_places whole_share 40 (grant 2 1 2 64) 0))

tested : T (all_below unsent_at 40)
unfolding all_below among tab tab_from keep size_table size_at check_length blocks with_checks first_row long_row long short shorts longs filler size_of filler_of without_filler bits_of number_of turned_round column rows dummies padded read_plain read_shifted y_at plain shifted by_turns circle circle_length cut_at start_in plain_place place_number on_circle is_bit holds_bit itself round turn turn_after_turn sent_places symbols share block_rows block_cut blank shape block_places
tested = tt

-- there is one code block, of 40 bits
one_block : (blocks 40 ≡ 1) × (size_of 40 0 ≡ 40)
unfolding size_table size_at check_length blocks with_checks first_row long_row long short shorts size_of
one_block = (refl, refl)

pub parity_alone : (bits : List ℕ) → length bits ≡ 64 → NoneSent whole_share 16 (record { Q = 2; N = 1; version = 2; bits = bits } ∷ [])
unfolding sent
parity_alone bits long zero i d = rw (long, one_block.1) (go (among (place_number 44 0 i) (block_places whole_share 40 (grant 2 1 2 64) 0)) (all_below_at unsent_at 40 tested i (omega (arith, one_block.1))))
  where
    go : (b : Bool) → T (not b) → (b || false) ≡ false
    go true t = absurd t
    go false t = refl
parity_alone bits long (suc r) i d = absurd (omega (arith, one_block.0))
