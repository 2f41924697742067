-- What the tests of one turn tell, clause 5.1.4.1.2 from the receiver's side: that a code block's turn can be put, or that nothing is done.
-- Assumes nothing.
use mathlib.Core.Path.{◌≡◌, refl, sym, ◌∙◌}
use mathlib.Core.Bool.{Bool, true, false, ◌&&◌}
use mathlib.Core.List.{List}
use Prim.Native.Nat.{ℕ, ◌≤◌, ◌<◌}
use native.Mathlib.Omega.{arith}
use lib.ListN.{length}
use borrow.Author.Tests.{le-leb, lt-leb}
use Rattle.std.specs.declared.option.Option.{Option}
use Rattle.rate_matching.specs.Places.{longest}
use Rattle.rate_matching.specs.Matrix.{length_within}
use Rattle.std.specs.declared.option.Option.TheVariants.{Some, None}
use Rattle.rate_matching.specs.declared.Turn.{Turn}
use Rattle.rate_matching.specs.SubBlocks.{rows}
use Rattle.rate_matching.specs.Circle.{circle_length, cut_at}
use Rattle.rate_matching.specs.Turns.{matchable}
use Rattle.rate_matching.specs.Turns.{turn_of}
use Rattle.rate_matching.proofs.MatchableBlocks.{Matchable, matchable_told, matchable_is}
use Rattle.rate_matching.proofs.Turns.{turn_none, turn_told}
use Rattle.bit_placement.specs.Placement.{put_first, turn_in, placeable, part_after_turn, bits_put}
use Rattle.bit_placement.specs.inner.Along.{Put, Sends}
use Rattle.bit_placement.proofs.Walking.{sends_matchable}

-- ---- there is a turn where one can be sent

module _ (D F soft v : ℕ) where
  abbrev sendable : Bool
  sendable = matchable D D D F (cut_at soft (rows D)) v

  pub unsent : None ≡ turn_of D F soft v → sendable ≡ false
  unsent is = go sendable refl
    where
      go : (t : Bool) → sendable ≡ t → sendable ≡ false
      go true t = let e = is ∙ sym (turn_told D F soft v refl t) in cc
      go false t = t

  pub sent : {T : Turn} → Some T ≡ turn_of D F soft v → Matchable D D D F (cut_at soft (rows D)) v
  sent {T} is = go sendable refl
    where
      go : (t : Bool) → sendable ≡ t → Matchable D D D F (cut_at soft (rows D)) v
      go true t = matchable_told t
      go false t = let e = is ∙ sym (turn_none D F soft v refl t) in absurd cc

-- and then its circle has a length
pub long_there : (D F soft v : ℕ) {T : Turn} → Some T ≡ turn_of D F soft v → length_within D ≡ Some (circle_length (rows D))
unfolding length_within
long_there D F soft v is = rw (le-leb D longest (sent _ _ _ _ is).fits.most)

pub long_is : (D F soft v : ℕ) {n : ℕ} {T : Turn} {o : Option ℕ} → Some T ≡ turn_of D F soft v → o ≡ length_within D → o ≡ Some n → n ≡ circle_length (rows D)
long_is D F soft v is e f = let g = sym f ∙ e ∙ long_there D F soft v is in cc

-- ---- nothing is done

module _ (D F soft v : ℕ) (bits part : List ℕ) where
  untouched : placeable D F soft v (length part) ≡ false → (part ≡ part_after_turn D F soft v bits part) × (0 ≡ bits_put D F soft v (length bits) (length part))
  unfolding part_after_turn bits_put
  untouched t = (rw t, rw t)

  pub none_sent : matchable D D D F (cut_at soft (rows D)) v ≡ false → (part ≡ part_after_turn D F soft v bits part) × (0 ≡ bits_put D F soft v (length bits) (length part))
  unfolding placeable
  none_sent t = untouched (rw t)

  pub too_short : length part < circle_length (rows D) → (part ≡ part_after_turn D F soft v bits part) × (0 ≡ bits_put D F soft v (length bits) (length part))
  unfolding placeable
  too_short h = untouched (rw (lt-leb (circle_length (rows D)) (length part) h) (go (matchable D D D F (cut_at soft (rows D)) v)))
    where
      go : (t : Bool) → t && false ≡ false
      go true = refl
      go false = refl

-- ---- the turn is put

pub sends_told : {D F soft v long : ℕ} → Matchable D D D F (cut_at soft (rows D)) v → circle_length (rows D) ≤ long → Sends D F soft v long
sends_told m h = record {
  walked = record { least = m.least; most = m.fits.most; some = m.fits.some; filler = m.fits.filler; fits = h };
  cut = m.cut;
  version = m.version;
}

-- as the tests tell
pub sends_found : {D F soft v n long : ℕ} {T : Turn} {o : Option ℕ} → Some T ≡ turn_of D F soft v → o ≡ length_within D → o ≡ Some n → n ≤ long → Sends D F soft v long
sends_found is e f h = sends_told (sent _ _ _ _ is) (omega (arith, long_is _ _ _ _ is e f, h))

module _ {D F soft v : ℕ} (part : List ℕ) (w : Sends D F soft v (length part)) where
  there : placeable D F soft v (length part) ≡ true
  unfolding placeable
  there = rw (matchable_is (sends_matchable w), le-leb (circle_length (rows D)) (length part) w.walked.fits)

  pub turn_put : {bits part' : List ℕ} {r : ℕ} → Put (turn_in D F soft v) bits part part' r
      → (part' ≡ part_after_turn D F soft v bits part) × (r ≡ bits_put D F soft v (length bits) (length part))
  unfolding part_after_turn bits_put
  turn_put p = rw there (p.told, p.ends ∙ omega arith)

  -- so what is told of it is one turn
  pub placed : (bits : List ℕ) {part' : List ℕ} → part' ≡ part_after_turn D F soft v bits part → part' ≡ put_first (turn_in D F soft v) bits part
  unfolding part_after_turn
  placed bits e = rw there at e
