-- Bits that meet in a ring, which is then put as one turn, 02 E2: it is as if each had been put at its own place.
-- Assumes nothing.
use mathlib.Core.Path.{◌≡◌, refl, sym, ◌∙◌, ap}
use mathlib.Core.Bool.{cond}
use mathlib.Core.List.{List, [], ◌∷◌, map}
use Prim.Native.Nat.{ℕ, zero, suc, ◌+◌, ◌≤◌, ◌<◌}
use native.Mathlib.Decide.{dec_lt, ℕ_discrete}
use native.Mathlib.Omega.{arith}
use lib.Dec.{eqb}
use lib.ListN.{length, get_or, drop, set, length-set}
use lib.Seq.{set-set, set_comm, set_out, get_or-set_same, get_or-set_other, get_or-drop}
use Rattle.slots.specs.Putting.{put_along}
use Rattle.slots.specs.Room.{disputed, meet, agreeing}
use Rattle.slots.proofs.Meeting.{Known, meet_known, meet_together, meet_order}
use Rattle.bit_placement.proofs.Along.{put_bit}
use Rattle.reception.specs.inner.Ring.{AllKnown}

known_rest : (l : List ℕ) → AllKnown l → AllKnown (drop 1 l)
known_rest l h i = rw (get_or-drop 1 l i 0) (h (1 + i))

-- ---- two bits

-- at one place
twice : (l : List ℕ) (p a b : ℕ) → put_bit (put_bit l p a) p b ≡ set l p (meet (meet (get_or l p 0) a) b)
twice l p a b = elim (dec_lt p (length l)) [
  | yes h ↦
      set-set l p (meet (get_or l p 0) a) _
      ∙ ap (λ (v : ℕ). set l p (meet v b)) (get_or-set_same l p (meet (get_or l p 0) a) 0 h)
  | no h ↦
      let past : length l ≤ p = omega arith in
      set_out (set l p (meet (get_or l p 0) a)) p _ (rw (length-set l p (meet (get_or l p 0) a)) past)
      ∙ set_out l p _ past
      ∙ sym (set_out l p _ past)
]

-- in either order
swap : (l : List ℕ) (q x p a : ℕ) → Known x → Known a → put_bit (put_bit l q x) p a ≡ put_bit (put_bit l p a) q x
swap l q x p a h g = elim (ℕ_discrete q p) [
  | yes e ↦
      ap (λ (n : ℕ). put_bit (put_bit l n x) p a) e
      ∙ twice l p x a
      ∙ ap (set l p) (meet_order (get_or l p 0) x a h g)
      ∙ sym (ap (λ (n : ℕ). put_bit (put_bit l p a) n x) e ∙ twice l p a x)
  | no n ↦
      ap (λ (v : ℕ). set (set l q (meet (get_or l q 0) x)) p (meet v a)) (get_or-set_other l q p (meet (get_or l q 0) x) 0 (λ e. n (sym e)))
      ∙ set_comm l q p (meet (get_or l q 0) x) (meet (get_or l p 0) a) n
      ∙ sym (ap (λ (v : ℕ). set (set l p (meet (get_or l p 0) a)) q (meet v x)) (get_or-set_other l p q (meet (get_or l p 0) a) 0 n))
]

-- a bit before the others is a bit after them
after : (ps bits l : List ℕ) (q x : ℕ) → AllKnown bits → Known x → put_along agreeing ps bits (put_bit l q x) ≡ put_bit (put_along agreeing ps bits l) q x
unfolding put_along agreeing
after [] bits l q x h g = refl
after (p ∷ ps) bits l q x h g =
    ap (put_along agreeing ps (drop 1 bits)) (swap l q x p (get_or bits 0 0) g (h 0))
    ∙ after ps (drop 1 bits) (put_bit l p (get_or bits 0 0)) q x (known_rest bits h) g

-- ---- a ring

-- one bit more in the ring
one_more : (ps ring l : List ℕ) (k b : ℕ) → length ring ≡ length ps → k < length ps → AllKnown ring → Known b
    → put_along agreeing ps (put_bit ring k b) l ≡ put_bit (put_along agreeing ps ring l) (get_or ps k 0) b
unfolding put_along agreeing
one_more [] ring l k b e m h g = absurd (omega arith)
one_more (p ∷ ps) [] l k b e m h g = absurd (omega arith)
one_more (p ∷ ps) (a ∷ ring) l zero b e m h g =
    ap (put_along agreeing ps ring) (ap (set l p) (meet_together (get_or l p 0) a b (h 0)) ∙ sym (twice l p a b))
    ∙ after ps ring (put_bit l p a) p b (λ i. h (suc i)) g
one_more (p ∷ ps) (a ∷ ring) l (suc k) b e m h g =
    one_more ps ring (put_bit l p a) k b (omega arith) (omega arith) (λ i. h (suc i)) g

pub known_put : (ring : List ℕ) (k b : ℕ) → AllKnown ring → Known b → AllKnown (put_bit ring k b)
known_put [] k b h g i = h i
known_put (a ∷ ring) zero b h g zero = meet_known a b (h 0) g
known_put (a ∷ ring) zero b h g (suc i) = h (suc i)
known_put (a ∷ ring) (suc k) b h g zero = h 0
known_put (a ∷ ring) (suc k) b h g (suc i) = known_put ring k b (λ n. h (suc n)) g i

pub known_along : (js bits ring : List ℕ) → AllKnown bits → AllKnown ring → AllKnown (put_along agreeing js bits ring)
unfolding put_along agreeing
known_along [] bits ring h g = g
known_along (j ∷ js) bits ring h g = known_along js (drop 1 bits) (put_bit ring j (get_or bits 0 0)) (known_rest bits h) (known_put ring j (get_or bits 0 0) g (h 0))

-- where something was heard, a shorter test does
pub meet_known_is : (old new : ℕ) → Known old → meet old new ≡ cond (eqb old new) new disputed
unfolding meet
meet_known_is old new h = rw h

-- bits in the ring, and the ring at some places: the bits at those places
pub through : (ps : List ℕ) (js bits ring l : List ℕ) → length ring ≡ length ps → ((i : ℕ) → i < length js → get_or js i 0 < length ps)
    → AllKnown ring → AllKnown bits
    → put_along agreeing ps (put_along agreeing js bits ring) l ≡ put_along agreeing (map (λ (k : ℕ). get_or ps k 0) js) bits (put_along agreeing ps ring l)
unfolding put_along agreeing
through ps [] bits ring l e m h g = refl
through ps (j ∷ js) bits ring l e m h g =
    through ps js (drop 1 bits) (put_bit ring j (get_or bits 0 0)) l (length-set ring j _ ∙ e) (λ i k. m (suc i) (omega arith))
    (known_put ring j (get_or bits 0 0) h (g 0)) (known_rest bits g)
    ∙ ap (put_along agreeing (map (λ (k : ℕ). get_or ps k 0) js) (drop 1 bits))
    (one_more ps ring l j (get_or bits 0 0) e (m 0 (omega arith)) h (g 0))
