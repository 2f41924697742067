-- One turn of the circle of clause 5.1.4.2.2 as it is put: three streams, each written with what stands behind its bits and the next over that.
-- Assumes nothing.
use mathlib.Core.Path.{◌≡◌, ◌∙◌, ap, ap₂}
use mathlib.Core.List.{List, ◌++◌, append_assoc}
use Prim.Native.Nat.{ℕ, ◌+◌, ◌≤◌}
use native.Mathlib.Omega.{arith}
use lib.ListN.{length, take, drop, length-append, get_or-append}
use lib.Seq.{length-take-le, take-append-le, take_at, take-add, drop_at}
use borrow.Author.Tests.{ne_eqb}
use borrow.Rule.Slice.PartMut.{put_mid}
use Rattle.laws.specs.Lists.{tab}
use Rattle.laws.proofs.Tab.{length_tab, take_tab, tab_ext}
use Rattle.rate_matching.specs.Walk.{turn_after_turn}
use Rattle.bit_selection.specs.Matcher.{repeated_into}
use Rattle.control_messages.specs.Working.{Sized, bit_at, one_turn}

-- the front of a list into which a part was put, up to m entries of the part
front_put : (a m k : ℕ) (xs ys : List ℕ) → a ≤ length xs → m ≤ length ys → take (a + m) (put_mid a k xs ys) ≡ take a xs ++ take m ys
front_put a m k xs ys h l =
    take-add a m (put_mid a k xs ys)
    ∙ ap₂ (λ (p q : List ℕ). p ++ take m q) (take_at (take a xs) _ a (length-take-le a xs h)) (drop_at (take a xs) _ a (length-take-le a xs h))
    ∙ ap (λ (p : List ℕ). take a xs ++ p) (take-append-le m ys _ l)

-- the three streams
pub three_put : (d k l : ℕ) (ring x : List ℕ) {p0 p1 p2 : List ℕ} → Sized d → p0 ≡ tab 80 (bit_at x 0) → p1 ≡ tab 80 (bit_at x 1) → p2 ≡ tab 80 (bit_at x 2)
    → take (d + d + d) (put_mid (d + d) k (put_mid d l (p0 ++ drop 80 ring) p1) p2) ≡ one_turn d x
unfolding one_turn
three_put d k l ring x {p0} {p1} {p2} z e0 e1 e2 =
    front_put (d + d) d k (put_mid d l (p0 ++ drop 80 ring) p1) p2 two_there (some p2 (bit_at x 2) e2)
    ∙ ap₂ ◌++◌
    (front_put d d l (p0 ++ drop 80 ring) p1 one_there (some p1 (bit_at x 1) e1)
    ∙ ap₂ ◌++◌ (take-append-le d p0 (drop 80 ring) (some p0 (bit_at x 0) e0) ∙ front p0 (bit_at x 0) e0) (front p1 (bit_at x 1) e1))
    (front p2 (bit_at x 2) e2)
    ∙ append_assoc (tab d (bit_at x 0)) (tab d (bit_at x 1)) (tab d (bit_at x 2))
  where
    whole : (p : List ℕ) (f : ℕ → ℕ) → p ≡ tab 80 f → length p ≡ 80
    whole p f e = ap length e ∙ length_tab 80 f

    some : (p : List ℕ) (f : ℕ → ℕ) → p ≡ tab 80 f → d ≤ length p
    some p f e = omega (arith, whole p f e, z.most)

    front : (p : List ℕ) (f : ℕ → ℕ) → p ≡ tab 80 f → take d p ≡ tab d f
    front p f e = ap (take d) e ∙ take_tab d 80 f z.most

    one_there : d ≤ length (p0 ++ drop 80 ring)
    one_there = omega (arith, length-append p0 (drop 80 ring), some p0 (bit_at x 0) e0)

    two_there : d + d ≤ length (put_mid d l (p0 ++ drop 80 ring) p1)
    two_there =
        rw (length-append (take d (p0 ++ drop 80 ring)), length-take-le d (p0 ++ drop 80 ring) one_there, length-append p1) (omega (arith, some p1 (bit_at x 1) e1))

-- only the first d bytes count
pub turn_front : {d : ℕ} (x rest : List ℕ) → length x ≡ d → one_turn d (x ++ rest) ≡ one_turn d x
unfolding one_turn bit_at
turn_front {d} x rest e = ap₂ ◌++◌ (same 0) (ap₂ ◌++◌ (same 1) (same 2))
  where
    same : (s : ℕ) → tab d (bit_at (x ++ rest) s) ≡ tab d (bit_at x s)
    same s = tab_ext d (bit_at (x ++ rest) s) (bit_at x s) (λ i h. rw (get_or-append x rest 0 i (omega arith)))

pub length_one_turn : (d : ℕ) (x : List ℕ) → length (one_turn d x) ≡ d + (d + d)
unfolding one_turn
length_one_turn d x = simp (length-append, length_tab)

-- the turn over and over
pub repeated : {d : ℕ} {ring last : List ℕ} (out x : List ℕ) → Sized d → ring ≡ one_turn d x → last ≡ repeated_into ring out
    → last ≡ tab (length out) (turn_after_turn (one_turn d x))
unfolding repeated_into
repeated {d} {ring} out x z e h = h ∙ rw (e, ne_eqb (length (one_turn d x)) 0 (λ n. omega (arith, length_one_turn d x, z.least)))
