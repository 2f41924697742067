-- The change of form of one room: its refusals in their order, and what is written where none applies.
-- Assumes nothing.
use mathlib.Core.Path.{◌≡◌, refl, ◌∙◌, ap, ap₂}
use mathlib.Core.Bool.{true, false, cond}
use mathlib.Core.List.{List, [], ◌∷◌, ◌++◌, append-nil}
use Prim.Native.Nat.{ℕ, ◌+◌, ◌*◌, ◌/◌, ◌≤◌, ◌<◌, min}
use native.Mathlib.Omega.{arith}
use lib.Dec.{eqb, ltb}
use lib.ListN.{length, get_or, take, drop, drop_of_length-le}
use lib.Seq.{length-take-le, get_or-take}
use borrow.Author.Tests.{eqb-false, ltb-false, lt-ltb, le-ltb}
use Rattle.laws.proofs.Tab.{tab_ext}
use Rattle.refusals.specs.Refusals.{first_of}
use Rattle.refusals.proofs.Refusals.{passed, listed}
use Rattle.codeword.proofs.Accepted.{or-false}
use Rattle.packing.specs.Packing.{four_in, packed_at, packed, packed_over, standing_at, place_in, unpacked, unpacked_over}
use Rattle.packing.specs.Change.{bad_blocks, blocks_rule, bytes_rule, change_number}

-- ---- the refusals

pub in_range : (M : ℕ) → bad_blocks M ≡ false → (0 < M) × (M ≤ 5)
unfolding bad_blocks
in_range M e = let both = or-false (eqb M 0) (ltb 5 M) e in (omega (arith, eqb-false M 0 both.0), ltb-false 5 M both.1)

module _ (M from to needed written : ℕ) (x l : List ℕ) where
  -- the number k, and the buffer as `out`
  abbrev Answered : ℕ → List ℕ → Type 0
  Answered k out =
      (k ≡ change_number M from to needed written) × (out ≡ cond (eqb (change_number M from to needed written) 0) x l)

  pub refused_13 : bad_blocks M ≡ true → Answered 13 l
  unfolding change_number first_of
  refused_13 e = (simp e, simp e)

  pub refused_5 : bad_blocks M ≡ false → from < needed → Answered 5 l
  unfolding change_number first_of
  refused_5 e h = (simp (e, lt-ltb from needed h), simp (e, lt-ltb from needed h))

  pub refused_5_too : bad_blocks M ≡ false → needed ≤ from → to < written → Answered 5 l
  unfolding change_number first_of
  refused_5_too e h g = (simp (e, le-ltb from needed h, lt-ltb to written g), simp (e, le-ltb from needed h, lt-ltb to written g))

  pub accepted : {out : List ℕ} → bad_blocks M ≡ false → needed ≤ from → written ≤ to → out ≡ x → Answered 0 out
  unfolding change_number first_of
  accepted e h g o = (simp (e, le-ltb from needed h, le-ltb to written g), o ∙ simp (e, le-ltb from needed h, le-ltb to written g))

-- number 0: M is in range, and both buffers are long enough
pub record Changeable (M from to needed written : ℕ) : Type 0 where
  pub few : M ≤ 5
  pub read : needed ≤ from
  pub room : written ≤ to

pub changeable : (M from to needed written : ℕ) → 0 ≡ change_number M from to needed written → Changeable M from to needed written
unfolding change_number
changeable M from to needed written z =
    let clear = passed (blocks_rule M ∷ bytes_rule needed from ∷ bytes_rule written to ∷ []) z refl tt in
    record {
      few = (in_range M (clear (blocks_rule M) (search listed))).1;
      read = ltb-false from needed (clear (bytes_rule needed from) (search listed));
      room = ltb-false to written (clear (bytes_rule written to) (search listed));
    }

-- ---- what is written

-- two lists that agree on the places, or on the bytes
pub packed_ext : (n : ℕ) (a b : List ℕ) → ((j : ℕ) → j < 4 * n → get_or a j 0 ≡ get_or b j 0) → packed n a ≡ packed n b
unfolding packed packed_at
packed_ext n a b h =
    tab_ext n (packed_at a) (packed_at b)
    (λ i l.
    ap₂ (λ (x y : ℕ). four_in x y (get_or a (4 * i + 2) 0) (get_or a (4 * i + 3) 0)) (h (4 * i) (omega arith)) (h (4 * i + 1) (omega arith))
    ∙ ap₂ (λ (x y : ℕ). four_in (get_or b (4 * i) 0) (get_or b (4 * i + 1) 0) x y) (h (4 * i + 2) (omega arith)) (h (4 * i + 3) (omega arith)))

pub unpacked_ext : (n : ℕ) (a b : List ℕ) → ((i : ℕ) → i < n → get_or a i 0 ≡ get_or b i 0) → unpacked n a ≡ unpacked n b
unfolding unpacked place_in
unpacked_ext n a b h = tab_ext (4 * n) (place_in a) (place_in b) (λ j l. ap (standing_at _) (h (j / 4) (omega arith)))

-- a front of n bytes was lent, with the places for them
pub packed_front : (n : ℕ) (from to : List ℕ) {part : List ℕ} → 4 * n ≤ length from → n ≤ length to
    → part ≡ packed_over (min (length (take (4 * n) from) / 4) (length (take n to))) (take (4 * n) from) (take n to) → part ++ drop n to ≡ packed_over n from to
unfolding packed_over
packed_front n from to {part} h g e =
    ap (λ (l : List ℕ). l ++ drop n to)
    (e
    ∙ ap (λ (m : ℕ). packed m (take (4 * n) from) ++ drop m (take n to)) all
    ∙ ap₂ (λ (a b : List ℕ). a ++ b) (packed_ext n (take (4 * n) from) from (λ j l. get_or-take (4 * n) from j 0 l)) none
    ∙ append-nil (packed n from))
  where
    all : min (length (take (4 * n) from) / 4) (length (take n to)) ≡ n
    all = rw (length-take-le (4 * n) from h, length-take-le n to g) (omega arith)

    none : drop n (take n to) ≡ []
    none = drop_of_length-le (take n to) {i = n} (omega (arith, length-take-le n to g))

pub unpacked_front : (n : ℕ) (from to : List ℕ) {part : List ℕ} → n ≤ length from → 4 * n ≤ length to
    → part ≡ unpacked_over (min (length (take n from)) (length (take (4 * n) to) / 4)) (take n from) (take (4 * n) to) → part ++ drop (4 * n) to ≡ unpacked_over n from to
unfolding unpacked_over
unpacked_front n from to {part} h g e =
    ap (λ (l : List ℕ). l ++ drop (4 * n) to)
    (e
    ∙ ap (λ (m : ℕ). unpacked m (take n from) ++ drop (4 * m) (take (4 * n) to)) all
    ∙ ap₂ (λ (a b : List ℕ). a ++ b) (unpacked_ext n (take n from) from (λ i l. get_or-take n from i 0 l)) none
    ∙ append-nil (unpacked n from))
  where
    all : min (length (take n from)) (length (take (4 * n) to) / 4) ≡ n
    all = rw (length-take-le n from h, length-take-le (4 * n) to g) (omega arith)

    none : drop (4 * n) (take (4 * n) to) ≡ []
    none = drop_of_length-le (take (4 * n) to) {i = 4 * n} (omega (arith, length-take-le (4 * n) to g))

-- the same for a front of `long` places
pub packed_room : (n long : ℕ) → long ≡ 4 * n → (from to : List ℕ) {part : List ℕ} → long ≤ length from → n ≤ length to
    → part ≡ packed_over (min (length (take long from) / 4) (length (take n to))) (take long from) (take n to) → part ++ drop n to ≡ packed_over n from to
packed_room n long q from to h g e = packed_front n from to (rw q at h) g (rw q at e)

pub unpacked_room : (n long : ℕ) → long ≡ 4 * n → (from to : List ℕ) {part : List ℕ} → n ≤ length from → long ≤ length to
    → part ≡ unpacked_over (min (length (take n from)) (length (take long to) / 4)) (take n from) (take long to) → part ++ drop long to ≡ unpacked_over n from to
unpacked_room n long q from to h g e = rw q (unpacked_front n from to h (rw q at g) (rw q at e))
