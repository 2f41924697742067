-- A block that lies in two slices: a part of the joined list is what each slice has of it, and a block with a slice that is too long is too long.
-- Assumes nothing.
use mathlib.Core.Path.{◌≡◌, sym, ◌∙◌, ap}
use mathlib.Core.Bool.{true}
use mathlib.Core.List.{List, ◌++◌, append-nil, append_assoc}
use Prim.Native.Nat.{ℕ, min, ◌+◌, ◌-◌, ◌≤◌, ◌<◌}
use native.Mathlib.Nat.{sub-zero}
use native.Mathlib.Decide.{dec_le}
use native.Mathlib.Omega.{arith}
use lib.ListN.{length, take, drop, replicate, length-append, length-drop, length-replicate}
use lib.Seq.{take-append-le, take-append-add, drop-append-le, drop-append-add, drop_at, drop-drop}
use borrow.Author.Tests.{lt-ltb, ne_eqb}
use borrow.Rule.Slice.PartMut.{mid_of, put_mid}
use Rattle.laws.proofs.Parts.{rest_back}
use Rattle.segmentation.specs.declared.Segments.{Segments}
use Rattle.segmentation.specs.Into.{filled_with}
use Rattle.segmentation.specs.Sizes.{bad_size, segments_for}
use Rattle.segmentation.proofs.Tails.{tail_lent}

-- ---- the segmentation

bad_long : {A : ℕ} → 30576 < A → bad_size A ≡ true
unfolding bad_size
bad_long {A} h = simp (ne_eqb A 0 (λ e. omega arith), lt-ltb 30576 A h)

pub too_long : {A B : ℕ} → 30576 < A → A ≤ B → segments_for A ≡ segments_for B
unfolding segments_for
too_long {A} {B} h l = let k : 30576 < B = omega arith in simp (bad_long h, bad_long k)

-- the joined list's length is the sum
pub of_joined : (x y : List ℕ) {s : Segments} → s ≡ segments_for (length x + length y) → s ≡ segments_for (length (x ++ y))
of_joined x y e = e ∙ ap segments_for (sym (length-append x y))

-- ---- a part

module _ (x y : List ℕ) (from to : ℕ) (order : from ≤ to) where
  -- all of it lies in y
  later : length x ≤ from
      → mid_of (length x) (length x - length x) x ++ mid_of (from - length x) (to - length x - (from - length x)) y ≡ mid_of from (to - from) (x ++ y)
  later l = rw (none, count) (ap (take (to - from)) (sym (drop-append-add x y (from - length x)) ∙ ap (λ (n : ℕ). drop n (x ++ y)) whole))
    where
      none : length x - length x ≡ 0
      none = omega arith

      count : to - length x - (from - length x) ≡ to - from
      count = omega arith

      whole : length x + (from - length x) ≡ from
      whole = omega arith

  -- all of it lies in x
  earlier : to ≤ length x → mid_of from (to - from) x ++ mid_of (from - from) (to - to - (from - from)) y ≡ mid_of from (to - from) (x ++ y)
  earlier l =
      rw (none, append-nil)
      (sym (ap (take (to - from)) (drop-append-le from x y (omega arith)) ∙ take-append-le (to - from) (drop from x) y (rw (length-drop from x) (omega arith))))
    where
      none : to - to - (from - from) ≡ 0
      none = omega arith

  -- it begins in x and ends in y
  across : from ≤ length x → length x ≤ to
      → mid_of from (length x - from) x ++ mid_of (from - from) (to - length x - (from - from)) y ≡ mid_of from (to - from) (x ++ y)
  across s l =
      rw (none, sub-zero, tail_lent from x)
      (sym (ap (take (to - from)) (drop-append-le from x y s) ∙ ap (λ (n : ℕ). take n (drop from x ++ y)) (sym whole) ∙ take-append-add (drop from x) y (to - length x)))
    where
      none : from - from ≡ 0
      none = omega arith

      whole : length (drop from x) + (to - length x) ≡ to - from
      whole = rw (length-drop from x) (omega arith)

-- how many bits the two have of it
counts : (from to : ℕ) {a b : ℕ} → a ≤ b → a ≤ from → from - a ≤ to - b → b ≤ to → b - a + (to - b - (from - a)) ≡ to - from
counts from to h l m k = omega arith

-- the bits of x ++ y from `from` to `to`, of which x has those from a to b
pub record Shared (x y : List ℕ) (from to a b : ℕ) : Type 0 where
  pub joined : mid_of a (b - a) x ++ mid_of (from - a) (to - b - (from - a)) y ≡ mid_of from (to - from) (x ++ y)
  pub count : b - a + (to - b - (from - a)) ≡ to - from
  pub first_end_lem : b ≤ length x
  pub second_end_lem : to - b ≤ length y

pub shared : (x y : List ℕ) {from to a b : ℕ} → a ≡ min from (length x) → b ≡ min to (length x) → from ≤ to → to ≤ length x + length y
    → Shared x y from to a b
shared x y {from} {to} {a} {b} e f h w = record {
  joined = elim (dec_le (length x) from) [
    | yes l ↦ let p : a ≡ length x = omega arith in let q : b ≡ length x = omega arith in rw (q, p) (later x y from to h l)
    | no g ↦ elim (dec_le to (length x)) [
      | yes l ↦ let p : a ≡ from = omega arith in let q : b ≡ to = omega arith in rw (q, p) (earlier x y from to h l)
      | no k ↦ let p : a ≡ from = omega arith in let q : b ≡ length x = omega arith in rw (q, p) (across x y from to h (omega arith) (omega arith))
    ]
  ];
  count = counts from to (omega arith) (omega arith) (omega arith) (omega arith);
  first_end_lem = omega arith;
  second_end_lem = omega arith;
}

-- what is left of n behind a place has room for k
pub behind : (k place n : ℕ) → place + k ≤ n → k ≤ n - place
behind k place n h = omega arith

-- ---- what is written

-- zeros and a part over the front of c, and another part after them
pub filled_both : (zeros : ℕ) {at : ℕ} (p q c : List ℕ) {put back : List ℕ} → at ≡ zeros + length p → put ≡ filled_with zeros p c
    → back ≡ q ++ drop (length q) (mid_of at (length put - at) put) → put_mid at (length put - at) put back ≡ filled_with zeros (p ++ q) c
filled_both zeros {at} p q c {put} {back} at_is e f =
    ap (λ (l : List ℕ). put_mid at (length l - at) l back) joined
    ∙ rest_back held rest at held_long back
    ∙ ap (λ (l : List ℕ). held ++ l) (f ∙ ap (λ (l : List ℕ). q ++ drop (length q) l) lent)
    ∙ append_assoc (replicate {A = ℕ} zeros 0) p (q ++ drop (length q) rest)
    ∙ ap (λ (l : List ℕ). replicate {A = ℕ} zeros 0 ++ l) (sym (append_assoc p q (drop (length q) rest)) ∙ ap (λ (l : List ℕ). (p ++ q) ++ l) left)
  where
    held : List ℕ
    held = replicate {A = ℕ} zeros 0 ++ p

    rest : List ℕ
    rest = drop (zeros + length p) c

    joined : put ≡ held ++ rest
    joined = e ∙ sym (append_assoc (replicate {A = ℕ} zeros 0) p rest)

    held_long : length held ≡ at
    held_long = rw (length-append, length-replicate {A = ℕ} zeros 0) (sym at_is)

    lent : mid_of at (length put - at) put ≡ rest
    lent = tail_lent at put ∙ ap (drop at) joined ∙ drop_at held rest at held_long

    left : drop (length q) rest ≡ drop (zeros + length (p ++ q)) c
    left = drop-drop (length q) (zeros + length p) c ∙ ap (λ (n : ℕ). drop n c) count
      where
        count : zeros + length p + length q ≡ zeros + length (p ++ q)
        count = omega (arith, length-append p q)
