-- A list after a part of it was lent as `&mut s[a..b]` and came back: the borrow checker shows `put_mid a (b - a) xs ys`, with ys what the
-- callee left in the part (`c.CALLEE.new.s`), and gives the callee the list `mid_of a (b - a) xs`. After `&mut s[..b]` it shows `ys ++ drop b xs`.
-- In an answer: `returns c = put_as _ _ _ c.CALLEE.ensures (omega arith) ∙ ..`, then `put_is`, `length_mid` or `length_put`; a
-- goal `slice_bounds-CALLEE-end-2` of `&mut s[..b]` or `&s[..b]` is `front_count _ _ (omega arith)`.
-- Assumes nothing.
use mathlib.Core.Path.{◌≡◌, sym, ◌∙◌, ap, ap₂}
use mathlib.Core.List.{List, ◌++◌, append-nil}
use Prim.Native.Nat.{ℕ, ◌+◌, ◌-◌, ◌≤◌, ◌<◌}
use native.Mathlib.Omega.{arith}
use lib.ListN.{length, get_or, take, drop, replicate, length-append, length-replicate, get_or-append}
use lib.Seq.{length-take-le, take_at, drop-length, get_or-take, get_or-drop, get_or-append-add}
use borrow.Rule.Slice.PartMut.{mid_of, put_mid, same_len_mid, mid_len, Post-is, drop_put}

module _ {A : Type 0} where
  -- ---- the part that is lent

  pub length_mid : (a b : ℕ) (xs : List A) → b ≤ length xs → length (mid_of a (b - a) xs) ≡ b - a
  length_mid a b xs h = mid_len a b xs h

  pub get_or_mid : (a k : ℕ) (xs : List A) (j : ℕ) (d : A) → j < k → get_or (mid_of a k xs) j d ≡ get_or xs (a + j) d
  get_or_mid a k xs j d h = get_or-take k (drop a xs) j d h ∙ get_or-drop a xs j d

  -- the count of a front part
  pub front_count : (b : ℕ) (xs : List A) → b ≤ length xs → b ≡ length (take b xs)
  front_count b xs h = sym (length-take-le b xs h)

  -- and that of a fresh room of N entries
  pub fresh_count : (x : A) (N b : ℕ) → b ≤ N → b ≡ length (take b (replicate N x))
  fresh_count x N b h = front_count b (replicate N x) (rw (length-replicate N x) h)

  -- ---- the whole, when the part is back

  pub put_is : (a b : ℕ) (xs ys : List A) → a ≤ b → put_mid a (b - a) xs ys ≡ take a xs ++ (ys ++ drop b xs)
  put_is a b xs ys h = ap (λ (l : List A). take a xs ++ (ys ++ l)) (Post-is a b xs h)

  -- the same with what the callee says of its part
  pub put_as : (a b : ℕ) (xs : List A) {ys zs : List A} → ys ≡ zs → a ≤ b → put_mid a (b - a) xs ys ≡ take a xs ++ (zs ++ drop b xs)
  put_as a b xs {ys} {zs} e h = put_is a b xs ys h ∙ ap (λ (l : List A). take a xs ++ (l ++ drop b xs)) e

  pub length_put : (a b : ℕ) (xs ys : List A) → b ≤ length xs → length ys ≡ b - a → length (put_mid a (b - a) xs ys) ≡ length xs
  length_put a b xs ys h e = same_len_mid a (b - a) xs ys (e ∙ sym (mid_len a b xs h))

  -- before the part, in it and after it
  pub get_or_put_before : (a k : ℕ) (xs ys : List A) (i : ℕ) (d : A) → a ≤ length xs → i < a → get_or (put_mid a k xs ys) i d ≡ get_or xs i d
  get_or_put_before a k xs ys i d h l = get_or-append (take a xs) (ys ++ drop k (drop a xs)) d i (rw (length-take-le a xs) l) ∙ get_or-take a xs i d l

  pub get_or_put_in : (a k : ℕ) (xs ys : List A) (j : ℕ) (d : A) → a ≤ length xs → j < length ys → get_or (put_mid a k xs ys) (a + j) d ≡ get_or ys j d
  get_or_put_in a k xs ys j d h l =
      ap (λ (m : ℕ). get_or (put_mid a k xs ys) (m + j) d) (sym (length-take-le a xs h))
      ∙ get_or-append-add (take a xs) (ys ++ drop k (drop a xs)) j d
      ∙ get_or-append ys (drop k (drop a xs)) d j l

  pub get_or_put_after : (a b : ℕ) (xs ys : List A) (i : ℕ) (d : A) → a ≤ b → b ≤ length xs → length ys ≡ b - a → b ≤ i → get_or (put_mid a (b - a) xs ys) i d ≡ get_or xs i d
  get_or_put_after a b xs ys i d h g e l =
      ap (λ (m : ℕ). get_or (put_mid a (b - a) xs ys) m d) place
      ∙ sym (get_or-drop b (put_mid a (b - a) xs ys) (i - b) d)
      ∙ ap (λ (r : List A). get_or r (i - b) d) (drop_put a b xs ys h g e)
      ∙ get_or-drop b xs (i - b) d
      ∙ ap (λ (m : ℕ). get_or xs m d) (sym place)
    where
      place : i ≡ b + (i - b)
      place = omega arith

  -- ---- the front came back as `first`, and the rest is lent

  module _ (first rest : List A) (n : ℕ) (e : length first ≡ n) where
    fits : n ≤ length (first ++ rest)
    fits = omega (arith, length-append first rest)

    pub rest_lent : length (mid_of n (length (first ++ rest) - n) (first ++ rest)) ≡ length rest
    rest_lent = length_mid n (length (first ++ rest)) (first ++ rest) (omega arith) ∙ left
      where
        left : length (first ++ rest) - n ≡ length rest
        left = omega (arith, length-append first rest)

    pub rest_back : (second : List A) → put_mid n (length (first ++ rest) - n) (first ++ rest) second ≡ first ++ second
    rest_back second =
        put_is n (length (first ++ rest)) (first ++ rest) second fits
        ∙ ap₂ (λ (a b : List A). a ++ (second ++ b)) (take_at first rest n e) (drop-length (first ++ rest))
        ∙ ap (λ (l : List A). first ++ l) (append-nil second)
