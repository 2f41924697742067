-- Laws of a store in one of two forms, 02 E7: how many places it keeps, what a part of it keeps, and what it keeps when a part came back.
-- Assumes nothing.
use mathlib.Core.Path.{◌≡◌, refl, sym, ◌∙◌, ap, ap₂}
use mathlib.Core.Bool.{Bool, true, false, not}
use mathlib.Core.List.{List, ◌∷◌, ◌++◌}
use Prim.Native.Nat.{ℕ, ◌+◌, ◌-◌, ◌*◌, ◌/◌, ◌%◌, ◌≤◌, ◌<◌, min}
use native.Mathlib.Nat.{mul-le-mul_right}
use native.Mathlib.Decide.{dec_lt}
use native.Mathlib.Omega.{arith}
use lib.Dec.{ltb}
use lib.ListN.{length, get_or}
use lib.Seq.{ext_get_or}
use borrow.Author.Tests.{lt-ltb, le-ltb}
use borrow.Rule.Slice.PartMut.{mid_of, put_mid}
use Rattle.laws.specs.Bits.{EachBelow}
use Rattle.laws.proofs.Parts.{length_mid, get_or_mid, length_put, get_or_put_before, get_or_put_in, get_or_put_after}
use Rattle.laws.proofs.Tab.{get_or_tab}
use Rattle.refusals.specs.Refusals.{Rule, rule, first_of}
use Rattle.slots.specs.declared.State.{State}
use Rattle.slots.specs.State.{room_length, store_length, bad_state}
use Rattle.slots.specs.Calls.{store_rules}
use Rattle.slots.proofs.Accepted.{good}
use Rattle.packing.specs.Packing.{standing_at, place_in, packed, unpacked}
use Rattle.packing.specs.Store.{places_a_byte, places_in, in_form, places_asked}
use Rattle.packing.proofs.Forms.{length_unpacked, back_and_there}

-- place j of unpacked bytes
pub get_or_unpacked : (n : ℕ) (bytes : List ℕ) (j : ℕ) → j < 4 * n → get_or (unpacked n bytes) j 0 ≡ place_in bytes j
unfolding unpacked
get_or_unpacked n bytes j h = get_or_tab (4 * n) (place_in bytes) j 0 h

-- a part of the bytes keeps a part of the places
unpacked_mid : (a k : ℕ) (l : List ℕ) → a + k ≤ length l → mid_of (4 * a) (4 * k) (unpacked (length l) l) ≡ unpacked k (mid_of a k l)
unfolding place_in
unpacked_mid a k l h =
    ext_get_or 0 (mid_of (4 * a) (4 * k) (unpacked (length l) l)) (unpacked k (mid_of a k l))
    (long ∙ sym (length_unpacked k (mid_of a k l)))
    (λ j g.
    let below : j < 4 * k = omega (arith, long) in
    get_or_mid (4 * a) (4 * k) (unpacked (length l) l) j 0 below
    ∙ get_or_unpacked (length l) l (4 * a + j) (omega arith)
    ∙ same j below
    ∙ sym (get_or_unpacked k (mid_of a k l) j below))
  where
    left : 4 * a + 4 * k - 4 * a ≡ 4 * k
    left = omega arith

    long : length (mid_of (4 * a) (4 * k) (unpacked (length l) l)) ≡ 4 * k
    long = ap (λ (m : ℕ). length (mid_of (4 * a) m (unpacked (length l) l))) (sym left) ∙ length_mid (4 * a) (4 * a + 4 * k) (unpacked (length l) l) (omega (arith, length_unpacked (length l) l)) ∙ left

    low : (j : ℕ) → (4 * a + j) % 4 ≡ j % 4
    low j = omega arith

    byte : (j : ℕ) → (4 * a + j) / 4 ≡ a + j / 4
    byte j = omega arith

    same : (j : ℕ) → j < 4 * k → place_in l (4 * a + j) ≡ place_in (mid_of a k l) j
    same j g =
        ap₂ (λ (m n : ℕ). standing_at m (get_or l n 0)) (low j) (byte j)
        ∙ ap (standing_at (j % 4)) (sym (get_or_mid a k l (j / 4) 0 (omega arith)))

pub places_are : (four : Bool) (l : List ℕ) → length (places_in four l) ≡ places_a_byte four * length l
unfolding places_in places_a_byte
places_are true l = length_unpacked (length l) l
places_are false l = omega arith

-- the bytes with a part that came back keep the places with that part's
unpacked_put : (a k : ℕ) (l part : List ℕ) → a + k ≤ length l → length part ≡ k
    → unpacked (length (put_mid a k l part)) (put_mid a k l part) ≡ put_mid (4 * a) (4 * k) (unpacked (length l) l) (unpacked k part)
unfolding place_in
unpacked_put a k l part h e =
    ext_get_or 0 (unpacked (length put) put) (put_mid (4 * a) (4 * k) all (unpacked k part)) whole entry
  where
    put : List ℕ
    put = put_mid a k l part

    all : List ℕ
    all = unpacked (length l) l

    left : (a k : ℕ) → a + k - a ≡ k
    left a k = omega arith

    same : length put ≡ length l
    same = ap (λ (m : ℕ). length (put_mid a m l part)) (sym (left a k)) ∙ length_put a (a + k) l part h (e ∙ sym (left a k))

    again : length (put_mid (4 * a) (4 * k) all (unpacked k part)) ≡ 4 * length l
    again =
        ap (λ (m : ℕ). length (put_mid (4 * a) m all (unpacked k part))) (sym (left (4 * a) (4 * k)))
        ∙ length_put (4 * a) (4 * a + 4 * k) all (unpacked k part) (omega (arith, length_unpacked (length l) l)) (length_unpacked k part ∙ sym (left (4 * a) (4 * k)))
        ∙ length_unpacked (length l) l

    whole : length (unpacked (length put) put) ≡ length (put_mid (4 * a) (4 * k) all (unpacked k part))
    whole = length_unpacked (length put) put ∙ ap (λ (m : ℕ). 4 * m) same ∙ sym again

    was : (j : ℕ) → j < 4 * length l → get_or all j 0 ≡ standing_at (j % 4) (get_or l (j / 4) 0)
    was j g = get_or_unpacked (length l) l j g

    after : (a k : ℕ) (xs ys : List ℕ) (i : ℕ) → a + k ≤ length xs → length ys ≡ k → a + k ≤ i → get_or (put_mid a k xs ys) i 0 ≡ get_or xs i 0
    after a k xs ys i h e l =
        ap (λ (m : ℕ). get_or (put_mid a m xs ys) i 0) (sym (left a k))
        ∙ get_or_put_after a (a + k) xs ys i 0 (omega arith) h (e ∙ sym (left a k)) l

    long : length all ≡ 4 * length l
    long = length_unpacked (length l) l

    entry : (j : ℕ) → j < length (unpacked (length put) put) → get_or (unpacked (length put) put) j 0 ≡ get_or (put_mid (4 * a) (4 * k) all (unpacked k part)) j 0
    entry j g = is ∙ elim (dec_lt j (4 * a)) [
      | yes b ↦
          ap (standing_at (j % 4)) (get_or_put_before a k l part (j / 4) 0 (omega arith) (omega arith))
          ∙ sym (was j below)
          ∙ sym (get_or_put_before (4 * a) (4 * k) all (unpacked k part) j 0 (omega (arith, long)) b)
      | no b ↦ elim (dec_lt j (4 * a + 4 * k)) [
        | yes c ↦
            let place : j / 4 ≡ a + (j / 4 - a) = omega arith in
            let low : j % 4 ≡ (j - 4 * a) % 4 = omega arith in
            let byte : j / 4 - a ≡ (j - 4 * a) / 4 = omega arith in
            let back : 4 * a + (j - 4 * a) ≡ j = omega arith in
            ap (λ (m : ℕ). standing_at (j % 4) (get_or put m 0)) place
            ∙ ap (standing_at (j % 4)) (get_or_put_in a k l part (j / 4 - a) 0 (omega arith) (omega arith))
            ∙ ap₂ (λ (m n : ℕ). standing_at m (get_or part n 0)) low byte
            ∙ sym (get_or_unpacked k part (j - 4 * a) (omega arith))
            ∙ sym (get_or_put_in (4 * a) (4 * k) all (unpacked k part) (j - 4 * a) 0 (omega (arith, long)) (omega (arith, length_unpacked k part)))
            ∙ ap (λ (m : ℕ). get_or (put_mid (4 * a) (4 * k) all (unpacked k part)) m 0) back
        | no c ↦
            ap (standing_at (j % 4)) (after a k l part (j / 4) h e (omega arith))
            ∙ sym (was j below)
            ∙ sym (after (4 * a) (4 * k) all (unpacked k part) j (omega (arith, long)) (length_unpacked k part) (omega arith))
      ]
    ]
      where
        below : j < 4 * length l
        below = omega (arith, length_unpacked (length put) put, same)

        is : get_or (unpacked (length put) put) j 0 ≡ standing_at (j % 4) (get_or put (j / 4) 0)
        is = get_or_unpacked (length put) put j (omega (arith, length_unpacked (length put) put))

-- ---- either form

-- the places of the part of the store from byte a to byte b
pub places_mid : (four : Bool) (a b : ℕ) (l : List ℕ) → a ≤ b → b ≤ length l
    → places_in four (mid_of a (b - a) l) ≡ mid_of (places_a_byte four * a) (places_a_byte four * b - places_a_byte four * a) (places_in four l)
unfolding places_in places_a_byte
places_mid true a b l g h =
    ap (λ (m : ℕ). unpacked m (mid_of a (b - a) l)) (length_mid a b l h)
    ∙ sym (unpacked_mid a (b - a) l (omega arith))
    ∙ ap (λ (m : ℕ). mid_of (4 * a) m (unpacked (length l) l)) times
  where
    times : 4 * (b - a) ≡ 4 * b - 4 * a
    times = omega arith
places_mid false a b l g h = rw (one a, one b)
  where
    one : (n : ℕ) → 1 * n ≡ n
    one n = omega arith

pub places_put : (four : Bool) (a b : ℕ) (l part : List ℕ) → a ≤ b → b ≤ length l → length part ≡ b - a
    → places_in four (put_mid a (b - a) l part) ≡ put_mid (places_a_byte four * a) (places_a_byte four * b - places_a_byte four * a) (places_in four l) (places_in four part)
unfolding places_in places_a_byte
places_put true a b l part g h e =
    unpacked_put a (b - a) l part (omega arith) e
    ∙ ap₂ (λ (m n : ℕ). put_mid (4 * a) m (unpacked (length l) l) (unpacked n part)) times (sym e)
  where
    times : 4 * (b - a) ≡ 4 * b - 4 * a
    times = omega arith
places_put false a b l part g h e = rw (one a, one b)
  where
    one : (n : ℕ) → 1 * n ≡ n
    one n = omega arith

-- the store from the places that it keeps
pub form_back : (four : Bool) (l : List ℕ) → EachBelow 256 l → in_form four (places_in four l) ≡ l
unfolding places_in in_form
form_back true l below = ap (λ (n : ℕ). packed n (unpacked (length l) l)) quarter ∙ back_and_there (length l) l refl below
  where
    quarter : length (unpacked (length l) l) / 4 ≡ length l
    quarter = rw (length_unpacked (length l) l) (omega arith)
form_back false l below = refl

-- ---- how long the store must be

abbrev unless_13 : Bool → ℕ → ℕ
unless_13 bad n = elim bad [ true ↦ 13 | false ↦ n ]

-- the store's rules say the same of two lengths that are both enough or both too short for a good state
pub same_rules : (state : State) (a b slot : ℕ) (rest : List Rule) → (bad_state state ≡ false → ltb a (store_length state) ≡ ltb b (store_length state))
    → first_of (store_rules state a slot ++ rest) ≡ first_of (store_rules state b slot ++ rest)
unfolding store_rules first_of
same_rules state a b slot rest h = go (bad_state state) refl
  where
    go : (bad : Bool) → bad_state state ≡ bad
        → unless_13 bad (first_of (rule (ltb a (store_length state)) 5 ∷ rule (not (ltb slot state.slots)) 6 ∷ rest))
        ≡ unless_13 bad (first_of (rule (ltb b (store_length state)) 5 ∷ rule (not (ltb slot state.slots)) 6 ∷ rest))
    go true e = refl
    go false e = ap (λ (t : Bool). first_of (rule t 5 ∷ rule (not (ltb slot state.slots)) 6 ∷ rest)) (h e)

-- no store needs more than 8 rooms of 5 code blocks
store_most : (state : State) → bad_state state ≡ false → store_length state ≤ 741120
unfolding store_length room_length
store_most state e = let w = (good state e).shape in omega (arith, w.blocks_most, mul-le-mul_right (state.blocks * 18528) w.slots_most)

-- what a call asks is what the store has
pub asked_enough : (four : Bool) (state : State) (l : List ℕ) (slot : ℕ) (rest : List Rule)
    → first_of (store_rules state (places_asked four (length l)) slot ++ rest) ≡ first_of (store_rules state (length (places_in four l)) slot ++ rest)
unfolding places_asked places_in
asked_enough false state l slot rest = refl
asked_enough true state l slot rest = same_rules state (4 * min (length l) 185280) (length (unpacked (length l) l)) slot rest (λ e. rw (length_unpacked (length l) l) (both (store_length state) (store_most state e) (dec_lt (4 * length l) (store_length state))))
  where
    both : (L : ℕ) → L ≤ 741120 → Dec (4 * length l < L) → ltb (4 * min (length l) 185280) L ≡ ltb (4 * length l) L
    both L h (yes g) = let m : 4 * min (length l) 185280 < L = omega arith in rw (lt-ltb _ _ m, lt-ltb _ _ g)
    both L h (no g) = let m : L ≤ 4 * min (length l) 185280 = omega arith in let k : L ≤ 4 * length l = omega arith in rw (le-ltb _ _ m, le-ltb _ _ k)
