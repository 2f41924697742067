-- The places of a store in either form, 02 E7: of joined parts, of a front, and of a store that was brought into the form.
-- Assumes nothing.
use mathlib.Core.Path.{◌≡◌, refl, sym, ◌∙◌, ap, ap₂}
use mathlib.Core.Bool.{Bool, true, false, cond}
use mathlib.Core.List.{List, [], ◌++◌, map}
use Prim.Native.Nat.{ℕ, ◌+◌, ◌*◌, ◌/◌, ◌%◌, ◌≤◌}
use native.Mathlib.Decide.{dec_le}
use native.Mathlib.Nat.{mul-le-mul_left}
use native.Mathlib.Omega.{arith}
use lib.ListN.{length, get_or, take, drop, length-append, take-append-drop, get_or-append}
use lib.Seq.{length-take-le, take_all, take_at, get_or-append-add}
use Rattle.laws.specs.Lists.{tab}
use Rattle.laws.proofs.Tab.{tab_ext, tab_split}
use Rattle.packing.specs.Packing.{in_two_bits, standing_at, place_in, packed, unpacked}
use Rattle.packing.specs.Store.{places_a_byte, places_in, in_form}
use Rattle.packing.proofs.Forms.{length_packed, there_and_back}
use Rattle.packing.proofs.Stores.{places_are}
use Rattle.forms.proofs.Lists.{map-append}

unpacked_append : (a b : List ℕ) → unpacked (length (a ++ b)) (a ++ b) ≡ unpacked (length a) a ++ unpacked (length b) b
unfolding unpacked place_in
unpacked_append a b =
    ap (λ (m : ℕ). tab m (place_in (a ++ b))) times
    ∙ tab_split (4 * length a) (4 * length b) (place_in (a ++ b))
    ∙ ap₂ ◌++◌
    (tab_ext (4 * length a) _ _ (λ i h. ap (standing_at (i % 4)) (get_or-append a b 0 (i / 4) (omega arith))))
    (tab_ext (4 * length b) _ _ (λ k h. ap₂ (λ (m n : ℕ). standing_at m (get_or (a ++ b) n 0)) (low k) (byte k) ∙ ap (standing_at (k % 4)) (get_or-append-add a b (k / 4) 0)))
  where
    times : 4 * length (a ++ b) ≡ 4 * length a + 4 * length b
    times = omega (arith, length-append a b)

    low : (k : ℕ) → (4 * length a + k) % 4 ≡ k % 4
    low k = omega arith

    byte : (k : ℕ) → (4 * length a + k) / 4 ≡ length a + k / 4
    byte k = omega arith

pub places_append : (four : Bool) (a b : List ℕ) → places_in four (a ++ b) ≡ places_in four a ++ places_in four b
unfolding places_in
places_append true a b = unpacked_append a b
places_append false a b = refl

pub places_none : (four : Bool) → places_in four [] ≡ []
unfolding places_in unpacked tab
places_none true = refl
places_none false = refl

-- a front of the bytes
pub places_take : (four : Bool) (k : ℕ) (l : List ℕ) → places_in four (take k l) ≡ take (places_a_byte four * k) (places_in four l)
places_take four k l = elim (dec_le k (length l)) [
  | yes h ↦
      sym (take_at (places_in four (take k l)) (places_in four (drop k l)) (places_a_byte four * k) (places_are four (take k l) ∙ ap (λ (m : ℕ). places_a_byte four * m) (length-take-le k l h)))
      ∙ ap (take (places_a_byte four * k)) (sym (places_append four (take k l) (drop k l)) ∙ ap (places_in four) (take-append-drop k l))
  | no h ↦
      let all : length l ≤ k = omega arith in
      ap (places_in four) (take_all k l all)
      ∙ sym (take_all (places_a_byte four * k) (places_in four l) (rw (places_are four l) (mul-le-mul_left (places_a_byte four) all)))
]

-- what a form keeps of places: four in a byte have two bits each
abbrev pub kept_in : Bool → List ℕ → List ℕ
kept_in four places = cond four (map in_two_bits places) places

pub kept_append : (four : Bool) (a b : List ℕ) → kept_in four (a ++ b) ≡ kept_in four a ++ kept_in four b
kept_append true a b = map-append in_two_bits a b
kept_append false a b = refl

-- places that fill whole bytes, brought into the form
pub form_places : (four : Bool) (n : ℕ) (places : List ℕ) → length places ≡ places_a_byte four * n → places_in four (in_form four places) ≡ kept_in four places
unfolding places_in in_form places_a_byte
form_places true n places e =
    ap (λ (m : ℕ). unpacked m (packed (length places / 4) places)) (length_packed (length places / 4) places)
    ∙ there_and_back (length places / 4) places (omega arith)
form_places false n places e = refl
