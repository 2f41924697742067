-- The two forms of a list of places, 02 E7: there and back gives the places with values above 3 become 2, back and there gives the bytes themselves.
-- Assumes nothing.
use mathlib.Core.Path.{◌≡◌, sym, ◌∙◌, ap, ap₂}
use mathlib.Core.List.{List, map}
use Prim.Native.Nat.{ℕ, ◌+◌, ◌*◌, ◌/◌, ◌%◌, ◌<◌}
use native.Mathlib.Nat.{add-zero}
use native.Mathlib.Omega.{arith}
use lib.ListN.{length, get_or, length-map, get_or-map}
use lib.Seq.{ext_get_or}
use Rattle.laws.specs.Bits.{EachBelow}
use Rattle.laws.specs.Lists.{tab}
use Rattle.laws.proofs.Tab.{length_tab, get_or_tab}
use Rattle.packing.specs.Packing.{in_two_bits, four_in, packed_at, packed, standing_at, place_in, unpacked}
use Rattle.packing.proofs.Places.{standing_packed, place_at, four_of_byte}

pub length_packed : (n : ℕ) (places : List ℕ) → length (packed n places) ≡ n
unfolding packed
length_packed n places = length_tab n (packed_at places)

pub length_unpacked : (n : ℕ) (bytes : List ℕ) → length (unpacked n bytes) ≡ 4 * n
unfolding unpacked
length_unpacked n bytes = length_tab (4 * n) (place_in bytes)

-- place j of a list that was packed
pub place_packed : (n : ℕ) (places : List ℕ) (j : ℕ) → j < 4 * n → place_in (packed n places) j ≡ in_two_bits (get_or places j 0)
unfolding place_in packed
place_packed n places j h =
    ap (standing_at (j % 4)) (get_or_tab n (packed_at places) (j / 4) 0 (omega arith))
    ∙ standing_packed places (j / 4) (j % 4) (omega arith)
    ∙ ap (λ (m : ℕ). in_two_bits (get_or places m 0)) back
  where
    back : 4 * (j / 4) + j % 4 ≡ j
    back = omega arith

-- byte i of a list that was unpacked
pub byte_unpacked : (n : ℕ) (bytes : List ℕ) (i : ℕ) → i < n → get_or bytes i 0 < 256 → packed_at (unpacked n bytes) i ≡ get_or bytes i 0
unfolding packed_at unpacked
byte_unpacked n bytes i h byte =
    ap₂ (λ (a b : ℕ). four_in a b (get_or (tab (4 * n) (place_in bytes)) (4 * i + 2) 0) (get_or (tab (4 * n) (place_in bytes)) (4 * i + 3) 0)) first (at 1 (omega arith))
    ∙ ap₂ (λ (c d : ℕ). four_in (standing_at 0 (get_or bytes i 0)) (standing_at 1 (get_or bytes i 0)) c d) (at 2 (omega arith)) (at 3 (omega arith))
    ∙ four_of_byte (get_or bytes i 0) byte
  where
    at : (k : ℕ) → k < 4 → get_or (tab (4 * n) (place_in bytes)) (4 * i + k) 0 ≡ standing_at k (get_or bytes i 0)
    at k l = get_or_tab (4 * n) (place_in bytes) (4 * i + k) 0 (omega arith) ∙ place_at bytes i k l

    first : get_or (tab (4 * n) (place_in bytes)) (4 * i) 0 ≡ standing_at 0 (get_or bytes i 0)
    first = ap (λ (m : ℕ). get_or (tab (4 * n) (place_in bytes)) m 0) (sym (add-zero (4 * i))) ∙ at 0 (omega arith)

-- there and back: the places, with that one change
pub there_and_back : (n : ℕ) (places : List ℕ) → length places ≡ 4 * n → unpacked n (packed n places) ≡ map in_two_bits places
unfolding unpacked in_two_bits
there_and_back n places e =
    ext_get_or 0 (tab (4 * n) (place_in (packed n places))) (map in_two_bits places)
    (length_tab (4 * n) _ ∙ sym e ∙ sym (length-map places in_two_bits))
    (λ j h.
    let l : j < 4 * n = omega (arith, length_tab (4 * n) (place_in (packed n places))) in
    get_or_tab (4 * n) (place_in (packed n places)) j 0 l ∙ place_packed n places j l ∙ sym (get_or-map in_two_bits places j 0))

-- back and there: the bytes themselves
pub back_and_there : (n : ℕ) (bytes : List ℕ) → length bytes ≡ n → EachBelow 256 bytes → packed n (unpacked n bytes) ≡ bytes
unfolding packed
back_and_there n bytes e below =
    ext_get_or 0 (tab n (packed_at (unpacked n bytes))) bytes
    (length_tab n _ ∙ sym e)
    (λ i h.
    let l : i < n = omega (arith, length_tab n (packed_at (unpacked n bytes))) in
    get_or_tab n (packed_at (unpacked n bytes)) i 0 l ∙ byte_unpacked n bytes i l (below i))
