-- Laws of bits put at the first of some places (`put_first`, `Put`): one list of places after another, a run of places side by side, and a part that is lent.
-- Assumes nothing.
use mathlib.Core.Path.{◌≡◌, refl, sym, ◌∙◌, ap, ap₂, subst}
use mathlib.Core.List.{List, [], ◌∷◌, ◌++◌, map}
use Prim.Native.Nat.{ℕ, zero, suc, ◌+◌, ◌-◌, ◌≤◌, ◌<◌, min}
use native.Mathlib.Nat.{add-zero}
use native.Mathlib.Decide.{dec_le}
use native.Mathlib.Omega.{arith}
use lib.ListN.{length, get_or, take, drop, set, length-append, length-map, length-take, length-drop, drop_of_length-le}
use lib.Seq.{get_or-take, get_or-drop, take_all, take-take, take-nil, length-take-le}
use borrow.Rule.Slice.PartMut.{mid_of, put_mid}
use Rattle.laws.specs.Lists.{tab, tab_from}
use Rattle.laws.proofs.Parts.{length_mid}
use Rattle.laws.proofs.Tab.{length_tab, take_tab, get_or_tab, tab_split, map_tab, tab_from_shift}
use Rattle.rate_matching.specs.Walk.{itself}
use Rattle.slots.specs.Putting.{put_along}
use Rattle.slots.specs.Room.{meet, agreeing}
use Rattle.slots.proofs.Putting.{length_put}
use Rattle.bit_placement.specs.Placement.{put_first}
use Rattle.bit_placement.specs.inner.Along.{Put}
use Rattle.bit_placement.proofs.Putting.{along_append, along_few, along_in}

-- ---- one bit after another

-- a place after a bit
abbrev pub put_bit : List ℕ → ℕ → ℕ → List ℕ
put_bit list at bit = set list at (meet (get_or list at 0) bit)

pub length_first : (js bits list : List ℕ) → length (put_first js bits list) ≡ length list
unfolding put_first
length_first js bits list = length_put agreeing (take (length bits) js) bits list

no_places : (bits list : List ℕ) → put_first [] bits list ≡ list
unfolding put_first put_along agreeing
no_places bits list = ap (λ (js : List ℕ). put_along agreeing js bits list) (take-nil (length bits))

-- bits for some places, and then for others
first_append : (js ks bits list : List ℕ) → put_first (js ++ ks) bits list ≡ put_first ks (drop (length js) bits) (put_first js bits list)
unfolding put_first put_along agreeing
first_append [] ks bits list = ap (put_first ks bits) (sym (no_places bits list))
first_append (j ∷ js) ks [] list = refl
first_append (j ∷ js) ks (b ∷ bits) list = first_append js ks bits (put_bit list j b)

-- ---- a run: places side by side

-- the first i bits have met the front of the run
pub record Meeting (bits run₀ run : List ℕ) (i : ℕ) : Type 0 where
  pub passed : i ≤ length bits
  pub told : run ≡ put_along agreeing (tab i itself) bits run₀

module _ {bits run₀ : List ℕ} where
  pub meeting_start : Meeting bits run₀ run₀ 0
  unfolding tab tab_from put_along
  meeting_start = record { passed = omega arith; told = refl }

  pub meeting_long : {run : List ℕ} {i : ℕ} → Meeting bits run₀ run i → length run ≡ length run₀
  meeting_long {run} {i} w = ap length w.told ∙ length_put agreeing (tab i itself) bits run₀

  pub meeting_next : {run : List ℕ} {i : ℕ} → i < length bits → Meeting bits run₀ run i
      → Meeting bits run₀ (set run i (meet (get_or run i 0) (get_or bits i 0))) (i + 1)
  unfolding tab tab_from put_along agreeing itself
  meeting_next {run} {i} h w = record {
    passed = omega arith;
    told =
        sym
        (ap (λ (js : List ℕ). put_along agreeing js bits run₀) (tab_split i 1 itself)
        ∙ along_append agreeing (tab i itself) ((i + 0) ∷ []) bits run₀
        ∙ ap₂ (λ (n : ℕ) (l : List ℕ). put_bit l (i + 0) (get_or (drop n bits) 0 0)) (length_tab i itself) (sym w.told)
        ∙ ap₂ (λ (n b : ℕ). put_bit run n b) (add-zero i) (get_or-drop i bits 0 0 ∙ ap (λ (n : ℕ). get_or bits n 0) (add-zero i)));
  }

  pub meeting_finish : {run : List ℕ} {i : ℕ} → length bits ≤ i → Meeting bits run₀ run i → run ≡ put_first (tab (length bits) itself) bits run₀
  unfolding put_first
  meeting_finish {run} {i} h w =
      let all : i ≡ length bits = omega (arith, w.passed) in
      w.told
      ∙ ap (λ (js : List ℕ). put_along agreeing js bits run₀) (ap (λ (n : ℕ). tab n itself) all ∙ sym (take_all (length bits) (tab (length bits) itself) (omega (arith, length_tab (length bits) itself))))

-- n bits at the front of a run, as many as there are of both
pub run_met : (bits run : List ℕ) {n : ℕ} {run' : List ℕ} → n ≡ min (length bits) (length run)
    → run' ≡ put_first (tab (length (take n bits)) itself) (take n bits) run → Put (tab (length run) itself) bits run run' n
unfolding put_first
run_met bits run {n} {run'} e t = record {
  told =
      t
      ∙ ap (λ (m : ℕ). put_along agreeing (take m (tab m itself)) (take n bits) run) (length-take-le n bits (omega arith))
      ∙ ap (λ (js : List ℕ). put_along agreeing js (take n bits) run) (take_all n (tab n itself) (omega (arith, length_tab n itself)))
      ∙ along_few agreeing (tab n itself) n bits run (omega (arith, length_tab n itself))
      ∙ ap (λ (js : List ℕ). put_along agreeing js bits run) (sym places);
  ends = rw (length_tab (length run) itself) (omega arith);
}
  where
    places : take (length bits) (tab (length run) itself) ≡ tab n itself
    places = elim (dec_le (length bits) (length run)) [
      | yes l ↦ take_tab (length bits) (length run) itself l ∙ ap (λ (m : ℕ). tab m itself) (omega arith)
      | no l ↦ take_all (length bits) (tab (length run) itself) (rw (length_tab (length run) itself) (omega arith)) ∙ ap (λ (m : ℕ). tab m itself) (omega arith)
    ]

-- ---- where the bits end

-- the bits that are left after so many
abbrev pub left_of : ℕ → List ℕ → List ℕ
left_of i bits = take (length bits - i) (drop i bits)

left_is : (i : ℕ) (bits : List ℕ) → left_of i bits ≡ drop i bits
left_is i bits = take_all (length bits - i) (drop i bits) (omega (arith, length-drop i bits))

module _ {js ks bits list₀ list₁ list₂ : List ℕ} {i j : ℕ} where
  -- one list of places after another
  pub put_append : Put js bits list₀ list₁ i → Put ks (left_of i bits) list₁ list₂ j → Put (js ++ ks) bits list₀ list₂ (i + j)
  put_append p q = record {
    told =
        q.told
        ∙ ap₂ (put_first ks) left p.told
        ∙ sym (first_append js ks bits list₀);
    ends = rw (length-append js ks) (omega (arith, p.ends, q.ends, length-drop i bits, ap length (left_is i bits)));
  }
    where
      left : left_of i bits ≡ drop (length js) bits
      left = left_is i bits ∙ elim (dec_le (length js) (length bits)) [
        | yes l ↦ let e : i ≡ length js = omega (arith, p.ends) in ap (λ (n : ℕ). drop n bits) e
        | no l ↦
            let e : length bits ≤ i = omega (arith, p.ends) in
            let past : length bits ≤ length js = omega arith in
            drop_of_length-le bits e ∙ sym (drop_of_length-le bits past)
      ]

-- what is put, said in another way
pub put_as : {js ks bits list list' : List ℕ} {i : ℕ} → js ≡ ks → Put js bits list list' i → Put ks bits list list' i
put_as {bits = bits} {list = list} {list' = list'} {i = i} e p = subst (λ (l : List ℕ). Put l bits list list' i) e p

module _ {js bits list list' : List ℕ} {i : ℕ} (p : Put js bits list list' i) where
  pub put_long : length list' ≡ length list
  put_long = ap length p.told ∙ length_first js bits list

  pub put_within : i ≤ length bits
  put_within = omega (arith, p.ends)

pub put_none : {bits list : List ℕ} → Put [] bits list list 0
put_none {bits} {list} = record { told = sym (no_places bits list); ends = omega arith }

-- no more bits are lent than n places take
pub put_first_lem : (n : ℕ) {js bits list list' : List ℕ} {m r : ℕ} → m ≡ min (length bits) n → Put js (take m bits) list list' r → Put (take n js) bits list list' r
unfolding put_first
put_first_lem n {js} {bits} {list} {list'} {m} {r} e p = record {
  told =
      p.told
      ∙ ap (λ (k : ℕ). put_along agreeing (take k js) (take m bits) list) lent
      ∙ along_few agreeing (take m js) m bits list (omega (arith, length-take m js))
      ∙ ap (λ (ks : List ℕ). put_along agreeing ks bits list) places;
  ends = p.ends ∙ rw (lent, length-take n js) (omega (arith, e));
}
  where
    lent : length (take m bits) ≡ m
    lent = length-take-le m bits (omega (arith, e))

    places : take m js ≡ take (length bits) (take n js)
    places = elim (dec_le n (length bits)) [
      | yes l ↦
          let is : m ≡ n = omega (arith, e) in
          ap (λ (k : ℕ). take k js) is ∙ sym (take_all (length bits) (take n js) (omega (arith, length-take n js)))
      | no l ↦
          let is : m ≡ length bits = omega (arith, e) in
          ap (λ (k : ℕ). take k js) is ∙ sym (take-take (length bits) n js (omega arith))
    ]

-- ---- a part that is lent

map_take : (f : ℕ → ℕ) (n : ℕ) (js : List ℕ) → map f (take n js) ≡ take n (map f js)
map_take f zero js = refl
map_take f (suc n) [] = refl
map_take f (suc n) (j ∷ js) = ap (λ (l : List ℕ). f j ∷ l) (map_take f n js)

module _ {bits part : List ℕ} {r : ℕ} (list : List ℕ) (s e : ℕ) (low : s ≤ e) (within : e ≤ length list) where
  -- bits for places of the part
  put_lent : (js : List ℕ) → ((i : ℕ) → i < length js → get_or js i 0 < e - s) → Put js bits (mid_of s (e - s) list) part r
      → Put (map (λ (j : ℕ). s + j) js) bits list (put_mid s (e - s) list part) r
  unfolding put_first
  put_lent js inside p = record {
    told =
        ap (put_mid s (e - s) list) p.told
        ∙ along_in agreeing s (e - s) list (take (length bits) js) bits few (omega arith)
        ∙ ap (λ (ks : List ℕ). put_along agreeing ks bits list) (map_take (λ (j : ℕ). s + j) (length bits) js);
    ends = p.ends ∙ ap (λ (n : ℕ). min n (length bits)) (sym (length-map js (λ (j : ℕ). s + j)));
  }
    where
      few : (i : ℕ) → i < length (take (length bits) js) → get_or (take (length bits) js) i 0 < length (mid_of s (e - s) list)
      few i h =
          let l : i < min (length bits) (length js) = rw length-take at h in
          rw (get_or-take (length bits) js i 0 (omega arith), length_mid s e list within) (omega (arith, inside i (omega arith)))

  -- a run that is the whole of it
  pub run_lent : Put (tab (length (mid_of s (e - s) list)) itself) bits (mid_of s (e - s) list) part r → Put (tab_from s (e - s) itself) bits list (put_mid s (e - s) list part) r
  unfolding tab itself
  run_lent p =
      subst (λ (js : List ℕ). Put js bits list (put_mid s (e - s) list part) r) run
      (put_lent (tab (length (mid_of s (e - s) list)) itself) (λ i h. let l : i < length (mid_of s (e - s) list) = rw length_tab at h in rw (get_or_tab (length (mid_of s (e - s) list)) itself i 0 l) (omega (arith, length_mid s e list within))) p)
    where
      run : map (λ (j : ℕ). s + j) (tab (length (mid_of s (e - s) list)) itself) ≡ tab_from s (e - s) itself
      run =
          ap (λ (n : ℕ). map (λ (j : ℕ). s + j) (tab n itself)) (length_mid s e list within)
          ∙ map_tab (e - s) itself (λ (j : ℕ). s + j)
          ∙ sym (tab_from_shift s 0 (e - s) itself)
          ∙ ap (λ (i : ℕ). tab_from i (e - s) itself) (add-zero s)
