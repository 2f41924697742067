-- The loop that joins the bits a quarter apart, a quarter a turn: b, d and e stand one, two and three quarters on from `at`.
-- Assumes nothing.
use mathlib.Core.Path.{◌≡◌, sym, ◌∙◌, ap}
use mathlib.Core.List.{List}
use Prim.Native.Nat.{ℕ, ◌+◌, ◌*◌, ◌-◌, ◌/◌, ◌%◌, ◌≤◌, ◌<◌}
use native.Mathlib.Nat.{mul-le-mul, add-mod_right, mod-add-mod, mod-eq_of_lt}
use native.Mathlib.Omega.{arith}
use lib.ListN.{length, get_or}
use borrow.Rule.Slice.PartMut.{put_mid}
use Rattle.laws.specs.Lists.{tab}
use Rattle.laws.proofs.Tab.{tab_ext}
use Rattle.interleaver.specs.inner.Quarters.{joined, Joinable, on_from, four, fours, Quartered}
use Rattle.interleaver.proofs.Filling as F
use Rattle.interleaver.proofs.Filling.{Filling}

-- x stands u quarters on from `at`, with a quarter from there on
pub record Stands (K at u x : ℕ) : Type 0 where
  pub place : x ≡ on_from K at u
  pub whole : x + K / 4 ≤ K

-- out₀ has become out, of which `at` entries are written
pub record Joining (c out₀ out : List ℕ) (b d e at : ℕ) : Type 0 where
  pub filling : Filling (length c) (four c) out₀ out at
  pub one : Stands (length c) at 1 b
  pub two : Stands (length c) at 2 d
  pub three : Stands (length c) at 3 e
  pub here : at < length c → at + length c / 4 ≤ length c

module _ (K : ℕ) (eights : K % 8 ≡ 0) (some : 0 < K) where
  -- a quarter on, the same place stands a quarter less on
  pub less_on : {at u x : ℕ} → Stands K at (u + 1) x → Stands K (at + K / 4) u x
  unfolding on_from
  less_on {at} {u} s = record { place = s.place ∙ ap (λ (n : ℕ). n % K) on; whole = s.whole }
    where
      on : at + (u + 1) * (K / 4) ≡ at + K / 4 + u * (K / 4)
      on = omega arith

  -- the quarter that is left behind stands three quarters on
  pub behind : {at : ℕ} → at < K → at + K / 4 ≤ K → Stands K (at + K / 4) 3 at
  unfolding on_from
  behind {at} h l = record { place = sym (mod-eq_of_lt h) ∙ sym (add-mod_right at K) ∙ ap (λ (n : ℕ). n % K) on; whole = l }
    where
      on : at + K ≡ at + K / 4 + 3 * (K / 4)
      on = omega arith

  pub itself : {at : ℕ} → at < K → at + K / 4 ≤ K → Stands K at 0 at
  unfolding on_from
  itself {at} h l = record { place = sym (mod-eq_of_lt h) ∙ ap (λ (n : ℕ). n % K) on; whole = l }
    where
      on : at ≡ at + 0 * (K / 4)
      on = omega arith

  -- k places further in both
  pub further : {at u x k : ℕ} → Stands K at u x → k < K / 4 → on_from K (at + k) u + 0 ≡ x + k
  unfolding on_from
  further {at} {u} {x} {k} s h =
      ap (λ (n : ℕ). n % K + 0) swap ∙ ap (λ (n : ℕ). n + 0) (sym (mod-add-mod (at + u * (K / 4)) K k) ∙ ap (λ (n : ℕ). (n + k) % K) (sym s.place) ∙ mod-eq_of_lt inside)
      ∙ zero
    where
      swap : at + k + u * (K / 4) ≡ at + u * (K / 4) + k
      swap = omega arith

      inside : x + k < K
      inside = omega (arith, s.whole)

      zero : x + k + 0 ≡ x + k
      zero = omega arith

module _ {c out₀ : List ℕ} (r : Quartered c out₀) where
  -- there is a quarter from the start of each of the four on
  pub in_turn : (u : ℕ) → u < 4 → u * (length c / 4) < length c
  in_turn u l = let most : u * (length c / 4) ≤ 3 * (length c / 4) = mul-le-mul (omega arith) (omega arith) in omega (arith, r.eights, r.some)

  begin : Joining c out₀ out₀ (length c / 4) (2 * (length c / 4)) (3 * (length c / 4)) 0
  unfolding on_from
  begin = record {
    filling = F.start r.room;
    one = record { place = small (omega arith) ∙ ap (λ (n : ℕ). n % length c) first; whole = omega (arith, r.eights) };
    two = record { place = small (omega (arith, r.some)) ∙ ap (λ (n : ℕ). n % length c) second; whole = omega (arith, r.eights) };
    three = record { place = small (omega (arith, r.some)) ∙ ap (λ (n : ℕ). n % length c) third; whole = omega (arith, r.eights) };
    here = λ h. omega arith;
  }
    where
      small : {x : ℕ} → x < length c → x ≡ x % length c
      small h = sym (mod-eq_of_lt h)

      first : length c / 4 ≡ 0 + 1 * (length c / 4)
      first = omega arith

      second : 2 * (length c / 4) ≡ 0 + 2 * (length c / 4)
      second = omega arith

      third : 3 * (length c / 4) ≡ 0 + 3 * (length c / 4)
      third = omega arith

  pub start : Joining c out₀ out₀ (length c / 4) (2 * (length c / 4)) (3 * (length c / 4)) (0 * (length c / 4))
  start = let none : 0 * (length c / 4) ≡ 0 = omega arith in rw none begin

  module _ {out : List ℕ} {b d e at : ℕ} (j : Joining c out₀ out b d e at) (h : at < length c) where
    pub joinable : {n : ℕ} → n ≡ at + length c / 4 - at → Joinable c at b d e n
    joinable s = record {
      bits = r.bits;
      first = omega (arith, j.here h);
      second = omega (arith, j.one.whole);
      third = omega (arith, j.two.whole);
      fourth = omega (arith, j.three.whole);
    }

    -- the part is what the rule says
    part_is : {n : ℕ} → n ≡ length c / 4 → tab n (joined c at b d e) ≡ tab n (λ (k : ℕ). four c (at + k))
    unfolding joined four
    part_is {n} s = tab_ext n (joined c at b d e) (λ (k : ℕ). four c (at + k)) (λ k l. sum k (omega arith))
      where
        bit : {u x : ℕ} → Stands (length c) at u x → (k : ℕ) → k < length c / 4 → get_or c (x + k) 0 ≡ get_or c (on_from (length c) (at + k) u + 0) 0
        bit s k l = ap (λ (n : ℕ). get_or c n 0) (sym (further (length c) r.eights r.some s l))

        sum : (k : ℕ) → k < length c / 4 → joined c at b d e k ≡ four c (at + k)
        sum k l = rw (bit (itself (length c) r.eights r.some h (j.here h)) k l, bit j.one k l, bit j.two k l, bit j.three k l)

    pub next : {part : List ℕ} {n : ℕ} → n ≡ at + length c / 4 - at → length part ≡ at + length c / 4 - at → part ≡ tab n (joined c at b d e)
        → Joining c out₀ (put_mid at (at + length c / 4 - at) out part) d e at (at + length c / 4)
    unfolding on_from
    next {part} {n} s count told = record {
      filling = F.next_part (omega arith) (j.here h) count (told ∙ rw s (part_is (omega arith))) j.filling;
      one = less_on (length c) r.eights r.some j.two;
      two = less_on (length c) r.eights r.some j.three;
      three = behind (length c) r.eights r.some h (j.here h);
      here = λ l. omega (arith, j.one.whole, on l);
    }
      where
        on : at + length c / 4 < length c → at + length c / 4 ≡ b
        on l = sym (mod-eq_of_lt l) ∙ ap (λ (x : ℕ). x % length c) once ∙ sym j.one.place
          where
            once : at + length c / 4 ≡ at + 1 * (length c / 4)
            once = omega arith

  -- the place said in another way
  pub moved : {out : List ℕ} {b d e at at' : ℕ} → at ≡ at' → Joining c out₀ out b d e at → Joining c out₀ out b d e at'
  moved s j = rw s at j

  pub finish : {out : List ℕ} {b d e at : ℕ} → length c ≤ at → Joining c out₀ out b d e at → out ≡ fours c
  unfolding fours
  finish h j = F.finish h j.filling
