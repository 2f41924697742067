-- What an accepted allocation keeps to (01, 'Sizes and numbers').
-- Assumes nothing.
use mathlib.Core.Path.{◌≡◌, refl}
use mathlib.Core.Bool.{Bool, true, false, ◌||◌}
use mathlib.Core.List.{List, [], ◌∷◌}
use Prim.Native.Nat.{ℕ, zero, suc, ◌*◌, ◌%◌, ◌≤◌, ◌<◌}
use native.Mathlib.Nat.{mul-le-mul}
use native.Mathlib.Omega.{arith}
use lib.Dec.{eqb, ltb, lit<}
use borrow.Author.Tests.{eqb-true, eqb-false, ltb-false, lt-ltb, le-ltb, not-false}
use Rattle.laws.specs.Bits.{AreBits}
use Rattle.codeword.specs.Shares.{symbols, share}
use Rattle.codeword.specs.Build.{bad_modulation, bad_layers, bad_symbol, bad_length, bad_allocation, share_of, bad_bits}

-- one of two tests, both false where the whole is
pub or-false : (a b : Bool) → (a || b) ≡ false → (a ≡ false) × (b ≡ false)
or-false true b h = let z : ◌≡◌ {A = ℕ} 0 1 = cc in absurd (omega arith)
or-false false b h = (refl, h)

pub modulation : (Q : ℕ) → bad_modulation Q ≡ false → (0 < Q) × (Q ≤ 6)
unfolding bad_modulation
modulation Q h = go (eqb Q 2) (eqb Q 4) (eqb Q 6) refl refl refl (not-false _ h)
  where
    go : (s t u : Bool) → eqb Q 2 ≡ s → eqb Q 4 ≡ t → eqb Q 6 ≡ u → (s || (t || u)) ≡ true → (0 < Q) × (Q ≤ 6)
    go true t u e f g h = omega (arith, eqb-true Q 2 e)
    go false true u e f g h = omega (arith, eqb-true Q 4 f)
    go false false true e f g h = omega (arith, eqb-true Q 6 g)
    go false false false e f g h = let z : ◌≡◌ {A = ℕ} 0 1 = cc in absurd (omega arith)

pub layers : (N : ℕ) → bad_layers N ≡ false → (0 < N) × (N ≤ 4)
unfolding bad_layers
layers N h =
    let both = or-false (eqb N 0) (ltb 4 N) h in
    omega (arith, eqb-false N 0 both.0, ltb-false 4 N both.1)

-- N·Q of an accepted allocation
pub step : (Q N : ℕ) → (0 < Q) × (Q ≤ 6) → (0 < N) × (N ≤ 4) → (0 < N * Q) × (N * Q ≤ 24)
step Q N q n =
    let low : 1 * 1 ≤ N * Q = mul-le-mul n.0 q.0 in
    let high : N * Q ≤ 4 * 6 = mul-le-mul n.1 q.1 in
    omega arith

pub symbol_step : (Q N : ℕ) → bad_symbol Q N ≡ false → (0 < N * Q) × (N * Q ≤ 24)
unfolding bad_symbol
symbol_step Q N h = let both = or-false (bad_modulation Q) (bad_layers N) h in step Q N (modulation Q both.0) (layers N both.1)

-- number 3 is that for Q and N or that for G
pub allocation_of : (C Q N G : ℕ) → bad_symbol Q N ≡ false → bad_length C Q N G ≡ false → bad_allocation C Q N G ≡ false
unfolding bad_allocation
allocation_of C Q N G e f = simp (e, f)

-- past Q and N it is that for G alone
pub length_left : (C Q N G : ℕ) → bad_symbol Q N ≡ false → bad_allocation C Q N G ≡ bad_length C Q N G
unfolding bad_allocation
length_left C Q N G e = simp e

-- what an accepted allocation keeps to
pub record Allocated (C Q N G : ℕ) : Type 0 where
  pub modulation_fits : (0 < Q) × (Q ≤ 6)
  pub layers_fit : (0 < N) × (N ≤ 4)
  pub step_fits : (0 < N * Q) × (N * Q ≤ 24)
  pub most : G ≤ 172800
  pub multiple : G % (N * Q) ≡ 0
  pub enough : C ≤ symbols Q N G

pub allocated : (C Q N G : ℕ) → bad_allocation C Q N G ≡ false → Allocated C Q N G
unfolding bad_allocation bad_symbol bad_length
allocated C Q N G h =
    let both = or-false (bad_symbol Q N) (bad_length C Q N G) h in
    let symbol = or-false (bad_modulation Q) (bad_layers N) both.0 in
    let g = or-false _ _ both.1 in
    let m = or-false _ _ g.1 in
    record {
      modulation_fits = modulation Q symbol.0;
      layers_fit = layers N symbol.1;
      step_fits = symbol_step Q N both.0;
      most = ltb-false 172800 G g.0;
      multiple = eqb-true _ _ (not-false _ m.0);
      enough = ltb-false (symbols Q N G) C m.1;
    }

-- what `share_of` tells of a code block of an accepted allocation
pub share_told : (C Q N G r : ℕ) → r < C → bad_allocation C Q N G ≡ false → share_of C Q N G r ≡ share C Q N G r
unfolding share_of
share_told C Q N G r h e = simp (lt-ltb r C h, e)

-- ---- given bits

pub bits_good : (a : List ℕ) → AreBits a → bad_bits a ≡ false
unfolding bad_bits
bits_good [] h = refl
bits_good (x ∷ a) h = rw (le-ltb 1 x (omega (arith, h 0)), bits_good a (λ i. h (suc i)))

pub given_bits : (a : List ℕ) → bad_bits a ≡ false → AreBits a
unfolding bad_bits
given_bits [] h i = lit< tt
given_bits (x ∷ a) h zero = let both = or-false (ltb 1 x) (bad_bits a) h in omega (arith, ltb-false 1 x both.0)
given_bits (x ∷ a) h (suc i) = given_bits a (or-false (ltb 1 x) (bad_bits a) h).1 i
