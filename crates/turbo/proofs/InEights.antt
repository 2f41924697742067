-- The loop of a constituent encoder that replaces eight input bytes a turn by their output bytes, and how many it reaches.
-- Assumes nothing.
use mathlib.Core.Path.{◌≡◌, refl, sym, ◌∙◌, ap, ap₂}
use mathlib.Core.List.{List, [], ◌∷◌, ◌++◌, append_assoc}
use Prim.Native.Nat.{ℕ, ◌+◌, ◌-◌, ◌%◌, ◌^◌, ◌≤◌, ◌<◌}
use native.Mathlib.Omega.{arith}
use borrow.Rule.Slice.PartMut.{mid_of, put_mid}
use lib.Dec.{lit<}
use lib.ListN.{length, take, drop, length-append, length-drop}
use lib.Seq.{length-take-le, drop-drop, take-add, take_at, drop_at}
use Rattle.laws.proofs.Parts.{put_as, length_mid, length_put}
use Rattle.turbo.specs.declared.Registers.{Registers}
use Rattle.turbo.specs.Encoder.{start, parity, next, parities, after}
use Rattle.turbo.specs.inner.Eight.{registers_of, eights, reach, encoded_front, front_end}
use Rattle.turbo.proofs.Encoder.{length_parities}

-- ---- joined input bits

parities_append : (s : Registers) (c d : List ℕ) → parities s (c ++ d) ≡ parities s c ++ parities (after s c) d
unfolding parities after
parities_append s [] d = refl
parities_append s (x ∷ c) d = ap (λ (l : List ℕ). parity s x ∷ l) (parities_append (next s x) c d)

after_append : (s : Registers) (c d : List ℕ) → after s (c ++ d) ≡ after (after s c) d
unfolding after
after_append s [] d = refl
after_append s (x ∷ c) d = after_append (next s x) c d

-- ---- the loop

-- bits is bits₀ after i bytes, and `held` are the register's bytes
pub record InEights (bits₀ bits : List ℕ) (held i : ℕ) : Type 0 where
  pub within : i ≤ length bits₀
  pub long : length bits ≡ length bits₀
  pub small : held < 2 ^ 24
  pub outputs : bits ≡ encoded_front i bits₀
  pub registers : registers_of held ≡ front_end i bits₀

pub begin : (bits : List ℕ) → InEights bits bits 0 0
unfolding start registers_of parities after
begin bits = record { within = omega arith; long = refl; small = lit< tt; outputs = refl; registers = refl }

-- the place said in another way
pub moved : {bits₀ bits : List ℕ} {held i j : ℕ} → i ≡ j → InEights bits₀ bits held i → InEights bits₀ bits held j
moved e p = rw e at p

eight_more : (i : ℕ) → (i + 8) - i ≡ 8
eight_more i = omega arith

module _ {bits₀ bits : List ℕ} {held i : ℕ} (p : InEights bits₀ bits held i) where
  length_front : length (parities start (take i bits₀)) ≡ i
  length_front = length_parities start (take i bits₀) ∙ length-take-le i bits₀ p.within

  rest : drop i bits ≡ drop i bits₀
  rest = ap (drop i) p.outputs ∙ drop_at (parities start (take i bits₀)) (drop i bits₀) i length_front

  -- the part that is lent: eight bytes as they were
  part : mid_of i ((i + 8) - i) bits ≡ take 8 (drop i bits₀)
  part = ap₂ take (eight_more i) rest

  pub lent : i + 8 ≤ length bits₀ → length (mid_of i ((i + 8) - i) bits) ≡ 8
  lent h = length_mid i (i + 8) bits (omega (arith, p.long)) ∙ eight_more i

  -- the part is back, and the register's bytes are r
  pub turn : {out : List ℕ} {r : ℕ} → i + 8 ≤ length bits₀ → r < 2 ^ 24 → out ≡ parities (registers_of held) (mid_of i ((i + 8) - i) bits)
      → registers_of r ≡ after (registers_of held) (mid_of i ((i + 8) - i) bits) → InEights bits₀ (put_mid i ((i + 8) - i) bits out) r (i + 8)
  turn {out} {r} h small e f = record {
    within = h;
    long = length_put i (i + 8) bits out (omega (arith, p.long)) same ∙ p.long;
    small = small;
    outputs = put_as i (i + 8) bits (e ∙ ap₂ parities p.registers part) (omega arith)
        ∙ ap₂ (λ (a b : List ℕ). a ++ (parities (after start (take i bits₀)) (take 8 (drop i bits₀)) ++ b)) front back
        ∙ sym (append_assoc (parities start (take i bits₀)) (parities (after start (take i bits₀)) (take 8 (drop i bits₀))) (drop (i + 8) bits₀))
        ∙ ap (λ (l : List ℕ). l ++ drop (i + 8) bits₀) (sym (ap (parities start) (take-add i 8 bits₀) ∙ parities_append start (take i bits₀) (take 8 (drop i bits₀))));
    registers = f ∙ ap₂ after p.registers part ∙ sym (ap (after start) (take-add i 8 bits₀) ∙ after_append start (take i bits₀) (take 8 (drop i bits₀)));
  }
    where
      same : length out ≡ (i + 8) - i
      same = ap length e ∙ length_parities (registers_of held) (mid_of i ((i + 8) - i) bits) ∙ length_mid i (i + 8) bits (omega (arith, p.long))

      front : take i bits ≡ parities start (take i bits₀)
      front = ap (take i) p.outputs ∙ take_at (parities start (take i bits₀)) (drop i bits₀) i length_front

      back : drop (i + 8) bits ≡ drop (i + 8) bits₀
      back = sym (drop-drop 8 i bits) ∙ ap (drop 8) rest ∙ drop-drop 8 i bits₀

-- ---- two streams of K + 4 places that begin with the K input bits: K is a multiple of eight, so all of them are encoded

pub record Begun (K : ℕ) (d input rest : List ℕ) : Type 0 where
  pub told : d ≡ input ++ rest
  pub bits : length input ≡ K
  pub tail : length rest ≡ 4

pub begun : {K : ℕ} {d : List ℕ} (input d₀ : List ℕ) → length input ≡ K → length d₀ ≡ K + 4 → d ≡ input ++ drop K d₀ → Begun K d input (drop K d₀)
begun {K} input d₀ l h t = record { told = t; bits = l; tail = length-drop K d₀ ∙ omega arith }

pub reached : {K : ℕ} {d e input input' rest rest' : List ℕ} → K % 8 ≡ 0 → Begun K d input rest → Begun K e input' rest' → reach d e ≡ K
unfolding eights
reached {input = input} {input'} {rest} {rest'} w p q =
    rw (p.told, q.told, length-append input rest, length-append input' rest', p.bits, p.tail, q.bits, q.tail) (omega arith)

module _ {K n : ℕ} {d input rest : List ℕ} (e : n ≡ K) (p : Begun K d input rest) where
  pub front_outputs : encoded_front n d ≡ parities start input ++ rest
  front_outputs = rw (e, p.told, take_at input rest K p.bits, drop_at input rest K p.bits)

  pub front_after : front_end n d ≡ after start input
  front_after = rw (e, p.told, take_at input rest K p.bits)
