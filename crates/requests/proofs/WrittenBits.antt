-- Laws of a line's digits written out as bits (`bits_from`, `bits_over`).
-- Assumes nothing.
use Rattle.std.proofs.Common.{◌≡◌, sym, ◌∙◌, ap, refl, Bool, true, false, cond, List, ◌∷◌, ◌++◌, map, ℕ, ◌+◌, ◌-◌, ◌≤◌, ◌<◌, min, leb, length, get_or, take, drop, set, add-one, arith}
use lib.ListN.{length-set, length-map, drop_of_length-le}
use Rattle.std.proofs.lemmas.List.{take_rest}
use lib.Seq.{drop-cons}
use borrow.Author.Tests.{le-leb, lt-leb, leb-true, leb-false}
use Rattle.laws.proofs.Writing.{Writing, start, same, push, finish}
use Rattle.line_words.specs.Words.{bit_of}
use Rattle.requests.specs.Request.{bits_from, bits_over}

-- the digits behind a place of the line, or behind its end
pub behind : (l : List ℕ) (from : ℕ) {at : ℕ} → at ≡ min from (length l) → take (length l - at) (drop at l) ≡ drop from l
behind l from {at} e = take_rest l at ∙ go (leb from (length l)) refl
  where
    go : (b : Bool) → leb from (length l) ≡ b → drop at l ≡ drop from l
    go true t =
        let h : from ≤ length l = leb-true _ _ t in
        ap (λ (k : ℕ). drop k l) (omega arith)
    go false t =
        let h : length l < from = leb-false _ _ t in
        drop_of_length-le l (omega arith) ∙ sym (drop_of_length-le l (omega arith))

-- after i of the digits
pub record Written (digits out₀ out : List ℕ) (i : ℕ) : Type 0 where
  pub within : i ≤ length digits
  pub room : length digits ≤ length out
  pub writing : Writing out₀ out i (map bit_of (drop i digits)) (map bit_of digits)

pub begin : (digits out : List ℕ) → length digits ≤ length out → Written digits out out 0
begin digits out h = record { within = omega arith; room = h; writing = start }

pub next : {digits out₀ out : List ℕ} {i : ℕ} → Written digits out₀ out i → {b : ℕ} → i < length digits → b ≡ bit_of (get_or digits i 0) → Written digits out₀ (set out i b) (i + 1)
next {digits} {i = i} r {b} h e = record {
  within = omega arith;
  room = rw length-set r.room;
  writing = push {x = b} (omega (arith, r.room)) (same told r.writing);
}
  where
    told : map bit_of (drop i digits) ≡ b ∷ map bit_of (drop (i + 1) digits)
    told = rw (e, add-one i, drop-cons digits i 0) refl

-- what read_bits answers and leaves
abbrev pub Answered : List ℕ → ℕ → List ℕ → ℕ → List ℕ → Type 0
Answered l from out₀ r out =
    (r ≡ cond (leb (length (bits_from l from)) (length out₀)) (length (bits_from l from)) 0) × (out ≡ bits_over l from out₀)

module _ (l : List ℕ) (from : ℕ) {digits : List ℕ} (given : digits ≡ drop from l) where
  bits_are : map bit_of digits ≡ bits_from l from
  unfolding bits_from
  bits_are = ap (map bit_of) given

  count_is : length (bits_from l from) ≡ length digits
  count_is = ap length (sym bits_are) ∙ length-map digits bit_of

  pub short : (out : List ℕ) → length out < length digits → Answered l from out 0 out
  unfolding bits_over
  short out h =
      let more : length out < length (bits_from l from) = omega (arith, count_is) in
      (simp (lt-leb _ _ more), simp (lt-leb _ _ more))

  pub all : {out₀ out : List ℕ} {i : ℕ} → Written digits out₀ out i → length digits ≤ i → Answered l from out₀ (length digits) out
  unfolding bits_over
  all {out₀} {out} {i} r h =
      let fits : length (bits_from l from) ≤ length out₀ = omega (arith, count_is, r.writing.long, r.room) in
      let last : i ≡ length (bits_from l from) = omega (arith, count_is, r.within) in
      let over : out ≡ bits_from l from ++ drop (length (bits_from l from)) out₀ =
      finish (ap (map bit_of) (drop_of_length-le digits h)) r.writing ∙ ap (λ (bits : List ℕ). bits ++ drop i out₀) bits_are ∙ ap (λ (k : ℕ). bits_from l from ++ drop k out₀) last in
      (simp (le-leb _ _ fits) (sym count_is), simp (le-leb _ _ fits) over)
