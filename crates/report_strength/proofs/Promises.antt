-- What E3 of 02 promises of the way back, in its words: no message is nearer, the answer is the only nearest, 19 exactly where two or more are;
-- and which runs give their report back.
-- Assumes nothing.
use mathlib.Core.Path.{◌≡◌, refl, sym, ◌∙◌, ap, ap₂}
use mathlib.Core.Bool.{Bool, true, false}
use mathlib.Core.List.{List}
use Prim.Native.Nat.{ℕ, ◌+◌, ◌-◌, ◌*◌, ◌/◌, ◌^◌, ◌≤◌, ◌<◌}
use native.Mathlib.Omega.{arith}
use lib.Pow.{pow_pos}
use lib.Bits.{xor_zero_l}
use lib.ListN.{length, take}
use lib.Seq.{take_at, drop_at}
use Rattle.laws.specs.Bits.{AreBits}
use Rattle.laws.specs.Lists.{tab}
use Rattle.codeword.specs.declared.Grant.{Grant}
use Rattle.codeword.specs.Codeword.{codeword}
use Rattle.report_code.specs.Code.{block, repeated, control_bits}
use Rattle.report_code.specs.Words.{number_of, message_bits}
use Rattle.report_code.specs.Nearest.{differences, distance, distance_of, nearest_message}
use Rattle.report_code.proofs.Words.{number_lt, number_message, message_number, length_message, message_bits_lem}
use Rattle.report_code.proofs.Linear.{length_block}
use Rattle.report_code.proofs.Folding.{length_repeated, turn_is}
use Rattle.report_code.proofs.Least.{best, found_it, found_alone}
use Rattle.reports.specs.Calls.{multiplexed, control_part, past_control}
use Rattle.report_strength.specs.Strength.{weight, least_weight, fewest}
use Rattle.report_strength.proofs.Weights.{differences_self, triangle, weight_longer}
use Rattle.report_strength.proofs.AllWords.{Sharp, sharp}
use Rattle.report_strength.proofs.Apart.{apart_is, apart, apart_some, fewest_small}

-- a report of O bits
pub record Report (O : ℕ) (o : List ℕ) : Type 0 where
  pub long : length o ≡ O
  pub bits : AreBits o

-- the nearest report
abbrev pub nearest : ℕ → List ℕ → List ℕ
nearest O received = message_bits O (nearest_message O received).message

-- ---- reports and their numbers

module _ {O : ℕ} {o : List ℕ} (r : Report O o) where
  number_short : number_of o < 2 ^ O
  number_short = rw r.long at (number_lt o r.bits)

  number_within : number_of o ≤ 2 ^ O - 1
  number_within = omega (arith, number_short)

  by_number : message_bits O (number_of o) ≡ o
  by_number = rw r.long at (message_number o r.bits)

  distance_number : (received : List ℕ) → distance_of O received (number_of o) ≡ distance received o
  unfolding distance_of
  distance_number received = ap (distance received) by_number

distance_found : (O : ℕ) (received : List ℕ) → distance received (nearest O received) ≡ (nearest_message O received).distance
unfolding nearest_message distance_of
distance_found O received = (best (distance_of O received) (2 ^ O - 1)).attained

-- ---- no message is nearer, and the answer is the only nearest

pub no_nearer : (O : ℕ) (received o : List ℕ) → Report O o → distance received (nearest O received) ≤ distance received o
unfolding nearest_message
no_nearer O received o r =
    omega (arith, distance_found O received, distance_number r received, (best (distance_of O received) (2 ^ O - 1)).least (number_of o) (number_within r))

pub only_nearest : (O : ℕ) (received o : List ℕ) → Report O o → (nearest_message O received).tied ≡ false
    → distance received o ≤ distance received (nearest O received) → o ≡ nearest O received
unfolding nearest_message
only_nearest O received o r e h =
    let same : distance_of O received (number_of o) ≡ (nearest_message O received).distance
    = omega (arith, distance_found O received, distance_number r received, (best (distance_of O received) (2 ^ O - 1)).least (number_of o) (number_within r)) in
    sym (by_number r) ∙ ap (message_bits O) ((best (distance_of O received) (2 ^ O - 1)).alone e (number_of o) (number_within r) same)

-- ---- 19: exactly where two or more share the least distance

pub record Two (O : ℕ) (received : List ℕ) : Type 0 where
  pub one : List ℕ
  pub other : List ℕ
  pub one_report : Report O one
  pub other_report : Report O other
  pub differ : one ≡ other → ⊥
  pub one_near : (o : List ℕ) → Report O o → distance received one ≤ distance received o
  pub other_near : (o : List ℕ) → Report O o → distance received other ≤ distance received o

pub tied_two : (O : ℕ) (received : List ℕ) → (nearest_message O received).tied ≡ true → Two O received
unfolding nearest_message distance_of
tied_two O received e =
    let b = best (distance_of O received) (2 ^ O - 1) in
    let k = b.other e in
    let some : 0 < 2 ^ O = pow_pos O in
    let found_short : (nearest_message O received).message < 2 ^ O = omega (arith, b.within) in
    let other_short : k.0 < 2 ^ O = omega (arith, k.1) in
    record {
      one = nearest O received;
      other = message_bits O k.0;
      one_report = record { long = length_message O (nearest_message O received).message; bits = message_bits_lem O (nearest_message O received).message };
      other_report = record { long = length_message O k.0; bits = message_bits_lem O k.0 };
      differ = λ h. k.2 (sym (number_message O k.0 other_short) ∙ ap number_of (sym h) ∙ number_message O (nearest_message O received).message found_short);
      one_near = no_nearer O received;
      other_near = λ o r. omega (arith, k.3, distance_found O received, no_nearer O received o r);
    }

pub two_tied : (O : ℕ) (received : List ℕ) → Two O received → (nearest_message O received).tied ≡ true
two_tied O received w = go (nearest_message O received).tied refl
  where
    found : Report O (nearest O received)
    found = record { long = length_message O (nearest_message O received).message; bits = message_bits_lem O (nearest_message O received).message }

    go : (t : Bool) → (nearest_message O received).tied ≡ t → t ≡ true
    go true e = refl
    go false e =
        absurd
        (w.differ
        (only_nearest O received w.one w.one_report e (w.one_near (nearest O received) found)
        ∙ sym (only_nearest O received w.other w.other_report e (w.other_near (nearest O received) found))))

-- ---- which runs give their report back

control_long : (o : List ℕ) (n : ℕ) → length (control_bits o n) ≡ n
unfolding control_bits
control_long o n = length_repeated (block o) n

-- the report o comes back from the received control bits
pub record Back (O : ℕ) (received o : List ℕ) : Type 0 where
  pub alone : (nearest_message O received).tied ≡ false
  pub gives : nearest O received ≡ o

module _ (O : ℕ) (received o : List ℕ) (r : Report O o) (short : O ≤ 11) where
  -- every other report is farther
  Farther : Type 0
  Farther = (k : ℕ) → k < 2 ^ O → (k ≡ number_of o → ⊥) → distance_of O received (number_of o) < distance_of O received k

  back_by : Farther → Back O received o
  unfolding Farther nearest_message
  back_by far =
      let some : 0 < 2 ^ O = pow_pos O in
      let all : (k : ℕ) → k ≤ 2 ^ O - 1 → (k ≡ number_of o → ⊥) → distance_of O received (number_of o) < distance_of O received k = λ k l d. far k (omega arith) d in
      record {
        alone = found_alone (distance_of O received) (2 ^ O - 1) (number_of o) (number_within r) all;
        gives = ap (message_bits O) (found_it (distance_of O received) (2 ^ O - 1) (number_of o) (number_within r) all) ∙ by_number r;
      }

  between : (k : ℕ) → differences (control_bits (message_bits O (number_of o)) (length received)) (control_bits (message_bits O k) (length received))
      ≤ distance_of O received (number_of o) + distance_of O received k
  unfolding distance_of distance
  between k = triangle received _ _ (control_long (message_bits O (number_of o)) (length received)) (control_long (message_bits O k) (length received))

  -- fewer wrong bits than half of the whole turns times the least weight are survived
  pub survives : 2 * distance received o < length received / 32 * least_weight O → Back O received o
  unfolding Farther
  survives h =
      back_by
      (λ k l d.
      omega (
        arith,
        distance_number r received,
        apart O (number_of o) k (length received) short (number_short r) l (λ e. d (sym e)),
        between k,
      ))

front_is : (b : List ℕ) (n : ℕ) → length b ≡ 32 → n ≤ 32 → repeated b n ≡ take n b
unfolding repeated tab
front_is b n l h = turn_is b 0 n l refl h

-- a run without a wrong bit, from the fewest control bits on
pub comes_back : (O n : ℕ) (o : List ℕ) → Report O o → O ≤ 11 → fewest O ≤ n → Back O (control_bits o n) o
unfolding Farther distance_of distance
comes_back O n o r short enough =
    back_by O (control_bits o n) o r short
    (λ k l d.
    let none : differences (control_bits o n) (control_bits (message_bits O (number_of o)) (length (control_bits o n))) ≡ 0
    = ap₂ (λ (p : List ℕ) (m : ℕ). differences (control_bits o n) (control_bits p m)) (by_number r) (control_long o n) ∙ differences_self (control_bits o n) in
    let some : 1 ≤ differences (control_bits o n) (control_bits (message_bits O k) (length (control_bits o n)))
    = rw (control_long o n, ← (by_number r)) (apart_some O (number_of o) k n short (number_short r) l (λ e. d (sym e)) enough) in
    omega (arith, none, some))

-- with fewer the run of the report of zeros is tied, so the table is sharp
pub too_few : (O n : ℕ) → 0 < O → O ≤ 11 → n < fewest O → (nearest_message O (control_bits (message_bits O 0) n)).tied ≡ true
unfolding distance
too_few O n some short few = two_tied O received (record {
  one = message_bits O 0;
  other = message_bits O m;
  one_report = record { long = length_message O 0; bits = message_bits_lem O 0 };
  other_report = record { long = length_message O m; bits = message_bits_lem O m };
  differ = λ e. omega (arith, s.latest_some, sym (number_message O 0 (pow_pos O)) ∙ ap number_of e ∙ number_message O m s.latest_short);
  one_near = λ o r. rw (control_long (message_bits O 0) n, differences_self received) (omega arith);
  other_near = λ o r. omega (arith, none);
})
  where
    received : List ℕ
    received = control_bits (message_bits O 0) n

    s : Sharp O
    s = sharp O some short

    m : ℕ
    m = s.latest

    none : differences received (control_bits (message_bits O m) (length received)) ≡ 0
    none =
        let front : repeated (block (message_bits O m)) n ≡ take n (block (message_bits O m))
        = front_is (block (message_bits O m)) n (length_block (message_bits O m)) (omega (arith, fewest_small O short)) in
        let light : weight (take n (block (message_bits O m))) ≤ weight (take (fewest O - 1) (block (message_bits O m)))
        = weight_longer n (fewest O - 1) (block (message_bits O m)) (omega arith) in
        let told : differences received (control_bits (message_bits O m) (length received)) ≡ weight (take n (block (message_bits O m)))
        = ap (λ (k : ℕ). differences received (control_bits (message_bits O m) k)) (control_long (message_bits O 0) n)
        ∙ apart_is O 0 m n
        ∙ ap weight (ap (λ (k : ℕ). repeated (block (message_bits O k)) n) (xor_zero_l m) ∙ front) in
        omega (arith, told, light, s.latest_weight)

-- ---- a true run: what Build with a report gives

-- its control bits are those of the report, and its data is the codeword
module _ (o : List ℕ) (control : ℕ) (a : List ℕ) (g : Grant) where
  pub run_control : control_part g.layers control (multiplexed o control a g) ≡ control_bits o (g.layers * control)
  unfolding control_part multiplexed
  run_control = take_at (control_bits o (g.layers * control)) (codeword a g) (g.layers * control) (control_long o (g.layers * control))

  pub run_data : past_control g.layers control (multiplexed o control a g) ≡ codeword a g
  unfolding past_control multiplexed
  run_data = drop_at (control_bits o (g.layers * control)) (codeword a g) (g.layers * control) (control_long o (g.layers * control))

  -- from the fewest control bits on every report comes back from it
  pub run_back : {O : ℕ} → Report O o → O ≤ 11 → fewest O ≤ g.layers * control → Back O (control_part g.layers control (multiplexed o control a g)) o
  run_back {O} r short enough = rw run_control (comes_back O (g.layers * control) o r short enough)
