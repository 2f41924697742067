-- Laws of the soft buffer: a share is long enough for every code block where it is for the longest, and what number 21 tells.
-- Assumes nothing.
use mathlib.Core.Path.{◌≡◌, refl, sym, ◌∙◌, ap}
use mathlib.Core.Bool.{Bool, true, false, cond, not, ◌||◌, ◌&&◌}
use mathlib.Core.List.{List}
use Prim.Native.Nat.{ℕ, zero, suc, ◌+◌, ◌-◌, ◌*◌, ◌/◌, ◌≤◌, ◌<◌, min}
use native.Mathlib.Decide.{dec_lt}
use native.Mathlib.Omega.{arith}
use lib.Dec.{eqb, leb, ltb}
use lib.ListN.{length}
use borrow.Author.Tests.{lt-ltb, le-ltb, ltb-false, eqb-true, eqb-false, ne_eqb, not-false}
use Rattle.refusals.specs.Refusals.{Rule}
use Rattle.refusals.proofs.Refusals.{Listed, passed, listed}
use Rattle.segmentation.specs.Segmentation.{blocks, long, shorts, size_of}
use Rattle.segmentation.specs.declared.Segments.{Segments}
use Rattle.segmentation.specs.Sizes.{bad_size, segments_of}
use Rattle.segmentation.proofs.Segmentation.{in_range, blocks_least, large_of, short_is, shorts_fewer, size_short, size_long}
use Rattle.rate_matching.specs.SubBlocks.{rows}
use Rattle.rate_matching.specs.Circle.{circle_length, cut_at, Cut}
use Rattle.rate_matching.specs.SoftBuffer.{k_c, divisor_in, soft_share}
use Rattle.codeword.specs.declared.Grant.{Grant}
use Rattle.codeword.specs.Codeword.{block_rows, block_cut}
use Rattle.codeword.specs.Build.{bad_version, size_rule, symbol_rule, length_rule, version_rule, output_rule, bits_rule}
use Rattle.codeword.specs.Downlink.{bad_receiver, too_short, bad_buffer, share_for, buffer_rule, build_down_rules, build_down_number}
use Rattle.codeword.specs.inner.Accepted.{Accepted}
use Rattle.codeword.proofs.Accepted.{or-false, allocation_of}

or_last : (a : Bool) {b : Bool} → b ≡ true → (a || b) ≡ true
or_last true e = refl
or_last false e = e

-- ---- the longest code block has the most rows

module _ (B : ℕ) (high : B ≤ 30600) where
  -- no code block is longer than the long size
  pub size_under : (r : ℕ) → size_of B r ≤ long B
  size_under r = elim (dec_lt r (shorts B)) [
    | yes l ↦ let several : 1 < blocks B = omega (arith, shorts_fewer B high) in omega (arith, size_short B high r l, (short_is B high (large_of B several)).below)
    | no g ↦ let last : shorts B ≤ r = omega arith in omega (arith, size_long B high r last)
  ]

  pub rows_under : (r : ℕ) → block_rows B r ≤ rows (long B + 4)
  unfolding block_rows rows
  rows_under r = omega (arith, size_under r)

  -- the last one is a long one
  rows_last : block_rows B (blocks B - 1) ≡ rows (long B + 4)
  unfolding block_rows
  rows_last = let last : shorts B ≤ blocks B - 1 = omega (arith, shorts_fewer B high) in ap (λ (k : ℕ). rows (k + 4)) (size_long B high (blocks B - 1) last)

  rows_some : (r : ℕ) → 1 ≤ block_rows B r
  unfolding block_rows rows
  rows_some r = omega arith

  -- ---- what a share that is long enough for the longest tells

  module _ (soft : ℕ) where
    -- N_cb of a code block is below 32·R exactly where the share is
    cut_below : (r : ℕ) → ltb (block_cut soft B r) (32 * block_rows B r) ≡ ltb soft (32 * block_rows B r)
    unfolding block_cut cut_at circle_length
    cut_below r = elim (dec_lt soft (32 * block_rows B r)) [
      | yes h ↦ lt-ltb (min soft (96 * block_rows B r)) (32 * block_rows B r) (omega arith) ∙ sym (lt-ltb soft (32 * block_rows B r) h)
      | no h ↦ le-ltb (min soft (96 * block_rows B r)) (32 * block_rows B r) (omega (arith, rows_some r)) ∙ sym (le-ltb soft (32 * block_rows B r) (omega arith))
    ]

    none_short : 32 * rows (long B + 4) ≤ soft → (n : ℕ) → too_short soft B n ≡ false
    unfolding too_short
    none_short h zero = refl
    none_short h (suc n) = rw (none_short h n, cut_below n) (le-ltb soft (32 * block_rows B n) (omega (arith, rows_under n)))

    last_short : soft < 32 * rows (long B + 4) → too_short soft B (blocks B) ≡ true
    unfolding too_short
    last_short h =
        let last : blocks B ≡ suc (blocks B - 1) = omega (arith, blocks_least B high) in
        ap (too_short soft B) last
        ∙ or_last (too_short soft B (blocks B - 1)) (cut_below (blocks B - 1) ∙ lt-ltb soft (32 * block_rows B (blocks B - 1)) (rw rows_last h))

    pub short_told : too_short soft B (blocks B) ≡ ltb soft (32 * rows (long B + 4))
    short_told = elim (dec_lt soft (32 * rows (long B + 4))) [
      | yes h ↦ last_short h ∙ sym (lt-ltb soft (32 * rows (long B + 4)) h)
      | no h ↦ none_short (omega arith) (blocks B) ∙ sym (le-ltb soft (32 * rows (long B + 4)) (omega arith))
    ]

-- the circle of R rows is cut where it may be
pub cut_told : {soft : ℕ} (R : ℕ) → 0 < R → 32 * R ≤ soft → Cut (cut_at soft R) R
unfolding cut_at circle_length
cut_told R some h = record { some = some; least = omega arith; most = omega arith }

-- ---- the receiver

-- K_C is 1 to 5
pub divisor_few : (release Nsoft layers : ℕ) → (1 ≤ divisor_in release Nsoft layers) × (divisor_in release Nsoft layers ≤ 5)
unfolding divisor_in k_c
divisor_few release Nsoft layers = go (eqb release 11) (eqb Nsoft 35982720) (eqb Nsoft 3654144 && leb layers 2)
  where
    go : (a b c : Bool) → (1 ≤ cond a (cond b 5 (cond c 2 1)) 1) × (cond a (cond b 5 (cond c 2 1)) 1 ≤ 5)
    go true true c = (omega arith, omega arith)
    go true false true = (omega arith, omega arith)
    go true false false = (omega arith, omega arith)
    go false b c = (omega arith, omega arith)

-- what is accepted of it
pub record Receiver (k_mimo processes : ℕ) : Type 0 where
  pub some : 1 ≤ k_mimo
  pub few : k_mimo ≤ 2
  pub running : 1 ≤ processes

pub receiver : (release k_mimo processes : ℕ) → bad_receiver release k_mimo processes ≡ false → Receiver k_mimo processes
unfolding bad_receiver
receiver release k_mimo processes h =
    let a = or-false (not (eqb release 8 || eqb release 11)) (not (eqb k_mimo 1 || eqb k_mimo 2) || eqb processes 0) h in
    let b = or-false (not (eqb k_mimo 1 || eqb k_mimo 2)) (eqb processes 0) a.1 in
    let m : (1 ≤ k_mimo) × (k_mimo ≤ 2) = go (eqb k_mimo 1) (eqb k_mimo 2) refl refl (not-false _ b.0) in
    record { some = m.0; few = m.1; running = omega (arith, eqb-false processes 0 b.1) }
  where
    go : (s t : Bool) → eqb k_mimo 1 ≡ s → eqb k_mimo 2 ≡ t → (s || t) ≡ true → (1 ≤ k_mimo) × (k_mimo ≤ 2)
    go true t e f g = (omega (arith, eqb-true k_mimo 1 e), omega (arith, eqb-true k_mimo 1 e))
    go false true e f g = (omega (arith, eqb-true k_mimo 2 f), omega (arith, eqb-true k_mimo 2 f))
    go false false e f g = let z : ◌≡◌ {A = ℕ} 0 1 = cc in absurd (omega arith)

-- ---- number 21

-- R of the longest code block, by the segmentation that was found
pub rows_told : (A : ℕ) {s : Segments} → s ≡ segments_of (A + 24) → (s.long + 35) / 32 ≡ rows (long (A + 24) + 4)
unfolding segments_of rows
rows_told A told = ap (λ (x : Segments). (x.long + 35) / 32) told ∙ ap (λ (n : ℕ). n / 32) (omega arith)

some_rows : (K : ℕ) → 1 ≤ rows (K + 4)
unfolding rows
some_rows K = omega arith

module _ (a : List ℕ) (release k_mimo processes Nsoft layers : ℕ) where
  abbrev B : ℕ
  B = length a + 24

  abbrev given : ℕ
  given = share_for (blocks B) release k_mimo processes Nsoft layers

  module _ (good : bad_size (length a) ≡ false) where
    high : B ≤ 30600
    high = omega (arith, (in_range (length a) good).1)

    -- the share that is used where there is one
    used : bad_receiver release k_mimo processes ≡ false → given ≡ soft_share (blocks B) release k_mimo processes Nsoft layers
    unfolding share_for
    used e = simp (ne_eqb (blocks B) 0 (λ z. omega (arith, blocks_least B high)), e)

    unused : bad_receiver release k_mimo processes ≡ true → given ≡ 0
    unfolding share_for
    unused e = ap (λ (b : Bool). cond b 0 (soft_share (blocks B) release k_mimo processes Nsoft layers)) (or_last (eqb (blocks B) 0) e)

    pub buffer_told : bad_buffer B release k_mimo processes Nsoft layers ≡ ltb given (32 * rows (long B + 4))
    unfolding bad_buffer
    buffer_told = go (bad_receiver release k_mimo processes) refl
      where
        go : (t : Bool) → bad_receiver release k_mimo processes ≡ t
            → (bad_receiver release k_mimo processes || too_short (soft_share (blocks B) release k_mimo processes Nsoft layers) B (blocks B)) ≡ ltb given (32 * rows (long B + 4))
        go true e = rw (e, unused e) (sym (lt-ltb 0 (32 * rows (long B + 4)) (omega (arith, some_rows (long B)))))
        go false e = rw (e, used e) (short_told B high (soft_share (blocks B) release k_mimo processes Nsoft layers))

  module _ (g : Grant) where
    -- what number 0 tells
    passes : (room : ℕ) → build_down_number a release k_mimo processes Nsoft layers g room ≡ 0
        → (r : Rule) → Listed r (build_down_rules a release k_mimo processes Nsoft layers g room) → r.bad ≡ false
    unfolding build_down_number build_down_rules
    passes room h = passed (build_down_rules a release k_mimo processes Nsoft layers g room) refl h tt

    pub accepted_down : (room : ℕ) → build_down_number a release k_mimo processes Nsoft layers g room ≡ 0 → Accepted given a g × (g.bits ≤ room)
    unfolding build_down_rules bad_version
    accepted_down room h = (
      record {
        size = good;
        buffer = λ r below. omega (arith, rows_under B (high good) r, ltb-false given (32 * rows (long B + 4)) (sym (buffer_told good) ∙ clear (buffer_rule B release k_mimo processes Nsoft layers) (search listed)));
        allocation = allocation_of _ _ _ _
            (clear (symbol_rule g.modulation g.layers) (search listed))
            (clear (length_rule (blocks B) g.modulation g.layers g.bits) (search listed));
        version = ltb-false 3 g.version (clear (version_rule g.version) (search listed));
        bits = clear (bits_rule a) (search listed);
      },
      ltb-false room g.bits (clear (output_rule g.bits room) (search listed)),
    )
      where
        clear : (r : Rule) → Listed r (build_down_rules a release k_mimo processes Nsoft layers g room) → r.bad ≡ false
        clear = passes room h

        good : bad_size (length a) ≡ false
        good = clear (size_rule (length a)) (search listed)

    -- the share is the standard's
    pub share_told : (room : ℕ) → build_down_number a release k_mimo processes Nsoft layers g room ≡ 0 → given ≡ soft_share (blocks B) release k_mimo processes Nsoft layers
    unfolding build_down_rules bad_buffer
    share_told room h =
        used (passes room h (size_rule (length a)) (search listed))
        (or-false _ _ (passes room h (buffer_rule B release k_mimo processes Nsoft layers) (search listed))).0
