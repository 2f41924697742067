-- The run of a stream as Streams gives it, 01 'Streams': the bytes of its places shown, absent filler cleared, and the three runs after one another.
-- Assumes nothing.
use mathlib.Core.Path.{◌≡◌, sym, ◌∙◌, ap}
use mathlib.Core.Bool.{cond, ◌&&◌}
use mathlib.Core.List.{List, [], ◌++◌, append-nil}
use Prim.Native.Nat.{ℕ, zero, suc, ◌+◌, ◌-◌, ◌*◌, ◌≤◌, ◌<◌}
use native.Mathlib.Nat.{zero-mul, zero-add, add-zero, add-sub_cancel_left, mul-le-mul_right}
use native.Mathlib.Numerals.{add-one}
use native.Mathlib.Decide.{dec_lt}
use native.Mathlib.Omega.{arith}
use lib.Dec.{ltb}
use lib.ListN.{length, get_or, drop, set, replicate, length-append, length-drop, length-replicate, get_or-replicate, get_or-append}
use lib.Seq.{get_or-drop, get_or-append-add}
use borrow.Author.Tests.{lt-ltb, le-ltb}
use borrow.Rule.Slice.PartMut.{mid_of, put_mid}
use Rattle.laws.specs.Lists.{tab, tab_from}
use Rattle.laws.proofs.Parts.{length_mid}
use Rattle.laws.proofs.Tab.{length_tab_from, get_or_tab_from, length_tab, get_or_tab, tab_ext, tab_of, tab_rest, rest_more, rest_none}
use Rattle.laws.proofs.Writing.{Writing, start, same, push, push_part, finish, finish_all}
use Rattle.slots.specs.Circle.{kept_on, shown, stream_on, streams_on}
use Rattle.kept_bits.specs.inner.Rows.{shown_at}

-- ---- the loop that shows each byte

-- the bytes before i are shown
pub record Showing (run₀ run : List ℕ) (i : ℕ) : Type 0 where
  pub passed : i ≤ length run₀
  pub wrote : Writing run₀ run i (tab_from i (length run₀ - i) (shown_at run₀)) (tab (length run₀) (shown_at run₀))

pub showing_start : (run : List ℕ) → Showing run run 0
showing_start run = record { passed = omega arith; wrote = same (sym (tab_rest (length run) (shown_at run))) start }

module _ {run₀ run : List ℕ} {i : ℕ} (w : Showing run₀ run i) where
  -- byte i is as it came
  unwritten : get_or run i 0 ≡ get_or run₀ i 0
  unwritten = rw (← (add-zero i)) (sym (get_or-drop i run 0 0) ∙ ap (λ (l : List ℕ). get_or l 0 0) w.wrote.rest ∙ get_or-drop i run₀ 0 0)

  pub showing_next : {x : ℕ} → i < length run → x ≡ shown (get_or run i 0) → Showing run₀ (set run i x) (i + 1)
  unfolding shown_at
  showing_next {x} h e = record {
    passed = omega (arith, w.wrote.long);
    wrote = push h (same (rest_more i (length run₀) (shown_at run₀) (omega (arith, w.wrote.long)) ∙ rw (e, unwritten)) w.wrote);
  }

  pub showing_finish : length run ≤ i → run ≡ tab (length run₀) (shown_at run₀)
  showing_finish h = finish_all h (rest_none i (length run₀) (shown_at run₀) (omega (arith, w.wrote.long))) w.wrote

-- ---- one run

module _ (circle : List ℕ) (D F s : ℕ) {m : ℕ} {kept told : List ℕ} (long : m ≡ D) (reads : kept ≡ tab_from 0 m (kept_on circle D s))
    (shows : told ≡ tab (length kept) (shown_at kept))
  where
    read : kept ≡ tab_from 0 D (kept_on circle D s)
    read = reads ∙ ap (λ (n : ℕ). tab_from 0 n (kept_on circle D s)) long

    told_is : told ≡ tab D (shown_at kept)
    told_is = shows ∙ ap (λ (n : ℕ). tab n (shown_at kept)) (ap length read ∙ length_tab_from 0 D (kept_on circle D s))

    shown_is : (i : ℕ) → i < D → shown_at kept i ≡ shown (kept_on circle D s i)
    unfolding shown_at
    shown_is i h = ap shown (ap (λ (l : List ℕ). get_or l i 0) read ∙ get_or_tab_from 0 D (kept_on circle D s) i 0 h ∙ ap (kept_on circle D s) (zero-add i))

    -- stream 2: nothing is absent
    pub whole_run : 2 ≤ s → told ≡ tab D (stream_on circle D F s)
    unfolding stream_on
    whole_run h = told_is ∙ tab_ext D (shown_at kept) (stream_on circle D F s) (λ i l. rw (le-ltb s 2 h) (shown_is i l))

    -- streams 0 and 1: the filler is cleared
    pub cleared_run : {run : List ℕ} → s < 2 → F ≤ D → run ≡ replicate {A = ℕ} F 0 ++ drop F told → run ≡ tab D (stream_on circle D F s)
    unfolding stream_on
    cleared_run {run} h f e = e ∙ tab_of (replicate {A = ℕ} F 0 ++ drop F told) D (stream_on circle D F s) whole entry
      where
        whole : length (replicate {A = ℕ} F 0 ++ drop F told) ≡ D
        whole = simp (length-append, length-replicate, length-drop) (omega (arith, ap length told_is, length_tab D (shown_at kept)))

        past : (i : ℕ) → i < D → F ≤ i → get_or (replicate {A = ℕ} F 0 ++ drop F told) i 0 ≡ shown (kept_on circle D s i)
        past i l g =
            ap (λ (n : ℕ). get_or (replicate {A = ℕ} F 0 ++ drop F told) n 0) place
            ∙ get_or-append-add (replicate {A = ℕ} F 0) (drop F told) (i - F) 0
            ∙ get_or-drop F told (i - F) 0
            ∙ ap (λ (n : ℕ). get_or told n 0) back
            ∙ ap (λ (l : List ℕ). get_or l i 0) told_is
            ∙ get_or_tab D (shown_at kept) i 0 l
            ∙ shown_is i l
          where
            place : i ≡ length (replicate {A = ℕ} F 0) + (i - F)
            place = rw (length-replicate {A = ℕ} F 0) (omega arith)

            back : F + (i - F) ≡ i
            back = omega arith

        entry : (i : ℕ) → i < D → get_or (replicate {A = ℕ} F 0 ++ drop F told) i 0 ≡ cond (ltb s 2 && ltb i F) 0 (shown (kept_on circle D s i))
        entry i l = elim (dec_lt i F) [
          | yes g ↦ rw (lt-ltb s 2 h, lt-ltb i F g) (get_or-append (replicate {A = ℕ} F 0) (drop F told) 0 i (rw (length-replicate {A = ℕ} F 0) g) ∙ get_or-replicate F i 0 0 g)
          | no g ↦ let low : F ≤ i = omega arith in rw (lt-ltb s 2 h, le-ltb i F low) (past i l low)
        ]

-- ---- the three runs

-- the runs of n streams from s on
abbrev runs_from : (ℕ → List ℕ) → ℕ → ℕ → List ℕ
runs_from f s zero = []
runs_from f s (suc n) = f s ++ runs_from f (suc s) n

abbrev run : List ℕ → ℕ → ℕ → ℕ → List ℕ
run circle D F s = tab D (stream_on circle D F s)

three : (circle : List ℕ) (D F : ℕ) → runs_from (run circle D F) 0 3 ≡ streams_on circle D F
unfolding streams_on
three circle D F = ap (λ (l : List ℕ). run circle D F 0 ++ (run circle D F 1 ++ l)) (append-nil (run circle D F 2))

-- the runs of the streams before s are written
pub record Running (circle : List ℕ) (D F : ℕ) (out₀ out : List ℕ) (s : ℕ) : Type 0 where
  pub long : 3 * D ≤ length out
  pub wrote : Writing out₀ out (s * D) (runs_from (run circle D F) s (3 - s)) (streams_on circle D F)

pub running_start : (circle : List ℕ) (D F : ℕ) (out : List ℕ) → 3 * D ≤ length out → Running circle D F out out 0
running_start circle D F out h = record { long = h; wrote = rw (zero-mul D) (same (sym (three circle D F)) start) }

module _ {circle : List ℕ} {D F : ℕ} {out₀ out : List ℕ} {s : ℕ} (w : Running circle D F out₀ out s) where
  abbrev at : ℕ
  at = s * D

  -- the next run is within
  pub run_within : s < 3 → at + D ≤ length out
  run_within h = omega (arith, w.long, mul-le-mul_right D h)

  pub run_long : s < 3 → length (mid_of at (at + D - at) out) ≡ D
  run_long h = length_mid at (at + D) out (run_within h) ∙ add-sub_cancel_left at D

  pub running_next : {part : List ℕ} → s < 3 → part ≡ tab D (stream_on circle D F s) → Running circle D F out₀ (put_mid at (at + D - at) out part) (s + 1)
  running_next {part} h e = record {
    long = rw (wrote'.long ∙ sym w.wrote.long) w.long;
    wrote = rw more_places wrote';
  }
    where
      more_places : (s + 1) * D ≡ at + D
      more_places = omega arith

      one : 3 - s ≡ suc (3 - (s + 1))
      one = omega arith

      more : runs_from (run circle D F) s (3 - s) ≡ run circle D F s ++ runs_from (run circle D F) (s + 1) (3 - (s + 1))
      more = ap (runs_from (run circle D F) s) one ∙ ap (λ (k : ℕ). run circle D F s ++ runs_from (run circle D F) k (3 - (s + 1))) (sym (add-one s))

      wrote' : Writing out₀ (put_mid at (at + D - at) out part) (at + D) (runs_from (run circle D F) (s + 1) (3 - (s + 1))) (streams_on circle D F)
      wrote' = push_part e (omega arith) (run_within h) (ap length e ∙ length_tab D (stream_on circle D F s) ∙ sym (add-sub_cancel_left at D)) (same more w.wrote)

  pub running_finish : s ≡ 3 → out ≡ streams_on circle D F ++ drop (3 * D) out₀
  running_finish all = rw ends at (finish (ap (runs_from (run circle D F) s) none) w.wrote)
    where
      none : 3 - s ≡ 0
      none = omega arith

      ends : at ≡ 3 * D
      ends = ap (λ (n : ℕ). n * D) all
