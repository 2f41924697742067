-- The one law for every loop that writes a slice from the front: what stands before the counter, followed by what is
-- still to come, is the whole result, and what stands from the counter on is as it was.
-- In a loop over i: the invariant has `Writing l.initial.out l.out l.i (what the definition still gives) (the whole result)`;
-- `loop-i-init` is `start`, `loop-i-preserved` is `push` (`push_part` after a lent part), `returns` is `finish` or `finish_all`;
-- `same` says what is still to come in another way, as by one unfolding. `start_at` serves a loop that begins at another place.
-- `drop_next` is the turn of a list that is read from the front.
-- Assumes nothing.
use mathlib.Core.Path.{◌≡◌, refl, sym, ◌∙◌, ap}
use mathlib.Core.List.{List, [], ◌∷◌, ◌++◌, append_assoc, append-nil}
use Prim.Native.Nat.{ℕ, ◌+◌, ◌-◌, ◌≤◌, ◌<◌}
use native.Mathlib.Numerals.{add-one}
use native.Mathlib.Omega.{arith}
use lib.ListN.{length, get_or, take, drop, set, length-set, length-append, take-append-drop, drop_of_length-le}
use lib.Seq.{append_snoc, length-take-le, drop-cons, drop-drop, drop-set-lt, take-suc-set, take_at}
use borrow.Rule.Slice.PartMut.{put_mid, same_len_mid, mid_len, Post-is, drop_put}

-- out is out₀ after i entries were written; future is still to come of total
pub record Writing {A : Type 0} (out₀ out : List A) (i : ℕ) (future total : List A) : Type 0 where
  pub long : length out ≡ length out₀
  pub rest : drop i out ≡ drop i out₀
  pub told : take i out ++ future ≡ total

module _ {A : Type 0} where
  pub start : {out total : List A} → Writing out out 0 total total
  start = record { long = refl; rest = refl; told = refl }

  -- a loop that starts to write at place `at`
  pub start_at : (at : ℕ) {out future : List A} → Writing out out at future (take at out ++ future)
  start_at at = record { long = refl; rest = refl; told = refl }

  -- what is still to come, said in another way
  pub same : {out₀ out : List A} {i : ℕ} {future future' total : List A} → future ≡ future' → Writing out₀ out i future total → Writing out₀ out i future' total
  same {out = out} {i = i} e w = record { long = w.long; rest = w.rest; told = ap (λ (l : List A). take i out ++ l) (sym e) ∙ w.told }

  -- `out[i] = x; i += 1`
  pub push : {out₀ out : List A} {i : ℕ} {x : A} {future total : List A} → i < length out → Writing out₀ out i (x ∷ future) total → Writing out₀ (set out i x) (i + 1) future total
  push {out₀} {out} {i} {x} {future} h w = record {
    long = length-set out i x ∙ w.long;
    rest = drop-set-lt (i + 1) out i x (omega arith) ∙ sym (drop-drop 1 i out) ∙ ap (λ (l : List A). drop 1 l) w.rest ∙ drop-drop 1 i out₀;
    told = rw (add-one, take-suc-set out i x, append_snoc) w.told;
  }

  -- a lent part `&mut out[i..e]` came back and is what the callee says
  pub push_part : {out₀ out : List A} {i e : ℕ} {part said future total : List A} → part ≡ said → i ≤ e → e ≤ length out → length part ≡ e - i
      → Writing out₀ out i (said ++ future) total → Writing out₀ (put_mid i (e - i) out part) e future total
  push_part {out₀} {out} {i} {e} {part} {future = future} s h l n w = record {
    long = same_len_mid i (e - i) out part (n ∙ sym (mid_len i e out l)) ∙ w.long;
    rest = drop_put i e out part h l n ∙ sym (Post-is i e out h) ∙ ap (λ (r : List A). drop (e - i) r) w.rest ∙ Post-is i e out₀ h;
    told = rw (← append_assoc (take i out) part, take_at (take i out ++ part) (drop (e - i) (drop i out)) e ends, append_assoc)
        (ap (λ (r : List A). take i out ++ (r ++ future)) s ∙ w.told);
  }
    where
      ends : length (take i out ++ part) ≡ e
      ends = rw (length-append, length-take-le i out (omega arith)) (omega arith)

  -- the loop has ended
  pub finish : {out₀ out : List A} {i : ℕ} {future total : List A} → future ≡ [] → Writing out₀ out i future total → out ≡ total ++ drop i out₀
  finish {out₀} {out} {i} {future} {total} e w = sym (take-append-drop i out) ∙ rw w.rest (ap (λ (l : List A). l ++ drop i out₀) (sym (append-nil (take i out)) ∙ ap (λ (l : List A). take i out ++ l) (sym e) ∙ w.told))

  -- the loop has filled the slice
  pub finish_all : {out₀ out : List A} {i : ℕ} {future total : List A} → length out ≤ i → future ≡ [] → Writing out₀ out i future total → out ≡ total
  finish_all {out₀} {out} {i} {future} {total} h e w = finish e w ∙ rw (drop_of_length-le out₀ full) (append-nil total)
    where
      full : length out₀ ≤ i
      full = omega (arith, w.long)

  -- how many entries there are to write
  pub count : {out₀ out : List A} {i : ℕ} {future total : List A} → i ≤ length out → Writing out₀ out i future total → length total ≡ i + length future
  count {out₀} {out} {i} {future} h w = ap length (sym w.told) ∙ length-append (take i out) future ∙ ap (λ (m : ℕ). m + length future) (length-take-le i out h)

-- what stands from place i on: its entry, and what stands from the next place on
pub drop_next : (l : List ℕ) (i : ℕ) → i < length l → drop i l ≡ get_or l i 0 ∷ drop (i + 1) l
drop_next l i h = rw (add-one, drop-cons l i 0)
