-- A head comes back from its bytes, and other bytes for the head of one slot change that head alone.
-- Assumes nothing.
use mathlib.Core.Path.{◌≡◌, refl, sym, ◌∙◌, ap, ap₂}
use mathlib.Core.Bool.{Bool, true, false, cond}
use mathlib.Core.List.{List, [], ◌∷◌, ◌++◌, append_assoc}
use Prim.Native.Nat.{ℕ, zero, suc, ◌+◌, ◌*◌, ◌-◌, ◌^◌, ◌≤◌, ◌<◌}
use native.Mathlib.Omega.{arith}
use borrow.Author.Tests.{le-ltb}
use borrow.Rule.Slice.PartMut.{put_mid}
use lib.ListN.{length, take, drop, get_or, set, length-append}
use lib.Seq.{get_or-append-add}
use Rattle.laws.proofs.Parts.{put_is, length_put, get_or_put_before, get_or_put_after}
use Rattle.slots.specs.declared.Head.{Head}
use Rattle.state_bytes.specs.Numbers.{in_bytes, number_from}
use Rattle.state_bytes.specs.StateBytes.{head_numbers, heads_numbers, head_of, head_from, heads_from}
use Rattle.state_bytes.proofs.Back.{same_number, numbers_back, length_in, in_append}

-- a head whose numbers fit their bytes: every head of a state that a call is handed or returns
pub record Fits (h : Head) : Type 0 where
  pub terminal : h.terminal < 65536
  pub size : h.size < 256 ^ 8
  pub share : h.share < 256 ^ 8

-- ---- one head

pub same_head : (a b : List ℕ) (at bt : ℕ) → ((k : ℕ) → k < 32 → get_or a (at + k) 0 ≡ get_or b (bt + k) 0) → head_from a at ≡ head_from b bt
unfolding head_from
same_head a b at bt h = rw (same_number 8 a b at bt (λ k l. h k (omega arith)), part 8 (omega arith), part 16 (omega arith), part 24 (omega arith))
  where
    part : (o : ℕ) → o + 8 ≤ 32 → number_from 8 a (at + o) ≡ number_from 8 b (bt + o)
    part o m = same_number 8 a b (at + o) (bt + o) (λ k l. ap (λ (i : ℕ). get_or a i 0) (on at k) ∙ h (o + k) (omega arith) ∙ ap (λ (i : ℕ). get_or b i 0) (sym (on bt k)))
      where
        on : (i k : ℕ) → i + o + k ≡ i + (o + k)
        on i k = omega arith

numbers_head : (flag : Bool) (terminal A share : ℕ) → terminal < 65536 → head_of (cond flag 1 0) terminal A share ≡ record { opened = flag; terminal = terminal; size = A; share = share }
unfolding head_of
numbers_head true terminal A share h = rw (le-ltb 65535 terminal (omega arith))
numbers_head false terminal A share h = rw (le-ltb 65535 terminal (omega arith))

flag_below : (flag : Bool) → cond flag 1 0 < 256 ^ 8
flag_below true = omega arith
flag_below false = omega arith

pub head_back : (h : Head) (rest : List ℕ) → Fits h → head_from (in_bytes 8 (head_numbers h) ++ rest) 0 ≡ h
unfolding head_numbers head_from
head_back h rest f =
    rw (
      numbers_back 8 (head_numbers h) rest 0 (omega arith) (flag_below h.opened),
      numbers_back 8 (head_numbers h) rest 1 (omega arith) (omega (arith, f.terminal)),
      numbers_back 8 (head_numbers h) rest 2 (omega arith) f.size,
      numbers_back 8 (head_numbers h) rest 3 (omega arith) f.share,
    )
    (numbers_head h.opened h.terminal h.size h.share f.terminal)

-- behind a front
pub head_behind : (front : List ℕ) (h : Head) (rest : List ℕ) → Fits h → head_from (front ++ (in_bytes 8 (head_numbers h) ++ rest)) (length front) ≡ h
head_behind front h rest f =
    same_head (front ++ (in_bytes 8 (head_numbers h) ++ rest)) (in_bytes 8 (head_numbers h) ++ rest) (length front) 0
    (λ k l. get_or-append-add front (in_bytes 8 (head_numbers h) ++ rest) k 0 ∙ ap (λ (i : ℕ). get_or (in_bytes 8 (head_numbers h) ++ rest) i 0) (from k))
    ∙ head_back h rest f
  where
    from : (k : ℕ) → k ≡ 0 + k
    from k = omega arith

pub length_head : (h : Head) → length (in_bytes 8 (head_numbers h)) ≡ 32
unfolding head_numbers
length_head h = length_in 8 (head_numbers h)

-- ---- other bytes for one head

-- the 32 bytes from p on are others
abbrev pub over : List ℕ → ℕ → List ℕ → List ℕ
over bytes p part = take p bytes ++ (part ++ drop (p + 32) bytes)

module _ (bytes part : List ℕ) (p : ℕ) (fits : p + 32 ≤ length bytes) (size : length part ≡ 32) where
  placed : over bytes p part ≡ put_mid p (p + 32 - p) bytes part
  placed = sym (put_is p (p + 32) bytes part (omega arith))

  pub length_over : length (over bytes p part) ≡ length bytes
  length_over = rw placed (length_put p (p + 32) bytes part fits (omega arith))

  pub byte_before : (i : ℕ) → i < p → get_or (over bytes p part) i 0 ≡ get_or bytes i 0
  byte_before i l = rw placed (get_or_put_before p (p + 32 - p) bytes part i 0 (omega arith) l)

  pub byte_after : (i : ℕ) → p + 32 ≤ i → get_or (over bytes p part) i 0 ≡ get_or bytes i 0
  byte_after i l = rw placed (get_or_put_after p (p + 32) bytes part i 0 (omega arith) fits (omega arith) l)

  pub number_before : (n at : ℕ) → at + n ≤ p → number_from n (over bytes p part) at ≡ number_from n bytes at
  number_before n at l = same_number n (over bytes p part) bytes at at (λ k m. byte_before (at + k) (omega arith))

  pub heads_after_lem : (n at : ℕ) → p + 32 ≤ at → heads_from (over bytes p part) at n ≡ heads_from bytes at n
  unfolding heads_from
  heads_after_lem zero at l = refl
  heads_after_lem (suc n) at l =
      ap₂ (λ (h : Head) (hs : List Head). h ∷ hs) (same_head (over bytes p part) bytes at at (λ k m. byte_after (at + k) (omega arith))) (heads_after_lem n (at + 32) (omega arith))

  pub heads_put : (n slot at : ℕ) → at + 32 * slot ≡ p → slot < n → heads_from (over bytes p part) at n ≡ set (heads_from bytes at n) slot (head_from (over bytes p part) p)
  unfolding heads_from
  heads_put zero slot at e l = absurd (omega arith)
  heads_put (suc n) zero at e l = ap₂ (λ (h : Head) (hs : List Head). h ∷ hs) (ap (head_from (over bytes p part)) here) (heads_after_lem n (at + 32) (omega arith))
    where
      here : at ≡ p
      here = omega arith
  heads_put (suc n) (suc slot) at e l =
      ap₂ (λ (h : Head) (hs : List Head). h ∷ hs) (same_head (over bytes p part) bytes at at (λ k m. byte_before (at + k) (omega arith))) (heads_put n slot (at + 32) (omega arith) (omega arith))

-- ---- heads one after another

pub length_heads : (bytes : List ℕ) (at n : ℕ) → length (heads_from bytes at n) ≡ n
unfolding heads_from
length_heads bytes at zero = refl
length_heads bytes at (suc n) = ap suc (length_heads bytes (at + 32) n)

pub head_there : (bytes : List ℕ) (at n slot : ℕ) (d : Head) → slot < n → get_or (heads_from bytes at n) slot d ≡ head_from bytes (at + 32 * slot)
unfolding heads_from
head_there bytes at zero slot d l = absurd (omega arith)
head_there bytes at (suc n) zero d l = ap (head_from bytes) here
  where
    here : at ≡ at + 32 * 0
    here = omega arith
head_there bytes at (suc n) (suc slot) d l = head_there bytes (at + 32) n slot d (omega arith) ∙ ap (head_from bytes) there
  where
    there : at + 32 + 32 * slot ≡ at + 32 * suc slot
    there = omega arith

pub heads_back : (hs : List Head) (front rest : List ℕ) → ((i : ℕ) → (d : Head) → i < length hs → Fits (get_or hs i d))
    → heads_from (front ++ (in_bytes 8 (heads_numbers hs) ++ rest)) (length front) (length hs) ≡ hs
unfolding heads_numbers heads_from in_bytes
heads_back [] front rest f = refl
heads_back (h ∷ hs) front rest f =
    ap (λ (l : List ℕ). heads_from l (length front) (suc (length hs))) joined
    ∙ ap₂ (λ (x : Head) (xs : List Head). x ∷ xs) (head_behind front h (in_bytes 8 (heads_numbers hs) ++ rest) (f 0 h (omega arith)))
    (ap₂ (λ (l : List ℕ) (at : ℕ). heads_from l at (length hs)) (sym (append_assoc front mine (in_bytes 8 (heads_numbers hs) ++ rest))) further
    ∙ heads_back hs (front ++ mine) rest (λ i d l. f (suc i) d (omega arith)))
  where
    mine : List ℕ
    mine = in_bytes 8 (head_numbers h)

    joined : front ++ (in_bytes 8 (head_numbers h ++ heads_numbers hs) ++ rest) ≡ front ++ (mine ++ (in_bytes 8 (heads_numbers hs) ++ rest))
    joined = ap (λ (l : List ℕ). front ++ l) (ap (λ (l : List ℕ). l ++ rest) (in_append 8 (head_numbers h) (heads_numbers hs)) ∙ append_assoc mine (in_bytes 8 (heads_numbers hs)) rest)

    further : length front + 32 ≡ length (front ++ mine)
    further = omega (arith, length-append front mine, length_head h)
