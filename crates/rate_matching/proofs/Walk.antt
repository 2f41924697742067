-- The walk round the circle, clause 5.1.4.1.2: a turn passes each place that holds a bit once, and turn after turn is what the standard's own loop sends.
-- Assumes nothing.
use mathlib.Core.Path.{◌≡◌, refl, sym, ◌∙◌, ap, ap₂}
use mathlib.Core.Bool.{Bool, true, false}
use mathlib.Core.List.{List, [], ◌∷◌, ◌++◌, map}
use Prim.Native.Nat.{ℕ, zero, suc, ◌+◌, ◌-◌, ◌*◌, ◌%◌, ◌≤◌, ◌<◌}
use native.Mathlib.Nat.{add-zero, zero-mul, add-mod_right, mod-lt, mod-eq_of_lt, mod-eq-sub-mod, mod-add-mod, add-mod-mod, mul-le-mul_left}
use native.Mathlib.Omega.{arith}
use lib.Dec.{ltb}
use lib.ListN.{length, get_or, take, length-append, length-map, get_or-append}
use lib.Seq.{length-take-le, get_or-append-add, get_or-take, take-nil}
use borrow.Author.Tests.{ltb-true, ltb-false}
use Rattle.laws.specs.Lists.{tab, tab_from, keep}
use Rattle.laws.proofs.Tab.{length_tab, get_or_tab, tab_ext, tab_of, tab_split, map_tab, tab_from_shift}
use Rattle.laws.proofs.Keep.{keep_append, keep_passes}
use Rattle.rate_matching.specs.Walk.{on_circle, holds_bit, itself, round, turn, turn_after_turn, sent_places, selected, loop, Among, NoneTwice}
use Rattle.rate_matching.proofs.Places.{once_round}
use Rattle.rate_matching.proofs.Kept.{keep_finds, keep_from, keep_none_twice}

-- ---- once round a circle of n places: the i-th place from k0 on, and back

-- the place that the standard's loop looks at when it has passed i places
abbrev pub passed : ℕ → ℕ → ℕ → ℕ
passed n k0 i = (k0 + i) % n

-- after how many places from k0 on place j comes
abbrev waits : ℕ → ℕ → ℕ → ℕ
waits n k0 j = (j + (n - k0)) % n

module _ (n k0 : ℕ) (h : k0 < n) where
  waits_passed : (i : ℕ) → i < n → waits n k0 (passed n k0 i) ≡ i
  waits_passed i l = mod-add-mod (k0 + i) n (n - k0) ∙ once_round n i (k0 + i + (n - k0)) l (omega arith)

  passed_waits : (j : ℕ) → j < n → passed n k0 (waits n k0 j) ≡ j
  passed_waits j l = add-mod-mod k0 (j + (n - k0)) n ∙ once_round n j (k0 + (j + (n - k0))) l (omega arith)

  round_is : round n k0 ≡ tab n (passed n k0)
  unfolding round tab itself
  round_is =
      let whole : n - k0 + k0 ≡ n = omega arith in
      ap₂ ◌++◌
      (ap (λ (k : ℕ). tab_from k (n - k0) itself) (sym (add-zero k0))
      ∙ tab_from_shift k0 0 (n - k0) itself
      ∙ tab_ext (n - k0) (λ (k : ℕ). k0 + k) (passed n k0) (λ i l. sym (mod-eq_of_lt (omega arith))))
      (tab_ext k0 itself (λ (k : ℕ). passed n k0 (n - k0 + k)) (λ i l. sym (once_round n i (k0 + (n - k0 + i)) (omega arith) (omega arith))))
      ∙ sym (tab_split (n - k0) k0 (passed n k0))
      ∙ ap (λ (m : ℕ). tab m (passed n k0)) whole

  pub length_round : length (round n k0) ≡ n
  length_round = ap length round_is ∙ length_tab n (passed n k0)

  pub round_at : (i : ℕ) → i < n → get_or (round n k0) i 0 ≡ passed n k0 i
  round_at i l = ap (λ (r : List ℕ). get_or r i 0) round_is ∙ get_or_tab n (passed n k0) i 0 l

  round_none_twice : NoneTwice (round n k0)
  round_none_twice a b u v e =
      let u' : a < n = rw length_round at u in
      let v' : b < n = rw length_round at v in
      sym (waits_passed a u') ∙ ap (waits n k0) (sym (round_at a u') ∙ e ∙ round_at b v') ∙ waits_passed b v'

-- ---- one turn

module _ (w : List ℕ) (k0 : ℕ) (h : k0 < length w) where
  -- each entry of a turn is a place of the circle
  pub turn_lt : (i : ℕ) → i < length (turn w k0) → get_or (turn w k0) i 0 < length w
  unfolding turn
  turn_lt i l =
      let f = keep_from (holds_bit w) (round (length w) k0) i l in
      let g : f.0 < length w = rw (length_round (length w) k0 h) at f.1 in
      rw (← f.2, round_at (length w) k0 h f.0 g) (mod-lt (k0 + f.0) (omega arith))

  -- and holds a bit
  pub turn_holds : (i : ℕ) → i < length (turn w k0) → holds_bit w (get_or (turn w k0) i 0) ≡ true
  unfolding turn
  turn_holds i l = keep_passes (holds_bit w) (round (length w) k0) i 0 l

  pub turn_none_twice : NoneTwice (turn w k0)
  unfolding turn
  turn_none_twice = keep_none_twice (holds_bit w) (round (length w) k0) (round_none_twice (length w) k0 h)

  -- each place that holds a bit is in the turn
  pub turn_finds : (j : ℕ) → j < length w → holds_bit w j ≡ true → Among j (turn w k0)
  unfolding turn
  turn_finds j l t =
      let i : ℕ = waits (length w) k0 j in
      let u : i < length w = mod-lt (j + (length w - k0)) (omega arith) in
      let e : get_or (round (length w) k0) i 0 ≡ j = round_at (length w) k0 h i u ∙ passed_waits (length w) k0 h j l in
      (rw e at (keep_finds (holds_bit w) (round (length w) k0) i (rw (length_round (length w) k0 h) u) (rw e t))).0

  pub turn_pos : (j : ℕ) → j < length w → holds_bit w j ≡ true → 0 < length (turn w k0)
  turn_pos j l t = let f = turn_finds j l t in omega (arith, f.1)

-- ---- turn after turn

pub length_selected : (w : List ℕ) (k0 E : ℕ) → length (selected w k0 E) ≡ E
unfolding selected sent_places
length_selected w k0 E = length-map (tab E (turn_after_turn (turn w k0))) (on_circle w) ∙ length_tab E (turn_after_turn (turn w k0))

pub get_or_map : (f : ℕ → ℕ) (l : List ℕ) (i : ℕ) → i < length l → get_or (map f l) i 0 ≡ f (get_or l i 0)
get_or_map f [] i h = absurd (omega arith)
get_or_map f (x ∷ l) zero h = refl
get_or_map f (x ∷ l) (suc i) h = get_or_map f l i (omega arith)

-- what stands at the places sent, from what stands at those of one turn
pub sent_map : (f : ℕ → ℕ) (places : List ℕ) (E : ℕ) → 0 < length places → map f (tab E (turn_after_turn places)) ≡ tab E (turn_after_turn (map f places))
unfolding turn_after_turn
sent_map f places E h =
    map_tab E (turn_after_turn places) f
    ∙ tab_ext E (λ (k : ℕ). f (turn_after_turn places k)) (turn_after_turn (map f places))
    (λ k l. rw (length-map places f) (sym (get_or_map f places (k % length places) (mod-lt k h))))

-- l, m times
turns : ℕ → List ℕ → List ℕ
turns zero l = []
turns (suc m) l = l ++ turns m l

length_turns : (m : ℕ) (l : List ℕ) → length (turns m l) ≡ m * length l
unfolding turns
length_turns zero l = omega arith
length_turns (suc m) l = rw (length-append l (turns m l), length_turns m l) (omega arith)

turns_at : (m : ℕ) (l : List ℕ) (k : ℕ) → k < m * length l → get_or (turns m l) k 0 ≡ turn_after_turn l k
unfolding turns turn_after_turn
turns_at zero l k h = absurd (omega arith)
turns_at (suc m) l k h = go (turns_at m l (k - length l)) (ltb k (length l)) refl
  where
    go : (k - length l < m * length l → get_or (turns m l) (k - length l) 0 ≡ get_or l ((k - length l) % length l) 0)
        → (b : Bool) → ltb k (length l) ≡ b → get_or (l ++ turns m l) k 0 ≡ get_or l (k % length l) 0
    go f true t =
        let u : k < length l = ltb-true k (length l) t in
        get_or-append l (turns m l) 0 k u ∙ ap (λ (i : ℕ). get_or l i 0) (sym (mod-eq_of_lt u))
    go f false t =
        let u : length l ≤ k = ltb-false k (length l) t in
        let e : k ≡ length l + (k - length l) = omega arith in
        ap (λ (i : ℕ). get_or (l ++ turns m l) i 0) e
        ∙ get_or-append-add l (turns m l) (k - length l) 0
        ∙ f (omega arith)
        ∙ ap (λ (i : ℕ). get_or l i 0) (sym (mod-eq-sub-mod u))

-- ---- the standard's own loop

-- it sends the first k of the bits at the places that it passes
loop_sends : (fuel : ℕ) (w : List ℕ) (k0 j k : ℕ)
    → loop fuel w k0 j k ≡ take k (map (on_circle w) (keep (holds_bit w) (tab_from j fuel (passed (length w) k0))))
unfolding loop keep tab_from
loop_sends zero w k0 j k = sym (take-nil k)
loop_sends (suc fuel) w k0 j zero = refl
loop_sends (suc fuel) w k0 j (suc k) =
    go (holds_bit w (passed (length w) k0 j)) (passed (length w) k0 j) (keep (holds_bit w) (tab_from (suc j) fuel (passed (length w) k0)))
    (loop_sends fuel w k0 (suc j) k)
    (loop_sends fuel w k0 (suc j) (suc k))
  where
    go : (b : Bool) (x : ℕ) (l : List ℕ) {s t : List ℕ} → s ≡ take k (map (on_circle w) l) → t ≡ take (suc k) (map (on_circle w) l)
        → ◌≡◌ {A = List ℕ} (elim b [ true ↦ on_circle w x ∷ s | false ↦ t ]) (take (suc k) (map (on_circle w) (elim b [ true ↦ x ∷ l | false ↦ l ])))
    go true x l e f = ap (λ (r : List ℕ). on_circle w x ∷ r) e
    go false x l e f = f

module _ (w : List ℕ) (k0 : ℕ) (h : k0 < length w) where
  -- the place that it looks at when it has passed i places
  abbrev look : ℕ → ℕ
  look = passed (length w) k0

  -- the same a round on
  look_again : (i : ℕ) → look (length w + i) ≡ look i
  look_again i =
      let e : k0 + (length w + i) ≡ k0 + i + length w = omega arith in
      ap (λ (n : ℕ). n % length w) e ∙ add-mod_right (k0 + i) (length w)

  -- in m rounds it passes m turns
  rounds_are_turns : (m : ℕ) → keep (holds_bit w) (tab (m * length w) look) ≡ turns m (turn w k0)
  unfolding turns turn tab tab_from keep
  rounds_are_turns zero = rw (zero-mul (length w))
  rounds_are_turns (suc m) =
      let e : suc m * length w ≡ length w + m * length w = omega arith in
      ap (λ (n : ℕ). keep (holds_bit w) (tab n look)) e
      ∙ ap (keep (holds_bit w)) (tab_split (length w) (m * length w) look)
      ∙ keep_append (holds_bit w) (tab (length w) look) (tab (m * length w) (λ (k : ℕ). look (length w + k)))
      ∙ ap₂ (λ (a b : List ℕ). keep (holds_bit w) a ++ keep (holds_bit w) b)
      (sym (round_is (length w) k0 h))
      (tab_ext (m * length w) (λ (k : ℕ). look (length w + k)) look (λ i l. look_again i))
      ∙ ap (λ (r : List ℕ). turn w k0 ++ r) (rounds_are_turns m)

  -- and in m rounds or more, m turns first
  turns_first : (m fuel : ℕ) → m * length w ≤ fuel → (rest : List ℕ) × (keep (holds_bit w) (tab fuel look) ≡ turns m (turn w k0) ++ rest)
  turns_first m fuel h =
      let r : ℕ = fuel - m * length w in
      let e : fuel ≡ m * length w + r = omega arith in (
        keep (holds_bit w) (tab r (λ (k : ℕ). look (m * length w + k))),
        ap (λ (n : ℕ). keep (holds_bit w) (tab n look)) e
            ∙ ap (keep (holds_bit w)) (tab_split (m * length w) r look)
            ∙ keep_append (holds_bit w) (tab (m * length w) look) (tab r (λ (k : ℕ). look (m * length w + k)))
            ∙ ap (λ (l : List ℕ). l ++ keep (holds_bit w) (tab r (λ (k : ℕ). look (m * length w + k)))) (rounds_are_turns m),
      )

  -- the first E bits of E turns
  first_of_turns : (E : ℕ) → 0 < length (turn w k0) → (rest : List ℕ) → take E (map (on_circle w) (turns E (turn w k0) ++ rest)) ≡ selected w k0 E
  unfolding selected sent_places
  first_of_turns E p rest =
      let sent : List ℕ = turns E (turn w k0) ++ rest in
      let many : E ≤ length (turns E (turn w k0)) = rw length_turns (omega (arith, mul-le-mul_left E p)) in
      let long : E ≤ length sent = rw length-append (omega arith) in
      tab_of (take E (map (on_circle w) sent)) E (λ (i : ℕ). on_circle w (turn_after_turn (turn w k0) i))
      (length-take-le E (map (on_circle w) sent) (rw length-map long))
      (λ i l.
      get_or-take E (map (on_circle w) sent) i 0 l
      ∙ get_or_map (on_circle w) sent i (omega arith)
      ∙ ap (on_circle w)
      (get_or-append (turns E (turn w k0)) rest 0 i (omega arith) ∙ turns_at E (turn w k0) i (omega (arith, length_turns E (turn w k0)))))
      ∙ sym (map_tab E (turn_after_turn (turn w k0)) (on_circle w))

  -- with fuel for E rounds the standard's own loop sends what is selected
  pub loop_is_selected : (fuel E j : ℕ) → j < length w → holds_bit w j ≡ true → E * length w ≤ fuel → loop fuel w k0 0 E ≡ selected w k0 E
  unfolding tab
  loop_is_selected fuel E j l t enough =
      let passes = turns_first E fuel enough in
      loop_sends fuel w k0 0 E
      ∙ ap (λ (places : List ℕ). take E (map (on_circle w) places)) passes.1
      ∙ first_of_turns E (turn_pos w k0 h j l t) passes.0
