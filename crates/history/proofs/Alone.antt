-- One transmission alone, 02 E6: of any accepted share and version, with as many bits for every code block as its circle, cut, has places, it sends every data place,
-- since the whole of stream 0 lies before the cut; and there is such a G for every block, Q and N.
-- Assumes nothing.
use mathlib.Core.Path.{◌≡◌, refl, sym, ◌∙◌, ap, subst}
use mathlib.Core.Bool.{Bool, true, false, ◌||◌}
use mathlib.Core.List.{List, ◌++◌}
use Prim.Native.Nat.{ℕ, zero, suc, ◌+◌, ◌*◌, ◌/◌, ◌%◌, ◌≤◌, ◌<◌}
use native.Mathlib.Omega.{arith}
use lib.Dec.{eqb}
use lib.Arith.{digits_div, digits_mod}
use lib.ListN.{length, take, drop}
use borrow.Author.Tests.{eqb-true, le-ltb, eq-eqb, not-false}
use Rattle.laws.specs.Bits.{AreBits}
use Rattle.laws.proofs.Keep.{length_keep}
use Rattle.segmentation.specs.Segmentation.{blocks, size_of, filler_of}
use Rattle.segmentation.specs.Sizes.{bad_size}
use Rattle.segmentation.proofs.Segmentation.{in_range, blocks_least, blocks_most, size_most}
use Rattle.rate_matching.specs.SubBlocks.{rows}
use Rattle.rate_matching.specs.Circle.{circle_length, cut_at, start_in}
use Rattle.rate_matching.specs.Places.{place_number}
use Rattle.rate_matching.specs.Shape.{shape}
use Rattle.rate_matching.specs.Walk.{holds_bit, round, turn, Among}
use Rattle.rate_matching.proofs.Circle.{start_below}
use Rattle.rate_matching.proofs.Walk.{length_round}
use Rattle.rate_matching.proofs.Coverage.{turn_sent}
use Rattle.rate_matching.proofs.Cut.{length_cut, holds_cut}
use Rattle.rate_matching.proofs.ShapeCount.{data_lt, data_holds}
use Rattle.codeword.specs.Shares.{symbols, share, granted}
use Rattle.codeword.proofs.Accepted.{modulation, layers, step}
use Rattle.codeword.proofs.Shares.{share_is}
use Rattle.codeword.specs.Build.{bad_modulation, bad_layers, bad_symbol, bad_length, bad_allocation}
use Rattle.codeword.specs.Codeword.{block_rows, block_cut}
use Rattle.planning.specs.Needs.{Gives}
use Rattle.slots.specs.Outcome.{Done}
use Rattle.slots.specs.declared.State.{State}
use Rattle.slots.specs.Reception.{block_places}
use Rattle.slots.specs.Calls.{size_at_head, share_at_head, read_number, read_outcome, read_output}
use Rattle.slots.proofs.Buffers.{Wide}
use Rattle.slots.proofs.Accepted.{good}
use Rattle.slots.proofs.Acceptance.{reads}
use Rattle.slots.proofs.HeadLaws.{open_size}
use Rattle.slots.proofs.PlaceBounds.{streams_least, filler_fewer, block_cut_lem}
use Rattle.history.specs.Links.{Link, share_in}
use Rattle.history.specs.Calls.{Reception, opening, History, grant_of}
use Rattle.history.specs.Answered.{answer_to}
use Rattle.history.specs.After.{made, state_after, store_after, rooms_long, accepted_after}
use Rattle.history.specs.Later.{Undisturbed, accepted_in}
use Rattle.history.specs.Sent.{AllTrue, DataPlace, AllSent}
use Rattle.history.specs.Repeats.{Some, WholeTurn, turn_bits}
use Rattle.history.proofs.Links.{opening_admitted, opening_wide}
use Rattle.history.proofs.DataPlaces.{unsent_none}
use Rattle.history.proofs.Opening.{number}
use Rattle.history.proofs.June.{at_once, only_later, after_opening}
use Rattle.history.proofs.Repeats.{places_of, sent_by, Sound, AllSound, of_sound, sounds}

-- ---- a whole turn sends every data place

module _ (soft A : ℕ) (admitted : bad_size A ≡ false) (wide : Wide soft (A + 24)) where
  -- the circle of code block r, cut, and where version v starts
  abbrev cut_shape : ℕ → List ℕ
  cut_shape r = take (block_cut soft (A + 24) r) (shape (size_of (A + 24) r + 4) (filler_of (A + 24) r))

  abbrev start_at : ℕ → ℕ → ℕ
  start_at r v = start_in (block_cut soft (A + 24) r) (rows (size_of (A + 24) r + 4)) v

  cut_long : (r v : ℕ) → v ≤ 3 → length (cut_shape r) ≡ block_cut soft (A + 24) r
  cut_long r v low = length_cut (streams_least A admitted r) (filler_fewer A admitted r) (block_cut_lem A admitted wide r) low

  starts : (r v : ℕ) → v ≤ 3 → start_at r v < length (cut_shape r)
  starts r v low = rw (cut_long r v low) (start_below (block_cut_lem A admitted wide r) v low)

  -- a turn has no more places than the circle
  turn_fits : (r v : ℕ) → v ≤ 3 → length (turn (cut_shape r) (start_at r v)) ≤ block_cut soft (A + 24) r
  unfolding turn
  turn_fits r v low =
      omega (
        arith,
        length_keep (holds_bit (cut_shape r)) (round (length (cut_shape r)) (start_at r v)),
        length_round (length (cut_shape r)) (start_at r v) (starts r v low),
        cut_long r v low,
      )

  by_turn : (r i : ℕ) → DataPlace A r i → (x : Reception) → Sound x × WholeTurn soft A x → Among (place_number (size_of (A + 24) r + 4) 0 i) (places_of soft A r x)
  unfolding block_places block_rows
  by_turn r i d x (sound, gives) =
      turn_sent (cut_shape r) (start_at r x.version) (starts r x.version sound.version) (granted (blocks (A + 24)) (grant_of x) r)
      (omega (arith, turn_fits r x.version sound.version, gives r d.block))
      j (rw (cut_long r x.version sound.version) before)
      (holds_cut (shape D F) (block_cut soft (A + 24) r) j before ∙ data_holds D F few i d.past_filler (omega (arith, d.below_size)))
    where
      D : ℕ
      D = size_of (A + 24) r + 4

      F : ℕ
      F = filler_of (A + 24) r

      j : ℕ
      j = place_number D 0 i

      few : F ≤ D
      few = omega (arith, filler_fewer A admitted r)

      before : j < block_cut soft (A + 24) r
      before = omega (arith, data_lt D F few i d.past_filler (omega (arith, d.below_size)), (block_cut_lem A admitted wide r).least)

  pub turn_sends_all : (xs : List Reception) → AllSound xs → Some (WholeTurn soft A) xs → AllSent soft A xs
  turn_sends_all xs sound some r i d =
      sent_by soft A r (place_number (size_of (A + 24) r + 4) 0 i) (λ (x : Reception). Sound x × WholeTurn soft A x) (by_turn r i d) xs
      (of_sound (λ x s g. (s, g)) xs sound some)

-- ---- any history: a read that is not refused for its arguments gives the block

module _ (S M : ℕ) (store₀ : List ℕ) (h : History) (past : List ℕ) (slot terminal : ℕ) where
  abbrev state : State
  state = state_after S M store₀ h

  abbrev soft : ℕ
  soft = share_at_head state slot

  abbrev store : List ℕ
  store = store_after S M store₀ h past

  abbrev accepted : List Reception
  accepted = accepted_after S M store₀ h slot

  module _ (a : List ℕ) (bits : AreBits a) (size_is : size_at_head state slot ≡ length a) (true_all : AllTrue soft a accepted) (out : List ℕ)
      (came : read_number state (length store) slot terminal (length out) ≡ 0) where
    pub gives_alone : Some (WholeTurn soft (length a)) accepted
        → (read_outcome state store slot terminal (length out) ≡ record { answer = Done; state = state })
        × (read_output state store slot terminal out ≡ a ++ drop (length a) out)
    gives_alone some =
        let w = reads state (length store) slot terminal (length out) came in
        let admitted = rw size_is at (open_size state w.sound slot w.below w.opened).0 in
        let wide = rw size_is at ((good state w.sound).wide slot w.below w.opened) in
        at_once S M store₀ h past slot terminal a bits size_is true_all out
        (turn_sends_all soft (length a) admitted wide accepted (sounds S M (rooms_long S M store₀) slot h) some) came

-- ---- after an accepted opening and any calls that leave the slot open

module _ (S M : ℕ) (store₀ : List ℕ) (earlier : History) (past₀ : List ℕ) (link : Link) (slot terminal A : ℕ)
    (opens : answer_to (state_after S M store₀ earlier) (store_after S M store₀ earlier past₀) (opening link slot terminal A) ≡ Done)
    (later : History) (undisturbed : Undisturbed S M (rooms_long S M store₀) slot later (made (opening link slot terminal A) past₀ earlier)) (past : List ℕ) where
  abbrev opened : History
  opened = made (opening link slot terminal A) past₀ earlier

  abbrev heard : List Reception
  heard = accepted_in S M (rooms_long S M store₀) slot later opened

  abbrev now : State
  now = state_after S M store₀ (later ++ opened)

  abbrev lent_now : List ℕ
  lent_now = store_after S M store₀ (later ++ opened) past

  module _ (a : List ℕ) (bits : AreBits a) (long : length a ≡ A) (true_later : AllTrue (share_in link A) a heard) (out : List ℕ) (enough : A ≤ length out) where
    pub gives_alone_since : Some (WholeTurn (share_in link A) A) heard
        → (read_outcome now lent_now slot terminal (length out) ≡ record { answer = Done; state = now })
        × (read_output now lent_now slot terminal out ≡ a ++ drop A out)
    gives_alone_since some =
        let accepted = number S M store₀ earlier past₀ link slot terminal A opens in
        let sound = subst AllSound (only_later S M store₀ earlier past₀ link slot terminal A opens later) (sounds S M (rooms_long S M store₀) slot (later ++ opened)) in
        rw (unsent_none (share_in link A) A heard (turn_sends_all (share_in link A) A (opening_admitted _ _ slot A link accepted) (opening_wide _ _ slot A link accepted) heard sound some)) at
        (after_opening S M store₀ earlier past₀ link slot terminal A opens later undisturbed past a bits long true_later out enough)

-- ---- there is such a G

-- N·Q is one of 2, 4, 6, 8, 12, 16, 18 and 24, each of which divides 18,576 = 144·129
step_divides : (Q N : ℕ) → bad_modulation Q ≡ false → bad_layers N ≡ false → (m : ℕ) × (m * (N * Q) ≡ 18576)
unfolding bad_modulation
step_divides Q N q n = by_modulation (eqb Q 2) (eqb Q 4) (eqb Q 6) refl refl refl (not-false _ q)
  where
    by_layers : (N : ℕ) → (0 < N) × (N ≤ 4) → (m : ℕ) × (m * N ≡ 1548)
    by_layers zero l = absurd (omega arith)
    by_layers (suc zero) l = (1548, omega arith)
    by_layers (suc (suc zero)) l = (774, omega arith)
    by_layers (suc (suc (suc zero))) l = (516, omega arith)
    by_layers (suc (suc (suc (suc zero)))) l = (387, omega arith)
    by_layers (suc (suc (suc (suc (suc N))))) l = absurd (omega arith)

    few : (m : ℕ) × (m * N ≡ 1548)
    few = by_layers N (layers N n)

    -- 12 = Q·k
    times : (k : ℕ) → Q * k ≡ 12 → (m : ℕ) × (m * (N * Q) ≡ 18576)
    times k e = (few.0 * k, omega (arith, ap (λ (x : ℕ). few.0 * N * x) e, few.1))

    by_modulation : (s t u : Bool) → eqb Q 2 ≡ s → eqb Q 4 ≡ t → eqb Q 6 ≡ u → (s || (t || u)) ≡ true → (m : ℕ) × (m * (N * Q) ≡ 18576)
    by_modulation true t u e f g h = times 6 (omega (arith, eqb-true Q 2 e))
    by_modulation false true u e f g h = times 3 (omega (arith, eqb-true Q 4 f))
    by_modulation false false true e f g h = times 2 (omega (arith, eqb-true Q 6 g))
    by_modulation false false false e f g h = let z : ◌≡◌ {A = ℕ} 0 1 = cc in absurd (omega arith)

-- a share is at least the floor's symbols
share_least : (C Q N G r : ℕ) {m : ℕ} → 0 < C → r < C → symbols Q N G / C ≡ m → m * (N * Q) ≤ share C Q N G r
share_least C Q N G r {m} pos h e = rw (share_is C Q N G r pos h, e) (omega arith)

by_blocks : (m s C : ℕ) → m * s ≡ 18576 → 18576 * C ≡ m * C * s + 0
by_blocks m s C e = omega (arith, ap (λ (x : ℕ). x * C) e)

mul_some : (C m : ℕ) → (m ≡ 0 → ⊥) → C ≤ m * C
mul_some C zero z = absurd (z refl)
mul_some C (suc m) z = omega arith

module _ (A Q N : ℕ) (admitted : bad_size A ≡ false) (modulation_fits : bad_modulation Q ≡ false) (layers_fit : bad_layers N ≡ false) where
  abbrev C : ℕ
  C = blocks (A + 24)

  abbrev m : ℕ
  m = (step_divides Q N modulation_fits layers_fit).0

  divides : m * (N * Q) ≡ 18576
  divides = (step_divides Q N modulation_fits layers_fit).1

  some_blocks : (0 < C) × (C ≤ 5)
  some_blocks = (blocks_least (A + 24) (omega (arith, in_range A admitted)), blocks_most (A + 24) (omega (arith, in_range A admitted)))

  some_step : 0 < N * Q
  some_step = (step Q N (modulation Q modulation_fits) (layers N layers_fit)).0

  -- G = C·m·N·Q
  parts : turn_bits A ≡ m * C * (N * Q) + 0
  unfolding turn_bits
  parts = by_blocks m (N * Q) (blocks (A + 24)) divides

  symbols_are : symbols Q N (turn_bits A) ≡ m * C
  unfolding symbols
  symbols_are = ap (λ (G : ℕ). G / (N * Q)) parts ∙ digits_div (m * C) {r = 0} some_step

  -- it is accepted
  pub turn_allocated : bad_allocation C Q N (turn_bits A) ≡ false
  unfolding bad_allocation bad_symbol bad_length turn_bits
  turn_allocated =
      let multiple : turn_bits A % (N * Q) ≡ 0 = ap (λ (G : ℕ). G % (N * Q)) parts ∙ digits_mod (m * C) {r = 0} some_step in
      let enough : C ≤ symbols Q N (turn_bits A) = rw symbols_are (mul_some C m (λ z. let none : 0 * (N * Q) ≡ 18576 = sym (ap (λ (x : ℕ). x * (N * Q)) z) ∙ divides in omega (arith, none))) in
      simp (modulation_fits, layers_fit, le-ltb 172800 (18576 * C) (omega (arith, some_blocks.1)), eq-eqb _ 0 multiple, le-ltb _ C enough)

  -- and gives every code block as many bits as its circle has places, wherever it is cut
  pub turn_gives : (soft : ℕ) → Gives (block_cut soft (A + 24)) C Q N (turn_bits A)
  unfolding block_cut cut_at circle_length block_rows rows
  turn_gives soft r h =
      let each : symbols Q N (turn_bits A) / C ≡ m = ap (λ (x : ℕ). x / C) (symbols_are ∙ omega arith) ∙ digits_div m {r = 0} some_blocks.0 in
      omega (arith, share_least C Q N (turn_bits A) r some_blocks.0 h each, divides, size_most (A + 24) (omega (arith, in_range A admitted)) r)
