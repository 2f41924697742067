-- How many repeats at worst, request E8 of 02: one true transmission each of versions 0, 1 and 3 with 24·R bits for every code block sends every data place, and so does
-- one of any version with 3·D − 2·F bits for code block 0 and 3·D for each other. By the walk's law for any start: nothing here goes by K, and nothing by the order.
-- Assumes nothing.
use mathlib.Core.Path.{◌≡◌, refl, sym, subst}
use mathlib.Core.Logic.{inl, inr, ⊎_elim}
use mathlib.Core.Bool.{Bool, true, false, cond, ◌&&◌, ◌||◌}
use mathlib.Core.List.{List, [], ◌∷◌, ◌++◌}
use Prim.Native.Nat.{ℕ, zero, suc, ◌+◌, ◌*◌, ◌≤◌, ◌<◌}
use native.Mathlib.Omega.{arith}
use lib.Dec.{eqb}
use lib.ListN.{length, get_or, drop}
use borrow.Author.Tests.{eq-eqb, eqb-true, ltb-false}
use Rattle.laws.specs.Bits.{AreBits}
use Rattle.segmentation.specs.Segmentation.{blocks, size_of, filler_of}
use Rattle.segmentation.proofs.Segmentation.{in_range}
use Rattle.segmentation.proofs.CodeBlocks.{filler_within}
use Rattle.rate_matching.specs.SubBlocks.{rows}
use Rattle.rate_matching.specs.Circle.{circle_length}
use Rattle.rate_matching.specs.SoftBuffer.{whole_share}
use Rattle.rate_matching.specs.Places.{place_number}
use Rattle.rate_matching.specs.Walk.{Among}
use Rattle.rate_matching.proofs.Coverage.{quarter_of, quarter_lt, never_2}
use Rattle.rate_matching.proofs.ShapeCount.{data_lt, data_holds, quarter_sent, whole_sent}
use Rattle.codeword.specs.Build.{bad_version}
use Rattle.codeword.specs.Shares.{granted}
use Rattle.codeword.specs.Codeword.{block_rows}
use Rattle.codeword.proofs.Accepted.{allocated}
use Rattle.planning.specs.Needs.{quarter, whole, need_of_three, need_of_one}
use Rattle.planning.proofs.Promises.{three_iff, one_iff}
use Rattle.slots.specs.Outcome.{Done}
use Rattle.slots.specs.declared.State.{State}
use Rattle.slots.specs.Reception.{block_places}
use Rattle.slots.specs.Calls.{size_at_head, share_at_head, receive_number, read_number, read_outcome, read_output, close_number}
use Rattle.slots.proofs.Acceptance.{receives, reads}
use Rattle.slots.proofs.HeadLaws.{open_size}
use Rattle.history.specs.Links.{uplink, share_in, opening_number}
use Rattle.history.specs.Calls.{Reception, Call, opening, receiving, reading, streaming, closing, History, grant_of}
use Rattle.history.specs.Accepted.{lent_length, heads_after, since_call, since}
use Rattle.history.specs.Answered.{answer_to}
use Rattle.history.specs.After.{made, state_after, store_after, rooms_long, accepted_after}
use Rattle.history.specs.Later.{Undisturbed, accepted_in}
use Rattle.history.specs.Sent.{AllTrue, among, sent, DataPlace, AllSent}
use Rattle.history.specs.Repeats.{Some, Repeat, OfThree, Whole, PlannedRepeat, Enough, three, one, three_planned, one_planned}
use Rattle.history.proofs.Uplink.{whole_places}
use Rattle.history.proofs.Links.{opening_fits}
use Rattle.history.proofs.DataPlaces.{unsent_none}
use Rattle.history.proofs.Opening.{number}
use Rattle.history.proofs.June.{at_once, only_later, after_opening}

-- ---- a place that one of the receptions sends

or_last : (s : Bool) {t : Bool} → t ≡ true → (s || t) ≡ true
or_last true e = refl
or_last false e = e

among_of : (j : ℕ) (ps : List ℕ) (k : ℕ) → k < length ps → get_or ps k 0 ≡ j → among j ps ≡ true
unfolding among
among_of j [] k h e = absurd (omega arith)
among_of j (p ∷ ps) zero h e = rw (eq-eqb p j e)
among_of j (p ∷ ps) (suc k) h e = or_last (eqb p j) (among_of j ps k (omega arith) e)

-- the places of code block r of a block of A bits that a reception sends, each code block having a share `soft` of the soft buffer
abbrev pub places_of : ℕ → ℕ → ℕ → Reception → List ℕ
places_of soft A r x = block_places soft (A + 24) (grant_of x) r

module _ (soft A r j : ℕ) where
  pub sent_by : (such : Reception → Type 0) → ((x : Reception) → such x → Among j (places_of soft A r x)) → (xs : List Reception) → Some such xs → sent soft A xs r j ≡ true
  unfolding sent
  sent_by such f [] s = absurd s
  sent_by such f (x ∷ xs) s =
      ⊎_elim (λ here. let g = f x here in rw (among_of j (places_of soft A r x) g.0 g.1 g.2)) (λ later. or_last (among j (places_of soft A r x)) (sent_by such f xs later)) s

-- what an accepted reception keeps to
pub record Sound (x : Reception) : Type 0 where
  pub version : x.version ≤ 3
  pub unit : 0 < x.N * x.Q

-- ---- a data place of a block of A bits, in an uplink

module _ (A : ℕ) (most : A ≤ 30576) (r i : ℕ) (d : DataPlace A r i) where
  abbrev D : ℕ
  D = size_of (A + 24) r + 4

  abbrev F : ℕ
  F = filler_of (A + 24) r

  abbrev j : ℕ
  j = place_number D 0 i

  few : F ≤ D
  few = omega (arith, filler_within (A + 24) (omega arith) (omega arith) r)

  in_third : j < 32 * rows D
  in_third = data_lt D F few i d.past_filler (omega (arith, d.below_size))

  on_circle_lem : j < circle_length (rows D)
  unfolding circle_length
  on_circle_lem = omega (arith, in_third)

  -- a reception that sends it, from what it gives the code block
  by_repeat : (x : Reception) → Repeat A (quarter_of (rows D) j) x → Among j (places_of whole_share A r x)
  unfolding block_rows need_of_three quarter
  by_repeat x w =
      rw (whole_places A most (grant_of x) r, w.version)
      (quarter_sent D F few (omega arith) (granted (blocks (A + 24)) (grant_of x) r) j on_circle_lem
      (data_holds D F few i d.past_filler (omega (arith, d.below_size)))
      (w.gives r d.block))

  by_whole : (x : Reception) → Sound x × Whole A x → Among j (places_of whole_share A r x)
  unfolding block_rows need_of_one whole
  by_whole x w =
      rw (whole_places A most (grant_of x) r)
      (whole_sent D F few (omega arith) (granted (blocks (A + 24)) (grant_of x) r) j on_circle_lem
      (data_holds D F few i d.past_filler (omega (arith, d.below_size)))
      x.version w.0.version (w.1 r d.block))

  -- the version in whose quarter it lies is one of the three
  one_of_three : (xs : List Reception) → OfThree (Repeat A) xs → Some (Repeat A (quarter_of (rows D) j)) xs
  unfolding circle_length
  one_of_three xs w = pick (quarter_of (rows D) j) (quarter_lt (rows D) (omega (arith, in_third)) j on_circle_lem) (never_2 (rows D) (omega (arith, in_third)) j on_circle_lem in_third)
    where
      pick : (v : ℕ) → v < 4 → (v ≡ 2 → ⊥) → Some (Repeat A v) xs
      pick zero l n = w.version_0
      pick (suc zero) l n = w.version_1
      pick (suc (suc zero)) l n = absurd (n refl)
      pick (suc (suc (suc zero))) l n = w.version_3
      pick (suc (suc (suc (suc v)))) l n = absurd (omega arith)

-- ---- every data place is sent

module _ (A : ℕ) (most : A ≤ 30576) (xs : List Reception) where
  three_send_all : OfThree (Repeat A) xs → AllSent whole_share A xs
  three_send_all w r i d =
      sent_by whole_share A r (j A most r i d) (Repeat A (quarter_of (rows (D A most r i d)) (j A most r i d))) (by_repeat A most r i d) xs (one_of_three A most r i d xs w)

  one_sends_all : Some (λ (x : Reception). Sound x × Whole A x) xs → AllSent whole_share A xs
  one_sends_all w r i d = sent_by whole_share A r (j A most r i d) (λ (x : Reception). Sound x × Whole A x) (by_whole A most r i d) xs w

-- ---- what was accepted

abbrev pub AllSound : List Reception → Type 0
AllSound [] = Unit {0}
AllSound (x ∷ xs) = Sound x × AllSound xs

-- what follows of each sound reception
pub of_sound : {such so : Reception → Type 0} → ((x : Reception) → Sound x → such x → so x) → (xs : List Reception) → AllSound xs → Some such xs → Some so xs
of_sound f [] s w = w
of_sound f (x ∷ xs) s w = ⊎_elim (λ here. inl (f x s.0 here)) (λ later. inr (of_sound f xs s.1 later)) w

-- whichever way it was enough, every data place was sent
enough_sends_all : (A : ℕ) → A ≤ 30576 → (xs : List Reception) → AllSound xs → Enough A xs → AllSent whole_share A xs
enough_sends_all A most xs sound (three w) = three_send_all A most xs w
enough_sends_all A most xs sound (one w) = one_sends_all A most xs (of_sound (λ x s g. (s, g)) xs sound w)
enough_sends_all A most xs sound (three_planned w) =
    three_send_all A most xs (record { version_0 = met 0 w.version_0; version_1 = met 1 w.version_1; version_3 = met 3 w.version_3 })
  where
    met : (v : ℕ) → Some (PlannedRepeat A v) xs → Some (Repeat A v) xs
    met v s = of_sound (λ x s p. record { version = p.version; gives = (three_iff A x.Q x.N (length x.bits) s.unit).1 p.enough }) xs sound s
enough_sends_all A most xs sound (one_planned w) =
    one_sends_all A most xs (of_sound (λ x s p. (s, (one_iff A x.Q x.N (length x.bits) s.unit).1 p)) xs sound w)

module _ (S M n slot : ℕ) where
  after_call : (state : State) (room : ℕ) (call : Call) (xs : List Reception) → AllSound xs → AllSound (since_call state room slot call xs)
  unfolding since_call bad_version
  after_call state room (opening link s terminal A) xs v = go (eqb s slot && eqb (opening_number link state room s A) 0)
    where
      go : (b : Bool) → AllSound (cond b [] xs)
      go true = tt
      go false = v
  after_call state room (receiving s terminal x) xs v = go (eqb s slot) (eqb number 0) refl
    where
      number : ℕ
      number = receive_number state room s terminal x.Q x.N x.version x.bits

      go : (a b : Bool) → eqb number 0 ≡ b → AllSound (cond (a && b) (x ∷ xs) xs)
      go true true e =
          let w = receives state room s terminal x.Q x.N x.version x.bits (eqb-true number 0 e) in
          (record { version = ltb-false 3 x.version w.version; unit = (allocated _ x.Q x.N (length x.bits) w.allocation).step_fits.0 }, v)
      go true false e = v
      go false b e = v
  after_call state room (reading s terminal size) xs v = v
  after_call state room (streaming s terminal block size) xs v = v
  after_call state room (closing s terminal) xs v = go (eqb s slot && eqb (close_number state s terminal) 0)
    where
      go : (b : Bool) → AllSound (cond b [] xs)
      go true = tt
      go false = v

  pub sounds : (h : History) → AllSound (since S M n slot h)
  unfolding since
  sounds [] = tt
  sounds (m ∷ h) =
      after_call (heads_after S M n h) (lent_length (heads_after S M n h) n m.past) m.call (since S M n slot h) (sounds h)

-- ---- any history: a read that is not refused for its arguments gives the block

module _ (S M : ℕ) (store₀ : List ℕ) (h : History) (past : List ℕ) (slot terminal : ℕ) where
  abbrev state : State
  state = state_after S M store₀ h

  abbrev store : List ℕ
  store = store_after S M store₀ h past

  abbrev accepted : List Reception
  accepted = accepted_after S M store₀ h slot

  module _ (a : List ℕ) (bits : AreBits a) (size_is : size_at_head state slot ≡ length a) (share_is : share_at_head state slot ≡ whole_share) (true_all : AllTrue whole_share a accepted) (out : List ℕ)
      (came : read_number state (length store) slot terminal (length out) ≡ 0) where
    small : length a ≤ 30576
    small =
        let w = reads state (length store) slot terminal (length out) came in
        omega (arith, size_is, in_range (size_at_head state slot) (open_size state w.sound slot w.below w.opened).0)

    pub gives : Enough (length a) accepted
        → (read_outcome state store slot terminal (length out) ≡ record { answer = Done; state = state })
        × (read_output state store slot terminal out ≡ a ++ drop (length a) out)
    gives w =
        at_once S M store₀ h past slot terminal a bits size_is (subst (λ (s : ℕ). AllTrue s a accepted) (sym share_is) true_all) out
        (subst (λ (s : ℕ). AllSent s (length a) accepted) (sym share_is) (enough_sends_all (length a) small accepted (sounds S M (rooms_long S M store₀) slot h) w)) came

-- ---- after an accepted opening for an uplink and any calls that leave the slot open

module _ (S M : ℕ) (store₀ : List ℕ) (earlier : History) (past₀ : List ℕ) (slot terminal A : ℕ)
    (opens : answer_to (state_after S M store₀ earlier) (store_after S M store₀ earlier past₀) (opening uplink slot terminal A) ≡ Done)
    (later : History) (undisturbed : Undisturbed S M (rooms_long S M store₀) slot later (made (opening uplink slot terminal A) past₀ earlier)) (past : List ℕ) where
  abbrev opened : History
  opened = made (opening uplink slot terminal A) past₀ earlier

  abbrev heard : List Reception
  heard = accepted_in S M (rooms_long S M store₀) slot later opened

  abbrev now : State
  now = state_after S M store₀ (later ++ opened)

  abbrev lent_now : List ℕ
  lent_now = store_after S M store₀ (later ++ opened) past

  in_size : A ≤ 30576
  in_size = (opening_fits _ _ slot A uplink (number S M store₀ earlier past₀ uplink slot terminal A opens)).size_fits.size_most

  module _ (a : List ℕ) (bits : AreBits a) (long : length a ≡ A) (true_later : AllTrue whole_share a heard) (out : List ℕ) (enough : A ≤ length out) where
    pub gives_since : Enough A heard
        → (read_outcome now lent_now slot terminal (length out) ≡ record { answer = Done; state = now })
        × (read_output now lent_now slot terminal out ≡ a ++ drop A out)
    unfolding share_in
    gives_since w =
        let sound = subst AllSound (only_later S M store₀ earlier past₀ uplink slot terminal A opens later) (sounds S M (rooms_long S M store₀) slot (later ++ opened)) in
        rw (unsent_none whole_share A heard (enough_sends_all A in_size heard sound w)) at
        (after_opening S M store₀ earlier past₀ uplink slot terminal A opens later undisturbed past a bits long true_later out enough)
