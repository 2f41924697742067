-- The June incident, demand 3: what a slot's room held before an opening never counts, so that no block is released of which a data place was not sent since.
-- Assumes nothing.
use mathlib.Core.Path.{◌≡◌, refl, sym, ◌∙◌, ap, subst₂}
use mathlib.Core.Bool.{Bool, true, false, cond, ◌&&◌}
use mathlib.Core.List.{List, [], ◌∷◌, ◌++◌}
use Prim.Native.Nat.{ℕ, ◌≤◌}
use native.Mathlib.Omega.{arith}
use lib.Dec.{eqb}
use lib.ListN.{length, drop, replicate, length-replicate}
use borrow.Author.Tests.{eq-eqb, ne_eqb, eqb-true}
use Rattle.laws.specs.Bits.{AreBits}
use Rattle.laws.proofs.AreBits.{zero_bits}
use Rattle.slots.specs.Outcome.{Done, Refused}
use Rattle.slots.specs.Outcome.{Outcome}
use Rattle.slots.specs.declared.State.{State}
use Rattle.slots.specs.Answers.{Lacking, is_done, unless_refused}
use Rattle.slots.specs.Room.{room_at}
use Rattle.slots.specs.Reading.{heard_answer, heard_block}
use Rattle.slots.specs.Calls.{size_at_head, share_at_head, receive_number, read_number, read_outcome, released, read_output}
use Rattle.history.specs.Links.{Link, share_in, opening_number}
use Rattle.history.specs.Calls.{Reception, opening, receiving, History}
use Rattle.history.specs.Accepted.{lent_length, heads_after, since_call, since}
use Rattle.history.specs.Answered.{answer_to}
use Rattle.history.specs.After.{made, state_after, store_after, rooms_long, accepted_after}
use Rattle.history.specs.Sent.{True, AllTrue, sent, unsent, DataPlace, sent_data, AllSent, NoneSent, data_places}
use Rattle.history.specs.Later.{restarts, Undisturbed, accepted_in, Withheld}
use Rattle.history.proofs.Links.{opening_fits}
use Rattle.history.proofs.DataPlaces.{unsent_all, unsent_none, unsent_some, some_data_places}
use Rattle.history.proofs.Opening.{number, still_share, still_size, read_comes}
use Rattle.history.proofs.Release.{released_iff}

-- ---- a read that gives nothing out

refused_is : (number : ℕ) (state : State) (o : Outcome) → eqb number 0 ≡ false → (unless_refused number state o).answer ≡ Done → ⊥
unfolding unless_refused
refused_is number state o e d =
    let other : Refused number ≡ Done =
    sym (ap (λ (b : Bool). (cond {A = Outcome} b o (record { answer = Refused number; state = state })).answer) e) ∙ d in
    let z : ◌≡◌ {A = ℕ} 0 1 = cc in
    omega arith

pub not_done : (n : ℕ) → Lacking n ≡ Done → ⊥
not_done n e = let z : ◌≡◌ {A = ℕ} 0 1 = cc in omega arith

module _ (state : State) (store : List ℕ) (slot terminal : ℕ) (out : List ℕ) where
  abbrev refusal : ℕ
  refusal = read_number state (length store) slot terminal (length out)

  pub refused_answer : eqb refusal 0 ≡ false → (read_outcome state store slot terminal (length out)).answer ≡ Done → ⊥
  unfolding read_outcome
  refused_answer e d = refused_is refusal state _ e d

  pub refused_output : eqb refusal 0 ≡ false → read_output state store slot terminal out ≡ out
  unfolding read_output released read_outcome unless_refused is_done
  refused_output e =
      ap (λ (b : Bool). cond
      (is_done
      (cond {A = Outcome} b (record { answer = heard_answer (size_at_head state slot) (room_at state.blocks slot store); state = state }) (record { answer = Refused refusal; state = state })).answer)
      (heard_block (size_at_head state slot) (room_at state.blocks slot store) ++ drop (size_at_head state slot) out)
      out) e

-- ---- a block is released neither sooner nor later than all its data places were sent

module _ (S M : ℕ) (store₀ : List ℕ) (h : History) (past : List ℕ) (slot terminal : ℕ) where
  abbrev state : State
  state = state_after S M store₀ h

  abbrev soft : ℕ
  soft = share_at_head state slot

  abbrev store : List ℕ
  store = store_after S M store₀ h past

  abbrev accepted : List Reception
  accepted = accepted_after S M store₀ h slot

  module _ (a : List ℕ) (bits : AreBits a) (size_is : size_at_head state slot ≡ length a) (true_all : AllTrue soft a accepted) (out : List ℕ) where
    -- while one data place was not sent since the opening, no read answers Done or writes a byte
    pub not_sooner : (r i : ℕ) → DataPlace (length a) r i → sent_data soft (length a) accepted r i ≡ false
        → ((read_outcome state store slot terminal (length out)).answer ≡ Done → ⊥) × (read_output state store slot terminal out ≡ out)
    not_sooner r i place lacks = go (eqb (refusal state store slot terminal out) 0) refl
      where
        go : (b : Bool) → eqb (refusal state store slot terminal out) 0 ≡ b
            → ((read_outcome state store slot terminal (length out)).answer ≡ Done → ⊥) × (read_output state store slot terminal out ≡ out)
        go true e =
            let got = rw (ne_eqb (unsent soft (length a) accepted) 0 (unsent_some soft (length a) accepted r i place lacks)) at
            (released_iff S M store₀ h past slot terminal a bits size_is true_all out (eqb-true _ 0 e)) in
            (λ d. not_done (unsent soft (length a) accepted) (sym (ap (λ (o : Outcome). o.answer) got.0) ∙ d), got.1)
        go false e = (refused_answer state store slot terminal out e, refused_output state store slot terminal out e)

    -- once all were sent, a read that is not refused for its arguments gives the block
    pub at_once : AllSent soft (length a) accepted → read_number state (length store) slot terminal (length out) ≡ 0
        → (read_outcome state store slot terminal (length out) ≡ record { answer = Done; state = state })
        × (read_output state store slot terminal out ≡ a ++ drop (length a) out)
    at_once all came = rw (unsent_none soft (length a) accepted all) at (released_iff S M store₀ h past slot terminal a bits size_is true_all out came)

-- ---- what was received before an opening does not count

module _ (S M n slot : ℕ) where
  pub since_opening : (link : Link) (terminal A : ℕ) (past : List ℕ) (h : History)
      → opening_number link (heads_after S M n h) (lent_length (heads_after S M n h) n past) slot A ≡ 0
      → since S M n slot (made (opening link slot terminal A) past h) ≡ []
  unfolding since since_call
  since_opening link terminal A past h e = rw (eq-eqb slot slot refl, eq-eqb _ 0 e)

  since_later : (later h : History) → since S M n slot h ≡ [] → since S M n slot (later ++ h) ≡ accepted_in S M n slot later h
  unfolding since accepted_in
  since_later [] h e = e
  since_later (m ∷ later) h e =
      ap (since_call (heads_after S M n (later ++ h)) (lent_length (heads_after S M n (later ++ h)) n m.past) slot m.call) (since_later later h e)

-- ---- June: a store of any bytes, any earlier history, an accepted opening, and then any calls that leave the slot open

module _ (S M : ℕ) (store₀ : List ℕ) (earlier : History) (past₀ : List ℕ) (link : Link) (slot terminal A : ℕ)
    (opens : answer_to (state_after S M store₀ earlier) (store_after S M store₀ earlier past₀) (opening link slot terminal A) ≡ Done) where
  abbrev opened : History
  opened = made (opening link slot terminal A) past₀ earlier

  abbrev rooms : ℕ
  rooms = rooms_long S M store₀

  -- each code block's share of the soft buffer
  abbrev share : ℕ
  share = share_in link A

  was_accepted : opening_number link (heads_after S M rooms earlier) (lent_length (heads_after S M rooms earlier) rooms past₀) slot A ≡ 0
  was_accepted = number S M store₀ earlier past₀ link slot terminal A opens

  -- what counts are the receptions that the later calls had accepted
  pub only_later : (later : History) → accepted_after S M store₀ (later ++ opened) slot ≡ accepted_in S M rooms slot later opened
  only_later later = since_later S M rooms slot later opened (since_opening S M rooms slot link terminal A past₀ earlier was_accepted)

  module _ (later : History) (undisturbed : Undisturbed S M rooms slot later opened) (past : List ℕ) where
    abbrev now : State
    now = state_after S M store₀ (later ++ opened)

    abbrev lent_now : List ℕ
    lent_now = store_after S M store₀ (later ++ opened) past

    abbrev heard : List Reception
    heard = accepted_in S M rooms slot later opened

    -- all of them are true transmissions of one block
    module _ (a : List ℕ) (bits : AreBits a) (long : length a ≡ A) (true_later : AllTrue share a heard) (out : List ℕ) (enough : A ≤ length out) where
      -- a read by the terminal gives the block exactly when they sent every data place, and else how many they did not
      pub after_opening : (read_outcome now lent_now slot terminal (length out)
          ≡ record { answer = cond (eqb (unsent share A heard) 0) Done (Lacking (unsent share A heard)); state = now })
          × (read_output now lent_now slot terminal out ≡ cond (eqb (unsent share A heard) 0) (a ++ drop A out) out)
      after_opening =
          rw (only_later later, long, still_share S M store₀ earlier past₀ link slot terminal A opens later undisturbed) at
          (released_iff S M store₀ (later ++ opened) past slot terminal a bits
          (still_size S M store₀ earlier past₀ link slot terminal A opens later undisturbed ∙ sym long)
          (subst₂ (λ (s : ℕ) (xs : List Reception). AllTrue s a xs) (sym (still_share S M store₀ earlier past₀ link slot terminal A opens later undisturbed)) (sym (only_later later)) true_later)
          out
          (read_comes S M store₀ earlier past₀ link slot terminal A opens later undisturbed past (length out) enough))

      -- while they sent no data place, the answer is that all are lacking, and nothing is written
      pub june : NoneSent share A heard → Withheld now lent_now slot terminal out (data_places A)
      june none =
          let most : A ≤ 30576 = (opening_fits _ _ slot A link was_accepted).size_fits.size_most in
          rw (unsent_all share A heard none, ne_eqb (data_places A) 0 (some_data_places A most)) at after_opening

  module _ (past : List ℕ) (out : List ℕ) (enough : A ≤ length out) where
    -- directly after the opening
    pub june_opened : Withheld (state_after S M store₀ opened) (store_after S M store₀ opened past) slot terminal out (data_places A)
    unfolding accepted_in sent
    june_opened = june [] tt past (replicate A 0) (zero_bits A) (length-replicate A 0) tt out enough (λ r i d. refl)

    -- and after one reception, accepted or not, of a true transmission that sends parity alone
    pub june_parity : (sender : ℕ) (x : Reception) (past₁ : List ℕ) (a : List ℕ) → AreBits a → length a ≡ A → True share a x → NoneSent share A (x ∷ [])
        → Withheld
        (state_after S M store₀ (made (receiving slot sender x) past₁ opened))
        (store_after S M store₀ (made (receiving slot sender x) past₁ opened) past)
        slot
        terminal
        out
        (data_places A)
    unfolding accepted_in since_call restarts sent
    june_parity sender x past₁ a bits long true-one none =
        june (made (receiving slot sender x) past₁ []) (refl, tt) past a bits long (true_if took) out enough (none_if took)
      where
        took : Bool
        took =
            eqb slot slot
            && eqb (receive_number (heads_after S M rooms opened) (lent_length (heads_after S M rooms opened) rooms past₁) slot sender x.Q x.N x.version x.bits) 0

        true_if : (b : Bool) → AllTrue share a (cond b (x ∷ []) [])
        true_if true = (true-one, tt)
        true_if false = tt

        none_if : (b : Bool) → NoneSent share A (cond b (x ∷ []) [])
        none_if true = none
        none_if false = λ r i d. refl
