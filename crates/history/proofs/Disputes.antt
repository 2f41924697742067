-- What a dispute does and what it does not, 02 E2: a released block has no contradicted data place, one contradicting bit withholds it until the slot
-- is closed, and nothing else does but a place unheard or a wrong check. Any history, any receptions.
-- Assumes nothing.
use mathlib.Core.Path.{◌≡◌, refl, sym, ◌∙◌, ap, ap₂, subst, subst₂}
use mathlib.Core.Bool.{Bool, true, false, cond, ◌&&◌, ◌||◌, and-eq-true_iff, false≢true}
use mathlib.Core.List.{List, [], ◌∷◌, ◌++◌}
use Prim.Native.Nat.{ℕ, ◌+◌}
use lib.Dec.{eqb}
use lib.ListN.{length, drop}
use borrow.Author.Tests.{eq-eqb, ne_eqb, eqb-true}
use Rattle.segmentation.specs.Segmentation.{size_of}
use Rattle.slots.specs.Outcome.{Done, StillLacking}
use Rattle.slots.specs.declared.Head.{Head}
use Rattle.slots.specs.Outcome.{Outcome}
use Rattle.slots.specs.declared.State.{State}
use Rattle.slots.specs.State.{head_at}
use Rattle.slots.specs.Room.{unheard, disputed, room_at, circle_at}
use Rattle.slots.specs.Circle.{kept_on}
use Rattle.slots.specs.Answers.{Lacking, is_done}
use Rattle.slots.specs.Reading.{checked_answer, heard_block}
use Rattle.slots.specs.Calls.{size_at_head, share_at_head, receive_number, receive_outcome, read_number, read_outcome, released, read_output}
use Rattle.slots.proofs.HeadLaws.{open_size}
use Rattle.slots.proofs.Acceptance.{receives, reads}
use Rattle.history.specs.Calls.{Reception, Call, opening, receiving, reading, streaming, closing, History}
use Rattle.history.specs.Accepted.{lent_length, heads_after, since_call, since, in_order, arrivals}
use Rattle.history.specs.Agreed.{all_are, holding, decided}
use Rattle.history.specs.Sent.{among, DataPlace, arrivals_at, decided_data, undecided, AllDecided}
use Rattle.history.specs.After.{state_after, store_after, rooms_long, accepted_after}
use Rattle.history.specs.Later.{restarts, Undisturbed, Withheld}
use Rattle.history.proofs.State.{heads}
use Rattle.history.proofs.Opening.{keeps_heads}
use Rattle.history.proofs.DataPlaces.{undecided_none, undecided_some}
use Rattle.history.proofs.ReleaseCount.{kept_holding}
use Rattle.history.proofs.AnyAnswers.{read_any, receive_any}
use Rattle.history.proofs.Release.{given, kept}
use Rattle.history.proofs.June.{refused_answer, refused_output, not_done}

-- ---- bits that agree

-- every bit of the list is the one on which all agree
all_among : (b : ℕ) (bs : List ℕ) → all_are b bs ≡ true → (c : ℕ) → among c bs ≡ true → c ≡ b
unfolding all_are among
all_among b [] h c m = absurd (false≢true m)
all_among b (d ∷ ds) h c m = go (eqb d c) refl m (all_among b ds ((and-eq-true_iff (eqb d b) (all_are b ds)).0 h).1 c)
  where
    go : (t : Bool) → eqb d c ≡ t → (t || among c ds) ≡ true → (among c ds ≡ true → c ≡ b) → c ≡ b
    go true e n f = sym (eqb-true d c e) ∙ eqb-true d b ((and-eq-true_iff (eqb d b) (all_are b ds)).0 h).0
    go false e n f = f n

-- a decided place holds a bit that came, and none came that differs
pub decided_holds : (bs : List ℕ) → decided bs ≡ true → (among (holding bs) bs ≡ true) × ((c : ℕ) → among c bs ≡ true → c ≡ holding bs)
unfolding decided holding among all_are
decided_holds [] h = absurd (false≢true h)
decided_holds (b ∷ bs) h =
    let held : holding (b ∷ bs) ≡ b = rw h in
    subst (λ (x : ℕ). (among x (b ∷ bs) ≡ true) × ((c : ℕ) → among c (b ∷ bs) ≡ true → c ≡ x)) (sym held)
    (ap (λ (t : Bool). t || among b bs) (eq-eqb b b refl), λ c m. all_among b (b ∷ bs) (ap₂ ◌&&◌ (eq-eqb b b refl) h) c m)

-- where two bits differ nothing is decided
pub contradicted : (bs : List ℕ) (b c : ℕ) → among b bs ≡ true → among c bs ≡ true → (b ≡ c → ⊥) → decided bs ≡ false
contradicted bs b c m n differ = go (decided bs) refl
  where
    go : (t : Bool) → decided bs ≡ t → t ≡ false
    go true e = absurd (differ ((decided_holds bs e).1 b m ∙ sym ((decided_holds bs e).1 c n)))
    go false e = refl

-- ---- what a place holds, in the words of the request

-- unheard if no bit was accepted
pub holds_none : holding [] ≡ unheard
unfolding holding
holds_none = refl

all_if : (b : ℕ) (bs : List ℕ) → ((c : ℕ) → among c bs ≡ true → c ≡ b) → all_are b bs ≡ true
unfolding all_are among
all_if b [] f = refl
all_if b (d ∷ ds) f =
    ap₂ ◌&&◌ (eq-eqb d b (f d (ap (λ (t : Bool). t || among d ds) (eq-eqb d d refl))))
    (all_if b ds (λ c m. f c (later (eqb d c) c m)))
  where
    later : (t : Bool) (c : ℕ) → among c ds ≡ true → (t || among c ds) ≡ true
    later true c m = refl
    later false c m = m

-- the bit on which all agree
pub holds_agreed : (bs : List ℕ) (b : ℕ) → among b bs ≡ true → ((c : ℕ) → among c bs ≡ true → c ≡ b) → holding bs ≡ b
unfolding holding among all_are
holds_agreed [] b m f = absurd (false≢true m)
holds_agreed (d ∷ ds) b m f =
    let first : d ≡ b = f d (ap (λ (t : Bool). t || among d ds) (eq-eqb d d refl)) in
    let all = ((and-eq-true_iff (eqb d b) (all_are b ds)).0 (all_if b (d ∷ ds) f)).1 in
    ap (λ (t : Bool). cond t d disputed) (ap (λ (x : ℕ). all_are x ds) first ∙ all) ∙ first

-- disputed if they differ
pub holds_disputed : (bs : List ℕ) (b c : ℕ) → among b bs ≡ true → among c bs ≡ true → (b ≡ c → ⊥) → holding bs ≡ disputed
unfolding holding decided among
holds_disputed [] b c m n differ = absurd (false≢true m)
holds_disputed (d ∷ ds) b c m n differ = ap (λ (t : Bool). cond t d disputed) (contradicted (d ∷ ds) b c m n differ)

-- ---- what came stays

among_first : (c : ℕ) (fs bs : List ℕ) → among c fs ≡ true → among c (fs ++ bs) ≡ true
unfolding among
among_first c [] bs m = absurd (false≢true m)
among_first c (f ∷ fs) bs m = go (eqb f c) m (among_first c fs bs)
  where
    go : (t : Bool) → (t || among c fs) ≡ true → (among c fs ≡ true → among c (fs ++ bs) ≡ true) → (t || among c (fs ++ bs)) ≡ true
    go true n g = refl
    go false n g = g n

-- a call that neither opens nor closes the slot leaves what came for it
came_on : (state : State) (lent slot : ℕ) (call : Call) (earlier : List Reception) (soft A r j c : ℕ) → restarts state lent slot call ≡ false
    → among c (arrivals soft A earlier r j) ≡ true → among c (arrivals soft A (since_call state lent slot call earlier) r j) ≡ true
unfolding since_call restarts in_order
came_on state lent slot (opening link s terminal B) earlier soft A r j c e m = rw e m
came_on state lent slot (receiving s terminal x) earlier soft A r j c e m =
    go (eqb s slot && eqb (receive_number state lent s terminal x.Q x.N x.version x.bits) 0)
  where
    go : (t : Bool) → among c (arrivals soft A (cond t (x ∷ earlier) earlier) r j) ≡ true
    go true = among_first c (arrivals soft A earlier r j) _ m
    go false = m
came_on state lent slot (reading s terminal size) earlier soft A r j c e m = m
came_on state lent slot (streaming s terminal block size) earlier soft A r j c e m = m
came_on state lent slot (closing s terminal) earlier soft A r j c e m = rw e m

came_stays : (S M n slot : ℕ) (later h : History) (soft A r j c : ℕ) → Undisturbed S M n slot later h
    → among c (arrivals soft A (since S M n slot h) r j) ≡ true → among c (arrivals soft A (since S M n slot (later ++ h)) r j) ≡ true
unfolding since
came_stays S M n slot [] h soft A r j c u m = m
came_stays S M n slot (k ∷ later) h soft A r j c u m =
    came_on (heads_after S M n (later ++ h)) (lent_length (heads_after S M n (later ++ h)) n k.past) slot k.call (since S M n slot (later ++ h)) soft A r j c u.0
    (came_stays S M n slot later h soft A r j c u.1 m)

-- ---- after any history

module _ (S M : ℕ) (store₀ : List ℕ) (h : History) (past : List ℕ) (slot terminal : ℕ) where
  abbrev state : State
  state = state_after S M store₀ h

  abbrev store : List ℕ
  store = store_after S M store₀ h past

  -- the slot's room
  abbrev room : List ℕ
  room = room_at state.blocks slot store

  abbrev accepted : List Reception
  accepted = accepted_after S M store₀ h slot

  abbrev A : ℕ
  A = size_at_head state slot

  abbrev soft : ℕ
  soft = share_at_head state slot

  -- Receive answers how many data places are undecided, this reception among what was accepted
  pub reception_any : (x : Reception) → receive_number state (length store) slot terminal x.Q x.N x.version x.bits ≡ 0
      → receive_outcome state slot terminal x.Q x.N x.version x.bits store ≡ record { answer = StillLacking (undecided soft A (x ∷ accepted)); state = state }
  reception_any x came =
      let w = receives state (length store) slot terminal x.Q x.N x.version x.bits came in
      receive_any state store slot terminal accepted (given S M store₀ h past slot terminal)
      (kept S M store₀ h past slot terminal w.sound w.long w.below w.opened) x came

  module _ (out : List ℕ) where
    -- Read, where it comes to the room
    pub read_is : read_number state (length store) slot terminal (length out) ≡ 0
        → read_outcome state store slot terminal (length out)
        ≡ record { answer = cond (eqb (undecided soft A accepted) 0) (checked_answer A room) (Lacking (undecided soft A accepted)); state = state }
    read_is came =
        let w = reads state (length store) slot terminal (length out) came in
        read_any state store slot terminal accepted (given S M store₀ h past slot terminal)
        (kept S M store₀ h past slot terminal w.sound w.long w.below w.opened) (length out) came

    -- some data place is undecided: 11 with their number, and the output stays
    pub undecided_withheld : read_number state (length store) slot terminal (length out) ≡ 0 → (undecided soft A accepted ≡ 0 → ⊥)
        → Withheld state store slot terminal out (undecided soft A accepted)
    unfolding read_output released is_done
    undecided_withheld came some =
        let is : read_outcome state store slot terminal (length out) ≡ record { answer = Lacking (undecided soft A accepted); state = state } =
        rw (ne_eqb (undecided soft A accepted) 0 some) at (read_is came) in (
          is,
          ap (λ (o : Outcome). cond (is_done o.answer) (heard_block A room ++ drop A out) out) is,
        )

    -- none is: what the checks say, and where they are right the block
    pub decided_checked : read_number state (length store) slot terminal (length out) ≡ 0 → AllDecided soft A accepted
        → (read_outcome state store slot terminal (length out) ≡ record { answer = checked_answer A room; state = state })
        × (read_output state store slot terminal out
        ≡ cond (is_done (checked_answer A room)) (heard_block A room ++ drop A out) out)
    unfolding read_output released
    decided_checked came all =
        let is : read_outcome state store slot terminal (length out) ≡ record { answer = checked_answer A room; state = state } =
        rw (undecided_none soft A accepted all) at (read_is came) in (
          is,
          ap (λ (o : Outcome). cond (is_done o.answer) (heard_block A room ++ drop A out) out) is,
        )

    -- a data place undecided: no read whatever gives the block or writes a byte
    pub one_withholds : (r i : ℕ) → DataPlace A r i → decided_data soft A accepted r i ≡ false
        → ((read_outcome state store slot terminal (length out)).answer ≡ Done → ⊥) × (read_output state store slot terminal out ≡ out)
    one_withholds r i place e = go (eqb (read_number state (length store) slot terminal (length out)) 0) refl
      where
        go : (b : Bool) → eqb (read_number state (length store) slot terminal (length out)) 0 ≡ b
            → ((read_outcome state store slot terminal (length out)).answer ≡ Done → ⊥) × (read_output state store slot terminal out ≡ out)
        go true t =
            let got = undecided_withheld (eqb-true _ 0 t) (undecided_some soft A accepted r i place e) in
            (λ d. not_done (undecided soft A accepted) (sym (ap (λ (o : Outcome). o.answer) got.0) ∙ d), got.1)
        go false t = (refused_answer state store slot terminal out t, refused_output state store slot terminal out t)

    -- a block is given: at each data place the room has a bit that came since the opening, and none came that differs
    pub given_agreed : (read_outcome state store slot terminal (length out)).answer ≡ Done → (r i : ℕ) → DataPlace A r i
        → let bits : List ℕ = arrivals_at soft A accepted r i in
        let bit : ℕ = kept_on (circle_at r room) (size_of (A + 24) r + 4) 0 i in
        (among bit bits ≡ true) × ((c : ℕ) → among c bits ≡ true → c ≡ bit)
    given_agreed done r i place = go (eqb (read_number state (length store) slot terminal (length out)) 0) refl
      where
        bits : List ℕ
        bits = arrivals_at soft A accepted r i

        bit : ℕ
        bit = kept_on (circle_at r room) (size_of (A + 24) r + 4) 0 i

        is_decided_lem : (t : Bool) → decided bits ≡ t → decided bits ≡ true
        is_decided_lem true e = e
        is_decided_lem false e = absurd ((one_withholds r i place e).0 done)

        go : (b : Bool) → eqb (read_number state (length store) slot terminal (length out)) 0 ≡ b → (among bit bits ≡ true) × ((c : ℕ) → among c bits ≡ true → c ≡ bit)
        go true t =
            let w = reads state (length store) slot terminal (length out) (eqb-true _ 0 t) in
            let is : bit ≡ holding bits =
            kept_holding soft A (open_size state w.sound slot w.below w.opened).0 accepted (given S M store₀ h past slot terminal) room
            (kept S M store₀ h past slot terminal w.sound w.long w.below w.opened) r i place.block place.below_size in
            rw is (decided_holds bits (is_decided_lem (decided bits) refl))
        go false t = absurd (refused_answer state store slot terminal out t done)

-- ---- until the slot is closed

-- two different bits were accepted for a data place; any later calls that neither close the slot nor open it anew
pub disputed_stays : (S M : ℕ) (store₀ : List ℕ) (h : History) (slot r i b c : ℕ)
    → (let A : ℕ = size_at_head (state_after S M store₀ h) slot in
    let soft : ℕ = share_at_head (state_after S M store₀ h) slot in
    let bits : List ℕ = arrivals_at soft A (accepted_after S M store₀ h slot) r i in
    DataPlace A r i × (among b bits ≡ true) × (among c bits ≡ true) × (b ≡ c → ⊥))
    → (later : History) → Undisturbed S M (rooms_long S M store₀) slot later h
    → (past : List ℕ) (terminal : ℕ) (out : List ℕ)
    → ((read_outcome (state_after S M store₀ (later ++ h)) (store_after S M store₀ (later ++ h) past) slot terminal (length out)).answer ≡ Done → ⊥)
    × (read_output (state_after S M store₀ (later ++ h)) (store_after S M store₀ (later ++ h) past) slot terminal out ≡ out)
unfolding size_at_head share_at_head
disputed_stays S M store₀ h slot r i b c (place, one, other, differ) later u past terminal out =
    one_withholds S M store₀ (later ++ h) past slot terminal out r i (subst (λ (A : ℕ). DataPlace A r i) (sym same) place)
    (subst₂ (λ (soft A : ℕ). decided_data soft A (accepted_after S M store₀ (later ++ h) slot) r i ≡ false) (sym same_share) (sym same)
    (contradicted _ b c
    (came_stays S M (rooms_long S M store₀) slot later h _ _ r _ b u one)
    (came_stays S M (rooms_long S M store₀) slot later h _ _ r _ c u other)
    differ))
  where
    same_head : head_at (state_after S M store₀ (later ++ h)) slot ≡ head_at (state_after S M store₀ h) slot
    same_head =
        ap (λ (t : State). head_at t slot) (heads S M store₀ (later ++ h))
        ∙ keeps_heads S M (rooms_long S M store₀) slot later h u
        ∙ ap (λ (t : State). head_at t slot) (sym (heads S M store₀ h))

    same : (head_at (state_after S M store₀ (later ++ h)) slot).size ≡ (head_at (state_after S M store₀ h) slot).size
    same = ap (λ (k : Head). k.size) same_head

    same_share : (head_at (state_after S M store₀ (later ++ h)) slot).share ≡ (head_at (state_after S M store₀ h) slot).share
    same_share = ap (λ (k : Head). k.share) same_head
