-- The bits that come for a place, 02 E2: what they leave one after the other is what they say together, and accepted receptions bring bits.
-- Assumes nothing.
use mathlib.Core.Path.{◌≡◌, refl, sym, ◌∙◌, ap, ap₂}
use mathlib.Core.Bool.{Bool, true, false, cond, ◌&&◌, ◌||◌, and-eq-true_iff}
use mathlib.Core.List.{List, [], ◌∷◌, ◌++◌}
use Prim.Native.Nat.{ℕ, ◌+◌}
use native.Mathlib.Decide.{ℕ_discrete}
use lib.Dec.{eqb}
use lib.ListN.{get_or, drop}
use borrow.Author.Tests.{eq-eqb, ne_eqb, eqb-true}
use Rattle.laws.specs.Bits.{AreBits}
use Rattle.laws.proofs.AreBits.{no_bits, with_bit, append_bits, drop_below}
use Rattle.segmentation.specs.Segmentation.{blocks}
use Rattle.codeword.specs.Shares.{granted_before}
use Rattle.codeword.proofs.Accepted.{given_bits}
use Rattle.slots.specs.declared.State.{State}
use Rattle.slots.specs.Putting.{arriving, met_by}
use Rattle.slots.specs.Room.{unheard, disputed, is_decided, meet, agreeing}
use Rattle.slots.specs.Reception.{block_places, block_values}
use Rattle.slots.specs.Calls.{receive_number, close_number}
use Rattle.slots.proofs.Acceptance.{receives}
use Rattle.slots.proofs.Meeting.{decided_bit, disputed_not, unheard_not, unheard_two, Known, known_bit, meet_unheard, meet_same, meet_other, meet_disputed}
use Rattle.history.specs.Links.{opening_number}
use Rattle.history.specs.Calls.{Reception, Call, opening, receiving, reading, streaming, closing, History, grant_of}
use Rattle.history.specs.Accepted.{lent_length, heads_after, since_call, since, in_order, bits_for, arrivals}
use Rattle.history.specs.Agreed.{all_are, holding, decided}
use Rattle.history.specs.Sent.{among, sent}

-- ---- bits that meet one after the other

met_disputed : (bs : List ℕ) → met_by agreeing disputed bs ≡ disputed
unfolding met_by agreeing
met_disputed [] = refl
met_disputed (b ∷ bs) = ap (λ (v : ℕ). met_by agreeing v bs) (meet_disputed b) ∙ met_disputed bs

met_bit : (b : ℕ) (bs : List ℕ) → Known b → met_by agreeing b bs ≡ cond (all_are b bs) b disputed
unfolding met_by agreeing all_are
met_bit b [] h = refl
met_bit b (c ∷ cs) h = elim (ℕ_discrete b c) [
  | yes e ↦
      ap (λ (v : ℕ). met_by agreeing v cs) (ap (meet b) (sym e) ∙ meet_same b)
      ∙ met_bit b cs h
      ∙ ap (λ (t : Bool). cond (t && all_are b cs) b disputed) (sym (eq-eqb c b (sym e)))
  | no n ↦
      ap (λ (v : ℕ). met_by agreeing v cs) (meet_other b c h n)
      ∙ met_disputed cs
      ∙ ap (λ (t : Bool). cond (t && all_are b cs) b disputed) (sym (ne_eqb c b (λ e. n (sym e))))
]

-- from unheard on they leave what they say together
pub met_is : (bs : List ℕ) → AreBits bs → met_by agreeing unheard bs ≡ holding bs
unfolding met_by agreeing holding
met_is [] h = refl
met_is (b ∷ bs) h = ap (λ (v : ℕ). met_by agreeing v bs) (meet_unheard unheard b unheard_two) ∙ met_bit b bs (known_bit b (h 0))

-- which is decided exactly where a bit came and all agree
pub holding_decided : (bs : List ℕ) → AreBits bs → is_decided (holding bs) ≡ decided bs
unfolding holding decided
holding_decided [] h = unheard_not
holding_decided (b ∷ bs) h = go (all_are b bs)
  where
    go : (t : Bool) → is_decided (cond t b disputed) ≡ t
    go true = decided_bit b (h 0)
    go false = disputed_not

-- ---- all the same

-- a bit came
unfoldable pub some_came : List ℕ → Bool
some_came [] = false
some_came (b ∷ bs) = true

pub all_append : (b : ℕ) (fs bs : List ℕ) → all_are b fs ≡ true → all_are b bs ≡ true → all_are b (fs ++ bs) ≡ true
unfolding all_are
all_append b [] bs h g = g
all_append b (f ∷ fs) bs h g = let both = (and-eq-true_iff (eqb f b) (all_are b fs)).0 h in ap₂ ◌&&◌ both.0 (all_append b fs bs both.1 g)

pub all_met : (b : ℕ) (bs : List ℕ) → all_are b bs ≡ true → met_by agreeing unheard bs ≡ cond (some_came bs) b unheard
unfolding met_by agreeing all_are some_came
all_met b [] h = refl
all_met b (c ∷ cs) h =
    let both = (and-eq-true_iff (eqb c b) (all_are b cs)).0 h in
    let is : c ≡ b = eqb-true c b both.0 in
    ap (λ (v : ℕ). met_by agreeing v cs) (meet_unheard unheard c unheard_two ∙ is) ∙ stays cs both.1
  where
    stays : (cs : List ℕ) → all_are b cs ≡ true → met_by agreeing b cs ≡ b
    stays [] h = refl
    stays (c ∷ cs) h =
        let both = (and-eq-true_iff (eqb c b) (all_are b cs)).0 h in
        ap (λ (v : ℕ). met_by agreeing v cs) (ap (meet b) (eqb-true c b both.0) ∙ meet_same b) ∙ stays cs both.1

pub all_decided : (b : ℕ) (bs : List ℕ) → all_are b bs ≡ true → decided bs ≡ some_came bs
unfolding all_are some_came decided
all_decided b [] h = refl
all_decided b (c ∷ cs) h =
    let both = (and-eq-true_iff (eqb c b) (all_are b cs)).0 h in
    ap (λ (v : ℕ). all_are v cs) (eqb-true c b both.0) ∙ both.1

-- ---- a bit came exactly where the place was sent

came_append : (fs bs : List ℕ) → some_came (fs ++ bs) ≡ (some_came bs || some_came fs)
unfolding some_came
came_append [] [] = refl
came_append [] (b ∷ bs) = refl
came_append (f ∷ fs) [] = refl
came_append (f ∷ fs) (b ∷ bs) = refl

came_among : (ps bits : List ℕ) (j : ℕ) → some_came (arriving agreeing ps bits j) ≡ among j ps
unfolding arriving agreeing among some_came
came_among [] bits j = refl
came_among (p ∷ ps) bits j = go (eqb p j) (came_among ps (drop 1 bits) j)
  where
    go : (t : Bool) → some_came (arriving agreeing ps (drop 1 bits) j) ≡ among j ps
        → some_came (cond t (get_or bits 0 0 ∷ arriving agreeing ps (drop 1 bits) j) (arriving agreeing ps (drop 1 bits) j)) ≡ (t || among j ps)
    go true e = refl
    go false e = e

pub came_sent : (soft A : ℕ) (xs : List Reception) (r j : ℕ) → some_came (arrivals soft A xs r j) ≡ sent soft A xs r j
unfolding in_order bits_for sent some_came
came_sent soft A [] r j = refl
came_sent soft A (x ∷ xs) r j =
    came_append (arrivals soft A xs r j) _
    ∙ ap₂ ◌||◌ (came_among (block_places soft (A + 24) (grant_of x) r) _ j) (came_sent soft A xs r j)

-- ---- accepted receptions bring bits

abbrev pub AllBits : List Reception → Type 0
AllBits [] = Unit {0}
AllBits (x ∷ xs) = AreBits x.bits × AllBits xs

arriving_bits : (ps bits : List ℕ) (j : ℕ) → AreBits bits → AreBits (arriving agreeing ps bits j)
unfolding arriving agreeing
arriving_bits [] bits j h = no_bits
arriving_bits (p ∷ ps) bits j h = go (eqb p j) (arriving_bits ps (drop 1 bits) j (drop_below 2 1 bits h))
  where
    go : (t : Bool) → AreBits (arriving agreeing ps (drop 1 bits) j) → AreBits (cond t (get_or bits 0 0 ∷ arriving agreeing ps (drop 1 bits) j) (arriving agreeing ps (drop 1 bits) j))
    go true rest = with_bit (get_or bits 0 0) (arriving agreeing ps (drop 1 bits) j) (h 0) rest
    go false rest = rest

pub arrived_bits : (soft A : ℕ) (xs : List Reception) (r j : ℕ) → AllBits xs → AreBits (arrivals soft A xs r j)
unfolding in_order bits_for block_values
arrived_bits soft A [] r j h = no_bits
arrived_bits soft A (x ∷ xs) r j h =
    append_bits (arrivals soft A xs r j) _ (arrived_bits soft A xs r j h.1)
    (arriving_bits _ _ j (drop_below 2 (granted_before (blocks (A + 24)) (grant_of x) r) x.bits h.0))

taken_bits : (state : State) (room slot : ℕ) (call : Call) (earlier : List Reception) → AllBits earlier → AllBits (since_call state room slot call earlier)
unfolding since_call
taken_bits state room slot (opening link s terminal A) earlier h = go (eqb s slot && eqb (opening_number link state room s A) 0)
  where
    go : (t : Bool) → AllBits (cond t [] earlier)
    go true = tt
    go false = h
taken_bits state room slot (receiving s terminal x) earlier h = go (eqb s slot && eqb number 0) refl
  where
    number : ℕ
    number = receive_number state room s terminal x.Q x.N x.version x.bits

    go : (t : Bool) → (eqb s slot && eqb number 0) ≡ t → AllBits (cond t (x ∷ earlier) earlier)
    go true e =
        let accepted = eqb-true number 0 ((and-eq-true_iff (eqb s slot) (eqb number 0)).0 e).1 in
        (given_bits x.bits (receives state room s terminal x.Q x.N x.version x.bits accepted).given, h)
    go false e = h
taken_bits state room slot (reading s terminal size) earlier h = h
taken_bits state room slot (streaming s terminal block size) earlier h = h
taken_bits state room slot (closing s terminal) earlier h = go (eqb s slot && eqb (close_number state s terminal) 0)
  where
    go : (t : Bool) → AllBits (cond t [] earlier)
    go true = tt
    go false = h

pub since_bits : (S M n slot : ℕ) (h : History) → AllBits (since S M n slot h)
unfolding since
since_bits S M n slot [] = tt
since_bits S M n slot (m ∷ h) =
    taken_bits (heads_after S M n h) (lent_length (heads_after S M n h) n m.past) slot m.call (since S M n slot h) (since_bits S M n slot h)
