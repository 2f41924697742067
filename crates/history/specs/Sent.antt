-- True transmissions, the data places that were sent and those that are decided, demand 3 and 02 E2: counted over the history, never over a room.
-- Assumes nothing.
use Rattle.std.specs.Prelude.{◌≡◌, Bool, true, false, cond, ◌||◌, List, [], ◌∷◌, ℕ, ◌+◌, ◌-◌, ◌≤◌, ◌<◌, eqb}
use Rattle.segmentation.specs.Segmentation.{blocks, size_of, filler_of}
use Rattle.rate_matching.specs.Places.{place_number}
use Rattle.codeword.specs.Codeword.{codeword_in}
use Rattle.slots.specs.Reception.{block_places}
use Rattle.slots.specs.Circle.{sum_from}
use Rattle.history.specs.Calls.{Reception, grant_of}
use Rattle.history.specs.Accepted.{arrivals}
use Rattle.history.specs.Agreed.{decided}

-- a true transmission of a block for a slot: what Build gives for it with the slot's share `soft` of the soft buffer and the reception's Q, N, version and G
abbrev pub True : ℕ → List ℕ → Reception → Type 0
True soft a x = x.bits ≡ codeword_in soft a (grant_of x)

-- all receptions are true transmissions of the one block
abbrev pub AllTrue : ℕ → List ℕ → List Reception → Type 0
AllTrue soft a [] = Unit {0}
AllTrue soft a (x ∷ xs) = True soft a x × AllTrue soft a xs

-- the number is in the list
unfoldable pub among : ℕ → List ℕ → Bool
among j [] = false
among j (p ∷ ps) = eqb p j || among j ps

-- one of the receptions for a block of A bits has sent circle place j of code block r
unfoldable pub sent : ℕ → ℕ → List Reception → ℕ → ℕ → Bool
sent soft A [] r j = false
sent soft A (x ∷ xs) r j =
    among j (block_places soft (A + 24) (grant_of x) r) || sent soft A xs r j

-- place i of stream 0 is a data place of code block r of a block of A bits
pub record DataPlace (A r i : ℕ) : Type 0 where
  pub block : r < blocks (A + 24)
  pub past_filler : filler_of (A + 24) r ≤ i
  pub below_size : i < size_of (A + 24) r

-- one of the receptions has sent data place i of code block r
abbrev pub sent_data : ℕ → ℕ → List Reception → ℕ → ℕ → Bool
sent_data soft A xs r i = sent soft A xs r (place_number (size_of (A + 24) r + 4) 0 i)

-- all bits that the receptions brought for data place i of code block r, in arrival order
abbrev pub arrivals_at : ℕ → ℕ → List Reception → ℕ → ℕ → List ℕ
arrivals_at soft A xs r i = arrivals soft A xs r (place_number (size_of (A + 24) r + 4) 0 i)

-- a bit came for it, and all that came agree
abbrev pub decided_data : ℕ → ℕ → List Reception → ℕ → ℕ → Bool
decided_data soft A xs r i = decided (arrivals_at soft A xs r i)

-- 1 where a place has not what is asked of it
abbrev pub missing : Bool → ℕ
missing t = cond t 0 1

-- how many data places of code block r have not what is asked: those of stream 0 below K, filler left out
unfoldable pub data_without_in : ℕ → (ℕ → ℕ → Bool) → ℕ → ℕ
data_without_in A has r =
    sum_from (λ (i : ℕ). missing (has r i)) (filler_of (A + 24) r) (size_of (A + 24) r - filler_of (A + 24) r)

-- how many data places of a block of A bits have not what is asked
unfoldable pub data_without : ℕ → (ℕ → ℕ → Bool) → ℕ
data_without A has = sum_from (data_without_in A has) 0 (blocks (A + 24))

-- how many data places the receptions have not sent
unfoldable pub unsent : ℕ → ℕ → List Reception → ℕ
unsent soft A xs = data_without A (sent_data soft A xs)

-- for how many data places no bit came or those that came differ
unfoldable pub undecided : ℕ → ℕ → List Reception → ℕ
undecided soft A xs = data_without A (decided_data soft A xs)

abbrev pub AllSent : ℕ → ℕ → List Reception → Type 0
AllSent soft A xs = (r i : ℕ) → DataPlace A r i → sent_data soft A xs r i ≡ true

abbrev pub NoneSent : ℕ → ℕ → List Reception → Type 0
NoneSent soft A xs = (r i : ℕ) → DataPlace A r i → sent_data soft A xs r i ≡ false

abbrev pub AllDecided : ℕ → ℕ → List Reception → Type 0
AllDecided soft A xs = (r i : ℕ) → DataPlace A r i → decided_data soft A xs r i ≡ true

unfoldable pub data_places_in : ℕ → ℕ → ℕ
data_places_in A r = size_of (A + 24) r - filler_of (A + 24) r

-- how many data places a block of A bits has
unfoldable pub data_places : ℕ → ℕ
data_places A = sum_from (data_places_in A) 0 (blocks (A + 24))
