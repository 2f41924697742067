-- 'Accepted', 'since that opening' and 'all bits accepted for it', demand 3 and 02 E2: from the calls and the length of the store alone, never from what a room holds.
-- Assumes nothing.
use Rattle.std.specs.Prelude.{cond, ◌&&◌, List, [], ◌∷◌, ◌++◌, ℕ, ◌+◌, eqb, ltb, length}
use Rattle.slots.specs.declared.State.{State}
use Rattle.slots.specs.State.{store_length, closed_head, open_head}
use Rattle.slots.specs.Putting.{arriving}
use Rattle.slots.specs.Room.{agreeing}
use Rattle.slots.specs.Reception.{block_places, block_values}
use Rattle.slots.specs.Calls.{with_head, new_outcome, receive_number, close_number}
use Rattle.history.specs.Links.{share_in, opening_number}
use Rattle.history.specs.Calls.{Reception, Call, opening, receiving, reading, streaming, closing, History, grant_of}

-- the length of the store that a call is lent, where the rooms have n bytes
unfoldable pub lent_length : State → ℕ → List ℕ → ℕ
lent_length state n past = cond (ltb n (store_length state)) n (n + length past)

-- the state after a history, where the rooms have n bytes: an accepted opening sets the head, an accepted closing clears it
unfoldable pub heads_after_call : State → ℕ → Call → State
heads_after_call state lent (opening link slot terminal A) =
    cond (eqb (opening_number link state lent slot A) 0)
    (with_head state slot (open_head terminal A (share_in link A)))
    state
heads_after_call state lent (receiving slot terminal r) = state
heads_after_call state lent (reading slot terminal size) = state
heads_after_call state lent (streaming slot terminal block size) = state
heads_after_call state lent (closing slot terminal) =
    cond (eqb (close_number state slot terminal) 0) (with_head state slot closed_head) state

unfoldable pub heads_after : ℕ → ℕ → ℕ → History → State
heads_after S M n [] = (new_outcome S M).state
heads_after S M n (m ∷ h) =
    heads_after_call (heads_after S M n h) (lent_length (heads_after S M n h) n m.past) m.call

-- the accepted receptions of a slot since its last accepted opening or closing, latest first, after one more call
unfoldable pub since_call : State → ℕ → ℕ → Call → List Reception → List Reception
since_call state lent slot (opening link s terminal A) earlier =
    cond (eqb s slot && eqb (opening_number link state lent s A) 0) [] earlier
since_call state lent slot (receiving s terminal r) earlier =
    cond (eqb s slot && eqb (receive_number state lent s terminal r.Q r.N r.version r.bits) 0) (r ∷ earlier) earlier
since_call state lent slot (reading s terminal size) earlier = earlier
since_call state lent slot (streaming s terminal block size) earlier = earlier
since_call state lent slot (closing s terminal) earlier =
    cond (eqb s slot && eqb (close_number state s terminal) 0) [] earlier

unfoldable pub since : ℕ → ℕ → ℕ → ℕ → History → List Reception
since S M n slot [] = []
since S M n slot (m ∷ h) =
    since_call (heads_after S M n h) (lent_length (heads_after S M n h) n m.past) slot m.call (since S M n slot h)

-- what came in all, in arrival order, where the latest stands first and `brought` says what each brought
unfoldable pub in_order : {R Y : Type 0} → (R → List Y) → List R → List Y
in_order brought [] = []
in_order brought (x ∷ xs) = in_order brought xs ++ brought x

-- the bits that a reception for a block of A bits brought for circle place j of code block r, in arrival order, each code block having a share `soft` of the soft buffer
unfoldable pub bits_for : ℕ → ℕ → ℕ → ℕ → Reception → List ℕ
bits_for soft A r j x =
    arriving agreeing
    (block_places soft (A + 24) (grant_of x) r)
    (block_values (A + 24) (grant_of x) x.bits r)
    j

-- all bits that receptions, latest first, brought for it
abbrev pub arrivals : ℕ → ℕ → List Reception → ℕ → ℕ → List ℕ
arrivals soft A xs r j = in_order (bits_for soft A r j) xs
