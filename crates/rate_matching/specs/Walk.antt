-- Bit selection of clause 5.1.4.1.2: which places of the circle a transmission sends, in sending order, and the standard's own loop beside it.
-- Assumes nothing.
use Rattle.std.specs.Prelude.{◌≡◌, Bool, true, false, List, [], ◌∷◌, ◌++◌, map, ℕ, zero, suc, ◌+◌, ◌-◌, ◌%◌, ◌<◌, ltb, length, get_or}
use Rattle.laws.specs.Lists.{tab, tab_from, keep}
use Rattle.turbo.specs.Streams.{NULL}

-- what w holds at circle place j
unfoldable pub on_circle : List ℕ → ℕ → ℕ
on_circle w j = get_or w j 0

-- an entry that is a bit, not <NULL>
unfoldable pub is_bit : ℕ → Bool
is_bit x = ltb x NULL

-- w_j ≠ <NULL>
unfoldable pub holds_bit : List ℕ → ℕ → Bool
holds_bit w j = is_bit (on_circle w j)

-- the number itself
unfoldable pub itself : ℕ → ℕ
itself j = j

-- every place of the circle once, from k0 on, round to k0
unfoldable pub round : ℕ → ℕ → List ℕ
round n k0 = tab_from k0 (n - k0) itself ++ tab k0 itself

-- one turn: the places that hold a bit, from k0 on
unfoldable pub turn : List ℕ → ℕ → List ℕ
turn w k0 = keep (holds_bit w) (round (length w) k0)

-- the k-th place of turn after turn
unfoldable pub turn_after_turn : List ℕ → ℕ → ℕ
turn_after_turn places k = get_or places (k % length places) 0

-- the E places that are sent, in sending order
unfoldable pub sent_places : List ℕ → ℕ → ℕ → List ℕ
sent_places w k0 E = tab E (turn_after_turn (turn w k0))

-- e_0 .. e_(E − 1)
unfoldable pub selected : List ℕ → ℕ → ℕ → List ℕ
selected w k0 E = map (on_circle w) (sent_places w k0 E)

-- the standard's own loop, at most `fuel` times round its body: k bits are still to come, j counts the places passed
unfoldable pub loop : ℕ → List ℕ → ℕ → ℕ → ℕ → List ℕ
loop zero w k0 j k = []
loop (suc fuel) w k0 j zero = []
loop (suc fuel) w k0 j (suc k) =
    elim (holds_bit w ((k0 + j) % length w)) [
      | true ↦ on_circle w ((k0 + j) % length w) ∷ loop fuel w k0 (suc j) k
      | false ↦ loop fuel w k0 (suc j) (suc k)
    ]

-- x is one of the entries
abbrev pub Among : ℕ → List ℕ → Type 0
Among x l = (i : ℕ) × (i < length l) × (get_or l i 0 ≡ x)

-- no entry stands twice
abbrev pub NoneTwice : List ℕ → Type 0
NoneTwice l = (a b : ℕ) → a < length l → b < length l → get_or l a 0 ≡ get_or l b 0 → a ≡ b
