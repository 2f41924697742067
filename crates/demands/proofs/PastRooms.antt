-- Demand 1, 'bytes past the rooms are never written' (01): whatever is called, every byte from S·M·18,528 on stays as it was, and in a packed store (02, E7) every byte from
-- S·M·4,632 on.
-- Assumes nothing.
use mathlib.Core.Path.{◌≡◌, refl, sym, ◌∙◌, ap}
use mathlib.Core.Bool.{true}
use mathlib.Core.List.{List}
use Prim.Native.Nat.{ℕ, ◌+◌, ◌*◌, ◌/◌, ◌≤◌, ◌<◌}
use native.Mathlib.Nat.{mul-le-mul_right}
use native.Mathlib.Decide.{dec_lt}
use native.Mathlib.Omega.{arith}
use lib.ListN.{length, get_or, get_or-eq_default}
use Rattle.laws.specs.Bits.{EachBelow}
use Rattle.laws.proofs.Tab.{get_or_tab}
use Rattle.slots.specs.declared.State.{State}
use Rattle.slots.specs.Calls.{receive_store}
use Rattle.packing.specs.Packing.{packed_at, packed, unpacked}
use Rattle.packing.specs.Store.{places_in, in_form}
use Rattle.packing.proofs.Forms.{length_packed, length_unpacked, byte_unpacked}
use Rattle.history.specs.Links.{Link, opening_store}
use Rattle.history.specs.Calls.{Call, opening, receiving, reading, streaming, closing}
use Rattle.history.specs.Run.{store_after_call}
use Rattle.history.proofs.State.{length_after}
use Rattle.forms.specs.Calls.{store_after_in}
use Rattle.demands.specs.Lent.{InRoom}
use Rattle.demands.proofs.Slots.{open_leaves, receive_leaves}

module _ (state : State) (store : List ℕ) (at : ℕ) (past : state.slots * (state.blocks * 18528) ≤ at) where
  outside : (slot : ℕ) → slot < state.slots → InRoom state.blocks slot at → ⊥
  outside slot below i = omega (arith, mul-le-mul_right (state.blocks * 18528) below, i.to)

  pub past_open : (link : Link) (slot A : ℕ) → get_or (opening_store link state slot A store) at 0 ≡ get_or store at 0
  past_open link slot A = open_leaves link state slot A store at (outside slot)

  pub past_receive : (slot terminal Q N v : ℕ) (bits : List ℕ) → get_or (receive_store state slot terminal Q N v bits store) at 0 ≡ get_or store at 0
  past_receive slot terminal Q N v bits = receive_leaves state slot terminal Q N v bits store at (outside slot)

  -- any call at all
  pub past_call : (call : Call) → get_or (store_after_call state store call) at 0 ≡ get_or store at 0
  unfolding store_after_call
  past_call (opening link slot terminal A) = past_open link slot A
  past_call (receiving slot terminal r) = past_receive slot terminal r.Q r.N r.version r.bits
  past_call (reading slot terminal size) = refl
  past_call (streaming slot terminal block size) = refl
  past_call (closing slot terminal) = refl

-- the same of a packed store
module _ (state : State) (store : List ℕ) (bytes : EachBelow 256 store) (at : ℕ) (past : state.slots * (state.blocks * 4632) ≤ at) (call : Call) where
  abbrev places : List ℕ
  places = unpacked (length store) store

  abbrev after : List ℕ
  after = store_after_call state places call

  -- the four places of the byte stay
  stays : (j : ℕ) → 4 * at ≤ j → get_or after j 0 ≡ get_or places j 0
  stays j far = past_call state places j (omega (arith, past, far)) call

  same : packed_at after at ≡ packed_at places at
  unfolding packed_at
  same = rw (stays (4 * at) (omega arith), stays (4 * at + 1) (omega arith), stays (4 * at + 2) (omega arith), stays (4 * at + 3) (omega arith))

  quarter : length after / 4 ≡ length store
  quarter = rw (length_after state places call, length_unpacked (length store) store) (omega arith)

  pub past_packed : get_or (store_after_in true state store call) at 0 ≡ get_or store at 0
  unfolding store_after_in places_in in_form packed
  past_packed = ap (λ (n : ℕ). get_or (packed n after) at 0) quarter ∙ elim (dec_lt at (length store)) [
    | yes l ↦ get_or_tab (length store) (packed_at after) at 0 l ∙ same ∙ byte_unpacked (length store) store at l (bytes at)
    | no l ↦
        get_or-eq_default (packed (length store) after) 0 {n = at} (omega (arith, length_packed (length store) after))
        ∙ sym (get_or-eq_default store 0 {n = at} (omega arith))
  ]
