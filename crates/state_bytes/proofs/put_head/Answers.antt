-- `put_head` meets its contract: four numbers over the head's 32 bytes.
-- Assumes nothing.
use mathlib.Core.Path.{◌≡◌, refl, ◌∙◌}
use mathlib.Core.Bool.{Bool, true, false, cond}
use Prim.Native.Nat.{ℕ, ◌+◌, ◌*◌}
use native.Mathlib.Nat.{add-sub_cancel_left}
use native.Mathlib.Omega.{arith}
use borrow.Author.Tests.{lt-ltb, le-ltb}
use mir.Val.{bool_byte}
use Rattle.laws.proofs.Parts.{put_as, length_mid}
use Rattle.state_bytes.specs.StateBytes.{head_numbers, head_start, with_head_bytes}
use Rattle.state_bytes.proofs.Bytes.{whole_over}
use Rattle.state_bytes.proofs.put_head.Goals as goal

flag : (opened : Bool) → bool_byte opened ≡ cond opened 1 0
flag true = refl
flag false = refl

pub returns-then-bytes-lt-STATE_LEN : goal.returns-then-bytes-lt-STATE_LEN
unfolding with_head_bytes
returns-then-bytes-lt-STATE_LEN c = rw (lt-ltb _ _ c.if-bytes-lt-STATE_LEN.true)

pub returns-then-slot-gt7 : goal.returns-then-slot-gt7
unfolding with_head_bytes
returns-then-slot-gt7 c = rw (le-ltb _ _ c.if-bytes-lt-STATE_LEN.false, lt-ltb _ _ c.if-slot-gt7.true)

pub returns : goal.returns
unfolding head_numbers head_start with_head_bytes
returns c =
    let entry = c.args in
    let from : ℕ = 16 + 32 * entry.slot in
    rw (le-ltb _ _ c.if-bytes-lt-STATE_LEN.false, le-ltb _ _ c.if-slot-gt7.false)
    (put_as from (from + 32) entry.bytes.now
    (rw (c.from.ensures ∙ flag c.args.head.opened, c.from-2.ensures) at c.put_numbers.ensures
    ∙ whole_over 8 _ _ (omega arith) (length_mid from (from + 32) entry.bytes.now (omega arith) ∙ add-sub_cancel_left from 32))
    (omega arith))
