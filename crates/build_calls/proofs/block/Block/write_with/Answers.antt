use mathlib.Core.Path.{◌≡◌, ◌∙◌, ap}
use mathlib.Core.List.{◌++◌}
use Prim.Native.Nat.{ℕ, ◌+◌, ◌≤◌}
use native.Mathlib.Omega.{arith}
use lib.ListN.{length, length-replicate}
use lib.Seq.{length-take-le}
use Rattle.laws.proofs.Parts.{length_mid}
use Rattle.segmentation.specs.Segmentation.{size_of}
use Rattle.codeword.proofs.Segmented.{count_told}
use Rattle.build_calls.proofs.Rooms.{kept}
use Rattle.build_calls.proofs.Sent.{size_told, size_within}
use Rattle.build_calls.proofs.Stretches.{start, sends, within, next, finish}
use Rattle.build_calls.proofs.block.Block.write_with.Given.{Over}
use Rattle.build_calls.proofs.block.Block.write_with.Goals.{After-size_of-d}
use Rattle.build_calls.proofs.block.Block.write_with.Goals as goal

-- K of the code block, and that its streams fit the rooms
size_is : (g : Over) (c : After-size_of-d g) → let b = c.args.self.now in c.size_of-d.result ≡ size_of (length (b.header.now ++ b.payload.now) + 24) c.loop-r.r
size_is g c = size_told (sends c.loop-r.invariant.0 c.loop-r-test.true) c.size_of-d.ensures

stream_fits : (g : Over) (c : After-size_of-d g) → c.size_of-d.result + 4 ≤ g.row.D
stream_fits g c =
    omega (arith, c.requires.room.0, size_within (sends c.loop-r.invariant.0 c.loop-r-test.true), size_told (sends c.loop-r.invariant.0 c.loop-r-test.true) c.size_of-d.ensures)

pub loop-r-init : goal.loop-r-init
loop-r-init g c =
    let b = c.args.self.now in
    let long = length-replicate {A = ℕ} g.row.D 0 in
    (start b.accepted c.requires.whole b.segmented (count_told _ b.segmented) c.crc24a_two-remainder.ensures, record { first = long; second = long; third = long })

pub overflow_add-end : goal.overflow_add-end
overflow_add-end g c = omega (arith, within c.loop-r.invariant.0 c.loop-r-test.true c.share_of.ensures)

pub overflow_add-d : goal.overflow_add-d
overflow_add-d g c = omega (arith, stream_fits g (goal.at.overflow_add-d g c).After-size_of-d, c.requires.room.1)

pub slice_bounds-stretch-end : goal.slice_bounds-stretch-end
slice_bounds-stretch-end g c = within c.loop-r.invariant.0 c.loop-r-test.true c.share_of.ensures

pub whole_as_front-send : goal.whole_as_front-send
whole_as_front-send g c = (stream_fits g (goal.at.whole_as_front-send g c).After-size_of-d, omega (arith, c.requires.room.1))

pub send-requires-clause-roomy : goal.send-requires-clause-roomy
send-requires-clause-roomy g c =
    let here = (goal.at.send-requires-clause-roomy g c).After-size_of-d in
    let fits = stream_fits g here in
    let places = ap (λ (n : ℕ). n + 4) (size_is g here) in
    let rooms = c.loop-r.invariant.1 in
    record {
      first = length-take-le _ _ (omega (arith, fits, rooms.first)) ∙ places;
      second = length-take-le _ _ (omega (arith, fits, rooms.second)) ∙ places;
      third = length-take-le _ _ (omega (arith, fits, rooms.third)) ∙ places;
    }

pub loop-r-preserved : goal.loop-r-preserved
loop-r-preserved g c =
    let rooms = c.loop-r.invariant.1 in (
      next c.loop-r.invariant.0 c.loop-r-test.true c.share_of.ensures c.send.ensures
          (c.send.auto.stretch ∙ length_mid _ _ _ (within c.loop-r.invariant.0 c.loop-r-test.true c.share_of.ensures)),
      record { first = kept _ _ _ rooms.first c.send.auto.d0; second = kept _ _ _ rooms.second c.send.auto.d1; third = kept _ _ _ rooms.third c.send.auto.d2 },
    )

pub returns : goal.returns
returns g c = finish c.loop-r.invariant.0 c.loop-r-test.false
