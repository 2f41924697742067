-- Laws of accepted calls that give bits: Read, Streams and Build answer Done exactly when they are accepted, and what they then wrote.
-- Assumes nothing.
use mathlib.Core.Path.{◌≡◌, refl, sym, ◌∙◌, ap}
use mathlib.Core.Bool.{Bool, true, false, cond, true≢false}
use mathlib.Core.List.{List, ◌++◌, append_assoc}
use Prim.Native.Nat.{ℕ, ◌+◌, ◌-◌, ◌*◌, ◌≤◌}
use native.Mathlib.Omega.{arith}
use lib.Dec.{eqb, ltb}
use lib.ListN.{length, take, drop, replicate, length-append, length-drop, length-replicate}
use lib.Seq.{take-append_seam, drop-append_seam, drop-drop}
use borrow.Author.Tests.{eqb-true, eq-eqb}
use Rattle.segmentation.specs.declared.Segments.{Segments}
use Rattle.segmentation.specs.Sizes.{segments_for}
use Rattle.slots.specs.declared.Head.{Head}
use Rattle.slots.specs.declared.State.{State}
use Rattle.slots.specs.State.{head_at}
use Rattle.slots.proofs.HeadLaws.{open_size}
use Rattle.reading.proofs.Blocks.{size_told}
use Rattle.slots.specs.Outcome.{Outcome}
use Rattle.slots.specs.Outcome.{Done, Refused}
use Rattle.slots.specs.Answers.{is_done, unless_refused}
use Rattle.laws.proofs.Tab.{length_tab}
use Rattle.segmentation.specs.Segmentation.{blocks}
use Rattle.rate_matching.specs.SoftBuffer.{soft_share}
use Rattle.codeword.specs.declared.Grant.{Grant}
use Rattle.codeword.specs.Codeword.{codeword, codeword_in}
use Rattle.codeword.specs.Build.{build_number, build_output}
use Rattle.codeword.specs.Downlink.{build_down_number, build_down_output}
use Rattle.codeword.proofs.Numbers.{accepted as accepted-build}
use Rattle.codeword.proofs.SoftShares.{accepted_down}
use Rattle.slots.specs.Room.{room_at}
use Rattle.slots.specs.Circle.{streams_on}
use Rattle.slots.specs.Reading.{heard_block, three_streams}
use Rattle.slots.specs.Calls.{size_at_head, read_number, read_outcome, released, read_output, streams_number, streams_outcome, streams_output}
use Rattle.slots.proofs.Acceptance.{reads, streams}
use Rattle.answers.specs.Rows.{answer_row, run_row, runs_row}
use Rattle.call_rows.specs.Rooms.{read_room, streams_room, build_room}
use Rattle.call_rows.specs.Rows.{read_row, stream_length, stream_run, streams_row, built_row, build_row, build_down_row}

-- Read answers Done exactly where the block is released
pub released_is : (state : State) (store : List ℕ) (slot terminal size : ℕ)
    → released state store slot terminal size ≡ is_done (read_outcome state store slot terminal size).answer
unfolding released
released_is state store slot terminal size = refl

-- what Streams answers
streamed_by : (refusal : ℕ) (state : State)
    → eqb refusal 0 ≡ is_done (unless_refused refusal state (record { answer = Done; state = state })).answer
unfolding is_done unless_refused
streamed_by refusal state = go (eqb refusal 0)
  where
    go : (a : Bool) → a ≡ is_done (cond {A = Outcome} a (record { answer = Done; state = state }) (record { answer = Refused refusal; state = state })).answer
    go true = refl
    go false = refl

-- Streams answers Done exactly where it is accepted
pub streamed_is : (state : State) (room slot terminal r size : ℕ)
    → eqb (streams_number state room slot terminal r size) 0 ≡ is_done (streams_outcome state room slot terminal r size).answer
unfolding streams_outcome
streamed_is state room slot terminal r size = streamed_by (streams_number state room slot terminal r size) state

-- a released read is not refused
done_number : (n : ℕ) (state : State) (o : Outcome) → is_done (unless_refused n state o).answer ≡ true → n ≡ 0
unfolding is_done unless_refused
done_number n state o = go (eqb n 0) refl
  where
    go : (t : Bool) → eqb n 0 ≡ t → is_done (cond {A = Outcome} t o (record { answer = Refused n; state = state })).answer ≡ true → n ≡ 0
    go true e h = eqb-true n 0 e
    go false e h = absurd (true≢false (sym h))

released_number : (state : State) (store : List ℕ) (slot terminal size : ℕ) → released state store slot terminal size ≡ true
    → read_number state (length store) slot terminal size ≡ 0
unfolding released read_outcome
released_number state store slot terminal size e = done_number (read_number state (length store) slot terminal size) state _ e

-- a fresh room has its length
pub fresh : {out : List ℕ} (n : ℕ) → out ≡ replicate n 0 → n ≡ length out
fresh n e = sym (ap length e ∙ length-replicate n 0)

-- a call that wrote h over the first n bytes of an output which kept its length
pub front : (h out : List ℕ) {out' : List ℕ} (n : ℕ) → n ≤ length out → out' ≡ h ++ drop n out → length out' ≡ length out → take n out' ≡ h
front h out n fits e kept = rw (e, ← long) (take-append_seam h (drop (length h) out))
  where
    long : length h ≡ n
    long = omega (arith, ap length e, length-append h (drop n out), length-drop n out, kept)

-- an output that begins with three runs of n bytes
module _ (a b c rest : List ℕ) {out : List ℕ} (n : ℕ) (one : length a ≡ n) (two : length b ≡ n) (three : length c ≡ n) (e : out ≡ (a ++ (b ++ c)) ++ rest) where
  by_one : out ≡ a ++ (b ++ (c ++ rest))
  by_one = e ∙ append_assoc a (b ++ c) rest ∙ ap (λ (l : List ℕ). a ++ l) (append_assoc b c rest)

  after_one : drop n out ≡ b ++ (c ++ rest)
  after_one = rw (by_one, ← one) (drop-append_seam a (b ++ (c ++ rest)))

  after_two : drop (n + n) out ≡ c ++ rest
  after_two = sym (drop-drop n n out) ∙ rw (after_one, ← two) (drop-append_seam b (c ++ rest))

  one_run : n + n - n ≡ n
  one_run = omega arith

  last_run : n + n + n - (n + n) ≡ n
  last_run = omega arith

  three_runs : (take n out ≡ a) × (take (n + n - n) (drop n out) ≡ b) × (take (n + n + n - (n + n)) (drop (n + n) out) ≡ c)
  three_runs = (
    rw (by_one, ← one) (take-append_seam a (b ++ (c ++ rest))),
    rw (one_run, after_one, ← two) (take-append_seam b (c ++ rest)),
    rw (last_run, after_two, ← three) (take-append_seam c rest),
  )

-- the block that a released read wrote
pub read_run_lem : (state : State) (store : List ℕ) (slot terminal : ℕ) (out : List ℕ) {out' : List ℕ} → is_done (read_outcome state store slot terminal (length out)).answer ≡ true
    → out' ≡ read_output state store slot terminal out → length out' ≡ length out
    → (size_at_head state slot ≤ length out) × (take (size_at_head state slot) out' ≡ heard_block (size_at_head state slot) (room_at state.blocks slot store))
unfolding read_output
read_run_lem state store slot terminal out done e kept = (enough, front (heard_block (size_at_head state slot) (room_at state.blocks slot store)) out (size_at_head state slot) enough (rw yes at e) kept)
  where
    yes : released state store slot terminal (length out) ≡ true
    yes = released_is state store slot terminal (length out) ∙ done

    enough : size_at_head state slot ≤ length out
    enough = (reads state (length store) slot terminal (length out) (released_number state store slot terminal (length out) yes)).enough

-- the three runs that an accepted Streams wrote
module _ (state : State) (store : List ℕ) (slot terminal r : ℕ) (out : List ℕ) {out' : List ℕ}
    (done : is_done (streams_outcome state (length store) slot terminal r (length out)).answer ≡ true) (e : out' ≡ streams_output state store slot terminal r out) where
  accepted : streams_number state (length store) slot terminal r (length out) ≡ 0
  accepted = eqb-true _ _ (streamed_is state (length store) slot terminal r (length out) ∙ done)

  run_length : (s : ℕ) → length (stream_run state store slot r s) ≡ stream_length state slot r
  unfolding stream_run
  run_length s = length_tab (stream_length state slot r) _

  written : out' ≡ (stream_run state store slot r 0 ++ (stream_run state store slot r 1 ++ stream_run state store slot r 2)) ++ drop (3 * stream_length state slot r) out
  unfolding streams_output three_streams streams_on stream_run stream_length
  written = rw (eq-eqb _ _ accepted) at e

  pub runs_fit : 3 * stream_length state slot r ≤ length out
  unfolding stream_length
  runs_fit = (streams state (length store) slot terminal r (length out) accepted).enough

  pub stream_runs : (take (stream_length state slot r) out' ≡ stream_run state store slot r 0)
      × (take (stream_length state slot r + stream_length state slot r - stream_length state slot r) (drop (stream_length state slot r) out') ≡ stream_run state store slot r 1)
      × (take (stream_length state slot r + stream_length state slot r + stream_length state slot r - (stream_length state slot r + stream_length state slot r)) (drop (stream_length state slot r + stream_length state slot r) out') ≡ stream_run state store slot r 2)
  stream_runs = three_runs _ _ _ _ _ (run_length 0) (run_length 1) (run_length 2) written

  -- D by the head and the segmentation that the caller found
  pub stream_size : {head : Head} {s : Segments} {k : ℕ} → head ≡ head_at state slot → s ≡ segments_for head.size → k ≡ cond (ltb r s.shorts) s.short s.long
      → k + 4 ≡ stream_length state slot r
  unfolding stream_length size_at_head
  stream_size h e k_is =
      let w = streams state (length store) slot terminal r (length out) accepted in
      let found = e ∙ ap (λ (x : Head). segments_for x.size) h in
      ap (λ (n : ℕ). n + 4) (k_is ∙ size_told (head_at state slot).size r found (open_size state w.sound slot w.below w.opened).0)

-- ---- the rows

-- a refused Read's row
pub read_refused : (state : State) (store : List ℕ) (slot terminal : ℕ) (out : List ℕ) {o : Outcome} → read_room ≡ length out
    → o ≡ read_outcome state store slot terminal (length out) → is_done o.answer ≡ false → answer_row o.answer ≡ read_row state store slot terminal
unfolding read_row
read_refused state store slot terminal out room e b =
    rw (room, released_is state store slot terminal (length out), ← e, b)

-- a released block's row
pub read_row_lem : (state : State) (store : List ℕ) (slot terminal : ℕ) (out : List ℕ) {out' : List ℕ} {o : Outcome} → read_room ≡ length out
    → o ≡ read_outcome state store slot terminal (length out) → is_done o.answer ≡ true → out' ≡ read_output state store slot terminal out → length out' ≡ length out
    → (size_at_head state slot ≤ length out) × (run_row (take (size_at_head state slot) out') ≡ read_row state store slot terminal)
unfolding read_row
read_row_lem state store slot terminal out room e b wrote kept =
    let done = ap (λ (x : Outcome). is_done x.answer) (sym e) ∙ b in
    let run = read_run_lem state store slot terminal out done wrote kept in
    (run.0, rw (room, released_is state store slot terminal (length out), done, run.1))

-- a refused Streams' row
pub streams_refused : (state : State) (store : List ℕ) (slot terminal r : ℕ) (out : List ℕ) {o : Outcome} → streams_room ≡ length out
    → o ≡ streams_outcome state (length store) slot terminal r (length out) → is_done o.answer ≡ false → answer_row o.answer ≡ streams_row state store slot terminal r
unfolding streams_row
streams_refused state store slot terminal r out room e b =
    rw (room, streamed_is state (length store) slot terminal r (length out), ← e, b)

-- the row of three streams
pub streams_row_lem : (state : State) (store : List ℕ) (slot terminal r : ℕ) (out : List ℕ) {out' : List ℕ} {d : ℕ} → streams_room ≡ length out
    → is_done (streams_outcome state (length store) slot terminal r (length out)).answer ≡ true → out' ≡ streams_output state store slot terminal r out → d ≡ stream_length state slot r
    → runs_row (take d out') (take (d + d - d) (drop d out')) (take (d + d + d - (d + d)) (drop (d + d) out')) ≡ streams_row state store slot terminal r
unfolding streams_row
streams_row_lem state store slot terminal r out room done wrote d-is =
    let runs = stream_runs state store slot terminal r out done wrote in
    rw (d-is, runs.0, runs.1, runs.2, room, streamed_is state (length store) slot terminal r (length out), done)

-- the row of what a Build gave: an accepted one wrote the codeword X over the first g bytes of the room
built : (number g : ℕ) (X out : List ℕ) {out' : List ℕ} → (number ≡ 0 → (g ≤ length out) × (out' ≡ X ++ drop g out)) → length out' ≡ length out
    → (number ≡ 0 → g ≤ length out') × (built_row number (take g out') ≡ built_row number X)
unfolding built_row
built number g X out {out'} wrote kept = (λ (z : number ≡ 0). omega (arith, (wrote z).0), go (eqb number 0) refl)
  where
    go : (t : Bool) → eqb number 0 ≡ t → built_row number (take g out') ≡ built_row number X
    go true e = let w = wrote (eqb-true number 0 e) in rw (front X out g w.0 w.1 kept)
    go false e = rw e

pub build_row_lem : (block : List ℕ) (g : Grant) (out : List ℕ) {out' : List ℕ} {number : ℕ} → build_room ≡ length out → number ≡ build_number block g (length out)
    → out' ≡ build_output block g out → length out' ≡ length out → (number ≡ 0 → g.bits ≤ length out') × (built_row number (take g.bits out') ≡ build_row block g)
unfolding build_row build_output
build_row_lem block g out {out'} {number} room e wrote kept =
    let given : number ≡ 0 → (g.bits ≤ length out) × (out' ≡ codeword block g ++ drop g.bits out) = λ z. let taken = sym e ∙ z in ((accepted-build block g (length out) taken).1, rw (eq-eqb _ _ taken) at wrote) in
    rw (room, ← e) (built number g.bits (codeword block g) out given kept)

-- for a downlink
pub down_row : (block : List ℕ) (release k_mimo processes Nsoft layers : ℕ) (g : Grant) (out : List ℕ) {out' : List ℕ} {number : ℕ} → build_room ≡ length out
    → number ≡ build_down_number block release k_mimo processes Nsoft layers g (length out) → out' ≡ build_down_output block release k_mimo processes Nsoft layers g out → length out' ≡ length out
    → (number ≡ 0 → g.bits ≤ length out') × (built_row number (take g.bits out') ≡ build_down_row block release k_mimo processes Nsoft layers g)
unfolding build_down_row build_down_output
down_row block release k_mimo processes Nsoft layers g out {out'} {number} room e wrote kept =
    let code = codeword_in (soft_share (blocks (length block + 24)) release k_mimo processes Nsoft layers) block g in
    let given : number ≡ 0 → (g.bits ≤ length out) × (out' ≡ code ++ drop g.bits out) = λ z. let taken = sym e ∙ z in ((accepted_down block release k_mimo processes Nsoft layers g (length out) taken).1, rw (eq-eqb _ _ taken) at wrote) in
    rw (room, ← e) (built number g.bits code out given kept)
