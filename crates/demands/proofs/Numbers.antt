-- Demand 1, 'a refused call gives its number', and 01's 'the first that applies is given, and none where none applies': for every call, on every input, the number given
-- back is that of the first row of its table that is not passed over, and 0 where all are.
-- Assumes nothing.
use mathlib.Core.Path.{◌≡◌, refl, sym, ◌∙◌, ap}
use mathlib.Core.Bool.{Bool, true, false, cond, not, true≢false}
use mathlib.Core.List.{List, [], ◌∷◌, ◌++◌}
use Prim.Native.Nat.{ℕ, ◌+◌, ◌-◌, ◌*◌, ◌≤◌, ◌<◌}
use lib.Dec.{eqb, ltb}
use lib.ListN.{length}
use borrow.Author.Tests.{eqb-true, eqb-false}
use Rattle.refusals.specs.Refusals.{Rule, rule, first_of, number_in}
use Rattle.segmentation.specs.Segmentation.{blocks}
use Rattle.std.specs.Prelude.{Ok, Err}
use Rattle.refusals.specs.declared.Refusal.TheVariants.{BadLength}
use Rattle.segmentation.specs.Sizes as sizes
use Rattle.codeword.specs.declared.Grant.{Grant}
use Rattle.codeword.specs.Build.{build_rules, build_number}
use Rattle.codeword.specs.Downlink.{build_down_rules, build_down_number}
use Rattle.planning.specs.Worst as planning
use Rattle.planning.proofs.Numbers.{answer_number as worst_told}
use Rattle.slots.specs.declared.State.{State}
use Rattle.slots.specs.Outcome.{Outcome}
use Rattle.slots.specs.Outcome.{Answer}
use Rattle.slots.specs.Outcome.{Done, Refused}
use Rattle.slots.specs.State.{room_length, store_length, head_at, bad_state}
use Rattle.slots.specs.Room.{room_at}
use Rattle.slots.specs.Reading.{lacking, first_wrong, some_wrong, wrong_check, heard_answer}
use Rattle.slots.specs.Checks.{blocks_at, RightBlock, RightTransport}
use Rattle.slots.specs.Answers.{number_of, values_of, Lacking, WrongBlock, unless_refused}
use Rattle.slots.specs.Calls.{store_rules, owner_rules, open_rules, size_at_head, open_number, open_down_number, receive_number, streams_number, close_number, new_outcome, open_outcome, open_down_outcome, receive_outcome, read_number, read_outcome, streams_outcome, close_outcome}
use Rattle.slots.proofs.Checks.{released_right, block_wrong, transport_wrong}
use Rattle.reports.specs.Refusals as reporting
use Rattle.reports.specs.Calls.{report_build_number, control_part, part_number}
use Rattle.report_code.specs.Nearest.{nearest_message}
use Rattle.control_messages.specs.Calls as control
use Rattle.control_messages.proofs.Numbers.{answer_number as whose_told}
use Rattle.state_bytes.specs.StateBytes.{new_number}
use Rattle.face.specs.Face.{sizes_number}
use Rattle.packing.specs.Change.{packed_length, bad_blocks, change_number, pack_number, unpack_number}
use Rattle.demands.specs.Numbers.{None, none, Unless, passed, given, store_rows, owner_rows, open_rows, SizesGives, SizesBytesGives, BuildGives, BuildDownGives, WorstGives, NewGives, NewBytesGives, OpenGives, OpenDownGives, ReceiveGives, ReadGives, StreamsGives, CloseGives, report_rows, ReportBuildGives, ReportPartGives, ControlGives, WhoseGives, PackGives, UnpackGives}
use Rattle.demands.proofs.Ranges.{Passes, true_test, false_test, equal_test, below_test, enough_test, size_test, symbol_test, length_test, allocation_test, version_test, bits_test_lem, buffer_test, shape_test, blocks_test, state_test, within_test, between_test, control_test}

-- ---- a row of a table is a rule

-- n is the number of the rules or, where that is 0, what comes after them
record Comes (rs : List Rule) (after n : ℕ) : Type 0 where
  pub is : n ≡ cond (eqb (first_of rs) 0) after (first_of rs)

row : {t : Bool} {asked : Type 0} {k : ℕ} {next : ℕ → Type 0} {rs : List Rule} {after n : ℕ} → Passes t asked → eqb k 0 ≡ false → Comes (rule t k ∷ rs) after n
    → (t ≡ false → Comes rs after n → next n) → Unless asked k next n
unfolding first_of
row {t} {asked} {k} {next} {rs} {after} {n} w some c goes = go t refl
  where
    go : (b : Bool) → t ≡ b → Unless asked k next n
    go true e = given (λ p. true≢false (sym e ∙ w.where_holds p)) (rw (e, some) at c.is)
    go false e = passed (w.holds e) (goes e (record { is = rw e at c.is }))

-- past the last rule
last : {n : ℕ} → Comes [] 0 n → None n
unfolding first_of
last c = none c.is

-- the rules alone
alone : (rs : List Rule) → Comes rs 0 (first_of rs)
alone rs = record { is = go (eqb (first_of rs) 0) refl }
  where
    go : (b : Bool) → eqb (first_of rs) 0 ≡ b → first_of rs ≡ cond b 0 (first_of rs)
    go true e = eqb-true (first_of rs) 0 e
    go false e = refl

-- the number of an outcome: that of its rules, then that of the accepted answer
told : (rs : List Rule) (state : State) (o : Outcome) → Comes rs (number_of o.answer) (number_of (unless_refused (first_of rs) state o).answer)
unfolding unless_refused number_of
told rs state o = record { is = go (eqb (first_of rs) 0) }
  where
    go : (b : Bool) → number_of (cond {A = Outcome} b o (record { answer = Refused (first_of rs); state = state })).answer ≡ cond b (number_of o.answer) (first_of rs)
    go true = refl
    go false = refl

-- ---- Build and Sizes

pub sizes_number_lem : (A : ℕ) → SizesGives A (sizes.number_of (sizes.sizes_answer A))
unfolding SizesGives sizes.number_of sizes.sizes_answer first_of
sizes_number_lem A = row (size_test A) refl (record { is = go (sizes.bad_size A) }) (λ e. last)
  where
    go : (b : Bool) → let n : ℕ = elim b [ true ↦ 1 | false ↦ 0 ] in sizes.number_of (cond b (Err BadLength) (Ok (sizes.sizes_of A))) ≡ cond (eqb n 0) 0 n
    go true = refl
    go false = refl

pub sizes_bytes_number : (A size : ℕ) → SizesBytesGives A size (sizes_number A size)
unfolding SizesBytesGives sizes_number
sizes_bytes_number A size = row (size_test A) refl (alone _) (λ e c. row (enough_test 24 size) refl c (λ e. last))

pub build_number_lem : (a : List ℕ) (g : Grant) (size : ℕ) → BuildGives a g size (build_number a g size)
unfolding BuildGives build_number build_rules
build_number_lem a g size =
    row (size_test (length a)) refl (alone (build_rules a g size)) (λ e c. row (symbol_test g.modulation g.layers) refl c
    (λ e c. row (length_test _ g.modulation g.layers g.bits) refl c (λ e c. row (version_test g.version) refl c
    (λ e c. row (enough_test g.bits size) refl c (λ e c. row (bits_test_lem a) refl c (λ e. last))))))

pub build_down_number_lem : (a : List ℕ) (release k_mimo processes Nsoft layers : ℕ) (g : Grant) (size : ℕ)
    → BuildDownGives a release k_mimo processes Nsoft layers g size (build_down_number a release k_mimo processes Nsoft layers g size)
unfolding BuildDownGives build_down_number build_down_rules
build_down_number_lem a release k_mimo processes Nsoft layers g size =
    row (size_test (length a)) refl (alone (build_down_rules a release k_mimo processes Nsoft layers g size))
    (λ e c. row (buffer_test (length a + 24) release k_mimo processes Nsoft layers) refl c (λ e c. row (symbol_test g.modulation g.layers) refl c
    (λ e c. row (length_test _ g.modulation g.layers g.bits) refl c (λ e c. row (version_test g.version) refl c
    (λ e c. row (enough_test g.bits size) refl c (λ e c. row (bits_test_lem a) refl c (λ e. last)))))))

-- a number that is 0 or not
same : (n : ℕ) → n ≡ cond (eqb n 0) 0 n
same n = go (eqb n 0) refl
  where
    go : (b : Bool) → eqb n 0 ≡ b → n ≡ cond b 0 n
    go true e = eqb-true n 0 e
    go false e = refl

pub worst_number_lem : (A Q N : ℕ) → WorstGives A Q N (number_in (planning.worst_answer A Q N))
unfolding WorstGives planning.worst_number planning.worst_rules
worst_number_lem A Q N =
    row (size_test A) refl (record { is = worst_told A Q N ∙ same (planning.worst_number A Q N) }) (λ e c. row (symbol_test Q N) refl c (λ e. last))

-- ---- the slots

pub new_number_lem : (S M : ℕ) → NewGives S M (number_of (new_outcome S M).answer)
unfolding NewGives new_outcome number_of
new_number_lem S M = row (shape_test S M) refl (told _ _ _) (λ e. last)

pub new_bytes_number : (S M size : ℕ) → NewBytesGives S M size (new_number S M size)
unfolding NewBytesGives new_number
new_bytes_number S M size = go (ltb size 272) refl
  where
    go : (b : Bool) → ltb size 272 ≡ b → Unless (272 ≤ size) 5 (NewGives S M) (cond b 5 (number_of (new_outcome S M).answer))
    go true e = given (λ p. true≢false (sym e ∙ (enough_test 272 size).where_holds p)) refl
    go false e = passed ((enough_test 272 size).holds e) (new_number_lem S M)

-- 13, 5, 6
store_rows_lem : (state : State) (lent slot : ℕ) (rs : List Rule) {next : ℕ → Type 0} {after n : ℕ} → Comes (store_rules state lent slot ++ rs) after n
    → (bad_state state ≡ false → ltb lent (store_length state) ≡ false → not (ltb slot state.slots) ≡ false → Comes rs after n → next n)
    → store_rows state lent slot next n
unfolding store_rules store_length room_length
store_rows_lem state lent slot rs c goes =
    row (state_test state) refl c (λ x c. row (enough_test (state.slots * (state.blocks * 18528)) lent) refl c
    (λ y c. row (below_test slot state.slots) refl c (λ z c. goes x y z c)))

-- 8, 9
owner_rows_lem : (state : State) (slot terminal : ℕ) (rs : List Rule) {next : ℕ → Type 0} {after n : ℕ} → Comes (owner_rules state slot terminal ++ rs) after n
    → (not (head_at state slot).opened ≡ false → not (eqb (head_at state slot).terminal terminal) ≡ false → Comes rs after n → next n)
    → owner_rows state slot terminal next n
unfolding owner_rules
owner_rows_lem state slot terminal rs c goes =
    row (true_test (head_at state slot).opened) refl c (λ x c. row (equal_test (head_at state slot).terminal terminal) refl c (λ y c. goes x y c))

-- 13, 5, 6, 7, 1, 10
open_rows_lem : (state : State) (lent slot A : ℕ) (rs : List Rule) {next : ℕ → Type 0} {after n : ℕ} → Comes (open_rules state lent slot A ++ rs) after n
    → (Comes rs after n → next n) → open_rows state lent slot A next n
unfolding open_rules store_rules
open_rows_lem state lent slot A rs c goes =
    store_rows_lem state lent slot _ c (λ x y z c. row (false_test (head_at state slot).opened) refl c (λ e c. row (size_test A) refl c
    (λ e c. row (blocks_test state.blocks A) refl c (λ e c. goes c))))

pub open_number_lem : (state : State) (lent slot terminal A : ℕ) → OpenGives state lent slot A (number_of (open_outcome state lent slot terminal A).answer)
unfolding OpenGives open_outcome open_number open_rules store_rules number_of
open_number_lem state lent slot terminal A = open_rows_lem state lent slot A [] (told _ _ _) last

pub open_down_number_lem : (state : State) (lent slot terminal A release k_mimo processes Nsoft layers : ℕ)
    → OpenDownGives state lent slot A release k_mimo processes Nsoft layers (number_of (open_down_outcome state lent slot terminal A release k_mimo processes Nsoft layers).answer)
unfolding OpenDownGives open_down_outcome open_down_number number_of
open_down_number_lem state lent slot terminal A release k_mimo processes Nsoft layers =
    open_rows_lem state lent slot A _ (told _ _ _) (λ c. row (buffer_test (A + 24) release k_mimo processes Nsoft layers) refl c (λ e. last))

pub receive_number_lem : (state : State) (slot terminal Q N v : ℕ) (bits store : List ℕ)
    → ReceiveGives state (length store) slot terminal Q N v bits (number_of (receive_outcome state slot terminal Q N v bits store).answer)
unfolding ReceiveGives receive_outcome receive_number size_at_head number_of
receive_number_lem state slot terminal Q N v bits store =
    store_rows_lem state (length store) slot _ (told _ _ _) (λ x y z c. owner_rows_lem state slot terminal _ c
    (λ x y c. row (allocation_test _ Q N (length bits)) refl c (λ e c. row (version_test v) refl c (λ e c. row (bits_test_lem bits) refl c (λ e. last)))))

pub streams_number_lem : (state : State) (lent slot terminal r size : ℕ)
    → StreamsGives state lent slot terminal r size (number_of (streams_outcome state lent slot terminal r size).answer)
unfolding StreamsGives streams_outcome streams_number size_at_head number_of
streams_number_lem state lent slot terminal r size =
    store_rows_lem state lent slot _ (told _ _ _) (λ x y z c. owner_rows_lem state slot terminal _ c
    (λ x y c. row (below_test r _) refl c (λ e c. row (enough_test _ size) refl c (λ e. last))))

pub close_number_lem : (state : State) (slot terminal : ℕ) → CloseGives state slot terminal (number_of (close_outcome state slot terminal).answer)
unfolding CloseGives close_outcome close_number owner_rules number_of
close_number_lem state slot terminal =
    row (state_test state) refl (told _ _ _) (λ e c. row (below_test slot state.slots) refl c (λ e c. owner_rows_lem state slot terminal [] c (λ x y. last)))

-- Read's last rows, where it comes to the room
module _ (state : State) (store : List ℕ) (slot terminal size : ℕ) where
  abbrev A : ℕ
  A = (head_at state slot).size

  abbrev room : List ℕ
  room = room_at state.blocks slot store

  -- the checks of several code blocks are all right
  abbrev Right : Type 0
  Right = 1 < blocks_at state slot → (r : ℕ) → r < blocks_at state slot → RightBlock state store slot r

  -- what the room answers, by what lacks and the two kinds of check
  abbrev by : Bool → Bool → Bool → Answer
  by t u v = cond t (cond u (WrongBlock (first_wrong A room)) (cond v (Refused 12) Done)) (Lacking (lacking A room))

  module _ (came : read_number state (length store) slot terminal size ≡ 0) where
    is : {t u v : Bool} → eqb (lacking A room) 0 ≡ t → some_wrong A room ≡ u → wrong_check A room ≡ v → (read_outcome state store slot terminal size).answer ≡ by t u v
    unfolding read_outcome unless_refused size_at_head heard_answer
    is e f g = rw (came, e, f, g)

    -- 11, 16, 12
    room_rows : (n : ℕ) → n ≡ number_of (heard_answer A room)
        → Unless (lacking A room ≡ 0) 11 (Unless Right 16 (Unless (RightTransport state store slot) 12 None)) n
    unfolding number_of values_of heard_answer
    room_rows n told = go (eqb (lacking A room) 0) refl (some_wrong A room) refl (wrong_check A room) refl told
      where
        go : (t : Bool) → eqb (lacking A room) 0 ≡ t → (u : Bool) → some_wrong A room ≡ u → (v : Bool) → wrong_check A room ≡ v → n ≡ number_of (by t u v)
            → Unless (lacking A room ≡ 0) 11 (Unless Right 16 (Unless (RightTransport state store slot) 12 None)) n
        go false e u f v g h = given (eqb-false (lacking A room) 0 e) h
        go true e true f v g h =
            let w = block_wrong state store slot terminal size (first_wrong A room) (ap number_of (is e f g)) (ap values_of (is e f g)) in
            passed (eqb-true (lacking A room) 0 e) (given (λ right. w.3 (right w.0 (first_wrong A room) w.1)) h)
        go true e false f true g h =
            let w = transport_wrong state store slot terminal size came (ap number_of (is e f g)) in
            passed (eqb-true (lacking A room) 0 e) (passed w.0 (given w.1 h))
        go true e false f false g h =
            let w = released_right state store slot terminal size (ap number_of (is e f g)) in
            passed (eqb-true (lacking A room) 0 e) (passed w.1 (passed w.0 (none h)))

  comes_to_room : bad_state state ≡ false → ltb (length store) (store_length state) ≡ false → not (ltb slot state.slots) ≡ false → not (head_at state slot).opened ≡ false
      → not (eqb (head_at state slot).terminal terminal) ≡ false → ltb size A ≡ false → read_number state (length store) slot terminal size ≡ 0
  unfolding read_number store_rules owner_rules size_at_head first_of
  comes_to_room a b c d e f = rw (a, b, c, d, e, f)

  pub read_number_lem : ReadGives state store slot terminal size (number_of (read_outcome state store slot terminal size).answer)
  unfolding ReadGives read_outcome read_number size_at_head first_of
  read_number_lem =
      store_rows_lem state (length store) slot _ (told _ _ _) (λ x y z c. owner_rows_lem state slot terminal _ c
      (λ p q c. row (enough_test A size) refl c (λ s c. room_rows (comes_to_room x y z p q s) _ c.is)))

-- ---- the other requests

-- 1, 3 for Q and N, 17, 18
report_rows_lem : (size Q N O control : ℕ) (rs : List Rule) {next : ℕ → Type 0} {after n : ℕ} → Comes (reporting.shape_rules size Q N O control ++ rs) after n
    → (Comes rs after n → next n) → report_rows size Q N O control next n
unfolding reporting.shape_rules reporting.bad_report
report_rows_lem size Q N O control rs c goes =
    row (size_test size) refl c (λ e c. row (symbol_test Q N) refl c (λ e c. row (within_test 11 O) refl c (λ e c. row (control_test Q control) refl c (λ e c. goes c))))

pub report_build_number_lem : (o : List ℕ) (control : ℕ) (a : List ℕ) (g : Grant) (size : ℕ) → ReportBuildGives o control a g size (report_build_number o control a g size)
unfolding ReportBuildGives report_build_number reporting.build_rules
report_build_number_lem o control a g size =
    report_rows_lem (length a) g.modulation g.layers (length o) control _ (alone _)
    (λ c. row (length_test _ g.modulation g.layers g.bits) refl c (λ e c. row (version_test g.version) refl c
    (λ e c. row (enough_test (g.layers * control + g.bits) size) refl c (λ e c. row (bits_test_lem o) refl c (λ e c. row (bits_test_lem a) refl c (λ e. last))))))

pub report_part_number : (size Q N O control : ℕ) (received : List ℕ) (lent : ℕ) → ReportPartGives size Q N O control received lent (part_number size Q N O control received lent)
unfolding ReportPartGives part_number reporting.part_rules reporting.shape_rules
report_part_number size Q N O control received lent =
    report_rows_lem size Q N O control _ (alone _)
    (λ c. row (length_test _ Q N (length received - N * control)) refl c (λ e c. row (enough_test O lent) refl c (λ e c. row (bits_test_lem received) refl c
    (λ e c. row (false_test (nearest_message O (control_part N control received)).tied) refl c (λ e. last)))))

pub control_number_lem : (a : List ℕ) (E size : ℕ) → ControlGives a E size (control.control_number a E size)
unfolding ControlGives control.control_number control.control_rules control.bad_payload control.bad_length
control_number_lem a E size =
    row (within_test 64 (length a)) refl (alone _) (λ e c. row (within_test 4096 E) refl c (λ e c. row (enough_test E size) refl c (λ e c. row (bits_test_lem a) refl c (λ e. last))))

pub whose_number_lem : (run : List ℕ) → WhoseGives run (number_in (control.whose_answer run))
unfolding WhoseGives control.whose_number control.whose_rules control.bad_run
whose_number_lem run =
    row (between_test 17 80 (length run)) refl (record { is = whose_told run ∙ same (control.whose_number run) }) (λ e c. row (bits_test_lem run) refl c (λ e. last))

pub pack_number_lem : (M from to : ℕ) → PackGives M from to (pack_number M from to)
unfolding PackGives pack_number change_number bad_blocks room_length packed_length
pack_number_lem M from to =
    row (within_test 5 M) refl (alone _) (λ e c. row (enough_test (M * 18528) from) refl c (λ e c. row (enough_test (M * 4632) to) refl c (λ e. last)))

pub unpack_number_lem : (M from to : ℕ) → UnpackGives M from to (unpack_number M from to)
unfolding UnpackGives unpack_number change_number bad_blocks room_length packed_length
unpack_number_lem M from to =
    row (within_test 5 M) refl (alone _) (λ e c. row (enough_test (M * 4632) from) refl c (λ e c. row (enough_test (M * 18528) to) refl c (λ e. last)))
