-- The rate matcher of one code block, clause 5.1.4.1.2: what it writes.
-- Assumes nothing.
use Rattle.std.specs.Prelude.{cond, List, map, ℕ, eqb, length, take}
use Rattle.laws.specs.Lists.{tab}
use Rattle.rate_matching.specs.SubBlocks.{rows}
use Rattle.rate_matching.specs.Circle.{circle, start_in}
use Rattle.rate_matching.specs.Walk.{on_circle, turn_after_turn, sent_places}
use Rattle.rate_matching.specs.Shape.{shape}
use Rattle.rate_matching.specs.Turns.{matchable}

-- the first E entries that version v sends of three streams whose circle is cut at N_cb, the first F places of d(0) and d(1) being absent
unfoldable pub sent_of : List ℕ → List ℕ → List ℕ → ℕ → ℕ → ℕ → ℕ → List ℕ
sent_of d0 d1 d2 F Ncb v E =
    map (on_circle (circle d0 d1 d2)) (sent_places (take Ncb (shape (length d0) F)) (start_in Ncb (rows (length d0)) v) E)

-- what stands in `out` afterwards: the E entries, where E is its length
unfoldable pub matched_into : List ℕ → List ℕ → List ℕ → ℕ → ℕ → ℕ → List ℕ → List ℕ
matched_into d0 d1 d2 F Ncb v out =
    cond (matchable (length d0) (length d1) (length d2) F Ncb v) (sent_of d0 d1 d2 F Ncb v (length out)) out

-- what stands in `out` afterwards: the entries of one turn over and over; an empty turn leaves it as it is
unfoldable pub repeated_into : List ℕ → List ℕ → List ℕ
repeated_into ring out = cond (eqb (length ring) 0) out (tab (length out) (turn_after_turn ring))
