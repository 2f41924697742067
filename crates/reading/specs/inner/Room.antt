-- What Read asks of a room and leaves in the output for it, 01 'Read'.
-- Assumes nothing.
use Rattle.std.specs.Prelude.{Bool, ⊤, cond, not, ◌&&◌, List, ◌++◌, ℕ, ◌+◌, ◌*◌, eqb, leb, drop}
use Rattle.std.specs.declared.result.Result.{Result}
use Rattle.std.specs.declared.result.Result.TheVariants.{Ok, Err}
use Rattle.segmentation.specs.Segmentation.{blocks}
use Rattle.segmentation.specs.Sizes.{bad_size}
use Rattle.slots.specs.declared.Reason.{Reason}
use Rattle.slots.specs.declared.Reason.TheVariants.{Lacking, WrongCodeBlock}
use Rattle.slots.specs.State.{per_block}
use Rattle.slots.specs.Answers.{is_done}
use Rattle.slots.specs.Reading.{lacking, some_wrong, first_wrong, heard_answer, heard_block}

-- A is in range, and a room of so many bytes has its code blocks
unfoldable pub room_fits : ℕ → ℕ → Bool
room_fits A long = not (bad_size A) && leb (blocks (A + 24) * per_block) long

-- what is wrong with a room before its transport check: 11 with the count, then 16 with the code block
unfoldable pub blocks_heard : ℕ → List ℕ → Result ⊤ Reason
blocks_heard A room =
    cond (eqb (lacking A room) 0)
    (cond (some_wrong A room) (Err (WrongCodeBlock (first_wrong A room))) (Ok tt))
    (Err (Lacking (lacking A room)))

-- what Read leaves in the output for the room: the block over its front, where nothing is refused
unfoldable pub room_output : ℕ → List ℕ → List ℕ → List ℕ
room_output A room out = cond (is_done (heard_answer A room)) (heard_block A room ++ drop A out) out
