-- What the test's outcome says of the arguments.
use mathlib.Core.Path.{sym, ◌∙◌}
use Rattle.turbo.proofs.Encodable.{encodable_true}
use Rattle.turbo.proofs.encode.Goals as goal

pub encode_streams-requires : goal.encode_streams-requires
encode_streams-requires c = encodable_true _ _ _ _ _ (sym c.is_encodable.ensures ∙ c.if-is_encodable.true)
