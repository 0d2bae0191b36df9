-- A text in pieces.
use Rattle.std.specs.Prelude.{◌≡◌, ◌≤◌, ◌*◌, ◌<◌, ℕ, IfOk, List, Result, get_or, length, map}
use Rattle.std.specs.List.{concat}
use Rattle.std.specs.Fork.{slice_chunk}
use Rattle.std.specs.Global.{Vec}
use Rattle.std.specs.declared.alloc.AllocError.{AllocError}
use Rattle.par_model.specs.Plan.{Plan}
use Rattle.par_model.specs.Table.{table_text}
use Rattle.partial_agg.specs.declared.groups.Group.{Group}
use Rattle.result_text.specs.GroupOrder.{line_of}
use Rattle.result_text.specs.Text.{line_record}
use Rattle.result_text.specs.declared.order.GroupRef.{GroupRef}

-- the pieces of a text, one after the other
abbrev pub joined : List (Vec ℕ) → List ℕ
joined pieces = concat (map (λ piece. piece.items) pieces)

-- the text of the lines of some groups, in this order
abbrev pub lines_text : Plan → List Group → List GroupRef → List ℕ
lines_text plan groups refs = table_text (map (line_record plan) (map (line_of (length plan.groups) groups) refs))

-- parts of equal size cover some groups, and each part has the text of its groups, if there was memory for it
pub record AreParts (plan : Plan) (groups : List Group) (refs : List GroupRef) (parts : List (Result (Vec ℕ) AllocError)) : Type 0 where
  pub size : ℕ
  pub enough : length refs ≤ length parts * size
  pub each : (n : ℕ) (d : Result (Vec ℕ) AllocError) → n < length parts → IfOk (get_or parts n d) (λ text. text.items ≡ lines_text plan groups (slice_chunk refs size n))
