use Rattle.std.proofs.Common.{◌≡◌, ◌∷◌, Ok, map}
use Rattle.result_text.proofs.parts.behind.Given as goal

abbrev pub invariant-loop-part : goal.invariant-loop-part
invariant-loop-part l = map Ok l.pieces.items ≡ Ok l.fn.first ∷ l.yielded
