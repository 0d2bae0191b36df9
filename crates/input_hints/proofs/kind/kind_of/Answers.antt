use Rattle.std.proofs.Common.{◌∙◌, ℕ, ap, length, take}
use Rattle.std.proofs.Math.Nat.{min_comm}
use Rattle.std.proofs.lemmas.List.{take_min}
use Rattle.input_hints.specs.Kinds.{kind_by}
use Rattle.input_hints.proofs.kind.kind_of.Goals as goal

pub returns : goal.returns
returns c =
    let bytes = c.args.bytes.now in
    c.kind_by.ensures ∙ ap kind_by (ap (λ (n : ℕ). take n bytes) (c.min.ensures ∙ min_comm (length bytes) 16) ∙ take_min 16 bytes)
