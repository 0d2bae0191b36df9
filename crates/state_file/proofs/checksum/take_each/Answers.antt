use Rattle.std.proofs.Common.{◌∙◌, ℕ, List, ap, fold}
use Rattle.std.proofs.lemmas.List.{take_all}
use Rattle.state_file.specs.Checksum.{taken_in}
use Rattle.state_file.proofs.checksum.take_each.Goals as goal

pub returns : goal.returns
returns c =
    c.loop-byte.invariant ∙ ap (λ (bs : List ℕ). fold taken_in c.args.start bs) (take_all c.loop-byte.byte-index c.args.bytes.now c.loop-byte-test.false)
