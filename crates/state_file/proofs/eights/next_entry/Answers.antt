use Rattle.std.proofs.Common.{◌∙◌, arith, refl}
use Rattle.state_file.proofs.Slices.{first_entry, later_entry}
use Rattle.state_file.proofs.eights.next_entry.Goals as goal

pub returns-then-at-lt-BYTES : goal.returns-then-at-lt-BYTES
returns-then-at-lt-BYTES c = c.taken_in.ensures ∙ first_entry c.args.at c.if-at-lt-BYTES.true

pub returns-else-at-lt-BYTES : goal.returns-else-at-lt-BYTES
returns-else-at-lt-BYTES c = c.taken_in-else-at-lt-BYTES.ensures ∙ later_entry c.args.at c.args.slices.now _ (omega (arith, c.if-at-lt-BYTES.false)) c.requires.slices refl
