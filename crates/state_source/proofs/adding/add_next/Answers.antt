use Rattle.std.proofs.Common.{ℕ, List, subst, sym}
use Rattle.state_head.specs.Head.{subject_of}
use Rattle.state_head.specs.Words.{keys_of}
use Rattle.state_source.specs.Adding.{IsFaultOf}
use Rattle.state_source.specs.declared.adding.SourceFault.TheVariants as fault
use Rattle.state_source.proofs.Adds.{no_load}
use Rattle.state_source.proofs.Rests.{of_read}
use Rattle.state_whole.specs.Sums.{AreSummed}
use Rattle.state_whole.specs.declared.files.Sum.{Sum}
use Rattle.state_source.proofs.adding.add_next.Goals as goal

pub returns-in-Ok-Added-clause-next : goal.returns-in-Ok-Added-clause-next
returns-in-Ok-Added-clause-next g c =
    let inv = c.loop.invariant in
    let held = rw c.in-Ok-Added.field-0-is at c.in-Ok-Added.ensures.held in
    record {
      text = c.loop.ahead.bytes;
      reads = inv.reads;
      added = λ m cover is. held.0 m cover (subst (λ (s : Sum). AreSummed m cover s) (sym inv.same) is);
    }

pub returns-in-Err-clause-refused : goal.returns-in-Err-clause-refused
returns-in-Err-clause-refused g c = λ m cover is.
    let inv = c.loop.invariant in
    let before = subst (λ (s : Sum). AreSummed m cover s) (sym inv.same) is in
    of_read (g.S.Source.left c.args.source.now) (g.S.Source.left c.loop.source) c.args.ahead.now.bytes c.loop.ahead.bytes (λ (bs : List ℕ). IsFaultOf c.args.shape.now (subject_of c.args.whole) (keys_of c.args.range) m bs c.in-Err.why) inv.reads
    (λ more. c.in-Err.ensures.refused m cover more before)

pub returns-in-Err-read_on-clause-refused : goal.returns-in-Err-read_on-clause-refused
returns-in-Err-read_on-clause-refused g c = λ m cover is.
    no_load c.args.shape.now (subject_of c.args.whole) (keys_of c.args.range) m (g.S.Source.left c.args.source.now) c.args.ahead.now.bytes c.in-Err-read_on.why c.in-Err-read_on.ensures.why

pub returns-clause-refused : goal.returns-clause-refused
returns-clause-refused g c = λ m cover is. no_load c.args.shape.now (subject_of c.args.whole) (keys_of c.args.range) m (g.S.Source.left c.args.source.now) c.args.ahead.now.bytes fault.Memory tt
