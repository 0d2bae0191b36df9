use Rattle.std.proofs.Common.{arith}
use Rattle.par_io.proofs.Facts.{filled-more}
use Rattle.par_io.proofs.whole.read_whole.Goals as goal

pub reads-preserved : goal.reads-preserved
reads-preserved g c =
    let inv = c.reads.invariant in
    let read = c.in_ok-count.ensures in
    record {
      within = read.fits;
      most = read.most;
      read = filled-more _ _ _ c.reads.bytes.items c.read_more.new.bytes.items c.reads.filled c.in_ok-count.count read.front inv.read read.read;
      faults = omega (arith, inv.faults, read.faults);
    }
