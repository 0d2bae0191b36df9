use Rattle.std.proofs.Common.{◌+◌}
use Rattle.csv_rows.proofs.scan.+fn-scan_in_threads-join+arg2+fn-scan_in_threads-join+arg3+scan_in_threads.Given as goal

abbrev pub decreases-join+arg2 : goal.decreases-join+arg2
decreases-join+arg2 g l = (l.low + l.low) + 1

abbrev pub decreases-join+arg3 : goal.decreases-join+arg3
decreases-join+arg3 g l = (l.high + l.high) + 1

abbrev pub decreases-scan_in_threads : goal.decreases-scan_in_threads
decreases-scan_in_threads g l = l.threads + l.threads
