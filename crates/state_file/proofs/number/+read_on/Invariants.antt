use Rattle.state_file.proofs.number.+read_on.Given as goal

abbrev pub decreases-read_on : goal.decreases-read_on
decreases-read_on l = l.more
