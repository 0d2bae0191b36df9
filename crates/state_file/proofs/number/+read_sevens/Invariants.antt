use Rattle.state_file.proofs.number.+read_sevens.Given as goal

abbrev pub decreases-read_sevens : goal.decreases-read_sevens
decreases-read_sevens l = l.more
