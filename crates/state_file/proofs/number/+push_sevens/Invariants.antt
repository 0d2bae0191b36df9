use Rattle.state_file.proofs.number.+push_sevens.Given as goal

abbrev pub decreases-push_sevens : goal.decreases-push_sevens
decreases-push_sevens l = l.more
