use Rattle.state_groups.proofs.group.+is_encoded.Given as goal

abbrev pub decreases-is_encoded : goal.decreases-is_encoded
decreases-is_encoded l = l.columns
