use Rattle.uses_area.proofs.objects.+fill.Given as goal

abbrev pub decreases-fill : goal.decreases-fill
decreases-fill l = l.n
