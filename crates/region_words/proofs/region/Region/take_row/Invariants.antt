use Rattle.region_words.proofs.region.Region.take_row.Given as goal

abbrev pub ghosts-take_row_at : goal.ghosts-take_row_at
ghosts-take_row_at a = record { from = a.at; len = a.words }
