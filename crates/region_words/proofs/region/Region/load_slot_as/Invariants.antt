use Rattle.region_words.proofs.region.Region.load_slot_as.Given as goal

abbrev pub ghosts-load_slot_at : goal.ghosts-load_slot_at
ghosts-load_slot_at g a = record { from = a.at; len = 1 }
