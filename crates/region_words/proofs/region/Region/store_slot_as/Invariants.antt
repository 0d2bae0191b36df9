use Rattle.region_words.proofs.region.Region.store_slot_as.Given as goal

abbrev pub ghosts-store_slot_at : goal.ghosts-store_slot_at
ghosts-store_slot_at g a = record { from = a.at; len = 1 }
