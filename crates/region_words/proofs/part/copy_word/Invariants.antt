use Rattle.region_words.proofs.part.copy_word.Given as goal

abbrev pub ghosts-copy_word_at : goal.ghosts-copy_word_at
ghosts-copy_word_at a = record { from = a.at; len = 1 }
