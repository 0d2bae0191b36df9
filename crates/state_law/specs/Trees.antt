-- That what files say is so, however they came about.
use Rattle.state_whole.specs.Files.{StateFile}
use Rattle.state_law.specs.Made.{IsMade}
use Rattle.state_law.specs.Sources.{Work}
use Rattle.state_law.specs.Truth.{IsTrueOf}

-- however a file came about, what it says is so
abbrev pub MadeIsTrue : Type 0
MadeIsTrue = (w : Work) (f : StateFile) → IsMade w f → IsTrueOf w f
