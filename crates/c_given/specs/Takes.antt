-- What a try to take the sending end finds.
use Rattle.c_given.specs.Which.{Which, IsSenderOf}
use Rattle.c_given.specs.declared.head.Found.{Found}
use Rattle.c_given.specs.declared.head.Found.TheVariants.{Sender, NotYet, Taken}

-- the end, of this queue; or none
abbrev pub FoundIs : Which → Found → Type 0
FoundIs w (Sender s) = IsSenderOf w s.sender
FoundIs w NotYet = Unit {0}
FoundIs w Taken = Unit {0}
