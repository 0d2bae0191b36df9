use Rattle.lock_book.proofs.Uses.{folded_parts}
use Rattle.lock_book.proofs.laws.calls_of_all.Goals as goal

pub returns : goal.returns
returns g c = λ op unit laws f callers xs none. folded_parts op unit laws f callers xs none
