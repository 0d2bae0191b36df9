use Rattle.std.proofs.Common.{map}
use Rattle.lock_book.proofs.shelf.Shelf.new.Given as goal

abbrev pub ghost-of : goal.ghost-of
ghost-of g a = λ v. map (λ x. (g.T.Kept.name x, g.T.Kept.state x)) v.items
