use Rattle.std.proofs.Common.{◌≡◌, [], None}
use Rattle.region_rule.specs.View.{Own}
use Rattle.region_rule.specs.Places.{copying}
use Rattle.region_words.proofs.part.Part.into_copied_seat.Given as goal

abbrev pub ghosts-begin : goal.ghosts-begin
ghosts-begin a = record { from = a.from; len = 0 }

abbrev pub invariant-loop-i : goal.invariant-loop-i
invariant-loop-i l = (l.seat.me ≡ (copying (Own l.fn.self.words None) l.from l.i, [])) × (l.seat.table_id ≡ l.fn.self.region)
