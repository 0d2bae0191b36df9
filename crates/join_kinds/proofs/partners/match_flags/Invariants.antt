use Rattle.std.proofs.Common.{take}
use Rattle.join_kinds.specs.Partners.{HasFlags}
use Rattle.join_kinds.proofs.partners.match_flags.Given as goal

abbrev pub invariant-loop-pair : goal.invariant-loop-pair
invariant-loop-pair l = HasFlags l.side (take l.pair-index l.pairs) l.rows l.flags.items
