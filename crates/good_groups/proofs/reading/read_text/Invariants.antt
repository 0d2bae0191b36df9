use Rattle.std.proofs.Common.{Some}
use Rattle.good_groups.proofs.reading.read_text.Given as goal

-- the reading that begins, over the reference that the source is lent by
abbrev pub ghosts-read_rows : goal.ghosts-read_rows
ghosts-read_rows g a = record { start = Some (record { query = a.rules.plan.now; most = a.rules.most; from = g.S.Source.left a._begun.value; name = a.source.ghost_name }) }
