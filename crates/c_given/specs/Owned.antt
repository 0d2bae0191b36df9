-- What it is to have a place in a caller's memory.
use Rattle.std.specs.Prelude.{ℕ, [], Option, None, Some}
use Rattle.std.specs.Coded.{coded_option, coded×, coded_ℕ}
use base.Fml.{Fml, ftrue}
use base.Stored.{Coded}
use denote.Builtin.{u64}
use denote.RawPtr.{Ptr}
use denote.Struct.Lending.{lent_at}
use Rattle.atomic_table.specs.Seated.{TableId, table_id_coded, table_shares}
use Rattle.region_rule.specs.Places.{Ruled}
use Rattle.region_rule.specs.contracts.rule.Known.{the_row as known_row}
use Rattle.c_given.specs.contracts.head.Head.{the_row as head_row}

-- the head of this queue lies at p, shared for good; or nothing
abbrev pub lies_for_good : Ptr → Option head_row.Denot → Fml
lies_for_good p None = ftrue
lies_for_good p (Some x) = lent_at head_row p x []

abbrev pub head_code : Coded (Option head_row.Denot)
head_code = coded_option head_row.coded

-- a region's words lie at w and its slots at p, shared for good, with the number that its rule reads; or nothing
abbrev pub words_lie : Ptr → Ptr → Option (TableId × ℕ) → Fml
words_lie w p None = ftrue
words_lie w p (Some t) = table_shares u64 known_row.coded.code (Ruled t.1) w p t.0 []

abbrev pub table_code : Coded (Option (TableId × ℕ))
table_code = coded_option (coded× table_id_coded coded_ℕ)
