use Rattle.std.proofs.Common.{◌≡◌, ◌++◌, take}
use Rattle.std.specs.List.{flat_map}
use Rattle.table_form.specs.Tsv.{tsv_byte}
use Rattle.table_form.proofs.tsv.put_escaped.Given as goal

-- the bytes so far
abbrev pub invariant-loop-byte : goal.invariant-loop-byte
invariant-loop-byte l = l.out.items ≡ l.fn.out.items ++ flat_map tsv_byte (take l.byte-index l.field)
