-- The numbers of the codes in C.
use Rattle.std.specs.Prelude.{ℤ, pos, neg_ℤ}
use Rattle.c_table.specs.declared.code.Code.{Code}
use Rattle.c_table.specs.declared.code.Code.TheVariants.{Done, WouldBlock, Absent, Grown, Blank, NoMemory, BadSize, BadCallers, NoSpace, ShortBuffer, InUse}

-- 0 is done, above 0 is an answer, below 0 nothing was done to the key
abbrev pub number_of : Code → ℤ
number_of Done = pos 0
number_of WouldBlock = pos 1
number_of Absent = pos 3
number_of Grown = pos 4
number_of Blank = neg_ℤ (pos 1)
number_of NoMemory = neg_ℤ (pos 4)
number_of BadSize = neg_ℤ (pos 5)
number_of BadCallers = neg_ℤ (pos 6)
number_of NoSpace = neg_ℤ (pos 9)
number_of ShortBuffer = neg_ℤ (pos 18)
number_of InUse = neg_ℤ (pos 19)
