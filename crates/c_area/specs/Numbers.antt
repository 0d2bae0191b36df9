-- The numbers of the codes in C.
use Rattle.std.specs.Prelude.{ℤ, pos, neg_ℤ}
use Rattle.c_area.specs.declared.code.Code.{Code}
use Rattle.c_area.specs.declared.code.Code.TheVariants.{Done, WouldBlock, Absent, Blank, NoMemory, BadSize, BadCallers, NoSpace, NoWord, InUse, StillIn, Stranger}

-- 0 is done, above 0 is an answer, below 0 nothing was changed
abbrev pub number_of : Code → ℤ
number_of Done = pos 0
number_of WouldBlock = pos 1
number_of Absent = pos 3
number_of Blank = neg_ℤ (pos 1)
number_of NoMemory = neg_ℤ (pos 4)
number_of BadSize = neg_ℤ (pos 5)
number_of BadCallers = neg_ℤ (pos 6)
number_of NoSpace = neg_ℤ (pos 9)
number_of NoWord = neg_ℤ (pos 10)
number_of InUse = neg_ℤ (pos 19)
number_of StillIn = neg_ℤ (pos 20)
number_of Stranger = neg_ℤ (pos 32)
