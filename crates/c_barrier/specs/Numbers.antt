-- The numbers of the codes in C.
use Rattle.std.specs.Prelude.{ℤ, pos, neg_ℤ}
use Rattle.c_barrier.specs.declared.code.Code.{Code}
use Rattle.c_barrier.specs.declared.code.Code.TheVariants.{Done, WouldBlock, Waiting, Blank, NoMemory, BadCallers, AlreadyIn, NotIn, Twice, InUse}

-- 0 is done, above 0 is an answer, below 0 nothing was changed
abbrev pub number_of : Code → ℤ
number_of Done = pos 0
number_of WouldBlock = pos 1
number_of Waiting = pos 7
number_of Blank = neg_ℤ (pos 1)
number_of NoMemory = neg_ℤ (pos 4)
number_of BadCallers = neg_ℤ (pos 6)
number_of AlreadyIn = neg_ℤ (pos 12)
number_of NotIn = neg_ℤ (pos 13)
number_of Twice = neg_ℤ (pos 14)
number_of InUse = neg_ℤ (pos 19)
