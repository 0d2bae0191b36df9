-- The numbers of the codes in C.
use Rattle.std.specs.Prelude.{ℤ, pos, neg_ℤ}
use Rattle.c_queue.specs.declared.code.Code.{Code}
use Rattle.c_queue.specs.declared.code.Code.TheVariants.{Done, WouldBlock, Detached, Blank, OtherKind, NoMemory, BadSize, TooLong, OtherMessage, Gone, ShortBuffer, InUse, StillIn, Taken}

-- 0 is done, above 0 is an answer, below 0 nothing was changed
abbrev pub number_of : Code → ℤ
number_of Done = pos 0
number_of WouldBlock = pos 1
number_of Detached = pos 2
number_of Blank = neg_ℤ (pos 1)
number_of OtherKind = neg_ℤ (pos 2)
number_of NoMemory = neg_ℤ (pos 4)
number_of BadSize = neg_ℤ (pos 5)
number_of TooLong = neg_ℤ (pos 7)
number_of OtherMessage = neg_ℤ (pos 8)
number_of Gone = neg_ℤ (pos 17)
number_of ShortBuffer = neg_ℤ (pos 18)
number_of InUse = neg_ℤ (pos 19)
number_of StillIn = neg_ℤ (pos 20)
number_of Taken = neg_ℤ (pos 21)
