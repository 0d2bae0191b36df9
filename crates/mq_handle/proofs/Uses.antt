-- A queue is new: nothing is left over.
use Rattle.std.proofs.Common.{◌≡◌, [], All, refl, arith}
use Rattle.rel_pointer.specs.Bytes.{AllBytes}
use Rattle.mq_handle.specs.Messages.{left_of}
use Rattle.mq_handle.proofs.Whole.{left_is}

no_messages : All AllBytes []
no_messages k d l = absurd (omega arith)

pub left_nothing : left_of [] ≡ []
left_nothing = left_is [] [] no_messages refl
