-- What a call of a barrier's pass and its meetings with the others leave.
use Rattle.std.specs.Prelude.{◌≡◌, List}
use Rattle.std.specs.List.{AllZip}
use Rattle.lock_book.specs.History.{StartsWith}
use Rattle.par_barrier.specs.Shown.{Belongs, Called, History, history_of, number_of, own_of}
use Rattle.par_barrier.specs.declared.barrier.Barrier.{Barrier}
use Rattle.par_barrier.specs.declared.barrier.BarrierPass.{BarrierPass}
use Rattle.par_barrier.specs.declared.history.BarrierCall.{BarrierCall}
use Rattle.par_barrier.specs.declared.history.BarrierReply.{BarrierReply}

-- a pass of the barrier has seen this history
pub record IsAlike (b : Barrier) (seen : History) (p : BarrierPass) : Type 0 where
  pub own : Belongs b p
  pub history : history_of p ≡ seen

-- a pass of the barrier has seen a beginning of this history
pub record IsBehind (b : Barrier) (seen : History) (p : BarrierPass) : Type 0 where
  pub own : Belongs b p
  pub begins : StartsWith seen (history_of p)

-- a pass of the barrier, which was `old`, is `new`: it has seen this history, and its own calls stay
pub record Meets (b : Barrier) (seen : History) (old new : BarrierPass) : Type 0 where
  pub own : Belongs b new
  pub number : number_of new ≡ number_of old
  pub history : history_of new ≡ seen
  pub mine : own_of new ≡ own_of old

-- the call of a pass, which was `old` and then `mid`, and the meetings after it
pub record IsCalledAmong (b : Barrier) (old mid new : BarrierPass) (before before' after after' : List BarrierPass) (call : BarrierCall) (r : BarrierReply) : Type 0 where
  pub own : Belongs b mid
  pub number : number_of mid ≡ number_of old
  pub called : Called old mid call r
  pub pass : Meets b (history_of mid) mid new
  pub those_before : AllZip (Meets b (history_of mid)) before before'
  pub those_after : AllZip (Meets b (history_of mid)) after after'
