-- A queue whose ends came home.
use Rattle.std.specs.Prelude.{◌≡◌, ◌++◌, ℕ, List, true}
use Rattle.mq_handle.specs.Messages.{whole_of}
use Rattle.mq_ring.specs.Ends.{EndsHome}
use Rattle.parallel_ctx.specs.Accounts.{is_over}

-- what is known of a queue that came home: both ends are detached; the messages taken are a beginning of those sent,
-- and all of them if the receiver saw the last
pub record IsQueue (q : EndsHome) : Type 0 where
  pub sender_left : q.sender.gone ≡ true
  pub receiver_left : q.receiver.gone ≡ true
  pub beginning : (rest : List (List ℕ)) × (whole_of q.sender.put ≡ whole_of q.receiver.taken ++ rest)
  pub all : is_over q.receiver ≡ true → whole_of q.receiver.taken ≡ whole_of q.sender.put
