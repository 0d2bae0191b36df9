-- What is true of the leader's side of a worker, and of a worker.
use Rattle.std.specs.Prelude.{◌≡◌, ℕ, ◌+◌, true, false, List, [], ◌++◌, if◌then◌else◌, map, nat_lt}
use Rattle.std.specs.Global.{Vec}
use Rattle.atomic_table.specs.Seated.{TableId}
use Rattle.mq_handle.specs.Messages.{whole_of, left_of}
use Rattle.mq_handle.specs.Receives.{Incoming}
use Rattle.job_queue.specs.declared.job.Done.{Done}
use Rattle.job_queue.specs.declared.lane.Lane.{Lane}
use Rattle.job_queue.specs.declared.queue.Lanes.{Lanes}
use Rattle.job_queue.specs.Jobs.{number_of, done_of, times}

-- the numbers of the jobs whose messages are in these words
abbrev pub jobs_in : List ℕ → List ℕ
jobs_in words = map number_of (whole_of words)

-- the lane's queue is in this region, and its first jobs are those that were sent through it
pub record IsLane (region : TableId) (lane : Lane) : Type 0 where
  pub here : lane.sender.region ≡ region
  pub jobs : (unsent : List ℕ) × (lane.jobs.items ≡ jobs_in lane.sender.end.put ++ unsent)

-- if the lane is open, all its jobs were sent, and the next one may be sent
pub record IsReady (lane : Lane) : Type 0 where
  pub stays : lane.open ≡ true → lane.sender.end.gone ≡ false
  pub fresh : lane.open ≡ true → left_of lane.sender.end.put ≡ []
  pub sent : lane.open ≡ true → lane.jobs.items ≡ jobs_in lane.sender.end.put

-- the end of a worker's queue, from which nothing was taken yet
pub record IsFresh (region : TableId) (q : Incoming) : Type 0 where
  pub here : q.region ≡ region
  pub stays : q.end.gone ≡ false
  pub nothing : jobs_in q.end.taken ≡ []

-- what a worker that began with the end q comes home with: that end, and each job that it took through it, done
pub record IsHome (region : TableId) (q : Incoming) (home : Incoming × Vec Done) : Type 0 where
  pub here : home.0.region ≡ region
  pub ring : home.0.end.ring ≡ q.end.ring
  pub did : home.1.items ≡ map done_of (jobs_in home.0.end.taken)

-- a lane and the end of its queue for the worker, which have done nothing yet
pub record IsNew (region : TableId) (l : Lane) (q : Incoming) : Type 0 where
  pub lane : IsLane region l
  pub ready : IsReady l
  pub idle : l.jobs.items ≡ []
  pub worker : IsFresh region q
  pub one_ring : l.sender.end.ring ≡ q.end.ring

-- both lanes, which are still those of the same queues
pub record AreLanes (region : TableId) (old new : Lanes) : Type 0 where
  pub one : IsLane region new.one
  pub one_ring : new.one.sender.end.ring ≡ old.one.sender.end.ring
  pub other : IsLane region new.other
  pub other_ring : new.other.sender.end.ring ≡ old.other.sender.end.ring

-- each job below count, and no other, is one worker's, once
abbrev pub AreDealt : ℕ → Lanes → Type 0
AreDealt count lanes = (n : ℕ) → times n lanes.one.jobs.items + times n lanes.other.jobs.items ≡ (if nat_lt n count then 1 else 0)
