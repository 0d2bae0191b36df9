-- What is true while jobs are handed out.
use Rattle.std.proofs.Common.{◌≡◌, ◌∙◌, ℕ, ◌+◌, ◌++◌, ◌∷◌, []}
use Rattle.atomic_table.specs.Seated.{TableId}
use Rattle.job_queue.specs.declared.lane.Lane.{Lane}
use Rattle.job_queue.specs.declared.queue.Lanes.{Lanes}
use Rattle.job_queue.specs.Lanes.{AreDealt, AreLanes, IsLane, IsReady}
use Rattle.job_queue.proofs.Numbers.{next_one, next_other}

-- the jobs below k are dealt, and the next one may be sent
abbrev pub AreHanded : TableId → Lanes → Lanes → ℕ → Type 0
AreHanded region old new k = record { lanes : AreLanes region old new; one : IsReady new.one; other : IsReady new.other; dealt : AreDealt k new }

pub handed_one : (region : TableId) (old l : Lanes) (k : ℕ) (one : Lane) → AreHanded region old l k → IsLane region one × IsReady one → one.sender.end.ring ≡ l.one.sender.end.ring → one.jobs.items ≡ l.one.jobs.items ++ k ∷ []
    → AreHanded region old (record { one = one; other = l.other }) (k + 1)
handed_one region old l k one i is ring jobs = record {
  lanes = record { one = is.0; one_ring = ring ∙ i.lanes.one_ring; other = i.lanes.other; other_ring = i.lanes.other_ring };
  one = is.1;
  other = i.other;
  dealt = λ n. next_one n k l.one.jobs.items l.other.jobs.items one.jobs.items (i.dealt n) jobs;
}

pub handed_other : (region : TableId) (old l : Lanes) (k : ℕ) (other : Lane) → AreHanded region old l k → IsLane region other × IsReady other → other.sender.end.ring ≡ l.other.sender.end.ring → other.jobs.items ≡ l.other.jobs.items ++ k ∷ []
    → AreHanded region old (record { one = l.one; other = other }) (k + 1)
handed_other region old l k other i is ring jobs = record {
  lanes = record { one = i.lanes.one; one_ring = i.lanes.one_ring; other = is.0; other_ring = ring ∙ i.lanes.other_ring };
  one = i.one;
  other = is.1;
  dealt = λ n. next_other n k l.one.jobs.items l.other.jobs.items other.jobs.items (i.dealt n) jobs;
}
