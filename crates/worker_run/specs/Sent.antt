-- What a worker's sends do to the sending end of a queue.
use Rattle.std.specs.Prelude.{◌≡◌, ◌≤◌, ◌-◌, ◌++◌, ℕ, List, [], false, drop, map as map_list, replicate}
use Rattle.std.specs.FinMap as map
use Rattle.std.specs.List.{AllByRecursion}
use Rattle.std.specs.List.Sorted.{IsPermutation}
use Rattle.mq_handle.specs.Messages.{left_of, whole_of}
use Rattle.par_model.specs.Aggregate.{no_values}
use Rattle.partial_agg.specs.Groups.{GroupsByKey}
use Rattle.partial_agg.specs.declared.groups.Group.{Group as Lent}
use Rattle.ring_rule.specs.Ring.{Sending}
use Rattle.tuple_codec.specs.Tuple.{IsTuple, tuple_bytes}
use Rattle.gather_law.specs.Tuples.{Group}

-- ---- messages

-- nothing was put on the queue, no send found its receiver gone, it is open and takes messages of this length
pub record IsFreshQueue (longest : ℕ) (s : Sending) : Type 0 where
  pub put : s.put ≡ []
  pub stays : s.gone ≡ false
  pub unseen : s.flag_value ≡ 0
  pub room : longest ≤ s.ring.max

-- the end is open, has no part of a message, and takes messages of this length
pub record IsReady (longest : ℕ) (s : Sending) : Type 0 where
  pub stays : s.gone ≡ false
  pub fresh : left_of s.put ≡ []
  pub room : longest ≤ s.ring.max

-- these messages were sent, whole, and the end is open
pub record HasSent (old new : Sending) (messages : List (List ℕ)) : Type 0 where
  pub ring : new.ring ≡ old.ring
  pub stays : new.gone ≡ false
  pub fresh : left_of new.put ≡ []
  pub sent : whole_of new.put ≡ whole_of old.put ++ messages

-- a send found that the receiver is gone; before it these messages were sent
pub record FoundGone (old new : Sending) (messages : List (List ℕ)) : Type 0 where
  pub ring : new.ring ≡ old.ring
  pub stays : new.gone ≡ false
  pub flag : new.flag_value ≡ 1
  pub sent : whole_of new.put ≡ whole_of old.put ++ messages

-- ---- groups

-- a group that has zeros past this many slots
abbrev pub HasZeros : ℕ → Group → Type 0
HasZeros slots group = drop slots group.1.slots ≡ replicate (8 - slots) no_values

-- groups where they lie, each as a key and its aggregates
abbrev pub pairs_of : List Lent → List Group
pairs_of groups = map_list (λ group. (group.key, group.state)) groups

-- groups as tuples with this many slots
abbrev pub tuples_of : ℕ → List Group → List (List ℕ)
tuples_of slots groups = map_list (λ group. tuple_bytes group.0 group.1 slots) groups

-- each of the groups has a tuple with this many slots
abbrev pub AreWritten : ℕ → List Group → Type 0
AreWritten slots groups = AllByRecursion (λ group. IsTuple group.0 group.1 slots) groups

-- these groups were sent, one tuple each
pub record HasSentThese (slots : ℕ) (groups : List Group) (old new : Sending) : Type 0 where
  pub written : AreWritten slots groups
  pub sent : HasSent old new (tuples_of slots groups)

-- all groups of a map were sent, each once, in any order
pub record HasSentAll (slots : ℕ) (groups : GroupsByKey) (old new : Sending) : Type 0 where
  pub done : List Group
  pub all : IsPermutation (map.entries groups) done
  pub these : HasSentThese slots done old new

-- all groups of a map were sent, and the map is empty
pub record HasSentGroups (slots : ℕ) (groups left : GroupsByKey) (old new : Sending) : Type 0 where
  pub empty : left ≡ map.empty
  pub all : HasSentAll slots groups old new

-- some groups were sent, and then a send found that the receiver is gone
pub record StoppedSending (slots : ℕ) (old new : Sending) : Type 0 where
  pub done : List Group
  pub written : AreWritten slots done
  pub found : FoundGone old new (tuples_of slots done)
