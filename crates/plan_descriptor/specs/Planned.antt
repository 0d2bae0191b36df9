-- A table of contents that has a plan.
use Rattle.std.specs.Prelude.{◌≡◌, ◌<◌, ◌+◌, ℕ, Some, IsSome}
use Rattle.par_model.specs.Plan.{Plan}
use Rattle.plan_descriptor.specs.Descriptor.{IsDescriptor, IsWritable, descriptor_in, size_of}
use Rattle.shm_toc.specs.Table.{place_of, table_of, word_of}
use Rattle.word_map.specs.WordMap.{WordMap, at}

-- the key whose entry has the place of the plan's descriptor
abbrev pub plan_key : ℕ
plan_key = 1

-- the key's entry has the place of the plan's descriptor, whose words are there
pub record HasPlan (words : WordMap) (plan : Plan) : Type 0 where
  pub place : ℕ
  pub found : place_of (table_of words).entries plan_key ≡ Some place
  pub there : (k : ℕ) → k < size_of (word_of words place) → IsSome (at words (place + k))
  pub written : IsDescriptor (descriptor_in words place) plan
  pub writable : IsWritable plan
