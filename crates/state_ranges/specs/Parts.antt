-- The groups of files in ranges of keys.
use Rattle.std.specs.Prelude.{◌≡◌, ◌<◌, Err, ℕ, List, All, MatchResult, Ok, length, map, slice_index_or}
use Rattle.std.specs.Global.{Vec}
use Rattle.partial_agg.specs.Groups.{GroupsByKey}
use Rattle.state_blocks.specs.Blocks.{Group, IsBlock, blocks_bytes}
use Rattle.state_body.specs.Body.{groups_of}
use Rattle.state_head.specs.Words.{Keys, keys_of}
use Rattle.state_keep.specs.declared.keep.KeepFault.{KeepFault}
use Rattle.state_keep.specs.declared.keep.KeepFault.TheVariants as fault
use Rattle.state_order.specs.Order.{Rise}
use Rattle.state_order.specs.Ranges.{AreWithin}
use Rattle.state_ranges.specs.declared.maps.RangeMap.{RangeMap}
use Rattle.state_whole.specs.Adding.{kept_sum, key_of}
use Rattle.state_whole.specs.declared.adding.Kept.{Kept}
use Rattle.state_whole.specs.declared.adding.Shape.{Shape}

-- the bytes of a key
abbrev pub bytes_of : Vec ℕ → List ℕ
bytes_of key = key.items

-- the range of a map
abbrev pub ends_of : RangeMap → Keys
ends_of r = record { low = r.low.items; high = r.high.items }

-- a map has those of all groups that lie in its range, by this many columns
pub record IsRangeOf (columns : ℕ) (m : GroupsByKey) (r : RangeMap) : Type 0 where
  pub columns_are : r.columns ≡ columns
  pub are_within : AreWithin columns (ends_of r) m r.map

abbrev pub AreRangesOf : ℕ → GroupsByKey → List RangeMap → Type 0
AreRangesOf columns m ranges = All (IsRangeOf columns m) ranges

-- the groups of a file that lie in a range are added to its map, if there was memory for them
pub record IsDone (shape : Shape) (bytes : List ℕ) (old new : RangeMap) : Type 0 where
  pub columns_are : new.columns ≡ old.columns
  pub ends_are : ends_of new ≡ ends_of old
  pub kept : Kept
  pub kept_columns : kept.columns ≡ old.columns
  pub kept_ends : keys_of kept.range ≡ ends_of old
  pub filled : (bs : List (List Group)) → All (IsBlock shape.columns shape.kinds.now) bs → Rise kept.columns (map key_of (groups_of bs)) → bytes ≡ blocks_bytes shape.kinds.now bs
      → MatchResult new.filled (λ done. new.map ≡ kept_sum shape kept old.map (groups_of bs)) (λ why. why ≡ fault.Memory)

-- likewise of all ranges, in order
pub record AreDone (shape : Shape) (bytes : List ℕ) (olds news : List RangeMap) : Type 0 where
  pub count : length news ≡ length olds
  pub each : (k : ℕ) (d : RangeMap) → k < length olds → IsDone shape bytes (slice_index_or olds k d) (slice_index_or news k d)

-- there was memory
abbrev pub IsFilled : RangeMap → Type 0
IsFilled r = r.filled ≡ Ok tt

-- a range has this fault
pub record HasFault (ranges : List RangeMap) (why : KeepFault) : Type 0 where
  pub k : ℕ
  pub or : RangeMap
  pub before : k < length ranges
  pub has : (slice_index_or ranges k or).filled ≡ Err why
