-- A source and a sink in memory: what a caller sees of them, and what one call does.
use Rattle.std.specs.Prelude.{◌==◌, ◌||◌, ◌++◌, ◌-◌, ℕ, List, Bool, take, drop, length, min, nat_le, if◌then◌else◌}
use Rattle.std.specs.List.{list_any}
use Rattle.par_io.specs.Faults.{one_more}

-- a source: the bytes that are left, the most that a call gives, the numbers of the calls that fail,
-- the number of calls made and that of faults
pub record Given : Type 0 where
  pub left : List ℕ
  pub piece : ℕ
  pub fail : List ℕ
  pub calls : ℕ
  pub faults : ℕ

-- a sink: the bytes that it took, how many it has room for in all, the most that a call takes, the
-- numbers of the calls that fail, the number of calls made and that of faults
pub record Kept : Type 0 where
  pub taken : List ℕ
  pub room : ℕ
  pub piece : ℕ
  pub fail : List ℕ
  pub calls : ℕ
  pub faults : ℕ

-- whether the call after `calls` others is one of those that fail
abbrev pub is_listed : List ℕ → ℕ → Bool
is_listed fail calls = list_any (λ number. number == one_more calls) fail

-- whether the next read fails
abbrev pub read_fails : Given → Bool
read_fails s = is_listed s.fail s.calls

-- how many bytes the next read gives to a buffer of this size
abbrev pub read_count : Given → ℕ → ℕ
read_count s size = min (min (length s.left) s.piece) size

-- the source after a read into a buffer of this size
abbrev pub after_read : Given → ℕ → Given
after_read s size =
    if read_fails s then record s { calls = one_more s.calls; faults = one_more s.faults }
    else record s { left = drop (read_count s size) s.left; calls = one_more s.calls }

-- whether the next write fails: its number is listed, or the room is used up
abbrev pub write_fails : Kept → Bool
write_fails s = is_listed s.fail s.calls || nat_le s.room (length s.taken)

-- how many bytes of a piece of this size the next write takes
abbrev pub write_count : Kept → ℕ → ℕ
write_count s size = min (min (s.room - length s.taken) s.piece) size

-- the sink after a write of these bytes
abbrev pub after_write : Kept → List ℕ → Kept
after_write s bytes =
    if write_fails s then record s { calls = one_more s.calls; faults = one_more s.faults }
    else record s { taken = s.taken ++ take (write_count s (length bytes)) bytes; calls = one_more s.calls }
