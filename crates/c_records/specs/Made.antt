-- What the first caller of a new table and a further one are, and when there is no further one.
use Rattle.std.specs.Prelude.{◌≡◌, ℕ, ◌+◌, ◌<◌, ◌⊎◌, [], length, Result, Ok, Err}
use Rattle.lock_book.specs.Shown.{mine_of, number_of, seen_of}
use Rattle.dshash_parts.specs.Tables.{callers_of, seed_of}
use Rattle.std_alloc.specs.Arc.{arc_value}
use Rattle.c_records.specs.Shares.{words_of}
use Rattle.c_records.specs.Tries.{Stays}
use Rattle.c_table.specs.declared.code.Code.{Code}
use Rattle.c_table.specs.declared.code.Code.TheVariants.{BadCallers, NoMemory, NoSpace}
use Rattle.c_records.specs.declared.shared.Share.{Share}

-- the one caller that has a share of a table for this many callers, with this seed: the last by its number, has seen
-- nothing, and has all words
pub record IsFirst (callers words seed : ℕ) (s : Share) : Type 0 where
  pub callers_are : callers_of (arc_value s.shared).table ≡ callers
  pub seed_is : seed_of (arc_value s.shared).table ≡ seed
  pub others : length s.others.items + 1 ≡ callers
  pub words_are : (s.reserve.left ≡ words) × (words_of s ≡ words)
  pub number : number_of s.pass + 1 ≡ callers
  pub fresh : (i : ℕ) → (seen_of s.pass i ≡ []) × (mine_of s.pass i ≡ [])

-- A caller whose share was s and is t was asked for a further one with this many words. That one has a share of the
-- same table with these words, which are no longer the first one's, has another number than the first one and than all
-- that are to come, and has seen and done nothing; or all callers have shares; or the first one has not that many
-- words; or there is no memory. The first one has seen nothing new
abbrev pub IsFurther : ℕ → Share → Share → Result Share Code → Type 0
IsFurther words s t (Ok u) = Stays s t × (t.pass ≡ s.pass) × (arc_value u.shared ≡ arc_value s.shared) × (u.reserve.left ≡ words) × (s.reserve.left ≡ t.reserve.left + words) × (words_of u ≡ words) × (words_of s ≡ words_of t + words) × (length s.others.items ≡ length t.others.items + 1) × (u.others.items ≡ []) × (number_of u.pass ≡ length t.others.items) × ((i : ℕ) → (seen_of u.pass i ≡ []) × (mine_of u.pass i ≡ []))
IsFurther words s t (Err BadCallers) = (t ≡ s) × (s.others.items ≡ [])
IsFurther words s t (Err NoSpace) = (t ≡ s) × ((words ≡ 0) ⊎ (s.reserve.left < words))
IsFurther words s t (Err NoMemory) = t ≡ s
IsFurther words s t (Err code) = ⊥
