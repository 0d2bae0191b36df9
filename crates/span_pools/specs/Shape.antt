-- Which words a pool owns, given which pages begin a superblock.
use Rattle.std.specs.Prelude.{◌≡◌, ℕ, ◌+◌, ◌<◌, ◌≤◌, Bool, true}
use Rattle.word_map.specs.WordMap.{is_within}
use Rattle.free_pages.specs.Area.{superblock_pages}
use Rattle.span_pools.specs.declared.layout.Layout.{Layout}
use Rattle.span_pools.specs.Places.{place, record_at, covers, object_of, superblock_records}

-- Superblocks do not overlap. The pool owns only words of superblocks: of each object all or none, and each word after
-- the last object. The objects whose words it does not own are live
pub record IsShape (l : Layout) (marked own : ℕ → Bool) : Type 0 where
  pub inside : (p : ℕ) → marked p ≡ true → p + superblock_pages ≤ l.pages
  pub apart : (p q : ℕ) → marked p ≡ true → marked q ≡ true → p < q → p + superblock_pages ≤ q
  pub within : (k : ℕ) → own k ≡ true → (p : ℕ) × (marked p ≡ true) × (covers l p k ≡ true)
  pub objects : (p k : ℕ) → marked p ≡ true → covers l p k ≡ true → object_of l p k < l.objects → own k ≡ own (place l p (object_of l p k))
  pub tail : (p k : ℕ) → marked p ≡ true → covers l p k ≡ true → l.objects ≤ object_of l p k → own k ≡ true

-- the pool owns just the control records of its superblocks
pub record IsRecords (l : Layout) (marked own : ℕ → Bool) : Type 0 where
  pub within : (k : ℕ) → own k ≡ true → (p : ℕ) × (marked p ≡ true) × (is_within (record_at l p) superblock_records k ≡ true)
  pub all : (p k : ℕ) → marked p ≡ true → is_within (record_at l p) superblock_records k ≡ true → own k ≡ true
