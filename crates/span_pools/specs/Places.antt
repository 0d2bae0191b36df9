-- Where the superblocks of one class, their objects and their records lie. (A superblock of dsa.c has 16 pages, too;
-- its records are in objects of a separate class, and here in the control records of its pages.)
use Rattle.std.specs.Prelude.{ℕ, ◌+◌, ◌*◌, ◌-◌, ◌/◌, ◌≤◌, ◌<◌, Bool}
use Rattle.word_map.specs.WordMap.{is_within}
use Rattle.free_pages.specs.Area.{page_words, record_words, superblock_pages, mark_words}
use Rattle.span_pools.specs.declared.layout.Layout.{Layout}

-- the words of a superblock
abbrev pub superblock_words : ℕ
superblock_words = superblock_pages * page_words

-- the words of its control records
abbrev pub superblock_records : ℕ
superblock_records = superblock_pages * record_words

-- the first word of page p
abbrev pub base : Layout → ℕ → ℕ
base l p = l.first + page_words * p

-- the first word of object i of the superblock at page p
abbrev pub place : Layout → ℕ → ℕ → ℕ
place l p i = base l p + l.size * i

-- the first word of page p's control record. A superblock's first record has in its first three words how many objects
-- are free, the place of the first object of the list of free ones or 0, and how many objects were used so far
abbrev pub record_at : Layout → ℕ → ℕ
record_at l p = l.records + record_words * p

-- whether word k is one of the superblock at page p
abbrev pub covers : Layout → ℕ → ℕ → Bool
covers l p k = is_within (base l p) superblock_words k

-- the number of the object of the superblock at page p that has word k
abbrev pub object_of : Layout → ℕ → ℕ → ℕ
object_of l p k = (k - base l p) / l.size

-- the numbers fit together, and into a region
pub record IsLayout (l : Layout) : Type 0 where
  pub size : 1 ≤ l.size
  pub some : 2 ≤ l.objects
  pub fits : l.size * l.objects ≤ superblock_words
  pub valid : 0 < l.records
  pub records : l.records + record_words * l.pages ≤ l.marks
  pub marks : l.marks + mark_words l.pages ≤ l.first
  pub low : l.first + page_words * l.pages ≤ 67108864
