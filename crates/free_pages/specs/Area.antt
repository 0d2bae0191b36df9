-- Where the words of an area lie, before its pages: a head, whose first word has the number of pages; a run word for
-- each page; a control record for each page; and for each size class a bit for each page, in whole words. (dsa.c has
-- its control object, the page map and freepage.c's manager at the head of a segment; this order is our own.)
use Rattle.std.specs.Prelude.{◌≡◌, ℕ, ◌+◌, ◌*◌, ◌-◌, ◌/◌, Bool, true, false, Option, Some, None}
use Rattle.atomic_table.specs.Seated.{TableId}
use Rattle.word_map.specs.WordMap.{HasJust}
use Rattle.region_words.specs.Parts.{Owned}

-- the words of a page of 4,096 bytes (FPM_PAGE_SIZE of freepage.h)
abbrev pub page_words : ℕ
page_words = 512

-- the words at the head of an area
abbrev pub head_words : ℕ
head_words = 64

-- the words of a page's control record
abbrev pub record_words : ℕ
record_words = 7

-- the pages of a superblock (DSA_PAGES_PER_SUPERBLOCK of dsa.c)
abbrev pub superblock_pages : ℕ
superblock_pages = 16

-- how many size classes have bits of the pages
abbrev pub class_count : ℕ
class_count = 36

-- the number after the last class's; the classes are numbered from 2
abbrev pub class_end : ℕ
class_end = 38

-- the words of one class's bits, 64 in a word
abbrev pub mark_words : ℕ → ℕ
mark_words pages = (pages + 63) / 64

-- the words of the run words and the control records
abbrev pub control_words : ℕ → ℕ
control_words pages = 8 * pages

-- the words between the first run word and page 0
abbrev pub front : ℕ → ℕ
front pages = control_words pages + class_count * mark_words pages

-- the words of an area of this many pages
abbrev pub area_size : ℕ → ℕ
area_size pages = head_words + front pages + page_words * pages

-- the first word of page 0's control record, if page 0 begins at word `first`
abbrev pub records_at : ℕ → ℕ → ℕ
records_at first pages = first - front pages + pages

-- the first word of a class's bits
abbrev pub marks_at : ℕ → ℕ → ℕ → ℕ
marks_at first pages class = first - (class_end - class) * mark_words pages

-- the control records of n pages from page `from`, if they went with them
abbrev pub HasRecords : TableId → ℕ → ℕ → ℕ → ℕ → Bool → Option Owned → Type 0
HasRecords region first pages from n true (Some o) = (o.region ≡ region) × HasJust o.words (records_at first pages + record_words * from) (record_words * n)
HasRecords region first pages from n true None = ⊥
HasRecords region first pages from n false (Some o) = ⊥
HasRecords region first pages from n false None = Unit {0}
