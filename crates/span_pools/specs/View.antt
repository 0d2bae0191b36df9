-- The superblocks of a pool as its bits, its words and its records show them, and what its parts own.
use Rattle.std.specs.Prelude.{◌≡◌, ◌≢◌, ℕ, zero, suc, ◌+◌, ◌-◌, ◌||◌, ◌/◌, ◌%◌, ◌<◌, ◌≤◌, ◌==◌, ◌⊎◌, Bool, true, false, not, cond, List, [], ◌∷◌, Option, Some, None, is_some, IsSome, unwrap_or}
use Rattle.std.specs.Int.{bit_at}
use Rattle.word_map.specs.WordMap.{WordMap, at, HasJust, Disjoint, is_within, range_of, rest_of, union}
use Rattle.region_words.specs.Parts.{Owned, owned}
use Rattle.free_pages.specs.Area.{mark_words, record_words}
use Rattle.span_pools.specs.declared.layout.Layout.{Layout}
use Rattle.span_pools.specs.Places.{base, place, record_at, superblock_words, superblock_records, IsLayout}
use Rattle.span_pools.specs.Listed.{IsListed}
use Rattle.span_pools.specs.Shape.{IsShape, IsRecords}
use Rattle.span_pools.specs.Legal.{Span, PoolState}

-- whether the bit of page p is set: a superblock of the class begins there
abbrev pub mark_of : Layout → WordMap → ℕ → Bool
mark_of l m p = bit_at (unwrap_or (at m (l.marks + p / 64)) 0) (p % 64) == 1

-- whether the pool owns word k
abbrev pub owns : WordMap → ℕ → Bool
owns m k = is_some (at m k)

-- the value of the first word of object i of the superblock at page p, if the pool owns it
abbrev pub first_word : Layout → WordMap → ℕ → ℕ → Option ℕ
first_word l m p i = at m (place l p i)

-- the answers of a test for n numbers from i on
abbrev pub flags : (ℕ → Bool) → ℕ → ℕ → List Bool
flags live i zero = []
flags live i (suc n) = live i ∷ flags live (suc i) n

-- the objects that are live are those whose words the pool does not own
abbrev pub live_of : Layout → WordMap → ℕ → List Bool
live_of l m p = flags (λ i. not (owns m (place l p i))) 0 l.objects

-- the superblocks that begin in the n pages from p, with what `live` says of each page's objects
abbrev pub spans_of : (ℕ → Bool) → (ℕ → List Bool) → ℕ → ℕ → List Span
spans_of marked live p zero = []
spans_of marked live p (suc n) = cond (marked p) (record { page = p; live = live p } ∷ spans_of marked live (suc p) n) (spans_of marked live (suc p) n)

-- the state that bits and words show, given which superblock is active
abbrev pub state_of : Layout → Option ℕ → WordMap → WordMap → PoolState
state_of l active marks words = record { spans = spans_of (mark_of l marks) (live_of l words) 0 l.pages; active = active }

-- the record of the superblock at page p says which of its objects are free (dsa_area_span of dsa.c: nallocatable,
-- firstfree, ninitialized)
pub record IsRecordOf (l : Layout) (records words : WordMap) (p : ℕ) : Type 0 where
  pub room : ℕ
  pub head : ℕ
  pub used : ℕ
  pub room_is : at records (record_at l p) ≡ Some room
  pub head_is : at records (record_at l p + 1) ≡ Some head
  pub used_is : at records (record_at l p + 2) ≡ Some used
  pub lists : IsListed l.objects (place l p) (first_word l words p) room head used

-- the superblock at page p has a free object, by its record
abbrev pub HasRoom : Layout → WordMap → ℕ → Type 0
HasRoom l records p = (room : ℕ) × (at records (record_at l p) ≡ Some room) × (0 < room)

-- how many objects of the superblock at page p are free, by its record; none if no superblock begins there
abbrev pub room_at : Layout → WordMap → WordMap → ℕ → ℕ
room_at l marks records p = cond {A = ℕ} (mark_of l marks p) (unwrap_or (at records (record_at l p)) 0) 0

-- the sum of the first n numbers
abbrev pub total : (ℕ → ℕ) → ℕ → ℕ
total f zero = 0
total f (suc n) = f n + total f n

-- how many objects of all superblocks are free, by their records
abbrev pub free_objects : Layout → WordMap → WordMap → ℕ
free_objects l marks records = total (room_at l marks records) l.pages

-- the superblock that is remembered as spare has a free object, by its record
abbrev pub IsSpare : Layout → Option ℕ → WordMap → WordMap → Type 0
IsSpare l spare marks records = (p : ℕ) → spare ≡ Some p → 0 < room_at l marks records p

-- object i goes out: the record says so if its words are no longer owned, and those of the others are
abbrev pub IsPopped : ℕ → (ℕ → ℕ) → (ℕ → Option ℕ) → ℕ → ℕ → ℕ → ℕ → Type 0
IsPopped objects place word i room head used = (after : ℕ → Option ℕ) → after i ≡ None → ((j : ℕ) → j ≢ i → after j ≡ word j) → IsListed objects place after room head used

-- only the words of page p's record change their values, and none comes or goes
pub record SameRecords (l : Layout) (p : ℕ) (before after : Owned) : Type 0 where
  pub region : after.region ≡ before.region
  pub keys : (k : ℕ) → owns after.words k ≡ owns before.words k
  pub others : (k : ℕ) → (k < record_at l p) ⊎ (record_at l p + record_words ≤ k) → at after.words k ≡ at before.words k

-- object `index` of page p goes next, and the list and the count of used objects are already those after it
pub record IsNext (l : Layout) (p : ℕ) (records words after : Owned) (room at_word : ℕ) : Type 0 where
  pub index : ℕ
  pub low : index < l.objects
  pub at_is : at_word ≡ place l p index
  pub was_free : owns words.words (place l p index) ≡ true
  pub head : ℕ
  pub used : ℕ
  pub head_is : at after.words (record_at l p + 1) ≡ Some head
  pub used_is : at after.words (record_at l p + 2) ≡ Some used
  pub room_same : at after.words (record_at l p) ≡ at records.words (record_at l p)
  pub popped : IsPopped l.objects (place l p) (first_word l words.words p) index (room - 1) head used
  pub same : SameRecords l p records after

-- object `index` of page p is out, with its words
pub record IsTakenOut (l : Layout) (p : ℕ) (records words records2 words2 part : Owned) (at_word : ℕ) : Type 0 where
  pub index : ℕ
  pub low : index < l.objects
  pub at_is : at_word ≡ place l p index
  pub was_free : owns words.words (place l p index) ≡ true
  pub rest : words2 ≡ owned words.region (rest_of words.words at_word l.size)
  pub range : part ≡ owned words.region (range_of words.words at_word l.size)
  pub same : SameRecords l p records records2
  pub less : (room : ℕ) → at records.words (record_at l p) ≡ Some room → at records2.words (record_at l p) ≡ Some (room - 1)
  pub says : IsRecordOf l records2.words words2.words p

-- object `index` of page p is back, with its words
pub record IsPutBack (l : Layout) (p : ℕ) (records words records2 words2 : Owned) (at_word : ℕ) : Type 0 where
  pub index : ℕ
  pub low : index < l.objects
  pub at_is : at_word ≡ place l p index
  pub was_live : owns words.words (place l p index) ≡ false
  pub region : words2.region ≡ words.region
  pub keys : (k : ℕ) → owns words2.words k ≡ (owns words.words k || is_within at_word l.size k)
  pub others : (k : ℕ) → is_within at_word l.size k ≡ false → at words2.words k ≡ at words.words k
  pub same : SameRecords l p records records2
  pub more : (room : ℕ) → at records.words (record_at l p) ≡ Some room → at records2.words (record_at l p) ≡ Some (room + 1)
  pub says : IsRecordOf l records2.words words2.words p

-- page p's bit has this value now, and no other bit changed
pub record IsMarked (l : Layout) (p : ℕ) (value : Bool) (before after : Owned) : Type 0 where
  pub region : after.region ≡ before.region
  pub bits : HasJust after.words l.marks (mark_words l.pages)
  pub here : mark_of l after.words p ≡ value
  pub others : (q : ℕ) → q ≢ p → mark_of l after.words q ≡ mark_of l before.words q

-- a new superblock's words and records are in, its record is written, and object 0 is out
pub record IsAdmitted (l : Layout) (p : ℕ) (records words control run records2 words2 part : Owned) : Type 0 where
  pub apart : Disjoint records.words control.words
  pub region : records2.region ≡ records.region
  pub keys : (k : ℕ) → owns records2.words k ≡ (owns records.words k || is_within (record_at l p) superblock_records k)
  pub others : (k : ℕ) → is_within (record_at l p) superblock_records k ≡ false → at records2.words k ≡ at records.words k
  pub room_is : at records2.words (record_at l p) ≡ Some (l.objects - 1)
  pub head_is : at records2.words (record_at l p + 1) ≡ Some 0
  pub used_is : at records2.words (record_at l p + 2) ≡ Some 1
  pub rest : words2 ≡ owned words.region (rest_of (union words.words run.words) (base l p) l.size)
  pub range : part ≡ owned words.region (range_of (union words.words run.words) (base l p) l.size)

-- all words of a superblock and its control records are out
pub record IsReleased (l : Layout) (p : ℕ) (records words part records2 words2 run control : Owned) : Type 0 where
  pub apart : Disjoint words.words part.words
  pub rest : words2 ≡ owned words.region (rest_of (union words.words part.words) (base l p) superblock_words)
  pub run_is : run ≡ owned words.region (range_of (union words.words part.words) (base l p) superblock_words)
  pub rest_records : records2 ≡ owned records.region (rest_of records.words (record_at l p) superblock_records)
  pub control_is : control ≡ owned records.region (range_of records.words (record_at l p) superblock_records)

-- The parts of a pool: `marks` has the words of its class's bits, `records` the control records of its superblocks,
-- `words` the words of their free objects and the words after their last objects
pub record IsPool (l : Layout) (active : Option ℕ) (marks records words : Owned) : Type 0 where
  pub records_here : records.region ≡ marks.region
  pub words_here : words.region ≡ marks.region
  pub layout : IsLayout l
  pub bits : HasJust marks.words l.marks (mark_words l.pages)
  pub shape : IsShape l (mark_of l marks.words) (owns words.words)
  pub records_are : IsRecords l (mark_of l marks.words) (owns records.words)
  pub records_say : (p : ℕ) → mark_of l marks.words p ≡ true → IsRecordOf l records.words words.words p
  pub active_marked : (p : ℕ) → active ≡ Some p → mark_of l marks.words p ≡ true
  pub some_active : (p : ℕ) → mark_of l marks.words p ≡ true → IsSome active
  pub settled : (p : ℕ) → mark_of l marks.words p ≡ true → (active ≡ Some p) ⊎ ((i : ℕ) × (i < l.objects) × (owns words.words (place l p i) ≡ false))
