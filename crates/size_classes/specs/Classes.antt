-- The size classes of a shared area. dsa.c has the form of the table; the sizes are this project's own choice.
use Rattle.std.specs.Prelude.{ℕ, ◌-◌, ◌/◌, ◌≤◌, cond, leb, List, [], ◌∷◌, slice_index}

-- the bytes of an object of each class, from class 2 on
abbrev pub sizes : List ℕ
sizes = 8 ∷ 16 ∷ 24 ∷ 32 ∷ 40 ∷ 48 ∷ 56 ∷ 64 ∷ 80 ∷ 96 ∷ 112 ∷ 128 ∷ 160 ∷ 192 ∷ 224 ∷ 256 ∷ 320 ∷ 384 ∷ 448 ∷ 512 ∷ 640 ∷ 768 ∷ 896 ∷ 1024 ∷ 1280 ∷ 1560 ∷ 1816 ∷ 2048 ∷ 2616 ∷ 3120 ∷ 3640 ∷ 4096 ∷ 5456 ∷ 6552 ∷ 7280 ∷ 8192 ∷ []

-- the bytes of the largest objects
abbrev pub largest_size : ℕ
largest_size = 8192

-- the bytes of a superblock (DSA_PAGES_PER_SUPERBLOCK pages of FPM_PAGE_SIZE bytes in dsa.c)
abbrev pub superblock_bytes : ℕ
superblock_bytes = 65536

-- the first class; dsa.c uses the classes before it for blocks that are no objects
abbrev pub first_class : ℕ
first_class = 2

-- the last class
abbrev pub last_class : ℕ
last_class = 37

-- a number of a class
pub record IsClass (class : ℕ) : Type 0 where
  pub low : first_class ≤ class
  pub high : class ≤ last_class

-- the bytes of an object of a class
abbrev pub class_size : ℕ → ℕ
class_size class = slice_index sizes (class - first_class)

-- how many objects a superblock of a class holds
abbrev pub class_objects : ℕ → ℕ
class_objects class = superblock_bytes / class_size class

-- the least class whose objects hold this many bytes
pub record IsLeast (bytes class : ℕ) : Type 0 where
  pub is_class : IsClass class
  pub holds : bytes ≤ class_size class
  pub least : (other : ℕ) → IsClass other → bytes ≤ class_size other → class ≤ other

-- the first of these sizes that holds this many bytes, or else this other one
unfoldable pub first_size : List ℕ → ℕ → ℕ → ℕ
first_size [] other bytes = other
first_size (s ∷ ss) other bytes = cond (leb bytes s) s (first_size ss other bytes)
