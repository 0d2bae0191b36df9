-- How large chunks are.
use Rattle.std.specs.Prelude.{ℕ, ◌+◌, ◌*◌, ◌-◌, ◌/◌}
use Rattle.size_classes.specs.Classes.{sizes, first_size}
use Rattle.free_pages.specs.Area.{page_words}

-- the bytes of a page
abbrev pub page_bytes : ℕ
page_bytes = 8 * page_words

-- the pages that hold this many bytes
abbrev pub pages_for : ℕ → ℕ
pages_for bytes = (bytes + (page_bytes - 1)) / page_bytes

-- the bytes of the chunk that a request of this many bytes gets: the first size of a class that holds them, or whole
-- pages
unfoldable pub chunk_size : ℕ → ℕ
chunk_size bytes = first_size sizes (page_bytes * pages_for bytes) bytes
