-- What is read off the chunk under a name, what a call makes of it, and who may make it.
use Rattle.std.specs.Prelude.{◌≡◌, ℕ, zero, suc, List, [], ◌∷◌, Option, Some, None, slice_index_or}
use Rattle.std.specs.Option.{option_map}
use Rattle.dshash_chunks.specs.Held as chunks
use Rattle.dshash_chunks.specs.declared.held.Held.{Held}
use Rattle.dshash_chunks.specs.declared.held.ChunkCalls.{ChunkCalls}
use Rattle.dshash_chunks.specs.declared.held.ChunkCalls.TheVariants.{Put, Take, With}
use Rattle.dshash_chunks.specs.declared.held.ChunkReplies.{ChunkReplies}
use Rattle.page_cache.specs.declared.page.Page.{Page}

-- the first n of these words, and zeros if there are fewer
abbrev pub first_words : ℕ → List ℕ → List ℕ
first_words zero words = []
first_words (suc n) [] = 0 ∷ first_words n []
first_words (suc n) (x ∷ words) = x ∷ first_words n words

-- the page in a chunk of these words
abbrev pub read : List ℕ → Page
read words = record { words = first_words 1024 words }

-- a page is read where it lies, and stays as it is
abbrev pub worked : List ℕ → Unit {0} → List ℕ × Page
worked words call = (words, read words)

-- the chunk that a call leaves under its name, and the reply
abbrev pub stepped : Option Held → ChunkCalls (Unit {0}) → Option Held × ChunkReplies Page
stepped before call = chunks.stepped worked before call

-- the page in what is under a name, if anything
abbrev pub shown : Option Held → Option Page
shown held = option_map (λ (h : Held). read h.words) held

-- the page that a call leaves
abbrev pub after : Option Page → ChunkCalls (Unit {0}) → Option Page
after page (Put h) = Some (read h.words)
after page Take = None
after page (With call) = page

-- the caller to whom a name belongs: its number is the name's first word
abbrev pub owner_of : List ℕ → ℕ
owner_of name = slice_index_or name 0 0

-- every caller may read a page and evict one; to put one is left to the name's owner
abbrev pub may : ℕ → List ℕ → ChunkCalls (Unit {0}) → Type 0
may caller name (Put h) = owner_of name ≡ caller
may caller name Take = Unit {0}
may caller name (With call) = Unit {0}
