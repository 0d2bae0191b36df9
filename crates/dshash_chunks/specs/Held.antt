-- A chunk with its words, as what is under a key, and what a call makes of it.
use Rattle.std.specs.Prelude.{ℕ, ◌/◌, List, Option, Some, None, refl}
use Rattle.std.specs.Coded.{Coded, code_by, coded×, coded_ℕ, coded_list}
use Rattle.word_map.specs.WordMap.{WordMap}
use Rattle.region_words.specs.declared.chunk.Chunk.{Chunk}
use Rattle.dshash_core.specs.Chains.{word, words_at}
use Rattle.dshash_chunks.specs.declared.held.Held.{Held}
use Rattle.dshash_chunks.specs.declared.held.ChunkCalls.{ChunkCalls}
use Rattle.dshash_chunks.specs.declared.held.ChunkCalls.TheVariants.{Put, Take, With}
use Rattle.dshash_chunks.specs.declared.held.ChunkReplies.{ChunkReplies}
use Rattle.dshash_chunks.specs.declared.held.ChunkReplies.TheVariants.{Was, Did}
use Rattle.dshash_chunks.specs.declared.name.ChunkName.{ChunkName}

-- the code by which proofs distinguish such values
abbrev pub held_code : Coded Held
held_code = code_by (ℕ × (ℕ × List ℕ)) (coded× coded_ℕ (coded× coded_ℕ (coded_list coded_ℕ))) (λ h. (h.at, (h.bytes, h.words))) (λ p. record { at = p.0; bytes = p.1.0; words = p.1.1 }) (λ _. refl)

-- the words of a chunk, in order
abbrev pub contents : Chunk → List ℕ
contents c = words_at (word c.part.words) c.at (c.bytes / 8)

-- a chunk with its words
abbrev pub held_in : Chunk → Held
held_in c = record { at = c.at; bytes = c.bytes; words = contents c }

-- the chunk of a name, with the words that a map has there
abbrev pub held : WordMap → ChunkName → Held
held m n = record { at = n.at; bytes = n.bytes; words = words_at (word m) n.at (n.bytes / 8) }

-- its name
abbrev pub name_of : Held → ChunkName
name_of h = record { at = h.at; bytes = h.bytes }

-- `worked` is what the object's steps make of a chunk's words, and their replies
module _ {C R : Type 0} (worked : List ℕ → C → List ℕ × R) where
  -- the chunk after a step on its words
  abbrev pub worked_on : Held → C → Held
  worked_on h call = record h { words = (worked h.words call).0 }

  -- the chunk that a call leaves under its key, if any, and the reply
  abbrev pub stepped : Option Held → ChunkCalls C → Option Held × ChunkReplies R
  stepped before (Put h) = (Some h, Was before)
  stepped before Take = (None, Was before)
  stepped None (With call) = (None, Did None)
  stepped (Some h) (With call) = (Some (worked_on h call), Did (Some (worked h.words call).1))
