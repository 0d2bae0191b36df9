-- Which answers an ask of the locked area has.
use Rattle.std.proofs.Common.{◌≡◌, ℕ, refl}
use Rattle.region_words.specs.declared.chunk.Chunk.{Chunk}
use Rattle.free_pages.specs.declared.pages.NoRun.{NoRun}
use Rattle.free_pages.specs.declared.pages.Usage.{Usage as Pages}
use Rattle.c_area.specs.Asked.{AnswerFits}
use Rattle.c_area.specs.declared.histories.AreaName.{AreaName}
use Rattle.c_area.specs.declared.locked.AreaAsk.TheVariants.{Alloc, Free, Trim, Usage}
use Rattle.c_area.specs.declared.locked.AreaAnswer.{AreaAnswer}
use Rattle.c_area.specs.declared.locked.AreaAnswer.TheVariants.{Given, Lacking, Taken, Back, Gone, Left, Used}

-- a request is granted or refused
pub no_other_alloc : (n : AreaName) (bytes : ℕ) (a : AreaAnswer) → AnswerFits n (Alloc bytes) a → ((x : Chunk) → a ≡ Given x → ⊥) → ((x : NoRun) → a ≡ Lacking x → ⊥) → ⊥
no_other_alloc n bytes (Given x) f g h = g x refl
no_other_alloc n bytes (Lacking x) f g h = h x refl
no_other_alloc n bytes Taken f g h = f
no_other_alloc n bytes (Back x) f g h = f
no_other_alloc n bytes Gone f g h = f
no_other_alloc n bytes Left f g h = f
no_other_alloc n bytes (Used x) f g h = f

-- a chunk is taken back or handed back
pub no_other_free : (n : AreaName) (chunk : Chunk) (a : AreaAnswer) → AnswerFits n (Free chunk) a → (a ≡ Taken → ⊥) → ((x : Chunk) → a ≡ Back x → ⊥) → ⊥
no_other_free n chunk (Given x) f g h = f
no_other_free n chunk (Lacking x) f g h = f
no_other_free n chunk Taken f g h = g refl
no_other_free n chunk (Back x) f g h = h x refl
no_other_free n chunk Gone f g h = f
no_other_free n chunk Left f g h = f
no_other_free n chunk (Used x) f g h = f

-- a superblock goes to the pages or none does
pub no_other_trim : (n : AreaName) (class : ℕ) (a : AreaAnswer) → AnswerFits n (Trim class) a → (a ≡ Gone → ⊥) → (a ≡ Left → ⊥) → ⊥
no_other_trim n class (Given x) f g h = f
no_other_trim n class (Lacking x) f g h = f
no_other_trim n class Taken f g h = f
no_other_trim n class (Back x) f g h = f
no_other_trim n class Gone f g h = g refl
no_other_trim n class Left f g h = h refl
no_other_trim n class (Used x) f g h = f

-- a look is answered by what it saw
pub no_other_look : (n : AreaName) (a : AreaAnswer) → AnswerFits n Usage a → ((x : Pages) → a ≡ Used x → ⊥) → ⊥
no_other_look n (Given x) f g = f
no_other_look n (Lacking x) f g = f
no_other_look n Taken f g = f
no_other_look n (Back x) f g = f
no_other_look n Gone f g = f
no_other_look n Left f g = f
no_other_look n (Used x) f g = g x refl
