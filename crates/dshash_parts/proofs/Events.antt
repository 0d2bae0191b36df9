-- A turn at a partition is an event of the table.
use Rattle.std.proofs.Common.{◌≡◌, ℕ, List, [], ◌∷◌, Option, Vec, Global, refl, subst}
use mathlib.Core.Option.{some}
use lib.ListN.{get_elem?}
use Rattle.region_words.specs.declared.chunk.Chunk.{Chunk}
use Rattle.lock_book.specs.History.{IsLegal}
use Rattle.lock_book.specs.Told.{Histories, Adds}
use Rattle.lock_book.specs.Told.{MakesAll}
use Rattle.lock_book.proofs.Uses.{one_call}
use Rattle.dshash_parts.specs.declared.histories.PartitionName.{PartitionName}
use Rattle.dshash_parts.specs.declared.histories.PartitionCalls.{PartitionCalls}
use Rattle.dshash_parts.specs.declared.histories.PartitionReplies.{PartitionReplies}
use Rattle.dshash_parts.specs.States.{PartitionState, fresh}
use Rattle.dshash_parts.specs.Asked.{AnswerFits}
use Rattle.dshash_parts.specs.Legal.{PartitionLegal}
use Rattle.dshash_parts.specs.declared.asks.TableAsk.TheVariants.{Make, MakeWithin, Look, Grow, Take}
use Rattle.dshash_parts.specs.declared.asks.TableAnswer.{TableAnswer}
use Rattle.dshash_parts.specs.declared.asks.TableAnswer.TheVariants.{Came, Long, Size, LeftOver, Entries, Took}
use Rattle.dshash_parts.specs.Tables.{AtPartition}
use Rattle.dshash_parts.proofs.Owners.{Taken, one_lawful}

pub turn : {S C R : Type 0} (step : Option S → C → Option S × R) (may : ℕ → List ℕ → C → Type 0) (opens : List (PartitionName × PartitionState S)) (n : ℕ) (seen mine seen' mine' : Histories (PartitionState S) (PartitionCalls C) (PartitionReplies S R)) (at : ℕ) (c : PartitionCalls C) (r : PartitionReplies S R) (name : PartitionName)
    → get_elem? opens at ≡ some (name, fresh) → name.number ≡ at → IsLegal (Taken step may name.number) fresh (seen' at) → Adds (λ m. Taken step may m.number) opens n seen mine seen' mine' at c r → AtPartition step n seen mine seen' mine' at c r
turn step may opens n seen mine seen' mine' at c r name there same legal a = record {
  here = subst (λ (z : ℕ). MakesAll (λ _. PartitionLegal step z) fresh n (seen at) (mine at) (seen' at) (mine' at) ((c, r) ∷ [])) same
      (one_lawful step may name.number n (seen at) (mine at) (seen' at) (mine' at) c r legal
      (one_call (λ m. Taken step may m.number) opens n seen mine seen' mine' at c r (name, fresh) there a));
  others = λ other ne. (a.others_seen other ne, a.others_mine other ne);
}

module _ {O S C R : Type 0} where
  -- a call is answered by what came of it, one with a bound by that or by a chain that is too long, a look by a size, a move by the slice that is left over, and a taking by a key
  -- or a size
  pub no_other_make : (n : PartitionName) (hash : ℕ) (key : List ℕ) (call : C) (spare : Option Chunk) (answer : TableAnswer O S C R) → AnswerFits n (Make hash key call spare) answer → ((x : _) → answer ≡ Came x → ⊥) → ⊥
  no_other_make n hash key call spare (Came x) f g = g x refl
  no_other_make n hash key call spare (Long s x y) f g = f
  no_other_make n hash key call spare (Size x keys) f g = f
  no_other_make n hash key call spare (LeftOver x) f g = f
  no_other_make n hash key call spare (Entries x) f g = f
  no_other_make n hash key call spare (Took x) f g = f

  pub no_other_within : (n : PartitionName) (longest hash : ℕ) (key : List ℕ) (call : C) (spare : Option Chunk) (answer : TableAnswer O S C R) → AnswerFits n (MakeWithin longest hash key call spare) answer → ((x : _) → answer ≡ Came x → ⊥) → ((s x : ℕ) (y : Option Chunk) → answer ≡ Long s x y → ⊥) → ⊥
  no_other_within n longest hash key call spare (Came x) f g h = g x refl
  no_other_within n longest hash key call spare (Long s x y) f g h = h s x y refl
  no_other_within n longest hash key call spare (Size x keys) f g h = f
  no_other_within n longest hash key call spare (LeftOver x) f g h = f
  no_other_within n longest hash key call spare (Entries x) f g h = f
  no_other_within n longest hash key call spare (Took x) f g h = f

  pub no_other_look : (n : PartitionName) (answer : TableAnswer O S C R) → AnswerFits {O = O} {S = S} {C = C} {R = R} n Look answer → ((x keys : ℕ) → answer ≡ Size x keys → ⊥) → ⊥
  no_other_look n (Came x) f g = f
  no_other_look n (Long s x y) f g = f
  no_other_look n (Size x keys) f g = g x keys refl
  no_other_look n (LeftOver x) f g = f
  no_other_look n (Entries x) f g = f
  no_other_look n (Took x) f g = f

  pub no_other_grow : (n : PartitionName) (size : ℕ) (slice : Chunk) (answer : TableAnswer O S C R) → AnswerFits n (Grow size slice) answer → ((x : Chunk) → answer ≡ LeftOver x → ⊥) → ⊥
  no_other_grow n size slice (Came x) f g = f
  no_other_grow n size slice (Long s x y) f g = f
  no_other_grow n size slice (Size x keys) f g = f
  no_other_grow n size slice (LeftOver x) f g = g x refl
  no_other_grow n size slice (Entries x) f g = f
  no_other_grow n size slice (Took x) f g = f

  pub no_other_take : (n : PartitionName) (call : C) (words : Vec ℕ Global) (answer : TableAnswer O S C R) → AnswerFits n (Take call words) answer → ((x : _) → answer ≡ Took x → ⊥) → ((x keys : ℕ) → answer ≡ Size x keys → ⊥) → ⊥
  no_other_take n call words (Came x) f g h = f
  no_other_take n call words (Long s x y) f g h = f
  no_other_take n call words (Size x keys) f g h = h x keys refl
  no_other_take n call words (LeftOver x) f g h = f
  no_other_take n call words (Entries x) f g h = f
  no_other_take n call words (Took x) f g h = g x refl
