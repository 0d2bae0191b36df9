-- The chains of all left rows.
use Rattle.std.specs.Prelude.{◌≡◌, ◌≢◌, ◌<◌, ◌⊎◌, ◌++◌, ℕ, List, [], ◌∷◌, All, Some, get_or, length, map, replicate, set, slice_get}
use Rattle.std.specs.List.Sorted.{IsPermutation}
use Rattle.row_blocks.specs.Blocks.{Table, numbers_of}
use Rattle.join_pairs.specs.Chains.{HasChain, before_in}
use Rattle.join_pairs.specs.Join.{keyed}
use Rattle.join_pairs.specs.declared.chains.Chains.{Chains}
use Rattle.join_pairs.specs.declared.chains.Link.{Link}

-- the last row of each key is at the key's place
abbrev pub HasPlaces : Chains → Type 0
HasPlaces c = length c.keys ≡ length c.lasts.items

-- a row has its place among the links
abbrev pub HasRoom : Chains → ℕ → Type 0
HasRoom c row = row < length c.befores.items

-- the row before each of these is set, one after the other
abbrev pub linked : List Link → List ℕ → List ℕ
linked [] befores = befores
linked (l ∷ ls) befores = linked ls (set befores l.row l.before)

-- these links were set, one after the other
abbrev pub HasLinks : List Link → List ℕ → List ℕ → Type 0
HasLinks links befores befores' = befores' ≡ linked links befores

-- A row of a key became the last one. The row before it is the one that was the last, if the key was there; a key that
-- was not there comes after the others
pub record Extends (key : List ℕ) (row place : ℕ) (c d : Chains) : Type 0 where
  pub is : slice_get c.keys place ≡ Some key
  pub keys : d.keys ≡ c.keys
  pub lasts : d.lasts.items ≡ set c.lasts.items place row
  pub befores : d.befores.items ≡ set c.befores.items row (get_or c.lasts.items place 0)

-- the key was not there: the row before it is the last one that the table has of the key
pub record Begins (last : List ℕ → ℕ) (key : List ℕ) (row : ℕ) (c d : Chains) : Type 0 where
  pub absent : (place : ℕ) → slice_get c.keys place ≡ Some key → ⊥
  pub keys : d.keys ≡ c.keys ++ key ∷ []
  pub lasts : d.lasts.items ≡ c.lasts.items ++ row ∷ []
  pub befores : d.befores.items ≡ set c.befores.items row (last key)

-- a row of a key was added in one of the two ways
abbrev pub AddsRow : (List ℕ → ℕ) → List ℕ → ℕ → Chains → Chains → Type 0
AddsRow last key row c d = ((place : ℕ) × Extends key row place c d) ⊎ Begins last key row c d

-- each of the second list is none of the first nor an earlier one
abbrev pub AreApart : List ℕ → List ℕ → Type 0
AreApart known [] = Unit {0}
AreApart known (x ∷ xs) = All (λ r. r ≢ x) known × AreApart (known ++ x ∷ []) xs

-- the chain of each key has those of some rows that have the key; that of a key at no place begins at the last row that
-- the table has of it
pub record AreChains (records : Table) (column : ℕ) (rows : List ℕ) (last : List ℕ → ℕ) (keys : List (List ℕ)) (lasts befores : List ℕ) : Type 0 where
  pub once : (p q : ℕ) (key : List ℕ) → slice_get keys p ≡ Some key → slice_get keys q ≡ Some key → p ≡ q
  pub chains : (p : ℕ) (key : List ℕ) → slice_get keys p ≡ Some key → HasChain (before_in befores) records column rows key (get_or lasts p 0)
  pub absent : (key : List ℕ) → ((p : ℕ) → slice_get keys p ≡ Some key → ⊥) → HasChain (before_in befores) records column rows key (last key)

-- the chains are those of these rows
abbrev pub HasChains : Table → ℕ → List ℕ → (List ℕ → ℕ) → Chains → Type 0
HasChains records column rows last c = AreChains records column rows last c.keys c.lasts.items c.befores.items

-- What the leader knows of the rows when it makes the chains. Each row whose field is not empty is linked or was
-- spilled, and the table has, under each key, the last of the linked rows that have it
pub record IsCovered (records : Table) (column : ℕ) (last : List ℕ → ℕ) (links : List Link) (spilled : List ℕ) : Type 0 where
  pub all : IsPermutation (keyed records column (numbers_of records)) (map (λ (l : Link). l.row) links ++ spilled)
  pub chains : (key : List ℕ) → HasChain (before_in (linked links (replicate (length records) 0))) records column (map (λ (l : Link). l.row) links) key (last key)

-- the chains have each row of the table whose field is not empty, under its key, once
pub record ChainsAll (records : Table) (column : ℕ) (last : List ℕ → ℕ) (c : Chains) : Type 0 where
  pub rows : List ℕ
  pub all : IsPermutation (keyed records column (numbers_of records)) rows
  pub have : HasChains records column rows last c
