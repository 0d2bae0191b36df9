-- The table after its partitions were taken out, and what a look-up of them has.
use Rattle.std.proofs.Common.{◌≡◌, ◌<◌, ◌≤◌, ℕ, zero, suc, List, [], ◌∷◌, Option, Some, refl, cond, get_or, length, map, replicate, slice_get, ap, sym, subst, ◌∙◌, arith}
use Rattle.std.specs.FinMap as fin
use Rattle.std.proofs.lemmas.Option.{get_or_from_slice_get}
use Rattle.atomic_table.specs.Seated.{TableId}
use Rattle.lock_book.specs.declared.kept.Kept.{Ghosts}
use Rattle.lock_book.specs.declared.shelf.Pass.{Pass}
use Rattle.lock_book.specs.History.{IsLegal, StartsWith, calls_by, last_of}
use Rattle.lock_book.specs.Shown.{seen_of}
use Rattle.dshash_core.specs.Cells.{KeyMap, PartitionView, partition_of}
use Rattle.dshash_core.specs.Key.{hash_of}
use Rattle.dshash_parts.specs.Ending.{Ended, whole_of}
use Rattle.dshash_parts.specs.Legal.{PartitionLegal}
use Rattle.dshash_parts.specs.States.{PartitionState, fresh}
use Rattle.dshash_parts.specs.Tables.{map_at}
use Rattle.dshash_parts.specs.declared.asks.TableAnswer.{TableAnswer}
use Rattle.dshash_parts.specs.declared.asks.TableAsk.{TableAsk}
use Rattle.dshash_parts.specs.declared.close.ClosedTable.{ClosedTable}
use Rattle.dshash_parts.specs.declared.histories.PartitionCalls.{PartitionCalls}
use Rattle.dshash_parts.specs.declared.histories.PartitionName.{PartitionName}
use Rattle.dshash_parts.specs.declared.histories.PartitionReplies.{PartitionReplies}
use Rattle.dshash_parts.specs.declared.numbered.Numbered.{Numbered}
use Rattle.dshash_parts.specs.declared.table.Dshash.{Dshash}
use Rattle.dshash_parts.proofs.Uses.{partition_low}
use Rattle.frozen_table.specs.Parts.{HaveMaps, ListMaps, map_in}
use Rattle.row_blocks.specs.Blocks.{Table}
use Rattle.join_pairs.specs.Chains.{HasChain, before_in, number_in}
use Rattle.join_pairs.specs.Gathered.{ChainsAll, IsCovered, linked}
use Rattle.join_pairs.specs.declared.chains.Chains.{Chains}
use Rattle.join_pairs.specs.declared.chains.Link.{Link}
use Rattle.hash_join.specs.Filled.{RowEntry}
use Rattle.hash_join.specs.Probes.{fits_key, key_with, last_in}

-- ---- partitions that were taken out

module _ {O S C R : Type 0} {g : Ghosts (Numbered O S C R) TableId (TableAsk O S C R) (TableAnswer O S C R) PartitionName (PartitionState S) (PartitionCalls C) (PartitionReplies S R)} (step : Option S → C → Option S × R) (t : Dshash O S C R)
    (passes : List (Pass (Numbered O S C R) TableId (TableAsk O S C R) (TableAnswer O S C R) PartitionName (PartitionState S) (PartitionCalls C) (PartitionReplies S R) g))
    (c d : ClosedTable O S C R TableId (TableAsk O S C R) (TableAnswer O S C R) PartitionName (PartitionState S) (PartitionCalls C) (PartitionReplies S R) g) (same : (i : ℕ) → whole_of d i ≡ whole_of c i) where
  -- the table shows the same histories
  pub ended_still : Ended step t passes c → Ended step t passes d
  ended_still e = record {
    lawful = λ i low. subst (IsLegal (λ _. PartitionLegal step i) fresh) (sym (same i)) (e.lawful i low);
    begins = λ n i p at. subst (λ h. StartsWith h (seen_of p i)) (sym (same i)) (e.begins n i p at);
    mine = λ n i p at. ap (calls_by n) (same i) ∙ e.mine n i p at;
    no_others = λ i n past. ap (calls_by n) (same i) ∙ e.no_others i n past;
  }

-- and its partitions the maps of these
pub maps_still : (c d : ℕ → List RowEntry) → ((i : ℕ) → d i ≡ c i) → (parts parts' : List (PartitionView ℕ)) → parts' ≡ parts → HaveMaps (map_at c) parts → HaveMaps (map_at d) parts'
maps_still c d same parts parts' is h =
    subst (HaveMaps (map_at d)) (sym is)
    (record { count = h.count; each = λ i p at. h.each i p at ∙ ap (λ (history : List RowEntry). (last_of fresh history).cells) (sym (same i)) })

-- ---- the look-up

module _ (maps : ℕ → KeyMap ℕ) (lists : List (List (List ℕ × ℕ))) (listed : ListMaps maps lists) where
  there : {X : Type 0} (xs : List X) (k : ℕ) → k < length xs → (x : X) × (slice_get xs k ≡ Some x)
  there [] k low = absurd (omega (arith, low))
  there (x ∷ xs) zero low = (x, refl)
  there (x ∷ xs) (suc k) low = there xs k (omega (arith, low))

  same_map : (i : ℕ) → i < 128 → map_in lists i ≡ maps i
  same_map i low =
      let list = there lists i (omega (arith, low, listed.count)) in
      ap (λ (l : List (List ℕ × ℕ)). fin.from_entries l) (get_or_from_slice_get lists i list.0 [] list.1) ∙ (listed.each i list.0 list.1).all

  -- it has the last rows that the maps have
  pub last_same : (words : ℕ) (field : List ℕ) → last_in maps words field ≡ last_in (map_in lists) words field
  last_same words field =
      let key = key_with words field in
      ap (λ (m : KeyMap ℕ). cond (fits_key words field) (number_in (fin.get m key)) 0) (sym (same_map (partition_of (hash_of key)) (partition_low key)))

-- what one of two tables covers the other does, if both have the same last rows
pub covered_same : (records : Table) (column : ℕ) (f g : List ℕ → ℕ) (links : List Link) (spilled : List ℕ) → ((key : List ℕ) → f key ≡ g key) → IsCovered records column f links spilled → IsCovered records column g links spilled
covered_same records column f g links spilled same h = record {
  all = h.all;
  chains = λ key. subst (HasChain (before_in (linked links (replicate (length records) 0))) records column (map (λ (l : Link). l.row) links) key) (same key) (h.chains key);
}

-- chains that begin where one of two tables says that they begin do where the other says it
pub chains_same : (records : Table) (column : ℕ) (f g : List ℕ → ℕ) (c : Chains) → ((key : List ℕ) → f key ≡ g key) → ChainsAll records column f c → ChainsAll records column g c
chains_same records column f g c same h = record {
  rows = h.rows;
  all = h.all;
  have = record {
    once = h.have.once;
    chains = h.have.chains;
    absent = λ key none. subst (HasChain (before_in c.befores.items) records column h.rows key) (same key) (h.have.absent key none);
  };
}
