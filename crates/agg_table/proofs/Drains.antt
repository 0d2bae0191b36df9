-- A map of groups while the partitions of a closed table are added to it, from the last to the first.
use Rattle.std.proofs.Common.{◌≡◌, ◌<◌, ◌≤◌, ◌+◌, ◌⊎◌, inl, inr, ℕ, List, Option, Some, None, length, is_some, refl, ap, sym, ◌∙◌, arith}
use Rattle.std.specs.FinMap as fin
use Rattle.agg_cell.specs.Called.{Seen, stands}
use Rattle.dshash_core.specs.Cells.{partition_of}
use Rattle.dshash_core.specs.Key.{hash_of, packed_key}
use Rattle.dshash_parts.specs.Tables.{map_at}
use Rattle.dshash_parts.proofs.Uses.{partition_low}
use Rattle.par_model.specs.declared.state.AggState.{AggState}
use Rattle.partial_agg.specs.Groups.{GroupsByKey}
use Rattle.partial_agg.specs.Laws.{both}
use Rattle.rel_pointer.specs.Bytes.{AllBytes}
use Rattle.agg_table.specs.Calls.{Group}
use Rattle.agg_table.specs.Drained.{AddsCells, AddsTable, ArePacked, HoldsAll}
use Rattle.agg_table.proofs.Standing.{stands_here}

-- the partition of a key's bytes
abbrev at : List ℕ → ℕ
at key = partition_of (hash_of (packed_key key))

-- what stands in the partitions from this number on was added
pub record AddsFrom (n : ℕ) (history : Seen) (g h : GroupsByKey) : Type 0 where
  pub each : (key : List ℕ) → AllBytes key → length key ≤ 248 → n ≤ at key → fin.get h key ≡ both (fin.get g key) (stands history (packed_key key))
  pub rest : (key : List ℕ) → (AllBytes key → length key ≤ 248 → n ≤ at key → stands history (packed_key key) ≡ None) → fin.get h key ≡ fin.get g key

pub adds-none : (history : Seen) (g : GroupsByKey) → AddsFrom 128 history g g
adds-none history g = record {
  each = λ key bytes short past. absurd (omega (arith, past, partition_low (packed_key key)));
  rest = λ key none. refl;
}

pub adds-all : (n : ℕ) (history : Seen) (g h : GroupsByKey) → n ≡ 0 → AddsFrom n history g h → AddsTable history g h
adds-all n history g h none adds = record {
  each = λ key bytes short. adds.each key bytes short (omega (arith, none));
  rest = λ key stays. adds.rest key (λ bytes short past. stays bytes short);
}

module _ (history : Seen) (puts : List (List Group)) (held : HoldsAll history puts) where
  pub partition_packed : (i : ℕ) → i < 128 → ArePacked (map_at history i)
  partition_packed i low key there = (stands_here history puts held i low key there).packed

  -- a key of another partition has no state in this one
  none_here : (i : ℕ) → i < 128 → (key : List ℕ) → (at key ≡ i → ⊥) → fin.get (map_at history i) (packed_key key) ≡ None
  none_here i low key other = by (fin.get (map_at history i) (packed_key key)) refl
    where
      by : (o : Option AggState) → fin.get (map_at history i) (packed_key key) ≡ o → fin.get (map_at history i) (packed_key key) ≡ None
      by None e = e
      by (Some s) e = absurd (other (stands_here history puts held i low (packed_key key) (ap is_some e)).here)

  pub adds-next : (n : ℕ) (g m h : GroupsByKey) → n < 128 → AddsFrom (n + 1) history g m → AddsCells (map_at history n) m h → AddsFrom n history g h
  adds-next n g m h low so_far next = record {
    each = λ key bytes short from. by key bytes short (same_or_past key from);
    rest = λ key none. next.rest key (λ bytes short. stays key bytes short none) ∙ so_far.rest key (λ bytes short past. none bytes short (omega (arith, past)));
  }
    where
      same_or_past : (key : List ℕ) → n ≤ at key → (at key ≡ n) ⊎ (n + 1 ≤ at key)
      same_or_past key from = grind (arith, from)

      by : (key : List ℕ) → AllBytes key → length key ≤ 248 → (at key ≡ n) ⊎ (n + 1 ≤ at key) → fin.get h key ≡ both (fin.get g key) (stands history (packed_key key))
      by key bytes short (inl here) =
          next.each key bytes short
          ∙ ap (λ (o : Option AggState). both o (fin.get (map_at history n) (packed_key key))) (so_far.rest key (λ b s past. absurd (omega (arith, past, here))))
          ∙ ap (λ (i : ℕ). both (fin.get g key) (fin.get (map_at history i) (packed_key key))) (sym here)
      by key bytes short (inr past) =
          next.rest key (λ b s. none_here n low key (λ here. absurd (omega (arith, past, here)))) ∙ so_far.each key bytes short past

      stays : (key : List ℕ) → AllBytes key → length key ≤ 248 → (AllBytes key → length key ≤ 248 → n ≤ at key → stands history (packed_key key) ≡ None) → fin.get (map_at history n) (packed_key key) ≡ None
      stays key bytes short none = stay (grind arith)
        where
          stay : (at key ≡ n) ⊎ (at key ≡ n → ⊥) → fin.get (map_at history n) (packed_key key) ≡ None
          stay (inl here) = ap (λ (i : ℕ). fin.get (map_at history i) (packed_key key)) (sym here) ∙ none bytes short (omega (arith, here))
          stay (inr other) = none_here n low key other
