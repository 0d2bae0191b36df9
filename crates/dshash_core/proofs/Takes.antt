-- Taking an entry out, whichever comes next: there is none only where the map is empty, and a call that removes frees
-- the item of its key.
use Rattle.std.proofs.Common.{◌≡◌, ℕ, suc, ◌<◌, ◌&&◌, true, List, [], ◌∷◌, ◌++◌, map, length, get_or, Option, Some, is_some, is_none, refl, sym, ap, ◌∙◌, arith}
use Rattle.std.specs.FinMap as fin
use Rattle.dshash_core.specs.Chains.{Item}
use Rattle.dshash_core.specs.Hung.{Hung}
use Rattle.dshash_core.specs.Cells.{AreCells, KeyMap, all_items, cells_of, entry_of}
use Rattle.dshash_core.specs.Outcome.{AlwaysRemoves, next_of, removes}

-- chains without items have none together
pub all_empty : (chains : List (List Item)) → ((i : ℕ) → i < length chains → get_or chains i [] ≡ []) → all_items chains ≡ []
all_empty [] h = refl
all_empty (c ∷ cs) h = (λ t. h 0 (omega arith) t ++ all_items cs) ∙ all_empty cs (λ i l. h (suc i) (omega arith))

none_of : (items : List Item) → length items ≡ 0 → items ≡ []
none_of [] e = refl
none_of (it ∷ items) e = absurd (omega (arith, e))

-- and stand for the empty map
pub no_cells : {S : Type 0} (decoded : List ℕ → S) (chains : List (List Item)) → all_items chains ≡ [] → cells_of decoded chains ≡ fin.empty
no_cells decoded chains e = ap (λ (items : List Item). fin.from_entries (map (entry_of decoded) items)) e

module _ {S : Type 0} (decoded : List ℕ → S) (size count value_words : ℕ) (h : Hung) (k : AreCells size count value_words h) where
  pub none_counted : count ≡ 0 → cells_of decoded h.chains ≡ fin.empty
  none_counted e = no_cells decoded h.chains (none_of (all_items h.chains) (sym k.counted ∙ e))

-- a call that removes whatever stands under a key frees the item of one that is there
pub frees : {S C R : Type 0} (step : Option S → C → Option S × R) (call : C) → AlwaysRemoves step call → (m : KeyMap S) (key : List ℕ) (state : S) → fin.get m key ≡ Some state → removes m key (next_of step m key call) ≡ true
frees {S} step call gone m key state e = ap (λ (o : Option S). is_some o && is_none (step o call).0) e ∙ ap (λ (o : Option S). is_none o) (gone state)
