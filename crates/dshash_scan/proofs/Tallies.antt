-- A count goes on: the partitions below a number were looked at, once each.
use Rattle.std.proofs.Common.{◌≡◌, ◌≢◌, ℕ, ◌+◌, ◌<◌, ◌≤◌, ⊎_elim, List, [], ◌∷◌, ◌++◌, length, length-append, Option, refl, sym, ap, subst, ◌∙◌, arith}
use Rattle.std.specs.FinMap as fin
use Rattle.std.specs.List.{sum_by}
use Rattle.std.proofs.lemmas.List.Sums.{sum_by-append}
use mathlib.Core.Option.{some}
use lib.ListN.{get_elem?}
use Rattle.lock_book.specs.declared.view.Entry.{Entry}
use Rattle.lock_book.specs.History.{last_of}
use Rattle.lock_book.specs.Told.{Histories}
use Rattle.lock_book.proofs.Uses.{then_calls}
use Rattle.dshash_parts.specs.States.{PartitionState, fresh}
use Rattle.dshash_parts.specs.Legal.{PartitionLegal}
use Rattle.dshash_parts.specs.Tables.{AtPartition, Did, map_at}
use Rattle.dshash_parts.specs.declared.histories.PartitionCalls.{PartitionCalls}
use Rattle.dshash_parts.specs.declared.histories.PartitionCalls.TheVariants.{Looks}
use Rattle.dshash_parts.specs.declared.histories.PartitionReplies.{PartitionReplies}
use Rattle.dshash_parts.specs.declared.histories.PartitionReplies.TheVariants.{HasSize}
use Rattle.dshash_scan.proofs.Scans.{snoc_at}

module _ {S C R : Type 0} (step : Option S → C → Option S × R) (n : ℕ) (seen mine : Histories (PartitionState S) (PartitionCalls C) (PartitionReplies S R)) where
  -- the partitions below a number were looked at, once each, and at the others nothing was done
  pub record Tallied (seen' mine' : Histories (PartitionState S) (PartitionCalls C) (PartitionReplies S R)) (number total : ℕ) : Type 0 where
    pub counts : List ℕ
    pub count : length counts ≡ number
    pub is : total ≡ sum_by (λ keys. keys) counts
    pub looks : (k keys : ℕ) → get_elem? counts k ≡ some keys → ((size : ℕ) × Did step n seen mine seen' mine' k ((Looks, HasSize size keys) ∷ [])) × (keys ≡ fin.len (map_at seen' k))
    pub rest : (k : ℕ) → number ≤ k → Did step n seen mine seen' mine' k []

  pub tallied_none : Tallied seen mine 0 0
  tallied_none = record { counts = []; count = refl; is = refl; looks = λ k keys e. absurd (cc); rest = λ k low. (refl, refl) }

  module _ (seen' mine' : Histories (PartitionState S) (PartitionCalls C) (PartitionReplies S R)) (number total : ℕ) (x : Tallied seen' mine' number total)
      (seen'' mine'' : Histories (PartitionState S) (PartitionCalls C) (PartitionReplies S R)) (who size more : ℕ) (same : who ≡ n) (turn : AtPartition step who seen' mine' seen'' mine'' number Looks (HasSize size more)) where
    -- the next partition is looked at
    here : Did step n seen mine seen'' mine'' number ((Looks, HasSize size more) ∷ [])
    here = then_calls (λ _. PartitionLegal step number) fresh n (seen number) (mine number) (seen' number) (mine' number) (seen'' number) (mine'' number) [] ((Looks, HasSize size more) ∷ []) (x.rest number (omega arith))
        (subst (λ (z : ℕ). Did step z seen' mine' seen'' mine'' number ((Looks, HasSize size more) ∷ [])) same turn.here)

    -- and nothing happens to the others
    there : (k : ℕ) → k ≢ number → (es : List (PartitionCalls C × PartitionReplies S R)) → Did step n seen mine seen' mine' k es → Did step n seen mine seen'' mine'' k (es ++ [])
    there k ne es d = then_calls (λ _. PartitionLegal step k) fresh n (seen k) (mine k) (seen' k) (mine' k) (seen'' k) (mine'' k) es [] d (turn.others k ne)

    pub tallied_more : more ≡ fin.len (map_at seen'' number) → Tallied seen'' mine'' (number + 1) (total + more)
    tallied_more told = record {
      counts = x.counts ++ more ∷ [];
      count = length-append x.counts (more ∷ []) ∙ ap (λ (z : ℕ). z + 1) x.count;
      is = let before = x.is in let both = sum_by-append (λ (keys : ℕ). keys) x.counts (more ∷ []) in omega (arith, before, both);
      looks = λ k keys h. ⊎_elim
          (λ (l : (k < length x.counts) × (get_elem? x.counts k ≡ some keys)).
          let low : k < number = subst (λ (z : ℕ). k < z) x.count l.0 in
          let ne : k ≢ number = (λ e. omega arith) in
          let old = x.looks k keys l.1 in (
            (old.0.0, there k ne ((Looks, HasSize old.0.0 keys) ∷ []) old.0.1),
            subst (λ (s : List (Entry (PartitionState S) (PartitionCalls C) (PartitionReplies S R))). keys ≡ fin.len (last_of fresh s).cells) (sym (turn.others k ne).0) old.1,
          ))
          (λ (r : (k ≡ length x.counts) × (more ≡ keys)).
          let at : number ≡ k = sym (r.0 ∙ x.count) in
          subst (λ (z : ℕ). ((s : ℕ) × Did step n seen mine seen'' mine'' z ((Looks, HasSize s keys) ∷ [])) × (keys ≡ fin.len (map_at seen'' z))) at
          (subst (λ (m : ℕ). ((s : ℕ) × Did step n seen mine seen'' mine'' number ((Looks, HasSize s m) ∷ [])) × (m ≡ fin.len (map_at seen'' number))) r.1 ((size, here), told)))
          (snoc_at x.counts more k keys h);
      rest = λ k high. there k (λ e. omega arith) [] (x.rest k (omega arith));
    }
