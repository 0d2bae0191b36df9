-- A listing of a table on its way: the partitions below a number were listed, those from it on were not.
use Rattle.std.proofs.Common.{◌≡◌, ◌≢◌, ℕ, zero, suc, ◌+◌, ◌<◌, ◌≤◌, ◌⊎◌, ⊎_elim, inl, inr, List, [], ◌∷◌, ◌++◌, length, Option, Some, refl, sym, ap, subst, ◌∙◌, arith, append_assoc, append-nil, length-append}
use mathlib.Core.Logic.{dite}
use mathlib.Core.Option.{some, some-injective}
use native.Mathlib.Decide.{ℕ_discrete, dec_lt}
use lib.ListN.{get_elem?}
use Rattle.lock_book.specs.declared.view.Entry.{Entry}
use Rattle.lock_book.specs.History.{last_of}
use Rattle.lock_book.specs.Told.{Histories}
use Rattle.lock_book.proofs.Uses.{then_calls}
use Rattle.dshash_core.specs.Outcome.{ListsAll}
use Rattle.dshash_parts.specs.States.{PartitionState, fresh}
use Rattle.dshash_parts.specs.Legal.{PartitionLegal}
use Rattle.dshash_parts.specs.Tables.{Did, AtPartition, map_at}
use Rattle.dshash_parts.specs.declared.histories.PartitionCalls.{PartitionCalls}
use Rattle.dshash_parts.specs.declared.histories.PartitionCalls.TheVariants.{Lists}
use Rattle.dshash_parts.specs.declared.histories.PartitionReplies.{PartitionReplies}
use Rattle.dshash_parts.specs.declared.histories.PartitionReplies.TheVariants.{Listed}
use Rattle.dshash_scan.specs.Listings.{joined}

module _ {A : Type 0} where
  joined_snoc : (xs : List (List A)) (ys : List A) → joined (xs ++ ys ∷ []) ≡ joined xs ++ ys
  joined_snoc [] ys = append-nil ys
  joined_snoc (x ∷ xs) ys = ap (λ z. x ++ z) (joined_snoc xs ys) ∙ sym (append_assoc x (joined xs) ys)

  -- what stands at a place of a list with one more
  pub snoc_at : (xs : List A) (x : A) (k : ℕ) (a : A) → get_elem? (xs ++ x ∷ []) k ≡ some a → ((k < length xs) × (get_elem? xs k ≡ some a)) ⊎ ((k ≡ length xs) × (x ≡ a))
  snoc_at [] x zero a e = inr (refl, some-injective x a e)
  snoc_at [] x (suc k) a e = absurd (cc)
  snoc_at (y ∷ ys) x zero a e = inl (omega arith, e)
  snoc_at (y ∷ ys) x (suc k) a e = ⊎_elim
      (λ (l : (k < length ys) × (get_elem? ys k ≡ some a)). let low = l.0 in inl (omega arith, l.1))
      (λ (r : (k ≡ length ys) × (x ≡ a)). inr (ap suc r.0, r.1))
      (snoc_at ys x k a e)

  some_at : (xs : List A) (k : ℕ) → k < length xs → (a : A) × (get_elem? xs k ≡ some a)
  some_at [] k low = absurd (omega arith)
  some_at (x ∷ xs) zero low = (x, refl)
  some_at (x ∷ xs) (suc k) low = some_at xs k (omega arith)

module _ {S C R : Type 0} (step : Option S → C → Option S × R) (n : ℕ) (seen mine : Histories (PartitionState S) (PartitionCalls C) (PartitionReplies S R)) where
  -- the partitions below a number were listed, once each, and at the others nothing was done
  pub record Scanned (seen' mine' : Histories (PartitionState S) (PartitionCalls C) (PartitionReplies S R)) (number : ℕ) (pairs : List (List ℕ × S)) : Type 0 where
    pub parts : List (List (List ℕ × S))
    pub count : length parts ≡ number
    pub is : pairs ≡ joined parts
    pub listings : (k : ℕ) (entries : List (List ℕ × S)) → get_elem? parts k ≡ some entries → Did step n seen mine seen' mine' k ((Lists, Listed (Some entries)) ∷ []) × ListsAll (map_at seen' k) entries
    pub rest : (k : ℕ) → number ≤ k → Did step n seen mine seen' mine' k []

  -- one listing of a partition, or none
  abbrev pub Once : Histories (PartitionState S) (PartitionCalls C) (PartitionReplies S R) → Histories (PartitionState S) (PartitionCalls C) (PartitionReplies S R) → ℕ → Type 0
  Once seen' mine' k = Did step n seen mine seen' mine' k [] ⊎ ((told : Option (List (List ℕ × S))) × Did step n seen mine seen' mine' k ((Lists, Listed told) ∷ []))

  pub scanned_none : (pairs : List (List ℕ × S)) → pairs ≡ [] → Scanned seen mine 0 pairs
  scanned_none pairs none = record { parts = []; count = refl; is = none; listings = λ k entries e. absurd (cc); rest = λ k low. (refl, refl) }

  module _ (seen' mine' : Histories (PartitionState S) (PartitionCalls C) (PartitionReplies S R)) (number : ℕ) (pairs : List (List ℕ × S)) (x : Scanned seen' mine' number pairs) where
    -- so each was listed at most once
    pub once : (k : ℕ) → Once seen' mine' k
    once k = dite (dec_lt k number)
        (λ low. let at = some_at x.parts k (subst (λ (z : ℕ). k < z) (sym x.count) low) in inr (Some at.0, (x.listings k at.0 at.1).0))
        (λ high. inl (x.rest k (omega arith)))

    module _ (seen'' mine'' : Histories (PartitionState S) (PartitionCalls C) (PartitionReplies S R)) (who : ℕ) (told : Option (List (List ℕ × S))) (same : who ≡ n) (turn : AtPartition step who seen' mine' seen'' mine'' number Lists (Listed told)) where
      -- the next partition is listed
      here : Did step n seen mine seen'' mine'' number ((Lists, Listed told) ∷ [])
      here = then_calls (λ _. PartitionLegal step number) fresh n (seen number) (mine number) (seen' number) (mine' number) (seen'' number) (mine'' number) [] ((Lists, Listed told) ∷ []) (x.rest number (omega arith))
          (subst (λ (z : ℕ). Did step z seen' mine' seen'' mine'' number ((Lists, Listed told) ∷ [])) same turn.here)

      -- and nothing happens to the others
      there : (k : ℕ) → k ≢ number → (es : List (PartitionCalls C × PartitionReplies S R)) → Did step n seen mine seen' mine' k es → Did step n seen mine seen'' mine'' k (es ++ [])
      there k ne es d = then_calls (λ _. PartitionLegal step k) fresh n (seen k) (mine k) (seen' k) (mine' k) (seen'' k) (mine'' k) es [] d (turn.others k ne)

      pub once_more : (k : ℕ) → Once seen'' mine'' k
      once_more k = dite (ℕ_discrete k number)
          (λ e. inr (told, subst (λ (z : ℕ). Did step n seen mine seen'' mine'' z ((Lists, Listed told) ∷ [])) (sym e) here))
          (λ ne. ⊎_elim
          (λ (d : Did step n seen mine seen' mine' k []). inl (there k ne [] d))
          (λ (d : (t : Option (List (List ℕ × S))) × Did step n seen mine seen' mine' k ((Lists, Listed t) ∷ [])). inr (d.0, there k ne ((Lists, Listed d.0) ∷ []) d.1))
          (once k))

    pub scanned_more : (seen'' mine'' : Histories (PartitionState S) (PartitionCalls C) (PartitionReplies S R)) (who : ℕ) (more pairs' : List (List ℕ × S)) → who ≡ n → AtPartition step who seen' mine' seen'' mine'' number Lists (Listed (Some more)) → ListsAll (map_at seen'' number) more
        → pairs' ≡ pairs ++ more → Scanned seen'' mine'' (number + 1) pairs'
    scanned_more seen'' mine'' who more pairs' same turn all e = record {
      parts = x.parts ++ more ∷ [];
      count = length-append x.parts (more ∷ []) ∙ ap (λ (z : ℕ). z + 1) x.count;
      is = e ∙ (ap (λ (l : List (List ℕ × S)). l ++ more) x.is ∙ sym (joined_snoc x.parts more));
      listings = λ k entries h. ⊎_elim
          (λ (l : (k < length x.parts) × (get_elem? x.parts k ≡ some entries)).
          let low : k < number = subst (λ (z : ℕ). k < z) x.count l.0 in
          let ne : k ≢ number = (λ e. omega arith) in
          let old = x.listings k entries l.1 in (
            there seen'' mine'' who (Some more) same turn k ne ((Lists, Listed (Some entries)) ∷ []) old.0,
            subst (λ (s : List (Entry (PartitionState S) (PartitionCalls C) (PartitionReplies S R))). ListsAll (last_of fresh s).cells entries) (sym (turn.others k ne).0) old.1,
          ))
          (λ (r : (k ≡ length x.parts) × (more ≡ entries)).
          let at : number ≡ k = sym (r.0 ∙ x.count) in
          subst (λ (z : ℕ). Did step n seen mine seen'' mine'' z ((Lists, Listed (Some entries)) ∷ []) × ListsAll (map_at seen'' z) entries) at
          (subst (λ (l : List (List ℕ × S)). Did step n seen mine seen'' mine'' number ((Lists, Listed (Some l)) ∷ []) × ListsAll (map_at seen'' number) l) r.1 (here seen'' mine'' who (Some more) same turn, all)))
          (snoc_at x.parts more k entries h);
      rest = λ k high. there seen'' mine'' who (Some more) same turn k (λ e. omega arith) [] (x.rest k (omega arith));
    }
