-- The calls of a key are those of all callers, each once, and what they add is what all callers added.
use Rattle.std.proofs.Common.{◌≡◌, ◌≢◌, ◌<◌, ◌≤◌, ◌++◌, ◌==◌, ◌∙◌, ℕ, zero, suc, Bool, true, false, cond, List, [], ◌∷◌, append_assoc, nat_lt, Option, None, ap, sym, refl, subst, arith}
use Rattle.std.specs.FinMap as fin
use Rattle.std.specs.List.Sorted.{IsPermutation}
use Rattle.std.proofs.lemmas.Bool.{eq-eqb, eqb-false, eqb-true, ltb-false, ltb-true, ne_eqb}
use Rattle.std.proofs.lemmas.List.Sorted.{IsPermutation-append_comm, IsPermutation-append_left, IsPermutation-append_right, IsPermutation-refl, IsPermutation-trans}
use Rattle.lock_book.specs.declared.view.Entry.{Entry}
use Rattle.lock_book.specs.Folds.{IsCommutativeMonoid, folded}
use Rattle.lock_book.specs.History.{calls_by, last_of}
use Rattle.lock_book.proofs.Uses.{folded_parts}
use Rattle.dshash_parts.specs.Callers.{CallersMakeAll, CellsFold, called_below, together}
use Rattle.dshash_parts.specs.Replays.{IsRun, calls_of_key, made_of}
use Rattle.dshash_parts.specs.States.{PartitionState, fresh}
use Rattle.dshash_parts.specs.declared.histories.PartitionCalls.{PartitionCalls}
use Rattle.dshash_parts.specs.declared.histories.PartitionReplies.{PartitionReplies}
use Rattle.dshash_parts.proofs.Replays.{keys_are_cells}

none_called : (S C R : Type 0) (n : ℕ) (key : List ℕ) → called_below {S = S} {C = C} {R = R} n key [] ≡ []
none_called S C R zero key = refl
none_called S C R (suc n) key = ap (λ (made : List (C × R)). made ++ []) (none_called S C R n key)

module _ {S C R : Type 0} where
  -- the call of one entry, where it was made and of this key
  abbrev first : List ℕ → Entry (PartitionState S) (PartitionCalls C) (PartitionReplies S R) → List (C × R)
  first key e = made_of key e.call e.reply

  -- one entry more, of another caller and of this one
  other_call : (n : ℕ) (e : Entry (PartitionState S) (PartitionCalls C) (PartitionReplies S R)) (es : List (Entry (PartitionState S) (PartitionCalls C) (PartitionReplies S R))) → e.by ≢ n → calls_by n (e ∷ es) ≡ calls_by n es
  other_call n e es h = ap (λ (b : Bool). cond b (e ∷ calls_by n es) (calls_by n es)) (ne_eqb e.by n h)

  own_call : (n : ℕ) (e : Entry (PartitionState S) (PartitionCalls C) (PartitionReplies S R)) (es : List (Entry (PartitionState S) (PartitionCalls C) (PartitionReplies S R))) → e.by ≡ n → calls_by n (e ∷ es) ≡ e ∷ calls_by n es
  own_call n e es h = ap (λ (b : Bool). cond b (e ∷ calls_by n es) (calls_by n es)) (eq-eqb e.by n h)

  -- an entry of a caller that is not below the number
  skipped : (n : ℕ) (key : List ℕ) (e : Entry (PartitionState S) (PartitionCalls C) (PartitionReplies S R)) (es : List (Entry (PartitionState S) (PartitionCalls C) (PartitionReplies S R))) → n ≤ e.by → called_below n key (e ∷ es) ≡ called_below n key es
  skipped zero key e es h = refl
  skipped (suc n) key e es h =
      ap (λ (made : List (C × R)). made ++ calls_of_key key (calls_by n (e ∷ es))) (skipped n key e es (omega arith))
      ∙ ap (λ (own : List (Entry (PartitionState S) (PartitionCalls C) (PartitionReplies S R))). called_below n key es ++ calls_of_key key own) (other_call n e es (λ same. absurd (omega (arith, same))))

  -- and of one that is
  taken : (n : ℕ) (key : List ℕ) (e : Entry (PartitionState S) (PartitionCalls C) (PartitionReplies S R)) (es : List (Entry (PartitionState S) (PartitionCalls C) (PartitionReplies S R))) → e.by < n → IsPermutation (called_below n key (e ∷ es)) (first key e ++ called_below n key es)
  taken zero key e es h = absurd (omega arith)
  taken (suc n) key e es h = by (e.by == n) refl (λ less. taken n key e es less)
    where
      here : List (C × R)
      here = first key e

      rest : List (C × R)
      rest = called_below n key es

      own : List (C × R)
      own = calls_of_key key (calls_by n es)

      by : (b : Bool) → (e.by == n) ≡ b → (e.by < n → IsPermutation (called_below n key (e ∷ es)) (here ++ rest)) → IsPermutation (called_below n key (e ∷ es) ++ calls_of_key key (calls_by n (e ∷ es))) (here ++ (rest ++ own))
      by true same before =
          let is : e.by ≡ n = eqb-true e.by n same in
          let all : called_below n key (e ∷ es) ++ calls_of_key key (calls_by n (e ∷ es)) ≡ (rest ++ here) ++ own =
          ap (λ (made : List (C × R)). made ++ calls_of_key key (calls_by n (e ∷ es))) (skipped n key e es (omega (arith, is)))
          ∙ ap (λ (made : List (C × R)). rest ++ made) (ap (calls_of_key key) (own_call n e es is))
          ∙ sym (append_assoc rest here own) in
          subst (λ (made : List (C × R)). IsPermutation made (here ++ (rest ++ own))) (sym all)
          (subst (λ (made : List (C × R)). IsPermutation ((rest ++ here) ++ own) made) (append_assoc here rest own)
          (IsPermutation-append_left own (rest ++ here) (here ++ rest) (IsPermutation-append_comm rest here)))
      by false differs before =
          let not_same : e.by ≢ n = eqb-false e.by n differs in
          let less : e.by < n = omega (arith, not_same) in
          let all : called_below n key (e ∷ es) ++ calls_of_key key (calls_by n (e ∷ es)) ≡ called_below n key (e ∷ es) ++ own =
          ap (λ (calls : List (Entry (PartitionState S) (PartitionCalls C) (PartitionReplies S R))). called_below n key (e ∷ es) ++ calls_of_key key calls) (other_call n e es not_same) in
          subst (λ (made : List (C × R)). IsPermutation made (here ++ (rest ++ own))) (sym all)
          (subst (λ (made : List (C × R)). IsPermutation (called_below n key (e ∷ es) ++ own) made) (append_assoc here rest own)
          (IsPermutation-append_left own (called_below n key (e ∷ es)) (here ++ rest) (before less)))

  -- an entry's caller is below the number past which nobody called, and so are the others'
  entry_below : (callers : ℕ) (e : Entry (PartitionState S) (PartitionCalls C) (PartitionReplies S R)) (es : List (Entry (PartitionState S) (PartitionCalls C) (PartitionReplies S R))) → ((n : ℕ) → callers ≤ n → calls_by n (e ∷ es) ≡ []) → e.by < callers
  entry_below callers e es none = by (nat_lt e.by callers) refl
    where
      by : (b : Bool) → nat_lt e.by callers ≡ b → e.by < callers
      by true less = ltb-true e.by callers less
      by false more = let called : e ∷ calls_by e.by es ≡ [] = sym (own_call e.by e es refl) ∙ none e.by (ltb-false e.by callers more) in absurd (cc)

  rest_none : (callers : ℕ) (e : Entry (PartitionState S) (PartitionCalls C) (PartitionReplies S R)) (es : List (Entry (PartitionState S) (PartitionCalls C) (PartitionReplies S R))) → e.by < callers → ((n : ℕ) → callers ≤ n → calls_by n (e ∷ es) ≡ []) → (n : ℕ) → callers ≤ n → calls_by n es ≡ []
  rest_none callers e es below none n past = sym (other_call n e es (λ same. absurd (omega (arith, same)))) ∙ none n past

  pub callers_make_all : CallersMakeAll S C R
  callers_make_all count key [] none = subst (λ (made : List (C × R)). IsPermutation made []) (sym (none_called S C R count key)) (IsPermutation-refl [])
  callers_make_all count key (e ∷ es) none =
      let below = entry_below count e es none in
      let rest = callers_make_all count key es (rest_none count e es below none) in
      IsPermutation-trans (called_below count key (e ∷ es)) (first key e ++ called_below count key es) (first key e ++ calls_of_key key es) (taken count key e es below)
      (IsPermutation-append_right (first key e) (called_below count key es) (calls_of_key key es) rest)

module _ {S C R M : Type 0} (op : M → M → M) (unit : M) (laws : IsCommutativeMonoid op unit) (step : Option S → C → Option S × R) (value : Option S → M) (adds : C → M)
    (none : value None ≡ unit) (grows : (s : Option S) (call : C) → value (step s call).0 ≡ op (value s) (adds call)) where
  abbrev all : List (C × R) → M
  all = together op unit adds

  all-append : (xs ys : List (C × R)) → all (xs ++ ys) ≡ op (all xs) (all ys)
  all-append [] ys = sym (laws.unit_first (all ys))
  all-append (x ∷ xs) ys = ap (op (adds x.0)) (all-append xs ys) ∙ sym (laws.associative (adds x.0) (all xs) (all ys))

  unit_last : (a : M) → op a unit ≡ a
  unit_last a = laws.commutative a unit ∙ laws.unit_first a

  -- calls of a cell add to its value what they add together
  run_value : (s : Option S) (made : List (C × R)) (t : Option S) → IsRun step s made t → value t ≡ op (value s) (all made)
  run_value s [] t run = ap value (sym run) ∙ sym (unit_last (value s))
  run_value s (m ∷ made) t run = run_value (step s m.0).0 made t run.1 ∙ (ap (λ (a : M). op a (all made)) (grows s m.0) ∙ laws.associative (value s) (adds m.0) (all made))

  entries_fold : (key : List ℕ) (es : List (Entry (PartitionState S) (PartitionCalls C) (PartitionReplies S R))) → folded op unit (λ e. all (made_of key e.call e.reply)) es ≡ all (calls_of_key key es)
  entries_fold key [] = refl
  entries_fold key (e ∷ es) = ap (op (all (made_of key e.call e.reply))) (entries_fold key es) ∙ sym (all-append (made_of key e.call e.reply) (calls_of_key key es))

pub cells_fold : {S C R M : Type 0} → CellsFold S C R M
cells_fold op unit laws step value adds none grows number callers key es lawful others =
    run_value op unit laws step value adds none grows None (calls_of_key key es) (fin.get (last_of fresh es).cells key) (keys_are_cells step number key es lawful)
    ∙ (ap (λ a. op a (together op unit adds (calls_of_key key es))) none
    ∙ (laws.unit_first (together op unit adds (calls_of_key key es))
    ∙ (sym (entries_fold op unit laws step value adds none grows key es)
    ∙ folded_parts op unit laws (λ e. together op unit adds (made_of key e.call e.reply)) callers es others)))
