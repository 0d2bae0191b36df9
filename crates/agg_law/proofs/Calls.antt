-- What a key of the table was called with: the states of all groups of the key that the participants put in.
use Rattle.std.proofs.Common.{◌≡◌, ◌≢◌, ◌<◌, ◌≤◌, ◌⊎◌, inl, inr, ◌++◌, ◌==◌, ℕ, zero, suc, Bool, true, false, cond, List, [], ◌∷◌, filter, get_or, length, map as map_list, take, refl, ap, sym, subst, ◌∙◌, arith, append-nil}
use Rattle.std.specs.List.{AllByRecursion, flat_map}
use Rattle.std.specs.List.Sorted.{IsPermutation}
use Rattle.std.proofs.Math.Seq.{take-suc}
use Rattle.std.proofs.lemmas.Bool.{eq-eqb}
use Rattle.std.proofs.lemmas.List.{take_all}
use Rattle.std.proofs.lemmas.List.Concat.{flat_map-append}
use Rattle.std.proofs.lemmas.List.Elements.{recursion_from_All}
use Rattle.std.proofs.lemmas.Option.{slice_get-get_or}
use Rattle.agg_cell.specs.Called.{Seen, all_combined, called as called_states, called_below, stands}
use Rattle.agg_cell.proofs.Callers.{callers}
use Rattle.agg_cell.proofs.CellRuns.{cells}
use Rattle.agg_table.specs.Calls.{Group, IsKeyed, called, calls_at, partition_at}
use Rattle.agg_table.specs.Drained.{HoldsAll}
use Rattle.agg_table.proofs.Listed.{packed_once}
use Rattle.agg_table.proofs.Standing.{called-done, states_of}
use Rattle.dshash_core.specs.Cells.{partition_of}
use Rattle.dshash_core.specs.Key.{hash_of, packed_key}
use Rattle.dshash_core.proofs.Maps.{keys_same_or_not}
use Rattle.dshash_parts.proofs.Uses.{partition_low}
use Rattle.lock_book.specs.History.{calls_by}
use Rattle.par_model.specs.declared.state.AggState.{AggState}
use Rattle.rel_pointer.specs.Bytes.{AllBytes}
use Rattle.agg_law.proofs.States.{states-append, states-here, states-other}

module _ (key : List ℕ) (bytes : AllBytes key) (short : length key ≤ 248) where
  abbrev at : ℕ
  at = partition_of (hash_of (packed_key key))

  -- the calls of the key in its partition are those of its groups
  put_states : (put : List Group) → AllByRecursion IsKeyed put → states_of (packed_key key) (calls_at at put) ≡ states_of key put
  put_states [] keyed = refl
  put_states (g ∷ put) keyed = by (put_states put keyed.1) (keys_same_or_not key g.0)
    where
      by : states_of (packed_key key) (calls_at at put) ≡ states_of key put → (key ≡ g.0) ⊎ (key ≢ g.0) → states_of (packed_key key) (map_list called (cond {A = List Group} (partition_at g == at) (g ∷ filter (λ (x : Group). partition_at x == at) put) (filter (λ (x : Group). partition_at x == at) put))) ≡ states_of key (g ∷ put)
      by rest (inl same) =
          let here : (partition_at g == at) ≡ true = eq-eqb (partition_at g) at (ap (λ (k : List ℕ). partition_of (hash_of (packed_key k))) (sym same)) in
          ap (λ b. states_of (packed_key key) (map_list called (cond {A = List Group} b (g ∷ filter (λ (x : Group). partition_at x == at) put) (filter (λ (x : Group). partition_at x == at) put)))) here
          ∙ states-here (packed_key key) (called g) (calls_at at put) (ap (λ (k : List ℕ). packed_key k) same)
          ∙ ap (λ (ss : List AggState). g.1 ∷ ss) rest ∙ sym (states-here key g put same)
      by rest (inr differ) = skip (partition_at g == at) ∙ rest ∙ sym (states-other key g put differ)
        where
          skip : (b : Bool) → states_of (packed_key key) (map_list called (cond {A = List Group} b (g ∷ filter (λ (x : Group). partition_at x == at) put) (filter (λ (x : Group). partition_at x == at) put))) ≡ states_of (packed_key key) (calls_at at put)
          skip true = states-other (packed_key key) (called g) (calls_at at put) (λ e. differ (packed_once key g.0 bytes keyed.0.bytes short e))
          skip false = refl

  module _ (history : Seen) (puts : List (List Group)) (held : HoldsAll history puts) where
    low : at < 128
    low = partition_low (packed_key key)

    one_caller : (n : ℕ) → n < length puts → called_states (packed_key key) (calls_by n (history at)) ≡ states_of key (get_or puts n [])
    one_caller n within =
        let there = slice_get-get_or puts n [] within in
        called-done (packed_key key) (calls_by n (history at))
        ∙ ap (states_of (packed_key key)) (held.done n at (get_or puts n []) there low)
        ∙ put_states (get_or puts n []) (recursion_from_All IsKeyed (get_or puts n []) (held.keyed n (get_or puts n []) there))

    first_callers : (n : ℕ) → n ≤ length puts → called_below n (packed_key key) (history at) ≡ states_of key (flat_map (λ (put : List Group). put) (take n puts))
    first_callers zero within = refl
    first_callers (suc n) within =
        ap (λ (ss : List AggState). ss ++ called_states (packed_key key) (calls_by n (history at))) (first_callers n (omega (arith, within)))
        ∙ ap (λ (ss : List AggState). states_of key (flat_map (λ (put : List Group). put) (take n puts)) ++ ss) (one_caller n (omega (arith, within)))
        ∙ sym (states-append key (flat_map (λ (put : List Group). put) (take n puts)) (get_or puts n []))
        ∙ ap (λ (gs : List Group). states_of key (flat_map (λ (put : List Group). put) (take n puts) ++ gs)) (sym (append-nil (get_or puts n [])))
        ∙ ap (states_of key) (sym (flat_map-append (λ (put : List Group). put) (take n puts) (get_or puts n [] ∷ [])))
        ∙ ap (λ (ps : List (List Group)). states_of key (flat_map (λ (put : List Group). put) ps)) (sym (take-suc puts n [] (omega (arith, within))))

    -- what a key was called with are the states of its groups, in some order
    pub called_are : IsPermutation (states_of key (flat_map (λ (put : List Group). put) puts)) (called_states (packed_key key) (history at))
    called_are =
        subst (λ ss. IsPermutation ss (called_states (packed_key key) (history at)))
        (first_callers (length puts) (omega arith) ∙ ap (λ (ps : List (List Group)). states_of key (flat_map (λ (put : List Group). put) ps)) (take_all (length puts) puts (omega arith)))
        (callers (length puts) (packed_key key) (history at) (λ n past. held.no_others n at past low))

    -- what stands under a key is all that it was called with
    pub stands_combined : stands history (packed_key key) ≡ all_combined (called_states (packed_key key) (history at))
    stands_combined = cells at (packed_key key) (history at) (held.lawful at low)
