-- A participant puts in one more group.
use Rattle.std.proofs.Common.{◌≡◌, ◌≤◌, ◌+◌, ◌==◌, ◌++◌, inl, inr, ⊎_elim, Bool, true, false, cond, filter, ℕ, List, [], ◌∷◌, Any, map, Option, refl, ap, sym, subst, ◌∙◌, arith, append-nil}
use Rattle.std.proofs.lemmas.List.{map-append}
use Rattle.std.proofs.lemmas.List.Elements.{All-nil, All-push, All-weaker, filter-append}
use Rattle.std.proofs.lemmas.List.Sorted.{IsPermutation-refl}
use Rattle.dsa_area.specs.Shown.{pages_mine}
use Rattle.dsa_area.specs.declared.area.Area.{Area}
use Rattle.dshash_core.specs.Key.{packed_key}
use Rattle.dshash_parts.specs.Promises.{IsMade, IsRefused}
use Rattle.dshash_parts.specs.Traces.{Event, Sight, Trace}
use Rattle.dshash_parts.specs.Within.{IsCrowdedOut}
use Rattle.par_model.specs.declared.state.AggState.{AggState}
use Rattle.agg_table.specs.Calls.{AggEntry, Group, HasPut, IsKeyed, IsLeft, IsPut, Use, WasMissed, WasTurnedAway, called, calls_at, done_in, longest_chain, made_call, partition_at}
use Rattle.dshash_parts.specs.Done.{IsMissing, IsTurnedAway, lacks}
use Rattle.row_blocks.proofs.Elements.{any_left, any_right}
use Rattle.row_blocks.proofs.Permute.{more_first, more_second}
use Rattle.dshash_parts.proofs.Causes.{causes_crowded, causes_kept, causes_lacked, causes_none}
use Rattle.dshash_parts.proofs.Done.{all_grew, all_lacks, crowded_there, done_then, made_done, missed_there, none_done, refused_misses}

abbrev IsEntry : List ℕ → AggState → AggEntry → Type 0
IsEntry key state e = IsMissing key state e.call e.reply

abbrev IsAway : List ℕ → AggState → AggEntry → Type 0
IsAway key state e = IsTurnedAway longest_chain key state e.call e.reply

-- ---- one call

module _ (step : Option AggState → AggState → Option AggState × Unit {0}) (a : Area) (n : ℕ) (g : Group) (v w : Sight AggState AggState (Unit {0})) (es : List (Event AggState AggState (Unit {0}))) (t : Trace step a n v w es) where
  abbrev key : List ℕ
  key = packed_key g.0

  abbrev number : ℕ
  number = partition_at g

  abbrev before : Use
  before = record { turns = v.mine; pages = pages_mine v.area }

  abbrev after : Use
  after = record { turns = w.mine; pages = pages_mine w.area }

  kept : (k : ℕ) → (more : List AggEntry) × (w.mine k ≡ v.mine k ++ more)
  kept k = let grew = all_grew step a n k v w es t in (grew.more, grew.grows)

  one_call : (k : ℕ) → cond {A = List Group} (number == k) ((key, g.1) ∷ []) [] ≡ calls_at k (g ∷ [])
  one_call k = by (number == k)
    where
      by : (b : Bool) → cond {A = List Group} b ((key, g.1) ∷ []) [] ≡ map called (cond {A = List Group} b (g ∷ []) [])
      by true = refl
      by false = refl

  pub is_put : (item : ℕ) (reply : Unit {0}) → IsKeyed g → IsMade number item key g.1 reply es → IsPut before after g
  is_put item reply k m = record {
    keyed = k;
    done = λ i. done_then made_call step a n i v w es t ∙ ap (λ (l : List Group). done_in (v.mine i) ++ l) (made_done made_call i number item key g.1 reply es m ∙ one_call i);
    kept = kept;
    refused = let l = all_lacks step a n v w es t in omega (arith, l);
  }

  pub is_left : (item wanted largest : ℕ) → IsRefused number item key g.1 wanted largest es → IsLeft before after g
  is_left item wanted largest r =
      let grew = all_grew step a n number v w es t in
      let there = missed_there number item key g.1 wanted largest es r grew.more grew.are in
      let one_more = refused_misses number item key g.1 wanted largest es r in
      record {
        done = λ i. done_then made_call step a n i v w es t ∙ ap (λ (l : List Group). done_in (v.mine i) ++ l) (none_done made_call i es r.none) ∙ append-nil (done_in (v.mine i));
        kept = kept;
        missed = subst (Any (IsEntry key g.1)) (sym grew.grows) (any_right (IsEntry key g.1) (v.mine number) grew.more there);
        refused = let l = all_lacks step a n v w es t in omega (arith, l);
        cause = inl (let l = all_lacks step a n v w es t in omega (arith, l, one_more));
      }

  pub is_away : (item seed : ℕ) → IsCrowdedOut number item key g.1 seed longest_chain es → IsLeft before after g
  is_away item seed r =
      let grew = all_grew step a n number v w es t in
      let there = crowded_there (IsMissing key g.1) number item key g.1 seed longest_chain es r (λ s. (refl, refl)) grew.more grew.are in
      let away = crowded_there (IsTurnedAway longest_chain key g.1) number item key g.1 seed longest_chain es r (λ s. (refl, refl, refl)) grew.more grew.are in
      record {
        done = λ i. done_then made_call step a n i v w es t ∙ ap (λ (l : List Group). done_in (v.mine i) ++ l) (none_done made_call i es r.none) ∙ append-nil (done_in (v.mine i));
        kept = kept;
        missed = subst (Any (IsEntry key g.1)) (sym grew.grows) (any_right (IsEntry key g.1) (v.mine number) grew.more there);
        refused = let l = all_lacks step a n v w es t in omega (arith, l);
        cause = inr (subst (Any (IsAway key g.1)) (sym grew.grows) (any_right (IsAway key g.1) (v.mine number) grew.more away));
      }

-- ---- one group more

still_missed : (u v : Use) → ((number : ℕ) → (more : List AggEntry) × (v.turns number ≡ u.turns number ++ more)) → (g : Group) → WasMissed u.turns g → WasMissed v.turns g
still_missed u v kept g m =
    let k = kept (partition_at g) in
    subst (Any (IsEntry (packed_key g.0) g.1)) (sym k.1) (any_left (IsEntry (packed_key g.0) g.1) (u.turns (partition_at g)) k.0 m)

still_away : (u v : Use) → ((number : ℕ) → (more : List AggEntry) × (v.turns number ≡ u.turns number ++ more)) → (g : Group) → WasTurnedAway u.turns g → WasTurnedAway v.turns g
still_away u v kept g m =
    let k = kept (partition_at g) in
    subst (Any (IsAway (packed_key g.0) g.1)) (sym k.1) (any_left (IsAway (packed_key g.0) g.1) (u.turns (partition_at g)) k.0 m)

calls_more : (k : ℕ) (gs : List Group) (g : Group) → calls_at k gs ++ calls_at k (g ∷ []) ≡ calls_at k (gs ++ g ∷ [])
calls_more k gs g =
    let here = λ (x : Group). partition_at x == k in
    sym (ap (map called) (filter-append here gs (g ∷ [])) ∙ map-append called (filter here gs) (filter here (g ∷ [])))

pub has_put_more : (gs put left : List Group) (u v : Use) (g : Group) → HasPut gs u put left → IsPut u v g → HasPut (gs ++ g ∷ []) v (put ++ g ∷ []) left
has_put_more gs put left u v g h p = record {
  all = more_first gs put left g h.all;
  keyed = All-push IsKeyed put g h.keyed p.keyed;
  done = λ k. p.done k ∙ ap (λ (l : List Group). l ++ calls_at k (g ∷ [])) (h.done k) ∙ calls_more k put g;
  missed = All-weaker (WasMissed u.turns) (WasMissed v.turns) (still_missed u v p.kept) left h.missed;
  causes = causes_kept (WasTurnedAway u.turns) (WasTurnedAway v.turns) (still_away u v p.kept) left (lacks u.pages) (lacks v.pages) h.causes p.refused;
}

pub has_left_more : (gs put left : List Group) (u v : Use) (g : Group) → HasPut gs u put left → IsLeft u v g → HasPut (gs ++ g ∷ []) v put (left ++ g ∷ [])
has_left_more gs put left u v g h p = record {
  all = more_second gs put left g h.all;
  keyed = h.keyed;
  done = λ k. p.done k ∙ h.done k;
  missed = All-push (WasMissed v.turns) left g (All-weaker (WasMissed u.turns) (WasMissed v.turns) (still_missed u v p.kept) left h.missed) p.missed;
  causes = ⊎_elim
      (λ (more : lacks u.pages + 1 ≤ lacks v.pages). causes_lacked (WasTurnedAway u.turns) (WasTurnedAway v.turns) (still_away u v p.kept) left (lacks u.pages) (lacks v.pages) h.causes g more)
      (λ (away : WasTurnedAway v.turns g). causes_crowded (WasTurnedAway u.turns) (WasTurnedAway v.turns) (still_away u v p.kept) left (lacks u.pages) (lacks v.pages) h.causes g p.refused away)
      p.cause;
}

-- a participant that has done nothing
pub has_put_nothing : (u : Use) → ((number : ℕ) → u.turns number ≡ []) → HasPut [] u [] []
has_put_nothing u none = record { all = IsPermutation-refl []; keyed = All-nil IsKeyed; done = λ k. ap done_in (none k); missed = All-nil (WasMissed u.turns); causes = causes_none (WasTurnedAway u.turns) (lacks u.pages) }
