-- What stands in a partition of a table that has what its participants put in: under keys of groups alone, and under each
-- of them all that was called with it.
use Rattle.std.proofs.Common.{◌≡◌, ◌≢◌, ◌<◌, ◌≤◌, ◌⊎◌, inl, inr, ◌++◌, ◌==◌, ℕ, Bool, true, false, cond, List, [], ◌∷◌, Some, None, filter, get_or, is_some, length, map as map_list, slice_get, refl, ap, sym, subst, ◌∙◌}
use Rattle.std.specs.Cmp.Lexicographic.{slice_cmp}
use Rattle.std.specs.FinMap as fin
use Rattle.std.specs.List.{AllByRecursion}
use Rattle.std.specs.Ordering.{eq_by_cmp, nat_cmp}
use Rattle.std.proofs.lemmas.Bool.{eq-eqb, eqb-true}
use Rattle.std.proofs.lemmas.List.{map-append}
use Rattle.std.proofs.lemmas.List.Elements.{filter-append, recursion_from_All}
use Rattle.std.proofs.lemmas.Option.{slice_get_cases}
use Rattle.std.proofs.lemmas.Map.Lookups.{exact_bytes}
use Rattle.std.proofs.lemmas.Map.Views.{tells_apart}
use Rattle.agg_cell.specs.Called.{all_combined, called as called_states}
use Rattle.agg_cell.proofs.CellRuns.{cells}
use Rattle.dshash_core.specs.Cells.{partition_of}
use Rattle.dshash_core.specs.Key.{IsPackedKey, hash_of, packed_key}
use Rattle.dshash_core.proofs.Keys.{is_packed}
use Rattle.dshash_parts.specs.Replays.{calls_of_key, made_of}
use Rattle.dshash_parts.specs.States.{fresh}
use Rattle.dshash_parts.specs.declared.histories.PartitionCalls.TheVariants.{Call, Looks, Moves, Lists}
use Rattle.dshash_parts.specs.declared.histories.PartitionReplies.TheVariants.{Made, LacksItem, HasToGrow, Crowded, HasSize, Moved, Listed}
use Rattle.lock_book.specs.History.{calls_by, last_of}
use Rattle.par_model.specs.declared.state.AggState.{AggState}
use Rattle.agg_table.specs.Calls.{AggCall, AggEntry, AggReply, Group, IsKeyed, called, calls_at, done_in, done_of, partition_at}
use Rattle.agg_table.specs.Drained.{HoldsAll}

-- ---- lists

all_front : {X : Type 0} (P : X → Type 0) (xs ys : List X) → AllByRecursion P (xs ++ ys) → AllByRecursion P xs
all_front P [] ys h = tt
all_front P (x ∷ xs) ys h = (h.0, all_front P xs ys h.1)

all_back : {X : Type 0} (P : X → Type 0) (xs ys : List X) → AllByRecursion P (xs ++ ys) → AllByRecursion P ys
all_back P [] ys h = h
all_back P (x ∷ xs) ys h = all_back P xs ys h.1

all_both : {X : Type 0} (P : X → Type 0) (xs ys : List X) → AllByRecursion P xs → AllByRecursion P ys → AllByRecursion P (xs ++ ys)
all_both P [] ys h k = k
all_both P (x ∷ xs) ys h k = (h.0, all_both P xs ys h.1 k)

-- a list of which some pass has one that does
some_passes : {X : Type 0} (P : X → Type 0) (p : X → Bool) (xs : List X) → AllByRecursion P xs → filter p xs ≢ [] → (x : X) × (p x ≡ true) × P x
some_passes P p [] all some = absurd (some refl)
some_passes {X = X} P p (x ∷ xs) all some = by (p x) refl (some_passes P p xs all.1) some
  where
    by : (b : Bool) → p x ≡ b → (filter p xs ≢ [] → (y : X) × (p y ≡ true) × P y) → cond {A = List X} b (x ∷ filter p xs) (filter p xs) ≢ [] → (y : X) × (p y ≡ true) × P y
    by true e rest h = (x, e, all.0)
    by false e rest h = rest h

-- ---- the calls of a key are those that were made with it

abbrev pub is_key : List ℕ → Group → Bool
is_key key call = eq_by_cmp (slice_cmp nat_cmp) key call.0

-- the states of a key among some calls
abbrev pub states_of : List ℕ → List Group → List AggState
states_of key calls = map_list (λ (c : Group). c.1) (filter (is_key key) calls)

one_call : (key : List ℕ) (call : AggCall) (reply : AggReply) → map_list (λ (m : AggState × Unit {0}). m.0) (made_of key call reply) ≡ states_of key (done_of call reply)
one_call key (Call k state spare) (Made reply unused freed) = by (eq_by_cmp (slice_cmp nat_cmp) key k)
  where
    by : (b : Bool) → map_list (λ (m : AggState × Unit {0}). m.0) (cond {A = List (AggState × Unit {0})} b ((state, reply) ∷ []) []) ≡ map_list (λ (c : Group). c.1) (cond {A = List Group} b ((k, state) ∷ []) [])
    by true = refl
    by false = refl
one_call key (Call k state spare) LacksItem = refl
one_call key (Call k state spare) (HasToGrow size back) = refl
one_call key (Call k state spare) (Crowded seed longest back) = refl
one_call key (Call k state spare) (HasSize size keys) = refl
one_call key (Call k state spare) (Moved left) = refl
one_call key (Call k state spare) (Listed entries) = refl
one_call key Looks reply = refl
one_call key (Moves to) reply = refl
one_call key Lists reply = refl

pub called-done : (key : List ℕ) (es : List AggEntry) → called_states key es ≡ states_of key (done_in es)
called-done key [] = refl
called-done key (e ∷ es) =
    map-append (λ (m : AggState × Unit {0}). m.0) (made_of key e.call e.reply) (calls_of_key key es)
    ∙ ap (λ (l : List AggState). l ++ called_states key es) (one_call key e.call e.reply)
    ∙ ap (λ (l : List AggState). states_of key (done_of e.call e.reply) ++ l) (called-done key es)
    ∙ sym (map-append (λ (c : Group). c.1) (filter (is_key key) (done_of e.call e.reply)) (filter (is_key key) (done_in es)))
    ∙ ap (map_list (λ (c : Group). c.1)) (sym (filter-append (is_key key) (done_of e.call e.reply) (done_in es)))

-- ---- all calls of a history

-- what holds of the calls of each caller holds of all
from_callers : (P : Group → Type 0) (es : List AggEntry) → ((n : ℕ) → AllByRecursion P (done_in (calls_by n es))) → AllByRecursion P (done_in es)
from_callers P [] h = tt
from_callers P (e ∷ es) h =
    all_both P (done_of e.call e.reply) (done_in es) (all_front P (done_of e.call e.reply) (done_in (calls_by e.by es)) own) (from_callers P es (λ n. others n (e.by == n) (h n)))
  where
    own : AllByRecursion P (done_in (e ∷ calls_by e.by es))
    own = subst (λ b. AllByRecursion P (done_in (cond {A = List AggEntry} b (e ∷ calls_by e.by es) (calls_by e.by es)))) (eq-eqb e.by e.by refl) (h e.by)

    others : (n : ℕ) (b : Bool) → AllByRecursion P (done_in (cond {A = List AggEntry} b (e ∷ calls_by n es) (calls_by n es))) → AllByRecursion P (done_in (calls_by n es))
    others n true k = all_back P (done_of e.call e.reply) (done_in (calls_by n es)) k
    others n false k = k

-- a key of a group, and of this partition
pub record IsHere (i : ℕ) (key : List ℕ) : Type 0 where
  pub packed : IsPackedKey key
  pub here : partition_of (hash_of key) ≡ i

abbrev CallsHere : ℕ → List Group → Type 0
CallsHere i calls = AllByRecursion (λ (c : Group). IsHere i c.0) calls

put_here : (i : ℕ) (put : List Group) → AllByRecursion IsKeyed put → CallsHere i (calls_at i put)
put_here i [] keyed = tt
put_here i (g ∷ put) keyed = by (partition_at g == i) refl (put_here i put keyed.1)
  where
    by : (b : Bool) → (partition_at g == i) ≡ b → CallsHere i (calls_at i put) → CallsHere i (map_list called (cond {A = List Group} b (g ∷ filter (λ (x : Group). partition_at x == i) put) (filter (λ (x : Group). partition_at x == i) put)))
    by true e rest = (record { packed = is_packed (packed_key g.0) g.0 keyed.0.bytes keyed.0.short refl; here = eqb-true (partition_at g) i e }, rest)
    by false e rest = rest

module _ (history : ℕ → List AggEntry) (puts : List (List Group)) (held : HoldsAll history puts) (i : ℕ) (low : i < 128) where
  calls_here : CallsHere i (done_in (history i))
  calls_here = from_callers (λ (c : Group). IsHere i c.0) (history i) (λ n. by n (slice_get_cases puts n).1)
    where
      by : (n : ℕ) → ((put : List Group) × (n < length puts) × (slice_get puts n ≡ Some put) × (get_or puts n put ≡ put)) ⊎ ((length puts ≤ n) × (slice_get puts n ≡ None)) → CallsHere i (done_in (calls_by n (history i)))
      by n (inl x) = subst (CallsHere i) (sym (held.done n i x.0 x.2 low)) (put_here i x.0 (recursion_from_All IsKeyed x.0 (held.keyed n x.0 x.2)))
      by n (inr x) = subst (λ es. CallsHere i (done_in es)) (sym (held.no_others n i x.0 low)) tt

  -- each key that has a state
  pub stands_here : (key : List ℕ) → fin.contains_key (last_of fresh (history i)).cells key ≡ true → IsHere i key
  stands_here key there =
      let some = some_passes (λ (c : Group). IsHere i c.0) (is_key key) (done_in (history i)) calls_here called_some in
      subst (IsHere i) (sym (tells_apart exact_bytes key some.0.0 some.1)) some.2
    where
      combines : (states : List AggState) → states ≡ [] → is_some (all_combined states) ≡ true → ⊥
      combines [] e h = absurd (cc)
      combines (s ∷ states) e h = absurd (cc)

      called_some : filter (is_key key) (done_in (history i)) ≢ []
      called_some none =
          combines (called_states key (history i)) (called-done key (history i) ∙ ap (map_list (λ (c : Group). c.1)) none)
          (ap is_some (sym (cells i key (history i) (held.lawful i low))) ∙ there)
