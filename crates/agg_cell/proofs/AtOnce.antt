-- The combined state of some states, added once under a key, gives the map that these give, one after another.
use Rattle.std.proofs.Common.{◌≡◌, ◌<◌, ◌+◌, ◌^◌, ◌∙◌, ℕ, List, [], ◌∷◌, Bool, true, false, cond, Option, Some, None, fold, ap, sym, refl, arith}
use Rattle.std.specs.Cmp.Lexicographic.{slice_cmp, nat_list_cmp_total}
use Rattle.std.specs.FinMap as fin
use Rattle.std.specs.List.{sum_by}
use Rattle.std.specs.Option.{option_to_list}
use Rattle.std.specs.Ordering.{eq_by_cmp, nat_cmp}
use Rattle.std.proofs.lemmas.List.Sums.{sum_by-append, sum_by-cons}
use Rattle.par_model.specs.declared.state.AggState.{AggState}
use Rattle.partial_agg.specs.Groups.{GroupsByKey, added, joined}
use Rattle.partial_agg.specs.State.{combined}
use Rattle.partial_agg.proofs.Combining.{associates}
use Rattle.dshash_core.proofs.Maps.{same_key}
use Rattle.agg_cell.specs.Called.{AddsAtOnce, count_at, with_states}
use Rattle.agg_cell.proofs.Combining.{count-combined, count_in, three_fit}

-- of two states that are put in under one key the second stays
put_twice : (groups : GroupsByKey) (key : List ℕ) (a b : AggState) → fin.insert (fin.insert groups key a) key b ≡ fin.insert groups key b
put_twice groups key a b = fin.same_map nat_list_cmp_total (fin.slice_cmp-IsAntisymmetric fin.nat_cmp-IsAntisymmetric) (fin.insert (fin.insert groups key a) key b) (fin.insert groups key b) (λ q.
    fin.get-insert nat_list_cmp_total (fin.insert groups key a) key b q
    ∙ ap (λ (o : Option AggState). cond (eq_by_cmp (slice_cmp nat_cmp) q key) (Some b) o) (fin.get-insert nat_list_cmp_total groups key a q)
    ∙ by (eq_by_cmp (slice_cmp nat_cmp) q key) (fin.get groups q)
    ∙ sym (fin.get-insert nat_list_cmp_total groups key b q))
  where
    by : (same : Bool) (o : Option AggState) → cond same (Some b) (cond same (Some a) o) ≡ cond same (Some b) o
    by true o = refl
    by false o = refl

joined-assoc : (before : Option AggState) (a b : AggState) → ((i : ℕ) → count_in i before + count_at i a + count_at i b < 2 ^ 64) → combined (joined before a) b ≡ joined before (combined a b)
joined-assoc None a b fits = refl
joined-assoc (Some s) a b fits = associates s a b (three_fit s.slots a.slots b.slots fits)

-- two states, one after the other
twice : (groups : GroupsByKey) (key : List ℕ) (a b : AggState) → ((i : ℕ) → count_in i (fin.get groups key) + count_at i a + count_at i b < 2 ^ 64) → added (added groups key a) key b ≡ added groups key (combined a b)
twice groups key a b fits =
    let before = fin.get groups key in
    let stands : fin.get (added groups key a) key ≡ Some (joined before a) =
    fin.get-insert nat_list_cmp_total groups key (joined before a) key ∙ ap (λ (same : Bool). cond same (Some (joined before a)) before) (same_key key key refl) in
    ap (λ (o : Option AggState). fin.insert (added groups key a) key (joined o b)) stands
    ∙ put_twice groups key (joined before a) (combined (joined before a) b)
    ∙ ap (λ (s : AggState). fin.insert groups key s) (joined-assoc before a b fits)

in_turn : (groups : GroupsByKey) (key : List ℕ) (state : AggState) (states : List AggState) → ((i : ℕ) → count_in i (fin.get groups key) + sum_by (count_at i) (state ∷ states) < 2 ^ 64)
    → added groups key (fold combined state states) ≡ with_states groups key (state ∷ states)
in_turn groups key state [] fits = refl
in_turn groups key state (next ∷ states) fits =
    in_turn groups key (combined state next) states
    (λ i. omega (arith, fits i, count-combined i state next, sum_by-cons (count_at i) (combined state next) states, sum_by-cons (count_at i) state (next ∷ states), sum_by-cons (count_at i) next states))
    ∙ ap (λ (m : GroupsByKey). with_states m key states) (sym (twice groups key state next (λ i. omega (arith, fits i, sum_by-cons (count_at i) state (next ∷ states), sum_by-cons (count_at i) next states))))

count-before : (i : ℕ) (before : Option AggState) → sum_by (count_at i) (option_to_list before) ≡ count_in i before
count-before i None = refl
count-before i (Some s) = omega (arith, sum_by-cons (count_at i) s [])

pub at_once : AddsAtOnce
at_once groups key [] state is fits = absurd (cc)
at_once groups key (first ∷ states) state is fits =
    let same : fold combined first states ≡ state = cc in
    ap (added groups key) (sym same)
    ∙ in_turn groups key first states (λ i. omega (arith, fits i, sum_by-append (count_at i) (option_to_list (fin.get groups key)) (first ∷ states), count-before i (fin.get groups key)))
