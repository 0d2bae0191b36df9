-- The maps of shares put together, by halves.
use Rattle.std.proofs.Common.{◌≡◌, ◌<◌, ◌+◌, ◌^◌, ◌++◌, ℕ, zero, suc, List, [], ◌∷◌, All, Some, fold, length, map as map_list, drop, replicate, take, take-append-drop, refl, ap, sym, subst, ◌∙◌, arith, length-append, append-nil}
use Rattle.std.specs.List.{AllZip}
use Rattle.std.proofs.lemmas.List.Concat.{flat_map-append}
use Rattle.std.proofs.lemmas.List.Sorted.{All-permutation, IsPermutation-sym, length_permutation}
use Rattle.std.proofs.lemmas.List.Elements.{All-cons, All-head, All-nil, All-same, All-tail}
use Rattle.par_model.specs.Plan.{Plan}
use Rattle.std.specs.FinMap as fin
use Rattle.std.specs.Prelude.{slice_get}
use Rattle.par_model.specs.declared.state.AggState.{AggState}
use Rattle.partial_agg.specs.Groups.{AreGroups, GroupsByKey, added, with_groups}
use Rattle.partial_agg.specs.Listed.{group, listed}
use Rattle.partial_agg.specs.declared.groups.Group.{Group}
use Rattle.partial_agg.specs.Rows.{IsAccepted}
use Rattle.partial_agg.proofs.AnyOrder.{in_any_order}
use Rattle.partial_agg.proofs.Joining.{maps_join}
use Rattle.row_blocks.specs.Blocks.{Table}
use Rattle.gather_law.specs.Shares.{AreShared, together}
use Rattle.split_run.specs.Together.{Joins}

-- shares of the front of some maps, and of the back
record Halves (plan : Plan) (front back : List GroupsByKey) (shares : List Table) : Type 0 where
  first : List Table
  second : List Table
  are : shares ≡ first ++ second
  low : AllZip (AreGroups plan) first front
  high : AllZip (AreGroups plan) second back

halves : (plan : Plan) (front back : List GroupsByKey) (shares : List Table) → AllZip (AreGroups plan) shares (front ++ back) → Halves plan front back shares
halves plan [] back shares z = record { first = []; second = shares; are = refl; low = tt; high = z }
halves plan (m ∷ front) back [] z = absurd z
halves plan (m ∷ front) back (share ∷ shares) z =
    let h = halves plan front back shares z.1 in
    record { first = share ∷ h.first; second = h.second; are = ap (λ (l : List Table). share ∷ l) h.are; low = (z.0, h.low); high = h.high }

module _ (plan : Plan) (width : ℕ) where
  abbrev Accepted : Table → Type 0
  Accepted rows = All (IsAccepted plan width) rows

  apart : (xs ys : Table) → Accepted (xs ++ ys) → Accepted xs × Accepted ys
  apart [] ys h = (All-nil (IsAccepted plan width), h)
  apart (x ∷ xs) ys h =
      let more = apart xs ys (All-tail (IsAccepted plan width) x (xs ++ ys) h) in
      (All-cons (IsAccepted plan width) x xs (All-head (IsAccepted plan width) x (xs ++ ys) h) more.0, more.1)

pub joins_both : (front back : List GroupsByKey) (first second : GroupsByKey) → Joins front first → Joins back second → Joins (front ++ back) (with_groups first second)
joins_both front back first second low high plan width shares z fine few =
    let h = halves plan front back shares z in
    let cut : together shares ≡ together h.first ++ together h.second = ap together h.are ∙ flat_map-append (λ (share : Table). share) h.first h.second in
    let both = apart plan width (together h.first) (together h.second) (All-same (IsAccepted plan width) (together h.first ++ together h.second) (together shares) (sym cut) fine) in
    let long : length (together shares) ≡ length (together h.first) + length (together h.second) = ap (λ (l : Table). length l) cut ∙ length-append (together h.first) (together h.second) in
    subst (λ (l : Table). AreGroups plan l (with_groups first second)) (sym cut)
    (maps_join plan width (together h.first) (together h.second) first second both.0 both.1 (omega (arith, few, long)) (low plan width h.first h.low both.0 (omega (arith, few, long)))
    (high plan width h.second h.high both.1 (omega (arith, few, long))))

pub joins_none : (m : GroupsByKey) → ((plan : Plan) → AreGroups plan [] m) → Joins [] m
joins_none m none plan width [] z fine few = none plan
joins_none m none plan width (share ∷ shares) z fine few = absurd z

pub joins_one : (m : GroupsByKey) → Joins (m ∷ []) m
joins_one m plan width [] z fine few = absurd z
joins_one m plan width (share ∷ []) z fine few = subst (λ (l : Table). AreGroups plan l m) (sym (append-nil share)) z.0
joins_one m plan width (share ∷ other ∷ shares) z fine few = absurd z.1

-- the map of shares of rows is that of the rows
pub joined_rows : (maps : List GroupsByKey) (whole : GroupsByKey) → Joins maps whole → (plan : Plan) (width : ℕ) (rows : Table) → AreShared plan width rows maps → length rows < 2 ^ 64 → AreGroups plan rows whole
joined_rows maps whole joins plan width rows shared few =
    let mine = together shared.shares in
    let fine : All (IsAccepted plan width) mine = All-permutation (IsAccepted plan width) rows mine (IsPermutation-sym mine rows shared.same) shared.accepted in
    let size = length_permutation mine rows shared.same in
    let are = joins plan width shared.shares shared.each fine (omega (arith, size, few)) in
    record { each = λ q. are.each q ∙ sym (in_any_order plan width mine rows q fine shared.same) }

-- ---- a list, element by element

pub replicate_more : {X : Type 0} (n : ℕ) (x : X) → replicate n x ++ x ∷ [] ≡ replicate (n + 1) x
replicate_more zero x = refl
replicate_more {X = X} (suc n) x = ap (λ (l : List X). x ∷ l) (replicate_more n x) ∙ ap (λ k. replicate k x) (let e : suc (n + 1) ≡ suc n + 1 = omega arith in e)

pub only : {X : Type 0} (old new : List X) (x : X) → old ≡ new ++ x ∷ [] → length old < 2 → old ≡ x ∷ []
only old [] x e few = e
only old (y ∷ new) x e few = absurd (omega (arith, few, ap length e, length-append (y ∷ new) (x ∷ [])))

abbrev Entries : Type 0
Entries = List (List ℕ × AggState)

abbrev step : GroupsByKey → List ℕ × AggState → GroupsByKey
step so_far entry = added so_far entry.0 entry.1

next_entry : (es : Entries) (groups : GroupsByKey) (at : ℕ) (g : Group) → slice_get (map_list group es) at ≡ Some g → added (fold step groups (take at es)) g.key g.state ≡ fold step groups (take (at + 1) es)
next_entry [] groups at g e = cc e
next_entry (x ∷ es) groups zero g e = let is : group x ≡ g = cc e in ap (λ (h : Group). added groups h.key h.state) (sym is)
next_entry (x ∷ es) groups (suc at) g e = next_entry es (step groups x) at g e ∙ ap (λ k. fold step groups (take k (x ∷ es))) (let n : suc (at + 1) ≡ suc at + 1 = omega arith in n)

pub added_next : (groups others mid new : GroupsByKey) (at : ℕ) (g : Group) → slice_get (listed others) at ≡ Some g → mid ≡ fold step groups (take at (fin.entries others)) → new ≡ added mid g.key g.state
    → new ≡ fold step groups (take (at + 1) (fin.entries others))
added_next groups others mid new at g e before here = here ∙ ap (λ (m : GroupsByKey). added m g.key g.state) before ∙ next_entry (fin.entries others) groups at g e

-- a list that was cut
pub whole_of : {X : Type 0} (n : ℕ) (all front back : List X) → front ≡ take n all → back ≡ drop n all → front ++ back ≡ all
whole_of n all front back f b = cc (f, b, take-append-drop n all)
