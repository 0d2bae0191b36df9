-- Stretches that are put together, one after another: what they come to so far.
use Rattle.std.proofs.Common.{◌≡◌, ◌≢◌, ◌==◌, ◌<◌, ◌≤◌, ◌+◌, ◌^◌, ◌++◌, ◌∙◌, ◌⊎◌, inl, inr, ℕ, List, [], ◌∷◌, All, Contains, None, Option, Some, ap, append_assoc, append-nil, arith, cond, fold, length, length-append, map, refl, subst, sym}
use Rattle.std.specs.List.{flat_map}
use Rattle.std.proofs.lemmas.Bool.Decides.{nat_tests}
use Rattle.std.proofs.lemmas.Grind.{flat_map-append}
use Rattle.std.proofs.lemmas.List.{map-append}
use Rattle.std.proofs.lemmas.List.Elements.{All-nil, All-push, Contains-append_left, Contains-push}
use Rattle.std.proofs.lemmas.List.Sums.{fold_push, sum_by-append, sum_by_push}
use Rattle.state_cover.specs.Bytes.{DifferInSize, had, rows_in, rows_of}
use Rattle.state_cover.specs.Faults.{IsNoCover, IsNoPair}
use Rattle.state_cover.specs.Joined.{AreInTouch, IsJoinOf, IsPutTo, IsRun, Run, Touches, joined, joined_rows, stretches_in, whole_of}
use Rattle.state_cover.specs.declared.joining.CoverFault.{CoverFault}
use Rattle.state_cover.specs.declared.joining.CoverFault.TheVariants.{Many, Memory, Size, Twice}
use Rattle.state_cover.specs.declared.joining.CoverFault.TheVariants as fault
use Rattle.state_cover.proofs.Counts.{had-append, had-push, it_has, joined_has, one, one_of}
use Rattle.state_head.specs.Cover.{AreRows, AreStretches, IsAfter, IsPlace, IsStretch}
use Rattle.state_head.specs.declared.cover.Place.{Place}
use Rattle.state_head.specs.declared.cover.Rows.{Rows}
use Rattle.state_head.specs.declared.cover.Rows.TheVariants.{Counted, Refused}
use Rattle.state_head.specs.declared.cover.Stretch.{Stretch}

-- ---- rows

-- the rows of one stretch, if it is of this source
abbrev pub rows_one : ℕ → Stretch → ℕ
rows_one source s = cond (s.place.source == source) (rows_of s.rows) 0

rows-push : (source : ℕ) (a : List Stretch) (s : Stretch) → rows_in source (a ++ s ∷ []) ≡ rows_in source a + rows_one source s
rows-push source a s = sum_by_push (rows_one source) a s

joined_few : (a b : Rows) → rows_of (joined_rows a b) ≤ rows_of a + rows_of b
joined_few (Counted rows) (Counted more) = omega arith
joined_few (Counted rows) (Refused why) = omega arith
joined_few (Refused why) b = omega arith

cond_few : (p q s x y z : ℕ) → p ≡ q → z ≤ x + y → cond (p == s) z 0 ≤ cond (p == s) x 0 + cond (q == s) y 0
cond_few p q s x y z e few = grind (arith, nat_tests)

joined_rows_few : (source : ℕ) (a b : Stretch) → Touches a.place b.place → rows_one source (joined a b) ≤ rows_one source a + rows_one source b
joined_rows_few source a b touch =
    cond_few a.place.source b.place.source source (rows_of a.rows) (rows_of b.rows) (rows_of (joined_rows a.rows b.rows)) touch.source (joined_few a.rows b.rows)

cond_yes : (p s x : ℕ) → p ≡ s → cond (p == s) x 0 ≡ x
cond_yes p s x e = grind (arith, nat_tests)

rows_one_is : (source : ℕ) (s : Stretch) → s.place.source ≡ source → rows_one source s ≡ rows_of s.rows
rows_one_is source s e = cond_yes s.place.source source (rows_of s.rows) e

-- ---- stretches of a cover

-- the place of two that touch, as one
joined_place : (sources : ℕ) (a b : Place) → IsPlace sources a → IsPlace sources b → Touches a b → IsPlace sources (record { source = a.source; from = a.from; to = b.to; size = a.size })
joined_place sources a b first second touch =
    let order = first.order in
    let more = second.order in
    let within = second.within in
    let at = touch.at in
    let size = touch.size in
    record { source = first.source; order = omega (arith, order, more, at); within = omega (arith, within, size); fits = first.fits; filled = filled first.filled }
  where
    filled : (a.from < a.to) ⊎ (a.size ≡ 0) → (a.from < b.to) ⊎ (a.size ≡ 0)
    filled (inl some) =
        let more = second.order in
        let at = touch.at in
        inl (omega (arith, some, more, at))
    filled (inr none) = inr none

joined_is : (sources : ℕ) (a b : Stretch) → IsStretch sources a → IsStretch sources b → Touches a.place b.place → AreRows (joined_rows a.rows b.rows) → IsStretch sources (joined a b)
joined_is sources a b first second touch rows = record { is_place = joined_place sources a.place b.place first.is_place second.is_place touch; are_rows = rows }

-- the last stretch grows
grown : (sources : ℕ) (before : Option Place) (cover : List Stretch) (last next : Stretch) → AreStretches sources before (cover ++ last ∷ []) → IsStretch sources (joined last next) → AreStretches sources before (cover ++ joined last next ∷ [])
grown sources None [] last next are is = (record { is_stretch = is; is_after = tt }, tt)
grown sources (Some p) [] last next are is = (record { is_stretch = is; is_after = are.0.is_after }, tt)
grown sources before (s ∷ cover) last next are is = (are.0, grown sources (Some s.place) cover last next are.1 is)

-- or another one comes after it
followed : (sources : ℕ) (before : Option Place) (cover : List Stretch) (last next : Stretch) → AreStretches sources before (cover ++ last ∷ []) → IsStretch sources next → IsAfter last.place next.place
    → AreStretches sources before ((cover ++ last ∷ []) ++ next ∷ [])
followed sources before [] last next are is after = (are.0, (record { is_stretch = is; is_after = after }, tt))
followed sources before (s ∷ cover) last next are is after = (are.0, followed sources (Some s.place) cover last next are.1 is after)

pub last_of : (sources : ℕ) (before : Option Place) (cover : List Stretch) (last : Stretch) → AreStretches sources before (cover ++ last ∷ []) → IsStretch sources last
last_of sources before [] last are = are.0.is_stretch
last_of sources before (s ∷ cover) last are = last_of sources (Some s.place) cover last are.1

-- ---- runs

touch-push : (first : Stretch) (more : List Stretch) (next : Stretch) → AreInTouch first more → Touches (fold joined first more).place next.place → AreInTouch first (more ++ next ∷ [])
touch-push first [] next are touch = (touch, tt)
touch-push first (s ∷ more) next are touch = (are.0, touch-push (joined first s) more next are.1 touch)

-- some stretches are put together, and this is the last one so far
pub record IsJoinedTo (sources : ℕ) (done cover : List Stretch) (last : Stretch) : Type 0 where
  pub front : List Run
  pub run : Run
  pub each : All IsRun front
  pub touch : IsRun run
  pub all : done ≡ flat_map stretches_in front ++ stretches_in run
  pub cover_is : cover ≡ map whole_of front
  pub last_is : last ≡ whole_of run
  pub are : AreStretches sources None (cover ++ last ∷ [])
  pub had_is : (source at : ℕ) → had source at (cover ++ last ∷ []) ≡ had source at done
  pub rows_few : (source : ℕ) → rows_in source (cover ++ last ∷ []) ≤ rows_in source done
  pub sized : (c : Stretch) × Contains done c × (c.place.source ≡ last.place.source) × (c.place.size ≡ last.place.size)
  pub few : length cover + 1 ≤ length done

pub first_joined : (sources : ℕ) (s : Stretch) → IsStretch sources s → IsJoinedTo sources (s ∷ []) [] s
first_joined sources s is = record {
  front = [];
  run = record { first = s; more = [] };
  each = All-nil IsRun;
  touch = tt;
  all = refl;
  cover_is = refl;
  last_is = refl;
  are = (record { is_stretch = is; is_after = tt }, tt);
  had_is = λ source at. refl;
  rows_few = λ source. omega arith;
  sized = (s, Contains-push [] s, refl, refl);
  few = omega arith;
}

-- one more touches the last one
more_touch : (sources : ℕ) (done cover : List Stretch) (last next : Stretch) → IsJoinedTo sources done cover last → IsStretch sources next → Touches last.place next.place → AreRows (joined_rows last.rows next.rows)
    → IsJoinedTo sources (done ++ next ∷ []) cover (joined last next)
more_touch sources done cover last next is good touch rows = record {
  front = is.front;
  run = record { first = is.run.first; more = is.run.more ++ next ∷ [] };
  each = is.each;
  touch = touch-push is.run.first is.run.more next is.touch (subst (λ (s : Stretch). Touches s.place next.place) is.last_is touch);
  all = ap (λ (ss : List Stretch). ss ++ next ∷ []) is.all ∙ append_assoc (flat_map stretches_in is.front) (stretches_in is.run) (next ∷ []);
  cover_is = is.cover_is;
  last_is = ap (λ (s : Stretch). joined s next) is.last_is ∙ sym (fold_push joined is.run.first is.run.more next);
  are = grown sources None cover last next is.are (joined_is sources last next was good touch rows);
  had_is = λ source at.
      let both = joined_has source at last next touch was.is_place.order good.is_place.order in
      let so_far = is.had_is source at in
      omega (arith, both, so_far, had-push source at cover last, had-push source at cover (joined last next), had-push source at done next);
  rows_few = λ source.
      let both = joined_rows_few source last next touch in
      let so_far = is.rows_few source in
      omega (arith, both, so_far, rows-push source cover last, rows-push source cover (joined last next), rows-push source done next);
  sized = (is.sized.0, Contains-append_left done (next ∷ []) is.sized.0 is.sized.1, is.sized.2, is.sized.3);
  few = let few = is.few in omega (arith, few, length-append done (next ∷ []));
}
  where
    was : IsStretch sources last
    was = last_of sources None cover last is.are

flat_push : (front : List Run) (run : Run) → flat_map stretches_in (front ++ run ∷ []) ≡ flat_map stretches_in front ++ stretches_in run
flat_push front run = flat_map-append stretches_in front (run ∷ []) ∙ ap (λ (ss : List Stretch). flat_map stretches_in front ++ ss) (append-nil (stretches_in run))

-- or it does not
more_apart : (sources : ℕ) (done cover : List Stretch) (last next : Stretch) → IsJoinedTo sources done cover last → IsStretch sources next → IsAfter last.place next.place → IsJoinedTo sources (done ++ next ∷ []) (cover ++ last ∷ []) next
more_apart sources done cover last next is good after = record {
  front = is.front ++ is.run ∷ [];
  run = record { first = next; more = [] };
  each = All-push IsRun is.front is.run is.each is.touch;
  touch = tt;
  all = ap (λ (ss : List Stretch). ss ++ next ∷ []) (is.all ∙ sym (flat_push is.front is.run));
  cover_is = ap (λ (ss : List Stretch). ss ++ last ∷ []) is.cover_is ∙ ap (λ (s : Stretch). map whole_of is.front ++ s ∷ []) is.last_is ∙ sym (map-append whole_of is.front (is.run ∷ []));
  last_is = refl;
  are = followed sources None cover last next is.are good after;
  had_is = λ source at.
      let so_far = is.had_is source at in
      omega (arith, so_far, had-push source at (cover ++ last ∷ []) next, had-push source at done next);
  rows_few = λ source.
      let so_far = is.rows_few source in
      omega (arith, so_far, rows-push source (cover ++ last ∷ []) next, rows-push source done next);
  sized = (next, Contains-push done next, refl, refl);
  few = let few = is.few in omega (arith, few, length-append done (next ∷ []), length-append cover (last ∷ []));
}

pub one_more : (sources : ℕ) (done cover : List Stretch) (last next : Stretch) (new : List Stretch) (now_last : Stretch) → IsJoinedTo sources done cover last → IsStretch sources next → IsPutTo cover last next new now_last
    → IsJoinedTo sources (done ++ next ∷ []) new now_last
one_more sources done cover last next new now_last is good (inl put) =
    let more = more_touch sources done cover last next is good put.0.touch (subst (λ (s : Stretch). AreRows s.rows) put.0.is put.0.are_rows) in
    subst (λ (s : Stretch). IsJoinedTo sources (done ++ next ∷ []) new s) (sym put.0.is) (subst (λ (ss : List Stretch). IsJoinedTo sources (done ++ next ∷ []) ss (joined last next)) (sym put.1) more)
one_more sources done cover last next new now_last is good (inr put) =
    let more = more_apart sources done cover last next is good put.after in
    subst (λ (s : Stretch). IsJoinedTo sources (done ++ next ∷ []) new s) (sym put.is) (subst (λ (ss : List Stretch). IsJoinedTo sources (done ++ next ∷ []) ss next) (sym put.put) more)

-- all are put together
pub all_joined : (sources : ℕ) (stretches cover : List Stretch) (last : Stretch) → IsJoinedTo sources stretches cover last → IsJoinOf (cover ++ last ∷ []) stretches
all_joined sources stretches cover last is = record {
  runs = is.front ++ is.run ∷ [];
  each = All-push IsRun is.front is.run is.each is.touch;
  all = is.all ∙ sym (flat_push is.front is.run);
  is = ap (λ (ss : List Stretch). ss ++ last ∷ []) is.cover_is ∙ ap (λ (s : Stretch). map whole_of is.front ++ s ∷ []) is.last_is ∙ sym (map-append whole_of is.front (is.run ∷ []));
}

-- ---- why not

-- these are some of the stretches, with one more
pub record IsPartOf (done : List Stretch) (next : Stretch) (stretches : List Stretch) : Type 0 where
  pub rest : List Stretch
  pub is : stretches ≡ (done ++ next ∷ []) ++ rest

twice : (sources : ℕ) (done cover stretches : List Stretch) (last next : Stretch) (source at : ℕ) → IsJoinedTo sources done cover last → IsPartOf done next stretches → one source at last ≡ 1 → one source at next ≡ 1 → 2 ≤ had source at stretches
twice sources done cover stretches last next source at is part first second =
    let so_far = is.had_is source at in
    omega (arith, so_far, first, second, ap (λ (ss : List Stretch). had source at ss) part.is, had-append source at (done ++ next ∷ []) part.rest, had-push source at done next, had-push source at cover last)

too_many_rows : (sources : ℕ) (done cover stretches : List Stretch) (last next : Stretch) (source : ℕ) → IsJoinedTo sources done cover last → IsPartOf done next stretches → last.place.source ≡ source → next.place.source ≡ source
    → 2 ^ 50 < rows_of last.rows + rows_of next.rows → 2 ^ 50 < rows_in source stretches
too_many_rows sources done cover stretches last next source is part first second many =
    let so_far = is.rows_few source in
    omega (arith, so_far, many, rows_one_is source last first, rows_one_is source next second, ap (λ (ss : List Stretch). rows_in source ss) part.is, sum_by-append (rows_one source) (done ++ next ∷ []) part.rest, rows-push source done next, rows-push source cover last)

differ : (sources : ℕ) (done cover stretches : List Stretch) (last next : Stretch) (source : ℕ) → IsJoinedTo sources done cover last → IsPartOf done next stretches → last.place.source ≡ source → next.place.source ≡ source
    → last.place.size ≢ next.place.size → DifferInSize source stretches
differ sources done cover stretches last next source is part first second other = record {
  a = is.sized.0;
  b = next;
  one = subst (λ (ss : List Stretch). Contains ss is.sized.0) (sym part.is) (Contains-append_left (done ++ next ∷ []) part.rest is.sized.0 (Contains-append_left done (next ∷ []) is.sized.0 is.sized.1));
  other = subst (λ (ss : List Stretch). Contains ss next) (sym part.is) (Contains-append_left (done ++ next ∷ []) part.rest next (Contains-push done next));
  of_one = is.sized.2 ∙ first;
  of_other = second;
  differ = λ e. other (sym is.sized.3 ∙ e);
}

many_of : (sources : ℕ) (done cover stretches : List Stretch) (last next : Stretch) → IsJoinedTo sources done cover last → IsPartOf done next stretches → 2 ^ 32 ≤ length cover + 1 → 2 ^ 32 ≤ length stretches
many_of sources done cover stretches last next is part many =
    let few = is.few in
    omega (arith, few, many, ap length part.is, length-append (done ++ next ∷ []) part.rest, length-append done (next ∷ []))

pub no_pair : (sources : ℕ) (done cover stretches : List Stretch) (last next : Stretch) → IsJoinedTo sources done cover last → IsPartOf done next stretches → (why : CoverFault) → IsNoPair cover last next why → IsNoCover stretches why
no_pair sources done cover stretches last next is part Memory none = tt
no_pair sources done cover stretches last next is part (Twice source at) none =
    twice sources done cover stretches last next source at is part (one_of source at last (it_has source at last none.one)) (one_of source at next (it_has source at next none.other))
no_pair sources done cover stretches last next is part (Size source) none = differ sources done cover stretches last next source is part none.0.one none.0.other none.1
no_pair sources done cover stretches last next is part (fault.Rows source) none = too_many_rows sources done cover stretches last next source is part none.0.one none.0.other none.1
no_pair sources done cover stretches last next is part Many none = many_of sources done cover stretches last next is part none
