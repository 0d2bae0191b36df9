-- Stretches in order, put together up to a place.
use Rattle.std.proofs.Common.{◌≡◌, ◌<◌, ◌≤◌, ◌+◌, ◌-◌, ◌^◌, ◌++◌, ◌∙◌, ◌⊎◌, inl, inr, ℕ, List, [], ◌∷◌, All, Err, IfErr, IfOk, None, Ok, OnOk, Result, ap, arith, drop, false, get_or, length, length-append, refl, subst, sym, take}
use Rattle.std.specs.List.Sorted.{IsPermutation}
use Rattle.std.specs.Ordering.{is_lt, nat_cmp, ordering_then}
use Rattle.std.proofs.Math.Seq.{take-length}
use Rattle.std.proofs.lemmas.Bool.Decides.{nat_tests}
use Rattle.std.proofs.lemmas.List.{take-append-drop, take_more}
use Rattle.std.proofs.lemmas.List.Elements.{All-get_or, All-head, All-nil}
use Rattle.std.proofs.lemmas.List.Sorted.{Contains-permutation, IsPermutation-sym, length_permutation, sum_by-IsPermutation}
use Rattle.state_cover.specs.Bytes.{had}
use Rattle.state_cover.specs.Faults.{IsFull, IsNoCover, IsNoPair}
use Rattle.state_cover.specs.Joined.{AreSorted, IsBefore, IsJoinOf, IsPutTo, IsRun}
use Rattle.state_cover.specs.declared.joining.CoverFault.{CoverFault}
use Rattle.state_cover.specs.declared.joining.CoverFault.TheVariants.{Many, Memory, Size, Twice}
use Rattle.state_cover.specs.declared.joining.CoverFault.TheVariants as fault
use Rattle.state_cover.proofs.Counts.{once, one}
use Rattle.state_cover.proofs.Runs.{IsJoinedTo, IsPartOf, all_joined, first_joined, last_of, no_pair, one_more, rows_one}
use Rattle.state_head.specs.Cover.{IsCover, IsStretch}
use Rattle.state_head.specs.declared.cover.Place.{Place}
use Rattle.state_head.specs.declared.cover.Stretch.{Stretch}

-- the stretches before a place are put together; the last one begins no later than the one before that place
pub record IsSettledTo (sources : ℕ) (stretches cover : List Stretch) (last : Stretch) (at : ℕ) : Type 0 where
  pub joined_to : IsJoinedTo sources (take at stretches) cover last
  pub source : (d : Stretch) → last.place.source ≡ (get_or stretches (at - 1) d).place.source
  pub from : (d : Stretch) → last.place.from ≤ (get_or stretches (at - 1) d).place.from

pub settled_first : (sources : ℕ) (stretches : List Stretch) (s : Stretch) → All (IsStretch sources) stretches → 0 < length stretches → s ≡ get_or stretches 0 s → IsSettledTo sources stretches [] s 1
settled_first sources [] s each some is = absurd (omega (arith, some))
settled_first sources (x ∷ xs) s each some is = subst (λ (y : Stretch). IsSettledTo sources (x ∷ xs) [] y 1) (sym is) first
  where
    first : IsSettledTo sources (x ∷ xs) [] x 1
    first = record { joined_to = first_joined sources x (All-head (IsStretch sources) x xs each); source = λ d. refl; from = λ d. omega arith }

-- the first one, as an index reads it
pub settled_start : (sources : ℕ) (stretches cover : List Stretch) (d : Stretch) → All (IsStretch sources) stretches → 0 < length stretches → cover ≡ [] → IsSettledTo sources stretches cover (get_or stretches 0 d) 1
settled_start sources [] cover d each some e = absurd (omega (arith, some))
settled_start sources (x ∷ xs) cover d each some e = subst (λ (ss : List Stretch). IsSettledTo sources (x ∷ xs) ss x 1) (sym e) (settled_first sources (x ∷ xs) x each some refl)

pub settled_last : (sources : ℕ) (stretches cover : List Stretch) (last : Stretch) (at : ℕ) → IsSettledTo sources stretches cover last at → IsStretch sources last
settled_last sources stretches cover last at is = last_of sources None cover last is.joined_to.are

nearer : (a b c : Place) → a.source ≡ b.source → a.from ≤ b.from → IsBefore b c → IsBefore a c
nearer a b c same from (inl less) = inl (omega (arith, same, less))
nearer a b c same from (inr next) = inr (same ∙ next.0, omega (arith, from, next.1))

-- the last one comes before the next
pub settled_before : (sources : ℕ) (stretches cover : List Stretch) (last : Stretch) (at : ℕ) (next : Stretch) → IsSettledTo sources stretches cover last at → AreSorted stretches → 0 < at → at < length stretches → next ≡ get_or stretches at next
    → IsBefore last.place next.place
settled_before sources stretches cover last at next is sorted some more e =
    let back : at - 1 + 1 ≡ at = omega (arith, some) in
    let here = sorted (at - 1) next (omega (arith, some, more)) in
    let there = subst (λ (n : ℕ). IsBefore (get_or stretches (at - 1) next).place (get_or stretches n next).place) back here in
    nearer last.place (get_or stretches (at - 1) next).place next.place (is.source next) (is.from next) (subst (λ (s : Stretch). IsBefore (get_or stretches (at - 1) next).place s.place) (sym e) there)

after_one : (n : ℕ) → n + 1 - 1 ≡ n
after_one n = omega arith

pub settled_more : (sources : ℕ) (stretches cover : List Stretch) (last : Stretch) (at : ℕ) (next : Stretch) (new : List Stretch) (now_last : Stretch) → IsSettledTo sources stretches cover last at → All (IsStretch sources) stretches
    → at < length stretches → ((d : Stretch) → next ≡ get_or stretches at d) → IsPutTo cover last next new now_last → IsSettledTo sources stretches new now_last (at + 1)
settled_more sources stretches cover last at next new now_last is each more e put = record {
  joined_to = subst (λ (ss : List Stretch). IsJoinedTo sources ss new now_last) (sym (take_more stretches at next more ∙ ap (λ (s : Stretch). take at stretches ++ s ∷ []) (sym (e next))))
      (one_more sources (take at stretches) cover last next new now_last is.joined_to good put);
  source = λ d. (source_of put) ∙ ap (λ (s : Stretch). s.place.source) (e d) ∙ ap (λ (n : ℕ). (get_or stretches n d).place.source) (sym (after_one at));
  from = λ d. subst (λ (n : ℕ). now_last.place.from ≤ (get_or stretches n d).place.from) (sym (after_one at)) (subst (λ (s : Stretch). now_last.place.from ≤ s.place.from) (e d) (from_of put));
}
  where
    good : IsStretch sources next
    good = subst (λ (s : Stretch). IsStretch sources s) (sym (e next)) (All-get_or (IsStretch sources) stretches at next more each)

    was : IsStretch sources last
    was = settled_last sources stretches cover last at is

    source_of : IsPutTo cover last next new now_last → now_last.place.source ≡ next.place.source
    source_of (inl p) = ap (λ (s : Stretch). s.place.source) p.0.is ∙ p.0.touch.source
    source_of (inr p) = ap (λ (s : Stretch). s.place.source) p.is

    from_of : IsPutTo cover last next new now_last → now_last.place.from ≤ next.place.from
    from_of (inl p) =
        let same = ap (λ (s : Stretch). s.place.from) p.0.is in
        let order = was.is_place.order in
        let at_is = p.0.touch.at in
        omega (arith, same, order, at_is)
    from_of (inr p) =
        let same = ap (λ (s : Stretch). s.place.from) p.is in
        omega (arith, same)

-- all are
pub settled_all : (sources : ℕ) (stretches cover : List Stretch) (last : Stretch) (at : ℕ) → at ≡ length stretches → IsSettledTo sources stretches cover last at → IsJoinedTo sources stretches cover last
settled_all sources stretches cover last at end is = subst (λ (ss : List Stretch). IsJoinedTo sources ss cover last) (ap (λ (n : ℕ). take n stretches) end ∙ take-length stretches) is.joined_to

-- why not
pub settled_not : (sources : ℕ) (stretches cover : List Stretch) (last : Stretch) (at : ℕ) (next : Stretch) → IsSettledTo sources stretches cover last at → at < length stretches → next ≡ get_or stretches at next
    → (why : CoverFault) → IsNoPair cover last next why → IsNoCover stretches why
settled_not sources stretches cover last at next is more e why none = no_pair sources (take at stretches) cover stretches last next is.joined_to part why none
  where
    part : IsPartOf (take at stretches) next stretches
    part = record {
      rest = drop (at + 1) stretches;
      is = sym (take-append-drop (at + 1) stretches) ∙ ap (λ (ss : List Stretch). ss ++ drop (at + 1) stretches) (take_more stretches at next more ∙ ap (λ (s : Stretch). take at stretches ++ s ∷ []) (sym e));
    }

pub full_not : (sources : ℕ) (stretches cover : List Stretch) (last : Stretch) → IsJoinedTo sources stretches cover last → (why : CoverFault) → IsFull cover why → IsNoCover stretches why
full_not sources stretches cover last is Memory none = tt
full_not sources stretches cover last is (Twice source at) none = absurd none
full_not sources stretches cover last is (Size source) none = absurd none
full_not sources stretches cover last is (fault.Rows source) none = absurd none
full_not sources stretches cover last is Many none = let few = is.few in omega (arith, few, none)

-- in any order
pub before_of : (a b c d : ℕ) → is_lt (ordering_then (nat_cmp a c) (nat_cmp b d)) ≡ false → (c < a) ⊎ ((c ≡ a) × (d ≤ b))
before_of a b c d h = grind (arith, nat_tests)

-- a sort by source and place puts them in order
pub sorted_by : (xs ys : List Stretch) → ys ≡ xs
    → ((k : ℕ) (d : Stretch) → 0 ≤ k → k + 1 < length xs
    → is_lt (ordering_then (nat_cmp (get_or xs (k + 1) d).place.source (get_or xs k d).place.source) (nat_cmp (get_or xs (k + 1) d).place.from (get_or xs k d).place.from)) ≡ false)
    → AreSorted ys
sorted_by xs ys e h = subst (λ (ss : List Stretch). AreSorted ss) (sym e) sorted
  where
    sorted : AreSorted xs
    sorted k d more =
        before_of (get_or xs (k + 1) d).place.source (get_or xs (k + 1) d).place.from (get_or xs k d).place.source (get_or xs k d).place.from (h k d (omega arith) more)

pub had_moved : (source at : ℕ) (xs ys : List Stretch) → IsPermutation xs ys → had source at ys ≡ had source at xs
had_moved source at xs ys h = sum_by-IsPermutation (λ (s : Stretch). one source at s) xs ys h

pub moved_not : (xs ys : List Stretch) → IsPermutation xs ys → (why : CoverFault) → IsNoCover ys why → IsNoCover xs why
moved_not xs ys h Memory none = tt
moved_not xs ys h (Twice source at) none = let same = had_moved source at xs ys h in omega (arith, none, same)
moved_not xs ys h (Size source) none = record {
  a = none.a;
  b = none.b;
  one = Contains-permutation ys xs none.a (IsPermutation-sym xs ys h) none.one;
  other = Contains-permutation ys xs none.b (IsPermutation-sym xs ys h) none.other;
  of_one = none.of_one;
  of_other = none.of_other;
  differ = none.differ;
}
moved_not xs ys h (fault.Rows source) none = let same = sum_by-IsPermutation (rows_one source) xs ys h in omega (arith, none, same)
moved_not xs ys h Many none = let same = length_permutation xs ys h in omega (arith, none, same)

pub had_as : {A E : Type 0} (r : Result A E) (items : A → List Stretch) (xs ys : List Stretch) → IsPermutation xs ys → IfOk r (λ cover. (source at : ℕ) → had source at (items cover) ≡ had source at ys)
    → IfOk r (λ cover. (source at : ℕ) → had source at (items cover) ≡ had source at xs)
had_as (Ok cover) items xs ys h is = λ source at. is source at ∙ had_moved source at xs ys h
had_as (Err why) items xs ys h is = tt

pub once_of : {A E : Type 0} (r : Result A E) (items : A → List Stretch) (sources : ℕ) (xs ys : List Stretch) → IsPermutation xs ys → IfOk r (λ cover. IsCover sources (items cover))
    → IfOk r (λ cover. (source at : ℕ) → had source at (items cover) ≡ had source at ys) → OnOk r ((source at : ℕ) → had source at xs ≤ 1)
once_of (Ok cover) items sources xs ys h is same = λ source at.
    let few = once sources None (items cover) source at is.stretches in
    let here = same source at in
    let moved = had_moved source at xs ys h in
    omega (arith, few, here, moved)
once_of (Err why) items sources xs ys h is same = tt

pub refused_of : {A : Type 0} (r : Result A CoverFault) (xs ys : List Stretch) → IsPermutation xs ys → IfErr r (IsNoCover ys) → IfErr r (IsNoCover xs)
refused_of (Ok cover) xs ys h none = tt
refused_of (Err why) xs ys h none = moved_not xs ys h why none

-- no stretches have no cover's stretch
none_is : (ss : List Stretch) → length ss ≡ 0 → ss ≡ []
none_is [] e = refl
none_is (s ∷ ss) e = absurd (omega (arith, e))

pub none_cover : (sources : ℕ) (cover : List Stretch) → cover ≡ [] → IsCover sources cover
none_cover sources cover e = subst (λ (ss : List Stretch). IsCover sources ss) (sym e) (record { stretches = tt; few = omega arith })

pub none_joined : (cover stretches : List Stretch) → cover ≡ [] → length stretches ≡ 0 → IsJoinOf cover stretches
none_joined cover stretches e f = record { runs = []; each = All-nil IsRun; all = none_is stretches f; is = e }

pub none_had : (cover stretches : List Stretch) (source at : ℕ) → cover ≡ [] → length stretches ≡ 0 → had source at cover ≡ had source at stretches
none_had cover stretches source at e f = ap (λ (ss : List Stretch). had source at ss) (e ∙ sym (none_is stretches f))

-- the whole cover
pub all_cover : (sources : ℕ) (stretches old cover : List Stretch) (last : Stretch) → IsJoinedTo sources stretches old last → cover ≡ old ++ last ∷ [] → length old + 1 < 2 ^ 32 → IsCover sources cover
all_cover sources stretches old cover last is e few =
    subst (λ (ss : List Stretch). IsCover sources ss) (sym e) (record { stretches = is.are; few = omega (arith, few, length-append old (last ∷ [])) })

pub all_join : (sources : ℕ) (stretches old cover : List Stretch) (last : Stretch) → IsJoinedTo sources stretches old last → cover ≡ old ++ last ∷ [] → IsJoinOf cover stretches
all_join sources stretches old cover last is e = subst (λ (ss : List Stretch). IsJoinOf ss stretches) (sym e) (all_joined sources stretches old last is)

pub all_had : (sources : ℕ) (stretches old cover : List Stretch) (last : Stretch) (source at : ℕ) → IsJoinedTo sources stretches old last → cover ≡ old ++ last ∷ [] → had source at cover ≡ had source at stretches
all_had sources stretches old cover last source at is e = ap (λ (ss : List Stretch). had source at ss) e ∙ is.had_is source at
