-- Bytes that a cover lacks.
use Rattle.std.proofs.Common.{◌≡◌, ◌≢◌, ◌<◌, ◌≤◌, ◌+◌, ◌++◌, ◌∙◌, ◌⊎◌, inl, inr, ℕ, List, [], ◌∷◌, None, Option, Some, ap, append_assoc, append-nil, arith, drop, get_or, length, length-append, refl, subst, sym}
use Rattle.state_cover.specs.Bytes.{AreFrom, AreWhole, AreWholeFrom, BeginWhole, IsEndOf, IsGap, IsMissing, IsWhole, IsWithin, had}
use Rattle.state_cover.specs.declared.missing.Missing.{Missing}
use Rattle.state_cover.proofs.Counts.{HasIt, IsBeyond, far, had-append, had-cons, none_or_some, one, one_of, which}
use Rattle.state_head.specs.Cover.{AreStretches, IsAfter, IsCover}
use Rattle.state_head.specs.declared.cover.Place.{Place}
use Rattle.state_head.specs.declared.cover.Stretch.{Stretch}

-- a first stretch without a byte, and none of those after it with one that is beyond it
none_of : (sources : ℕ) (before : Option Place) (s : Stretch) (more : List Stretch) (source at : ℕ) → AreStretches sources before (s ∷ more) → (HasIt source at s → ⊥) → (0 < had source at more → ⊥) → had source at (s ∷ more) ≡ 0
none_of sources before s more source at are first later = go (which source at s) (none_or_some (had source at more))
  where
    go : (HasIt source at s × (one source at s ≡ 1)) ⊎ (one source at s ≡ 0) → (had source at more ≡ 0) ⊎ (0 < had source at more) → had source at (s ∷ more) ≡ 0
    go (inl has) rest = absurd (first has.0)
    go (inr none) (inl rest) = omega (arith, none, rest, had-cons source at s more)
    go (inr none) (inr some) = absurd (later some)

-- stretches of sources after this one
none_later : (sources : ℕ) (before : Option Place) (s : Stretch) (more : List Stretch) (source at : ℕ) → AreStretches sources before (s ∷ more) → source < s.place.source → had source at (s ∷ more) ≡ 0
none_later sources before s more source at are less = none_of sources before s more source at are first (λ some. later (far sources s.place more source at are.1 some))
  where
    first : HasIt source at s → ⊥
    first is = let same = is.source_is in omega (arith, less, same)

    later : IsBeyond s.place source at → ⊥
    later (inl far_away) = omega (arith, less, far_away)
    later (inr here) = omega (arith, less, here.0)

-- stretches of a source, the first of which begins after a place
none_before : (sources : ℕ) (before : Option Place) (s : Stretch) (more : List Stretch) (source at : ℕ) → AreStretches sources before (s ∷ more) → s.place.source ≡ source → at < s.place.from → had source at (s ∷ more) ≡ 0
none_before sources before s more source at are same less = none_of sources before s more source at are first (λ some. later (far sources s.place more source at are.1 some))
  where
    first : HasIt source at s → ⊥
    first is = let from = is.from in omega (arith, less, from)

    later : IsBeyond s.place source at → ⊥
    later (inl far_away) = omega (arith, same, far_away)
    later (inr here) =
        let order = are.0.is_stretch.is_place.order in
        omega (arith, less, here.1, order)

-- ---- one source

-- no stretch is left
pub gap_none : (source : ℕ) (stretches : List Stretch) (gap : Missing) → stretches ≡ [] → gap ≡ record { source = source; from = 0; to = None } → IsGap source stretches gap
gap_none source stretches gap e is = subst (λ (g : Missing). IsGap source stretches g) (sym is) (record { source_is = refl; some = refl; none = λ at within. ap (λ (ss : List Stretch). had source at ss) e; before = λ at less. absurd (omega (arith, less)) })

-- the first one is of another source
pub gap_other : (sources : ℕ) (before : Option Place) (source : ℕ) (s : Stretch) (more : List Stretch) → AreStretches sources before (s ∷ more) → source ≤ s.place.source → s.place.source ≢ source
    → IsGap source (s ∷ more) (record { source = source; from = 0; to = None })
gap_other sources before source s more are from other = record {
  source_is = refl;
  some = refl;
  none = λ at within. none_later sources before s more source at are (omega (arith, from, other));
  before = λ at less. absurd (omega (arith, less));
}

-- it does not begin at the source's first byte
pub gap_front : (sources : ℕ) (before : Option Place) (source : ℕ) (s : Stretch) (more : List Stretch) → AreStretches sources before (s ∷ more) → s.place.source ≡ source → 0 < s.place.from
    → IsGap source (s ∷ more) (record { source = source; from = 0; to = Some s.place.from })
gap_front sources before source s more are same some = record {
  source_is = refl;
  some = some;
  none = λ at within. none_before sources before s more source at are same within.1;
  before = λ at less. absurd (omega (arith, less));
}

-- it does, and has each byte before its end
first_had : (source at : ℕ) (s : Stretch) (more : List Stretch) → s.place.source ≡ source → s.place.from ≡ 0 → at < s.place.to → 1 ≤ had source at (s ∷ more)
first_had source at s more same from less = omega (arith, had-cons source at s more, one_of source at s (record { source_is = same; from = omega (arith, from); to = less }))

-- bytes after it are not there
pub gap_after : (sources : ℕ) (before : Option Place) (source : ℕ) (s : Stretch) (more : List Stretch) (end : ℕ) → AreStretches sources before (s ∷ more) → s.place.source ≡ source → s.place.from ≡ 0 → s.place.to ≢ s.place.size → IsEndOf s.place more end
    → IsGap source (s ∷ more) (record { source = source; from = s.place.to; to = Some end })
gap_after sources before source s [] end are same start short is = record {
  source_is = refl;
  some = let within = are.0.is_stretch.is_place.within in omega (arith, is, short, within);
  none = λ at within. none_of sources before s [] source at are (λ has. let to = has.to in omega (arith, to, within.0)) (λ some. omega (arith, some));
  before = λ at less. first_had source at s [] same start less;
}
gap_after sources before source s (n ∷ more) end are same start short (inl is) = record {
  source_is = refl;
  some = begins are.1.0.is_after;
  none = λ at within.
      let there = none_before sources (Some s.place) n more source at are.1 (is.0 ∙ same) (omega (arith, is.1, within.1)) in
      none_of sources before s (n ∷ more) source at are (λ has. let to = has.to in omega (arith, to, within.0)) (λ some. omega (arith, some, there));
  before = λ at less. first_had source at s (n ∷ more) same start less;
}
  where
    begins : IsAfter s.place n.place → s.place.to < end
    begins (inl less) = absurd (omega (arith, less, is.0))
    begins (inr next) = omega (arith, next.1, is.1)
gap_after sources before source s (n ∷ more) end are same start short (inr is) = record {
  source_is = refl;
  some = let within = are.0.is_stretch.is_place.within in omega (arith, is.1, short, within);
  none = λ at within.
      let there = none_later sources (Some s.place) n more source at are.1 (beyond are.1.0.is_after) in
      none_of sources before s (n ∷ more) source at are (λ has. let to = has.to in omega (arith, to, within.0)) (λ some. omega (arith, some, there));
  before = λ at less. first_had source at s (n ∷ more) same start less;
}
  where
    beyond : IsAfter s.place n.place → source < n.place.source
    beyond (inl less) = omega (arith, less, same)
    beyond (inr next) = absurd (is.0 (sym next.0))

-- the same of a list, by its first stretch
pub other_of : (sources : ℕ) (before : Option Place) (source : ℕ) (stretches : List Stretch) (d : Stretch) → AreStretches sources before stretches → 1 ≤ length stretches → AreFrom source stretches
    → (get_or stretches 0 d).place.source ≢ source → IsGap source stretches (record { source = source; from = 0; to = None })
other_of sources before source [] d are some from other = absurd (omega (arith, some))
other_of sources before source (s ∷ more) d are some from other = gap_other sources before source s more are from other

pub front_of : (sources : ℕ) (before : Option Place) (source : ℕ) (stretches : List Stretch) (d : Stretch) → AreStretches sources before stretches → 1 ≤ length stretches
    → (get_or stretches 0 d).place.source ≡ source → 0 < (get_or stretches 0 d).place.from → IsGap source stretches (record { source = source; from = 0; to = Some (get_or stretches 0 d).place.from })
front_of sources before source [] d are some same more = absurd (omega (arith, some))
front_of sources before source (s ∷ rest) d are some same more = gap_front sources before source s rest are same more

pub after_of : (sources : ℕ) (before : Option Place) (source : ℕ) (stretches : List Stretch) (d : Stretch) (rest : List Stretch) (end : ℕ) → AreStretches sources before stretches → 1 ≤ length stretches
    → (get_or stretches 0 d).place.source ≡ source → (get_or stretches 0 d).place.from ≤ 0 → (get_or stretches 0 d).place.to ≢ (get_or stretches 0 d).place.size → rest ≡ drop 1 stretches
    → IsEndOf (get_or stretches 0 d).place rest end → IsGap source stretches (record { source = source; from = (get_or stretches 0 d).place.to; to = Some end })
after_of sources before source [] d rest end are some same start short e is = absurd (omega (arith, some))
after_of sources before source (s ∷ more) d rest end are some same start short e is =
    gap_after sources before source s more end are same (omega (arith, start)) short (subst (λ (ss : List Stretch). IsEndOf s.place ss end) e is)

pub begin_whole : (source : ℕ) (s : Stretch) (more : List Stretch) → s.place.source ≡ source → s.place.from ≡ 0 → s.place.to ≡ s.place.size → BeginWhole source (s ∷ more)
begin_whole source s more same from to = record { s = s; more = more; is = refl; is_whole = record { source_is = same; from = from; to = to } }

-- ---- one source after another

-- the sources before this one are had as a whole, and these stretches are left
pub record IsWholeTo (sources : ℕ) (cover rest : List Stretch) (source : ℕ) : Type 0 where
  pub front : List Stretch
  pub is : cover ≡ front ++ rest
  pub whole : AreWhole source front
  pub from : AreFrom source rest
  pub before : Option Place
  pub are : AreStretches sources before rest

from_none : (cover : List Stretch) → AreFrom 0 cover
from_none [] = tt
from_none (s ∷ more) = omega arith

pub whole_none : (sources : ℕ) (cover : List Stretch) → IsCover sources cover → IsWholeTo sources cover cover 0
whole_none sources cover is = record { front = []; is = refl; whole = (tt, refl); from = from_none cover; before = None; are = is.stretches }

whole-push : (start : ℕ) (front : List Stretch) (s : Stretch) → AreWholeFrom start front → IsWhole (start + length front) s → AreWholeFrom start (front ++ s ∷ [])
whole-push start [] s are is =
    let here : start + 0 ≡ start = omega arith in
    (subst (λ (n : ℕ). IsWhole n s) here is, tt)
whole-push start (f ∷ front) s are is =
    let there : start + length (f ∷ front) ≡ start + 1 + length front = omega arith in
    (are.0, whole-push (start + 1) front s are.1 (subst (λ (n : ℕ). IsWhole n s) there is))

from_next : (sources source : ℕ) (s : Stretch) (more : List Stretch) → IsWhole source s → AreStretches sources (Some s.place) more → AreFrom (source + 1) more
from_next sources source s [] is are = tt
from_next sources source s (n ∷ more) is are = beyond are.0.is_after
  where
    beyond : IsAfter s.place n.place → source + 1 ≤ n.place.source
    beyond (inl less) = let same = is.source_is in omega (arith, less, same)
    beyond (inr next) =
        let to = is.to in
        let order = are.0.is_stretch.is_place.order in
        let within = are.0.is_stretch.is_place.within in
        absurd (omega (arith, to, next.1, next.2, order, within))

-- one source more
pub whole_more : (sources : ℕ) (cover rest : List Stretch) (source : ℕ) → IsWholeTo sources cover rest source → (b : BeginWhole source rest) → IsWholeTo sources cover b.more (source + 1)
whole_more sources cover rest source is b = record {
  front = is.front ++ b.s ∷ [];
  is = is.is ∙ ap (λ (ss : List Stretch). is.front ++ ss) b.is ∙ sym (append_assoc is.front (b.s ∷ []) b.more);
  whole = (whole-push 0 is.front b.s is.whole.0 (subst (λ (n : ℕ). IsWhole n b.s) many b.is_whole), length-append is.front (b.s ∷ []) ∙ ap (λ (n : ℕ). n + 1) is.whole.1);
  from = from_next sources source b.s b.more b.is_whole later.1;
  before = Some b.s.place;
  are = later.1;
}
  where
    many : source ≡ 0 + length is.front
    many = let long = is.whole.1 in omega (arith, long)

    later : AreStretches sources is.before (b.s ∷ b.more)
    later = subst (λ (ss : List Stretch). AreStretches sources is.before ss) b.is is.are

front_none : (start : ℕ) (front : List Stretch) (source at : ℕ) → AreWholeFrom start front → start + length front ≤ source → had source at front ≡ 0
front_none start [] source at are long = refl
front_none start (s ∷ front) source at are long =
    let fewer : start + 1 + length front ≤ source = omega (arith, long) in
    go (which source at s) (front_none (start + 1) front source at are.1 fewer)
  where
    go : (HasIt source at s × (one source at s ≡ 1)) ⊎ (one source at s ≡ 0) → had source at front ≡ 0 → had source at (s ∷ front) ≡ 0
    go (inl has) rest =
        let same = has.0.source_is in
        let mine = are.0.source_is in
        absurd (omega (arith, same, mine, long))
    go (inr none) rest = omega (arith, none, rest, had-cons source at s front)

-- a source that is not had as a whole
pub is_missing : (sources : ℕ) (cover rest : List Stretch) (source : ℕ) (gap : Missing) → source < sources → IsWholeTo sources cover rest source → IsGap source rest gap → IsMissing sources cover gap
is_missing sources cover rest source gap less is lacks = record {
  front = is.front;
  rest = rest;
  is = is.is;
  whole = subst (λ (n : ℕ). AreWhole n is.front) (sym lacks.source_is) is.whole;
  source = let same = lacks.source_is in omega (arith, less, same);
  is_gap = record {
    source_is = refl;
    some = lacks.some;
    none = λ at within. subst (λ (n : ℕ). had n at cover ≡ 0) (sym lacks.source_is) (none at within);
    before = λ at less. subst (λ (n : ℕ). 1 ≤ had n at cover) (sym lacks.source_is) (some at less);
  };
}
  where
    some : (at : ℕ) → at < gap.from → 1 ≤ had source at cover
    some at less =
        let here = lacks.before at less in
        omega (arith, here, ap (λ (ss : List Stretch). had source at ss) is.is, had-append source at is.front rest)

    none : (at : ℕ) → IsWithin gap.from gap.to at → had source at cover ≡ 0
    none at within =
        let here = lacks.none at within in
        let long = is.whole.1 in
        let there = front_none 0 is.front source at is.whole.0 (omega (arith, long)) in
        omega (arith, here, there, ap (λ (ss : List Stretch). had source at ss) is.is, had-append source at is.front rest)

-- all sources are had
pub all_whole : (sources : ℕ) (cover rest : List Stretch) (source : ℕ) → source ≡ sources → IsWholeTo sources cover rest source → AreWhole sources cover
all_whole sources cover rest source end is = go rest is.is is.from is.are
  where
    go : (rest : List Stretch) → cover ≡ is.front ++ rest → AreFrom source rest → AreStretches sources is.before rest → AreWhole sources cover
    go [] e from are =
        subst (λ (n : ℕ). AreWhole n cover) end (subst (λ (ss : List Stretch). AreWhole source ss) (sym (e ∙ append-nil is.front)) is.whole)
    go (s ∷ more) e from are = let less = are.0.is_stretch.is_place.source in absurd (omega (arith, from, less, end))

-- without the first one
pub rest_is : (source : ℕ) (rest : List Stretch) → (b : BeginWhole source rest) → drop 1 rest ≡ b.more
rest_is source rest b = ap (λ (ss : List Stretch). drop 1 ss) b.is
