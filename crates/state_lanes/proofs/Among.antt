-- Lanes: equal ones are one, which ones there are among some, and that those of a plan are each there once.
use Rattle.std.proofs.Common.{◌≡◌, ◌==◌, ◌&&◌, ◌||◌, ◌++◌, ◌∙◌, ◌⊎◌, inl, inr, ℕ, Bool, true, false, List, [], ◌∷◌, None, Option, Some, ap, fold, map, refl, subst, sym}
use Rattle.std.proofs.lemmas.Bool.{cond_both, eq-eqb, eqb-true, false≢true, true≢false}
use Rattle.par_model.specs.declared.plan.Item.{Item}
use Rattle.state_lanes.specs.Lanes.{has_lane, is_same, lane_of, with_lane}
use Rattle.state_lanes.specs.declared.lanes.Lane.{Lane}
use Rattle.state_lanes.specs.declared.lanes.Lane.TheVariants.{Numbers, Values}

and_split : (a b : Bool) → (a && b) ≡ true → (a ≡ true) × (b ≡ true)
and_split true b e = (refl, e)
and_split false b e = absurd (false≢true e)

and_both : (a b : Bool) → a ≡ true → b ≡ true → (a && b) ≡ true
and_both a b e f = ap (λ (c : Bool). c && b) e ∙ f

pub or_second : (a b : Bool) → (a || b) ≡ true → a ≡ false → b ≡ true
or_second true b e h = absurd (true≢false h)
or_second false b e h = e

pub or_split : (a b : Bool) → (a || b) ≡ true → (a ≡ true) ⊎ (b ≡ true)
or_split true b e = inl refl
or_split false b e = inr e

pub or_left : (a b : Bool) → a ≡ true → (a || b) ≡ true
or_left a b e = ap (λ (c : Bool). c || b) e

pub or_right : (a b : Bool) → b ≡ true → (a || b) ≡ true
or_right true b e = refl
or_right false b e = e

or_assoc : (a b c : Bool) → ((a || b) || c) ≡ (a || (b || c))
or_assoc true b c = refl
or_assoc false b c = refl

or_first-false : (a b : Bool) → (a || b) ≡ false → a ≡ false
or_first-false true b e = absurd (true≢false e)
or_first-false false b e = refl

or_second-false : (a b : Bool) → (a || b) ≡ false → b ≡ false
or_second-false true b e = absurd (true≢false e)
or_second-false false b e = e

or_false : (a b : Bool) → a ≡ false → b ≡ false → (a || (b || false)) ≡ false
or_false a b e f = ap (λ (c : Bool). c || (b || false)) e ∙ ap (λ (c : Bool). c || false) f

-- ---- equal lanes

pub same_one : (a b : Lane) → is_same a b ≡ true → a ≡ b
same_one (Values c) (Values d) e = ap Values (eqb-true c d e)
same_one (Values c) (Numbers d q) e = absurd (false≢true e)
same_one (Numbers c p) (Values d) e = absurd (false≢true e)
same_one (Numbers c p) (Numbers d q) e =
    let h = and_split (c == d) (p == q) e in
    ap (λ (n : ℕ). Numbers n p) (eqb-true c d h.0) ∙ ap (λ (n : ℕ). Numbers d n) (eqb-true p q h.1)

pub same_refl : (a : Lane) → is_same a a ≡ true
same_refl (Values c) = eq-eqb c c refl
same_refl (Numbers c p) = and_both (c == c) (p == p) (eq-eqb c c refl) (eq-eqb p p refl)

pub not_same : (a b : Lane) → is_same b a ≡ false → is_same a b ≡ false
not_same a b h = go (is_same a b) refl
  where
    go : (t : Bool) → is_same a b ≡ t → is_same a b ≡ false
    go false e = e
    go true e = absurd (true≢false (sym (same_refl a) ∙ ap (λ (l : Lane). is_same l a) (same_one a b e) ∙ h))

-- ---- among some lanes

has-append : (xs ys : List Lane) (lane : Lane) → has_lane (xs ++ ys) lane ≡ (has_lane xs lane || has_lane ys lane)
has-append [] ys lane = refl
has-append (x ∷ xs) ys lane = ap (λ (b : Bool). is_same x lane || b) (has-append xs ys lane) ∙ sym (or_assoc (is_same x lane) (has_lane xs lane) (has_lane ys lane))

has_more : (lanes : List Lane) (one lane : Lane) → has_lane lanes lane ≡ true → has_lane (lanes ++ one ∷ []) lane ≡ true
has_more lanes one lane e = has-append lanes (one ∷ []) lane ∙ or_left (has_lane lanes lane) (is_same one lane || false) e

has_new : (lanes : List Lane) (one : Lane) → has_lane (lanes ++ one ∷ []) one ≡ true
has_new lanes one = has-append lanes (one ∷ []) one ∙ or_right (has_lane lanes one) (is_same one one || false) (or_left (is_same one one) false (same_refl one))

-- the lanes of some aggregates, after these
abbrev pub lanes_after : List Lane → List Item → List Lane
lanes_after lanes items = fold (λ (ls : List Lane) (item : Item). with_lane ls (lane_of item)) lanes items

with_kept : (lanes : List Lane) (o : Option Lane) (lane : Lane) → has_lane lanes lane ≡ true → has_lane (with_lane lanes o) lane ≡ true
with_kept lanes None lane e = e
with_kept lanes (Some one) lane e = cond_both (has_lane lanes one) lanes (lanes ++ one ∷ []) (λ (ls : List Lane). has_lane ls lane ≡ true) (λ _. e) (λ _. has_more lanes one lane e)

with_new : (lanes : List Lane) (lane : Lane) → has_lane (with_lane lanes (Some lane)) lane ≡ true
with_new lanes lane = cond_both (has_lane lanes lane) lanes (lanes ++ lane ∷ []) (λ (ls : List Lane). has_lane ls lane ≡ true) (λ e. e) (λ _. has_new lanes lane)

kept : (items : List Item) (lanes : List Lane) (lane : Lane) → has_lane lanes lane ≡ true → has_lane (lanes_after lanes items) lane ≡ true
kept [] lanes lane e = e
kept (item ∷ items) lanes lane e = kept items (with_lane lanes (lane_of item)) lane (with_kept lanes (lane_of item) lane e)

-- a lane, if there is one, is among these
abbrev pub IsAmong : List Lane → Option Lane → Type 0
IsAmong lanes None = Unit {0}
IsAmong lanes (Some lane) = has_lane lanes lane ≡ true

abbrev pub AreAmong : List Lane → List Item → Type 0
AreAmong lanes [] = Unit {0}
AreAmong lanes (item ∷ items) = IsAmong lanes (lane_of item) × AreAmong lanes items

pub all_among : (items : List Item) (lanes : List Lane) → AreAmong (lanes_after lanes items) items
all_among [] lanes = tt
all_among (item ∷ items) lanes = (first (lane_of item), all_among items (with_lane lanes (lane_of item)))
  where
    first : (o : Option Lane) → IsAmong (lanes_after (with_lane lanes o) items) o
    first None = tt
    first (Some lane) = kept items (with_lane lanes (Some lane)) lane (with_new lanes lane)

-- ---- each once

abbrev pub AreApart : List Lane → Type 0
AreApart [] = Unit {0}
AreApart (lane ∷ lanes) = (has_lane lanes lane ≡ false) × AreApart lanes

push_apart : (lanes : List Lane) (one : Lane) → AreApart lanes → has_lane lanes one ≡ false → AreApart (lanes ++ one ∷ [])
push_apart [] one apart h = (refl, tt)
push_apart (lane ∷ lanes) one apart h = (
  has-append lanes (one ∷ []) lane ∙ or_false (has_lane lanes lane) (is_same one lane) apart.0 (not_same one lane (or_first-false (is_same lane one) (has_lane lanes one) h)),
  push_apart lanes one apart.1 (or_second-false (is_same lane one) (has_lane lanes one) h),
)

with_apart : (lanes : List Lane) (o : Option Lane) → AreApart lanes → AreApart (with_lane lanes o)
with_apart lanes None apart = apart
with_apart lanes (Some one) apart = cond_both (has_lane lanes one) lanes (lanes ++ one ∷ []) AreApart (λ _. apart) (λ h. push_apart lanes one apart h)

pub all_apart : (items : List Item) (lanes : List Lane) → AreApart lanes → AreApart (lanes_after lanes items)
all_apart [] lanes apart = apart
all_apart (item ∷ items) lanes apart = all_apart items (with_lane lanes (lane_of item)) (with_apart lanes (lane_of item) apart)

-- ---- each lane is that of an aggregate

abbrev pub is_by : Lane → Option Lane → Bool
is_by lane None = false
is_by lane (Some one) = is_same one lane

abbrev pub has_item : List Item → Lane → Bool
has_item [] lane = false
has_item (item ∷ items) lane = is_by lane (lane_of item) || has_item items lane

or_last : (a : Bool) → (a || false) ≡ true → a ≡ true
or_last true e = refl
or_last false e = e

with_came : (lanes : List Lane) (o : Option Lane) (lane : Lane) → has_lane (with_lane lanes o) lane ≡ true → (has_lane lanes lane ≡ true) ⊎ (is_by lane o ≡ true)
with_came lanes None lane e = inl e
with_came lanes (Some one) lane e =
    cond_both (has_lane lanes one) lanes (lanes ++ one ∷ []) (λ (ls : List Lane). has_lane ls lane ≡ true → (has_lane lanes lane ≡ true) ⊎ (is_same one lane ≡ true)) (λ _ f. inl f)
    (λ _ f. either (or_split (has_lane lanes lane) (is_same one lane || false) (sym (has-append lanes (one ∷ []) lane) ∙ f))) e
  where
    either : (has_lane lanes lane ≡ true) ⊎ ((is_same one lane || false) ≡ true) → (has_lane lanes lane ≡ true) ⊎ (is_same one lane ≡ true)
    either (inl h) = inl h
    either (inr h) = inr (or_last (is_same one lane) h)

pub came : (items : List Item) (lanes : List Lane) (lane : Lane) → has_lane (lanes_after lanes items) lane ≡ true → (has_lane lanes lane ≡ true) ⊎ (has_item items lane ≡ true)
came [] lanes lane e = inl e
came (item ∷ items) lanes lane e = go (came items (with_lane lanes (lane_of item)) lane e)
  where
    first : (has_lane lanes lane ≡ true) ⊎ (is_by lane (lane_of item) ≡ true) → (has_lane lanes lane ≡ true) ⊎ ((is_by lane (lane_of item) || has_item items lane) ≡ true)
    first (inl h) = inl h
    first (inr h) = inr (or_left (is_by lane (lane_of item)) (has_item items lane) h)

    go : (has_lane (with_lane lanes (lane_of item)) lane ≡ true) ⊎ (has_item items lane ≡ true) → (has_lane lanes lane ≡ true) ⊎ ((is_by lane (lane_of item) || has_item items lane) ≡ true)
    go (inl h) = first (with_came lanes (lane_of item) lane h)
    go (inr h) = inr (or_right (is_by lane (lane_of item)) (has_item items lane) h)
