use Rattle.std.proofs.Common.{◌≡◌, ℕ, ◌+◌, ◌-◌, ◌/◌, ◌<◌, ◌≤◌, ⊎_elim, true, refl, sym, subst, ap, ◌∙◌, arith}
use mathlib.Core.Logic.{dite}
use native.Mathlib.Decide.{ℕ_discrete}
use Rattle.std.proofs.lemmas.Bool.{cases_lt, false_from_ne_true}
use Rattle.word_map.proofs.Maps.{within_is}
use Rattle.region_words.specs.Parts.{Owned}
use Rattle.span_pools.specs.Places.{base, covers}
use Rattle.span_pools.specs.Places.{place as place_of}
use Rattle.span_pools.specs.View.{mark_of}
use Rattle.span_pools.proofs.Covers.{place_covers}
use Rattle.span_pools.proofs.find.holder.Goals as goal

-- no superblock begins behind the active one's first page and up to this one
pub loop-back-init : goal.loop-back-init
loop-back-init c = record {
  same = refl;
  none = λ p low near. false_from_ne_true _ (λ m.
      let few = c.first_back-back.ensures.few in
      let b = c.first_back-back.ensures.begins (omega (arith, low, near)) in
      let first = b.2 in
      let apart = c.requires.apart b.0 p (c.requires.active b.0 b.1) m (omega (arith, first, near)) in
      omega (arith, apart, low, first, few));
}

-- a superblock that has an object at the place is the one whose bit was found
pub returns-else-is_object-clause-none : goal.returns-else-is_object-clause-none
returns-else-is_object-clause-none c = λ p i m low e.
    let inside = within_is (base c.args.layout p) 8192 c.args.place (subst (λ (k : ℕ). covers c.args.layout p k ≡ true) (sym e) (place_covers c.args.layout p i c.requires.layout low)) in
    let begins = inside.0 in
    let ends = inside.1 in
    let page : ℕ = (c.args.place - c.args.layout.first) / 512 in
    let back : ℕ = c.loop-back.back in
    ⊎_elim
    (λ (near : page < p + back). let none = c.loop-back.invariant.none p (omega (arith, begins)) near in absurd (cc))
    (λ (far : p + back ≤ page). dite (ℕ_discrete p (page - back))
    (λ same. c.is_object.ensures.no c.if-is_object.false i low (e ∙ ap (λ (z : ℕ). place_of c.args.layout z i) same))
    (λ other.
    let here = subst (λ (o : Owned). mark_of c.args.layout o.words (page - back) ≡ true) c.loop-back.invariant.same (sym c.is_marked.ensures.marked ∙ c.if-is_marked.true) in
    let apart = c.requires.apart p (page - back) m here (omega (arith, far, other)) in
    omega (arith, apart, begins, ends, far)))
    (cases_lt page (p + back))
