use Rattle.std.proofs.Common.{◌≡◌, ◌<◌, ◌≤◌, ◌+◌, ◌-◌, ℕ, List, [], ⊎_elim, refl, sym, subst, ◌∙◌, arith}
use Rattle.std.proofs.lemmas.Bool.{cases_lt}
use Rattle.std.specs.Vec.{with_item}
use Rattle.region_words.specs.declared.chunk.Chunk.{Chunk}
use Rattle.free_pages.specs.Area.{class_count}
use Rattle.size_classes.specs.Classes.{IsClass, first_class}
use Rattle.area_spares.specs.Spares.{AllGoBack, GoBackUntil, kept_of}
use Rattle.area_spares.specs.Classes.{FirstBack, kept_in}
use Rattle.area_spares.proofs.Each.{changed, kept_is, same_kept}
use Rattle.area_spares.proofs.Outcomes.{back_next}
use Rattle.area_spares.proofs.classes.ClassSpares.give_back.Goals as goal

-- a place among those of all classes
class_at : (place : ℕ) → place < class_count → IsClass (place + first_class)
class_at place low = record { low = omega arith; high = omega arith }

placed_at : (place : ℕ) → place ≡ place + first_class - first_class
placed_at place = omega arith

pub returns-in-Err-clause-spares : goal.returns-in-Err-clause-spares
returns-in-Err-clause-spares g c =
    let s = c.loop-at.self in
    let at = c.loop-at.at in
    let below : at < class_count = omega (arith, c.loop-at-test.true, c.from-at-end.ensures) in
    let x = c.index_mut.result.now in
    let y = c.give_back.new.self in
    let v = with_item s.classes at y in
    (changed c.args.r.now s v (at + first_class) at x y c.loop-at.invariant.spares (class_at at below) (placed_at at) c.index_mut.ensures.value refl c.give_back.ensures.spares c.give_back.ensures.same.0).are

pub returns-in-Err-clause-stranger : goal.returns-in-Err-clause-stranger
returns-in-Err-clause-stranger g c =
    let i = c.loop-at.invariant in
    let s = c.loop-at.self in
    let at = c.loop-at.at in
    let below : at < class_count = omega (arith, c.loop-at-test.true, c.from-at-end.ensures) in
    let x = c.index_mut.result.now in
    let y = c.give_back.new.self in
    let v = with_item s.classes at y in
    let k = changed c.args.r.now s v (at + first_class) at x y i.spares (class_at at below) (placed_at at) c.index_mut.ensures.value refl c.give_back.ensures.spares c.give_back.ensures.same.0 in
    let was : kept_in c.args.self.now (at + first_class) ≡ kept_of x = same_kept c.args.self.now s (at + first_class) (sym (i.rest at (omega arith) below)) ∙ kept_is s (at + first_class) x k.is in
    let back = subst (λ (z : ℕ × List Chunk × List Chunk). GoBackUntil c.args.area.now z.0 c.loop-at.pass z.1 c.give_back.new.pass z.2 c.in-Err.stranger.chunk) (λ j. (k.class_is j, sym was j, sym (kept_is (record { classes = v }) (at + first_class) y k.here) j)) c.in-Err.ensures.stranger in (
      at,
      below,
      c.loop-at.pass,
      i.back,
      back,
      (λ other low. same_kept (record { classes = v }) s (other + first_class) (k.else (other + first_class) (class_at other (omega (arith, low, below))) (λ e. omega (arith, low, e))) ∙ i.none other low),
      (λ other low high. k.else (other + first_class) (class_at other high) (λ e. omega (arith, low, e)) ∙ i.rest other (omega (arith, low)) high),
    )

pub loop-at-preserved : goal.loop-at-preserved
loop-at-preserved g c =
    let i = c.loop-at.invariant in
    let s = c.loop-at.self in
    let at = c.loop-at.at in
    let below : at < class_count = omega (arith, c.loop-at-test.true, c.from-at-end.ensures) in
    let x = c.index_mut.result.now in
    let y = c.give_back.new.self in
    let v = with_item s.classes at y in
    let k = changed c.args.r.now s v (at + first_class) at x y i.spares (class_at at below) (placed_at at) c.index_mut.ensures.value refl c.give_back.ensures.spares c.give_back.ensures.same.0 in
    let was : kept_in c.args.self.now (at + first_class) ≡ kept_of x = same_kept c.args.self.now s (at + first_class) (sym (i.rest at (omega arith) below)) ∙ kept_is s (at + first_class) x k.is in
    let all = subst (λ (z : ℕ × List Chunk). AllGoBack c.args.area.now z.0 c.loop-at.pass z.1 c.give_back.new.pass) (λ j. (k.class_is j, sym was j)) c.in-Ok.ensures.all in
    record {
      own = c.give_back.ensures.own;
      caller = c.give_back.ensures.caller ∙ i.caller;
      spares = k.are;
      back = back_next c.args.area.now c.args.self.now at c.args.pass.now c.loop-at.pass c.give_back.new.pass i.back all;
      none = λ other low. ⊎_elim
          (λ (l : other < at). same_kept (record { classes = v }) s (other + first_class) (k.else (other + first_class) (class_at other (omega (arith, l, below))) (λ e. omega (arith, l, e))) ∙ i.none other l)
          (λ (l : at ≤ other). let e : other ≡ at = omega (arith, l, low) in subst (λ (o : ℕ). kept_in (record { classes = v }) (o + first_class) ≡ []) (sym e) (kept_is (record { classes = v }) (at + first_class) y k.here ∙ c.in-Ok.ensures.none))
          (cases_lt other at);
      rest = λ other low high. k.else (other + first_class) (class_at other high) (λ e. omega (arith, low, e)) ∙ i.rest other (omega (arith, low)) high;
    }

pub returns-clause-all : goal.returns-clause-all
returns-clause-all g c =
    let all : c.loop-at.at ≡ class_count = omega (arith, c.loop-at-test.false, c.loop-at.auto.at-end, c.from-at-end.ensures) in
    subst (λ (n : ℕ). FirstBack c.args.area.now c.args.self.now n c.args.pass.now c.loop-at.pass) all c.loop-at.invariant.back
