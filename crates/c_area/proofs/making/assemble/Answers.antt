use Rattle.std.proofs.Common.{◌≡◌, ℕ, ◌+◌, ◌*◌, ◌/◌, ◌<◌, ◌≤◌, List, [], ◌∷◌, Some, None, length, length-append, refl, sym, ap, ◌∙◌, subst, arith}
use Rattle.std_alloc.specs.Arc.{arc_value}
use Rattle.region_words.specs.Parts.{Owned}
use Rattle.lock_book.specs.Shown.{Belongs, callers_of, mine_of, number_of, opens_of, seen_of}
use Rattle.dsa_area.proofs.Openings.{one_open}
use Rattle.c_area.specs.Arenas.{name_in, name_of, state_of}
use Rattle.c_area.specs.Shares.{IsShared}
use Rattle.c_area.specs.States.{AreaState}
use Rattle.c_area.specs.declared.arena.Arena.{Arena}
use Rattle.c_area.specs.declared.histories.AreaName.{AreaName}
use Rattle.c_area.specs.declared.shared.Shared.{Shared}
use Rattle.c_area.proofs.Chunks.{no_chunk}
use Rattle.c_area.proofs.Lists.{at_end, each_but_last}
use Rattle.c_area.proofs.making.assemble.Goals as goal

pub invariant_of-result : goal.invariant_of-result
invariant_of-result c =
    let t = c.in_ok-shelf.ensures in
    let e = sym c.in_ok-shared.ensures.ok in
    let a = c.in_ok-arena.ensures in
    let own = each_but_last (λ k p. Belongs c.in_ok-shelf.shelf p × (number_of p ≡ k) × ((i : ℕ) → (seen_of p i ≡ []) × (mine_of p i ≡ []))) _ _ _ c.in-Some.ensures.items (λ k p at. (t.passes.each k p at, t.passes.numbers k p at, t.fresh k p at)) in
    let none = no_chunk c.new-4.result c.new-4.ensures.empty in
    let items = t.counts.0 in
    record {
      shared = subst IsShared e (record {
        state = state_of c.in_ok-arena.arena;
        new = a.opens;
        opens = one_open (λ (x : Arena). (name_of x, state_of x)) (opens_of c.in_ok-shelf.shelf) c.push.new.self.items c.new-values.result.items c.in_ok-arena.arena c.in_ok-arena.arena t.opens c.in_ok-push.ensures.items c.new-values.ensures.items refl
            ∙ ap (λ (n : AreaName). (n, state_of c.in_ok-arena.arena) ∷ []) a.name;
        count = t.counts.0 ∙ (ap length c.in_ok-push.ensures.items ∙ (length-append c.new-values.result.items _ ∙ ap (λ (l : List Arena). length l + 1) c.new-values.ensures.items));
        few = c.requires.few;
      });
      own = subst (λ (x : Shared). Belongs x.shelf c.in-Some.pass) e own.1.0;
      others = λ k p at. let o = own.0 k p at in (subst (λ (x : Shared). Belongs x.shelf p) e o.0, o.1, o.2);
      here = ap (λ (o : Owned). o.region) c.split-none.ensures.range ∙ (ap (λ (o : Owned). o.region) c.split_chunk-chunk.ensures.rest ∙ (c.in_ok-region.ensures.region ∙ ap (λ (x : Shared). x.region) e));
      held = λ number d there. let x : None ≡ Some d = sym (none number) ∙ there in let y : ⊥ = cc in absurd y;
      apart = λ one other d f there also ne k in_d in_f. let x : None ≡ Some d = sym (none one) ∙ there in let y : ⊥ = cc in y;
    }

pub returns : goal.returns
returns c =
    let t = c.in_ok-shelf.ensures in
    let last = t.passes.numbers _ c.in-Some.pass (at_end _ _ _ c.in-Some.ensures.items) in
    record {
      pages_are = ap (λ (x : Shared). x.pages) c.in_ok-shared.ensures.ok;
      callers_are = ap (λ (x : Shared). callers_of x.shelf) c.in_ok-shared.ensures.ok ∙ t.counts.1;
      others = omega (arith, ap length c.in-Some.ensures.items, length-append c.pop.new.self.items (c.in-Some.pass ∷ []), t.passes.count, t.counts.1);
      number = omega (arith, last, ap length c.in-Some.ensures.items, length-append c.pop.new.self.items (c.in-Some.pass ∷ []), t.passes.count, t.counts.1);
      fresh = record { fresh = t.fresh _ c.in-Some.pass (at_end _ _ _ c.in-Some.ensures.items); empty = no_chunk c.new-4.result c.new-4.ensures.empty };
    }
