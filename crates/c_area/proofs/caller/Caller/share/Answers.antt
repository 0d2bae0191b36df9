use Rattle.std.proofs.Common.{◌≡◌, ℕ, [], Some, None, subst, length, length-append, sym, ap, ◌∙◌}
use mathlib.Core.Option.{some-ne-none}
use lib.ListN.{get_elem?}
use Rattle.std_alloc.specs.Arc.{arc_value}
use Rattle.region_words.specs.Parts.{Owned}
use Rattle.lock_book.specs.Shown.{Belongs, mine_of, number_of, seen_of}
use Rattle.c_area.specs.Shares.{IsHeld, IsShared, chunk_of}
use Rattle.c_area.specs.declared.shared.Extent.{Extent}
use Rattle.c_area.specs.declared.shared.Share.{Share}
use Rattle.c_area.specs.declared.shared.Shared.{Shared}
use Rattle.c_area.proofs.Chunks.{no_chunk}
use Rattle.c_area.proofs.Keeping.{none_cut}
use Rattle.c_area.proofs.Lists.{at_end, each_but_last}
use Rattle.c_area.proofs.caller.Caller.share.Goals as goal

pub returns : goal.returns
returns c =
    let v = c.self.view_is in
    let i = c.self.invariant in
    let next = i.others (length c.pop.new.self.items) c.in-Some.pass (at_end _ _ _ c.in-Some.ensures.items) in (
      ap (λ (s : Share). s.shared) v,
      ap (λ (s : Share). s.pass) v,
      record { chunks = λ k. ap (λ (s : Share). chunk_of s k) v; words = c.split-words.ensures.rest ∙ (none_cut c.self.inside.share.words.region c.self.inside.share.words.words ∙ ap (λ (s : Share). s.words) v) },
      c.in-Ok.ensures ∙ ap (λ (s : Share). arc_value s.shared) v,
      sym (ap (λ (s : Share). length s.others.items) v) ∙ ap length c.in-Some.ensures.items ∙ length-append c.pop.new.self.items _,
      c.new.ensures.items,
      next.1,
      record { fresh = next.2; empty = no_chunk c.new-2.result c.new-2.ensures.empty },
    )

pub invariant_of-self-2 : goal.invariant_of-self-2
invariant_of-self-2 c =
    let i = c.self.invariant in
    let was : Owned = c.self.inside.share.words in
    let same : c.split-words.new.self ≡ was = c.split-words.ensures.rest ∙ none_cut was.region was.words in
    record {
      shared = i.shared;
      own = i.own;
      others = (each_but_last (λ k p. Belongs (arc_value c.self.inside.share.shared).shelf p × (number_of p ≡ k) × ((n : ℕ) → (seen_of p n ≡ []) × (mine_of p n ≡ []))) _ _ _ c.in-Some.ensures.items i.others).0;
      here = ap (λ (o : Owned). o.region) same ∙ i.here;
      held = subst (λ (o : Owned). (number : ℕ) (e : Extent) → chunk_of c.self.inside.share number ≡ Some e → IsHeld o.words e) (sym same) i.held;
      apart = i.apart;
    }

pub invariant_of-result : goal.invariant_of-result
invariant_of-result c =
    let i = c.self.invariant in
    let next = i.others (length c.pop.new.self.items) c.in-Some.pass (at_end _ _ _ c.in-Some.ensures.items) in
    let e = sym c.in-Ok.ensures in
    let none = no_chunk c.new-2.result c.new-2.ensures.empty in
    record {
      shared = subst IsShared e i.shared;
      own = subst (λ (x : Shared). Belongs x.shelf c.in-Some.pass) e next.0;
      others = λ k p at. absurd (some-ne-none p (sym at ∙ ap (λ l. get_elem? l k) c.new.ensures.items));
      here = ap (λ (o : Owned). o.region) c.split-words.ensures.range ∙ (i.here ∙ ap (λ (x : Shared). x.region) e);
      held = λ number d there. let x : None ≡ Some d = sym (none number) ∙ there in let y : ⊥ = cc in absurd y;
      apart = λ one other d f there also ne k in_d in_f. let x : None ≡ Some d = sym (none one) ∙ there in let y : ⊥ = cc in y;
    }
