use Rattle.std.proofs.Common.{◌≡◌, ℕ, List, [], ◌∷◌, inr, ap, subst, ◌∙◌, arith}
use Rattle.region_words.specs.declared.chunk.Chunk.{Chunk}
use Rattle.size_classes.specs.Classes.{class_size}
use Rattle.span_pools.specs.Legal.{AllocMany, Objects}
use Rattle.span_pools.specs.Batch.{places}
use Rattle.dsa_area.specs.declared.area.Area.{Area}
use Rattle.dsa_area.specs.declared.area.AreaPass.{AreaPass}
use Rattle.dsa_area.specs.Sizes.{chunk_size}
use Rattle.dsa_area.specs.Requests.{IsGranted, IsRefused, PoolEvents}
use Rattle.area_spares.specs.Spares.{NoneFree}
use Rattle.area_spares.proofs.Lists.{err_as, none_of, ok_as}
use Rattle.area_spares.proofs.Sizes.{own_size}
use Rattle.area_spares.proofs.spares.Spares.alloc_anew.Goals as goal

-- nothing was kept, and nothing came
none_came : (a : Area) (p q mid : AreaPass) (class batch : ℕ) (before after : List Chunk) → before ≡ [] → after ≡ [] → PoolEvents a p mid class ((AllocMany batch, Objects (places after)) ∷ []) → NoneFree a p q class batch before after mid
none_came a p q mid class batch before after none left given = record { none_kept = none; none_left = left; none_free = subst (λ (cs : List Chunk). PoolEvents a p mid class ((AllocMany batch, Objects (places cs)) ∷ [])) left given }

pub returns-then-len-eq0-clause-given : goal.returns-then-len-eq0-clause-given
returns-then-len-eq0-clause-given g c =
    let a = c.args.area.now in
    let mid = c.refill.new.pass in
    let class = c.args.self.now.class in
    let asked = c.from.ensures ∙ (c.class_bytes.ensures.size ∙ ap class_size c.refill.ensures.same.0) in
    let none = none_came a c.args.pass.now c.alloc.new.pass mid class c.args.self.now.batch c.args.self.now.kept.items c.refill.new.self.kept.items (none_of c.args.self.now.kept.items c.requires.none)
    (none_of c.refill.new.self.kept.items (omega (arith, c.if-len-eq0.true, c.len.ensures, c.refill.new.self.kept.ok.0))) c.refill.ensures.given in
    ok_as c.alloc.result (λ x. IsGranted a mid c.alloc.new.pass c.from.result x.at) _
    (λ x h. inr (inr (mid, none, subst (λ (z : ℕ). IsGranted a mid c.alloc.new.pass z x.at) asked h))) c.alloc.ensures.granted

pub returns-then-len-eq0-clause-size : goal.returns-then-len-eq0-clause-size
returns-then-len-eq0-clause-size g c =
    let class = c.args.self.now.class in
    let asked = c.from.ensures ∙ (c.class_bytes.ensures.size ∙ ap class_size c.refill.ensures.same.0) in
    ok_as c.alloc.result (λ x. x.bytes ≡ chunk_size c.from.result) (λ x. x.bytes ≡ class_size class) (λ x h. h ∙ (ap chunk_size asked ∙ own_size class c.requires.spares.class)) c.alloc.ensures.size

pub returns-then-len-eq0-clause-refused : goal.returns-then-len-eq0-clause-refused
returns-then-len-eq0-clause-refused g c =
    let a = c.args.area.now in
    let mid = c.refill.new.pass in
    let class = c.args.self.now.class in
    let asked = c.from.ensures ∙ (c.class_bytes.ensures.size ∙ ap class_size c.refill.ensures.same.0) in
    let none = none_came a c.args.pass.now c.alloc.new.pass mid class c.args.self.now.batch c.args.self.now.kept.items c.refill.new.self.kept.items (none_of c.args.self.now.kept.items c.requires.none)
    (none_of c.refill.new.self.kept.items (omega (arith, c.if-len-eq0.true, c.len.ensures, c.refill.new.self.kept.ok.0))) c.refill.ensures.given in
    err_as c.alloc.result (λ e. IsRefused a mid c.alloc.new.pass c.from.result e.pages e.largest) _
    (λ e h. (mid, none, subst (λ (z : ℕ). IsRefused a mid c.alloc.new.pass z e.pages e.largest) asked h)) c.alloc.ensures.refused

pub returns-clause-spares : goal.returns-clause-spares
returns-clause-spares g c = (c.take_kept.ensures.spares c.args.r.now c.refill.ensures.spares).0

pub returns-clause-size : goal.returns-clause-size
returns-clause-size g c = (c.take_kept.ensures.spares c.args.r.now c.refill.ensures.spares).1 ∙ ap class_size c.refill.ensures.same.0

pub returns-clause-here : goal.returns-clause-here
returns-clause-here g c = (c.take_kept.ensures.spares c.args.r.now c.refill.ensures.spares).2
