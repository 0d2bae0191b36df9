use Rattle.std.proofs.Common.{◌≡◌, ◌≤◌, ℕ, refl, sym, ap, subst, ◌∙◌}
use Rattle.std.specs.Vec.{with_item}
use Rattle.size_classes.specs.Classes.{class_size}
use Rattle.dsa_area.specs.Sizes.{chunk_size}
use Rattle.dsa_area.proofs.Chunks.{size_least}
use Rattle.area_spares.specs.Spares.{class_of}
use Rattle.area_spares.proofs.Each.{changed}
use Rattle.area_spares.proofs.Lists.{ok_as}
use Rattle.area_spares.proofs.Outcomes.{comes_out, is_short}
use Rattle.area_spares.proofs.classes.ClassSpares.alloc.Goals as goal

pub returns-in-Some-clause-given : goal.returns-in-Some-clause-given
returns-in-Some-clause-given g c =
    let s = c.args.self.now in
    let class = c.in-Some.class in
    let x = c.index_mut.result.now in
    let y = c.alloc.new.self in
    let v = with_item s.classes c.from.result y in
    let k = changed c.args.r.now s v class c.from.result x y c.requires.spares c.in-Some.ensures.least.is_class c.from.ensures c.index_mut.ensures.value refl c.alloc.ensures.spares c.alloc.ensures.same.0 in
    comes_out c.args.area.now c.args.pass.now c.alloc.new.pass c.args.r.now s class x y (record { classes = v }) k c.args.bytes c.alloc.result c.in-Some.ensures.least c.alloc.ensures.given

pub returns-in-Some-clause-size : goal.returns-in-Some-clause-size
returns-in-Some-clause-size g c =
    let s = c.args.self.now in
    let class = c.in-Some.class in
    let x = c.index_mut.result.now in
    let y = c.alloc.new.self in
    let v = with_item s.classes c.from.result y in
    let k = changed c.args.r.now s v class c.from.result x y c.requires.spares c.in-Some.ensures.least.is_class c.from.ensures c.index_mut.ensures.value refl c.alloc.ensures.spares c.alloc.ensures.same.0 in
    ok_as c.alloc.result (λ z. z.bytes ≡ class_size (class_of x)) (λ z. z.bytes ≡ chunk_size c.args.bytes) (λ z h. h ∙ (ap class_size k.class_is ∙ size_least c.args.bytes class c.in-Some.ensures.least)) c.alloc.ensures.size

pub returns-in-Some-clause-holds : goal.returns-in-Some-clause-holds
returns-in-Some-clause-holds g c =
    let s = c.args.self.now in
    let class = c.in-Some.class in
    let x = c.index_mut.result.now in
    let y = c.alloc.new.self in
    let v = with_item s.classes c.from.result y in
    let k = changed c.args.r.now s v class c.from.result x y c.requires.spares c.in-Some.ensures.least.is_class c.from.ensures c.index_mut.ensures.value refl c.alloc.ensures.spares c.alloc.ensures.same.0 in
    ok_as c.alloc.result (λ z. z.bytes ≡ class_size (class_of x)) (λ z. c.args.bytes ≤ z.bytes) (λ z h. subst (λ (n : ℕ). c.args.bytes ≤ n) (sym (h ∙ ap class_size k.class_is)) c.in-Some.ensures.least.holds) c.alloc.ensures.size

pub returns-in-Some-clause-refused : goal.returns-in-Some-clause-refused
returns-in-Some-clause-refused g c =
    let s = c.args.self.now in
    let class = c.in-Some.class in
    let x = c.index_mut.result.now in
    let y = c.alloc.new.self in
    let v = with_item s.classes c.from.result y in
    let k = changed c.args.r.now s v class c.from.result x y c.requires.spares c.in-Some.ensures.least.is_class c.from.ensures c.index_mut.ensures.value refl c.alloc.ensures.spares c.alloc.ensures.same.0 in
    is_short c.args.area.now c.args.pass.now c.alloc.new.pass c.args.r.now s class x y (record { classes = v }) k c.args.bytes c.alloc.result c.in-Some.ensures.least c.alloc.ensures.refused
