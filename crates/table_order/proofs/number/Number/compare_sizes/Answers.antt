use Rattle.std.proofs.Common.{◌∙◌, ap, sym}
use Rattle.std.specs.Cmp.Lexicographic.{slice_cmp}
use Rattle.std.specs.Ordering.{nat_cmp, ordering_then}
use Rattle.std.specs.declared.cmp.Ordering.{Ordering}
use Rattle.table_order.proofs.Values.{sizes-equal, sizes-unequal, then-unequal}
use Rattle.table_order.proofs.number.Number.compare_sizes.Goals as goal

pub returns-in_default : goal.returns-in_default
returns-in_default c =
    let a = c.args.self.now in
    let b = c.args.other.now in
    let s = c.requires.sound in
    let t = c.requires.other in
    sizes-unequal a.whole.now b.whole.now a.part.now b.part.now c.cmp.result s.whole t.whole s.part t.part (sym t.long) s.front t.front c.cmp.ensures c.in_default.not-Equal

pub returns-in-Equal-cmp : goal.returns-in-Equal-cmp
returns-in-Equal-cmp c =
    let a = c.args.self.now in
    let b = c.args.other.now in
    let s = c.requires.sound in
    let t = c.requires.other in
    let same = sizes-equal a.whole.now b.whole.now a.part.now b.part.now c.cmp.result s.whole t.whole s.part t.part (sym t.long) c.cmp.ensures c.in-Equal.is in
    c.cmp-in-Equal-cmp.ensures ∙ ap (λ (o : Ordering). ordering_then o (slice_cmp nat_cmp a.part.now b.part.now)) (sym c.in-Equal-cmp.is ∙ c.cmp-2.ensures) ∙ sym same

pub returns-in_default-cmp : goal.returns-in_default-cmp
returns-in_default-cmp c =
    let a = c.args.self.now in
    let b = c.args.other.now in
    let s = c.requires.sound in
    let t = c.requires.other in
    let same = sizes-equal a.whole.now b.whole.now a.part.now b.part.now c.cmp.result s.whole t.whole s.part t.part (sym t.long) c.cmp.ensures c.in-Equal.is in
    then-unequal c.cmp-2.result _ _ c.cmp-2.ensures c.in_default-cmp.not-Equal ∙ sym same
