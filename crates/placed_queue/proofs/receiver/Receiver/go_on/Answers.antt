use Rattle.std.proofs.Common.{◌≡◌, ◌++◌, ◌∷◌, [], ap, sym, ◌∙◌, subst, arith, length, take, List}
use mathlib.Core.List.{IsPrefix}
use Rattle.placed_queue.specs.declared.item.Item.{Item}
use Rattle.placed_queue.specs.Sides.{Side, side}
use Rattle.placed_queue.proofs.Fronts.{prefix_take}
use Rattle.placed_queue.proofs.receiver.Receiver.go_on.Goals as goal

pub returns : goal.returns
returns c =
    let both = c.learn.new.self.log in
    let h = c.self.inside.seen.log in
    let l = c.args.seen.log in
    let this : IsPrefix h both = subst (λ (k : List Item). IsPrefix k both) (ap (λ s. s.log) c.again-both.ensures) c.learn.ensures.2 in
    let view : c.args.self.now.history ≡ h = sym (ap (λ (s : Side). s.history) c.self.view_is) in
    let front : take (length h) l ≡ h = prefix_take h l both this c.learn.ensures.3 (omega (arith, c.requires.next.0, ap length view)) in
    let next : l ≡ take (length h) l ++ c.args.item.now ∷ [] = subst (λ (k : List Item). l ≡ take (length k) l ++ c.args.item.now ∷ []) view c.requires.next.1 in
    let whole : l ≡ c.args.self.now.history ++ c.args.item.now ∷ [] = next ∙ ap (λ (k : List Item). k ++ c.args.item.now ∷ []) (front ∙ sym view) in
    let over : c.self.inside.over ≡ c.args.self.now.over = ap (λ (s : Side). s.over) c.self.view_is in
    λ i. side (c.requires.here i) (whole i) (over i)
