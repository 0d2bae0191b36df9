use Rattle.std.proofs.Common.{◌≡◌, ◌+◌, List, [], ◌∷◌, ◌++◌, length, ap, sym, ◌∙◌, arith, append_assoc, length-append}
use Rattle.dshash_core.specs.Chains.{Item}
use Rattle.dshash_core.specs.Hung.{Hung, chain_of}
use Rattle.dshash_core.proofs.Views.{first_item}
use Rattle.dshash_core.proofs.buckets.Buckets.is_long.Goals as goal

pub loop-passed-preserved : goal.loop-passed-preserved
loop-passed-preserved c =
    let i = c.loop-passed.invariant in
    let f = first_item i.1 c.loop-passed.item i.4 c.if-item-eq0.false in
    let splits : chain_of c.args.self.now c.args.bucket ≡ i.0 ++ f.0 ∷ f.1 = i.3 ∙ ap (λ (l : List Item). i.0 ++ l) f.2 in
    let now : chain_of c.loop-passed.self c.args.bucket ≡ i.0 ++ f.0 ∷ f.1 = ap (λ (u : Hung). chain_of u c.args.bucket) i.2 ∙ splits in
    let more : length (i.0 ++ f.0 ∷ []) ≡ length i.0 + 1 = length-append i.0 (f.0 ∷ []) in (
      i.0 ++ f.0 ∷ [],
      f.1,
      c.next-item.ensures.same ∙ i.2,
      splits ∙ sym (append_assoc i.0 (f.0 ∷ []) f.1),
      c.next-item.ensures.next i.0 f.1 f.0 now f.3,
      c.next-item.ensures.ends i.0 f.1 f.0 now f.3,
      omega (arith, more, i.6),
    )
