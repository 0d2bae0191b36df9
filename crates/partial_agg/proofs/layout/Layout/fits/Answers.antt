use Rattle.std.proofs.Common.{◌∙◌, List, arith, sym, ap, refl}
use Rattle.std.proofs.lemmas.Bool.{false≢true}
use Rattle.std.proofs.lemmas.List.{take_all}
use Rattle.partial_agg.specs.Lanes.{lanes_of, slots_in}
use Rattle.partial_agg.specs.declared.layout.SlotPart.{SlotPart}
use Rattle.partial_agg.proofs.Lanes.{not_told, told_more}
use Rattle.partial_agg.proofs.layout.Layout.fits.Goals as goal

pub returns-then-not-is_same : goal.returns-then-not-is_same
returns-then-not-is_same c = (
  λ t. absurd (false≢true t),
  λ fits.
      absurd (not_told c.args.self.now.parts (lanes_of c.args.self.now c.args.slots.now) c.args.slots.now c.loop-at.at _ _ (omega arith) fits (λ same.
      absurd (false≢true (sym c.if-not-is_same.true ∙ c.is_same.ensures.1 (c.told.ensures ∙ same))))),
)

pub loop-at-preserved : goal.loop-at-preserved
loop-at-preserved c =
    told_more c.args.self.now.parts (lanes_of c.args.self.now c.args.slots.now) c.args.slots.now c.loop-at.at _ _ (omega arith) (omega arith) c.loop-at.invariant (sym c.told.ensures ∙ c.is_same.ensures.0 c.if-not-is_same.false)

pub returns : goal.returns
returns c = (
  λ t.
      sym (ap (λ (parts : List SlotPart). slots_in parts (lanes_of c.args.self.now c.args.slots.now)) (take_all c.loop-at.at c.args.self.now.parts (omega arith)))
      ∙ c.loop-at.invariant
      ∙ take_all c.loop-at.at c.args.slots.now (omega arith),
  λ h. refl,
)
