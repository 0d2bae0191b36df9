use Rattle.std.proofs.Common.{◌≡◌, ◌++◌, ℕ, List, Option, Some, ap, codes, decimal, sym}
use Rattle.state_cover.specs.declared.missing.Missing.{Missing}
use Rattle.state_text.specs.Covers.{gap_text, place_text, source_text}
use Rattle.state_text.proofs.covers.gap_pieces.Goals as goal

said : (gap : Missing) (to : ℕ) (s f t : List ℕ) → gap.to ≡ Some to → s ≡ decimal gap.source → f ≡ decimal gap.from → t ≡ decimal to → codes "source " ++ (s ++ (codes " from " ++ (f ++ (codes " to " ++ (t ++ codes " is missing"))))) ≡ gap_text gap
said gap to s f t e es ef et = rw (es, ef, et) (sym (ap (λ (o : Option ℕ). source_text gap.source (place_text gap.from o)) e))

pub returns-in-Some : goal.returns-in-Some
returns-in-Some c = said c.args.gap c.in-Some.to c.format-source.result.now c.format-from.result.now c.format.result.now c.in-Some.is c.format-source.ensures.text c.format-from.ensures.text c.format.ensures.text
