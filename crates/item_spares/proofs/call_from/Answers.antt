use Rattle.std.proofs.Common.{◌≡◌, ℕ, IfSome, sym, subst}
use Rattle.std.proofs.lemmas.Result.{IfOk-weaker}
use Rattle.item_spares.proofs.Filling.{err_weaker}
use Rattle.item_spares.proofs.call_from.Goals as goal

pub fill-requires-clause-spare : goal.fill-requires-clause-spare
fill-requires-clause-spare g c = subst (λ (n : ℕ). IfSome c.args.spare.now (λ x. (x.part.region ≡ c.args.r.now) × (x.bytes ≡ n))) (sym c.requires.size) c.requires.spare

pub call_with_spare-requires-clause-spare : goal.call_with_spare-requires-clause-spare
call_with_spare-requires-clause-spare g c κs within = subst (λ (n : ℕ). IfSome c.fill.new.spare (λ x. (x.part.region ≡ c.args.r.now) × (x.bytes ≡ n))) c.requires.size c.fill.ensures.spare

pub returns-clause-made : goal.returns-clause-made
returns-clause-made g c = IfOk-weaker c.call_with_spare.result _ _ (λ reply made. (c.fill.new.spare, c.fill.new.apass, c.fill.ensures.filled, made)) c.call_with_spare.ensures.made

pub returns-clause-refused : goal.returns-clause-refused
returns-clause-refused g c = err_weaker c.call_with_spare.result _ _ (λ lack refused. (c.fill.new.spare, c.fill.new.apass, c.fill.ensures.filled, refused)) c.call_with_spare.ensures.refused
