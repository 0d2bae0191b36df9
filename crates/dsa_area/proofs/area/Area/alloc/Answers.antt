use Rattle.std.proofs.Common.{◌≡◌, ℕ, subst, IfOk, ap, ◌∙◌, ◌*◌}
use Rattle.dsa_area.specs.Sizes.{page_bytes}
use Rattle.dsa_area.proofs.Chunks.{size_holds, size_least, size_pages}
use Rattle.dsa_area.proofs.area.Area.alloc.Goals as goal

pub returns-in-Some-clause-size : goal.returns-in-Some-clause-size
returns-in-Some-clause-size g c = subst (λ (z : ℕ). IfOk c.grant_object.result (λ x. x.bytes ≡ z)) (size_least c.args.bytes c.in-Some.class c.in-Some.ensures.least) c.grant_object.ensures.size

pub returns-in-None-clause-size : goal.returns-in-None-clause-size
returns-in-None-clause-size g c = subst (λ (z : ℕ). IfOk c.grant_pages.result (λ x. x.bytes ≡ z)) (ap (λ (z : ℕ). page_bytes * z) c.page_count.ensures.pages ∙ size_pages c.args.bytes c.in-None.ensures.none) c.grant_pages.ensures.size

pub returns-in-Some-clause-holds : goal.returns-in-Some-clause-holds
returns-in-Some-clause-holds g c = size_holds c.grant_object.result c.args.bytes (returns-in-Some-clause-size g c)

pub returns-in-None-clause-holds : goal.returns-in-None-clause-holds
returns-in-None-clause-holds g c = size_holds c.grant_pages.result c.args.bytes (returns-in-None-clause-size g c)
