use Rattle.std.proofs.Common.{ℕ, sym, subst}
use Rattle.dsa_area.specs.Requests.{IsGranted}
use Rattle.page_cache.proofs.calls.chunk_of.Goals as goal

pub returns-in-Ok-clause-granted : goal.returns-in-Ok-clause-granted
returns-in-Ok-clause-granted g c = subst (λ (at : ℕ). IsGranted c.args.cache.now.area c.args.apass.now c.alloc.new.pass 8192 at) (sym c.store_page.ensures.place.0) c.in-Ok.ensures.granted
