use Rattle.std.proofs.Common.{sym, subst, ◌∙◌}
use Rattle.atomic_table.specs.Seated.{TableId}
use Rattle.span_pools.specs.PoolView.{IsSuperblock}
use Rattle.span_pools.proofs.Offers.{run_is_superblock}
use Rattle.uses_area.proofs.objects.grow.Goals as goal

pub add-requires-clause-run : goal.add-requires-clause-run
add-requires-clause-run c = subst (λ (t : TableId). IsSuperblock t c.args.pool.now.layout c.in-Ok.run'.at c.in-Ok.run'.pages c.in-Ok.run'.words c.in-Ok.run'.control) (c.requires.here.0 ∙ sym c.requires.here.1)
    (run_is_superblock c.args.pages.now.region c.args.pages.now.first c.args.pages.now.state.pages c.args.pool.now.layout c.in-Ok.run'.at c.in-Ok.run'.pages c.in-Ok.run'.words c.in-Ok.run'.control c.requires.over c.in-Ok.ensures.run)
