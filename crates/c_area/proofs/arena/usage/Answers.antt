use Rattle.std.proofs.Common.{refl, ap}
use Rattle.free_pages.specs.PagesView.{PagesView}
use Rattle.c_area.proofs.Pools.{arena_beside}
use Rattle.c_area.proofs.Served.{same_name}
use Rattle.c_area.proofs.arena.usage.Goals as goal

pub returns-clause-arena : goal.returns-clause-arena
returns-clause-arena c =
    let a = c.args.arena.now in
    let p = c.usage.ensures.same in
    arena_beside a (record a { pages = c.usage.new.self }) c.requires.arena
    (same_name a.pages c.usage.new.self (ap (λ (b : PagesView). b.region) p) (ap (λ (b : PagesView). b.first) p) (ap (λ (b : PagesView). b.state.pages) p)) refl

pub returns-clause-name : goal.returns-clause-name
returns-clause-name c =
    let a = c.args.arena.now in
    let p = c.usage.ensures.same in
    same_name a.pages c.usage.new.self (ap (λ (b : PagesView). b.region) p) (ap (λ (b : PagesView). b.first) p) (ap (λ (b : PagesView). b.state.pages) p)

pub returns-clause-shown : goal.returns-clause-shown
returns-clause-shown c = record { made = c.usage.ensures.shown; pools = refl }
