use Rattle.std.proofs.Common.{◌≡◌, false}
use Rattle.std.proofs.lemmas.List.Elements.{All-push}
use Rattle.hash_join.specs.declared.filling.Filler.{Filler}
use Rattle.hash_join.proofs.Rounds.{come_home}
use Rattle.hash_join.proofs.gathering.bring_home.Goals as goal

pub loop-filler-preserved : goal.loop-filler-preserved
loop-filler-preserved c =
    let was = c.loop-filler.invariant in
    let fs = c.loop-filler.yielded in
    let f = c.in-Some.filler in (
      come_home (λ (g : Filler). g.area) fs f _ _ was.0 c.in_ok-push.ensures.items,
      come_home (λ (g : Filler). g.table) fs f _ _ was.1 c.in_ok-push-2.ensures.items,
      come_home (λ (g : Filler). g.claim) fs f _ _ was.2 c.in_ok-push-3.ensures.items,
      come_home (λ (g : Filler). g.links) fs f _ _ was.3 c.in_ok-push-4.ensures.items,
      come_home (λ (g : Filler). g.spilled) fs f _ _ was.4 c.in_ok-push-5.ensures.items,
      All-push (λ (g : Filler). g.lacks_memory ≡ false) fs f was.5 c.if-lacks_memory.false,
    )
