use Rattle.std.proofs.Common.{◌∙◌, List, length, ap, refl, subst, sym}
use Rattle.lock_book.specs.History.{last_of}
use Rattle.par_barrier.specs.Parties.{nobody}
use Rattle.par_barrier.specs.Shown.{AreAll}
use Rattle.par_barrier.specs.declared.barrier.BarrierPass.{BarrierPass}
use Rattle.shell_sync.proofs.PartyLaws.{items-after}
use Rattle.shell_sync.specs.Barriers.{HasSeen}
use Rattle.shell_sync.proofs.barriers.Party.answer.Goals as goal

pub returns-clause-called : goal.returns-clause-called
returns-clause-called g c = λ _.
    let k = c.call_among.ensures in
    let slice = c.as_mut_slice-passes.ensures in
    let old = c.args.self.now.passes.items in
    let new = c.call_among.new.passes in
    let items = items-after old new c.args.self.now.passes.len (c.call_among.auto.passes ∙ ap length slice.value) (sym slice.len ∙ ap length slice.value) in
    let was = subst (λ (l : List BarrierPass). HasSeen l k.0) slice.value k.3 in
    let all = subst (AreAll c.args.self.now.barrier) (sym items) k.4 in
    let is = subst (λ (l : List BarrierPass). HasSeen l k.1) (sym items) k.5 in
    (last_of nobody k.0, last_of nobody k.1, k.2, record { all = c.requires.party.1.all; seen = (k.0, was, refl) }, record { all = all; seen = (k.1, is, refl) }, k.6, k.7)
