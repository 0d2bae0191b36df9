use Rattle.std.proofs.Common.{◌≡◌, ◌++◌, ◌∷◌, ◌∙◌, [], List, ℕ, ap, refl, sym}
use Rattle.parallel_ctx.proofs.Queues.{same-refl, same-trans}
use Rattle.gather_merge.specs.Hearing.{rows_given}
use Rattle.gather_merge.proofs.Asked.{behind, behind-none}
use Rattle.gather_merge.proofs.hearing.hear_rows.Goals as goal

pub loop-init : goal.loop-init
loop-init g c = record {
  can_next = tt;
  finite = tt;
  same = same-refl c.args.queue.now;
  open_is = c.requires.«open»;
  rows = behind-none c.args.list.now.items (rows_given c.args.queue.now) c.requires.unheard;
}

pub loop-preserved : goal.loop-preserved
loop-preserved g c =
    let pushed : c.push.new.self.items ≡ c.loop.list.items ++ c.in-Row.row ∷ [] = rw c.if-is_err.ensures.negation at c.push.ensures.items in
    record {
      can_next = tt;
      finite = tt;
      same = same-trans c.args.queue.now c.loop.queue c.hear.new.queue c.loop.invariant.same c.hear.ensures.same;
      open_is = c.hear.ensures.«open»;
      rows = behind c.args.list.now.items c.loop.list.items c.push.new.self.items (rows_given c.loop.queue) (rows_given c.hear.new.queue) c.in-Row.row c.loop.invariant.rows pushed c.in-Row.ensures.heard.gives;
    }

pub returns-in-Over-clause-same : goal.returns-in-Over-clause-same
returns-in-Over-clause-same g c = same-trans c.args.queue.now c.loop.queue c.hear.new.queue c.loop.invariant.same c.hear.ensures.same

pub returns-in-Over-clause-heard : goal.returns-in-Over-clause-heard
returns-in-Over-clause-heard g c =
    let gives = c.in-Over.ensures.heard.gives in (c.loop.invariant.rows ∙ ap (λ (l : List ℕ). c.args.list.now.items ++ l) (sym gives.0), gives.1)

pub returns-in-Names-clause-same : goal.returns-in-Names-clause-same
returns-in-Names-clause-same g c = same-trans c.args.queue.now c.loop.queue c.hear.new.queue c.loop.invariant.same c.hear.ensures.same

pub returns-in-Names-clause-heard : goal.returns-in-Names-clause-heard
returns-in-Names-clause-heard g c = (c.in-Names.item, c.in-Names.ensures.heard.names c.in-Names.row c.in-Names.cause c.in-Names.item refl)

pub returns-in-Lost-clause-same : goal.returns-in-Lost-clause-same
returns-in-Lost-clause-same g c = same-trans c.args.queue.now c.loop.queue c.hear.new.queue c.loop.invariant.same c.hear.ensures.same

pub returns-then-is_err-clause-same : goal.returns-then-is_err-clause-same
returns-then-is_err-clause-same g c = same-trans c.args.queue.now c.loop.queue c.hear.new.queue c.loop.invariant.same c.hear.ensures.same
