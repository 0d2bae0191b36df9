use Rattle.std.proofs.Common.{rules, subst, sym}
use Rattle.agg_table.specs.Shown.{use_in}
use Rattle.agg_table.proofs.Seats.{stays_itself}
use Rattle.par_model.specs.Columns.{HasColumns}
use Rattle.par_model.specs.Plan.{Plan}
use Rattle.partial_agg.specs.Rows.{header_width}
use Rattle.scan_claim.specs.Shown.{blocks_of}
use Rattle.parallel_ctx.specs.Accounts.{account_in}
use Rattle.scan_claim.specs.Shown.{draws_of}
use Rattle.gather_merge.specs.Ended.{DidWork}
use Rattle.gather_merge.specs.Order.{columns_at}
use Rattle.gather_merge.specs.RowWords.{AreWords}
use Rattle.gather_merge.proofs.roles.TeamWorker.work.Goals as goal

pub work-requires-clause-job : goal.work-requires-clause-job
work-requires-clause-job g c = record {
  blocks = c.requires.2.1;
  columns = subst (λ (p : Plan). HasColumns p (header_width c.args.self.now.rows.now)) (sym (c.plan_in-plan.ensures.plan c.requires.0 c.requires.1.seats.plan_is)) c.requires.2.0;
}

pub work-requires-clause-hands : goal.work-requires-clause-hands
work-requires-clause-hands g c = record {
  hands = record { seat = c.requires.1.seats.claim; errors_here = c.requires.1.errors.here; tuples_here = c.requires.1.tuples.here };
  fresh = c.requires.1.seats.drawn;
  errors_fresh = search rules;
  tuples_fresh = search rules;
}

pub work-requires-clause-words : goal.work-requires-clause-words
work-requires-clause-words g c =
    subst (λ (p : Plan). AreWords (columns_at p c.args.self.now.rows.now) c.args.self.now.words.now) (sym (c.plan_in-plan.ensures.plan c.requires.0 c.requires.1.seats.plan_is)) c.requires.2.2

pub returns-clause-did : goal.returns-clause-did
returns-clause-did g c plan has =
    subst (λ (p : Plan). DidWork p c.args.self.now.rows.now (blocks_of c.args.shared.now.claims) (account_in (draws_of c.work.new.claim) (use_in c.args.seats.now.hash) c.work.new.errors.end c.work.new.tuples.end) c.work.result)
    (c.plan_in-plan.ensures.plan plan has) c.work.ensures.ended

pub returns-clause-seats : goal.returns-clause-seats
returns-clause-seats g c = record {
  number = search rules;
  toc = search rules;
  claim = search rules;
  same = search rules;
  hash = stays_itself c.args.shared.now.region c.args.seats.now.number c.args.shared.now.hash c.args.seats.now.hash c.requires.1.seats.hash;
}
