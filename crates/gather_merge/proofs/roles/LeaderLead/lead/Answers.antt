use Rattle.std.proofs.Common.{rules, map, subst, sym}
use Rattle.agg_table.proofs.Seats.{stays_itself}
use Rattle.par_model.specs.Columns.{HasColumns}
use Rattle.par_model.specs.Plan.{Plan}
use Rattle.partial_agg.specs.Rows.{header_width}
use Rattle.scan_claim.specs.Shown.{blocks_of, draws_of}
use Rattle.parallel_ctx.specs.Accounts.{heard}
use Rattle.gather_merge.specs.Leading.{Led}
use Rattle.gather_merge.specs.Order.{columns_at}
use Rattle.gather_merge.specs.RowWords.{AreWords}
use Rattle.gather_merge.proofs.Led.{opens, unheard}
use Rattle.gather_merge.proofs.roles.LeaderLead.lead.Goals as goal

pub lead_all-self-requires-clause-job : goal.lead_all-self-requires-clause-job
lead_all-self-requires-clause-job g c = record {
  blocks = c.requires.2.1;
  columns = subst (λ (p : Plan). HasColumns p (header_width c.args.self.now.rows.now)) (sym (c.plan_in-plan.ensures.plan c.requires.0 c.requires.1.seats.plan_is)) c.requires.2.0;
}

pub lead_all-self-requires-clause-open : goal.lead_all-self-requires-clause-open
lead_all-self-requires-clause-open g c = opens c.args.shared.now c.args.queues.now c.requires.1.unheard

pub lead_all-self-requires-clause-unheard : goal.lead_all-self-requires-clause-unheard
lead_all-self-requires-clause-unheard g c = unheard c.args.shared.now c.args.queues.now c.requires.1.unheard

pub lead_all-self-requires-clause-words : goal.lead_all-self-requires-clause-words
lead_all-self-requires-clause-words g c =
    subst (λ (p : Plan). AreWords (columns_at p c.args.self.now.rows.now) c.args.self.now.words.now) (sym (c.plan_in-plan.ensures.plan c.requires.0 c.requires.1.seats.plan_is)) c.requires.2.2

pub returns-clause-led : goal.returns-clause-led
returns-clause-led g c plan has =
    subst (λ (p : Plan). Led p c.args.self.now.rows.now (blocks_of c.args.shared.now.claims) (draws_of c.lead_all-self.new.claim) (map heard c.lead_all-self.new.queues) c.lead_all-self.new.order.items c.lead_all-self.result)
    (c.plan_in-plan.ensures.plan plan has) c.lead_all-self.ensures.led

pub returns-clause-seats : goal.returns-clause-seats
returns-clause-seats g c = record {
  number = search rules;
  toc = search rules;
  claim = search rules;
  same = search rules;
  hash = stays_itself c.args.shared.now.region c.args.seats.now.number c.args.shared.now.hash c.args.seats.now.hash c.requires.1.seats.hash;
}
