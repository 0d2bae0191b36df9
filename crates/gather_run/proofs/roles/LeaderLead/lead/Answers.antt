use Rattle.std.proofs.Common.{rules, List, ℕ, map, sym, subst}
use Rattle.agg_table.specs.Shown.{use_in}
use Rattle.par_model.specs.Columns.{HasColumns}
use Rattle.par_model.specs.Plan.{Plan}
use Rattle.partial_agg.specs.Rows.{header_width}
use Rattle.scan_claim.specs.Shown.{blocks_of, draws_of}
use Rattle.parallel_ctx.specs.Accounts.{heard}
use Rattle.worker_run.proofs.Seated.{seated_at_first}
use Rattle.gather_run.specs.Leading.{IsLeading, Led}
use Rattle.gather_run.specs.Looks.{tuples_of}
use Rattle.gather_run.proofs.Parts.{leading-start}
use Rattle.gather_run.proofs.Seated.{unused_at_first}
use Rattle.gather_run.proofs.Together.{unheard}
use Rattle.gather_run.proofs.roles.LeaderLead.lead.Goals as goal

pub lead_all-self-requires-clause-job : goal.lead_all-self-requires-clause-job
lead_all-self-requires-clause-job g c = record {
  blocks = c.requires.2.1;
  columns = subst (λ (p : Plan). HasColumns p (header_width c.args.self.now.rows.now)) (sym (c.plan_in-plan.ensures.plan c.requires.0 c.requires.1.seats.plan_is)) c.requires.2.0;
}

pub lead_all-self-requires-clause-seat : goal.lead_all-self-requires-clause-seat
lead_all-self-requires-clause-seat g c = seated_at_first c.args.shared.now.region c.args.seats.now.number c.args.shared.now.hash c.args.seats.now.hash c.requires.1.seats.hash

pub lead_all-self-requires-clause-leading : goal.lead_all-self-requires-clause-leading
lead_all-self-requires-clause-leading g c =
    subst (λ (ds : List ℕ). IsLeading c.plan_in-plan.result c.args.self.now.rows.now ds (use_in c.args.seats.now.hash) (map tuples_of c.args.queues.now) c.args.self.now.groups) (sym c.requires.1.seats.drawn)
    (leading-start c.plan_in-plan.result c.args.self.now.rows.now (use_in c.args.seats.now.hash) (map tuples_of c.args.queues.now) c.args.self.now.groups
    (unused_at_first c.args.shared.now.region c.args.seats.now.number c.args.shared.now.hash c.args.seats.now.hash c.requires.1.seats.hash) (unheard c.args.shared.now c.args.queues.now c.requires.1.unheard) c.requires.2.2)

pub returns-clause-led : goal.returns-clause-led
returns-clause-led g c plan has =
    subst (λ (p : Plan). Led p c.args.self.now.rows.now (blocks_of c.args.shared.now.claims) (draws_of c.lead_all-self.new.claim) (use_in c.lead_all-self.new.seat) (map heard c.lead_all-self.new.queues) c.lead_all-self.new.groups c.lead_all-self.result)
    (c.plan_in-plan.ensures.plan plan has) c.lead_all-self.ensures.led

pub returns-clause-seats : goal.returns-clause-seats
returns-clause-seats g c = record {
  number = search rules;
  toc = search rules;
  claim = search rules;
  same = search rules;
  hash = c.lead_all-self.ensures.seat;
}
