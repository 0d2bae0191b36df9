use Rattle.std.proofs.Common.{◌≡◌, ◌⊎◌}
use Rattle.std.proofs.lemmas.Result.{IfErr-weaker}
use Rattle.plan_spec.specs.Query.{query_of}
use Rattle.answer_text.specs.Words.{texts}
use Rattle.table_query.specs.Asked.{plan_in}
use Rattle.table_query.specs.Stops.{IsExplained}
use Rattle.table_query.specs.declared.stop.Stop.{Stop}
use Rattle.table_query.specs.declared.stop.Stop.TheVariants as stop
use Rattle.group_query.proofs.Tables.{block_explained, block_first}
use Rattle.table_query.proofs.Outcomes.{unwritten_explained}
use Rattle.group_query.proofs.alone.answer_alone.Goals as goal

pub returns-in-Ok-clause-why : goal.returns-in-Ok-clause-why
returns-in-Ok-clause-why g c =
    let asked = query_of (texts c.args.words.now) in
    let left = g.S.Source.left c.args.source.now in
    IfErr-weaker c.write_table.result (λ (why : Stop). (why ≡ stop.WriteFault) ⊎ (why ≡ stop.Memory)) (IsExplained (plan_in asked) left)
    (λ why h. unwritten_explained asked left c.in_ok-ready.ready why c.in_ok-ready.ensures.ready c.in-Ok.ensures.none_refused h) c.write_table.ensures.why

pub returns-clause-why : goal.returns-clause-why
returns-clause-why g c =
    block_explained (query_of (texts c.args.words.now)) (g.S.Source.left c.args.source.now) c.in_ok-ready.ready c.in-Err.answer c.stop_of_block.result c.in_ok-ready.ensures.ready c.in-Err.ensures.first c.stop_of_block.ensures

pub returns-clause-first : goal.returns-clause-first
returns-clause-first g c =
    block_first (query_of (texts c.args.words.now)) (g.S.Source.left c.args.source.now) c.in_ok-ready.ready c.in-Err.answer c.stop_of_block.result c.in_ok-ready.ensures.ready c.in-Err.ensures.first c.stop_of_block.ensures
