use Rattle.std.proofs.Common.{Err, ◌∙◌, ap}
use Rattle.gen_query.proofs.Texts.{are_generated, not_many, not_none}
use Rattle.gen_query.proofs.gathering.read_generated.Goals as goal

pub returns-in-Ok : goal.returns-in-Ok
returns-in-Ok g c = c.in-Ok.ensures.records ∙ are_generated c.as_slice.result.now c.in_ok-text.text.items c.args.seed c.args.rows c.as_slice.ensures.value c.in_ok-text.ensures

pub no_memory-requires : goal.no_memory-requires
no_memory-requires g c = record {
  header = λ e. not_none c.as_slice.result.now c.in_ok-text.text.items c.args.seed c.args.rows c.as_slice.ensures.value c.in_ok-text.ensures (c.rows_in_threads.ensures.no_header (c.in-Err.is ∙ ap Err e));
  few = λ e. not_many c.as_slice.result.now c.in_ok-text.text.items c.args.seed c.args.rows c.as_slice.ensures.value c.in_ok-text.ensures c.requires (c.rows_in_threads.ensures.too_many (c.in-Err.is ∙ ap Err e));
}
