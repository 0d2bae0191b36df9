use Rattle.std.proofs.Common.{subst, List, ℕ, take}
use Rattle.std.specs.Io.KnownBytes.{Appends}
use Rattle.gen_query.proofs.Summed.{all_accepted, groups_of, summary_is}
use Rattle.gen_query.proofs.summarize.Goals as goal

pub gather_rows-requires-clause-accepted : goal.gather_rows-requires-clause-accepted
gather_rows-requires-clause-accepted g c κs within = all_accepted c.args.asked.now.seed c.args.asked.now.rows c.requires c.in_ok-rows.rows c.in_ok-rows.ensures

pub summary_of-requires-clause-few : goal.summary_of-requires-clause-few
summary_of-requires-clause-few g c =
    (groups_of c.args.asked.now.seed c.args.asked.now.rows c.requires c.in_ok-rows.rows c.in_ok-rows.ensures c.in_ok-gathered.gathered.groups c.in_ok-gathered.ensures.groups).few

pub summary_of-requires-clause-small : goal.summary_of-requires-clause-small
summary_of-requires-clause-small g c =
    (groups_of c.args.asked.now.seed c.args.asked.now.rows c.requires c.in_ok-rows.rows c.in_ok-rows.ensures c.in_ok-gathered.gathered.groups c.in_ok-gathered.ensures.groups).small

pub returns-in-Ok-clause-summary : goal.returns-in-Ok-clause-summary
returns-in-Ok-clause-summary g c =
    let text = c.in_ok-text.text.items in (
      text,
      summary_is c.args.asked.now.seed c.args.asked.now.rows c.requires c.in_ok-rows.rows c.in_ok-rows.ensures c.in_ok-gathered.gathered.groups text c.in_ok-gathered.ensures.groups c.in_ok-text.ensures,
      subst (λ (bytes : List ℕ). Appends (g.O.Sink.taken c.args.out.now) (g.O.Sink.taken c.write_whole.new.sink) bytes) c.as_slice.ensures.value c.in-Ok.ensures.whole,
    )

pub returns-clause-part : goal.returns-clause-part
returns-clause-part g c e =
    let text = c.in_ok-text.text.items in
    let prefix = c.in-Err.ensures.prefix in (
      text,
      summary_is c.args.asked.now.seed c.args.asked.now.rows c.requires c.in_ok-rows.rows c.in_ok-rows.ensures c.in_ok-gathered.gathered.groups text c.in_ok-gathered.ensures.groups c.in_ok-text.ensures,
      prefix.0,
      subst (λ (bytes : List ℕ). Appends (g.O.Sink.taken c.args.out.now) (g.O.Sink.taken c.write_whole.new.sink) (take prefix.0 bytes)) c.as_slice.ensures.value prefix.1,
    )
