use Rattle.std.proofs.Common.{ℕ, List, Option}
use Rattle.std.proofs.lemmas.Result.{IfErr-weaker}
use Rattle.plan_spec.specs.Query.{Query}
use Rattle.stream_groups.specs.Ways.{of_text}
use Rattle.good_groups.specs.Good.{NamesIfNone}
use Rattle.good_groups.proofs.Sieves.{of_sieve}
use Rattle.good_groups.proofs.reading.read_rows.Goals as goal

pub returns-clause-many : goal.returns-clause-many
returns-clause-many g c =
    let s = c.sieve.inside in
    IfErr-weaker c.answer_of.result _ _ (λ why names.
    of_sieve g.I.Origin.start s.source.ghost_name (g.S.Source.left s.source.now) s.rules s.sifting (λ (q : Query) (most : ℕ) (from : Option (List ℕ)). NamesIfNone (of_text q.reading) q most from why) c.sieve.invariant names) c.answer_of.ensures.many
