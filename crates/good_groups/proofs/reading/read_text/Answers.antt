use Rattle.std.proofs.Common.{◌≡◌, ◌∙◌, Err, IfErr, Result, ap, refl, rules, subst, sym}
use Rattle.std.proofs.lemmas.Result.{IfOk-weaker}
use Rattle.csv_rows.specs.Readings.{records_as}
use Rattle.csv_rows.specs.Records.{record_at}
use Rattle.plan_spec.specs.Query.{Query}
use Rattle.stream_groups.specs.Reading.{AreGroupsOver, IsBound}
use Rattle.stream_groups.specs.Ways.{of_text}
use Rattle.stream_groups.specs.declared.stop.Stop.{Stop}
use Rattle.good_groups.specs.Good.{NamesIfNone, good_way}
use Rattle.good_groups.specs.Opened.{Opened}
use Rattle.good_groups.specs.declared.reading.GoodGroups.{GoodGroups}
use Rattle.good_groups.proofs.Sieves.{are_rules, good_over}
use Rattle.good_groups.proofs.reading.read_text.Goals as goal

pub returns-in_err-first-clause-many : goal.returns-in_err-first-clause-many
returns-in_err-first-clause-many g c =
    let from = g.S.Source.left c.args.source.now in
    let why = c.in_err-first.field-0.0 in
    let reading = c.args.plan.now.reading in
    let is : c.from_residual.result ≡ Err why = search rules in
    subst (λ (x : Result GoodGroups Stop). IfErr x (NamesIfNone (of_text reading) c.args.plan.now c.args.most from)) (sym is) (c.in_err-first.ensures.many c.args.most)

pub read_rows-read-requires-clause-sieve : goal.read_rows-read-requires-clause-sieve
read_rows-read-requires-clause-sieve g c κs within =
    let f = c.in_ok-first.field-0 in
    let is = c.in_ok-first.ensures in
    let query = c.args.plan.now in
    let header = record_at f.first.header 0 in
    let r = c.rules_of-rules.result in
    let made = c.rules_of-rules.ensures in
    let from = g.S.Source.left c.of-begun.result.value in
    let o : Opened = record { query = r.plan.now; most = r.most; from = from; header = header } in
    let bound = subst (λ (q : Query). IsBound q header r.bound.now) (sym made.plan) (subst (IsBound query header) (sym made.bound) is.bound) in
    let one = ap (λ (q : Query). records_as q.reading r.header.now) made.plan ∙ ap (records_as query.reading) made.header ∙ is.one in
    let are = are_rules o r refl refl made.width bound one in
    (refl, header, are, (is.first o r are made.plan (ap g.S.Source.left c.of-begun.ensures) refl made.header).is)

pub read_rows-read-requires-clause-fresh : goal.read_rows-read-requires-clause-fresh
read_rows-read-requires-clause-fresh g c κs within =
    let f = c.in_ok-first.field-0 in
    let is = c.in_ok-first.ensures in
    let query = c.args.plan.now in
    let header = record_at f.first.header 0 in
    let r = c.rules_of-rules.result in
    let made = c.rules_of-rules.ensures in
    let from = g.S.Source.left c.of-begun.result.value in
    let o : Opened = record { query = r.plan.now; most = r.most; from = from; header = header } in
    let bound = subst (λ (q : Query). IsBound q header r.bound.now) (sym made.plan) (subst (IsBound query header) (sym made.bound) is.bound) in
    let one = ap (λ (q : Query). records_as q.reading r.header.now) made.plan ∙ ap (records_as query.reading) made.header ∙ is.one in
    let are = are_rules o r refl refl made.width bound one in
    (is.first o r are made.plan (ap g.S.Source.left c.of-begun.ensures) refl made.header).fresh

pub returns-clause-groups : goal.returns-clause-groups
returns-clause-groups g c =
    let f = c.in_ok-first.field-0 in
    let is = c.in_ok-first.ensures in
    let query = c.args.plan.now in
    let header = record_at f.first.header 0 in
    let r = c.rules_of-rules.result in
    let made = c.rules_of-rules.ensures in
    let from = g.S.Source.left c.args.source.now in
    let o : Opened = record { query = r.plan.now; most = r.most; from = from; header = header } in
    let bound = subst (λ (q : Query). IsBound q header r.bound.now) (sym made.plan) (subst (IsBound query header) (sym made.bound) is.bound) in
    let one = ap (λ (q : Query). records_as q.reading r.header.now) made.plan ∙ ap (records_as query.reading) made.header ∙ is.one in
    let are = are_rules o r refl refl made.width bound one in
    let left = g.S.Source.left c.read_front.new.source in
    let begun = is.first o r are made.plan refl refl made.header in
    IfOk-weaker c.read_rows-read.result.0 _ _ (λ good over.
    subst (λ (q : Query). AreGroupsOver (good_way (of_text q.reading) q) q from good.groups) made.plan (good_over o left r f.sifting good.groups begun over)) c.read_rows-read.ensures.over
