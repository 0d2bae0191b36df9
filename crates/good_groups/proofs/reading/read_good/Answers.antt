use Rattle.std.proofs.Common.{◌≡◌, ◌∙◌, ℕ, List, Option, ap, map, subst}
use Rattle.std.specs.Prelude.{option_map}
use Rattle.std.proofs.lemmas.Result.{IfErr-weaker, IfOk-weaker}
use Rattle.csv_rows.specs.Readings.{IsSeparator, exchanged}
use Rattle.csv_rows.specs.declared.cleaning.Reading.{Reading}
use Rattle.par_io.specs.Faults.{Rose}
use Rattle.stream_groups.specs.Reading.{AreGroupsOver}
use Rattle.stream_groups.specs.Sources.{bare_faults, bare_left, exchanged_left}
use Rattle.stream_groups.specs.Stops.{Tells}
use Rattle.stream_groups.specs.Ways.{of_text}
use Rattle.stream_groups.proofs.Exchanged.{tells_of_bytes}
use Rattle.good_groups.specs.Good.{IsLeftOut, NamesIfNone, good_way}
use Rattle.good_groups.proofs.Exchanging.{good_groups_of_bytes, left_out_of_bytes, none_of_bytes}
use Rattle.good_groups.proofs.reading.read_good.Goals as goal

pub returns-clause-groups : goal.returns-clause-groups
returns-clause-groups g c =
    let query = c.args.plan.now in
    let left = bare_left g.S.Source.left c.args.source.now in
    let is : IsSeparator query.reading.separator = subst (λ (r : Reading). IsSeparator r.separator) c.reading.ensures.value c.reading.ensures.separator in
    let seen : exchanged_left g.S.Source.left c.separate.new.self ≡ option_map (map (exchanged query.reading.separator)) left =
    c.separate.ensures.exchanged ∙ ap (λ (r : Reading). option_map (map (exchanged r.separator)) left) c.reading.ensures.value in
    IfOk-weaker c.read_text.result _ _ (λ r over.
    good_groups_of_bytes query is left r.groups (subst (λ (from : Option (List ℕ)). AreGroupsOver (good_way (of_text query.reading) query) query from r.groups) seen over)) c.read_text.ensures.groups

pub returns-clause-left_out : goal.returns-clause-left_out
returns-clause-left_out g c =
    let query = c.args.plan.now in
    let left = bare_left g.S.Source.left c.args.source.now in
    let is : IsSeparator query.reading.separator = subst (λ (r : Reading). IsSeparator r.separator) c.reading.ensures.value c.reading.ensures.separator in
    let seen : exchanged_left g.S.Source.left c.separate.new.self ≡ option_map (map (exchanged query.reading.separator)) left =
    c.separate.ensures.exchanged ∙ ap (λ (r : Reading). option_map (map (exchanged r.separator)) left) c.reading.ensures.value in
    IfOk-weaker c.read_text.result _ _ (λ r out.
    left_out_of_bytes query is c.args.most left r.left_out (subst (λ (from : Option (List ℕ)). IsLeftOut (of_text query.reading) query c.args.most from r.left_out) seen out)) c.read_text.ensures.left_out

pub returns-clause-why : goal.returns-clause-why
returns-clause-why g c =
    let query = c.args.plan.now in
    let left = bare_left g.S.Source.left c.args.source.now in
    let is : IsSeparator query.reading.separator = subst (λ (r : Reading). IsSeparator r.separator) c.reading.ensures.value c.reading.ensures.separator in
    let seen : exchanged_left g.S.Source.left c.separate.new.self ≡ option_map (map (exchanged query.reading.separator)) left =
    c.separate.ensures.exchanged ∙ ap (λ (r : Reading). option_map (map (exchanged r.separator)) left) c.reading.ensures.value in
    IfErr-weaker c.read_text.result _ _ (λ why tells.
    tells_of_bytes query is left why (subst (λ (from : Option (List ℕ)). Tells (of_text query.reading) query from why) seen tells)) c.read_text.ensures.why

pub returns-clause-many : goal.returns-clause-many
returns-clause-many g c =
    let query = c.args.plan.now in
    let left = bare_left g.S.Source.left c.args.source.now in
    let is : IsSeparator query.reading.separator = subst (λ (r : Reading). IsSeparator r.separator) c.reading.ensures.value c.reading.ensures.separator in
    let seen : exchanged_left g.S.Source.left c.separate.new.self ≡ option_map (map (exchanged query.reading.separator)) left =
    c.separate.ensures.exchanged ∙ ap (λ (r : Reading). option_map (map (exchanged r.separator)) left) c.reading.ensures.value in
    IfErr-weaker c.read_text.result _ _ (λ why names.
    none_of_bytes query is c.args.most left why (subst (λ (from : Option (List ℕ)). NamesIfNone (of_text query.reading) query c.args.most from why) seen names)) c.read_text.ensures.many

pub returns-clause-read_fault : goal.returns-clause-read_fault
returns-clause-read_fault g c =
    let new = bare_faults g.S.Source.faults c.read_text.new.source in
    IfErr-weaker c.read_text.result _ _ (λ why fault e. subst (λ (n : ℕ). Rose n new) c.separate.ensures.faults (fault e)) c.read_text.ensures.read_fault
