use Rattle.std.proofs.Common.{◌≡◌, ◌∙◌, ℕ, List, Option, ap, map, subst}
use Rattle.std.specs.Prelude.{option_map}
use Rattle.std.proofs.lemmas.Result.{IfErr-weaker, IfOk-weaker}
use Rattle.csv_rows.specs.Readings.{IsSeparator, exchanged}
use Rattle.csv_rows.specs.declared.cleaning.Reading.{Reading}
use Rattle.par_io.specs.Faults.{Rose}
use Rattle.stream_groups.specs.Before.{ReadBefore, most_of_batch}
use Rattle.stream_groups.specs.Reading.{AreGroupsOver}
use Rattle.stream_groups.specs.Sources.{bare_faults, bare_left, exchanged_left}
use Rattle.stream_groups.specs.Stops.{Tells}
use Rattle.stream_groups.specs.Taken.{Takes}
use Rattle.stream_groups.specs.Ways.{of_text}
use Rattle.stream_groups.proofs.Exchanged.{before_of_bytes, groups_of_bytes, tells_of_bytes}
use Rattle.stream_groups.proofs.input.read_input.Goals as goal

pub returns-clause-groups : goal.returns-clause-groups
returns-clause-groups g c =
    let query = c.args.plan.now in
    let left = bare_left g.S.Source.left c.args.source.now in
    let is : IsSeparator query.reading.separator = subst (λ (r : Reading). IsSeparator r.separator) c.reading.ensures.value c.reading.ensures.separator in
    let seen : exchanged_left g.S.Source.left c.separate.new.self ≡ option_map (map (exchanged query.reading.separator)) left =
    c.separate.ensures.exchanged ∙ ap (λ (r : Reading). option_map (map (exchanged r.separator)) left) c.reading.ensures.value in
    IfOk-weaker c.read_groups.result _ _ (λ r over.
    groups_of_bytes query is left r (subst (λ (from : Option (List ℕ)). AreGroupsOver (of_text query.reading) query from r) seen over)) c.read_groups.ensures.groups

pub returns-clause-why : goal.returns-clause-why
returns-clause-why g c =
    let query = c.args.plan.now in
    let left = bare_left g.S.Source.left c.args.source.now in
    let is : IsSeparator query.reading.separator = subst (λ (r : Reading). IsSeparator r.separator) c.reading.ensures.value c.reading.ensures.separator in
    let seen : exchanged_left g.S.Source.left c.separate.new.self ≡ option_map (map (exchanged query.reading.separator)) left =
    c.separate.ensures.exchanged ∙ ap (λ (r : Reading). option_map (map (exchanged r.separator)) left) c.reading.ensures.value in
    IfErr-weaker c.read_groups.result _ _ (λ why tells.
    tells_of_bytes query is left why (subst (λ (from : Option (List ℕ)). Tells (of_text query.reading) query from why) seen tells)) c.read_groups.ensures.why

pub returns-clause-read_fault : goal.returns-clause-read_fault
returns-clause-read_fault g c =
    let new = bare_faults g.S.Source.faults c.read_groups.new.source in
    IfErr-weaker c.read_groups.result _ _ (λ why fault e. subst (λ (n : ℕ). Rose n new) c.separate.ensures.faults (fault e)) c.read_groups.ensures.read_fault

pub returns-clause-read_before : goal.returns-clause-read_before
returns-clause-read_before g c =
    let query = c.args.plan.now in
    let old = bare_left g.S.Source.left c.args.source.now in
    let p = c.read_groups.new.source in
    let new = exchanged_left g.S.Source.left p in
    let most = most_of_batch c.args.size in
    let is : IsSeparator query.reading.separator = subst (λ (r : Reading). IsSeparator r.separator) c.reading.ensures.value c.reading.ensures.separator in
    let seen : exchanged_left g.S.Source.left c.separate.new.self ≡ option_map (map (exchanged query.reading.separator)) old =
    c.separate.ensures.exchanged ∙ ap (λ (r : Reading). option_map (map (exchanged r.separator)) old) c.reading.ensures.value in
    IfErr-weaker c.read_groups.result _ _ (λ why before e.
    before_of_bytes query is old (bare_left g.S.Source.left p) p.separator most (subst (λ (from : Option (List ℕ)). ReadBefore (of_text query.reading) query from new most) seen (before e))) c.read_groups.ensures.read_before

pub returns-clause-taken : goal.returns-clause-taken
returns-clause-taken g c =
    let query = c.args.plan.now in
    let left = bare_left g.S.Source.left c.args.source.now in
    let after = exchanged_left g.S.Source.left c.read_groups.new.source in
    let new = bare_faults g.S.Source.faults c.read_groups.new.source in
    let old = bare_faults g.S.Source.faults c.separate.new.self in
    let seen : exchanged_left g.S.Source.left c.separate.new.self ≡ option_map (map (exchanged query.reading.separator)) left =
    c.separate.ensures.exchanged ∙ ap (λ (r : Reading). option_map (map (exchanged r.separator)) left) c.reading.ensures.value in
    subst (λ (n : ℕ). Takes (option_map (map (exchanged query.reading.separator)) left) after n new c.args.taken.now c.read_groups.new.taken) c.separate.ensures.faults
    (subst (λ (from : Option (List ℕ)). Takes from after old new c.args.taken.now c.read_groups.new.taken) seen c.read_groups.ensures.taken)
