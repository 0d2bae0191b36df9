use Rattle.std.proofs.Common.{◌∙◌, ℕ, ap, map, refl, subst}
use Rattle.std.specs.Prelude.{option_map}
use Rattle.std.proofs.lemmas.Result.{IfErr-weaker, IfOk-weaker}
use Rattle.csv_rows.specs.Readings.{exchanged}
use Rattle.csv_rows.specs.declared.cleaning.Reading.{Reading}
use Rattle.par_io.specs.Faults.{Rose}
use Rattle.stream_groups.specs.Sources.{bare_faults, bare_left}
use Rattle.tile_source.specs.Left.{source_faults, source_left}
use Rattle.state_partial.specs.Words.{asked_of}
use Rattle.state_partial.proofs.Separates.{comma_left, faults_kept, short_text}
use Rattle.state_partial.proofs.partial.make_asked.Goals as goal

pub returns-clause-file : goal.returns-clause-file
returns-clause-file g c =
    let old = c.args.source.now in
    let left = g.S.Source.left in
    let exchanged = c.separate.ensures.exchanged ∙ ap (λ (r : Reading). option_map (map (exchanged r.separator)) (bare_left left old.source)) c.reading.ensures.value in
    let same = comma_left old (record old { source = c.separate.new.self }) refl left c.in-Ok.plan c.requires.uncut exchanged in
    IfOk-weaker c.make_read.result _ _ (λ file has words is_asked. has words is_asked (source_left (bare_left left) old) same) c.make_read.ensures.file

pub returns-clause-why : goal.returns-clause-why
returns-clause-why g c =
    let old = c.args.source.now in
    let left = g.S.Source.left in
    let exchanged = c.separate.ensures.exchanged ∙ ap (λ (r : Reading). option_map (map (exchanged r.separator)) (bare_left left old.source)) c.reading.ensures.value in
    let same = comma_left old (record old { source = c.separate.new.self }) refl left c.in-Ok.plan c.requires.uncut exchanged in
    IfErr-weaker c.make_read.result _ _ (λ why has words is_asked. has words is_asked (source_left (bare_left left) old) same) c.make_read.ensures.why

pub returns-clause-read_fault : goal.returns-clause-read_fault
returns-clause-read_fault g c =
    let old = c.args.source.now in
    let faults = g.S.Source.faults in
    let kept = faults_kept old (record old { source = c.separate.new.self }) refl faults c.separate.ensures.faults in
    let now = source_faults (bare_faults faults) c.make_read.new.source in
    IfErr-weaker c.make_read.result _ _ (λ why has e. subst (λ (n : ℕ). Rose n now) kept (has e)) c.make_read.ensures.read_fault

pub returns-clause-short : goal.returns-clause-short
returns-clause-short g c =
    let old = c.args.source.now in
    let left = g.S.Source.left in
    let faults = g.S.Source.faults in
    let exchanged = c.separate.ensures.exchanged ∙ ap (λ (r : Reading). option_map (map (exchanged r.separator)) (bare_left left old.source)) c.reading.ensures.value in
    let new = record old { source = c.separate.new.self } in
    let same = comma_left old new refl left c.in-Ok.plan c.requires.uncut exchanged in
    let kept = faults_kept old new refl faults c.separate.ensures.faults in
    IfErr-weaker c.make_read.result _ _ (λ why has words is_asked e.
    short_text words (asked_of c.args.asked.now) c.in-Ok.plan _ (source_left (bare_left left) old) _ _ _ is_asked c.in-Ok.ensures.plan same kept (has e)) c.make_read.ensures.short
