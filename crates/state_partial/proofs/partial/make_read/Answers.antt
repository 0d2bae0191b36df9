use Rattle.std.proofs.lemmas.Result.{IfOk-weaker}
use Rattle.tile_source.specs.Left.{source_left}
use Rattle.state_partial.specs.Parts.{IsPartText}
use Rattle.state_partial.specs.TooLong.{IsLongPart}
use Rattle.state_partial.specs.Words.{asked_of}
use Rattle.state_partial.proofs.Found.{are_left, longer, part_made}
use Rattle.state_partial.proofs.Statuses.{begin_why, err_both, file_why, grown_why, stopped_why}
use Rattle.state_partial.proofs.partial.make_read.Goals as goal

pub returns-in-Some-clause-file : goal.returns-in-Some-clause-file
returns-in-Some-clause-file g c =
    let old = source_left g.S.Source.left c.args.source.now in
    let mid = source_left g.S.Source.left c.begin_of.new.source in
    let asked = c.args.asked.now in
    IfOk-weaker c.file_of.result _ _ (λ file made words is_asked.
    part_made (λ bytes. IsPartText words bytes file.items) old mid asked.extent c.in-Ok.begin c.args.plan c.in-Ok-read.part asked.part.source c.in-Some.place c.in-Ok.ensures.begun c.in-Ok-read.ensures.read
    c.in-Some.ensures.place (λ bytes read. made words bytes read is_asked)) c.file_of.ensures.file

pub returns-in-Some-clause-why : goal.returns-in-Some-clause-why
returns-in-Some-clause-why g c =
    let old = source_left g.S.Source.left c.args.source.now in
    let mid = source_left g.S.Source.left c.begin_of.new.source in
    let asked = c.args.asked.now in
    err_both c.file_of.result _ _ _ (λ why is long words is_asked.
    file_why words (asked_of asked) is_asked c.args.plan c.requires.ask old _ why is (λ e.
    part_made (IsLongPart (asked_of asked)) old mid asked.extent c.in-Ok.begin c.args.plan c.in-Ok-read.part asked.part.source c.in-Some.place c.in-Ok.ensures.begun c.in-Ok-read.ensures.read
    c.in-Some.ensures.place (long e))) c.file_of.ensures.why c.file_of.ensures.long

pub returns-in-None-clause-why : goal.returns-in-None-clause-why
returns-in-None-clause-why g c = λ words is_asked.
    let old = source_left g.S.Source.left c.args.source.now in
    let mid = source_left g.S.Source.left c.begin_of.new.source in
    let asked = c.args.asked.now in
    grown_why words (asked_of asked) is_asked c.args.plan c.requires.ask old 0
    (longer old mid asked.extent c.in-Ok.begin c.args.plan c.in-Ok-read.part c.in-Ok.ensures.begun c.in-Ok-read.ensures.read (c.place_of.ensures.none c.in-None.is))

pub returns-in-Err-clause-why : goal.returns-in-Err-clause-why
returns-in-Err-clause-why g c = λ words is_asked.
    begin_why words (asked_of c.args.asked.now) is_asked c.args.plan c.requires.ask (source_left g.S.Source.left c.args.source.now) _ c.in-Err.why c.in-Err.ensures.why

pub returns-in-Err-read-clause-why : goal.returns-in-Err-read-clause-why
returns-in-Err-read-clause-why g c = λ words is_asked.
    let old = source_left g.S.Source.left c.args.source.now in
    let mid = source_left g.S.Source.left c.begin_of.new.source in
    let asked = c.args.asked.now in
    stopped_why words (asked_of asked) is_asked c.args.plan c.requires.ask old _ mid c.in-Err-read.why c.stopped.result (are_left asked.extent old mid c.in-Ok.begin c.in-Ok.ensures.begun) c.in-Err-read.ensures.why c.in-Err-read.ensures.no_row
    c.stopped.ensures
