use Rattle.std.proofs.Common.{◌≡◌, ◌+◌, ◌∙◌, ◌∷◌, [], Err, IfErr, IfSome, Result, List, ℕ, Option, Some, ap, arith, rules, subst, sym}
use Rattle.csv_rows.specs.Readings.{records_as}
use Rattle.csv_rows.specs.Records.{record_at}
use Rattle.csv_rows.specs.declared.cleaning.Reading.{Reading}
use Rattle.plan_spec.specs.Query.{Query}
use Rattle.split_run.specs.Pieces.{piece_records, piece_rows}
use Rattle.text_lines.specs.Feeds.{count_feeds}
use Rattle.stream_groups.specs.Begins.{IsLined}
use Rattle.stream_groups.specs.Reading.{Begins, HasPart, Reaches}
use Rattle.stream_groups.specs.Stops.{Tells}
use Rattle.stream_groups.specs.Taken.{Gives}
use Rattle.stream_groups.specs.Ways.{of_text}
use Rattle.stream_groups.specs.declared.stop.Stop.{Stop}
use Rattle.stream_groups.specs.declared.taken.Taken.TheVariants as taken
use Rattle.stream_groups.proofs.Refusals.{begins, missing_tells}
use Rattle.good_groups.specs.Good.{NamesIfNone}
use Rattle.good_groups.specs.declared.reading.Front.{Front}
use Rattle.good_groups.proofs.Begins.{known_of}
use Rattle.good_groups.proofs.Early.{names_none}
use Rattle.good_groups.proofs.Rows.{alone}
use Rattle.good_groups.proofs.reading.read_front.Goals as goal

pub returns-in_err-first-clause-why : goal.returns-in_err-first-clause-why
returns-in_err-first-clause-why g c =
    let from = g.S.Source.left c.args.source.now in
    let why = c.in_err-first.field-0.0 in
    let here : Tells (of_text c.args.plan.now.reading) c.args.plan.now from why =
    subst (λ (r : Reading). Tells (of_text r) c.args.plan.now from why) c.reading.ensures.value (c.in_err-first.ensures.why c.args.plan.now) in
    search rules

pub returns-in_err-bound-clause-why : goal.returns-in_err-bound-clause-why
returns-in_err-bound-clause-why g c =
    let from = g.S.Source.left c.args.source.now in
    let why = c.in_err-bound.field-0.0 in
    let f = c.in_ok-first.first in
    let is = c.in_ok-first.ensures in
    let header = record_at f.header 0 in
    let rows = piece_rows f.window in
    let reading = c.args.plan.now.reading in
    let reaches : Reaches reading from (g.S.Source.left c.first_window.new.source) (piece_records f.window) (f.feeds + count_feeds f.window.lines) f.window.rest f.is_last =
    subst (λ (r : Reading). Reaches r from (g.S.Source.left c.first_window.new.source) (piece_records f.window) (f.feeds + count_feeds f.window.lines) f.window.rest f.is_last) c.reading.ensures.value is.reaches in
    let begun : Begins reading from (header ∷ rows) = subst (Begins reading from) is.header.records (begins reading from (g.S.Source.left c.first_window.new.source) (piece_records f.window) (f.feeds + count_feeds f.window.lines) f.window.rest f.is_last reaches) in
    let here : Tells (of_text reading) c.args.plan.now from why = missing_tells reading c.args.plan.now from (header ∷ rows) why begun (omega arith) c.in_err-bound.ensures.why in
    search rules

pub returns-clause-first : goal.returns-clause-first
returns-clause-first g c = λ o r are query from header line.
    let old = g.S.Source.left c.args.source.now in
    let new = g.S.Source.left c.first_window.new.source in
    let f = c.in_ok-first.first in
    let is = c.in_ok-first.ensures in
    let so = c.reading.ensures.value ∙ sym (ap (λ (q : Query). q.reading) query) in
    let gives = subst (Gives old new (g.S.Source.faults c.args.source.now) (g.S.Source.faults c.first_window.new.source) (taken.Bytes 0)) c.in-Bytes.is c.first_window.ensures.taken.gives in
    c.in_ok-sifting.ensures o new r are (record {
      line = line;
      one = sym header;
      header = is.header;
      lined = subst (λ (q : Reading). IsLined q f.window) so is.lined;
      few = is.few;
      reaches =
          subst (λ (x : Option (List ℕ)). Reaches o.query.reading x new (piece_records f.window) (f.feeds + count_feeds f.window.lines) f.window.rest f.is_last) (sym from)
          (subst (λ (q : Reading). Reaches q old new (piece_records f.window) (f.feeds + count_feeds f.window.lines) f.window.rest f.is_last) so is.reaches);
      part = λ some.
          subst (λ (x : Option (List ℕ)). HasPart o.query.reading x new (record_at f.header 0 ∷ []) f.feeds (f.window ∷ []) f.window.rest) (sym from)
          (subst (λ (q : Reading). HasPart q old new (record_at f.header 0 ∷ []) f.feeds (f.window ∷ []) f.window.rest) so (is.part some));
      end = is.end;
      known = subst (λ (x : Option (List ℕ)). IfSome x (λ bytes. (rest : List ℕ) × (new ≡ Some rest))) (sym from) (known_of old new gives.2 gives.3);
    })

pub returns-in_err-first-clause-many : goal.returns-in_err-first-clause-many
returns-in_err-first-clause-many g c =
    let from = g.S.Source.left c.args.source.now in
    let why = c.in_err-first.field-0.0 in
    let reading = c.args.plan.now.reading in
    let is : c.from_residual.result ≡ Err why = search rules in
    subst (λ (x : Result Front Stop). IfErr x (λ s. (most : ℕ) → NamesIfNone (of_text reading) c.args.plan.now most from s)) (sym is)
    (λ most first refused. names_none reading from why (λ query. subst (λ (r : Reading). Tells (of_text r) query from why) c.reading.ensures.value (c.in_err-first.ensures.why query)) _ first refused)

pub returns-clause-one : goal.returns-clause-one
returns-clause-one g c =
    let f = c.in_ok-first.first in
    let is = c.in_ok-first.ensures in
    ap (λ (r : Reading). records_as r f.window.header) (sym (is.reading ∙ c.reading.ensures.value)) ∙ is.header.line ∙ alone f.header is.header.one
