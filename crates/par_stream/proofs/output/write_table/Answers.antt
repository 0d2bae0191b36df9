use Rattle.std.proofs.Common.{◌≡◌, ℕ, List, Option, IfSome, length, subst, take}
use Rattle.std.specs.Global.{Vec}
use Rattle.std.specs.Io.KnownBytes.{Appends}
use Rattle.result_text.specs.Pieces.{joined}
use Rattle.par_stream.specs.Answers.{IsTextOver}
use Rattle.stream_groups.specs.Reading.{AreGroupsOver}
use Rattle.stream_groups.specs.Ways.{Way}
use Rattle.stream_groups.specs.declared.stop.Stop.{Stop}
use Rattle.stream_groups.specs.declared.stop.Stop.TheVariants as stop
use Rattle.par_stream.proofs.Tables.{IfErr-each, part_written, text_written}
use Rattle.par_stream.proofs.output.write_table.Goals as goal

pub text_of-requires-clause-bound : goal.text_of-requires-clause-bound
text_of-requires-clause-bound g c κs within = let over = c.requires.2 in record { header = over.header; is = over.bound.is }

pub text_of-requires-clause-rows : goal.text_of-requires-clause-rows
text_of-requires-clause-rows g c κs within = let over = c.requires.2 in (length over.header, over.rows, over.few, over.groups)

pub returns-in_err-write_each-clause-part : goal.returns-in_err-write_each-clause-part
returns-in_err-write_each-clause-part g c =
    let old = g.O.Sink.taken c.args.out.now in
    let new = g.O.Sink.taken c.write_each.new.out in
    let query = c.args.plan.now in
    let failed = c.in_err-write_each.ensures.prefix in
    let Wrote : List (Vec ℕ) → Type 0 = λ pieces. Appends old new (take failed.0 (joined pieces)) in
    let wrote = subst Wrote c.deref.ensures.value failed.1 in
    IfErr-each c.from_residual-in_err-write_each.result (λ (why : Stop). why ≡ stop.WriteFault → (way : Way) (from : Option (List ℕ)) → AreGroupsOver way query from c.args.read
    → IfSome from (λ bytes. (text : List ℕ) × IsTextOver way query bytes text × (n : ℕ) × Appends old new (take n text)))
    (λ why _ way from over. part_written way query c.args.read (joined c.in_ok-pieces.pieces.items) c.in_ok-pieces.ensures from old new failed.0 over wrote)

pub returns-clause-table : goal.returns-clause-table
returns-clause-table g c =
    let old = g.O.Sink.taken c.args.out.now in
    let new = g.O.Sink.taken c.write_each.new.out in
    let Wrote : List (Vec ℕ) → Type 0 = λ pieces. Appends old new (joined pieces) in
    let wrote = subst Wrote c.deref.ensures.value c.in_ok-write_each.ensures.whole in
    λ way from over. text_written way c.args.plan.now c.args.read (joined c.in_ok-pieces.pieces.items) c.in_ok-pieces.ensures from old new over wrote
