use Rattle.std.proofs.Common.{◌≡◌, arith, subst, sym}
use Rattle.std.specs.Io.KnownBytes.{Consumes}
use Rattle.tile_source.proofs.Reasons.{too-long}
use Rattle.tile_source.proofs.header.read_header.Goals as goal

pub returns-in-None-clause-why : goal.returns-in-None-clause-why
returns-in-None-clause-why g c =
    let left = g.S.Source.left in
    let text = c.as_slice-2.result.now in
    let is : text ≡ c.reads.text.items = c.as_slice-2.ensures.value in
    too-long (left c.args.source.now) (left c.reads.source) text (subst (Consumes (left c.args.source.now) (left c.reads.source)) (sym is) c.reads.invariant.read) (omega (arith, c.reads-test.false, c.len.ensures, c.as_slice-2.ensures.len))
    (c.early_end-2.ensures.late c.in-None.is)
