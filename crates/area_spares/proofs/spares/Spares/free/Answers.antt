use Rattle.std.proofs.Common.{sym, ap, ◌∙◌, arith}
use Rattle.size_classes.specs.Classes.{class_size}
use Rattle.area_spares.proofs.Lists.{spares_more}
use Rattle.area_spares.proofs.spares.Spares.free.Goals as goal

pub returns-then-len-self-clause-spares : goal.returns-then-len-self-clause-spares
returns-then-len-self-clause-spares g c = spares_more c.args.r.now c.args.self.now c.push_reserved.new.self c.args.chunk c.requires.spares c.push_reserved.ensures.capacity c.push_reserved.ensures.items (omega (arith, c.if-len-self.true, c.len.ensures, c.args.self.now.kept.ok.0)) c.requires.size c.requires.here

pub returns-clause-spares : goal.returns-clause-spares
returns-clause-spares g c =
    let f = c.flush-done.ensures in
    spares_more c.args.r.now c.flush-done.new.self c.push_reserved-2.new.self c.args.chunk f.spares c.push_reserved-2.ensures.capacity c.push_reserved-2.ensures.items (omega (arith, f.fewer, c.requires.spares.few, f.same.1)) (c.requires.size ∙ ap class_size (sym f.same.0)) c.requires.here
