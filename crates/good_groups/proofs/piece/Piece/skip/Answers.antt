use Rattle.std.proofs.Common.{◌≡◌, ◌-◌, ◌∙◌, ap, arith, drop, length, refl, take}
use Rattle.good_groups.proofs.Pieces.{skipped}
use Rattle.good_groups.proofs.piece.Piece.skip.Goals as goal

pub returns : goal.returns
returns c =
    let told : take (c.self.inside.upto - c.self.inside.from) (drop c.self.inside.from c.self.inside.bytes.items) ≡ c.args.self.now = rw (← c.self.view_is) refl in
    skipped c.self.inside.from c.self.inside.upto c.args.count c.self.inside.bytes.items c.self.invariant.0 (omega (arith, c.requires, ap length told)) ∙ ap (drop c.args.count) told
