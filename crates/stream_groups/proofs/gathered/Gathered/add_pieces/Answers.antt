use Rattle.std.proofs.Common.{◌≡◌, IfOk, ap, arith, sym, subst}
use Rattle.stream_groups.specs.Gathering.{TakesBatch, participants_of}
use Rattle.stream_groups.specs.declared.gathered.Gathered.{Gathered}
use Rattle.stream_groups.proofs.gathered.Gathered.add_pieces.Goals as goal

pub add_near-requires-clause-some : goal.add_near-requires-clause-some
add_near-requires-clause-some g c κs within = omega (arith, ap participants_of c.in-Near.is, c.requires.some)

pub add_near-requires-clause-few : goal.add_near-requires-clause-few
add_near-requires-clause-few g c κs within = omega (arith, ap participants_of c.in-Near.is, c.requires.few)

pub add_parted-requires-clause-some : goal.add_parted-requires-clause-some
add_parted-requires-clause-some g c κs within = omega (arith, ap participants_of c.in-Parted.is, c.requires.some)

pub add_parted-requires-clause-few : goal.add_parted-requires-clause-few
add_parted-requires-clause-few g c κs within = omega (arith, ap participants_of c.in-Parted.is, c.requires.few)

pub returns-in-Near-clause-rows : goal.returns-in-Near-clause-rows
returns-in-Near-clause-rows g c = subst (λ (old : Gathered). IfOk c.add_near.result (λ r. TakesBatch c.args.bound.now c.args.pieces.now old r.0)) (sym c.in-Near.is) c.add_near.ensures.rows

pub returns-in-Near-clause-many : goal.returns-in-Near-clause-many
returns-in-Near-clause-many g c = subst (λ (old : Gathered). IfOk c.add_near.result (λ r. participants_of r.0 ≡ participants_of old)) (sym c.in-Near.is) c.add_near.ensures.many

pub returns-in-Parted-clause-rows : goal.returns-in-Parted-clause-rows
returns-in-Parted-clause-rows g c = subst (λ (old : Gathered). IfOk c.add_parted.result (λ r. TakesBatch c.args.bound.now c.args.pieces.now old r.0)) (sym c.in-Parted.is) c.add_parted.ensures.rows

pub returns-in-Parted-clause-many : goal.returns-in-Parted-clause-many
returns-in-Parted-clause-many g c = subst (λ (old : Gathered). IfOk c.add_parted.result (λ r. participants_of r.0 ≡ participants_of old)) (sym c.in-Parted.is) c.add_parted.ensures.many
