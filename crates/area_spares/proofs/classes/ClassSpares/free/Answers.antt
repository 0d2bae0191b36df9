use Rattle.std.proofs.Common.{refl}
use Rattle.std.specs.Vec.{with_item}
use Rattle.area_spares.proofs.Each.{changed}
use Rattle.area_spares.proofs.Outcomes.{goes_in, goes_in_beside}
use Rattle.area_spares.proofs.classes.ClassSpares.free.Goals as goal

pub returns-in-Some-clause-kept : goal.returns-in-Some-clause-kept
returns-in-Some-clause-kept g c =
    let s = c.args.self.now in
    let class = c.in-Some.class in
    let x = c.index_mut.result.now in
    let y = c.free.new.self in
    let v = with_item s.classes c.from.result y in
    let is = c.in-Some.ensures.some in
    let k = changed c.args.r.now s v class c.from.result x y c.requires.spares is.0 c.from.ensures c.index_mut.ensures.value refl c.free.ensures.spares c.free.ensures.same.0 in
    goes_in c.args.area.now c.args.pass.now c.free.new.pass c.args.r.now s class x y (record { classes = v }) k c.args.chunk c.free.result is.0 is.1 c.free.ensures.kept

pub returns-in-Some-clause-stranger : goal.returns-in-Some-clause-stranger
returns-in-Some-clause-stranger g c =
    let s = c.args.self.now in
    let class = c.in-Some.class in
    let x = c.index_mut.result.now in
    let y = c.free.new.self in
    let v = with_item s.classes c.from.result y in
    let is = c.in-Some.ensures.some in
    let k = changed c.args.r.now s v class c.from.result x y c.requires.spares is.0 c.from.ensures c.index_mut.ensures.value refl c.free.ensures.spares c.free.ensures.same.0 in
    goes_in_beside c.args.area.now c.args.pass.now c.free.new.pass c.args.r.now s class x y (record { classes = v }) k c.args.chunk c.free.result is.0 is.1 c.free.ensures.stranger
