use Rattle.std.proofs.Common.{ℕ, suc, List, [], ◌∷◌, ◌++◌, refl, ap, subst, ◌∙◌, arith}
use Rattle.region_words.specs.declared.chunk.Chunk.{Chunk}
use Rattle.span_pools.specs.Legal.{FreeMany, Stranger}
use Rattle.span_pools.specs.Batch.{gone, places}
use Rattle.dsa_area.specs.Requests.{AreTakenBack, PoolEvents}
use Rattle.area_spares.specs.Spares.{GoBack, kept_of}
use Rattle.area_spares.proofs.Lists.{none_of}
use Rattle.area_spares.proofs.spares.Spares.give_back.Goals as goal

pub loop-self-init : goal.loop-self-init
loop-self-init g c = record { own = c.requires.own; most = (let s = c.requires.spares.some in omega arith); caller = refl; spares = c.requires.spares; same = (refl, refl); back = (0, (refl, refl)) }

pub loop-self-preserved : goal.loop-self-preserved
loop-self-preserved g c =
    let i = c.loop-self.invariant in
    record {
      own = c.flush.ensures.own;
      most = i.most;
      caller = c.flush.ensures.caller ∙ i.caller;
      spares = c.flush.ensures.spares;
      same = (c.flush.ensures.same.0 ∙ i.same.0, c.flush.ensures.same.1 ∙ i.same.1);
      back = (
        suc i.back.0,
        (
          c.loop-self.pass,
          kept_of c.loop-self.self,
          gone (kept_of c.loop-self.self) (kept_of c.flush.new.self),
          i.back.1,
          c.flush.ensures.rest,
          subst (λ (class : ℕ). AreTakenBack c.args.area.now c.loop-self.pass c.flush.new.pass class (places (gone (kept_of c.loop-self.self) (kept_of c.flush.new.self)))) i.same.0 c.in-Ok.ensures.freed,
        ),
      );
    }

pub returns-in-Err-clause-stranger : goal.returns-in-Err-clause-stranger
returns-in-Err-clause-stranger g c =
    let i = c.loop-self.invariant in
    let b = c.in-Err.ensures.back in (
      i.back.0,
      c.loop-self.pass,
      kept_of c.loop-self.self,
      b.0,
      i.back.1,
      c.flush.ensures.rest ∙ ap (λ (z : List Chunk). kept_of c.flush.new.self ++ z) b.1,
      subst (λ (z : ℕ × List Chunk). PoolEvents c.args.area.now c.loop-self.pass c.flush.new.pass z.0 ((FreeMany (places z.1), Stranger) ∷ [])) (λ k. (i.same.0 k, b.1 k)) c.in-Err.ensures.stranger,
    )

pub returns-clause-none : goal.returns-clause-none
returns-clause-none g c = none_of c.loop-self.self.kept.items (omega (arith, c.loop-self-test.false, c.len.ensures, c.loop-self.self.kept.ok.0))

pub returns-clause-all : goal.returns-clause-all
returns-clause-all g c =
    let i = c.loop-self.invariant in
    (i.back.0, subst (λ (cs : List Chunk). GoBack c.args.area.now c.args.self.now.class c.args.pass.now (kept_of c.args.self.now) i.back.0 c.loop-self.pass cs) (none_of c.loop-self.self.kept.items (omega (arith, c.loop-self-test.false, c.len.ensures, c.loop-self.self.kept.ok.0))) i.back.1)
