use Rattle.std.proofs.Common.{◌≡◌, List, ◌∷◌, IfErr, subst, Vec}
use Rattle.std.specs.Global.{Global}
use Rattle.region_words.specs.declared.chunk.Chunk.{Chunk}
use Rattle.span_pools.specs.Batch.{gone}
use Rattle.dsa_area.specs.Pools.{IsRestOf}
use Rattle.area_spares.proofs.Lists.{spares_less}
use Rattle.area_spares.proofs.spares.Spares.flush.Goals as goal

pub returns-clause-spares : goal.returns-clause-spares
returns-clause-spares g c =
    let rest = subst (λ (v : Vec Chunk Global). IsRestOf c.args.count v c.free_many-rest.result.0) c.replace-kept.ensures.value c.free_many-rest.ensures.rest in
    spares_less c.args.r.now c.args.self.now c.free_many-rest.result.0 (gone c.args.self.now.kept.items c.free_many-rest.result.0.items) c.requires.spares rest.1 rest.0.begins

pub returns-clause-back : goal.returns-clause-back
returns-clause-back g c = subst (λ (v : Vec Chunk Global). IfErr c.free_many-rest.result.1 (λ s. (others : List Chunk) × (gone v.items c.free_many-rest.result.0.items ≡ s.chunk ∷ others))) c.replace-kept.ensures.value c.free_many-rest.ensures.back
