-- A plan in a table of contents: how it comes to be there, and that it is the only one.
use Rattle.std.proofs.Common.{◌≡◌, ◌∙◌, ℕ, Some, arith, inl, subst, sym}
use Rattle.par_model.specs.Plan.{Plan}
use Rattle.plan_descriptor.proofs.ReadBack.{one_plan}
use Rattle.plan_descriptor.proofs.Values.{descriptor_in-union, has_chunk, size_few}
use Rattle.plan_descriptor.specs.Descriptor.{IsDescriptor, IsWritable, descriptor_in, plan_words}
use Rattle.plan_descriptor.specs.Planned.{HasPlan, plan_key}
use Rattle.shm_toc.specs.Table.{place_of, table_of, word_of}
use Rattle.word_map.specs.WordMap.{HasJust, WordMap, union}

-- a table that keeps a chunk in which a plan was written, and has its place under the key
module _ (m n : WordMap) (place : ℕ) (just : HasJust n place 32) where
  pub has_plan : (plan : Plan) → place_of (table_of (union m n)).entries plan_key ≡ Some place → descriptor_in n place ≡ plan_words 2 plan → IsWritable plan → HasPlan (union m n) plan
  has_plan plan found words writable = record {
    place = place;
    found = found;
    there = λ k h. has_chunk m n place just k (omega (arith, h, size_few (word_of (union m n) place)));
    written = inl (descriptor_in-union m n place just ∙ words);
    writable = writable;
  }

pub same_plans : (words : WordMap) (p q : Plan) → HasPlan words p → HasPlan words q → p ≡ q
same_plans words p q a b =
    let same : a.place ≡ b.place = cc (a.found, b.found) in
    one_plan (descriptor_in words a.place) p q a.writable b.writable a.written (subst (λ (k : ℕ). IsDescriptor (descriptor_in words k) q) (sym same) b.written)
