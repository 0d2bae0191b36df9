-- Turns at a locked partition, as turns of its history.
use Rattle.std.proofs.Common.{◌≡◌, ℕ, Bool, List, Option, Result, Ok, Err, Vec, Global, sym, ap, subst, ◌∙◌}
use Rattle.std.specs.Cmp.Lexicographic.{nat_list_cmp_total}
use Rattle.std.specs.FinMap as fin
use Rattle.std.specs.declared.snapshot.Snapshot.{Snapshot}
use Rattle.std.specs.declared.alloc.AllocError.{AllocError}
use Rattle.dshash_core.specs.Key.{hash_of}
use Rattle.dshash_core.specs.Cells.{IsRoomy, KeyMap, PartitionView, partition_of}
use Rattle.dshash_core.specs.Outcome.{ListsAll}
use Rattle.dshash_core.specs.declared.entries.Entry.{Entry}
use Rattle.dshash_chunks.specs.declared.held.Held.{Held}
use Rattle.dshash_chunks.specs.declared.held.ChunkCalls.{ChunkCalls}
use Rattle.dshash_chunks.specs.declared.held.ChunkCalls.TheVariants as chunk
use Rattle.dshash_chunks.specs.declared.held.ChunkReplies.{ChunkReplies}
use Rattle.dshash_chunks.specs.declared.name.ChunkName.{ChunkName}
use Rattle.dshash_chunks.specs.declared.name.NameCall.{NameCall}
use Rattle.dshash_chunks.specs.declared.name.Names.{Names}
use Rattle.dshash_chunks.specs.declared.outcome.PutOut.{PutOut}
use Rattle.dshash_chunks.specs.declared.outcome.PutOut.TheVariants.{Done, NeedItem, TooFull}
use Rattle.dshash_chunks.specs.Outcomes.{IsPutOut}
use Rattle.dshash_parts.specs.Asked.{state_of}
use Rattle.dshash_parts.specs.Legal.{PartitionLegal}
use Rattle.dshash_parts.specs.declared.histories.PartitionCalls.TheVariants.{Call, Lists}
use Rattle.chunk_table.specs.Asked.{outcome_of, reply_of}
use Rattle.chunk_table.specs.declared.asks.ChunkAnswer.TheVariants.{Listed}

-- a chunk was put, or what that lacked was told
pub put_legal : {C R : Type 0} (step : Option Held → ChunkCalls C → Option Held × ChunkReplies R) (number : ℕ) (key : List ℕ) (new : Held) (spare : Bool) (out : PutOut) (p q : PartitionView Held) → q ≡ record p { cells = q.cells } → IsPutOut step p.size p.cells key new spare out q.cells → IsRoomy q.size (fin.len q.cells) → partition_of (hash_of key) ≡ number → PartitionLegal step number (state_of p) (Call key (chunk.Put new) spare) (outcome_of out) (state_of q)
put_legal step number key new spare (Done before unused) p q same is roomy ours = record { is = (ap (λ (w : PartitionView Held). w.size) same, is); ours = ours; roomy = roomy }
put_legal step number key new spare (NeedItem c) p q same is roomy ours = record { is = (ap (λ (w : PartitionView Held). w.size) same, is); ours = ours; roomy = roomy }
put_legal step number key new spare (TooFull size c back) p q same is roomy ours = record { is = (ap (λ (w : PartitionView Held). w.size) same, is); ours = ours; roomy = roomy }

-- the entries of a map are all of it
pub entries_all : (m : KeyMap Held) → ListsAll m (fin.entries m)
entries_all m = record {
  all = fin.same_map nat_list_cmp_total (fin.slice_cmp-IsAntisymmetric fin.nat_cmp-IsAntisymmetric) _ _ (λ q. fin.get-from_entries nat_list_cmp_total (fin.entries m) q ∙ sym (fin.get-entries m q));
  once = sym (fin.len-entries m);
}

-- a listing
pub list_legal : {C R : Type 0} (W : Type 0) (step : Option Held → ChunkCalls C → Option Held × ChunkReplies R) (number : ℕ) (r : Result (Vec (Entry Names ChunkName NameCall (Option ChunkName)) Global) AllocError) (then : Snapshot (PartitionView Held)) (p q : PartitionView Held) → q ≡ p → then.value ≡ q → IsRoomy p.size (fin.len p.cells) → PartitionLegal step number (state_of p) Lists (reply_of {W = W} {C = C} {R = R} (Listed r then)) (state_of q)
list_legal W step number (Ok v) then p q same seen roomy = record {
  is = (subst (λ (m : KeyMap Held). ListsAll p.cells (fin.entries m)) (sym (ap (λ (w : PartitionView Held). w.cells) (seen ∙ same))) (entries_all p.cells), ap state_of same);
  ours = tt;
  roomy = subst (λ (w : PartitionView Held). IsRoomy w.size (fin.len w.cells)) (sym same) roomy;
}
list_legal W step number (Err e) then p q same seen roomy = record { is = ap state_of same; ours = tt; roomy = subst (λ (w : PartitionView Held). IsRoomy w.size (fin.len w.cells)) (sym same) roomy }
